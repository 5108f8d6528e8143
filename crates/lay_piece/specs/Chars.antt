-- Classes of characters, runs of them, and words. A text is the list of its characters.
use Rattle.std.specs.Prelude.{ℕ, ◌-◌, Bool, true, false, cond, not, ◌&&◌, ◌||◌, ◌==◌, nat_le, List, [], ◌∷◌}
use Rattle.std.specs.List.{list_all}
use Rattle.std.specs.Char.{is_ascii_digit, is_ascii_hexdigit}
use Rattle.unicode_ident.specs.Ident.{is_xid_start, is_xid_continue}
use Rattle.lay_piece.specs.Characters as char

abbrev pub is_between : ℕ → ℕ → ℕ → Bool
is_between low high c = nat_le low c && nat_le c high

-- what may begin a word: XID_Start or an underscore (Rust Reference, "Identifiers")
unfoldable pub starts_word : ℕ → Bool
starts_word c = is_xid_start c || c == char.underscore

-- what may continue a word: XID_Continue, which includes the underscore
unfoldable pub in_word : ℕ → Bool
in_word c = is_xid_continue c

-- white space (Rust Reference, "Whitespace")
abbrev pub is_white : ℕ → Bool
is_white c = is_between 9 13 c || c == char.blank || c == 133 || c == 8206 || c == 8207 || c == 8232 || c == 8233

-- a decimal digit or an underscore
abbrev pub in_digits : ℕ → Bool
in_digits c = is_ascii_digit c || c == char.underscore

-- a hexadecimal digit or an underscore
abbrev pub in_hex : ℕ → Bool
in_hex c = is_ascii_hexdigit c || c == char.underscore

-- the value of a hexadecimal digit
abbrev pub hex_value : ℕ → ℕ
hex_value c = cond (nat_le c 57) (c - 48) (cond (nat_le 97 c) (c - 87) (c - 55))

-- The text has a first character, and it passes.
abbrev pub begins : (ℕ → Bool) → List ℕ → Bool
begins p [] = false
begins p (c ∷ cs) = p c

-- the longest prefix of characters that pass
abbrev pub front : (ℕ → Bool) → List ℕ → List ℕ
front p [] = []
front p (c ∷ cs) = cond (p c) (c ∷ front p cs) []

-- what follows that prefix
abbrev pub after : (ℕ → Bool) → List ℕ → List ℕ
after p [] = []
after p (c ∷ cs) = cond (p c) (after p cs) (c ∷ cs)

-- the character before the text, but nothing where the character is `d` and the text is empty
abbrev pub kept : ℕ → ℕ → List ℕ → List ℕ
kept d c [] = cond (c == d) [] (c ∷ [])
kept d c (e ∷ es) = c ∷ e ∷ es

-- the text without the run of this character at its end
abbrev pub without_end : ℕ → List ℕ → List ℕ
without_end d [] = []
without_end d (c ∷ cs) = kept d c (without_end d cs)

abbrev pub is_nil : List ℕ → Bool
is_nil [] = true
is_nil (c ∷ cs) = false

-- `given` of what follows this prefix, or `other` where the text doesn't begin with it
abbrev pub behind : {A : Type 0} → A → List ℕ → (List ℕ → A) → List ℕ → A
behind other [] given cs = given cs
behind other (p ∷ ps) given [] = other
behind other (p ∷ ps) given (c ∷ cs) = cond (p == c) (behind other ps given cs) other

-- an identifier or a lone underscore
abbrev pub is_word : List ℕ → Bool
is_word [] = false
is_word (c ∷ cs) = starts_word c && list_all in_word cs

abbrev pub is_lone_underscore : List ℕ → Bool
is_lone_underscore [] = false
is_lone_underscore (c ∷ cs) = c == char.underscore && is_nil cs

-- a suffix: an identifier other than a lone underscore (Rust Reference, "Tokens: Suffixes")
abbrev pub is_suffix : List ℕ → Bool
is_suffix cs = is_word cs && not (is_lone_underscore cs)

-- The text begins with a suffix.
abbrev pub begins_suffix : List ℕ → Bool
begins_suffix [] = false
begins_suffix (c ∷ cs) = starts_word c && not (c == char.underscore && not (begins in_word cs))
