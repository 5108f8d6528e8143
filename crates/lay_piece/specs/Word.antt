-- The keywords of Rust's edition 2021, and the class of each word (Rust Reference, "Keywords").
use Rattle.std.specs.Prelude.{ℕ, Bool, List, [], ◌∷◌, codes, if◌then◌else◌}
use Rattle.std.specs.List.{list_any}
use Rattle.std.specs.Str.{bytes_eq}
use Rattle.lay_piece.specs.declared.word.Class.{Class}
use Rattle.lay_piece.specs.declared.word.Class.TheVariants.{Plain, PathWord, Strict, Reserved}

-- the keywords that may stand in a path
abbrev pub path_words : List (List ℕ)
path_words = codes "crate"
    ∷ codes "self"
    ∷ codes "super"
    ∷ codes "Self" ∷ []

-- the other strict keywords
abbrev pub strict_words : List (List ℕ)
strict_words = codes "as"
    ∷ codes "async"
    ∷ codes "await"
    ∷ codes "break"
    ∷ codes "const"
    ∷ codes "continue"
    ∷ codes "dyn"
    ∷ codes "else"
    ∷ codes "enum"
    ∷ codes "extern"
    ∷ codes "false"
    ∷ codes "fn"
    ∷ codes "for"
    ∷ codes "if"
    ∷ codes "impl"
    ∷ codes "in"
    ∷ codes "let"
    ∷ codes "loop"
    ∷ codes "match"
    ∷ codes "mod"
    ∷ codes "move"
    ∷ codes "mut"
    ∷ codes "pub"
    ∷ codes "ref"
    ∷ codes "return"
    ∷ codes "static"
    ∷ codes "struct"
    ∷ codes "trait"
    ∷ codes "true"
    ∷ codes "type"
    ∷ codes "unsafe"
    ∷ codes "use"
    ∷ codes "where"
    ∷ codes "while" ∷ []

abbrev pub reserved_words : List (List ℕ)
reserved_words = codes "abstract"
    ∷ codes "become"
    ∷ codes "box"
    ∷ codes "do"
    ∷ codes "final"
    ∷ codes "macro"
    ∷ codes "override"
    ∷ codes "priv"
    ∷ codes "try"
    ∷ codes "typeof"
    ∷ codes "unsized"
    ∷ codes "virtual"
    ∷ codes "yield" ∷ []

abbrev pub is_among : List (List ℕ) → List ℕ → Bool
is_among words word = list_any (λ other. bytes_eq other word) words

-- The word is crate, self, super or Self.
abbrev pub is_path_word : List ℕ → Bool
is_path_word word = is_among path_words word

-- the class of a word
abbrev pub class_of : List ℕ → Class
class_of word =
    if is_path_word word then PathWord
    else (if is_among strict_words word then Strict else (if is_among reserved_words word then Reserved else Plain))
