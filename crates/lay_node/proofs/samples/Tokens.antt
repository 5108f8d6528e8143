-- Samples of token lists, one for each row of the table of neighbours: how they are laid out, and what spells them.
use Rattle.std.proofs.Common.{◌≡◌, ℕ, Bool, true, false, List, [], ◌∷◌, codes, refl, arith}
use Rattle.std.specs.Str.{chars, is_utf8}
use lib.Utf8.{encode}
use Rattle.lay_piece.specs.Chars.{starts_word, in_word}
use Rattle.lay_piece.specs.Docs.{doc_form}
use Rattle.lay_layout.specs.Document.{text_of}
use Rattle.lay_piece.specs.Forms.{had, has_form, may_precede, opening, closing}
use Rattle.lay_piece.specs.Quoted.{doc_step, block_step}
use Rattle.lay_piece.specs.Scan.{run}
use Rattle.lay_piece.specs.declared.kind.Delim.{Delim}
use Rattle.lay_piece.specs.declared.kind.Delim.TheVariants.{Paren, Bracket, Brace}
use Rattle.lay_piece.specs.declared.kind.Kind.{Kind}
use Rattle.lay_piece.specs.declared.kind.Kind.TheVariants.{Ident, Int, Float, Punct, Opener, Closer, Doc}
use Rattle.lay_token.specs.declared.token.Token.{Token}
use Rattle.lay_form.specs.Form.{Bit, Fixed, Space, Form, Done, Piece, Leaf, Listed as ListedToken, ListedDoc, Brk, Group, Part, opener, closer}
use Rattle.lay_form.specs.Layout.{document}
use Rattle.lay_form.specs.Spelled.{AreBits, Spells}
use Rattle.lay_node.specs.tokens.Lexed.{is_token_list}
use Rattle.lay_node.specs.tokens.Lists.{token_list}
use Rattle.lay_node.specs.declared.token.Listed.{Listed}
use Rattle.lay_node.specs.declared.token.Listed.TheVariants as listed
use Rattle.lay_piece.proofs.Ascii.{ascii_starts, ascii_in_word}
use Rattle.lay_node.proofs.samples.Trees.{token}

-- ---- tokens

abbrev pub word : List ℕ → Listed
word text = listed.Token Ident text false

abbrev pub number : List ℕ → Listed
number text = listed.Token Int text false

abbrev pub mark : List ℕ → Listed
mark text = listed.Token Punct text false

abbrev pub joint : List ℕ → Listed
joint text = listed.Token Punct text true

abbrev pub opens : Delim → Listed
opens d = listed.Token (Opener d) (opening d ∷ []) false

abbrev pub closes : Delim → Listed
closes d = listed.Token (Closer d) (closing d ∷ []) false

abbrev pub x_doc : Listed
x_doc = listed.Doc false (codes " x")

abbrev pub a : Listed
a = word (codes "a")

abbrev pub b : Listed
b = word (codes "b")

-- the tokens of a text that the list tells, documentation on a line
abbrev pub told_of : Listed → Token
told_of (listed.Token kind text joint) = token kind text joint
told_of (listed.Doc inner text) = token (Doc inner false) text false

abbrev pub told : List Listed → List Token
told [] = []
told (u ∷ us) = told_of u ∷ told us

-- ---- layouts and spellings

abbrev laid : List Listed → List ℕ
laid us = text_of (document (token_list us))

-- The beginning of the tokens, up to the rest, spells the form at the depth.
pub record Spelt (depth : ℕ) (f : Form) (ts rest : List Token) : Type 0 where
  pub spells : Spells f depth ts rest

-- The tokens of the list spell it.
abbrev IsSpelt : List Listed → Type 0
IsSpelt us = Spelt 0 (token_list us) (told us) []

pub end : {n : ℕ} {ts : List Token} → Spelt n Done ts ts
end = record { spells = refl }

-- one part and then what follows it
pub part : {n : ℕ} {i f : Form} {ts mid rest : List Token} → Spelt n i ts mid → Spelt n f mid rest
    → Spelt n (Part i f) ts rest
part {mid = mid} i s = record { spells = (mid, i.spells, s.spells) }

pub next : {n : ℕ} {k : Kind} {x : List ℕ} {j : Bool} {f : Form} {ts rest : List Token} → Spelt n f ts rest
    → Spelt n (ListedToken k x j (Part f Done)) (token k x j ∷ ts) rest
next {ts = ts} {rest = rest} s = record { spells = (ts, (refl, refl, refl, refl), (rest, s.spells, refl)) }

pub doc : {n : ℕ} {inner : Bool} {x : List ℕ} {f : Form} {ts rest : List Token} → Spelt n f ts rest
    → Spelt n (ListedDoc inner x (Part f Done)) (token (Doc inner false) x false ∷ ts) rest
doc {ts = ts} {rest = rest} s = record { spells = (ts, (false, refl, refl, refl), (rest, s.spells, refl)) }

-- after a break
pub gap : {n : ℕ} {g : Space} {f : Form} {ts rest : List Token} → Spelt n f ts rest → Spelt n (Brk g f) ts rest
gap s = record { spells = s.spells }

-- a fixed token
pub fixed : {n : ℕ} {k : Kind} {x : List ℕ} {j : Bool} {f : Form} {ts rest : List Token} → Spelt n f ts rest
    → Spelt n (Piece (Fixed k x ∷ []) f) (token k x j ∷ ts) rest
fixed {ts = ts} s = record { spells = (ts, (ts, (refl, refl, refl), refl), s.spells) }

pub pieces : {n : ℕ} {bits : List Bit} {f : Form} {ts mid rest : List Token} → AreBits bits ts mid → Spelt n f mid rest
    → Spelt n (Piece bits f) ts rest
pieces {mid = mid} p s = record { spells = (mid, p, s.spells) }

pub leaf : {n : ℕ} {k : Kind} {x : List ℕ} {j : Bool} {f : Form} {ts rest : List Token} → Spelt n f ts rest
    → Spelt n (Leaf k x f) (token k x j ∷ ts) rest
leaf {ts = ts} s = record { spells = (ts, (refl, refl, refl), s.spells) }

-- a group, and what follows it
pub empty_before : {n : ℕ} {d : Delim} {f : Form} {ts rest : List Token} → Spelt n f ts rest
    → Spelt n (Piece (opener d ∷ closer d ∷ []) f) (told_of (opens d) ∷ told_of (closes d) ∷ ts) rest
empty_before {d = d} {ts = ts} s = record {
  spells = (
    ts,
    (told_of (closes d) ∷ ts, (refl, refl, refl), (ts, (refl, refl, refl), refl)),
    s.spells,
  );
}

pub group_before : {n : ℕ} {d : Delim} {g h : Space} {i f : Form} {ts more rest : List Token}
    → Spelt n i ts (told_of (closes d) ∷ more) → Spelt n f more rest
    → Spelt n (Group true 4 (Piece (opener d ∷ []) (Brk g (Group false 0 i (Brk h (Piece (closer d ∷ []) Done))))) f)
    (told_of (opens d) ∷ ts) rest
group_before {d = d} {ts = ts} {more = more} i s = record {
  spells = (
    more,
    (
      ts,
      (ts, (refl, refl, refl), refl),
      (told_of (closes d) ∷ more, i.spells, (more, (more, (refl, refl, refl), refl), refl)),
    ),
    s.spells,
  );
}

-- the same within a list
pub empty : {n : ℕ} {d : Delim} {f : Form} {ts rest : List Token} → Spelt n f ts rest
    → Spelt n (Piece (opener d ∷ closer d ∷ []) (Part f Done)) (told_of (opens d) ∷ told_of (closes d) ∷ ts) rest
empty s = empty_before (part s end)

pub group : {n : ℕ} {d : Delim} {g h : Space} {i f : Form} {ts more rest : List Token}
    → Spelt n i ts (told_of (closes d) ∷ more) → Spelt n f more rest
    → Spelt n (Group true 4 (Piece (opener d ∷ []) (Brk g (Group false 0 i (Brk h (Piece (closer d ∷ []) Done)))))
    (Part f Done)) (told_of (opens d) ∷ ts) rest
group i s = group_before i (part s end)

-- a whole list
pub list : {n : ℕ} {i : Form} {ts rest : List Token} → Spelt n i ts rest → Spelt n (Group false 4 i Done) ts rest
list {rest = rest} s = record { spells = (rest, s.spells, refl) }

list_line : {n : ℕ} {g : Space} {i : Form} {ts rest : List Token} → Spelt n i ts rest
    → Spelt n (Group false 4 i (Brk g Done)) ts rest
list_line {rest = rest} s = record { spells = (rest, s.spells, refl) }

-- ---- the table, row by row

abbrev nothing : List Listed
nothing = []

laid_nothing : laid nothing ≡ []
laid_nothing = refl

spelt_nothing : IsSpelt nothing
spelt_nothing = list end

-- documentation on a line ends it, also before a closer and at the end
abbrev row_1 : List Listed
row_1 = opens Paren ∷ a ∷ x_doc ∷ closes Paren ∷ x_doc ∷ b ∷ x_doc ∷ []

laid_1 : laid row_1 ≡ codes "(\n        a /// x\n    ) /// x\n    b /// x\n"
unfolding doc_form
laid_1 = refl

spelt_1 : IsSpelt row_1
unfolding doc_form
spelt_1 = list_line (group (next (gap (doc end))) (gap (doc (gap (next (gap (doc end)))))))

-- a gap round documentation
abbrev row_2 : List Listed
row_2 = mark (codes ".") ∷ listed.Doc false (codes " x\n") ∷ mark (codes ".") ∷ []

laid_2 : laid row_2 ≡ codes ". /** x\n*/ ."
unfolding doc_form run doc_step block_step
laid_2 = refl

spelt_2 : IsSpelt row_2
unfolding doc_form run doc_step block_step
spelt_2 = list (next (gap (doc (gap (next end)))))

abbrev row_3 : List Listed
row_3 = joint (codes "+") ∷ mark (codes "=") ∷ []

laid_3 : laid row_3 ≡ codes "+="
laid_3 = refl

spelt_3 : IsSpelt row_3
spelt_3 = list (next (next end))

abbrev row_4 : List Listed
row_4 = a ∷ mark (codes ",") ∷ mark (codes ";") ∷ []

laid_4 : laid row_4 ≡ codes "a,;"
laid_4 = refl

spelt_4 : IsSpelt row_4
spelt_4 = list (next (next (next end)))

abbrev row_5 : List Listed
row_5 = mark (codes "+") ∷ mark (codes "=") ∷ []

laid_5 : laid row_5 ≡ codes "+ ="
laid_5 = refl

spelt_5 : IsSpelt row_5
spelt_5 = list (next (gap (next end)))

-- before a point, a number that is no index
abbrev row_6 : List Listed
row_6 = number (codes "1") ∷ mark (codes ".") ∷ a ∷ []

laid_6 : laid row_6 ≡ codes "1 .a"
laid_6 = refl

spelt_6 : IsSpelt row_6
spelt_6 = list (next (gap (next (next end))))

abbrev row_6_float : List Listed
row_6_float = listed.Token Float (codes "1.") false ∷ mark (codes ".") ∷ a ∷ []

laid_6_float : laid row_6_float ≡ codes "1. .a"
laid_6_float = refl

spelt_6_float : IsSpelt row_6_float
spelt_6_float = list (next (gap (next (next end))))

-- before a point, an index
abbrev row_7 : List Listed
row_7 = a ∷ mark (codes ".") ∷ number (codes "0") ∷ mark (codes ".") ∷ b ∷ mark (codes "?") ∷ []

laid_7 : laid row_7 ≡ codes "a.0.b?"
laid_7 = refl

spelt_7 : IsSpelt row_7
spelt_7 = list (next (next (next (next (next (next end))))))

abbrev row_7_colon : List Listed
row_7_colon = a ∷ mark (codes ":") ∷ b ∷ []

laid_7_colon : laid row_7_colon ≡ codes "a: b"
laid_7_colon = refl

spelt_7_colon : IsSpelt row_7_colon
spelt_7_colon = list (next (next (gap (next end))))

abbrev row_8 : List Listed
row_8 = a ∷ mark (codes "!") ∷ opens Brace ∷ closes Brace ∷ []

laid_8 : laid row_8 ≡ codes "a! {}"
laid_8 = refl

spelt_8 : IsSpelt row_8
spelt_8 = list (next (next (gap (empty end))))

-- a keyword and a joint `!` aren't glued
abbrev row_8_not : List Listed
row_8_not = word (codes "if") ∷ mark (codes "!") ∷ a ∷ joint (codes "!") ∷ mark (codes "=") ∷ b ∷ []

laid_8_not : laid row_8_not ≡ codes "if !a != b"
laid_8_not = refl

spelt_8_not : IsSpelt row_8_not
spelt_8_not = list (next (gap (next (next (gap (next (next (gap (next end)))))))))

abbrev row_9 : List Listed
row_9 = a ∷ joint (codes ":") ∷ mark (codes ":") ∷ b ∷ []

laid_9 : laid row_9 ≡ codes "a::b"
laid_9 = refl

spelt_9 : IsSpelt row_9
spelt_9 = list (next (next (next (next end))))

-- What follows `::` is glued where it is a word.
abbrev row_9_group : List Listed
row_9_group = a ∷ joint (codes ":") ∷ mark (codes ":") ∷ opens Brace ∷ b ∷ closes Brace ∷ []

laid_9_group : laid row_9_group ≡ codes "a:: { b }"
laid_9_group = refl

spelt_9_group : IsSpelt row_9_group
spelt_9_group = list (next (next (next (gap (group (next end) end)))))

abbrev row_10 : List Listed
row_10 = mark (codes "$") ∷ opens Paren ∷ a ∷ closes Paren ∷ []

laid_10 : laid row_10 ≡ codes "$(a)"
laid_10 = refl

spelt_10 : IsSpelt row_10
spelt_10 = list (next (group (next end) end))

abbrev row_11 : List Listed
row_11 = mark (codes "#") ∷ opens Bracket ∷ a ∷ closes Bracket ∷ []

laid_11 : laid row_11 ≡ codes "#[a]"
laid_11 = refl

spelt_11 : IsSpelt row_11
spelt_11 = list (next (group (next end) end))

-- a sign before an operand, and an operator between two
abbrev row_12 : List Listed
row_12 = mark (codes "&") ∷ a ∷ mark (codes "&") ∷ b ∷ mark (codes ",") ∷ mark (codes "-") ∷ a ∷ []

laid_12 : laid row_12 ≡ codes "&a & b, -a"
laid_12 = refl

spelt_12 : IsSpelt row_12
spelt_12 = list (next (next (gap (next (gap (next (next (gap (next (next end))))))))))

-- after a joint one, and after a group
abbrev row_12_operator : List Listed
row_12_operator = opens Paren ∷ a ∷ closes Paren ∷ mark (codes "-") ∷ a ∷ joint (codes "&") ∷ mark (codes "&") ∷ b ∷ []

laid_12_operator : laid row_12_operator ≡ codes "(a) - a && b"
laid_12_operator = refl

spelt_12_operator : IsSpelt row_12_operator
spelt_12_operator = list (group (next end) (gap (next (gap (next (gap (next (next (gap (next end))))))))))

-- the turbofish, and a comparison
abbrev row_13 : List Listed
row_13 = a ∷ joint (codes ":") ∷ joint (codes ":") ∷ mark (codes "<") ∷ b ∷ mark (codes ">") ∷ opens Paren ∷ a
    ∷ closes Paren ∷ mark (codes "<") ∷ b ∷ []

laid_13 : laid row_13 ≡ codes "a::<b>(a) < b"
laid_13 = refl

spelt_13 : IsSpelt row_13
spelt_13 = list (next (next (next (next (next (next (group (next end) (gap (next (gap (next end)))))))))))

abbrev row_14 : List Listed
row_14 = a ∷ opens Paren ∷ closes Paren ∷ opens Bracket ∷ b ∷ closes Bracket ∷ []

laid_14 : laid row_14 ≡ codes "a()[b]"
laid_14 = refl

spelt_14 : IsSpelt row_14
spelt_14 = list (next (empty (group (next end) end)))

abbrev row_15 : List Listed
row_15 = a ∷ b ∷ opens Brace ∷ a ∷ closes Brace ∷ b ∷ []

laid_15 : laid row_15 ≡ codes "a b { a } b"
laid_15 = refl

spelt_15 : IsSpelt row_15
spelt_15 = list (next (gap (next (gap (group (next end) (gap (next end)))))))

-- ---- which lists some text lexes to, by the test

a_starts : starts_word 97 ≡ true
a_starts = ascii_starts 97 (omega arith)

b_starts : starts_word 98 ≡ true
b_starts = ascii_starts 98 (omega arith)

no_word : in_word 46 ≡ false
no_word = ascii_in_word 46 (omega arith)

listed_turbofish : is_token_list row_13 ≡ true
unfolding is_utf8 chars encode had has_form may_precede
listed_turbofish = rw (a_starts, b_starts) refl

-- a joint `+` before what is no punctuation
unlisted_plus : is_token_list (joint (codes "+") ∷ a ∷ []) ≡ false
unfolding is_utf8 chars encode had has_form may_precede
unlisted_plus = refl

-- No `,` is joint.
unlisted_comma : is_token_list (joint (codes ",") ∷ mark (codes "+") ∷ []) ≡ false
unfolding is_utf8 chars encode had has_form may_precede
unlisted_comma = refl

unlisted_comment : is_token_list (joint (codes "/") ∷ mark (codes "*") ∷ []) ≡ false
unfolding is_utf8 chars encode had has_form may_precede
unlisted_comment = refl

unlisted_end : is_token_list (joint (codes "+") ∷ []) ≡ false
unfolding is_utf8 chars encode had has_form may_precede
unlisted_end = refl

unlisted_group : is_token_list (opens Paren ∷ a ∷ []) ≡ false
unfolding is_utf8 chars encode had has_form may_precede
unlisted_group = rw a_starts refl

-- A Float may stand after `..`, and after a point none does.
listed_range : is_token_list (joint (codes ".") ∷ mark (codes ".") ∷ listed.Token Float (codes "1.2") false ∷ []) ≡ true
unfolding is_utf8 chars encode had has_form may_precede
listed_range = refl

unlisted_point : is_token_list (mark (codes ".") ∷ listed.Token Float (codes "1.5") false ∷ []) ≡ false
unfolding is_utf8 chars encode had has_form may_precede
unlisted_point = rw no_word refl
