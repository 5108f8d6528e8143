-- Samples of units: which tokens the first match takes, and which forms are clear.
use Rattle.std.proofs.Common.{◌≡◌, ℕ, true, false, List, [], ◌∷◌, map, refl}
use Rattle.std.specs.Prelude.{codes}
use Rattle.lay_piece.specs.declared.kind.Delim.TheVariants.{Paren, Bracket, Brace}
use Rattle.lay_piece.specs.declared.kind.Kind.{Kind}
use Rattle.lay_piece.specs.declared.kind.Kind.TheVariants.{Ident, Str, Punct, Opener, Closer, Doc}
use Rattle.lay_token.specs.declared.token.Token.{Token}
use Rattle.lay_form.specs.Form.{Blank, Operator, Semicolons, Unseen, ArmComma, Form, Done, Piece, Leaf, Listed, Optional, Docs, Body, keyword, opener, closer, comma}
use Rattle.lay_form.specs.Notation.{comma_list, piece}
use Rattle.lay_map.specs.spelling.Units.{Unit, words}
use Rattle.lay_map.specs.spelling.Choice.{chosen, clear, is_level}

-- a token at a place
abbrev token : Kind → List ℕ → ℕ → Token
token kind text at = record { kind = kind; joint = false; text = text; at = at; len = 1 }

abbrev mark : ℕ → ℕ → Token
mark c at = token Punct (c ∷ []) at

abbrev opening : ℕ → Token
opening at = token (Opener Brace) (codes "{") at

abbrev closing : ℕ → Token
closing at = token (Closer Brace) (codes "}") at

abbrev name : List ℕ → ℕ → Token
name text at = token Ident text at

-- where the tokens of the units stand that the first match takes
abbrev places : Form → List Token → List (List ℕ)
places f ts = map (λ (u : Unit). map (λ (t : Token). t.at) u.tokens) (chosen 0 [] (words f) ts)

-- ---- lists

abbrev a_list : Form
a_list = comma_list true (opener Paren) (closer Paren) (Leaf Ident (codes "a") Done ∷ [])

clear_list : clear a_list [] true ≡ true
clear_list = refl

-- `(a,)`
last_comma : places a_list (token (Opener Paren) (codes "(") 0 ∷ name (codes "a") 1 ∷ mark 44 2 ∷ token (Closer Paren) (codes ")") 3 ∷ [])
    ≡ (0 ∷ []) ∷ (1 ∷ []) ∷ (3 ∷ []) ∷ []
last_comma = refl

-- A comma that may be left out isn't told from one that mayn't.
two_commas : clear (Optional false comma (Piece comma Done)) [] true ≡ false
two_commas = refl

-- ---- bodies

-- `A => { a }`, whose block is in the tree
abbrev an_arm : Form
an_arm =
    Leaf Ident (codes "A") (Piece (Blank ∷ Operator (codes "=>") ∷ Blank ∷ [])
    (Body Unseen (ArmComma true false) (Piece (opener Brace ∷ Semicolons ∷ []) (Leaf Ident (codes "a") (Piece (closer Brace ∷ []) Done))) Done))

clear_arm : clear an_arm [] true ≡ true
clear_arm = refl

level_arm : is_level (words an_arm) ≡ true
level_arm = refl

-- `A => { a }`
bare_arm : places an_arm (name (codes "A") 0 ∷ mark 61 1 ∷ mark 62 2 ∷ opening 3 ∷ name (codes "a") 4 ∷ closing 5 ∷ [])
    ≡ (0 ∷ []) ∷ (1 ∷ []) ∷ (2 ∷ []) ∷ (3 ∷ []) ∷ (4 ∷ []) ∷ (5 ∷ []) ∷ []
bare_arm = refl

-- `A => {; { a } },`
braced_arm : places an_arm (name (codes "A") 0 ∷ mark 61 1 ∷ mark 62 2 ∷ opening 3 ∷ mark 59 4 ∷ opening 5 ∷ name (codes "a") 6
    ∷ closing 7 ∷ closing 8 ∷ mark 44 9 ∷ [])
    ≡ (0 ∷ []) ∷ (1 ∷ []) ∷ (2 ∷ []) ∷ (5 ∷ []) ∷ (6 ∷ []) ∷ (7 ∷ []) ∷ []
braced_arm = refl

-- A body that begins with what may be left out isn't clear, and neither is one directly after an opening brace.
loose_body : clear (Body Unseen (ArmComma true false) (Optional false comma (piece (opener Brace ∷ closer Brace ∷ []))) Done) [] true ≡ false
loose_body = refl

body_in_brace : clear (Piece (opener Brace ∷ []) (Body Unseen (ArmComma true false) (Leaf Ident (codes "a") Done) (Piece (closer Brace ∷ []) Done))) [] true
    ≡ false
body_in_brace = refl

-- ---- token lists

-- `{;{a}}`, where `;` is a word
abbrev listed : Form
listed =
    Piece (opener Brace ∷ [])
    (Listed Punct (codes ";") false (Listed (Opener Brace) (codes "{") false (Listed Ident (codes "a") false
    (Listed (Closer Brace) (codes "}") false (Piece (closer Brace ∷ []) Done)))))

clear_tokens : clear listed [] true ≡ true
clear_tokens = refl

all_tokens : places listed (opening 0 ∷ mark 59 1 ∷ opening 2 ∷ name (codes "a") 3 ∷ closing 4 ∷ closing 5 ∷ [])
    ≡ (0 ∷ []) ∷ (1 ∷ []) ∷ (2 ∷ []) ∷ (3 ∷ []) ∷ (4 ∷ []) ∷ (5 ∷ []) ∷ []
all_tokens = refl

-- ---- documentation

abbrev documented : Form
documented = Docs false (codes " a") (Piece (keyword (codes "struct") ∷ []) Done)

-- `/// a`
doc_line : places documented (token (Doc false false) (codes " a") 0 ∷ name (codes "struct") 1 ∷ []) ≡ (0 ∷ []) ∷ (1 ∷ []) ∷ []
doc_line = refl

-- `#[doc = " a"]`
doc_attribute : places documented
    (mark 35 0 ∷ token (Opener Bracket) (codes "[") 1 ∷ name (codes "doc") 2 ∷ mark 61 3 ∷ token Str (codes "\" a\"") 4
    ∷ token (Closer Bracket) (codes "]") 5 ∷ name (codes "struct") 6 ∷ [])
    ≡ (0 ∷ 1 ∷ 2 ∷ 3 ∷ 4 ∷ 5 ∷ []) ∷ (6 ∷ []) ∷ []
doc_attribute = refl
