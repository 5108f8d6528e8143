-- Which tokens spell a form at a depth: the grammar as relations. Each relation R x ts rest says
-- that ts is the tokens that spell x, and then rest.
use Rattle.std.specs.Prelude.{ℕ, zero, suc, ◌-◌, ◌≤◌, ◌≡◌, Bool, true, false, ◌||◌, List, [], ◌∷◌, ◌++◌, IsTrue, ◌⊎◌, codes, length, drop, Some, encode_utf8_all}
use Rattle.std.specs.Str.{chars}
use Rattle.lay_piece.specs.Characters as char
use Rattle.lay_token.specs.Operators.{is_op}
use Rattle.lay_piece.specs.Value.{value_of}
use Rattle.lay_piece.specs.declared.kind.Delim.TheVariants.{Bracket, Brace}
use Rattle.lay_piece.specs.declared.kind.Kind.{Kind}
use Rattle.lay_piece.specs.declared.kind.Kind.TheVariants.{Punct, Doc}
use Rattle.lay_token.specs.declared.token.Token.{Token}
use Rattle.lay_form.specs.Form.{Bit, Blank, Fixed, Operator, Semicolons, Braces, Bare, Unseen, Marked, Behind, Nothing, ArmComma, Form, Done, Piece, Leaf, Listed, ListedDoc, Brk, LastComma, Group, Part, Deeper, Optional, Docs, Body, punct, keyword, opener, closer, comma}

-- one relation after the other
abbrev pub Then : (List Token → List Token → Type 0) → (List Token → List Token → Type 0) → List Token → List Token → Type 0
Then R S ts rest = (mid : List Token) × R ts mid × S mid rest

-- one token of this kind and text
abbrev pub IsOne : Kind → List ℕ → List Token → List Token → Type 0
IsOne kind text [] rest = ⊥
IsOne kind text (t ∷ ts) rest = (t.kind ≡ kind) × (t.text ≡ text) × (ts ≡ rest)

-- An operator of the table is spelled by its characters, and no longer operator stands there.
abbrev pub IsOperator : List ℕ → List Token → List Token → Type 0
IsOperator op ts rest = IsTrue (is_op op ts) × (drop (length op) ts ≡ rest)

abbrev pub AreSemicolons : ℕ → List Token → List Token → Type 0
AreSemicolons zero ts rest = ts ≡ rest
AreSemicolons (suc n) ts rest = Then (IsOne Punct (codes ";")) (AreSemicolons n) ts rest

abbrev pub AnySemicolons : List Token → List Token → Type 0
AnySemicolons ts rest = (n : ℕ) × AreSemicolons n ts rest

abbrev pub IsBit : Bit → List Token → List Token → Type 0
IsBit Blank ts rest = ts ≡ rest
IsBit (Fixed kind text) ts rest = IsOne kind text ts rest
IsBit (Operator op) ts rest = IsOperator op ts rest
IsBit Semicolons ts rest = AnySemicolons ts rest

abbrev pub AreBits : List Bit → List Token → List Token → Type 0
AreBits [] ts rest = ts ≡ rest
AreBits (b ∷ bs) ts rest = Then (IsBit b) (AreBits bs) ts rest

abbrev pub MayBe : List Bit → List Token → List Token → Type 0
MayBe bits ts rest = (ts ≡ rest) ⊎ AreBits bits ts rest

-- one token of this kind, text and joint mark
abbrev pub IsListed : Kind → List ℕ → Bool → List Token → List Token → Type 0
IsListed kind text joint [] rest = ⊥
IsListed kind text joint (t ∷ ts) rest = (t.kind ≡ kind) × (t.text ≡ text) × (t.joint ≡ joint) × (ts ≡ rest)

-- documentation, spelled as a line comment or a block comment
abbrev pub IsComment : Bool → List ℕ → List Token → List Token → Type 0
IsComment inner text [] rest = ⊥
IsComment inner text (t ∷ ts) rest = (block : Bool) × (t.kind ≡ Doc inner block) × (t.text ≡ text) × (ts ≡ rest)

-- The token is a string without a suffix, and its value is this text.
abbrev pub IsStringOf : List ℕ → Token → Type 0
IsStringOf text t = (value : List ℕ) × (value_of t.kind (chars t.text) ≡ Some value) × (text ≡ encode_utf8_all value)

abbrev pub IsString : List ℕ → List Token → List Token → Type 0
IsString text [] rest = ⊥
IsString text (t ∷ ts) rest = IsStringOf text t × (ts ≡ rest)

-- `#[` or `#![`
abbrev pub attr_opening : Bool → List Bit
attr_opening false = punct char.hash ∷ opener Bracket ∷ []
attr_opening true = punct char.hash ∷ punct char.bang ∷ opener Bracket ∷ []

-- documentation, spelled as an attribute: `#[doc = "text"]`
abbrev pub IsDocAttr : Bool → List ℕ → List Token → List Token → Type 0
IsDocAttr inner text =
    Then (AreBits (attr_opening inner ++ keyword (codes "doc") ∷ Operator (codes "=") ∷ []))
    (Then (IsString text) (AreBits (closer Bracket ∷ [])))

abbrev pub IsDoc : Bool → List ℕ → List Token → List Token → Type 0
IsDoc inner text ts rest = IsComment inner text ts rest ⊎ IsDocAttr inner text ts rest

-- ---- bodies

-- opening braces that aren't in the tree, each with any number of `;` after it, and then the
-- closing ones
abbrev pub Opens : ℕ → List Token → List Token → Type 0
Opens zero ts rest = ts ≡ rest
Opens (suc n) ts rest = Then (AreBits (opener Brace ∷ Semicolons ∷ [])) (Opens n) ts rest

abbrev pub Closes : ℕ → List Token → List Token → Type 0
Closes zero ts rest = ts ≡ rest
Closes (suc n) ts rest = Then (AreBits (closer Brace ∷ [])) (Closes n) ts rest

-- R within this many pairs of braces that aren't in the tree
abbrev pub Braced : ℕ → (List Token → List Token → Type 0) → List Token → List Token → Type 0
Braced n R = Then (Opens n) (Then R (Closes n))

abbrev pub is_braced : ℕ → Bool
is_braced zero = false
is_braced (suc n) = true

-- This many pairs of braces may stand there.
abbrev pub MayBrace : Braces → ℕ → Type 0
MayBrace Bare n = n ≡ 0
MayBrace Unseen n = Unit {0}
MayBrace Marked n = Unit {0}

-- how many levels of the depth a body within this many pairs takes
abbrev pub cost : ℕ → ℕ
cost zero = 1
cost (suc n) = suc n

-- The comma may be left out after the last arm, after braces, and after a body that is block-like.
abbrev pub may_lack : Bool → Bool → ℕ → Bool
may_lack last block_like n = last || (block_like || is_braced n)

-- what follows a body within this many pairs
abbrev pub IsBehind : Behind → ℕ → List Token → List Token → Type 0
IsBehind Nothing n ts rest = ts ≡ rest
IsBehind (ArmComma last block_like) n ts rest = (IsTrue (may_lack last block_like n) × (ts ≡ rest)) ⊎ AreBits comma ts rest

-- ---- forms

abbrev pub Spells : Form → ℕ → List Token → List Token → Type 0
Spells Done depth ts rest = ts ≡ rest
Spells (Piece bits f) depth ts rest = Then (AreBits bits) (Spells f depth) ts rest
Spells (Leaf kind text f) depth ts rest = Then (IsOne kind text) (Spells f depth) ts rest
Spells (Listed kind text joint f) depth ts rest = Then (IsListed kind text joint) (Spells f depth) ts rest
Spells (ListedDoc inner text f) depth ts rest = Then (IsComment inner text) (Spells f depth) ts rest
Spells (Brk space f) depth ts rest = Spells f depth ts rest
Spells (LastComma blanks f) depth ts rest = Then (MayBe comma) (Spells f depth) ts rest
Spells (Group consistent offset i f) depth ts rest = Then (Spells i depth) (Spells f depth) ts rest
Spells (Part i f) depth ts rest = Then (Spells i depth) (Spells f depth) ts rest
Spells (Deeper i f) zero ts rest = ⊥
Spells (Deeper i f) (suc depth) ts rest = Then (Spells i depth) (Spells f (suc depth)) ts rest
Spells (Optional laid bits f) depth ts rest = Then (MayBe bits) (Spells f depth) ts rest
Spells (Docs inner text f) depth ts rest = Then (IsDoc inner text) (Spells f depth) ts rest
Spells (Body braces behind i f) depth ts rest = (n : ℕ) × MayBrace braces n × (cost n ≤ depth)
    × Then (Braced n (Spells i (depth - cost n))) (Then (IsBehind behind n) (Spells f depth)) ts rest

-- A node with this form stands at the start of the tokens. The first n tokens spell it at the
-- depth. `good` says that the node is well formed, and `follows` that the rest may follow it.
abbrev pub Front : Form → Bool → (List Token → Bool) → List Token → ℕ → ℕ → Type 0
Front form good follows ts n depth =
    (n ≤ length ts) × Spells form depth ts (drop n ts) × IsTrue good × IsTrue (follows (drop n ts))
