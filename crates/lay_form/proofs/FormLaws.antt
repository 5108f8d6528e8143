-- How the spelling of a form depends on the depth and on the tokens after it.
use Rattle.std.proofs.Common.{◌≡◌, inl, inr, ℕ, zero, suc, ◌-◌, ◌≤◌, Bool, List, [], ◌∷◌, ◌++◌, length, take, sym, ap, ◌∙◌, arith, append_assoc, length-append}
use Rattle.std.proofs.lemmas.List.{take-append-drop}
use Rattle.std.specs.Prelude.{codes}
use Rattle.lay_piece.specs.declared.kind.Delim.TheVariants.{Bracket, Brace}
use Rattle.lay_piece.specs.declared.kind.Kind.{Kind}
use Rattle.lay_token.specs.declared.token.Token.{Token}
use Rattle.lay_form.specs.Depth.{least_depth}
use Rattle.lay_form.specs.Form.{Bit, Blank, Fixed, Operator, Semicolons, Behind, Nothing, ArmComma, Form, Done, Piece, Leaf, Listed, ListedDoc, Brk, LastComma, Group, Part, Deeper, Optional, Docs, Body, keyword, opener, closer, comma}
use Rattle.lay_form.specs.Spelled.{IsOne, IsBit, AreSemicolons, AreBits, MayBe, IsListed, IsComment, IsString, IsDoc, Opens, Closes, IsBehind, attr_opening, cost, Spells}

-- ---- the depth

cost_some : (n : ℕ) → 1 ≤ cost n
cost_some zero = omega arith
cost_some (suc n) = omega arith

-- A form is spelled at no depth below its least.
pub least : (f : Form) (depth : ℕ) (ts rest : List Token) → Spells f depth ts rest → least_depth f ≤ depth
least Done depth ts rest s = omega arith
least (Piece bits f) depth ts rest s = least f depth _ rest s.2
least (Leaf kind text f) depth ts rest s = least f depth _ rest s.2
least (Listed kind text joint f) depth ts rest s = least f depth _ rest s.2
least (ListedDoc inner text f) depth ts rest s = least f depth _ rest s.2
least (Brk space f) depth ts rest s = least f depth ts rest s
least (LastComma blanks f) depth ts rest s = least f depth _ rest s.2
least (Group consistent offset i f) depth ts rest s =
    let a = least i depth _ _ s.1 in let b = least f depth _ rest s.2 in omega (arith, a, b)
least (Part i f) depth ts rest s =
    let a = least i depth _ _ s.1 in let b = least f depth _ rest s.2 in omega (arith, a, b)
least (Deeper i f) zero ts rest s = absurd s
least (Deeper i f) (suc depth) ts rest s =
    let a = least i depth _ _ s.1 in let b = least f (suc depth) _ rest s.2 in omega (arith, a, b)
least (Optional laid bits f) depth ts rest s = least f depth _ rest s.2
least (Docs inner text f) depth ts rest s = least f depth _ rest s.2
least (Body braces behind i f) depth ts rest s =
    let a = least i (depth - cost s.0) _ _ s.3.1.2.1 in
    let b = least f depth _ rest s.3.2.2 in
    let c = cost_some s.0 in
    omega (arith, a, b, c, s.2)

-- What is spelled at a depth is spelled at each greater one.
pub deeper : (f : Form) (depth more : ℕ) (ts rest : List Token) → depth ≤ more → Spells f depth ts rest → Spells f more ts rest
deeper Done depth more ts rest h s = s
deeper (Piece bits f) depth more ts rest h s = (s.0, s.1, deeper f depth more _ rest h s.2)
deeper (Leaf kind text f) depth more ts rest h s = (s.0, s.1, deeper f depth more _ rest h s.2)
deeper (Listed kind text joint f) depth more ts rest h s = (s.0, s.1, deeper f depth more _ rest h s.2)
deeper (ListedDoc inner text f) depth more ts rest h s = (s.0, s.1, deeper f depth more _ rest h s.2)
deeper (Brk space f) depth more ts rest h s = deeper f depth more ts rest h s
deeper (LastComma blanks f) depth more ts rest h s = (s.0, s.1, deeper f depth more _ rest h s.2)
deeper (Group consistent offset i f) depth more ts rest h s =
    (s.0, deeper i depth more _ _ h s.1, deeper f depth more _ rest h s.2)
deeper (Part i f) depth more ts rest h s = (s.0, deeper i depth more _ _ h s.1, deeper f depth more _ rest h s.2)
deeper (Deeper i f) zero more ts rest h s = absurd s
deeper (Deeper i f) (suc depth) zero ts rest h s = absurd (omega arith)
deeper (Deeper i f) (suc depth) (suc more) ts rest h s =
    (s.0, deeper i depth more _ _ (omega arith) s.1, deeper f (suc depth) (suc more) _ rest h s.2)
deeper (Optional laid bits f) depth more ts rest h s = (s.0, s.1, deeper f depth more _ rest h s.2)
deeper (Docs inner text f) depth more ts rest h s = (s.0, s.1, deeper f depth more _ rest h s.2)
deeper (Body braces behind i f) depth more ts rest h s =
    let braced = s.3.1 in
    let within = braced.2 in
    let stands = s.3.2 in
    let c : cost s.0 ≤ depth = s.2 in
    let j = deeper i (depth - cost s.0) (more - cost s.0) _ _ (omega (arith, h)) within.1 in
    let g = deeper f depth more _ rest h stands.2 in
    (s.0, s.1, omega (arith, c, h), (s.3.0, (braced.0, braced.1, (within.0, j, within.2)), (stands.0, stands.1, g)))

-- ---- what is left

-- One list of tokens ends another.
pub record IsEnd (rest ts : List Token) : Type 0 where
  pub before : List Token
  pub whole : ts ≡ before ++ rest

same_end : (ts rest : List Token) → ts ≡ rest → IsEnd rest ts
same_end ts rest e = record { before = []; whole = e }

-- what is left after two parts
both_ends : {x y z : List Token} → IsEnd y x → IsEnd z y → IsEnd z x
both_ends {x} {y} {z} a b = record {
  before = a.before ++ b.before;
  whole = a.whole ∙ ap (λ l. a.before ++ l) b.whole ∙ sym (append_assoc a.before b.before z);
}

behind_one : (t : Token) (ts rest : List Token) → ts ≡ rest → IsEnd rest (t ∷ ts)
behind_one t ts rest e = record { before = t ∷ []; whole = ap (λ l. t ∷ l) e }

pub one_end : (kind : Kind) (text : List ℕ) (ts rest : List Token) → IsOne kind text ts rest → IsEnd rest ts
one_end kind text [] rest s = absurd s
one_end kind text (t ∷ ts) rest s = behind_one t ts rest s.2

pub semicolons_end : (n : ℕ) (ts rest : List Token) → AreSemicolons n ts rest → IsEnd rest ts
semicolons_end zero ts rest s = same_end ts rest s
semicolons_end (suc n) ts rest s = both_ends (one_end _ _ _ _ s.1) (semicolons_end n _ rest s.2)

bit_end : (b : Bit) (ts rest : List Token) → IsBit b ts rest → IsEnd rest ts
bit_end Blank ts rest s = same_end ts rest s
bit_end (Fixed kind text) ts rest s = one_end kind text ts rest s
bit_end (Operator op) ts rest s = record {
  before = take (length op) ts;
  whole = sym (take-append-drop (length op) ts) ∙ ap (λ l. take (length op) ts ++ l) s.1;
}
bit_end Semicolons ts rest s = semicolons_end s.0 ts rest s.1

pub bits_end : (bits : List Bit) (ts rest : List Token) → AreBits bits ts rest → IsEnd rest ts
bits_end [] ts rest s = same_end ts rest s
bits_end (b ∷ bits) ts rest s = both_ends (bit_end b _ _ s.1) (bits_end bits _ rest s.2)

pub may_be_end : (bits : List Bit) (ts rest : List Token) → MayBe bits ts rest → IsEnd rest ts
may_be_end bits ts rest (inl e) = same_end ts rest e
may_be_end bits ts rest (inr s) = bits_end bits ts rest s

pub listed_end : (kind : Kind) (text : List ℕ) (joint : Bool) (ts rest : List Token) → IsListed kind text joint ts rest → IsEnd rest ts
listed_end kind text joint [] rest s = absurd s
listed_end kind text joint (t ∷ ts) rest s = behind_one t ts rest s.3

pub comment_end : (inner : Bool) (text : List ℕ) (ts rest : List Token) → IsComment inner text ts rest → IsEnd rest ts
comment_end inner text [] rest s = absurd s
comment_end inner text (t ∷ ts) rest s = behind_one t ts rest s.3

pub string_end : (text : List ℕ) (ts rest : List Token) → IsString text ts rest → IsEnd rest ts
string_end text [] rest s = absurd s
string_end text (t ∷ ts) rest s = behind_one t ts rest s.1

pub doc_opening_end : (inner : Bool) (ts rest : List Token)
    → AreBits (attr_opening inner ++ keyword (codes "doc") ∷ Operator (codes "=") ∷ []) ts rest → IsEnd rest ts
doc_opening_end inner ts rest s = bits_end (attr_opening inner ++ keyword (codes "doc") ∷ Operator (codes "=") ∷ []) ts rest s

pub doc_end : (inner : Bool) (text : List ℕ) (ts rest : List Token) → IsDoc inner text ts rest → IsEnd rest ts
doc_end inner text ts rest (inl s) = comment_end inner text ts rest s
doc_end inner text ts rest (inr s) =
    both_ends (doc_opening_end inner _ _ s.1) (both_ends (string_end text _ _ s.2.1) (bits_end (closer Bracket ∷ []) _ rest s.2.2))

pub opens_end : (n : ℕ) (ts rest : List Token) → Opens n ts rest → IsEnd rest ts
opens_end zero ts rest s = same_end ts rest s
opens_end (suc n) ts rest s = both_ends (bits_end (opener Brace ∷ Semicolons ∷ []) _ _ s.1) (opens_end n _ rest s.2)

pub closes_end : (n : ℕ) (ts rest : List Token) → Closes n ts rest → IsEnd rest ts
closes_end zero ts rest s = same_end ts rest s
closes_end (suc n) ts rest s = both_ends (bits_end (closer Brace ∷ []) _ _ s.1) (closes_end n _ rest s.2)

pub behind_end : (behind : Behind) (n : ℕ) (ts rest : List Token) → IsBehind behind n ts rest → IsEnd rest ts
behind_end Nothing n ts rest s = same_end ts rest s
behind_end (ArmComma last block_like) n ts rest (inl s) = same_end ts rest s.1
behind_end (ArmComma last block_like) n ts rest (inr s) = bits_end comma ts rest s

-- What is left after a form ends the tokens.
pub is_end : (f : Form) (depth : ℕ) (ts rest : List Token) → Spells f depth ts rest → IsEnd rest ts
is_end Done depth ts rest s = same_end ts rest s
is_end (Piece bits f) depth ts rest s = both_ends (bits_end bits _ _ s.1) (is_end f depth _ rest s.2)
is_end (Leaf kind text f) depth ts rest s = both_ends (one_end kind text _ _ s.1) (is_end f depth _ rest s.2)
is_end (Listed kind text joint f) depth ts rest s = both_ends (listed_end kind text joint _ _ s.1) (is_end f depth _ rest s.2)
is_end (ListedDoc inner text f) depth ts rest s = both_ends (comment_end inner text _ _ s.1) (is_end f depth _ rest s.2)
is_end (Brk space f) depth ts rest s = is_end f depth ts rest s
is_end (LastComma blanks f) depth ts rest s = both_ends (may_be_end comma _ _ s.1) (is_end f depth _ rest s.2)
is_end (Group consistent offset i f) depth ts rest s = both_ends (is_end i depth _ _ s.1) (is_end f depth _ rest s.2)
is_end (Part i f) depth ts rest s = both_ends (is_end i depth _ _ s.1) (is_end f depth _ rest s.2)
is_end (Deeper i f) zero ts rest s = absurd s
is_end (Deeper i f) (suc depth) ts rest s = both_ends (is_end i depth _ _ s.1) (is_end f (suc depth) _ rest s.2)
is_end (Optional laid bits f) depth ts rest s = both_ends (may_be_end bits _ _ s.1) (is_end f depth _ rest s.2)
is_end (Docs inner text f) depth ts rest s = both_ends (doc_end inner text _ _ s.1) (is_end f depth _ rest s.2)
is_end (Body braces behind i f) depth ts rest s =
    let braced = s.3.1 in
    let within = braced.2 in
    let stands = s.3.2 in
    both_ends (opens_end s.0 _ _ braced.1)
    (both_ends (is_end i (depth - cost s.0) _ _ within.1)
    (both_ends (closes_end s.0 _ _ within.2)
    (both_ends (behind_end behind s.0 _ _ stands.1) (is_end f depth _ rest stands.2))))

-- No more tokens are left than there were.
pub shorter : (f : Form) (depth : ℕ) (ts rest : List Token) → Spells f depth ts rest → length rest ≤ length ts
shorter f depth ts rest s =
    let e = is_end f depth ts rest s in
    omega (arith, ap length e.whole, length-append e.before rest)
