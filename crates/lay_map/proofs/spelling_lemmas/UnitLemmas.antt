-- What the units of a spelling say is told by the form.
use Rattle.std.proofs.Common.{◌≡◌, ℕ, zero, suc, ◌-◌, Bool, List, [], ◌∷◌, ◌++◌, map, refl, sym, ap, ap₂, ◌∙◌, append_assoc}
use Rattle.lay_piece.specs.declared.kind.Kind.{Kind}
use Rattle.lay_piece.specs.declared.kind.Kind.TheVariants.{Punct}
use Rattle.lay_token.specs.declared.token.Token.{Token}
use Rattle.lay_form.specs.Form.{Bit, Blank, Fixed, Operator, Semicolons, Form, Done, Piece, Leaf, Listed, ListedDoc, Brk, LastComma, Group, Part, Deeper, Optional, Docs, Body, comma}
use Rattle.lay_form.specs.Spelled.{IsOne, IsBit, AreBits, IsListed, cost, Spells}
use Rattle.lay_form.proofs.FormLaws.{IsEnd, one_end, bits_end, may_be_end, listed_end, comment_end, doc_end, opens_end, closes_end, behind_end, is_end}
use Rattle.lay_map.specs.spelling.Units.{Word, Told, Comment, Documented, Unit, first_unit, op_units, bit_units, bits_units, units, punct_word, bit_words, bits_words, words, said, AreSingle}
use Rattle.lay_map.proofs.spelling_lemmas.OperatorLemmas.{Reads, op_reads}

said_two : (us vs : List Unit) → said (us ++ vs) ≡ said us ++ said vs
said_two [] vs = refl
said_two (u ∷ us) vs = ap (λ (x : List Word). u.word ∷ x) (said_two us vs)

-- what is left of such tokens
pub behind : (ts rest : List Token) → AreSingle ts → IsEnd rest ts → AreSingle rest
behind ts rest h e = λ before after t q k.
    h (e.before ++ before) after t
    (e.whole ∙ ap (λ (x : List Token). e.before ++ x) q ∙ sym (append_assoc e.before before (t ∷ after))) k

-- ---- pieces

token_said : (t : Token) (kind : Kind) (text : List ℕ) → t.kind ≡ kind → t.text ≡ text → Told t.kind t.text ≡ Told kind text
token_said t kind text k e = ap₂ (λ (x : Kind) (y : List ℕ). Told x y) k e

one_said : (kind : Kind) (text : List ℕ) (ts rest : List Token) → IsOne kind text ts rest → said (first_unit ts) ≡ Told kind text ∷ []
one_said kind text [] rest s = absurd s
one_said kind text (t ∷ ts) rest s = ap (λ (x : Word). x ∷ []) (token_said t kind text s.0 s.1)

listed_said : (kind : Kind) (text : List ℕ) (joint : Bool) (ts rest : List Token) → IsListed kind text joint ts rest
    → said (first_unit ts) ≡ Told kind text ∷ []
listed_said kind text joint [] rest s = absurd s
listed_said kind text joint (t ∷ ts) rest s = ap (λ (x : Word). x ∷ []) (token_said t kind text s.0 s.1)

op_said : (op : List ℕ) (ts : List Token) → Reads op ts → said (op_units op ts) ≡ map punct_word op
op_said [] ts r = refl
op_said (c ∷ cs) [] r = absurd r
op_said (c ∷ cs) (t ∷ ts) r =
    ap₂ (λ (x : Word) (y : List Word). x ∷ y) (token_said t Punct (c ∷ []) r.0 r.1) (op_said cs ts r.2)

bit_said : (b : Bit) (ts rest : List Token) → AreSingle ts → IsBit b ts rest → said (bit_units b ts) ≡ bit_words b
bit_said Blank ts rest single s = refl
bit_said (Fixed kind text) ts rest single s = one_said kind text ts rest s
bit_said (Operator op) ts rest single s = op_said op ts (op_reads op ts single s.0)
bit_said Semicolons ts rest single s = refl

bits_said : (bits : List Bit) (ts rest : List Token) → AreSingle ts → (s : AreBits bits ts rest) → said (bits_units bits ts rest s) ≡ bits_words bits
bits_said [] ts rest single s = refl
bits_said (b ∷ bs) ts rest single s =
    said_two (bit_units b ts) (bits_units bs s.0 rest s.2)
    ∙ ap₂ (λ (x y : List Word). x ++ y) (bit_said b ts s.0 single s.1)
    (bits_said bs s.0 rest (behind ts s.0 single (bits_end (b ∷ []) ts s.0 (s.0, s.1, refl))) s.2)

-- ---- forms

-- what both parts say
both : (us vs : List Unit) (a b : List Word) → said us ≡ a → said vs ≡ b → said (us ++ vs) ≡ a ++ b
both us vs a b h k = said_two us vs ∙ ap₂ (λ (x y : List Word). x ++ y) h k

pub told : (f : Form) (depth : ℕ) (ts rest : List Token) → AreSingle ts → (s : Spells f depth ts rest) → said (units f depth ts rest s) ≡ words f
told Done depth ts rest h s = refl
told (Piece bits f) depth ts rest h s =
    both (bits_units bits ts s.0 s.1) (units f depth s.0 rest s.2) _ _ (bits_said bits ts s.0 h s.1)
    (told f depth s.0 rest (behind ts s.0 h (bits_end bits ts s.0 s.1)) s.2)
told (Leaf kind text f) depth ts rest h s =
    both (first_unit ts) (units f depth s.0 rest s.2) _ _ (one_said kind text ts s.0 s.1)
    (told f depth s.0 rest (behind ts s.0 h (one_end kind text ts s.0 s.1)) s.2)
told (Listed kind text joint f) depth ts rest h s =
    both (first_unit ts) (units f depth s.0 rest s.2) _ _ (listed_said kind text joint ts s.0 s.1)
    (told f depth s.0 rest (behind ts s.0 h (listed_end kind text joint ts s.0 s.1)) s.2)
told (ListedDoc inner text f) depth ts rest h s =
    ap (λ (x : List Word). Comment inner text ∷ x) (told f depth s.0 rest (behind ts s.0 h (comment_end inner text ts s.0 s.1)) s.2)
told (Brk space f) depth ts rest h s = told f depth ts rest h s
told (LastComma blanks f) depth ts rest h s = told f depth s.0 rest (behind ts s.0 h (may_be_end comma ts s.0 s.1)) s.2
told (Group consistent offset i f) depth ts rest h s =
    both (units i depth ts s.0 s.1) (units f depth s.0 rest s.2) _ _ (told i depth ts s.0 h s.1)
    (told f depth s.0 rest (behind ts s.0 h (is_end i depth ts s.0 s.1)) s.2)
told (Part i f) depth ts rest h s =
    both (units i depth ts s.0 s.1) (units f depth s.0 rest s.2) _ _ (told i depth ts s.0 h s.1)
    (told f depth s.0 rest (behind ts s.0 h (is_end i depth ts s.0 s.1)) s.2)
told (Deeper i f) zero ts rest h s = absurd s
told (Deeper i f) (suc depth) ts rest h s =
    both (units i depth ts s.0 s.1) (units f (suc depth) s.0 rest s.2) _ _ (told i depth ts s.0 h s.1)
    (told f (suc depth) s.0 rest (behind ts s.0 h (is_end i depth ts s.0 s.1)) s.2)
told (Optional laid bits f) depth ts rest h s = told f depth s.0 rest (behind ts s.0 h (may_be_end bits ts s.0 s.1)) s.2
told (Docs inner text f) depth ts rest h s =
    ap (λ (x : List Word). Documented inner text ∷ x) (told f depth s.0 rest (behind ts s.0 h (doc_end inner text ts s.0 s.1)) s.2)
told (Body braces back i f) depth ts rest h s =
    let braced = s.3.1 in
    let within = braced.2 in
    let stands = s.3.2 in
    let a = behind ts braced.0 h (opens_end s.0 ts braced.0 braced.1) in
    let b = behind braced.0 within.0 a (is_end i (depth - cost s.0) braced.0 within.0 within.1) in
    let c = behind within.0 s.3.0 b (closes_end s.0 within.0 s.3.0 within.2) in
    let d = behind s.3.0 stands.0 c (behind_end back s.0 s.3.0 stands.0 stands.1) in
    both (units i (depth - cost s.0) braced.0 within.0 within.1) (units f depth stands.0 rest stands.2) _ _
    (told i (depth - cost s.0) braced.0 within.0 a within.1) (told f depth stands.0 rest d stands.2)

pub same : (f : Form) (depth other : ℕ) (ts us rest end : List Token) → AreSingle ts → AreSingle us
    → (s : Spells f depth ts rest) → (z : Spells f other us end) → said (units f depth ts rest s) ≡ said (units f other us end z)
same f depth other ts us rest end h k s z = told f depth ts rest h s ∙ sym (told f other us end k z)
