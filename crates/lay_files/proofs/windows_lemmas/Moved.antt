-- What spells a form spells it before other tokens too, where its last token isn't joint.
use Rattle.std.proofs.Common.{◌≡◌, inl, inr, ℕ, zero, suc, ◌-◌, ◌≤◌, Bool, true, false, cond, not, ◌&&◌, ◌||◌, List, [], ◌∷◌, ◌++◌, length, drop, Option, Some, None, refl, sym, ap, ◌∙◌, subst, arith, append_assoc, length-append, length-drop}
use Rattle.std.proofs.lemmas.Bool.{and_parts}
use Rattle.std.proofs.lemmas.Slice.Eq.{bytes_eq-Decides}
use Rattle.std.specs.List.{list_all}
use Rattle.std.proofs.lemmas.List.Folds.{list_all-append}
use Rattle.std.proofs.lemmas.List.{append_cancel_right, drop-append-le}
use Rattle.std.specs.Str.{bytes_eq}
use Rattle.lay_piece.specs.Chars.{is_nil}
use Rattle.lay_token.specs.Lexes.{is_punct}
use Rattle.lay_reparse.proofs.borders.OperatorRuns.{is_lone}
use Rattle.lay_reparse.proofs.forms.Balance.{is_single, are_single}
use Rattle.std.specs.Prelude.{codes}
use Rattle.lay_piece.specs.declared.kind.Delim.TheVariants.{Bracket, Brace}
use Rattle.lay_piece.specs.declared.kind.Kind.TheVariants.{Punct}
use Rattle.lay_piece.specs.declared.kind.Kind.{Kind}
use Rattle.lay_token.specs.Operators.{operators, begins_op, first_op, or_lone, op_at, is_op_of, is_op}
use Rattle.lay_token.specs.declared.token.Token.{Token}
use Rattle.lay_form.specs.Form.{Bit, Blank, Fixed, Operator, Semicolons, Behind, Nothing, ArmComma, Form, Done, Piece, Leaf, Listed, ListedDoc, Brk, LastComma, Group, Part, Deeper, Optional, Docs, Body, keyword, opener, closer, comma}
use Rattle.lay_form.specs.Spelled.{Then, IsOne, IsOperator, IsDocAttr, Braced, IsBit, AreSemicolons, AreBits, MayBe, IsListed, IsComment, IsString, IsDoc, Opens, Closes, IsBehind, attr_opening, cost, Spells}
use Rattle.lay_files.specs.windows.Windows.{IsQuiet}
use Rattle.lay_form.proofs.FormLaws.{IsEnd, is_end, one_end, semicolons_end, bits_end, may_be_end, listed_end, comment_end, string_end, doc_end, opens_end, closes_end, behind_end}

-- what is left after two parts
both : {x y z : List Token} → IsEnd y x → IsEnd z y → IsEnd z x
both {x} {y} {z} a b = record {
  before = a.before ++ b.before;
  whole = a.whole ∙ ap (λ (l : List Token). a.before ++ l) b.whole ∙ sym (append_assoc a.before b.before z);
}

quiet_behind : (x y : List Token) → IsQuiet (x ++ y) → IsQuiet y
quiet_behind [] y q = q
quiet_behind (t ∷ x) [] q = tt
quiet_behind (t ∷ []) (u ∷ y) q = q
quiet_behind (t ∷ s ∷ x) (u ∷ y) q = quiet_behind (s ∷ x) (u ∷ y) q

-- ---- operators

module _ (rest more : List Token) where
  begins_moved : (op : List ℕ) (t : Token) (u : List Token) → IsQuiet (t ∷ u)
      → begins_op op (t ∷ u ++ rest) ≡ begins_op op (t ∷ u ++ more)
  begins_moved [] t u q = refl
  begins_moved (c ∷ cs) t [] q = rw q refl
  begins_moved (c ∷ cs) t (s ∷ us) q =
      ap (λ (b : Bool). is_punct t.kind && bytes_eq t.text (c ∷ []) && (is_nil cs || t.joint && b)) (begins_moved cs s us q)

  first_moved : (ops : List (List ℕ)) (t : Token) (u : List Token) → IsQuiet (t ∷ u)
      → first_op ops (t ∷ u ++ rest) ≡ first_op ops (t ∷ u ++ more)
  first_moved [] t u q = refl
  first_moved (op ∷ ops) t u q =
      ap (λ (b : Bool). cond b (Some op) (first_op ops (t ∷ u ++ rest))) (begins_moved op t u q)
      ∙ ap (λ (o : Option (List ℕ)). cond (begins_op op (t ∷ u ++ more)) (Some op) o) (first_moved ops t u q)

  lone_moved : (o : Option (List ℕ)) (t : Token) (x y : List Token) → or_lone o (t ∷ x) ≡ or_lone o (t ∷ y)
  lone_moved None t x y = refl
  lone_moved (Some op) t x y = refl

  op_moved : (op : List ℕ) (t : Token) (u : List Token) → IsQuiet (t ∷ u) → is_op op (t ∷ u ++ rest) ≡ is_op op (t ∷ u ++ more)
  unfolding op_at
  op_moved op t u q =
      ap (λ (o : Option (List ℕ)). is_op_of op (or_lone o (t ∷ u ++ rest))) (first_moved operators t u q)
      ∙ ap (is_op_of op) (lone_moved (first_op operators (t ∷ u ++ more)) t (u ++ rest) (u ++ more))

-- An operator has a token at least, and takes no more than there are.
begins_fits : (op : List ℕ) (t : Token) (u rest : List Token) → IsQuiet (t ∷ u) → begins_op op (t ∷ u ++ rest) ≡ true
    → length op ≤ length (t ∷ u)
begins_fits [] t u rest q h = omega arith
begins_fits (c ∷ []) t u rest q h = omega arith
begins_fits (c ∷ d ∷ cs) t [] rest q h =
    let joint = (and_parts t.joint (begins_op (d ∷ cs) rest) (and_parts (is_punct t.kind && bytes_eq t.text (c ∷ [])) (t.joint && begins_op (d ∷ cs) rest) h).1).0 in
    absurd (let no : true ≡ false = sym joint ∙ q in cc)
begins_fits (c ∷ d ∷ cs) t (s ∷ us) rest q h =
    let behind = (and_parts t.joint (begins_op (d ∷ cs) (s ∷ us ++ rest)) (and_parts (is_punct t.kind && bytes_eq t.text (c ∷ [])) (t.joint && begins_op (d ∷ cs) (s ∷ us ++ rest)) h).1).1 in
    omega (arith, begins_fits (d ∷ cs) s us rest q behind)

abbrev are_some : List (List ℕ) → Bool
are_some ops = list_all (λ (op : List ℕ). not (is_nil op)) ops

-- what stands there: an operator of the table, or one token
data OperatorAt (op : List ℕ) (ts : List Token) : Type 0 where
  Known : begins_op op ts ≡ true → not (is_nil op) ≡ true → OperatorAt op ts
  Lone : (t : Token) → (us : List Token) → ts ≡ t ∷ us → is_punct t.kind ≡ true → op ≡ t.text → OperatorAt op ts

operator_at : (ops : List (List ℕ)) (op : List ℕ) (ts : List Token) → are_some ops ≡ true
    → is_op_of op (or_lone (first_op ops ts) ts) ≡ true → OperatorAt op ts
operator_at [] op [] g h = absurd (let no : false ≡ true = h in cc)
operator_at [] op (t ∷ us) g h = at (is_punct t.kind) refl h
  where
    at : (b : Bool) → is_punct t.kind ≡ b → is_op_of op (cond b (Some t.text) None) ≡ true → OperatorAt op (t ∷ us)
    at true e h = Lone t us refl e ((bytes_eq-Decides op t.text).0 h)
    at false e h = absurd (let no : false ≡ true = h in cc)
operator_at (x ∷ ops) op ts g h =
    let both = and_parts (not (is_nil x)) (are_some ops) g in at both.0 (begins_op x ts) refl h (operator_at ops op ts both.1)
  where
    at : not (is_nil x) ≡ true → (b : Bool) → begins_op x ts ≡ b → is_op_of op (or_lone (cond b (Some x) (first_op ops ts)) ts) ≡ true
        → (is_op_of op (or_lone (first_op ops ts) ts) ≡ true → OperatorAt op ts) → OperatorAt op ts
    at n true e h r =
        let same = (bytes_eq-Decides op x).0 h in
        Known (ap (λ z. begins_op z ts) same ∙ e) (ap (λ z. not (is_nil z)) same ∙ n)
    at n false e h r = r h

op_stands : (op : List ℕ) (ts : List Token) → is_op op ts ≡ true → OperatorAt op ts
unfolding op_at
op_stands op ts h = operator_at operators op ts refl h

single_text : (t : Token) → is_single t ≡ true → is_punct t.kind ≡ true → length t.text ≡ 1
single_text t g e = by t.text (is_punct t.kind) e g
  where
    by : (text : List ℕ) (b : Bool) → b ≡ true → not b || is_lone text ≡ true → length text ≡ 1
    by text false e g = absurd (cc)
    by [] true e g = absurd (let no : false ≡ true = g in cc)
    by (c ∷ []) true e g = refl
    by (c ∷ d ∷ cs) true e g = absurd (let no : false ≡ true = g in cc)

not_nil : (op : List ℕ) → not (is_nil op) ≡ true → 1 ≤ length op
not_nil [] h = absurd (let no : false ≡ true = h in cc)
not_nil (c ∷ cs) h = omega arith

-- An operator has a token at least.
op_some : (op : List ℕ) (ts : List Token) → are_single ts ≡ true → is_op op ts ≡ true → 1 ≤ length op
op_some op ts g h = elim (op_stands op ts h) [
  | Known e n ↦ not_nil op n
  | Lone t us e p same ↦
      let one = single_text t (and_parts (is_single t) (are_single us) (ap are_single (sym e) ∙ g)).0 p in
      omega (arith, ap length same, one)
]

op_fits : (op : List ℕ) (t : Token) (u rest : List Token) → are_single (t ∷ u ++ rest) ≡ true → IsQuiet (t ∷ u)
    → is_op op (t ∷ u ++ rest) ≡ true → length op ≤ length (t ∷ u)
op_fits op t u rest g q h = elim (op_stands op (t ∷ u ++ rest) h) [
  | Known e n ↦ begins_fits op t u rest q e
  | Lone s us e p same ↦
      let first : t ≡ s = cc in
      let one = single_text t (and_parts (is_single t) (are_single (u ++ rest)) g).0 (ap (λ (v : Token). is_punct v.kind) first ∙ p) in
      omega (arith, ap length same, ap (λ (v : Token). length v.text) first, one)
]

-- ---- what spells a form

-- No list goes on with itself after one item more.
no_end : (t : Token) (ts v : List Token) → ts ≡ v ++ t ∷ ts → ⊥
no_end t ts v e = omega (arith, ap length e, length-append v (t ∷ ts))

op_none : (op : List ℕ) → is_op op [] ≡ true → ⊥
op_none op h = elim (op_stands op [] h) [
  | Known e n ↦ at op e n
  | Lone t us e p same ↦ let no : ⊥ = cc in no
]
  where
    at : (op : List ℕ) → begins_op op [] ≡ true → not (is_nil op) ≡ true → ⊥
    at [] e n = let no : false ≡ true = n in cc
    at (c ∷ cs) e n = let no : false ≡ true = e in cc

op_shorter : (op : List ℕ) (ts v : List Token) → are_single ts ≡ true → is_op op ts ≡ true → drop (length op) ts ≡ v ++ ts → ⊥
op_shorter op [] v g h e = op_none op h
op_shorter op (t ∷ ts) v g h e =
    omega (arith, op_some op (t ∷ ts) g h, ap length e, length-append v (t ∷ ts), length-drop (length op) (t ∷ ts))

module _ (rest more : List Token) where
  -- What a relation says of these tokens up to those, before the rest, it says of them before the others.
  abbrev Moves : (List Token → List Token → Type 0) → Type 0
  Moves R = (u v : List Token) → are_single (u ++ rest) ≡ true → IsQuiet u → R (u ++ rest) (v ++ rest) → R (u ++ more) (v ++ more)

  abbrev Ends : (List Token → List Token → Type 0) → Type 0
  Ends R = (ts mid : List Token) → R ts mid → IsEnd mid ts

  then_moved : (R S : List Token → List Token → Type 0) → Ends R → Ends S → Moves R → Moves S → Moves (Then R S)
  then_moved R S re se rm sm u v g q s =
      let e = se s.0 (v ++ rest) s.2 in
      let m = e.before ++ v in
      let mid_is : s.0 ≡ m ++ rest = e.whole ∙ sym (append_assoc e.before v rest) in
      let r : R (u ++ rest) (m ++ rest) = subst (λ (l : List Token). R (u ++ rest) l) mid_is s.1 in
      let t : S (m ++ rest) (v ++ rest) = subst (λ (l : List Token). S l (v ++ rest)) mid_is s.2 in
      let d = re (u ++ rest) (m ++ rest) r in
      let u_is : u ≡ d.before ++ m = append_cancel_right u (d.before ++ m) rest (d.whole ∙ sym (append_assoc d.before m rest)) in
      let single = (and_parts (are_single d.before) (are_single (m ++ rest))
      (sym (list_all-append is_single d.before (m ++ rest)) ∙ ap are_single (sym d.whole) ∙ g)).1 in
      (m ++ more, rm u m g q r, sm m v single (quiet_behind d.before m (subst IsQuiet u_is q)) t)

  same_moved : Moves (λ ts us. ts ≡ us)
  same_moved u v g q e = ap (λ (l : List Token). l ++ more) (append_cancel_right u v rest e)

  one_moved : (kind : Kind) (text : List ℕ) → Moves (IsOne kind text)
  one_moved kind text [] v g q s = absurd (by rest s)
    where
      by : (r : List Token) → IsOne kind text r (v ++ r) → ⊥
      by [] s = s
      by (t ∷ r) s = no_end t r v s.2
  one_moved kind text (t ∷ u) v g q s = (s.0, s.1, same_moved u v (and_parts (is_single t) (are_single (u ++ rest)) g).1 (quiet_behind (t ∷ []) u q) s.2)

  listed_moved : (kind : Kind) (text : List ℕ) (joint : Bool) → Moves (IsListed kind text joint)
  listed_moved kind text joint [] v g q s = absurd (by rest s)
    where
      by : (r : List Token) → IsListed kind text joint r (v ++ r) → ⊥
      by [] s = s
      by (t ∷ r) s = no_end t r v s.3
  listed_moved kind text joint (t ∷ u) v g q s =
      (s.0, s.1, s.2, same_moved u v (and_parts (is_single t) (are_single (u ++ rest)) g).1 (quiet_behind (t ∷ []) u q) s.3)

  comment_moved : (inner : Bool) (text : List ℕ) → Moves (IsComment inner text)
  comment_moved inner text [] v g q s = absurd (by rest s)
    where
      by : (r : List Token) → IsComment inner text r (v ++ r) → ⊥
      by [] s = s
      by (t ∷ r) s = no_end t r v s.3
  comment_moved inner text (t ∷ u) v g q s =
      (s.0, s.1, s.2, same_moved u v (and_parts (is_single t) (are_single (u ++ rest)) g).1 (quiet_behind (t ∷ []) u q) s.3)

  string_moved : (text : List ℕ) → Moves (IsString text)
  string_moved text [] v g q s = absurd (by rest s)
    where
      by : (r : List Token) → IsString text r (v ++ r) → ⊥
      by [] s = s
      by (t ∷ r) s = no_end t r v s.1
  string_moved text (t ∷ u) v g q s =
      (s.0, same_moved u v (and_parts (is_single t) (are_single (u ++ rest)) g).1 (quiet_behind (t ∷ []) u q) s.1)

  operator_moved : (op : List ℕ) → Moves (IsOperator op)
  operator_moved op [] v g q s = absurd (op_shorter op rest v g s.0 s.1)
  operator_moved op (t ∷ u) v g q s =
      let n = length op in
      let fits : n ≤ length (t ∷ u) = op_fits op t u rest g q s.0 in
      let cut : drop n (t ∷ u) ≡ v = append_cancel_right (drop n (t ∷ u)) v rest (sym (drop-append-le n (t ∷ u) rest fits) ∙ s.1) in
      (sym (op_moved rest more op t u q) ∙ s.0, drop-append-le n (t ∷ u) more fits ∙ ap (λ (l : List Token). l ++ more) cut)

  semicolons_moved : (n : ℕ) → Moves (AreSemicolons n)
  semicolons_moved zero = same_moved
  semicolons_moved (suc n) =
      then_moved (IsOne Punct (codes ";")) (AreSemicolons n) (λ ts mid. one_end Punct (codes ";") ts mid) (λ ts mid. semicolons_end n ts mid)
      (one_moved Punct (codes ";")) (semicolons_moved n)

  bit_ends : (b : Bit) → Ends (IsBit b)
  bit_ends b ts mid s = bits_end (b ∷ []) ts mid (mid, s, refl)

  bit_moved : (b : Bit) → Moves (IsBit b)
  bit_moved Blank u v g q s = same_moved u v g q s
  bit_moved (Fixed kind text) u v g q s = one_moved kind text u v g q s
  bit_moved (Operator op) u v g q s = operator_moved op u v g q s
  bit_moved Semicolons u v g q s = (s.0, semicolons_moved s.0 u v g q s.1)

  bits_moved : (bits : List Bit) → Moves (AreBits bits)
  bits_moved [] = same_moved
  bits_moved (b ∷ bits) =
      then_moved (IsBit b) (AreBits bits) (bit_ends b) (λ ts mid. bits_end bits ts mid) (bit_moved b) (bits_moved bits)

  may_be_moved : (bits : List Bit) → Moves (MayBe bits)
  may_be_moved bits u v g q (inl e) = inl (same_moved u v g q e)
  may_be_moved bits u v g q (inr s) = inr (bits_moved bits u v g q s)

  doc_attr_moved : (inner : Bool) (text : List ℕ) → Moves (IsDocAttr inner text)
  doc_attr_moved inner text =
      let opening : List Bit = attr_opening inner ++ keyword (codes "doc") ∷ Operator (codes "=") ∷ [] in
      let closing : List Bit = closer Bracket ∷ [] in
      then_moved (AreBits opening) (Then (IsString text) (AreBits closing)) (λ ts mid. bits_end opening ts mid)
      (λ ts mid s. both (string_end text ts s.0 s.1) (bits_end closing s.0 mid s.2))
      (bits_moved opening)
      (then_moved (IsString text) (AreBits closing) (λ ts mid. string_end text ts mid) (λ ts mid. bits_end closing ts mid)
      (string_moved text) (bits_moved closing))

  doc_moved : (inner : Bool) (text : List ℕ) → Moves (IsDoc inner text)
  doc_moved inner text u v g q (inl s) = inl (comment_moved inner text u v g q s)
  doc_moved inner text u v g q (inr s) = inr (doc_attr_moved inner text u v g q s)

  opens_moved : (n : ℕ) → Moves (Opens n)
  opens_moved zero = same_moved
  opens_moved (suc n) =
      let one : List Bit = opener Brace ∷ Semicolons ∷ [] in
      then_moved (AreBits one) (Opens n) (λ ts mid. bits_end one ts mid) (λ ts mid. opens_end n ts mid) (bits_moved one) (opens_moved n)

  closes_moved : (n : ℕ) → Moves (Closes n)
  closes_moved zero = same_moved
  closes_moved (suc n) =
      let one : List Bit = closer Brace ∷ [] in
      then_moved (AreBits one) (Closes n) (λ ts mid. bits_end one ts mid) (λ ts mid. closes_end n ts mid) (bits_moved one) (closes_moved n)

  behind_moved : (b : Behind) (n : ℕ) → Moves (IsBehind b n)
  behind_moved Nothing n u v g q s = same_moved u v g q s
  behind_moved (ArmComma last block_like) n u v g q (inl s) = inl (s.0, same_moved u v g q s.1)
  behind_moved (ArmComma last block_like) n u v g q (inr s) = inr (bits_moved comma u v g q s)

  abbrev At : Form → ℕ → List Token → List Token → Type 0
  At f depth = Spells f depth

  ends : (f : Form) (depth : ℕ) → Ends (At f depth)
  ends f depth ts mid s = is_end f depth ts mid s

  braced_ends : (n : ℕ) (f : Form) (depth : ℕ) → Ends (Braced n (At f depth))
  braced_ends n f depth ts mid s =
      both (opens_end n ts s.0 s.1) (both (is_end f depth s.0 s.2.0 s.2.1) (closes_end n s.2.0 mid s.2.2))

  moved : (f : Form) (depth : ℕ) → Moves (At f depth)
  moved Done depth u v g q s = same_moved u v g q s
  moved (Piece bits f) depth u v g q s =
      then_moved (AreBits bits) (At f depth) (λ ts mid. bits_end bits ts mid) (ends f depth) (bits_moved bits) (moved f depth) u v g q s
  moved (Leaf kind text f) depth u v g q s =
      then_moved (IsOne kind text) (At f depth) (λ ts mid. one_end kind text ts mid) (ends f depth) (one_moved kind text) (moved f depth) u v g q s
  moved (Listed kind text joint f) depth u v g q s =
      then_moved (IsListed kind text joint) (At f depth) (λ ts mid. listed_end kind text joint ts mid) (ends f depth)
      (listed_moved kind text joint) (moved f depth) u v g q s
  moved (ListedDoc inner text f) depth u v g q s =
      then_moved (IsComment inner text) (At f depth) (λ ts mid. comment_end inner text ts mid) (ends f depth)
      (comment_moved inner text) (moved f depth) u v g q s
  moved (Brk space f) depth u v g q s = moved f depth u v g q s
  moved (LastComma blanks f) depth u v g q s =
      then_moved (MayBe comma) (At f depth) (λ ts mid. may_be_end comma ts mid) (ends f depth) (may_be_moved comma) (moved f depth) u v g q s
  moved (Group consistent offset i f) depth u v g q s =
      then_moved (At i depth) (At f depth) (ends i depth) (ends f depth) (moved i depth) (moved f depth) u v g q s
  moved (Part i f) depth u v g q s =
      then_moved (At i depth) (At f depth) (ends i depth) (ends f depth) (moved i depth) (moved f depth) u v g q s
  moved (Deeper i f) zero u v g q s = absurd s
  moved (Deeper i f) (suc depth) u v g q s =
      then_moved (At i depth) (At f (suc depth)) (ends i depth) (ends f (suc depth)) (moved i depth) (moved f (suc depth)) u v g q s
  moved (Optional laid bits f) depth u v g q s =
      then_moved (MayBe bits) (At f depth) (λ ts mid. may_be_end bits ts mid) (ends f depth) (may_be_moved bits) (moved f depth) u v g q s
  moved (Docs inner text f) depth u v g q s =
      then_moved (IsDoc inner text) (At f depth) (λ ts mid. doc_end inner text ts mid) (ends f depth) (doc_moved inner text) (moved f depth) u v g q s
  moved (Body braces behind i f) depth u v g q s =
      let n = s.0 in
      let d = depth - cost n in
      let within = then_moved (Opens n) (Then (At i d) (Closes n)) (λ ts mid. opens_end n ts mid)
      (λ ts mid r. both (is_end i d ts r.0 r.1) (closes_end n r.0 mid r.2)) (opens_moved n)
      (then_moved (At i d) (Closes n) (ends i d) (λ ts mid. closes_end n ts mid) (moved i d) (closes_moved n)) in
      let last = then_moved (IsBehind behind n) (At f depth) (λ ts mid. behind_end behind n ts mid) (ends f depth)
      (behind_moved behind n) (moved f depth) in (
        n,
        s.1,
        s.2,
        then_moved (Braced n (At i d)) (Then (IsBehind behind n) (At f depth)) (braced_ends n i d)
            (λ ts mid r. both (behind_end behind n ts r.0 r.1) (is_end f depth r.0 mid r.2)) within last u v g q s.3,
      )

-- What spells a form before some tokens spells it before any others, where its last token isn't joint.
pub spelled_before : (f : Form) (depth : ℕ) (u rest more : List Token) → are_single (u ++ rest) ≡ true → IsQuiet u
    → Spells f depth (u ++ rest) rest → Spells f depth (u ++ more) more
spelled_before f depth u rest more g q s = moved rest more f depth u [] g q s
