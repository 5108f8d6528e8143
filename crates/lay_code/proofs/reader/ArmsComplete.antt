-- Arms that are spelled are read: a body within braces that the syntax tree doesn't hold is read
-- with them, as blocks, and loses them.
use Rattle.std.proofs.Common.{◌≡◌, ℕ, zero, suc, ◌+◌, ◌-◌, ◌≤◌, max, Bool, true, false, not, ◌&&◌, ◌||◌, List, [], ◌∷◌, map, length, codes, Option, option_map, Some, None, inl, inr, refl, sym, ap, subst, ◌∙◌, arith}
use Rattle.std.proofs.lemmas.Bool.{and_parts, not-true, or_right}
use Rattle.lay_piece.specs.Forms.{closing}
use Rattle.lay_piece.specs.declared.kind.Delim.TheVariants.{Brace}
use Rattle.lay_piece.specs.declared.kind.Kind.TheVariants.{Ident, Punct, Closer}
use Rattle.lay_token.specs.Operators.{is_op}
use Rattle.lay_form.specs.Form.{Blank, Fixed, Operator, ArmComma, Form, Done, Piece, Part, Body, keyword}
use Rattle.lay_form.specs.Notation.{N, I0}
use Rattle.lay_form.specs.Spelled.{IsOne, IsOperator, AreBits, IsBehind, cost, may_lack, Spells}
use Rattle.lay_form.proofs.FormLaws.{shorter}
use Rattle.lay_node.specs.Ahead.{Tokens, first, tail, is_keyword, is_mark, closes, more_items}
use Rattle.lay_node.specs.nodes.Attr.{are_attrs, attr_form}
use Rattle.lay_node.specs.nodes.Patterns.{about_pat, pat_form, pat_good}
use Rattle.lay_node.specs.reader.Attr.{attributes}
use Rattle.lay_node.specs.reader.Types.{if_read}
use Rattle.lay_node.specs.declared.patterns.PatPlace.TheVariants.{Alternatives}
use Rattle.lay_node.proofs.Fronts.{one_front, one_no_op, one_shorter, closer_first, op_front, other_op}
use Rattle.lay_node.proofs.Parts.{Rows, SpelledAt, Closed, behind_attrs_rows, before_blank, behind_blank, bit_alone, part_alone}
use Rattle.lay_node.proofs.reader.Attr.{attrs_rows}
use Rattle.lay_node.proofs.reader.AttrRead.{attributes_complete}
use Rattle.lay_node.proofs.reader.Exact.{IsRead}
use Rattle.lay_node.proofs.reader.Loops.{Turn}
use Rattle.lay_node.proofs.reader.PatternsFronts.{Fits}
use Rattle.lay_node.proofs.reader.TypesCompleteParts.{keyword_there, one_left}
use Rattle.lay_code.specs.nodes.Bodies.{braces_of, is_lone_body, is_macro}
use Rattle.lay_code.specs.nodes.Blocks.{guard_form, is_free}
use Rattle.lay_code.specs.nodes.Code.{about_arm, about_expr}
use Rattle.lay_code.specs.nodes.CodeFacts.{ArmFacts}
use Rattle.lay_code.specs.nodes.Exprs.{arm_forms, arms_good, follows, placed, value_placed}
use Rattle.lay_code.specs.nodes.Places.{FREE, statement}
use Rattle.lay_code.specs.reader.Blocks.{arm_body, arm_by, arm_end, body_need, undressed}
use Rattle.lay_code.specs.reader.Within.{ExprWithin}
use Rattle.lay_code.specs.declared.blocks.Arm.{Arm}
use Rattle.lay_code.specs.declared.exprs.Expr.{Expr}
use Rattle.lay_code.proofs.nodes.BlocksLaws.{arm_is}
use Rattle.lay_code.proofs.reader.ArmsSoundBodies.{undressed_strips}
use Rattle.lay_code.proofs.reader.BlockReads.{Begun, Fronts, brace_begun}
use Rattle.lay_code.proofs.reader.Dressed.{alone, alone_is_free, alone_is_lone, braced_no_macro, dress, dressed, dressed_no_macro, dressed_placed, opens_take, strip_dressed}
use Rattle.lay_code.proofs.reader.ExprQuiet.{ends_follow, comma_ends_expr, closer_ends_expr}
use Rattle.lay_code.proofs.reader.ExprReads.{ExprReads}
use Rattle.lay_code.proofs.reader.PatternEnds.{arrow_follows, if_follows}
use Rattle.lay_code.proofs.reader.StmtsComplete.{block_tail}

-- ---- the braces of a body

-- Read within this many pairs of braces as blocks, a body loses them.
pub undress_dressed : (k n : ℕ) (y : Expr) → k ≤ n → is_lone_body (about_expr y).kind ≡ false → (1 ≤ k → is_macro (about_expr y).kind ≡ false)
    → undressed n (dress k y) ≡ y
undress_dressed k n y le bare macro =
    strip_dressed is_lone_body undressed undressed_strips k n y le bare
    (λ j l. alone_is_lone (dress j y) (dressed_no_macro j y (macro (omega (arith, l)))))

-- ---- what follows an arm

pub record ArmBehind (last : Bool) (ts : Tokens) : Type 0 where
  pub begun : Begun ts
  pub no_comma : first (is_mark (codes ",")) ts ≡ false
  pub end : last ≡ true → (rest : Tokens) × Closed Brace ts rest

-- what a body with its braces is followed by, and that its comma may be left out
abbrev Free : Expr → Tokens → Type 0
Free x ts = (follows (about_expr x) statement ts ≡ true) × ((is_free (about_expr x) || first (closes Brace) ts) ≡ true)

free_block : (x : Expr) (ts : Tokens) → is_free (about_expr x) ≡ true → Begun ts → Free x ts
free_block x ts f e =
    let b = (and_parts (about_expr x).block_like (not (is_macro (about_expr x).kind)) f).0 in
    (rw (b, e.dot) (block_tail x false ts b e.no_else), rw f refl)

free_body : (last : Bool) (k : ℕ) (y : Expr) (ts : Tokens) → may_lack last (is_free (about_expr y)) k ≡ true → ArmBehind last ts → Free (dress k y) ts
free_body true k y ts f b =
    let c = b.end refl in (
      ends_follow (about_expr (dress k y)) statement ts (closer_ends_expr false Brace ts c.0 c.1),
      or_right (is_free (about_expr (dress k y))) (first (closes Brace) ts) (closer_first Brace ts c.0 c.1).0,
    )
free_body false zero y ts f b = free_block y ts (one_of (is_free (about_expr y)) f) b.begun
  where
    one_of : (a : Bool) → (a || false) ≡ true → a ≡ true
    one_of true h = refl
    one_of false h = h
free_body false (suc k) y ts f b = free_block (alone (dress k y)) ts (alone_is_free (dress k y)) b.begun

guard_word : (ts rest : Tokens) → AreBits (Blank ∷ keyword (codes "if") ∷ Blank ∷ []) ts rest → IsOne Ident (codes "if") ts rest
guard_word ts rest s = before_blank (keyword (codes "if")) ts rest (behind_blank (keyword (codes "if") ∷ Blank ∷ []) ts rest s)

module _ (fronts : Fronts) (depth : ℕ) (within : ExprWithin) (reads : (least : ℕ) → least ≤ depth → ExprReads least within) where
  here : ExprReads depth within
  here = reads depth (omega arith)

  -- ---- the body

  body_made : (x y : Expr) (n : ℕ) (ts at rest : Tokens) → within.exprs statement ts ≡ Some ((x, n), at) → arm_end (is_free (about_expr x)) at ≡ Some rest
      → undressed (length ts) x ≡ y → arm_body within ts ≡ Some ((y, body_need (is_lone_body (about_expr x).kind) n), rest)
  body_made x y n ts at rest h e u = rw (h, e, u) refl

  -- what follows the body, and how its end is read
  body_end : (y : Expr) (last : Bool) (k : ℕ) (ts rest : Tokens) → IsBehind (ArmComma last (is_free (about_expr y))) k ts rest → ArmBehind last rest
      → (follows (about_expr (dress k y)) statement ts ≡ true) × (arm_end (is_free (about_expr (dress k y))) ts ≡ Some rest) × (length rest ≤ length ts)
  body_end y last k ts rest (inl e) b =
      let same : ts ≡ rest = e.1 in
      let behind : ArmBehind last ts = subst (λ us. ArmBehind last us) (sym same) b in
      let f = free_body last k y ts e.0 behind in
      let comma = behind.no_comma in
      (f.0, rw (comma, f.1) (ap (λ (us : Tokens). let got : Option Tokens = Some us in got) same), omega (arith, ap length same))
  body_end y last k ts rest (inr bits) b =
      let o : IsOne Punct (codes ",") ts rest = bit_alone (Fixed Punct (codes ",")) ts rest bits in (
        ends_follow (about_expr (dress k y)) statement ts (comma_ends_expr false ts rest o),
        rw (one_front Punct (codes ",") ts rest o).1 refl,
        omega (arith, one_shorter Punct (codes ",") ts rest o),
      )

  need_is : (k : ℕ) (y : Expr) (n : ℕ) → is_lone_body (about_expr y).kind ≡ false → (1 ≤ k → is_macro (about_expr y).kind ≡ false)
      → n ≤ (depth - cost k) + k → cost k ≤ depth → body_need (is_lone_body (about_expr (dress k y)).kind) n ≤ depth
  need_is zero y n h m le c = rw h (omega (arith, le, c))
  need_is (suc k) y n h m le c = rw (alone_is_lone (dress k y) (dressed_no_macro k y (m (omega arith)))) (omega (arith, le, c))

  abbrev body_form : Expr → Bool → Form
  body_form y last = Body (braces_of (about_expr y).kind) (ArmComma last (is_free (about_expr y))) (about_expr y).form Done

  body_read : (y : Expr) (last : Bool) (ts rest : Tokens) → Spells (body_form y last) depth ts rest → placed (about_expr y) statement ≡ true
      → is_lone_body (about_expr y).kind ≡ false → ArmBehind last rest → IsRead depth (arm_body within) y ts rest × (length rest ≤ length ts)
  body_read y last ts rest s w lone behind =
      let k = s.0 in
      let le : cost k ≤ depth = s.2 in
      let parts = s.3 in
      let braced = parts.1 in
      let inner = braced.2 in
      let at = parts.0 in
      let comma = parts.2 in
      let end : IsBehind (ArmComma last (is_free (about_expr y))) k at rest =
      subst (λ us. IsBehind (ArmComma last (is_free (about_expr y))) k at us) comma.2 comma.1 in
      let x = dress k y in
      let no_macro = braced_no_macro k (about_expr y).kind s.1 in
      let is = dressed k (depth - cost k) y ts braced.0 inner.0 at braced.1 inner.1 inner.2 in
      let bound : (depth - cost k) + k ≤ depth = depth_bound k le in
      let turns : k ≤ length ts = omega (arith, opens_take k ts braced.0 braced.1) in
      let bare = undress_dressed k (length ts) y turns lone no_macro in
      let got = body_end y last k at rest end behind in
      let r = (reads ((depth - cost k) + k) bound).exprs statement x ts at is (dressed_placed k y ∙ w) (inl got.0) in (
        (
          body_need (is_lone_body (about_expr x).kind) r.0,
          need_is k y r.0 lone no_macro r.1 le,
          body_made x y r.0 ts at rest r.2 got.1 bare,
        ),
        omega (arith, got.2, shorter (about_expr x).form ((depth - cost k) + k) ts at is),
      )
    where
      depth_bound : (k : ℕ) → cost k ≤ depth → (depth - cost k) + k ≤ depth
      depth_bound zero h = omega (arith, h)
      depth_bound (suc k) h = omega (arith, h)

  -- ---- what stands before the `=>`

  guard_read : (g : Option Expr) (ts rest : Tokens) → Spells (guard_form (option_map about_expr g)) depth ts rest → value_placed (option_map about_expr g) ≡ true
      → is_op (codes "=>") rest ≡ true → IsRead depth (λ us. if_read (first (is_keyword (codes "if")) us) (λ vs. within.exprs FREE (tail vs)) us) g ts rest
  guard_read None ts rest s g a =
      let no : first (is_keyword (codes "if")) rest ≡ false = rw (op_front (codes "=>") rest a).2 refl in (0, omega arith, rw (s, no) refl)
  guard_read (Some x) ts rest s g a =
      let o = guard_word ts s.0 s.1 in
      let x_spelled = part_alone (about_expr x).form depth s.0 rest s.2 in
      let r = here.exprs FREE x s.0 rest x_spelled g (inl (ends_follow (about_expr x) FREE rest (fronts.arrows rest a))) in
      (r.0, r.1, rw (keyword_there (codes "if") ts s.0 o, one_left Ident (codes "if") ts s.0 o, r.2) refl)

  pat_fits : (a : Arm) (ts rest : Tokens) → Spells (guard_form (option_map about_expr a.guard)) depth ts rest → is_op (codes "=>") rest ≡ true
      → Fits Alternatives (about_pat a.pat) ts
  pat_fits a ts rest s arrow = by a.guard s
    where
      by : (g : Option Expr) → Spells (guard_form (option_map about_expr g)) depth ts rest → Fits Alternatives (about_pat a.pat) ts
      by None t =
          let here : is_op (codes "=>") ts ≡ true = rw t arrow in
          (other_op (codes "=>") (codes "|") refl ts here, arrow_follows (about_pat a.pat) ts here)
      by (Some x) t =
          let o = guard_word ts t.0 t.1 in (one_no_op (codes "|") Ident (codes "if") ts t.0 refl o, if_follows (about_pat a.pat) ts t.0 o)

  -- ---- one arm

  arm_made : (a : Arm) (l m n : ℕ) (ts p g at behind rest : Tokens) → attributes false ts ≡ Some (a.attrs, p) → within.pats Alternatives p ≡ Some ((a.pat, l), g)
      → if_read (first (is_keyword (codes "if")) g) (λ us. within.exprs FREE (tail us)) g ≡ Some ((a.guard, m), at) → IsOperator (codes "=>") at behind
      → arm_body within behind ≡ Some ((a.body, n), rest) → arm_by within ts ≡ Some ((a, max l (max m n)), rest)
  unfolding arm_by
  arm_made a l m n ts p g at behind rest attrs pat guard o body = rw (attrs, pat, guard, o.0, o.1, body) refl

  arm_read : (a : Arm) (last : Bool) (ts rest : Tokens) → Spells ((about_arm a).form last) depth ts rest → (about_arm a).good ≡ true → ArmBehind last rest
      → IsRead depth (arm_by within) a ts rest
  arm_read a last ts rest s g behind =
      let G = option_map about_expr a.guard in
      let B = about_expr a.body in
      let spelled = subst (λ (F : ArmFacts). Spells (F.form last) depth ts rest) (arm_is a) s in
      let good = subst (λ (F : ArmFacts). F.good ≡ true) (arm_is a) g in
      let g4 = and_parts (are_attrs false a.attrs && pat_good Alternatives (about_pat a.pat) && value_placed G && placed B statement) (not (is_lone_body B.kind)) good in
      let g3 = and_parts (are_attrs false a.attrs && pat_good Alternatives (about_pat a.pat) && value_placed G) (placed B statement) g4.0 in
      let g2 = and_parts (are_attrs false a.attrs && pat_good Alternatives (about_pat a.pat)) (value_placed G) g3.0 in
      let g1 = and_parts (are_attrs false a.attrs) (pat_good Alternatives (about_pat a.pat)) g2.0 in
      let head : Form = Part (pat_form Alternatives (about_pat a.pat)) (guard_form G) in
      let arrow : Form = Piece (Blank ∷ Operator (codes "=>") ∷ Blank ∷ []) (N (body_form a.body last)) in
      let r = behind_attrs_rows (map attr_form a.attrs) (I0 head arrow) depth ts rest spelled in
      let groups = r.2 in
      let p = groups.1 in
      let b = groups.2 in
      let o : IsOperator (codes "=>") groups.0 b.0 =
      before_blank (Operator (codes "=>")) groups.0 b.0 (behind_blank (Operator (codes "=>") ∷ Blank ∷ []) groups.0 b.0 b.1) in
      let pat = here.pats Alternatives a.pat r.0 p.0 p.1 g1.1 (pat_fits a p.0 groups.0 p.2 o.0) in
      let guard = guard_read a.guard p.0 groups.0 p.2 g2.1 o.0 in
      let body = (body_read a.body last b.0 rest b.2 g3.1 (not-true (is_lone_body B.kind) g4.1) behind).0 in
      let no_attr = fronts.pats a.pat depth r.0 p.0 p.1 g1.1 in
      let attrs = attributes_complete false a.attrs depth ts r.0 (attrs_rows false depth a.attrs ts r.0 r.1 g1.0) no_attr in (
        max pat.0 (max guard.0 body.0),
        omega (arith, pat.1, guard.1, body.1),
        arm_made a pat.0 guard.0 body.0 ts r.0 p.0 groups.0 b.0 rest attrs pat.2 guard.2 o body.2,
      )

  -- ---- all arms

  -- an arm, read with its need in a turn of the loop
  abbrev pub ArmTurned : Arm → Tokens → Tokens → Type 0
  ArmTurned a ts rest = (n : ℕ) × (n ≤ depth) × Turn more_items (arm_by within) (a, n) ts rest

  one_turn : (a : Arm) (last : Bool) (ts rest : Tokens) → Spells ((about_arm a).form last) depth ts rest → (about_arm a).good ≡ true → ArmBehind last rest
      → ArmTurned a ts rest
  one_turn a last ts rest s g b =
      let r = arm_read a last ts rest s g b in let f = fronts.arms a last depth ts rest s g in (r.0, r.1, (f.more, r.2, f.less))

  -- further arms follow
  next_behind : (a : Arm) (last : Bool) (ts rest : Tokens) → Spells ((about_arm a).form last) depth ts rest → (about_arm a).good ≡ true → ArmBehind false ts
  next_behind a last ts rest s g =
      let f = fronts.arms a last depth ts rest s g in record { begun = f.begun; no_comma = f.no_comma; end = λ h. absurd (cc) }

  pub brace_behind : (last : Bool) (ts rest : Tokens) → Closed Brace ts rest → ArmBehind last ts
  brace_behind last ts rest c = record {
    begun = brace_begun ts rest c;
    no_comma = rw (one_front (Closer Brace) (closing Brace ∷ []) ts rest c).1 refl;
    end = λ h. (rest, c);
  }

  pub arms_turned : (arms : List Arm) (ts end rest : Tokens) → Rows (SpelledAt depth) (arm_forms (map about_arm arms)) ts end
      → arms_good (map about_arm arms) ≡ true → Closed Brace end rest → Rows ArmTurned arms ts end × (ArmBehind false ts)
  arms_turned [] ts end rest r g c = (r, rw r (brace_behind false end rest c))
  arms_turned (a ∷ []) ts end rest r g c =
      let good = (and_parts (about_arm a).good true g).0 in
      let closed : Closed Brace r.0 rest = rw r.2 c in
      ((r.0, one_turn a true ts r.0 r.1 good (brace_behind true r.0 rest closed), r.2), next_behind a true ts r.0 r.1 good)
  arms_turned (a ∷ b ∷ more) ts end rest r g c =
      let goods = and_parts (about_arm a).good (arms_good (map about_arm (b ∷ more))) g in
      let next = arms_turned (b ∷ more) r.0 end rest r.2 goods.1 c in
      ((r.0, one_turn a false ts r.0 r.1 goods.0 next.1, next.0), next_behind a false ts r.0 r.1 goods.0)
