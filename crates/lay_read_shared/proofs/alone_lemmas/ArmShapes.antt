-- What spells the shape of an arm, part by part: forms some levels deeper, forms within braces, and the whole.
use Rattle.std.proofs.Common.{◌≡◌, ℕ, zero, suc, ◌-◌, ◌≤◌, Bool, true, false, not, ◌&&◌, [], ◌∷◌, map, codes, option_map, Some, refl, sym, ap, subst, ◌∙◌, arith}
use Rattle.std.proofs.lemmas.Bool.{not-true}
use Rattle.lay_piece.specs.declared.kind.Delim.TheVariants.{Brace}
use Rattle.lay_form.specs.Form.{Blank, Operator, Form, Done, Part, Piece, closer, comma}
use Rattle.lay_form.specs.Notation.{I0, when}
use Rattle.lay_form.specs.Spelled.{Closes, IsOperator, Opens, Spells, cost}
use Rattle.lay_node.specs.Ahead.{Tokens}
use Rattle.lay_node.specs.nodes.Attr.{are_attrs, attr_form}
use Rattle.lay_node.specs.nodes.Patterns.{about_pat, pat_form, pat_good}
use Rattle.lay_node.specs.reader.Attr.{attributes}
use Rattle.lay_node.specs.declared.patterns.PatPlace.TheVariants.{Alternatives}
use Rattle.lay_node.proofs.Parts.{before_blank, behind_attrs_rows, behind_blank, bit_piece, piece_bit}
use Rattle.lay_node.proofs.reader.Attr.{attrs_rows}
use Rattle.lay_node.proofs.reader.AttrRead.{attributes_complete}
use Rattle.lay_node.proofs.reader.TypesCompleteKinds.{inner_of}
use Rattle.lay_code.specs.nodes.Bodies.{is_lone_body}
use Rattle.lay_code.specs.nodes.Blocks.{guard_form}
use Rattle.lay_code.specs.nodes.Code.{about_arm, about_expr}
use Rattle.lay_code.specs.nodes.CodeFacts.{ArmFacts}
use Rattle.lay_code.specs.nodes.Exprs.{placed, value_placed}
use Rattle.lay_code.specs.nodes.Places.{statement}
use Rattle.lay_code.specs.declared.blocks.Arm.{Arm}
use Rattle.lay_code.proofs.nodes.BlocksLaws.{arm_is}
use Rattle.lay_code.proofs.reader.Dressed.{closes_last, closes_split}
use Rattle.lay_code.proofs.reader.FrontsHeld.{fronts}
use Rattle.lay_read_shared.specs.alone.ArmFronts.{arm_shape, in_braces, levels}

-- ---- some levels deeper

pub levels_spelled : (k depth : ℕ) (f : Form) (ts rest : Tokens) → k ≤ depth → Spells f (depth - k) ts rest → Spells (levels k f) depth ts rest
levels_spelled zero depth f ts rest le s =
    let whole : depth - 0 ≡ depth = omega arith in subst (λ n. Spells f n ts rest) whole s
levels_spelled (suc k) zero f ts rest le s = absurd (omega (arith, le))
levels_spelled (suc k) (suc depth) f ts rest le s =
    let less : suc depth - suc k ≡ depth - k = omega arith in
    (rest, levels_spelled k depth f ts rest (omega (arith, le)) (subst (λ n. Spells f n ts rest) less s), refl)

pub levels_parts : (k depth : ℕ) (f : Form) (ts rest : Tokens) → Spells (levels k f) depth ts rest → (k ≤ depth) × Spells f (depth - k) ts rest
levels_parts zero depth f ts rest s =
    let whole : depth ≡ depth - 0 = omega arith in (omega arith, subst (λ n. Spells f n ts rest) whole s)
levels_parts (suc k) zero f ts rest s = absurd s
levels_parts (suc k) (suc depth) f ts rest s =
    let less : depth - k ≡ suc depth - suc k = omega arith in
    let p = levels_parts k depth f ts rest (inner_of (levels k f) depth ts rest s) in
    (omega (arith, p.0), subst (λ n. Spells f n ts rest) less p.1)

-- ---- within braces

pub braces_spelled : (k depth : ℕ) (f : Form) (ts a b rest : Tokens) → Opens k ts a → Spells f depth a b → Closes k b rest
    → Spells (in_braces k f) depth ts rest
braces_spelled zero depth f ts a b rest o s c =
    subst (λ us. Spells f depth ts us) c (subst (λ us. Spells f depth us b) (sym o) s)
braces_spelled (suc k) depth f ts a b rest o s c =
    let last = closes_split k b rest c in
    (o.0, o.1, (last.0, braces_spelled k depth f o.0 a b last.0 o.2 s last.1, bit_piece (closer Brace) depth last.0 rest last.2))

-- what stands within this many pairs of braces
pub record Within (k depth : ℕ) (f : Form) (ts rest : Tokens) : Type 0 where
  pub at : Tokens
  pub end : Tokens
  pub opens : Opens k ts at
  pub form : Spells f depth at end
  pub closes : Closes k end rest

pub braces_parts : (k depth : ℕ) (f : Form) (ts rest : Tokens) → Spells (in_braces k f) depth ts rest → Within k depth f ts rest
braces_parts zero depth f ts rest s = record { at = ts; end = rest; opens = refl; form = s; closes = refl }
braces_parts (suc k) depth f ts rest s =
    let behind = s.2 in
    let p = braces_parts k depth f s.0 behind.0 behind.1 in
    record {
      at = p.at;
      end = p.end;
      opens = (s.0, s.1, p.opens);
      form = p.form;
      closes = closes_last k p.end behind.0 rest p.closes (piece_bit (closer Brace) depth behind.0 rest behind.2);
    }

-- ---- the whole

five_parts : (a b c d e : Bool) → (a && b && c && d && e) ≡ true → (a ≡ true) × (b ≡ true) × (c ≡ true) × (d ≡ true) × (e ≡ true)
five_parts true true true true true h = (h, h, h, h, h)
five_parts _ _ _ _ _ h = absurd (cc)

-- what spells an arm whose body stands within this many pairs of braces
pub record ShapeParts (a : Arm) (pairs : ℕ) (ended : Bool) (depth : ℕ) (ts rest : Tokens) : Type 0 where
  pub seen : Tokens
  pub pattern : Tokens
  pub guard : Tokens
  pub arrow : Tokens
  pub stop : Tokens
  pub read : attributes false ts ≡ Some (a.attrs, seen)
  pub pat_there : Spells (pat_form Alternatives (about_pat a.pat)) depth seen pattern
  pub pat_held : pat_good Alternatives (about_pat a.pat) ≡ true
  pub guard_there : Spells (guard_form (option_map about_expr a.guard)) depth pattern guard
  pub guard_held : value_placed (option_map about_expr a.guard) ≡ true
  pub is_arrow : IsOperator (codes "=>") guard arrow
  pub le : cost pairs ≤ depth
  pub body_there : Within pairs (depth - cost pairs) (about_expr a.body).form arrow stop
  pub body_held : placed (about_expr a.body) statement ≡ true
  pub bare : is_lone_body (about_expr a.body).kind ≡ false
  pub comma_there : Spells (when ended comma Done) depth stop rest

pub shape_parts : (a : Arm) (pairs : ℕ) (ended : Bool) (depth : ℕ) (ts rest : Tokens) → Spells (arm_shape pairs ended a) depth ts rest
    → (about_arm a).good ≡ true → ShapeParts a pairs ended depth ts rest
shape_parts a pairs ended depth ts rest s g =
    let P = about_pat a.pat in
    let X = about_expr a.body in
    let G = option_map about_expr a.guard in
    let good = five_parts (are_attrs false a.attrs) (pat_good Alternatives P) (value_placed G) (placed X statement) (not (is_lone_body X.kind))
    (sym (ap (λ (F : ArmFacts). F.good) (arm_is a)) ∙ g) in
    let body : Form = levels (cost pairs) (in_braces pairs X.form) in
    let behind : Form = Piece (Blank ∷ Operator (codes "=>") ∷ Blank ∷ []) (Part body (when ended comma Done)) in
    let head : Form = Part (pat_form Alternatives P) (guard_form G) in
    let b = behind_attrs_rows (map attr_form a.attrs) (I0 head behind) depth ts rest s in
    let t = b.2 in
    let h = t.1 in
    let u = t.2 in
    let v = u.2 in
    let o : IsOperator (codes "=>") t.0 u.0 = before_blank (Operator (codes "=>")) t.0 u.0 (behind_blank (Operator (codes "=>") ∷ Blank ∷ []) t.0 u.0 u.1) in
    let rows = attrs_rows false depth a.attrs ts b.0 b.1 good.0 in
    let l = levels_parts (cost pairs) depth (in_braces pairs X.form) u.0 v.0 v.1 in
    record {
      seen = b.0;
      pattern = h.0;
      guard = t.0;
      arrow = u.0;
      stop = v.0;
      read = attributes_complete false a.attrs depth ts b.0 rows (fronts.pats a.pat depth b.0 h.0 h.1 good.1);
      pat_there = h.1;
      pat_held = good.1;
      guard_there = h.2;
      guard_held = good.2;
      is_arrow = o;
      le = l.0;
      body_there = braces_parts pairs (depth - cost pairs) X.form u.0 v.0 l.1;
      body_held = good.3;
      bare = not-true (is_lone_body X.kind) good.4;
      comma_there = v.2;
    }
