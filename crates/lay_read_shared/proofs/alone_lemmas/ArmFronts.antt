-- Arms by themselves are read exactly where they stand.
use Rattle.std.proofs.Common.{◌≡◌, ℕ, zero, suc, ◌≤◌, nat_le, Bool, true, false, ◌||◌, length, drop, codes, Some, inl, inr, refl, sym, ap, subst, ◌∙◌, arith, le-leb, leb-true, length-append}
use Rattle.std.proofs.lemmas.List.{drop_at}
use Rattle.lay_piece.specs.declared.kind.Kind.TheVariants.{Punct}
use Rattle.lay_form.specs.Form.{Deeper, Done, Fixed, Form}
use Rattle.lay_form.specs.Spelled.{Front, MayBrace, Spells}
use Rattle.lay_form.proofs.FormLaws.{is_end}
use Rattle.lay_node.specs.Ahead.{Tokens, at_end, first, is_mark, tail}
use Rattle.lay_node.specs.reader.Exact.{Exact, InText}
use Rattle.lay_node.proofs.Fronts.{mark_one}
use Rattle.lay_node.proofs.Steps.{bind_some, chosen, same_some}
use Rattle.lay_node.proofs.reader.Exact.{IsRead, one_by_reading}
use Rattle.lay_node.proofs.reader.TypesCompleteKinds.{inner_of}
use Rattle.lay_node.proofs.reader.TypesSoundParts.{Out, bit_texts}
use Rattle.lay_code.specs.nodes.Bodies.{braces_of}
use Rattle.lay_code.specs.nodes.Code.{about_arm, about_expr}
use Rattle.lay_code.specs.reader.Code.{code_in}
use Rattle.lay_code.specs.reader.Within.{ExprWithin}
use Rattle.lay_code.specs.declared.blocks.Arm.{Arm}
use Rattle.lay_code.proofs.reader.CodeComplete.{code_reads}
use Rattle.lay_code.proofs.reader.CodeSound.{code_sound}
use Rattle.lay_code.proofs.reader.ExprSoundLevel.{SoundExprWithin}
use Rattle.lay_code.proofs.reader.FrontsHeld.{fronts}
use Rattle.lay_read_shared.specs.alone.ArmFronts.{ArmFront, alone_arm, alone_end, arm_alone, arm_begun, arm_follows, arm_shape}
use Rattle.lay_read_shared.proofs.alone_lemmas.ArmBegun.{arm_alone_read, arm_begun_sound}

-- ---- what is read stands there

-- An arm with its comma stands there, or without one.
record AloneHeld (x : Arm × ℕ) (ts rest : Tokens) : Type 0 where
  pairs : ℕ
  ended : Bool
  may : MayBrace (braces_of (about_expr x.0.body).kind) pairs
  form : Spells (arm_shape pairs ended x.0) x.1 ts rest
  good : (about_arm x.0).good ≡ true
  behind : arm_follows pairs ended (about_expr x.0.body) rest ≡ true

arm_alone_sound : (budget : ℕ) (within : ExprWithin) → SoundExprWithin budget within → (ts : Tokens) (x : Arm × ℕ) (rest : Tokens) → InText ts
    → arm_alone within ts ≡ Some (x, rest) → Out AloneHeld ts (x, rest)
arm_alone_sound budget within sound ts x rest t h =
    let a = bind_some (arm_begun within ts) _ _ h in
    let e = bind_some (alone_end a.0.0.0.1 a.0.1) _ _ a.2 in
    let s = arm_begun_sound budget within sound ts a.0.0 a.0.1 t a.1 in
    let arm = a.0.0.0.0 in
    let need = a.0.0.1 in
    let stop = a.0.1 in
    let k = s.0 in
    elim (chosen (first (is_mark (codes ",")) stop) _ _ _ e.1) [
      | inl g ↦
          let mark = mark_one (codes ",") stop g.0 in
          let held : AloneHeld (arm, need) ts (tail stop) = record {
            pairs = k.pairs;
            ended = true;
            may = k.may;
            form = k.form true (tail stop) (tail stop, (tail stop, mark, refl), refl);
            good = k.good;
            behind = refl;
          } in
          let out : Out AloneHeld ts ((arm, need), tail stop) = (held, bit_texts (Fixed Punct (codes ",")) stop (tail stop) mark s.1) in
          same_some (Out AloneHeld ts) ((arm, need), e.0) (x, rest) e.2
          (same_some (λ us. Out AloneHeld ts ((arm, need), us)) (tail stop) e.0 g.1 out)
      | inr g ↦ elim (chosen (a.0.0.0.1 || at_end stop) _ _ _ g.1) [
        | inl f ↦
            let held : AloneHeld (arm, need) ts stop = record {
              pairs = k.pairs;
              ended = false;
              may = k.may;
              form = k.form false stop refl;
              good = k.good;
              behind = k.behind g.0 f.0;
            } in
            same_some (Out AloneHeld ts) ((arm, need), e.0) (x, rest) e.2
            (same_some (λ us. Out AloneHeld ts ((arm, need), us)) stop e.0 f.1 (held, s.1))
        | inr f ↦ absurd (cc f.1)
      ]
    ]

-- by a count of tokens
counted : (form : Form) (good : Bool) (follows : Tokens → Bool) (depth : ℕ) (ts rest : Tokens) → Spells form depth ts rest → good ≡ true
    → follows rest ≡ true → (n : ℕ) × (drop n ts ≡ rest) × Front form good follows ts n depth
counted form good follows depth ts rest s g f =
    let e = is_end form depth ts rest s in
    let n = length e.before in
    let dropped : drop n ts ≡ rest = ap (λ (us : Tokens). drop n us) e.whole ∙ drop_at e.before rest n refl in
    let le : n ≤ length ts = omega (arith, ap length e.whole, length-append e.before rest) in
    let front : Front form good follows ts n depth =
    (le, subst (λ us. Spells form depth ts us) (sym dropped) s, g, subst (λ us. follows us ≡ true) (sym dropped) f) in
    (n, dropped, front)

-- It comes next one level deeper, within the budget.
abbrev Fronted : ℕ → Tokens → (Arm × ℕ) × Tokens → Type 0
Fronted budget ts x = (n : ℕ) × (drop n ts ≡ x.1) × (x.0.1 ≤ budget) × ArmFront x.0.0 ts n x.0.1

fronted : (budget : ℕ) (x : Arm × ℕ) (ts rest : Tokens) → x.1 ≤ budget → AloneHeld x ts rest → Fronted (suc budget) ts ((x.0, suc x.1), rest)
fronted budget x ts rest le k =
    let c = counted (Deeper (arm_shape k.pairs k.ended x.0) Done) (about_arm x.0).good (arm_follows k.pairs k.ended (about_expr x.0.body)) (suc x.1) ts rest
    (rest, k.form, refl) k.good k.behind in
    (c.0, c.1, omega (arith, le), (k.pairs, k.ended, k.may, c.2))

alone_sound : (budget : ℕ) (ts : Tokens) (x : Arm × ℕ) (rest : Tokens) → InText ts → alone_arm budget ts ≡ Some (x, rest) → Fronted budget ts (x, rest)
alone_sound zero ts x rest t h = absurd (cc)
alone_sound (suc budget) ts x rest t h =
    let y = bind_some (arm_alone (code_in budget) ts) _ _ h in
    let s = arm_alone_sound budget (code_in budget) (code_sound budget) ts y.0.0 y.0.1 t y.1 in
    elim (chosen (nat_le y.0.0.1 budget) _ _ _ y.2) [
      | inl g ↦
          same_some (Fronted (suc budget) ts) ((y.0.0.0, suc y.0.0.1), y.0.1) (x, rest) g.1
          (fronted budget y.0.0 ts y.0.1 (leb-true y.0.0.1 budget g.0) s.0)
      | inr g ↦ absurd (cc g.1)
    ]

-- ---- what stands there is read

alone_read : (a : Arm) (pairs : ℕ) (ended : Bool) (depth budget : ℕ) → depth ≤ budget → (ts rest : Tokens)
    → MayBrace (braces_of (about_expr a.body).kind) pairs → Spells (Deeper (arm_shape pairs ended a) Done) depth ts rest → (about_arm a).good ≡ true
    → arm_follows pairs ended (about_expr a.body) rest ≡ true → IsRead depth (alone_arm budget) a ts rest
alone_read a pairs ended zero budget h ts rest may s g f = absurd s
alone_read a pairs ended (suc depth) zero h ts rest may s g f = absurd (omega arith)
alone_read a pairs ended (suc depth) (suc budget) h ts rest may s g f =
    let reads = λ (least : ℕ) (le : least ≤ depth). code_reads fronts budget least (omega (arith, h, le)) in
    let r = arm_alone_read depth (code_in budget) reads a pairs ended ts rest may (inner_of (arm_shape pairs ended a) depth ts rest s) g f in
    (suc r.0, omega (arith, r.1), rw (r.2, le-leb r.0 budget (omega (arith, h, r.1))) refl)

pub arms_exact : Exact alone_arm ArmFront
arms_exact = record {
  sound = λ budget ts x need rest t h. alone_sound budget ts (x, need) rest t h;
  complete = λ x ts n depth f budget h. alone_read x f.0 f.1 depth budget h ts (drop n ts) f.2 f.3.1 f.3.2 f.3.3;
}

-- So at most one arm and one count of tokens fit.
pub one_arm : (node other : Arm) (ts : Tokens) (n m depth : ℕ) → ArmFront node ts n depth → ArmFront other ts m depth
    → (node ≡ other) × (n ≡ m)
one_arm = one_by_reading ArmFront alone_arm (λ x ts n depth f. f.3.0) arms_exact
