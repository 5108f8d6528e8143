use Rattle.std.proofs.Common.{rules, ◌≡◌, ℕ, List, [], ◌∷◌, Bool, true, false, cond, Some, None, sym, refl, ap, ◌∙◌, zero-add}
use Rattle.std.specs.Prelude.{◌==◌}
use Rattle.std.proofs.lemmas.Bool.{eq-eqb, ne_eqb}
use Rattle.std.specs.Str.{chars}
use Rattle.lay_piece.specs.Chars.{begins}
use Rattle.lay_piece.specs.Scan.{run, Go, Bad}
use Rattle.lay_piece.specs.Quoted.{Inside, raw_step, is_plain}
use Rattle.lay_piece.specs.Forms.{after_raw}
use Rattle.lay_piece.specs.Found.{hashes, behind_hashes}
use Rattle.lay_piece.specs.declared.piece.quoted.Contents.{Contents}
use Rattle.lay_piece.proofs.Runs.{run-nil, run-step, opened, raw-hashes, raw-quote}
use Rattle.lay_piece.proofs.piece.quoted.after_raw.Goals as goal

-- after the hashes that open it
open_at : (y : Contents) (cs rest : List ℕ) (n : ℕ) → n ≡ hashes 255 cs → rest ≡ behind_hashes 255 cs
    → after_raw y cs ≡ opened y n rest
open_at y cs rest n e f =
    raw-hashes y 255 0 cs refl ∙ ap (λ v. opened y v (behind_hashes 255 cs)) (zero-add (hashes 255 cs) ∙ sym e)
    ∙ ap (opened y n) (sym f)

no_quote : (y : Contents) (n : ℕ) (rest : List ℕ) → begins (λ d. d == 34) rest ≡ false → opened y n rest ≡ None
no_quote y n [] h = refl
no_quote y n (c ∷ cs) h = rw h refl

-- after a quote, and the hashes that follow it
close_at : (y : Contents) (n k c : ℕ) (text cs rest : List ℕ) → text ≡ c ∷ cs → c ≡ 34 → k ≡ hashes n cs
    → rest ≡ behind_hashes n cs
    → run (raw_step y) (Inside n) text ≡ cond (k == n) (Some rest) (run (raw_step y) (Inside n) rest)
close_at y n k c text cs rest e q f g =
    ap (run (raw_step y) (Inside n)) e ∙ raw-quote y n c cs (eq-eqb c 34 q)
    ∙ ap (λ v. cond (v == n) (Some (behind_hashes n cs)) (run (raw_step y) (Inside n) (behind_hashes n cs))) (sym f)
    ∙ ap (λ r. cond (k == n) (Some r) (run (raw_step y) (Inside n) r)) (sym g)

plain_at : (y : Contents) (n c : ℕ) (text cs : List ℕ) (b : Bool) → text ≡ c ∷ cs → (c ≡ 34 → ⊥) → b ≡ is_plain y c
    → run (raw_step y) (Inside n) text ≡ cond b (run (raw_step y) (Inside n) cs) None
unfolding raw_step
plain_at y n c text cs true e q p =
    ap (run (raw_step y) (Inside n)) e
    ∙ run-step (raw_step y) (Inside n) c cs (Go (Inside n)) (rw (ne_eqb c 34 q, ← p) refl)
plain_at y n c text cs false e q p =
    ap (run (raw_step y) (Inside n)) e ∙ run-step (raw_step y) (Inside n) c cs Bad (rw (ne_eqb c 34 q, ← p) refl)

choose : {A : Type 0} (b : Bool) (x y z : A) → z ≡ cond b x y → b ≡ true → z ≡ x
choose b x y z e h = e ∙ (rw h refl)

refuse : {A : Type 0} (b : Bool) (x y z : A) → z ≡ cond b x y → b ≡ false → z ≡ y
refuse b x y z e h = e ∙ (rw h refl)

pub returns-in_err-rest : goal.returns-in_err-rest
returns-in_err-rest c = rw c.from_residual.ensures
    (open_at c.args.of _ _ _ c.hashes-hashes.ensures.count c.hashes-hashes.ensures.rest
    ∙ no_quote c.args.of c.hashes-hashes.result.0
    (chars c.hashes-hashes.result.1.now) c.in_err-rest.ensures.rest)

pub loop-c-init : goal.loop-c-init
loop-c-init c = record {
  text = search rules;
  same = sym (open_at c.args.of _ _ _ c.hashes-hashes.ensures.count c.hashes-hashes.ensures.rest
      ∙ ap (opened c.args.of c.hashes-hashes.result.0) c.in_ok-rest.ensures.rest);
}

pub returns-then-closing-hashes : goal.returns-then-closing-hashes
returns-then-closing-hashes c =
    sym c.loop-c.invariant.same
    ∙ choose _ _ _ _ (close_at c.args.of _ _ c.in-Some.c _ _ _ c.in-Some.ensures.parts c.if-c-eq34.true c.hashes-closing.ensures.count c.hashes-closing.ensures.rest)
    (eq-eqb _ _ c.if-closing-hashes.true)

pub loop-c-preserved-then-c-eq34 : goal.loop-c-preserved-then-c-eq34
loop-c-preserved-then-c-eq34 c = record {
  text = search rules;
  same = sym (refuse _ _ _ _
      (close_at c.args.of _ _ c.in-Some.c _ _ _ c.in-Some.ensures.parts c.if-c-eq34.true c.hashes-closing.ensures.count c.hashes-closing.ensures.rest)
      (ne_eqb _ _ c.if-closing-hashes.false)) ∙ c.loop-c.invariant.same;
}

pub returns-then-not-is_plain : goal.returns-then-not-is_plain
returns-then-not-is_plain c =
    sym c.loop-c.invariant.same
    ∙ plain_at c.args.of _ c.in-Some.c _ _ false c.in-Some.ensures.parts c.if-c-eq34.false c.if-not-is_plain.ensures

pub loop-c-preserved : goal.loop-c-preserved
loop-c-preserved c = record {
  text = search rules;
  same = sym (plain_at c.args.of _ c.in-Some.c _ _ true c.in-Some.ensures.parts c.if-c-eq34.false c.if-not-is_plain.ensures) ∙ c.loop-c.invariant.same;
}

pub returns : goal.returns
returns c = sym c.loop-c.invariant.same
    ∙ ap (run (raw_step c.args.of) (Inside c.hashes-hashes.result.0)) c.in_default.ensures.parts
    ∙ run-nil (raw_step c.args.of) _
