use Rattle.std.proofs.Common.{rules, arith, ◌≡◌, ℕ, zero, suc, ◌-◌, ◌<◌, List, ◌∷◌, sym, ap, ◌∙◌}
use Rattle.std.proofs.lemmas.Bool.{ne_eqb}
use Rattle.std.specs.Str.{chars}
use Rattle.lay_piece.specs.Scan.{run}
use Rattle.lay_piece.specs.Quoted.{Deep, Star, doc_step}
use Rattle.lay_piece.proofs.Runs.{run-nil, doc-cr, doc-star, doc-slash, doc-star_first, doc-slash_first, doc-end, doc-close, doc-open, doc-other}
use Rattle.lay_piece.proofs.piece.comments.after_doc.Goals as goal

-- the text that begins with this character
at : (n : ℕ) (text cs : List ℕ) (c d : ℕ) → text ≡ c ∷ cs → c ≡ d
    → run doc_step (Deep n) text ≡ run doc_step (Deep n) (d ∷ cs)
at n text cs c d e f = ap (run doc_step (Deep n)) (e ∙ ap (λ v. v ∷ cs) f)

close : (n : ℕ) (cs : List ℕ) → 0 < n → run doc_step (Star n) (47 ∷ cs) ≡ run doc_step (Deep (n - 1)) cs
close zero cs h = absurd (omega arith)
close (suc n) cs h = doc-close n cs ∙ ap (λ m. run doc_step (Deep m) cs) (omega arith)

pub returns-then-c-eq13 : goal.returns-then-c-eq13
returns-then-c-eq13 c =
    sym c.loop-c.invariant.same ∙ at c.loop-c.inner _ _ c.in-Some.c 13 c.in-Some.ensures.parts c.if-c-eq13.true
    ∙ doc-cr c.loop-c.inner _

pub returns-then-inner-eq0 : goal.returns-then-inner-eq0
returns-then-inner-eq0 c =
    sym c.loop-c.invariant.same ∙ at c.loop-c.inner _ _ c.in-Some.c 42 c.in-Some.ensures.parts c.if-c-eq42.true
    ∙ doc-star_first c.loop-c.inner _ ∙ ap (run doc_step (Star c.loop-c.inner)) c.in-Some-behind.ensures.rest
    ∙ ap (λ n. run doc_step (Star n) (47 ∷ chars c.in-Some-behind.closed.now)) c.if-inner-eq0.true ∙ doc-end _

pub loop-c-preserved-in-Some-behind : goal.loop-c-preserved-in-Some-behind
loop-c-preserved-in-Some-behind c =
    let some : 0 < c.loop-c.inner = omega arith in
    record {
      text = search rules;
      same = sym (at c.loop-c.inner _ _ c.in-Some.c 42 c.in-Some.ensures.parts c.if-c-eq42.true
          ∙ doc-star_first c.loop-c.inner _
          ∙ ap (run doc_step (Star c.loop-c.inner)) c.in-Some-behind.ensures.rest ∙ close c.loop-c.inner _ some)
          ∙ c.loop-c.invariant.same;
      room = omega (arith, c.in-Some.ensures.shorter, c.in-Some-behind.ensures.shorter, c.loop-c.invariant.room);
    }

pub loop-c-preserved-in_default-behind : goal.loop-c-preserved-in_default-behind
loop-c-preserved-in_default-behind c = record {
  text = search rules;
  same = sym (at c.loop-c.inner _ _ c.in-Some.c 42 c.in-Some.ensures.parts c.if-c-eq42.true
      ∙ doc-star_first c.loop-c.inner _
      ∙ doc-star c.loop-c.inner _ c.in_default-behind.ensures.rest) ∙ c.loop-c.invariant.same;
  room = omega (arith, c.in-Some.ensures.shorter, c.loop-c.invariant.room);
}

pub loop-c-preserved-in-Some-behind-2 : goal.loop-c-preserved-in-Some-behind-2
loop-c-preserved-in-Some-behind-2 c = record {
  text = search rules;
  same = sym (at c.loop-c.inner _ _ c.in-Some.c 47 c.in-Some.ensures.parts c.if-c-eq47.true
      ∙ doc-slash_first c.loop-c.inner _
      ∙ ap (run doc_step _) c.in-Some-behind-2.ensures.rest ∙ doc-open c.loop-c.inner _
      ∙ ap (λ m. run doc_step (Deep m) (chars c.in-Some-behind-2.opened.now)) (omega arith))
      ∙ c.loop-c.invariant.same;
  room = omega (arith, c.in-Some.ensures.shorter, c.in-Some-behind-2.ensures.shorter, c.loop-c.invariant.room);
}

pub loop-c-preserved-in_default-behind-2 : goal.loop-c-preserved-in_default-behind-2
loop-c-preserved-in_default-behind-2 c = record {
  text = search rules;
  same = sym (at c.loop-c.inner _ _ c.in-Some.c 47 c.in-Some.ensures.parts c.if-c-eq47.true
      ∙ doc-slash_first c.loop-c.inner _
      ∙ doc-slash c.loop-c.inner _ c.in_default-behind-2.ensures.rest) ∙ c.loop-c.invariant.same;
  room = omega (arith, c.in-Some.ensures.shorter, c.loop-c.invariant.room);
}

pub loop-c-preserved : goal.loop-c-preserved
loop-c-preserved c = record {
  text = search rules;
  same = sym (ap (run doc_step (Deep c.loop-c.inner)) c.in-Some.ensures.parts
      ∙ doc-other c.loop-c.inner c.in-Some.c _ (ne_eqb c.in-Some.c 13 c.if-c-eq13.false)
      (ne_eqb c.in-Some.c 42 c.if-c-eq42.false) (ne_eqb c.in-Some.c 47 c.if-c-eq47.false))
      ∙ c.loop-c.invariant.same;
  room = omega (arith, c.in-Some.ensures.shorter, c.loop-c.invariant.room);
}

pub returns : goal.returns
returns c = sym c.loop-c.invariant.same ∙ ap (run doc_step (Deep c.loop-c.inner)) c.in_default.ensures.parts
    ∙ run-nil doc_step _
