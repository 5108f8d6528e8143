use Rattle.std.proofs.Common.{rules, arith, ◌++◌, codes, sym, ap, ◌∙◌}
use Rattle.std.proofs.lemmas.List.{at_drop_all, at_drop_more}
use Rattle.lay_piece.specs.Scan.{run}
use Rattle.lay_piece.specs.Quoted.{doc_step}
use Rattle.lay_piece.specs.Forms.{is_whole}
use Rattle.lay_piece.specs.Docs.{in_block}
use Rattle.lay_piece.proofs.Nesting.{run_goes, run_stops}
use Rattle.lay_piece.proofs.doc.closes_at_end.Goals as goal

pub step-requires : goal.step-requires
step-requires c = search rules

pub returns-in-None : goal.returns-in-None
returns-in-None c =
    sym (run_stops doc_step _ _ _ _ _ c.in-None.ensures.moved)
    ∙ sym (at_drop_more (λ v. is_whole (run doc_step (in_block c.loop-byte.place) (v ++ codes "*/"))) c.args.text.now c.loop-byte.byte-index 0 c.loop-byte-test.true)
    ∙ c.loop-byte.invariant.same

pub loop-byte-preserved : goal.loop-byte-preserved
loop-byte-preserved c = record {
  few = omega (arith, c.in-Some.ensures.deeper, c.loop-byte.invariant.few);
  same =
      sym (at_drop_more (λ v. is_whole (run doc_step (in_block c.loop-byte.place) (v ++ codes "*/"))) c.args.text.now c.loop-byte.byte-index 0 c.loop-byte-test.true
      ∙ ap is_whole (run_goes doc_step _ _ _ _ c.in-Some.ensures.moved))
      ∙ c.loop-byte.invariant.same;
}

pub returns : goal.returns
returns c =
    c.ends.ensures
    ∙ sym (at_drop_all (λ v. is_whole (run doc_step (in_block c.loop-byte.place) (v ++ codes "*/"))) c.args.text.now c.loop-byte.byte-index (omega (arith, c.loop-byte-test.false)))
    ∙ c.loop-byte.invariant.same
