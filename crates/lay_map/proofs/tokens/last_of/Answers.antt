use Rattle.std.proofs.Common.{sym, ◌∙◌, subst}
use Rattle.lay_lex.specs.one_by_one.Ahead.{Tells}
use Rattle.lay_map.specs.Ahead.{tokens_of}
use Rattle.lay_map.proofs.WalkLemmas.{drop_step, last_none, last_step, last_zero}
use Rattle.lay_map.proofs.tokens.last_of.Goals as goal

pub loop-left-preserved : goal.loop-left-preserved
loop-left-preserved c =
    let n = c.in-Some.ensures in
    let behind = tokens_of c.next.new.self in
    record {
      last = λ t h.
          let u = c.loop-left.invariant.last t h in
          (n.0, n.2, u.2 ∙ last_step c.loop-left.left u.0 n.0 (tokens_of c.loop-left.ahead) behind c.loop-left-test.true n.1);
      behind = c.loop-left.invariant.behind ∙ drop_step c.loop-left.left n.0 (tokens_of c.loop-left.ahead) behind c.loop-left-test.true n.1;
    }

pub returns-in-None-clause-last : goal.returns-in-None-clause-last
returns-in-None-clause-last c t h =
    let u = c.loop-left.invariant.last t h in
    subst (Tells c.loop-left.last) (sym (u.2 ∙ last_none c.loop-left.left u.0 (tokens_of c.loop-left.ahead) c.in-None.ensures.0)) u.1

pub returns-clause-last : goal.returns-clause-last
returns-clause-last c t h =
    let u = c.loop-left.invariant.last t h in
    subst (Tells c.loop-left.last) (sym (u.2 ∙ last_zero c.loop-left.left u.0 (tokens_of c.loop-left.ahead) c.loop-left-test.false)) u.1
