use Rattle.std.proofs.Common.{◌≡◌, ◌∙◌, length, sym, ap, arith}
use Rattle.lay_code.specs.nodes.Parts.{block_of}
use Rattle.lay_ops_ends.proofs.OnePair.{around, block_alone, last_held, one_held}
use Rattle.lay_ops_ends.proofs.bodies.held.Goals as goal

pub returns-in_err-into_block : goal.returns-in_err-into_block
returns-in_err-into_block c =
    let a = around c.args.expr c.requires in absurd (cc (c.in_err-into_block.ensures ∙ ap block_of (c.into_inner.ensures ∙ a.1) ∙ block_alone a.0))

pub returns-in_err-pop : goal.returns-in_err-pop
returns-in_err-pop c =
    let a = around c.args.expr c.requires in
    let one : length c.into_vec.result.items ≡ 1 = ap length (c.into_vec.ensures ∙ c.into_stmts.ensures)
    ∙ one_held c.args.expr a.0 c.in_ok-into_block.field-0 a.1 (sym (c.in_ok-into_block.ensures ∙ ap block_of c.into_inner.ensures)) in
    absurd (cc (c.in_err-pop.ensures.variant.1 (omega (arith, one, c.into_vec.result.ok.0))))

pub returns : goal.returns
returns c =
    let a = around c.args.expr c.requires in
    let last = sym (c.into_vec.ensures ∙ c.into_stmts.ensures) ∙ c.in_ok-pop.ensures.items in (
      a.0,
      a.1,
      c.into_expr.ensures ∙ last_held c.args.expr a.0 c.in_ok-into_block.field-0 c.pop.new.self.items c.in_ok-pop.field-0
          a.1 (sym (c.in_ok-into_block.ensures ∙ ap block_of c.into_inner.ensures)) last,
    )
