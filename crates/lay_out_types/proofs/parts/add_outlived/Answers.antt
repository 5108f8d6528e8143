use Rattle.std.proofs.Common.{List, [], ◌∷◌, map, codes, ◌∙◌}
use Rattle.lay_layout.specs.declared.layout.Tok.TheVariants as tok
use Rattle.lay_node.specs.nodes.Types.{lifetime_form}
use Rattle.lay_node.specs.declared.token.Lifetime.{Lifetime}
use Rattle.lay_out_types.specs.Rows.{row}
use Rattle.lay_out_types.proofs.Adding.{adds, adds_on}
use Rattle.lay_out_types.proofs.PartLemmas.{outlived_are, outlived_turn}
use Rattle.lay_out_types.proofs.RowLemmas.{all_turns, turn}
use Rattle.lay_out_types.proofs.parts.add_outlived.Goals as goal

pub loop-index-preserved : goal.loop-index-preserved
loop-index-preserved g c =
    adds (adds_on c.loop-index.invariant (adds_on c.add_either-done.ensures c.add_text-done.ensures))
    (turn lifetime_form (tok.Text (codes ": ") ∷ []) (tok.Text (codes " + ") ∷ []) c.args.lifetimes.now _ _
    c.loop-index-test.true c.index-lifetimes-index.is _ (outlived_turn _ _ _ c.as_bytes.ensures))

pub returns : goal.returns
returns g c =
    adds c.loop-index.invariant
    (all_turns (λ (ls : List Lifetime). row (tok.Text (codes ": ") ∷ []) (tok.Text (codes " + ") ∷ [])
    (map lifetime_form ls)) c.args.lifetimes.now _ c.loop-index-test.false
    ∙ outlived_are c.args.lifetimes.now)
