use Rattle.std.proofs.Common.{◌≡◌, ◌∙◌, ◌≤◌, ℕ, max, List, [], ◌∷◌, ◌++◌, map, reverse, sym, ap, subst, arith}
use Rattle.std.specs.List.{AllByRecursion}
use Rattle.std.specs.Option.{option_to_list}
use Rattle.lay_form.specs.Depth.{least_depth}
use Rattle.lay_code.specs.Reading.{top}
use Rattle.lay_depth.specs.nodes.Depths.{greatest}
use Rattle.lay_build_types.specs.Answers.{IsKept}
use Rattle.lay_build_types.proofs.ListLemmas.{one_deeper, one_kept, turned}
use Rattle.lay_build_types.proofs.lists.nodes.Goals as goal

-- src/lists.rt:21:5
pub loop-built-preserved : goal.loop-built-preserved
loop-built-preserved g c =
    let form = g.N.Node.form in
    let before = c.loop-built.nodes in
    let left = c.pop.new.self.items in
    let x = c.in-Some.built in
    let parts = c.into_parts-node.ensures.parts in
    let kept = c.into_parts-node.ensures.kept in
    let popped : c.loop-built.left.items ≡ left ++ x ∷ [] = c.pop.ensures.items ∙ ap (λ o. left ++ option_to_list o) c.in-Some.is in
    let added : c.keep.new.list ≡ before ++ x ∷ [] = c.in_ok-keep.ensures.ok ∙ ap (λ p. before ++ p.0 ∷ []) parts in
    let deeper = ap (λ xs. greatest (map form xs)) added ∙ one_deeper form before x in
    let more : c.into_parts-node.result.1 ≡ least_depth (form x) = ap (λ p. p.1) parts in
    record {
      same =
          turned c.args.list before left x (c.loop-built.invariant.same ∙ ap (λ xs. before ++ reverse xs) popped)
          ∙ ap (λ xs. xs ++ reverse left) (sym added);
      need = omega (arith, c.max-need.ensures, c.loop-built.invariant.need, deeper, more);
      within = omega (arith, c.max-need.ensures, c.loop-built.invariant.within, more, kept.within);
      kept = subst (AllByRecursion (IsKept form g.N.Node.Holds)) (sym added) (one_kept form g.N.Node.Holds before x c.loop-built.invariant.kept kept);
    }
