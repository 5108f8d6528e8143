use Rattle.std.proofs.Common.{◌≡◌, ◌-◌, ◌<◌, ◌++◌, ◌∷◌, [], Some, refl, sym, ap, ◌∙◌, arith}
use Rattle.std.proofs.lemmas.Result.{err_from_is_err_and}
use Rattle.lay_piece.specs.declared.kind.Delim.TheVariants.{Brace}
use Rattle.lay_node.specs.Ahead.{closes}
use Rattle.lay_node.specs.reader.Loops.{element_end, elements}
use Rattle.lay_node.specs.reader.Use.{use_at, use_end_by, use_group}
use Rattle.lay_read_tokens.proofs.Left.{element_shorter}
use Rattle.lay_read_shared.proofs.UseLeft.{use_left}
use Rattle.lay_read_tokens.proofs.Steps.{lost}
use Rattle.lay_read_head_rules.proofs.UseSteps.{use_none, use_goes_on, use_some, group_none, group_some}
use Rattle.lay_read_tokens.proofs.Turns.{elements-start, elements-end, elements-none, elements-open, elements-step}
use Rattle.lay_read_tokens.proofs.Holding.{holding_more}
use Rattle.lay_read_head_rules.proofs.uses.+use_trees.Goals as goal

pub read_group-loop-alloc-init : goal.read_group-loop-alloc-init
read_group-loop-alloc-init t c = record {
  held = record {
    found = [];
    turn = elements-start (closes Brace) (use_at c.args.depth) c.args.at.now;
    holds =
        (sym c.new-trees.ensures, refl);
  };
  within = omega arith;
}

pub read_group-returns-in_err-tree-clause-read : goal.read_group-returns-in_err-tree-clause-read
read_group-returns-in_err-tree-clause-read t c =
    let within = use_at c.args.depth in
    let whole = elements (closes Brace) within c.args.at.now in
    let held = c.loop-alloc.invariant.held in
    let here = ap within (sym c.loop-alloc-test.ensures.passed) in
    let p = err_from_is_err_and c.from_residual.result c.from_residual.ensures.1 in
    rw (p.1, p.2) (lost (within c.takes_closer.new.at) (use_group within c.args.at.now) c.in_err-tree.field-0.0
    c.in_err-tree.ensures.read
    (λ none. group_none within c.args.at.now
    (elements-none (closes Brace) within whole held.found c.loop-alloc.at held.turn
    (sym c.loop-alloc-test.ensures.found) (here ∙ none))))

pub read_group-returns-then-not-takes_element_end-clause-read :
    goal.read_group-returns-then-not-takes_element_end-clause-read
read_group-returns-then-not-takes_element_end-clause-read t c =
    let within = use_at c.args.depth in
    let held = c.loop-alloc.invariant.held in
    let here = ap within (sym c.loop-alloc-test.ensures.passed) in
    group_none within c.args.at.now (elements-open (closes Brace) within
    (elements (closes Brace) within c.args.at.now) held.found c.loop-alloc.at held.turn
    (c.in_ok-tree.tree.node, c.in_ok-tree.tree.need) c.use_ahead.new.at (sym c.loop-alloc-test.ensures.found)
    (here ∙ c.in_ok-tree.ensures.read)
    (sym c.if-not-takes_element_end.ensures))

pub read_group-loop-alloc-smaller : goal.read_group-loop-alloc-smaller
read_group-loop-alloc-smaller t c =
    let ts = c.loop-alloc.at in
    let within = use_at c.args.depth in
    let here = ap within (sym c.loop-alloc-test.ensures.passed) in
    element_shorter (closes Brace) ts (within ts) (c.in_ok-tree.tree.node, c.in_ok-tree.tree.need) c.use_ahead.new.at
    c.takes_element_end.new.at
    (use_left c.args.depth ts) (here ∙ c.in_ok-tree.ensures.read) (sym c.if-not-takes_element_end.ensures)

pub read_group-loop-alloc-preserved : goal.read_group-loop-alloc-preserved
read_group-loop-alloc-preserved t c =
    let ts = c.loop-alloc.at in
    let within = use_at c.args.depth in
    let held = c.loop-alloc.invariant.held in
    let tree = c.in_ok-tree.tree in
    let read = ap within (sym c.loop-alloc-test.ensures.passed) ∙ c.in_ok-tree.ensures.read in
    let ended : element_end (closes Brace) c.use_ahead.new.at ≡ Some c.takes_element_end.new.at =
    sym c.if-not-takes_element_end.ensures in
    let less = element_shorter (closes Brace) ts (within ts) (tree.node, tree.need) c.use_ahead.new.at
    c.takes_element_end.new.at (use_left c.args.depth ts) read ended in
    record {
      held = record {
        found = held.found ++ (tree.node, tree.need) ∷ [];
        turn = elements-step (closes Brace) within (elements (closes Brace) within c.args.at.now) held.found ts
            held.turn (tree.node, tree.need)
            c.use_ahead.new.at c.takes_element_end.new.at (sym c.loop-alloc-test.ensures.found) read ended less;
        holds = rw (c.in_ok-keep.ensures.ok, c.greater-need.ensures)
            (holding_more c.loop-alloc.trees c.loop-alloc.need held.found tree.node tree.need held.holds);
      };
      within = omega (arith, c.greater-need.ensures, c.in_ok-tree.ensures.within, c.loop-alloc.invariant.within);
    }

pub read_group-returns-clause-read : goal.read_group-returns-clause-read
read_group-returns-clause-read t c =
    let within = use_at c.args.depth in
    let held = c.loop-alloc.invariant.held in
    let all = elements-end (closes Brace) within (elements (closes Brace) within c.args.at.now) held.found
    c.loop-alloc.at held.turn (sym c.loop-alloc-test.ensures.found) in
    rw c.loop-alloc-test.ensures.passed (group_some within c.args.at.now held.found c.loop-alloc.trees
    c.loop-alloc.need _ all held.holds.0 held.holds.1)

pub use_ahead-returns-in_err-end-clause-read : goal.use_ahead-returns-in_err-end-clause-read
use_ahead-returns-in_err-end-clause-read t c =
    let some : 0 < c.args.depth = omega arith in
    let colons = c.takes_colons-global in
    let p = err_from_is_err_and c.from_residual-in_err-end.result c.from_residual-in_err-end.ensures.1 in
    rw (p.1, p.2) (lost (use_end_by (use_at (c.args.depth - 1)) c.read_path_words.new.at)
    (use_at c.args.depth c.args.at.now) c.in_err-end.field-0.0 c.in_err-end.ensures.read
    (use_none c.args.depth c.args.at.now colons.result colons.new.at some colons.ensures.found colons.ensures.passed
    c.in_ok-path.path c.read_path_words.new.at c.in_ok-path.ensures))

pub use_ahead-returns-then-is_at_colons-clause-read : goal.use_ahead-returns-then-is_at_colons-clause-read
use_ahead-returns-then-is_at_colons-clause-read t c =
    let some : 0 < c.args.depth = omega arith in
    let colons = c.takes_colons-global in
    use_goes_on c.args.depth c.args.at.now colons.result colons.new.at some colons.ensures.found
    colons.ensures.passed c.in_ok-path.path c.read_path_words.new.at c.in_ok-path.ensures
    c.in_ok-end.end.node c.in_ok-end.end.need c.read_use_end.new.at c.in_ok-end.ensures.read
    (sym c.if-is_at_colons.ensures)

pub use_ahead-returns-clause-read : goal.use_ahead-returns-clause-read
use_ahead-returns-clause-read t c =
    let some : 0 < c.args.depth = omega arith in
    let colons = c.takes_colons-global in
    use_some c.args.depth c.args.at.now colons.result colons.new.at some colons.ensures.found colons.ensures.passed
    c.in_ok-path.path c.read_path_words.new.at c.in_ok-path.ensures
    c.in_ok-end.end.node c.in_ok-end.end.need c.read_use_end.new.at c.in_ok-end.ensures.read
    (sym c.if-is_at_colons.ensures)
