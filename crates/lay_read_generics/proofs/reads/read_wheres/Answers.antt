use Rattle.std.proofs.Common.{◌≡◌, suc, ◌<◌, Bool, map, refl, ◌∙◌, arith}
use Rattle.std.proofs.lemmas.Result.{err_from_is_err_and}
use Rattle.lay_form.specs.LastParts.{last_follows}
use Rattle.lay_form.specs.Notation.{wheres_spelled}
use Rattle.lay_node.specs.Begins.{begins_predicate}
use Rattle.lay_node.specs.nodes.Types.{deeper}
use Rattle.lay_node.specs.nodes.Where.{WheresAt, are_predicates, begins_last_part, predicate_form}
use Rattle.lay_node.specs.reader.Where.{wheres, wheres_at}
use Rattle.lay_node.specs.declared.generics.Wheres.{Wheres}
use Rattle.lay_node.proofs.reader.TypesExact.{wheres_exact}
use Rattle.lay_read_tokens.specs.declared.stop.ReadNone.TheVariants.{NoReading}
use Rattle.lay_read_parts.proofs.AtFront.{front_deeper, node_read, none_read, alone_nowhere, alone_stopped, alone_read, either_read, either_none}
use Rattle.lay_read_generics.proofs.reads.read_wheres.Goals as goal

pub returns-then-depth-eq0 : goal.returns-then-depth-eq0
returns-then-depth-eq0 c =
    let zero : c.args.depth ≡ 0 = omega arith in
    either_none WheresAt c.args.depth c.args.at.now NoReading c.args.at.now
    (none_read wheres_at (λ (x : Wheres × Bool). WheresAt x.1 x.0) wheres_exact
    (λ x. front_deeper (deeper (wheres_spelled x.1 (map predicate_form x.0.predicates))) (are_predicates x.0) (last_follows x.1 (begins_last_part x.0.predicates) begins_predicate))
    c.args.depth c.args.at.now c.requires c.args.at.now refl
    NoReading (alone_nowhere wheres c.args.depth c.args.at.now zero))

pub returns-in_err-found : goal.returns-in_err-found
returns-in_err-found c =
    let some : 0 < c.args.depth = omega arith in
    let p = err_from_is_err_and c.from_residual.result c.from_residual.ensures.1 in
    rw (p.1, p.2) (either_none WheresAt c.args.depth c.args.at.now c.in_err-found.field-0.0 c.args.at.now
    (none_read wheres_at (λ (x : Wheres × Bool). WheresAt x.1 x.0) wheres_exact
    (λ x. front_deeper (deeper (wheres_spelled x.1 (map predicate_form x.0.predicates))) (are_predicates x.0) (last_follows x.1 (begins_last_part x.0.predicates) begins_predicate))
    c.args.depth c.args.at.now c.requires c.new-ahead.result (c.new-ahead.ensures ∙ c.fork.ensures)
    c.in_err-found.field-0.0 (alone_stopped wheres c.args.depth c.new-ahead.result some
    c.in_err-found.field-0.0 c.in_err-found.ensures.read)))

pub returns : goal.returns
returns c =
    let some : 0 < c.args.depth = omega arith in
    let found = c.in_ok-found.found in
    rw c.into_cursor.ensures (either_read WheresAt c.args.depth c.args.at.now found.node.0 found.node.1 c.wheres_ahead.new.at
    (node_read wheres_at (λ (x : Wheres × Bool). WheresAt x.1 x.0) wheres_exact
    (λ x. front_deeper (deeper (wheres_spelled x.1 (map predicate_form x.0.predicates))) (are_predicates x.0) (last_follows x.1 (begins_last_part x.0.predicates) begins_predicate))
    c.args.depth c.args.at.now c.requires c.new-ahead.result (c.new-ahead.ensures ∙ c.fork.ensures)
    found.node (suc found.need) c.wheres_ahead.new.at
    (alone_read wheres c.args.depth c.new-ahead.result some found.node found.need c.wheres_ahead.new.at c.in_ok-found.ensures.read)))
