use Rattle.std.proofs.Common.{◌≡◌, ◌<◌, ◌∙◌, arith}
use Rattle.std.proofs.lemmas.Result.{err_from_is_err_and}
use Rattle.lay_node.specs.nodes.Heads.{about_struct, headed}
use Rattle.lay_node.specs.reader.Heads.{struct}
use Rattle.lay_node.proofs.reader.StructsExact.{structs_exact}
use Rattle.lay_code.specs.declared.item.ItemKind.TheVariants as item
use Rattle.lay_read_heads.proofs.AsKinds.{kind_found, kind_none, kind_nowhere}
use Rattle.lay_read_heads.proofs.kinds.read_struct_alone.Goals as goal

pub returns-then-depth-eq0 : goal.returns-then-depth-eq0
returns-then-depth-eq0 c =
    let zero : c.args.depth ≡ 0 = omega arith in
    kind_nowhere item.Struct (λ x. headed (about_struct x)) (λ w ts. struct w.kinds ts) structs_exact c.args.depth c.args.at.now c.requires zero

pub returns-in_err-found : goal.returns-in_err-found
returns-in_err-found c =
    let some : 0 < c.args.depth = omega arith in
    let p = err_from_is_err_and c.from_residual.result c.from_residual.ensures.1 in
    rw (p.1, p.2) (kind_none item.Struct (λ x. headed (about_struct x)) (λ w ts. struct w.kinds ts) structs_exact c.args.depth c.args.at.now c.requires some
    c.new-ahead.result (c.new-ahead.ensures ∙ c.fork.ensures) c.in_err-found.field-0.0 c.in_err-found.ensures.read)

pub returns : goal.returns
returns c =
    let some : 0 < c.args.depth = omega arith in
    let found = c.in_ok-found.found in
    rw c.into_cursor.ensures (kind_found item.Struct (λ x. headed (about_struct x)) (λ w ts. struct w.kinds ts) structs_exact c.args.depth c.args.at.now c.requires some
    c.new-ahead.result (c.new-ahead.ensures ∙ c.fork.ensures) found.node found.need c.struct_ahead.new.at
    c.in_ok-found.ensures.read)
