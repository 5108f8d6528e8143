use Rattle.std.proofs.Common.{◌≡◌, ◌<◌, ◌∙◌, arith}
use Rattle.std.proofs.lemmas.Result.{err_from_is_err_and}
use Rattle.lay_node.specs.nodes.Heads.{about_trait_head}
use Rattle.lay_node.specs.reader.Heads.{trait_head}
use Rattle.lay_node.proofs.reader.TraitHeads.{trait_heads_exact}
use Rattle.lay_read_tokens.specs.declared.stop.ReadNone.TheVariants.{NoReading}
use Rattle.lay_read_heads.proofs.AtFront.{head_nowhere, head_none, head_found, trait_found, trait_none}
use Rattle.lay_read_heads.proofs.reads.read_trait_head.Goals as goal

pub returns-then-depth-eq0 : goal.returns-then-depth-eq0
returns-then-depth-eq0 c =
    let zero : c.args.depth ≡ 0 = omega arith in
    trait_none c.args.depth c.args.at.now NoReading c.args.at.now
    (head_nowhere about_trait_head (λ w ts. trait_head w.kinds ts) trait_heads_exact c.args.depth c.args.at.now c.requires zero)

pub returns-in_err-found : goal.returns-in_err-found
returns-in_err-found c =
    let some : 0 < c.args.depth = omega arith in
    let p = err_from_is_err_and c.from_residual.result c.from_residual.ensures.1 in
    rw (p.1, p.2) (trait_none c.args.depth c.args.at.now c.in_err-found.field-0.0 c.args.at.now
    (head_none about_trait_head (λ w ts. trait_head w.kinds ts) trait_heads_exact c.args.depth c.args.at.now c.requires some
    c.new-ahead.result (c.new-ahead.ensures ∙ c.fork.ensures) c.in_err-found.field-0.0 c.in_err-found.ensures.read))

pub returns : goal.returns
returns c =
    let some : 0 < c.args.depth = omega arith in
    let found = c.in_ok-found.found in
    rw c.into_cursor.ensures (trait_found c.args.depth c.args.at.now found.node c.trait_head_ahead.new.at
    (head_found about_trait_head (λ w ts. trait_head w.kinds ts) trait_heads_exact c.args.depth c.args.at.now c.requires some
    c.new-ahead.result (c.new-ahead.ensures ∙ c.fork.ensures) found.node found.need c.trait_head_ahead.new.at
    c.in_ok-found.ensures.read))
