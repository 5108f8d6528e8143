use Rattle.std.proofs.Common.{◌∙◌}
use Rattle.std.proofs.lemmas.Result.{err_from_is_err_and}
use Rattle.lay_node.specs.nodes.Facts.{ToldFront}
use Rattle.lay_node.specs.nodes.Heads.{about_extern_crate, headed}
use Rattle.lay_node.specs.reader.Heads.{extern_crate}
use Rattle.lay_node.specs.declared.heads.ExternCrate.{ExternCrate}
use Rattle.lay_node.proofs.reader.OutsideExact.{extern_crates_exact}
use Rattle.lay_code.specs.declared.item.ItemKind.TheVariants as item
use Rattle.lay_read_tokens.proofs.Steps.{node_read, none_read}
use Rattle.lay_read_heads.proofs.AsKinds.{free_found, free_none}
use Rattle.lay_read_heads.proofs.kinds.read_extern_crate.Goals as goal

pub returns-in_err-item : goal.returns-in_err-item
returns-in_err-item c =
    let p = err_from_is_err_and c.from_residual.result c.from_residual.ensures.1 in
    rw (p.1, p.2) (free_none item.ExternCrate (λ x. headed (about_extern_crate x)) c.args.at.now c.args.at.now c.in_err-item.field-0.0
    (none_read extern_crate (λ (x : ExternCrate). ToldFront (headed (about_extern_crate x))) extern_crates_exact c.args.at.now c.requires
    c.new-ahead.result (c.new-ahead.ensures ∙ c.fork.ensures) c.in_err-item.field-0.0 c.in_err-item.ensures))

pub returns : goal.returns
returns c =
    rw c.into_cursor.ensures (free_found item.ExternCrate (λ x. headed (about_extern_crate x)) c.args.at.now c.extern_crate_ahead.new.at c.in_ok-item.item
    (node_read extern_crate (λ (x : ExternCrate). ToldFront (headed (about_extern_crate x))) extern_crates_exact c.args.at.now c.requires
    c.new-ahead.result (c.new-ahead.ensures ∙ c.fork.ensures) c.in_ok-item.item c.extern_crate_ahead.new.at c.in_ok-item.ensures))
