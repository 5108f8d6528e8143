use Rattle.std.proofs.Common.{refl}
use Rattle.lay_code.specs.nodes.Places.{statement}
use Rattle.lay_read_blocks.proofs.Undressed.{undressed_read}
use Rattle.lay_read_blocks.proofs.rules.BlockRules.body_begun.Goals as goal

pub returns-clause-read : goal.returns-clause-read
returns-clause-read g c =
    let found = c.in_ok-found.found in
    let bare = c.body_of-body.ensures.node in
    let same = undressed_read c.args.self.now.depth statement c.args.at.now c.expr.new.at found.node c.body_of-body.result.node
    found.need bare.0 c.in_ok-found.ensures.read bare.1 in
    rw (c.in_ok-found.ensures.read, same, c.body_of-body.ensures.need, c.is_free-free.ensures, c.get.ensures) refl
