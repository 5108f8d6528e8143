use Rattle.lay_out_types.proofs.Adding.{adds, adds_on}
use Rattle.lay_out_heads.proofs.Rows.{may_end_head}
use Rattle.lay_out_code.specs.Parts.{foreign_head}
use Rattle.lay_out_code.proofs.MacroLemmas.{foreign_head_is}
use Rattle.lay_out_code.proofs.heads.add_foreign_head.Goals as goal

pub add_end-requires : goal.add_end-requires
add_end-requires g c =
    may_end_head c.args.vis.now (foreign_head c.args.is_unsafe c.args.abi.now)
    (adds_on c.open_head-opened.ensures
    (adds (adds_on c.add_if-word.ensures (adds_on c.add_text-word.ensures c.add_foreign_abi-head.ensures))
    (foreign_head_is c.args.is_unsafe c.args.abi.now)))

pub returns : goal.returns
returns g c =
    adds_on c.open_head-opened.ensures
    (adds_on (adds (adds_on c.add_if-word.ensures (adds_on c.add_text-word.ensures c.add_foreign_abi-head.ensures))
    (foreign_head_is c.args.is_unsafe c.args.abi.now)) c.add_end.ensures)
