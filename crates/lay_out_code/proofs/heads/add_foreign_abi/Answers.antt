use Rattle.lay_out_types.proofs.Adding.{adds, adds_on}
use Rattle.lay_out_code.proofs.MacroLemmas.{named_abi}
use Rattle.lay_out_code.proofs.heads.add_foreign_abi.Goals as goal

pub returns-in-Some : goal.returns-in-Some
returns-in-Some g c =
    adds (adds_on c.add_text-blank.ensures c.add_literal.ensures) (named_abi c.args.abi.now _ c.in-Some.is)
