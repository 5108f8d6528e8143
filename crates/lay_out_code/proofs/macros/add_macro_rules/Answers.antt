use Rattle.lay_out_types.proofs.Adding.{adds, adds_on}
use Rattle.lay_out_code.proofs.MacroLemmas.{rules_parts}
use Rattle.lay_out_code.proofs.macros.add_macro_rules.Goals as goal

pub returns : goal.returns
returns g c =
    adds (adds_on c.add_text-word.ensures (adds_on c.add_word-name.ensures (adds_on c.add_before_rules-blank.ensures
    (adds_on c.add_group-group.ensures c.add_item_end.ensures))))
    (rules_parts c.args.name.now c.args.rules.now)
