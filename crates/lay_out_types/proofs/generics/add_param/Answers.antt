use Rattle.lay_out_types.proofs.Adding.{adds, adds_on}
use Rattle.lay_out_types.proofs.ClauseLemmas.{const_param, named_param}
use Rattle.lay_out_types.proofs.generics.add_param.Goals as goal

pub returns-in-Named : goal.returns-in-Named
returns-in-Named g c =
    adds (adds_on c.add_param_attrs-attrs.ensures
    (adds_on c.add_word-name.ensures (adds_on c.add_asked-bounds.ensures c.add_default.ensures)))
    (named_param _ c.in-Named.attrs _ c.in-Named.name c.in-Named.bounds _ c.in-Named.default c.in-Named.is
    c.as_slice.ensures c.as_slice-in-Named.ensures)

pub returns-in-Const : goal.returns-in-Const
returns-in-Const g c =
    adds (adds_on c.add_param_attrs-attrs-in-Const.ensures
    (adds_on c.add_text-word.ensures
    (adds_on c.add_word-name-in-Const.ensures
    (adds_on c.add_text-colon.ensures (adds_on c.add_type-ty.ensures c.add_const_default.ensures)))))
    (const_param _ c.in-Const.attrs _ c.in-Const.name c.in-Const.ty c.in-Const.default c.in-Const.is
    c.as_slice-in-Const.ensures)
