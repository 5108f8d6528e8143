use Rattle.std.proofs.Common.{refl}
use Rattle.lay_out_types.proofs.Adding.{adds, adds_on}
use Rattle.lay_out_heads.proofs.HeadLemmas.{const_head, static_head}
use Rattle.lay_out_heads.proofs.heads.put_value_head.Goals as goal

pub returns-in-Const : goal.returns-in-Const
returns-in-Const g c =
    (adds (adds_on c.add_text-word.ensures (adds_on c.add_given_name-name.ensures c.add_type.ensures))
    (const_head _ c.in-Const.name c.in-Const.ty c.in-Const.is)).goes_on _ refl

pub returns-in-Static : goal.returns-in-Static
returns-in-Static g c =
    (adds (adds_on c.add_text-word-in-Static.ensures (adds_on c.add_if-word.ensures
    (adds_on c.add_word-name.ensures (adds_on c.add_text-colon.ensures c.add_type-in-Static.ensures))))
    (static_head _ c.in-Static.mutable c.in-Static.name c.in-Static.ty c.in-Static.is)).goes_on _ refl
