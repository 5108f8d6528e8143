use Rattle.std.proofs.Common.{refl}
use Rattle.lay_out_types.proofs.Adding.{adds, adds_on}
use Rattle.lay_out_heads.proofs.HeadLemmas.{impl_head_is}
use Rattle.lay_out_heads.proofs.heads.put_impl_head.Goals as goal

pub returns : goal.returns
returns g c =
    (adds (adds_on c.add_if-word.ensures (adds_on c.add_text-word.ensures
    (adds_on c.add_generics-generics.ensures (adds_on c.add_text-blank.ensures
    (adds_on c.add_trait_ref-of.ensures c.add_type.ensures)))))
    (impl_head_is c.args.head.now)).goes_on _ refl
