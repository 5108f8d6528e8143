use Rattle.std.proofs.Common.{refl}
use Rattle.lay_out_types.proofs.Adding.{adds, adds_on}
use Rattle.lay_out_heads.proofs.HeadLemmas.{trait_head_is}
use Rattle.lay_out_heads.proofs.heads.put_trait_head.Goals as goal

pub returns : goal.returns
returns g c =
    (adds (adds_on c.add_if-word.ensures (adds_on c.add_called-name.ensures c.add_asked.ensures))
    (trait_head_is c.args.head.now _ c.as_slice.ensures)).goes_on _ refl
