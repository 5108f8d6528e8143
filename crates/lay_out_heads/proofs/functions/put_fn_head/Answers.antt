use Rattle.std.proofs.Common.{refl}
use Rattle.lay_out_types.proofs.Adding.{adds, adds_on}
use Rattle.lay_out_heads.proofs.FunctionLemmas.{fn_head_is}
use Rattle.lay_out_heads.proofs.functions.put_fn_head.Goals as goal

pub returns : goal.returns
returns g c =
    (adds (adds_on c.add_if-word.ensures (adds_on c.add_if-word-2.ensures
    (adds_on c.add_safety-safety.ensures (adds_on c.add_abi-abi.ensures
    (adds_on c.add_text-word.ensures c.add_signature.ensures)))))
    (fn_head_is c.args.head.now)).goes_on _ refl
