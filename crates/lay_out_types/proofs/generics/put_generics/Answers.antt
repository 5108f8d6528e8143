use Rattle.std.proofs.Common.{refl}
use Rattle.lay_stream.proofs.Calls.{last, no_call}
use Rattle.lay_out_types.proofs.ClauseLemmas.{no_generics, some_generics}
use Rattle.lay_out_types.proofs.generics.put_generics.Goals as goal

pub returns-then-is_empty : goal.returns-then-is_empty
returns-then-is_empty g c =
    last no_call (no_generics c.args.generics.now _ _ c.as_slice-params.ensures c.is_empty.ensures c.if-is_empty.true)

pub returns : goal.returns
returns g c =
    last (c.add_params.ensures.goes_on _ refl)
    (some_generics c.args.generics.now _ _ c.as_slice-params.ensures c.is_empty.ensures c.if-is_empty.false)
