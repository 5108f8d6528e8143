use Rattle.lay_out_types.proofs.Adding.{adds, adds_on}
use Rattle.lay_out_heads.proofs.FunctionLemmas.{named_variadic, own_self, ref_self, typed_param}
use Rattle.lay_out_heads.proofs.functions.add_param_kind.Goals as goal

pub returns-in-RefSelf : goal.returns-in-RefSelf
returns-in-RefSelf g c =
    adds (adds_on c.add_reference-reference.ensures (adds_on c.add_if-word.ensures c.add_text.ensures))
    (ref_self _ c.in-RefSelf.lifetime c.in-RefSelf.mutable c.in-RefSelf.is)

pub returns-in-OwnSelf : goal.returns-in-OwnSelf
returns-in-OwnSelf g c =
    adds (adds_on c.add_if-word-in-OwnSelf.ensures (adds_on c.add_text-word.ensures c.add_self_type.ensures))
    (own_self _ c.in-OwnSelf.mutable c.in-OwnSelf.ty c.in-OwnSelf.is)

pub returns-in-Typed : goal.returns-in-Typed
returns-in-Typed g c =
    adds (adds_on c.add_pat-pat.ensures (adds_on c.add_text-colon.ensures c.add_type.ensures))
    (typed_param _ c.in-Typed.pat c.in-Typed.ty c.in-Typed.is)

pub returns-in-NamedVariadic : goal.returns-in-NamedVariadic
returns-in-NamedVariadic g c =
    adds (adds_on c.add_pat-pat-in-NamedVariadic.ensures c.add_text-in-NamedVariadic.ensures)
    (named_variadic _ c.in-NamedVariadic.pat c.in-NamedVariadic.is)
