use Rattle.std.proofs.Common.{inl, inr, ap, ◌∙◌}
use Rattle.lay_node.specs.nodes.Types.{about_type}
use Rattle.lay_node.specs.declared.types.Ty.{Ty}
use Rattle.lay_code.specs.nodes.Ends.{ends_in_brace}
use Rattle.lay_ops_ends.proofs.TypeBraces.{bounds_end, no_bounds, of_call, of_path, of_pointer, of_reference}
use Rattle.lay_ops_ends.proofs.brace_ends.type_edge.Goals as goal

pub returns-in-Path-clause-told : goal.returns-in-Path-clause-told
returns-in-Path-clause-told c = c.path_edge.ensures.told ∙ of_path c.args.ty.now c.in-Path.path c.in-Path.is

pub returns-in-Ptr-clause-told : goal.returns-in-Ptr-clause-told
returns-in-Ptr-clause-told c =
    let x = c.args.ty.now in
    let pointed = c.in-Ptr.inner in
    ap (λ (y : Ty). ends_in_brace (about_type y).told.form) c.get-in-Ptr.ensures
    ∙ elim c.in-Ptr.is [ inl w ↦ of_pointer x w.0 pointed w.1 | inr w ↦ of_reference x w.0 w.1 pointed w.2 ]

pub returns-in-Some-clause-told : goal.returns-in-Some-clause-told
returns-in-Some-clause-told c =
    let b = c.in-Bounds in
    c.bound_edge.ensures.told
    ∙ bounds_end c.args.ty.now b.dynamic b.bounds c.as_slice.result.now c.in-Some.bound.now b.is c.as_slice.ensures
    c.in-Some.ensures.value

pub returns-in-None-clause-told : goal.returns-in-None-clause-told
returns-in-None-clause-told c =
    let b = c.in-Bounds in
    no_bounds c.args.ty.now b.dynamic b.bounds c.as_slice.result.now b.is c.as_slice.ensures c.in-None.ensures.value

pub returns-in-Call-clause-told : goal.returns-in-Call-clause-told
returns-in-Call-clause-told c = c.is_brace.ensures ∙ of_call c.args.ty.now c.in-Call.call c.in-Call.is
