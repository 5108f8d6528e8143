use Rattle.std.proofs.Common.{[], ◌∷◌, ◌++◌, false, map, codes, pos, take}
use Rattle.lay_form.specs.Stream.{stream_of}
use Rattle.lay_layout.specs.declared.layout.Tok.TheVariants as tok
use Rattle.lay_node.specs.nodes.Types.{about_arg, about_bound, about_func_param, about_start}
use Rattle.lay_out_types.specs.Calls.{Adds}
use Rattle.lay_out_types.specs.Rows.{comma_between, list_opened, plus_between, row}
use Rattle.lay_out_types.proofs.TypeLemmas.{segment_part, told_form, form_of}
use Rattle.lay_out_types.proofs.types.+add_type.Given as goal

-- what a path begins with, and the segments so far, are put
abbrev pub invariant-add_path-loop-index : goal.invariant-add_path-loop-index
invariant-add_path-loop-index g l =
    Adds g.E.Emit.meanings l.fn.before l.fn.out
    (stream_of (about_start l.path.start).form
    ++ row [] (tok.Text (codes "::") ∷ []) (map (segment_part l.style) (take l.index l.segments))) l.done l.out

-- the elements so far are put
abbrev pub invariant-add_angles-loop-index : goal.invariant-add_angles-loop-index
invariant-add_angles-loop-index g l =
    Adds g.E.Emit.meanings l.fn.before l.fn.out
    (row (list_opened (codes "<")) comma_between (map (form_of about_arg) (take l.index l.args))) l.done l.out

abbrev pub invariant-add_bounds-loop-index : goal.invariant-add_bounds-loop-index
invariant-add_bounds-loop-index g l =
    Adds g.E.Emit.meanings l.fn.before l.fn.out
    (tok.Begin false (pos 4) ∷ row [] plus_between (map (form_of about_bound) (take l.index l.bounds))) l.done l.out

abbrev pub invariant-add_types-loop-index : goal.invariant-add_types-loop-index
invariant-add_types-loop-index g l =
    Adds g.E.Emit.meanings l.fn.before l.fn.out
    (row (list_opened (codes "(")) comma_between (map told_form (take l.index l.types))) l.done l.out

abbrev pub invariant-add_params-loop-index : goal.invariant-add_params-loop-index
invariant-add_params-loop-index g l =
    Adds g.E.Emit.meanings l.fn.before l.fn.out
    (row (list_opened (codes "(")) comma_between (map (form_of about_func_param) (take l.index l.params))) l.done l.out
