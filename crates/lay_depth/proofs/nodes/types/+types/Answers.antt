use Rattle.std.proofs.Common.{◌∙◌, ap, arith}
use Rattle.lay_node.specs.nodes.Types.{about_arg, about_bound}
use Rattle.lay_node.specs.declared.types.PathStyle.TheVariants.{Kind}
use Rattle.lay_depth.specs.nodes.Depths.{counted, greatest, segment_args}
use Rattle.lay_depth.proofs.nodes_lemmas.Loops.{all_told, all_turns, form_of, turn}
use Rattle.lay_depth.proofs.nodes_lemmas.PathLemmas.{path_is}
use Rattle.lay_depth.proofs.nodes_lemmas.TypeLemmas as of
use Rattle.lay_depth.proofs.nodes.types.+types.Goals as goal

pub type_depth-returns-in-Call : goal.type_depth-returns-in-Call
type_depth-returns-in-Call g c = of.leaf_type c.args.ty.now c.in-Call.is

pub type_depth-returns-in-Call-2 : goal.type_depth-returns-in-Call-2
type_depth-returns-in-Call-2 g c = of.leaf_type c.args.ty.now c.in-Call.is

pub type_depth-returns-in-Call-3 : goal.type_depth-returns-in-Call-3
type_depth-returns-in-Call-3 g c = of.leaf_type c.args.ty.now c.in-Call.is

pub type_depth-returns-in-Path : goal.type_depth-returns-in-Path
type_depth-returns-in-Path g c =
    let m = of.path_type c.args.ty.now c.in-Path.path c.in-Path.is in omega (arith, m, c.path_depth.ensures, c.deeper.ensures)

pub type_depth-returns-in-Tuple : goal.type_depth-returns-in-Tuple
type_depth-returns-in-Tuple g c =
    let m = of.tuple_type c.args.ty.now c.in-Tuple.elements c.in-Tuple.is in
    let n = rw c.as_slice.ensures at c.types_depth.ensures in omega (arith, m, n, c.deeper-in-Tuple.ensures)

pub type_depth-returns-in-Paren : goal.type_depth-returns-in-Paren
type_depth-returns-in-Paren g c =
    let m = of.inner_type c.args.ty.now c.in-Paren.inner c.in-Paren.is in
    let n = rw c.get.ensures at c.type_depth.ensures in omega (arith, m, n, c.deeper-in-Paren.ensures)

pub type_depth-returns-in-Func : goal.type_depth-returns-in-Func
type_depth-returns-in-Func g c =
    let m = of.function_type c.args.ty.now c.in-Func.binder c.in-Func.is_unsafe c.in-Func.abi c.in-Func.params c.in-Func.variadic
    c.in-Func.output c.in-Func.is in
    let n = rw c.as_slice-in-Func.ensures at c.params_depth.ensures in
    omega (arith, m, n, c.output_depth.ensures, c.max.ensures, c.deeper-in-Func.ensures)

pub type_depth-returns-in-Bounds : goal.type_depth-returns-in-Bounds
type_depth-returns-in-Bounds g c =
    let m = of.bounds_type c.args.ty.now c.in-Bounds.dynamic c.in-Bounds.bounds c.in-Bounds.is in
    let n = rw c.as_slice-in-Bounds.ensures at c.bounds_depth.ensures in omega (arith, m, n, c.deeper-in-Bounds.ensures)

pub types_depth-loop-ty-preserved : goal.types_depth-loop-ty-preserved
types_depth-loop-ty-preserved g c =
    turn of.told_form c.args.types.now _ _ _ _ _ c.loop-ty-test.true c.ty-item.is c.loop-ty.invariant
    c.type_depth.ensures c.max-most.ensures

pub types_depth-returns : goal.types_depth-returns
types_depth-returns g c =
    all_turns of.told_form c.args.types.now _ _ c.loop-ty-test.false c.loop-ty.invariant
    ∙ ap (λ es. counted (greatest es)) (of.type_forms_are c.args.types.now)

pub params_depth-loop-param-preserved : goal.params_depth-loop-param-preserved
params_depth-loop-param-preserved g c =
    turn of.param_type c.args.params.now _ _ _ _ _ c.loop-param-test.true c.param-item.is c.loop-param.invariant
    c.type_depth.ensures c.max-most.ensures

pub params_depth-returns : goal.params_depth-returns
params_depth-returns g c =
    all_turns of.param_type c.args.params.now _ _ c.loop-param-test.false c.loop-param.invariant
    ∙ ap counted (of.param_types_are c.args.params.now)

pub output_depth-returns-in-Some : goal.output_depth-returns-in-Some
output_depth-returns-in-Some g c =
    let m = of.some_output c.args.output.now c.in-Some.ty c.in-Some.is in
    let n = rw c.get.ensures at c.type_depth.ensures in omega (arith, m, n)

pub output_depth-returns-in-None : goal.output_depth-returns-in-None
output_depth-returns-in-None g c =
    let m = of.no_output c.args.output.now c.in-None.is in omega (arith, m)

pub path_depth-returns : goal.path_depth-returns
path_depth-returns g c =
    let m = path_is c.args.path.now Kind in
    let n = rw c.as_slice.ensures at c.segments_depth.ensures in omega (arith, m, n, c.start_depth.ensures, c.max.ensures)

pub start_depth-returns-in-Local : goal.start_depth-returns-in-Local
start_depth-returns-in-Local g c = of.leaf_start c.args.start.now c.in-Local.is

pub start_depth-returns-in-Local-2 : goal.start_depth-returns-in-Local-2
start_depth-returns-in-Local-2 g c = of.leaf_start c.args.start.now c.in-Local.is

pub start_depth-returns-in-None : goal.start_depth-returns-in-None
start_depth-returns-in-None g c =
    let m = of.bare_start c.args.start.now c.in-Qualified.ty c.in-Qualified.of c.in-Qualified.is c.in-None.is in
    let n = rw c.get.ensures at c.type_depth-within.ensures in omega (arith, m, n)

pub start_depth-returns-in-Some : goal.start_depth-returns-in-Some
start_depth-returns-in-Some g c =
    let m = of.taken_start c.args.start.now c.in-Qualified.ty c.in-Qualified.of c.in-Some.path c.in-Qualified.is c.in-Some.is in
    let n = rw c.get.ensures at c.type_depth-within.ensures in
    let o = rw c.get-in-Some.ensures at c.path_depth.ensures in omega (arith, m, n, o, c.deeper.ensures, c.max.ensures)

pub segments_depth-loop-args-preserved : goal.segments_depth-loop-args-preserved
segments_depth-loop-args-preserved g c =
    turn segment_args c.args.segments.now _ _ _ _ _ c.loop-args-test.true c.loop-args-item.is c.loop-args.invariant
    c.args_depth.ensures c.max-most.ensures

pub segments_depth-returns : goal.segments_depth-returns
segments_depth-returns g c = all_turns segment_args c.args.segments.now _ _ c.loop-args-test.false c.loop-args.invariant

pub args_depth-returns-in-None : goal.args_depth-returns-in-None
args_depth-returns-in-None g c = let m = of.no_args c.args.args.now c.in-None.is in omega (arith, m)

pub args_depth-returns-in-Angle : goal.args_depth-returns-in-Angle
args_depth-returns-in-Angle g c =
    let m = of.angle_args c.args.args.now c.in-Angle.args c.in-Angle.is in
    let n = rw c.as_slice.ensures at c.arguments_depth.ensures in omega (arith, m, n)

pub args_depth-returns-in-Round : goal.args_depth-returns-in-Round
args_depth-returns-in-Round g c =
    let m = of.round_args c.args.args.now c.in-Round.inputs c.in-Round.output c.in-Round.is in
    let n = rw c.as_slice-in-Round.ensures at c.types_depth.ensures in omega (arith, m, n, c.output_depth.ensures, c.max.ensures)

pub arguments_depth-loop-arg-preserved : goal.arguments_depth-loop-arg-preserved
arguments_depth-loop-arg-preserved g c =
    turn (form_of about_arg) c.args.args.now _ _ _ _ _ c.loop-arg-test.true c.arg-item.is c.loop-arg.invariant
    c.arg_depth.ensures c.max-most.ensures

pub arguments_depth-returns : goal.arguments_depth-returns
arguments_depth-returns g c = all_told about_arg c.args.args.now _ _ c.loop-arg-test.false c.loop-arg.invariant

pub arg_depth-returns-in-Region : goal.arg_depth-returns-in-Region
arg_depth-returns-in-Region g c = of.leaf_arg c.args.arg.now c.in-Region.is

pub arg_depth-returns-in-Region-2 : goal.arg_depth-returns-in-Region-2
arg_depth-returns-in-Region-2 g c = of.leaf_arg c.args.arg.now c.in-Region.is

pub arg_depth-returns-in-Plain : goal.arg_depth-returns-in-Plain
arg_depth-returns-in-Plain g c =
    let m = of.plain_arg c.args.arg.now c.in-Plain.ty c.in-Plain.is in omega (arith, m, c.type_depth.ensures)

pub arg_depth-returns-in-Named : goal.arg_depth-returns-in-Named
arg_depth-returns-in-Named g c =
    let m = of.named_arg c.args.arg.now c.in-Named.name c.in-Named.args c.in-Named.constraint c.in-Named.is in
    omega (arith, m, c.args_depth.ensures, c.constraint_depth.ensures, c.max.ensures, c.deeper.ensures)

pub constraint_depth-returns-in-EqualConst : goal.constraint_depth-returns-in-EqualConst
constraint_depth-returns-in-EqualConst g c =
    let m = of.const_constraint c.args.constraint.now c.in-EqualConst.value c.in-EqualConst.is in omega (arith, m)

pub constraint_depth-returns-in-Equal : goal.constraint_depth-returns-in-Equal
constraint_depth-returns-in-Equal g c =
    let m = of.equal_constraint c.args.constraint.now c.in-Equal.ty c.in-Equal.is in omega (arith, m, c.type_depth.ensures)

pub constraint_depth-returns-in-Limit : goal.constraint_depth-returns-in-Limit
constraint_depth-returns-in-Limit g c =
    let m = of.limit_constraint c.args.constraint.now c.in-Limit.bounds c.in-Limit.is in
    let n = rw c.as_slice.ensures at c.bounds_depth.ensures in omega (arith, m, n)

pub bounds_depth-loop-bound-preserved : goal.bounds_depth-loop-bound-preserved
bounds_depth-loop-bound-preserved g c =
    turn (form_of about_bound) c.args.bounds.now _ _ _ _ _ c.loop-bound-test.true c.bound-item.is c.loop-bound.invariant
    c.bound_depth.ensures c.max-most.ensures

pub bounds_depth-returns : goal.bounds_depth-returns
bounds_depth-returns g c = all_told about_bound c.args.bounds.now _ _ c.loop-bound-test.false c.loop-bound.invariant

pub bound_depth-returns-in-Outlives : goal.bound_depth-returns-in-Outlives
bound_depth-returns-in-Outlives g c = of.leaf_bound c.args.bound.now c.in-Outlives.is

pub bound_depth-returns-in-Outlives-2 : goal.bound_depth-returns-in-Outlives-2
bound_depth-returns-in-Outlives-2 g c = of.leaf_bound c.args.bound.now c.in-Outlives.is

pub bound_depth-returns-in-Meets : goal.bound_depth-returns-in-Meets
bound_depth-returns-in-Meets g c =
    let m = of.meets_bound c.args.bound.now c.in-Meets.parens c.in-Meets.maybe c.in-Meets.binder c.in-Meets.path c.in-Meets.is in
    omega (arith, m, c.path_depth.ensures)
