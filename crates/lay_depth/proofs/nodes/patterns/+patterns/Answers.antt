use Rattle.std.proofs.Common.{arith}
use Rattle.lay_node.specs.nodes.Patterns.{about_field_pat}
use Rattle.lay_depth.proofs.nodes_lemmas.Loops.{all_told, form_of, turn}
use Rattle.lay_depth.proofs.nodes_lemmas.PatternLemmas as of
use Rattle.lay_depth.proofs.nodes_lemmas.PatternLemmas.{form_of_pat}
use Rattle.lay_depth.proofs.nodes.patterns.+patterns.Goals as goal

pub field_depth-returns : goal.field_depth-returns
field_depth-returns g c =
    let m = of.field_is c.args.field.now c.in-Named.pat c.in-Named.is in omega (arith, m, c.pat_depth.ensures)

pub fields_depth-loop-field-preserved : goal.fields_depth-loop-field-preserved
fields_depth-loop-field-preserved g c =
    turn (form_of about_field_pat) c.args.fields.now _ _ _ _ _ c.loop-field-test.true c.field-item.is c.loop-field.invariant
    c.field_depth.ensures c.max-most.ensures

pub fields_depth-returns : goal.fields_depth-returns
fields_depth-returns g c = all_told about_field_pat c.args.fields.now _ _ c.loop-field-test.false c.loop-field.invariant

pub pats_depth-loop-pat-preserved : goal.pats_depth-loop-pat-preserved
pats_depth-loop-pat-preserved g c =
    turn form_of_pat c.args.pats.now _ _ _ _ _ c.loop-pat-test.true c.pat-item.is c.loop-pat.invariant
    c.pat_depth.ensures c.max-most.ensures

pub pats_depth-returns : goal.pats_depth-returns
pats_depth-returns g c = of.all_pats c.args.pats.now _ _ c.loop-pat-test.false c.loop-pat.invariant

pub pat_depth-returns-in-Value : goal.pat_depth-returns-in-Value
pat_depth-returns-in-Value g c = of.leaf_pat_is c.args.pat.now c.in-Value.is

pub pat_depth-returns-in-Or : goal.pat_depth-returns-in-Or
pat_depth-returns-in-Or g c =
    let m = of.or_is c.args.pat.now c.in-Or.alternatives c.in-Or.is in
    let n = rw c.as_slice.ensures at c.pats_depth.ensures in omega (arith, m, n, c.deeper-in-Or.ensures)

pub pat_depth-returns-in-Path : goal.pat_depth-returns-in-Path
pat_depth-returns-in-Path g c =
    let m = of.path_is c.args.pat.now c.in-Path.path c.in-Path.is in omega (arith, m, c.path_depth.ensures, c.deeper-in-Path.ensures)

pub pat_depth-returns-in-Span : goal.pat_depth-returns-in-Span
pat_depth-returns-in-Span g c =
    let m = of.span_is c.args.pat.now c.in-Span.start c.in-Span.inclusive c.in-Span.end c.in-Span.is in
    let start = rw c.get-in-Span.ensures at c.end_depth.ensures in
    let end = rw c.get-in-Span-2.ensures at c.end_depth-in-Span.ensures in
    omega (arith, m, start, end, c.max.ensures, c.deeper-in-Span.ensures)

pub pat_depth-returns-in-Struct : goal.pat_depth-returns-in-Struct
pat_depth-returns-in-Struct g c =
    let m = of.struct_is c.args.pat.now c.in-Struct.path c.in-Struct.fields c.in-Struct.rest c.in-Struct.is in
    let n = rw c.as_slice-in-Struct.ensures at c.fields_depth.ensures in
    omega (arith, m, n, c.path_depth-in-Struct.ensures, c.max-in-Struct.ensures, c.deeper-in-Struct.ensures)

pub pat_depth-returns-in-TupleStruct : goal.pat_depth-returns-in-TupleStruct
pat_depth-returns-in-TupleStruct g c =
    let m = of.tuple_struct_is c.args.pat.now c.in-TupleStruct.path c.in-TupleStruct.elements c.in-TupleStruct.is in
    let n = rw c.as_slice-in-TupleStruct.ensures at c.pats_depth-in-TupleStruct.ensures in
    omega (arith, m, n, c.path_depth-in-TupleStruct.ensures, c.max-in-TupleStruct.ensures, c.deeper-in-TupleStruct.ensures)

pub pat_depth-returns-in-Tuple : goal.pat_depth-returns-in-Tuple
pat_depth-returns-in-Tuple g c =
    let m = of.tuple_or_slice c.args.pat.now c.in-Tuple.elements c.in-Tuple.is in
    let n = rw c.as_slice-in-Tuple.ensures at c.pats_depth-in-Tuple.ensures in omega (arith, m, n, c.deeper-in-Tuple.ensures)

pub pat_depth-returns-in-Ref : goal.pat_depth-returns-in-Ref
pat_depth-returns-in-Ref g c =
    let m = of.ref_or_paren c.args.pat.now c.in-Ref.inner c.in-Ref.is in
    let n = rw c.get-in-Ref.ensures at c.pat_depth-in-Ref.ensures in omega (arith, m, n, c.deeper-in-Ref.ensures)

pub pat_depth-returns-in-Value-2 : goal.pat_depth-returns-in-Value-2
pat_depth-returns-in-Value-2 g c = of.leaf_pat_is c.args.pat.now c.in-Value.is

pub pat_depth-returns-in-Value-3 : goal.pat_depth-returns-in-Value-3
pat_depth-returns-in-Value-3 g c = of.leaf_pat_is c.args.pat.now c.in-Value.is

pub pat_depth-returns-in-Value-4 : goal.pat_depth-returns-in-Value-4
pat_depth-returns-in-Value-4 g c = of.leaf_pat_is c.args.pat.now c.in-Value.is

pub pat_depth-returns-in-None : goal.pat_depth-returns-in-None
pat_depth-returns-in-None g c =
    let x = c.in-Bind in
    let m = of.name_is c.args.pat.now x.by_ref x.mutable x.name x.of x.is c.in-None.is in omega (arith, m)

pub pat_depth-returns-in-Some : goal.pat_depth-returns-in-Some
pat_depth-returns-in-Some g c =
    let x = c.in-Bind in
    let m = of.bound_is c.args.pat.now x.by_ref x.mutable x.name x.of c.in-Some.pat x.is c.in-Some.is in
    let n = rw c.get.ensures at c.pat_depth.ensures in omega (arith, m, n, c.deeper.ensures)
