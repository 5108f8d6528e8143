-- Samples of types: how they are laid out, and what is read.
use Rattle.std.proofs.Common.{◌≡◌, ℕ, Bool, true, false, List, [], ◌∷◌, ◌++◌, Option, Some, None, codes, ap, ◌∙◌, refl}
use Rattle.std.specs.Prelude.{suc, max, replicate, if◌then◌else◌}
use Rattle.lay_layout.specs.Document.{text_of}
use Rattle.lay_piece.specs.declared.kind.Delim.TheVariants.{Paren, Brace}
use Rattle.lay_piece.specs.declared.kind.Kind.TheVariants as kind
use Rattle.lay_token.specs.Operators.{op_at}
use Rattle.lay_form.specs.Form.{Fixed, Form, Piece, Part, opener, semicolon}
use Rattle.lay_form.specs.Layout.{document}
use Rattle.lay_form.specs.Notation.{piece}
use Rattle.lay_node.specs.Begins.{lead_at}
use Rattle.lay_node.specs.Follow.{begins_there, OfBang}
use Rattle.lay_node.specs.nodes.Types.{PathFacts, about_type, about_path, about_bound, args_facts, bound_facts, path_facts, start_facts, ty_facts, starts_plain}
use Rattle.lay_node.specs.nodes.Where.{wheres_before_body, wheres_before_semicolon}
use Rattle.lay_node.specs.nodes.Generics.{generics_form}
use Rattle.lay_node.specs.reader.Attr.{attributes}
use Rattle.lay_node.specs.reader.Call.{call}
use Rattle.lay_node.specs.reader.Loops.{Read, ◌>>=◌, repeat_from, repeat, elements_from, elements, open_elements_from, open_elements}
use Rattle.lay_node.specs.reader.SimplePath.{simple_path}
use Rattle.lay_node.specs.reader.Tokens.{run, tokens_of, group}
use Rattle.lay_node.specs.reader.Types.{type_at, within, path_type, path, chain, segment, args_by, angle, one_arg, round, func_type, func_params, func_param, bounds_type, bounds_by, one_bound, meets, paren_type, path_of, constraint_by, named_type}
use Rattle.lay_node.specs.reader.Generics.{generics_at, generics}
use Rattle.lay_node.specs.reader.Where.{wheres_at, wheres, type_predicate}
use Rattle.lay_node.specs.reader.Words.{given_name, word as word_reading}
use Rattle.lay_node.specs.declared.generics.ConstDefault.TheVariants as const_default
use Rattle.lay_node.specs.declared.generics.GenericParam.TheVariants as param
use Rattle.lay_node.specs.declared.generics.Generics.{Generics}
use Rattle.lay_node.specs.declared.generics.Predicate.TheVariants as predicate
use Rattle.lay_node.specs.declared.generics.Wheres.{Wheres}
use Rattle.lay_node.specs.declared.token.GivenName.TheVariants as given
use Rattle.lay_node.specs.declared.token.Lifetime.{Lifetime}
use Rattle.lay_node.specs.declared.token.Literal.{Literal}
use Rattle.lay_node.specs.declared.token.Name.{Name}
use Rattle.lay_node.specs.declared.token.Word.{Word}
use Rattle.lay_node.specs.declared.types.Arg.{Arg}
use Rattle.lay_node.specs.declared.types.Arg.TheOpen.{Args-F, Bound-F, PathStart-F, Ty-F}
use Rattle.lay_node.specs.declared.types.Arg.TheVariants as arg
use Rattle.lay_node.specs.declared.types.Arg.TheViews as views
use Rattle.lay_node.specs.declared.types.Args.{Args}
use Rattle.lay_node.specs.declared.types.Args.TheVariants as args
use Rattle.lay_node.specs.declared.types.Binder.{Binder}
use Rattle.lay_node.specs.declared.types.Bound.{Bound}
use Rattle.lay_node.specs.declared.types.Bound.TheVariants as bound
use Rattle.lay_node.specs.declared.types.ConstArg.TheVariants as const_arg
use Rattle.lay_node.specs.declared.types.Constraint.TheVariants as constraint
use Rattle.lay_node.specs.declared.types.FuncParam.{FuncParam}
use Rattle.lay_node.specs.declared.types.Path.{Path}
use Rattle.lay_node.specs.declared.types.PathStart.TheVariants as start
use Rattle.lay_node.specs.declared.types.PathStyle.TheVariants.{Code, Kind as InKind}
use Rattle.lay_node.specs.declared.types.Ty.{Ty}
use Rattle.lay_node.specs.declared.types.Ty.TheVariants as ty
use Rattle.lay_node.specs.declared.types.TypePlace.TheVariants.{Bounds, NoBounds}
use Rattle.lay_token.specs.declared.token.Token.{Token}
use Rattle.lay_node.proofs.nodes.TypesLaws as types
use Rattle.lay_node.proofs.reader.TypesComplete.{as_path_is}
use Rattle.lay_node.proofs.samples.Tokens as list
use Rattle.lay_node.proofs.samples.Trees.{named, plain, a, b, laid, token, word, mark, colons, opens, closes}

-- ---- trees

-- a path of one word
abbrev pub local : List ℕ → Path
local text = record { start = start.Local; segments = (plain text, args.None) ∷ [] }

abbrev A : Ty
A = ty.Path (local (codes "A"))

abbrev pub B : Ty
B = ty.Path (local (codes "B"))

abbrev pub C : Ty
C = ty.Path (local (codes "C"))

abbrev E : Ty
E = ty.Path (local (codes "E"))

abbrev tick_a : Lifetime
tick_a = record { text = codes "'a" }

abbrev tick_b : Lifetime
tick_b = record { text = codes "'b" }

abbrev one : Literal
one = record { kind = kind.Int; text = codes "1" }

-- a bound that is one word
abbrev pub meeting : Bool → Bool → List ℕ → Bound
meeting parens maybe text = bound.Meets parens maybe None (local text)

-- `A<B>`
abbrev A_of_B : Ty
A_of_B = ty.Path (record { start = start.Local; segments = (plain (codes "A"), args.Angle (arg.Plain B ∷ [])) ∷ [] })

abbrev a_param : Binder
a_param = record { params = record { attrs = []; lifetime = tick_a; bounds = [] } ∷ [] }

abbrev func_param_of : Option (List ℕ) → Ty → FuncParam
func_param_of None x = record { attrs = []; name = None; ty = x }
func_param_of (Some text) x = record { attrs = []; name = Some (given.Name (named text)); ty = x }

-- `::a::B<C, 'a, 1, -1, D = E, F: G>`
abbrev all_args : List Arg
all_args = arg.Plain C ∷ arg.Region tick_a ∷ arg.Const (const_arg.Literal one) ∷ arg.Const (const_arg.Negative one)
    ∷ arg.Named (named (codes "D")) args.None (constraint.Equal E)
    ∷ arg.Named (named (codes "F")) args.None (constraint.Limit (meeting false false (codes "G") ∷ [])) ∷ []

abbrev with_all_args : Path
with_all_args = record { start = start.Global; segments = (plain a, args.None) ∷ (plain (codes "B"), args.Angle all_args) ∷ [] }

-- `<A as B>::C`
abbrev qualified : Path
qualified = record { start = start.Qualified A (Some (local (codes "B"))); segments = (plain (codes "C"), args.None) ∷ [] }

-- `Fn(A) -> B`
abbrev fn_path : Path
fn_path = record { start = start.Local; segments = (plain (codes "Fn"), args.Round (A ∷ []) (Some B)) ∷ [] }

-- `a::<B>`
abbrev pub a_of_B : Path
a_of_B = record { start = start.Local; segments = (plain a, args.Angle (arg.Plain B ∷ [])) ∷ [] }

-- `<'a: 'b, A: B = C, const D: E = 1>`
abbrev three_params : Generics
three_params = record {
  params = param.Region (record { attrs = []; lifetime = tick_a; bounds = tick_b ∷ [] })
      ∷ param.Named [] (named (codes "A")) (meeting false false (codes "B") ∷ []) (Some C)
      ∷ param.Const [] (named (codes "D")) E (Some (const_default.Arg (const_arg.Literal one))) ∷ [];
}

-- `where A: B`
abbrev pub where_A_is : List ℕ → Wheres
where_A_is text = record { predicates = predicate.Bounded None A (meeting false false text ∷ []) ∷ [] }

-- ---- the facts about them

abbrev pub local_facts : List ℕ → PathFacts
local_facts text = path_facts (record { start = start_facts PathStart-F.Local; segments = (plain text, args_facts Args-F.None) ∷ [] })

pub local_is : (text : List ℕ) → about_path (local text) ≡ local_facts text
local_is text = rw (types.path_is (local text), types.start_local_is, types.args_none_is) refl

pub named_is : (text : List ℕ) → about_type (ty.Path (local text)) ≡ ty_facts (Ty-F.Path (local_facts text))
named_is text = types.type_path_is (local text) ∙ ap (λ (p : PathFacts). ty_facts (Ty-F.Path p)) (local_is text)

A_is : about_type A ≡ ty_facts (Ty-F.Path (local_facts (codes "A")))
A_is = named_is (codes "A")

pub B_is : about_type B ≡ ty_facts (Ty-F.Path (local_facts (codes "B")))
B_is = named_is (codes "B")

pub meeting_is : (parens maybe : Bool) (text : List ℕ)
    → about_bound (meeting parens maybe text) ≡ bound_facts (Bound-F.Meets parens maybe None (local_facts text))
meeting_is parens maybe text =
    types.bound_meets_is parens maybe None (local text)
    ∙ ap (λ (p : PathFacts). bound_facts (Bound-F.Meets parens maybe None p)) (local_is text)

-- ---- layouts

abbrev laid_type : Ty → List ℕ
laid_type x = laid (about_type x).told

laid_name : (text : List ℕ) → laid_type (ty.Path (local text)) ≡ text
laid_name text = rw (named_is text) refl

laid_reference : laid_type (ty.Ref (Some tick_a) true A) ≡ codes "&'a mut A"
laid_reference = rw (types.type_ref_is (Some tick_a) true A, A_is) refl

laid_pointer : laid_type (ty.Ptr false A) ≡ codes "*const A"
laid_pointer = rw (types.type_ptr_is false A, A_is) refl

laid_array : laid_type (ty.Array A (list.number (codes "1") ∷ [])) ≡ codes "[A; 1]"
laid_array = rw (types.type_array_is A (list.number (codes "1") ∷ []), A_is) refl

laid_tuple_of_one : laid_type (ty.Tuple (A ∷ [])) ≡ codes "(A,)"
laid_tuple_of_one = rw (types.type_tuple_is (A ∷ []), A_is) refl

laid_tuple_of_none : laid_type (ty.Tuple []) ≡ codes "()"
laid_tuple_of_none = rw (types.type_tuple_is []) refl

laid_tuple : laid_type (ty.Tuple (A ∷ B ∷ [])) ≡ codes "(A, B)"
laid_tuple = rw (types.type_tuple_is (A ∷ B ∷ []), A_is, B_is) refl

laid_func : laid_type (ty.Func None false None (func_param_of (Some a) A ∷ []) true (Some B)) ≡ codes "fn(a: A, ...) -> B"
laid_func =
    rw (types.type_func_is None false None (func_param_of (Some a) A ∷ []) true (Some B), types.func_param_is (func_param_of (Some a) A), A_is, B_is)
    refl

laid_unsafe_func : laid_type (ty.Func None true (Some (record { name = Some (record { kind = kind.Str; text = codes "\"C\"" }) })) [] false None)
    ≡ codes "unsafe extern \"C\" fn()"
laid_unsafe_func =
    rw (types.type_func_is None true (Some (record { name = Some (record { kind = kind.Str; text = codes "\"C\"" }) })) [] false None) refl

laid_bound_func : laid_type (ty.Func (Some a_param) false None (func_param_of None (ty.Ref (Some tick_a) false A) ∷ []) false None)
    ≡ codes "for<'a> fn(&'a A)"
laid_bound_func =
    rw (
      types.type_func_is (Some a_param) false None (func_param_of None (ty.Ref (Some tick_a) false A) ∷ []) false None,
      types.func_param_is (func_param_of None (ty.Ref (Some tick_a) false A)),
      types.type_ref_is (Some tick_a) false A,
      A_is,
    )
    refl

laid_qualified : laid_type (ty.Path qualified) ≡ codes "<A as B>::C"
laid_qualified =
    rw (types.type_path_is qualified, types.path_is qualified, types.start_qualified_is A (Some (local (codes "B"))), A_is, local_is (codes "B"), types.args_none_is)
    refl

laid_all_args : laid_type (ty.Path with_all_args) ≡ codes "::a::B<C, 'a, 1, -1, D = E, F: G>"
laid_all_args =
    rw (
      types.type_path_is with_all_args,
      types.path_is with_all_args,
      types.start_global_is,
      types.args_angle_is all_args,
      types.arg_plain_is C,
      types.arg_region_is tick_a,
      types.arg_const_is (const_arg.Literal one),
      types.arg_const_is (const_arg.Negative one),
      types.arg_named_is (named (codes "D")) args.None (constraint.Equal E),
      types.constraint_equal_is E,
      types.arg_named_is (named (codes "F")) args.None (constraint.Limit (meeting false false (codes "G") ∷ [])),
      types.constraint_limit_is (meeting false false (codes "G") ∷ []),
      meeting_is false false (codes "G"),
      named_is (codes "C"),
      named_is (codes "E"),
      types.args_none_is,
    )
    refl

laid_fn_path : laid_type (ty.Path fn_path) ≡ codes "Fn(A) -> B"
laid_fn_path =
    rw (types.type_path_is fn_path, types.path_is fn_path, types.start_local_is, types.args_round_is (A ∷ []) (Some B), A_is, B_is) refl

laid_impl : laid_type (ty.Bounds false (meeting false false (codes "A") ∷ meeting false true (codes "B") ∷ [])) ≡ codes "impl A + ?B"
laid_impl =
    rw (
      types.type_bounds_is false (meeting false false (codes "A") ∷ meeting false true (codes "B") ∷ []),
      meeting_is false false (codes "A"),
      meeting_is false true (codes "B"),
    )
    refl

laid_dyn : laid_type (ty.Bounds true (meeting true false (codes "A") ∷ bound.Outlives tick_a ∷ [])) ≡ codes "dyn (A) + 'a"
laid_dyn =
    rw (types.type_bounds_is true (meeting true false (codes "A") ∷ bound.Outlives tick_a ∷ []), meeting_is true false (codes "A"), types.bound_outlives_is tick_a)
    refl

-- in code
laid_code : laid (about_path a_of_B Code) ≡ codes "a::<B>"
laid_code = rw (types.path_is a_of_B, types.start_local_is, types.args_angle_is (arg.Plain B ∷ []), types.arg_plain_is B, B_is) refl

laid_generics : text_of (document (generics_form three_params)) ≡ codes "<'a: 'b, A: B = C, const D: E = 1>"
laid_generics = rw (meeting_is false false (codes "B"), named_is (codes "C"), named_is (codes "E")) refl

-- a where clause after a word, and before a body or a `;`
abbrev before_body : Wheres → Form
before_body wheres = Piece (Fixed kind.Ident a ∷ []) (Part (wheres_before_body wheres) (piece (opener Brace ∷ [])))

abbrev before_semicolon : Wheres → Form
before_semicolon wheres = Piece (Fixed kind.Ident a ∷ []) (Part (wheres_before_semicolon wheres) (piece semicolon))

where_before_body : text_of (document (before_body (where_A_is (codes "B")))) ≡ codes "a where A: B {"
where_before_body = rw (A_is, meeting_is false false (codes "B")) refl

where_before_semicolon : text_of (document (before_semicolon (where_A_is (codes "B")))) ≡ codes "a where A: B;"
where_before_semicolon = rw (A_is, meeting_is false false (codes "B")) refl

-- lines of 89 columns, and what would be lines of 90
where_of_89 : text_of (document (before_body (where_A_is (replicate 76 98)))) ≡ codes "a where A: " ++ (replicate 76 98 ++ codes " {")
where_of_89 = rw (A_is, meeting_is false false (replicate 76 98)) refl

where_of_90 : text_of (document (before_body (where_A_is (replicate 77 98))))
    ≡ codes "a\nwhere\n    A: " ++ (replicate 77 98 ++ codes ",\n{")
where_of_90 = rw (A_is, meeting_is false false (replicate 77 98)) refl

semicolon_of_89 : text_of (document (before_semicolon (where_A_is (replicate 77 98)))) ≡ codes "a where A: " ++ (replicate 77 98 ++ codes ";")
semicolon_of_89 = rw (A_is, meeting_is false false (replicate 77 98)) refl

semicolon_of_90 : text_of (document (before_semicolon (where_A_is (replicate 78 98))))
    ≡ codes "a\nwhere\n    A: " ++ (replicate 78 98 ++ codes ";")
semicolon_of_90 = rw (A_is, meeting_is false false (replicate 78 98)) refl

-- ---- what is read

-- A parameter that begins with a joint `:` has no name.
read_global_param : type_at Bounds 2 (word (codes "fn") ∷ opens Paren ∷ colons (word (codes "A") ∷ closes Paren ∷ []))
    ≡ Some ((ty.Func None false None (func_param_of None (ty.Path (record { start = start.Global; segments = (plain (codes "A"), args.None) ∷ [] })) ∷ []) false None, 2), [])
unfolding within lead_at func_type func_params func_param attributes given_name open_elements open_elements_from simple_path path_type path chain repeat repeat_from segment args_by word_reading op_at
read_global_param = refl

-- `A<B>` is read before `=`.
read_before_equals : type_at Bounds 2 (word (codes "A") ∷ mark (codes "<") ∷ word (codes "B") ∷ token kind.Punct (codes ">") true ∷ mark (codes "=") ∷ [])
    ≡ Some ((A_of_B, 2), mark (codes "=") ∷ [])
unfolding within lead_at simple_path path_type path chain repeat repeat_from segment args_by angle elements elements_from one_arg word_reading op_at
read_before_equals = refl

-- `A<B>` is read before `<`.
read_before_less : type_at Bounds 2 (word (codes "A") ∷ mark (codes "<") ∷ word (codes "B") ∷ mark (codes ">") ∷ mark (codes "<") ∷ word b ∷ [])
    ≡ Some ((A_of_B, 2), mark (codes "<") ∷ word b ∷ [])
unfolding within lead_at simple_path path_type path chain repeat repeat_from segment args_by angle elements elements_from one_arg word_reading op_at
read_before_less = refl

-- `A<B>` before `!` is no type.
not_before_bang : type_at Bounds 2 (word (codes "A") ∷ mark (codes "<") ∷ word (codes "B") ∷ mark (codes ">") ∷ mark (codes "!") ∷ []) ≡ None
unfolding within lead_at simple_path path_type path chain repeat repeat_from segment args_by angle elements elements_from one_arg word_reading op_at
not_before_bang = refl

-- `m!()` is a type.
read_call : type_at Bounds 1 (word (codes "m") ∷ mark (codes "!") ∷ opens Paren ∷ closes Paren ∷ [])
    ≡ Some ((ty.Call (record { path = record { global = false; words = plain (codes "m") ∷ [] }; tokens = record { delim = Paren; tokens = [] } }), 1), [])
unfolding within lead_at simple_path call group tokens_of run repeat repeat_from word_reading op_at
read_call = refl

-- Where one bound may stand, one is read.
read_one_bound : type_at NoBounds 1 (word (codes "dyn") ∷ word (codes "A") ∷ mark (codes "+") ∷ word (codes "B") ∷ [])
    ≡ Some ((ty.Bounds true (meeting false false (codes "A") ∷ []), 1), mark (codes "+") ∷ word (codes "B") ∷ [])
unfolding within lead_at bounds_type bounds_by one_bound meets path chain repeat repeat_from segment args_by word_reading op_at
read_one_bound = refl

-- Where several may, all are.
read_bounds : type_at Bounds 1 (word (codes "dyn") ∷ word (codes "A") ∷ mark (codes "+") ∷ word (codes "B") ∷ [])
    ≡ Some ((ty.Bounds true (meeting false false (codes "A") ∷ meeting false false (codes "B") ∷ []), 1), [])
unfolding within lead_at bounds_type bounds_by one_bound meets path chain repeat repeat_from segment args_by word_reading op_at
read_bounds = refl

-- ---- what is read of generic parameters and where clauses, and how deep they are

-- `<>`
read_no_params : generics_at 1 (token kind.Punct (codes "<") true ∷ mark (codes ">") ∷ []) ≡ Some (((record { params = [] }, true), 1), [])
unfolding generics elements elements_from
read_no_params = refl

-- `where` alone
read_where_alone : wheres_at 1 (word (codes "where") ∷ opens Brace ∷ []) ≡ Some (((record { predicates = [] }, true), 1), opens Brace ∷ [])
unfolding wheres open_elements open_elements_from lead_at
read_where_alone = refl

-- a comma before a body
read_where_comma : wheres_at 2 (word (codes "where") ∷ word (codes "A") ∷ mark (codes ":") ∷ word (codes "B") ∷ mark (codes ",") ∷ opens Brace ∷ [])
    ≡ Some (((where_A_is (codes "B"), true), 2), opens Brace ∷ [])
unfolding wheres open_elements open_elements_from type_predicate within lead_at simple_path path_type path chain repeat repeat_from segment args_by one_bound meets word_reading op_at
read_where_comma = refl

-- ---- return types, and what is asked of a name

-- `B::C`
abbrev pub B_then_C : Path
B_then_C = record { start = start.Local; segments = (plain (codes "B"), args.None) ∷ (plain (codes "C"), args.None) ∷ [] }

B_then_C_read : path (within 0) InKind (word (codes "B") ∷ colons (word (codes "C") ∷ [])) ≡ Some ((B_then_C, 0), [])
unfolding path chain repeat repeat_from segment args_by word_reading op_at
B_then_C_read = rw types.args_none_is refl

type_B_then_C : type_at NoBounds 1 (word (codes "B") ∷ colons (word (codes "C") ∷ [])) ≡ Some ((ty.Path B_then_C, 1), [])
unfolding within lead_at path_type simple_path repeat repeat_from word_reading op_at
type_B_then_C =
    ap (λ (r : Read Path). do p ← r; if begins_there OfBang p.1 then None else Some ((ty.Path p.0.0, suc p.0.1), p.1)) B_then_C_read

abbrev with_output : Read Ty → Read (Option Ty)
with_output r = do x ← r; Some ((Some x.0.0, x.0.1), x.1)

abbrev as_round : Read (Option Ty) → Read Args
as_round r = do o ← r; Some ((args.Round [] o.0.0, max 0 o.0.1), o.1)

-- In `Fn() -> B::C` all of `B::C` is the return type.
read_return : round (within 1) (opens Paren ∷ closes Paren ∷ token kind.Punct (codes "-") true ∷ mark (codes ">") ∷ word (codes "B") ∷ colons (word (codes "C") ∷ []))
    ≡ Some ((args.Round [] (Some (ty.Path B_then_C)), 1), [])
unfolding round elements elements_from op_at
read_return = ap (λ (r : Read Ty). as_round (with_output r)) type_B_then_C

-- `Fn() -> (B)::C`
abbrev return_then_C : List Token
return_then_C = word (codes "Fn") ∷ opens Paren ∷ closes Paren ∷ token kind.Punct (codes "-") true ∷ mark (codes ">")
    ∷ opens Paren ∷ word (codes "B") ∷ closes Paren ∷ colons (word (codes "C") ∷ [])

abbrev return_then_C_segments : List (Word × Args)
return_then_C_segments = (plain (codes "Fn"), args.Round [] (Some (ty.Paren B))) ∷ (plain (codes "C"), args.None) ∷ []

-- Two segments would be read, of which the first has a return type.
not_behind_a_return : path (within 2) InKind return_then_C ≡ None
unfolding within lead_at paren_type path_type simple_path path chain repeat repeat_from segment args_by round elements elements_from word_reading op_at
not_behind_a_return = two_segments ∙ refused
  where
    two_segments : path (within 2) InKind return_then_C ≡ path_of start.Local 2 return_then_C_segments []
    two_segments = refl

    refused : path_of start.Local 2 return_then_C_segments [] ≡ None
    refused = rw (types.args_round_is [] (Some (ty.Paren B))) refl

-- `B = C` among arguments needs a level, and `C` another one.
B_named : named_type B ≡ Some (named (codes "B"), args.None)
B_named = rw (as_path_is (local (codes "B")), plain_start, types.args_none_is) refl
  where
    plain_start : starts_plain (views.out-PathStart start.Local) ≡ true
    plain_start = ap starts_plain views.outs-Local

abbrev B_is_C : List Token
B_is_C = word (codes "B") ∷ mark (codes "=") ∷ word (codes "C") ∷ mark (codes ">") ∷ []

read_equal : one_arg (within 2) B_is_C ≡ Some ((arg.Named (named (codes "B")) args.None (constraint.Equal C), 2), mark (codes ">") ∷ [])
unfolding one_arg within lead_at constraint_by path_type simple_path path chain repeat repeat_from segment args_by word_reading op_at
read_equal =
    ap (λ (r : Option (Name × Args)). do n ← r; Some ((arg.Named n.0 n.1 (constraint.Equal C), 2), mark (codes ">") ∷ [])) B_named

none_of_a_name : Option (Name × Args) → Read Arg
none_of_a_name r = do n ← r; None

not_equal_within_one : one_arg (within 1) B_is_C ≡ None
unfolding one_arg within lead_at constraint_by path_type simple_path path chain repeat repeat_from segment args_by word_reading op_at none_of_a_name
not_equal_within_one = ap none_of_a_name B_named
