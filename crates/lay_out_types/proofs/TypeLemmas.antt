-- The streams of paths, generic arguments, bounds and types, kind by kind.
use Rattle.std.proofs.Common.{◌≡◌, ℕ, Bool, true, false, cond, List, [], ◌∷◌, ◌++◌, map, length, ◌≤◌, ◌<◌, get_or}
use Rattle.std.proofs.Common.{codes, pos, not, Option, option_map, Some, None, refl, sym, ap, ◌∙◌, append_assoc}
use Rattle.std.proofs.Common.{append-nil, arith}
use Rattle.lay_layout.specs.declared.layout.Tok.{Tok}
use Rattle.lay_layout.specs.declared.layout.Tok.TheVariants as tok
use Rattle.lay_piece.specs.Characters as char
use Rattle.lay_piece.specs.declared.kind.Delim.TheVariants.{Paren, Bracket}
use Rattle.lay_piece.specs.declared.kind.Kind.TheVariants as kind
use Rattle.lay_form.specs.Form.{Bit, Blank, Fixed, Operator, Form, Done, Piece, Part, punct, opener, closer, keyword}
use Rattle.lay_form.specs.Form.{semicolon}
use Rattle.lay_form.specs.Notation.{B, I4, comma_list, piece, when}
use Rattle.lay_form.specs.Stream.{fed, stream_of}
use Rattle.lay_node.specs.Words.{colons, leaf_of}
use Rattle.lay_node.specs.nodes.Call.{call_form}
use Rattle.lay_node.specs.nodes.Facts.{Facts, forms}
use Rattle.lay_node.specs.nodes.Types.{PathFacts, TypeFacts, ArgsFacts, about_arg, about_args, about_bound}
use Rattle.lay_node.specs.nodes.Types.{about_constraint, about_func_param, about_path, about_start, about_type}
use Rattle.lay_node.specs.nodes.Types.{args_facts, abi_form, angle_form, binder_form, bounds_form, capture_form, colon}
use Rattle.lay_node.specs.nodes.Types.{dots, equals, greater, joined, less, in_style, meets_form, output_form}
use Rattle.lay_node.specs.nodes.Types.{param_attrs, param_name, params_form, ref_lifetime, segment_form, segments_form}
use Rattle.lay_node.specs.nodes.Types.{const_form, type_forms}
use Rattle.lay_node.specs.tokens.Lists.{token_list}
use Rattle.lay_node.specs.declared.attr.Attr.{Attr}
use Rattle.lay_node.specs.declared.token.Lifetime.{Lifetime}
use Rattle.lay_node.specs.declared.token.Listed.{Listed}
use Rattle.lay_node.specs.declared.token.Name.{Name}
use Rattle.lay_node.specs.declared.token.Word.{Word}
use Rattle.lay_node.specs.declared.tokens.MacroCall.{MacroCall}
use Rattle.lay_node.specs.declared.types.Abi.{Abi}
use Rattle.lay_node.specs.declared.types.Arg.{Arg}
use Rattle.lay_node.specs.declared.types.Arg.TheOpen.{Args-F}
use Rattle.lay_node.specs.declared.types.Arg.TheVariants as arg
use Rattle.lay_node.specs.declared.types.Args.{Args}
use Rattle.lay_node.specs.declared.types.Args.TheVariants as args
use Rattle.lay_node.specs.declared.types.Binder.{Binder}
use Rattle.lay_node.specs.declared.types.Bound.{Bound}
use Rattle.lay_node.specs.declared.types.Bound.TheVariants as bound
use Rattle.lay_node.specs.declared.types.Capture.{Capture}
use Rattle.lay_node.specs.declared.types.ConstArg.{ConstArg}
use Rattle.lay_node.specs.declared.types.Constraint.{Constraint}
use Rattle.lay_node.specs.declared.types.Constraint.TheVariants as constraint
use Rattle.lay_node.specs.declared.types.FuncParam.{FuncParam}
use Rattle.lay_node.specs.declared.types.Path.{Path}
use Rattle.lay_node.specs.declared.types.PathStart.{PathStart}
use Rattle.lay_node.specs.declared.types.PathStart.TheVariants as start
use Rattle.lay_node.specs.declared.types.PathStyle.{PathStyle}
use Rattle.lay_node.specs.declared.types.PathStyle.TheVariants.{Code, Kind}
use Rattle.lay_node.specs.declared.types.Ty.{Ty}
use Rattle.lay_node.specs.declared.types.Ty.TheVariants as ty
use Rattle.lay_node.proofs.nodes.TypesLaws.{ConstraintView, IsEqual, IsEqualConst, IsLimit, about_segment}
use Rattle.lay_node.proofs.nodes.TypesLaws.{constraint_view, arg_const_is, arg_named_is, arg_plain_is, arg_region_is}
use Rattle.lay_node.proofs.nodes.TypesLaws.{args_angle_is, args_none_is, args_round_is, bound_captures_is, bound_meets_is}
use Rattle.lay_node.proofs.nodes.TypesLaws.{bound_outlives_is, constraint_equal_const_is, constraint_equal_is}
use Rattle.lay_node.proofs.nodes.TypesLaws.{constraint_limit_is, func_param_is, path_is, start_global_is}
use Rattle.lay_node.proofs.nodes.TypesLaws.{start_local_is, start_qualified_is, type_array_is, type_bounds_is}
use Rattle.lay_node.proofs.nodes.TypesLaws.{type_call_is, type_func_is, type_infer_is, type_never_is, type_paren_is}
use Rattle.lay_node.proofs.nodes.TypesLaws.{type_path_is, type_ptr_is, type_ref_is, type_slice_is, type_tuple_is}
use Rattle.lay_out_tokens.proofs.StreamParts.{leaf_more}
use Rattle.lay_out_types.specs.Rows.{comma_between, further, list_closed, list_opened, plus_between, row}
use Rattle.lay_out_types.proofs.FormRows.{are_none, bounds_are, list_is, one_there, part_more, row_end}
use Rattle.lay_out_types.proofs.PartLemmas.{abi_more, angles_are, attrs_more, binder_more, param_name_more}
use Rattle.lay_out_types.proofs.PartLemmas.{reference_more}

-- the form of a node with these facts
abbrev pub form_of : {A : Type 0} → (A → Facts) → A → Form
form_of about x = (about x).form

abbrev pub told_form : Ty → Form
told_form x = (about_type x).told.form

abbrev pub told : Ty → List Tok
told x = stream_of (told_form x)

-- equal facts have equal streams
same : {x y : Facts} → x ≡ y → stream_of x.form ≡ stream_of y.form
same e = ap (λ (x : Facts). stream_of x.form) e

same_told : {x y : TypeFacts} → x ≡ y → stream_of x.told.form ≡ stream_of y.told.form
same_told e = ap (λ (x : TypeFacts). stream_of x.told.form) e

same_args : {x y : ArgsFacts} (style : PathStyle) → x ≡ y
    → stream_of (in_style style x).form ≡ stream_of (in_style style y).form
same_args style e = ap (λ (x : ArgsFacts). stream_of (in_style style x).form) e

-- ---- lists

pub parens_are : (may : Bool) (es : List Form) (bare : Bool) → bare ≡ are_none es
    → row (list_opened (codes "(")) comma_between es ++ list_closed may bare (codes "()") (codes ")")
    ≡ stream_of (comma_list may (opener Paren) (closer Paren) es)
parens_are may es bare is =
    list_is may (opener Paren) (closer Paren) (codes "(") (codes "()") (codes ")")
    (λ f more. refl) closes refl es bare is
  where
    closes : (q : Bool) (more : List Tok) → fed q (piece (closer Paren ∷ [])) more ≡ tok.Text (codes ")") ∷ more
    closes true more = refl
    closes false more = refl

-- the facts about each, and then its form
pub forms_are : {A : Type 0} (about : A → Facts) (xs : List A) → map (form_of about) xs ≡ forms (map about xs)
forms_are about [] = refl
forms_are about (x ∷ xs) = ap (λ (es : List Form). (about x).form ∷ es) (forms_are about xs)

pub type_forms_are : (xs : List Ty) → map told_form xs ≡ type_forms (map about_type xs)
type_forms_are [] = refl
type_forms_are (x ∷ xs) = ap (λ (es : List Form). told_form x ∷ es) (type_forms_are xs)

-- ---- paths

-- a segment by itself
abbrev pub segment_part : PathStyle → Word × Args → Form
segment_part style s = segment_form style (about_segment s) Done

segment_by : (raw : Bool) (text : List ℕ) (e f : Form) → ((q : Bool) → fed q f [] ≡ stream_of f)
    → stream_of (leaf_of raw text (Part e Done)) ++ stream_of f ≡ stream_of (leaf_of raw text (Part e f))
segment_by true text e f any = ap (λ (s : List Tok). tok.Text (codes "r#") ∷ tok.Text text ∷ s) (part_more e f any)
segment_by false text e f any = ap (λ (s : List Tok). tok.Text text ∷ s) (part_more e f any)

colons_any : (f : Form) (q : Bool) → fed q (Piece colons f) [] ≡ stream_of (Piece colons f)
colons_any f true = refl
colons_any f false = refl

further_segments : (style : PathStyle) (s : Word × Args) (more : List (Word × Args))
    → stream_of (segment_part style s) ++ further (tok.Text (codes "::") ∷ []) (map (segment_part style) more)
    ≡ stream_of (segments_form style (map about_segment (s ∷ more)))
further_segments style s [] = append-nil _
further_segments style s (t ∷ more) =
    ap (λ (l : List Tok). stream_of (segment_part style s) ++ (tok.Text (codes "::") ∷ l))
    (further_segments style t more)
    ∙ segment_by s.0.raw s.0.text (in_style style (about_args s.1)).form
    (Piece colons (segments_form style (map about_segment (t ∷ more))))
    (colons_any (segments_form style (map about_segment (t ∷ more))))

segments_are : (style : PathStyle) (ss : List (Word × Args))
    → row [] (tok.Text (codes "::") ∷ []) (map (segment_part style) ss)
    ≡ stream_of (segments_form style (map about_segment ss))
segments_are style [] = refl
segments_are style (s ∷ more) = further_segments style s more

leaf_any : (raw : Bool) (text : List ℕ) (f : Form) (q : Bool)
    → fed q (leaf_of raw text f) [] ≡ stream_of (leaf_of raw text f)
leaf_any true text f q = refl
leaf_any false text f q = refl

pub segments_any : (style : PathStyle) (ss : List (Word × Args)) (q : Bool)
    → fed q (segments_form style (map about_segment ss)) [] ≡ stream_of (segments_form style (map about_segment ss))
segments_any style [] q = refl
segments_any style (s ∷ []) q = leaf_any s.0.raw s.0.text _ q
segments_any style (s ∷ t ∷ more) q = leaf_any s.0.raw s.0.text _ q

pub path_parts : (path : Path) (style : PathStyle) (put : List (Word × Args)) → put ≡ path.segments
    → stream_of (about_start path.start).form ++ row [] (tok.Text (codes "::") ∷ []) (map (segment_part style) put)
    ≡ stream_of (about_path path style).form
path_parts path style put e =
    ap (λ (ss : List (Word × Args)). stream_of (about_start path.start).form
    ++ row [] (tok.Text (codes "::") ∷ []) (map (segment_part style) ss)) e
    ∙ ap (λ (s : List Tok). stream_of (about_start path.start).form ++ s) (segments_are style path.segments)
    ∙ part_more (about_start path.start).form (segments_form style (map about_segment path.segments))
    (segments_any style path.segments)
    ∙ sym (ap (λ (x : PathFacts). stream_of (x style).form) (path_is path))

pub local_start : (x : PathStart) → x ≡ start.Local → [] ≡ stream_of (about_start x).form
local_start x is = sym (ap (λ (y : _). stream_of (about_start y).form) is ∙ same start_local_is)

pub global_start : (x : PathStart) → x ≡ start.Global → tok.Text (codes "::") ∷ [] ≡ stream_of (about_start x).form
global_start x is = sym (ap (λ (y : _). stream_of (about_start y).form) is ∙ same start_global_is)

angle_colons : (q : Bool) → fed q (piece (Fixed kind.Punct (codes ">") ∷ colons)) [] ≡ tok.Text (codes ">::") ∷ []
angle_colons true = refl
angle_colons false = refl

pub bare_start : (x : PathStart) (inner put : Ty) (of : Option Path) → x ≡ start.Qualified inner of → put ≡ inner
    → of ≡ None
    → tok.Text (codes "<") ∷ (told put ++ (tok.Text (codes ">::") ∷ [])) ≡ stream_of (about_start x).form
bare_start x inner put of is e none =
    rw e (ap (λ (s : List Tok). tok.Text (codes "<") ∷ s)
    (part_more (told_form inner) (piece (Fixed kind.Punct (codes ">") ∷ colons)) angle_colons))
    ∙ sym (ap (λ (y : _). stream_of (about_start y).form) (is ∙ ap (λ (o : _). start.Qualified inner o) none)
    ∙ same (start_qualified_is inner None))

abbrev as_form : Form → Form
as_form f = Piece (Blank ∷ keyword (codes "as") ∷ Blank ∷ []) (Part f (piece (Fixed kind.Punct (codes ">") ∷ colons)))

as_any : (f : Form) (q : Bool) → fed q (as_form f) [] ≡ stream_of (as_form f)
as_any f true = refl
as_any f false = refl

pub qualified_start : (x : PathStart) (inner put : Ty) (of : Option Path) (path lent : Path)
    → x ≡ start.Qualified inner of
    → put ≡ inner → of ≡ Some path → lent ≡ path
    → tok.Text (codes "<") ∷ (told put ++ (tok.Text (codes " as ") ∷ (stream_of (about_path lent Kind).form
    ++ (tok.Text (codes ">::") ∷ [])))) ≡ stream_of (about_start x).form
qualified_start x inner put of path lent is e some f =
    rw (e, f) (ap (λ (s : List Tok). tok.Text (codes "<") ∷ s)
    (ap (λ (s : List Tok). told inner ++ (tok.Text (codes " as ") ∷ s))
    (part_more (about_path path Kind).form (piece (Fixed kind.Punct (codes ">") ∷ colons)) angle_colons)
    ∙ part_more (told_form inner) (as_form (about_path path Kind).form) (as_any (about_path path Kind).form)))
    ∙ sym (ap (λ (y : _). stream_of (about_start y).form) (is ∙ ap (λ (o : _). start.Qualified inner o) some)
    ∙ same (start_qualified_is inner (Some path)))

-- ---- generic arguments

pub no_args : (x : Args) (style : PathStyle) → x ≡ args.None → [] ≡ stream_of (in_style style (about_args x)).form
no_args x Code is = sym (ap (λ (y : _). stream_of (in_style Code (about_args y)).form) is ∙ same_args Code args_none_is)
no_args x Kind is = sym (ap (λ (y : _). stream_of (in_style Kind (about_args y)).form) is ∙ same_args Kind args_none_is)

pub code_angles : (x : Args) (style : PathStyle) (given put : List Arg) → x ≡ args.Angle given → style ≡ Code
    → put ≡ given
    → tok.Text (codes "::") ∷ stream_of (angle_form (map about_arg put))
    ≡ stream_of (in_style style (about_args x)).form
code_angles x style given put is code e =
    rw (e, code) (sym (ap (λ (y : _). stream_of (in_style Code (about_args y)).form) is
    ∙ same_args Code (args_angle_is given)))

pub kind_angles : (x : Args) (style : PathStyle) (given put : List Arg) → x ≡ args.Angle given → style ≡ Kind
    → put ≡ given
    → stream_of (angle_form (map about_arg put)) ≡ stream_of (in_style style (about_args x)).form
kind_angles x style given put is kind e =
    rw (e, kind) (sym (ap (λ (y : _). stream_of (in_style Kind (about_args y)).form) is
    ∙ same_args Kind (args_angle_is given)))

output_any : (x : Option TypeFacts) (q : Bool) → fed q (output_form x) [] ≡ stream_of (output_form x)
output_any None q = refl
output_any (Some x) true = refl
output_any (Some x) false = refl

pub no_output : (x : Option Ty) → x ≡ None → [] ≡ stream_of (output_form (option_map about_type x))
no_output x is = rw is refl

pub some_output : (x : Option Ty) (one put : Ty) → x ≡ Some one → put ≡ one
    → tok.Text (codes " -> ") ∷ told put ≡ stream_of (output_form (option_map about_type x))
some_output x one put is e = rw (is, e) refl

pub round_args : (x : Args) (style : PathStyle) (inputs put : List Ty) (output : Option Ty)
    → x ≡ args.Round inputs output
    → put ≡ inputs
    → stream_of (comma_list true (opener Paren) (closer Paren) (type_forms (map about_type put)))
    ++ stream_of (output_form (option_map about_type output)) ≡ stream_of (in_style style (about_args x)).form
round_args x style inputs put output is e =
    rw e (part_more (comma_list true (opener Paren) (closer Paren) (type_forms (map about_type inputs)))
    (output_form (option_map about_type output)) (output_any (option_map about_type output)))
    ∙ by style
    ∙ sym (ap (λ (y : _). stream_of (in_style style (about_args y)).form) is
    ∙ same_args style (args_round_is inputs output))
  where
    by : (s : PathStyle)
        → stream_of (Part (comma_list true (opener Paren) (closer Paren) (type_forms (map about_type inputs)))
        (output_form (option_map about_type output)))
        ≡ stream_of (in_style s (args_facts (Args-F.Round (map about_type inputs) (option_map about_type output)))).form
    by Code = refl
    by Kind = refl

-- ---- what is asked of names, and arguments

pub equal_constraint : (x : Constraint) (inner : Ty) → x ≡ constraint.Equal inner
    → tok.Text (codes " = ") ∷ told inner ≡ stream_of (about_constraint x).form
equal_constraint x inner is =
    sym (ap (λ (y : _). stream_of (about_constraint y).form) is ∙ same (constraint_equal_is inner))

pub const_constraint : (x : Constraint) (value : ConstArg) → x ≡ constraint.EqualConst value
    → tok.Text (codes " = ") ∷ stream_of (const_form value) ≡ stream_of (about_constraint x).form
const_constraint x value is =
    sym (ap (λ (y : _). stream_of (about_constraint y).form) is ∙ same (constraint_equal_const_is value))

pub limit_constraint : (x : Constraint) (bounds put : List Bound) → x ≡ constraint.Limit bounds → put ≡ bounds
    → tok.Text (codes ": ") ∷ stream_of (bounds_form (map about_bound put)) ≡ stream_of (about_constraint x).form
limit_constraint x bounds put is e =
    rw e (sym (ap (λ (y : _). stream_of (about_constraint y).form) is ∙ same (constraint_limit_is bounds)))

pub region_arg : (x : Arg) (l : Lifetime) (text : List ℕ) → x ≡ arg.Region l → text ≡ l.text
    → tok.Text text ∷ [] ≡ stream_of (about_arg x).form
region_arg x l text is e = rw e (sym (ap (λ (y : _). stream_of (about_arg y).form) is ∙ same (arg_region_is l)))

pub plain_arg : (x : Arg) (inner : Ty) → x ≡ arg.Plain inner → told inner ≡ stream_of (about_arg x).form
plain_arg x inner is = sym (ap (λ (y : _). stream_of (about_arg y).form) is ∙ same (arg_plain_is inner))

pub const_arg : (x : Arg) (value : ConstArg) → x ≡ arg.Const value
    → stream_of (const_form value) ≡ stream_of (about_arg x).form
const_arg x value is = sym (ap (λ (y : _). stream_of (about_arg y).form) is ∙ same (arg_const_is value))

equals_any : (f : Form) (q : Bool) → fed q (Piece equals f) [] ≡ stream_of (Piece equals f)
equals_any f true = refl
equals_any f false = refl

colon_any : (f : Form) (q : Bool) → fed q (Piece colon f) [] ≡ stream_of (Piece colon f)
colon_any f true = refl
colon_any f false = refl

constraint_by : (x : Constraint) → ConstraintView x → (q : Bool)
    → fed q (about_constraint x).form [] ≡ stream_of (about_constraint x).form
constraint_by _ (IsEqual inner) q = rw (constraint_equal_is inner) (equals_any (Part (told_form inner) Done) q)
constraint_by _ (IsEqualConst value) q = rw (constraint_equal_const_is value)
    (equals_any (Part (const_form value) Done) q)
constraint_by _ (IsLimit bounds) q = rw (constraint_limit_is bounds)
    (colon_any (Part (bounds_form (map about_bound bounds)) Done) q)

constraint_any : (x : Constraint) (q : Bool) → fed q (about_constraint x).form [] ≡ stream_of (about_constraint x).form
constraint_any x q = constraint_by x (constraint_view x) q

pub named_arg : (x : Arg) (name : Name) (given : Args) (asked : Constraint) → x ≡ arg.Named name given asked
    → stream_of (leaf_of name.raw name.text Done) ++ (stream_of (about_args given).kind.form
    ++ stream_of (about_constraint asked).form) ≡ stream_of (about_arg x).form
named_arg x name given asked is =
    ap (λ (s : List Tok). stream_of (leaf_of name.raw name.text Done) ++ s)
    (part_more (about_args given).kind.form (about_constraint asked).form (constraint_any asked))
    ∙ leaf_more name.raw name.text (Part (about_args given).kind.form (Part (about_constraint asked).form Done))
    ∙ sym (ap (λ (y : _). stream_of (about_arg y).form) is ∙ same (arg_named_is name given asked))

-- ---- bounds

pub outlives_bound : (x : Bound) (l : Lifetime) (text : List ℕ) → x ≡ bound.Outlives l → text ≡ l.text
    → tok.Text text ∷ [] ≡ stream_of (about_bound x).form
outlives_bound x l text is e =
    rw e (sym (ap (λ (y : _). stream_of (about_bound y).form) is ∙ same (bound_outlives_is l)))

pub captures_bound : (x : Bound) (captured put : List Capture) → x ≡ bound.Captures captured → put ≡ captured
    → tok.Text (codes "use") ∷ stream_of (comma_list true less greater (map capture_form put)) ≡ stream_of (about_bound x).form
captures_bound x captured put is e =
    rw e (sym (ap (λ (y : _). stream_of (about_bound y).form) is ∙ same (bound_captures_is captured)))

-- a piece that is there or not, and what follows it
pub when_more : (there : Bool) (bits : List Bit) (text : List ℕ) (f : Form)
    → ((g : Form) → stream_of (Piece bits g) ≡ tok.Text text ∷ stream_of g)
    → cond there (tok.Text text ∷ []) [] ++ stream_of f ≡ stream_of (when there bits f)
when_more true bits text f e = sym (e f)
when_more false bits text f e = refl

paren_any : (q : Bool) → fed q (piece (closer Paren ∷ [])) [] ≡ tok.Text (codes ")") ∷ []
paren_any true = refl
paren_any false = refl

question_more : (maybe : Bool) (binder : Option Binder) (f : Form)
    → cond maybe (tok.Text (codes "?") ∷ []) [] ++ (stream_of (binder_form binder Done) ++ stream_of f)
    ≡ stream_of (meets_form maybe binder f)
question_more maybe binder f =
    ap (λ (s : List Tok). cond maybe (tok.Text (codes "?") ∷ []) [] ++ s) (binder_more binder (Part f Done))
    ∙ when_more maybe (Fixed kind.Punct (codes "?") ∷ []) (codes "?") (binder_form binder (Part f Done)) (λ g. refl)

pub meets_bound : (x : Bound) (parens maybe : Bool) (binder : Option Binder) (path : Path)
    → x ≡ bound.Meets parens maybe binder path
    → cond parens (tok.Text (codes "(") ∷ []) [] ++ (cond maybe (tok.Text (codes "?") ∷ []) []
    ++ (stream_of (binder_form binder Done) ++ (stream_of (about_path path Kind).form
    ++ cond parens (tok.Text (codes ")") ∷ []) []))) ≡ stream_of (about_bound x).form
meets_bound x true maybe binder path is =
    let f = (about_path path Kind).form in
    ap (λ (s : List Tok). tok.Text (codes "(") ∷ s)
    (ap (λ (s : List Tok). cond maybe (tok.Text (codes "?") ∷ []) [] ++ s)
    (sym (append_assoc (stream_of (binder_form binder Done)) (stream_of f) (tok.Text (codes ")") ∷ [])))
    ∙ sym (append_assoc (cond maybe (tok.Text (codes "?") ∷ []) []) _ (tok.Text (codes ")") ∷ []))
    ∙ ap (λ (s : List Tok). s ++ (tok.Text (codes ")") ∷ [])) (question_more maybe binder f)
    ∙ part_more (meets_form maybe binder f) (piece (closer Paren ∷ [])) paren_any)
    ∙ sym (ap (λ (y : _). stream_of (about_bound y).form) is ∙ same (bound_meets_is true maybe binder path))
meets_bound x false maybe binder path is =
    let f = (about_path path Kind).form in
    ap (λ (s : List Tok). cond maybe (tok.Text (codes "?") ∷ []) [] ++ (stream_of (binder_form binder Done) ++ s))
    (append-nil (stream_of f))
    ∙ question_more maybe binder f
    ∙ sym (ap (λ (y : _). stream_of (about_bound y).form) is ∙ same (bound_meets_is false maybe binder path))

-- ---- types

-- it is of this kind
told_is : (x y : Ty) (facts : TypeFacts) → x ≡ y → about_type y ≡ facts → stream_of facts.told.form ≡ told x
told_is x y facts is e = sym (ap told is ∙ same_told e)

pub path_type : (x : Ty) (path : Path) → x ≡ ty.Path path → stream_of (about_path path Kind).form ≡ told x
path_type x path is = told_is x (ty.Path path) _ is (type_path_is path)

pub call_type : (x : Ty) (call : MacroCall) → x ≡ ty.Call call → stream_of (call_form call) ≡ told x
call_type x call is = told_is x (ty.Call call) _ is (type_call_is call)

pub paren_type : (x inner put : Ty) → x ≡ ty.Paren inner → put ≡ inner
    → tok.Text (codes "(") ∷ (told put ++ (tok.Text (codes ")") ∷ [])) ≡ told x
paren_type x inner put is e =
    rw e (ap (λ (s : List Tok). tok.Text (codes "(") ∷ s)
    (part_more (told_form inner) (piece (closer Paren ∷ [])) paren_any))
    ∙ told_is x (ty.Paren inner) _ is (type_paren_is inner)

comma_any : (q : Bool) → fed q (piece (punct char.comma ∷ closer Paren ∷ [])) [] ≡ tok.Text (codes ",)") ∷ []
comma_any true = refl
comma_any false = refl

pub one_type : (x : Ty) (elements put : List Ty) (only : Ty) → x ≡ ty.Tuple elements → put ≡ elements → 1 ≤ length put
    → length put < 2 → only ≡ get_or put 0 only
    → tok.Text (codes "(") ∷ (told only ++ (tok.Text (codes ",)") ∷ [])) ≡ told x
one_type x elements [] only is e some one first = absurd (omega arith)
one_type x elements (y ∷ []) only is e some one first =
    rw first (ap (λ (s : List Tok). tok.Text (codes "(") ∷ s)
    (part_more (told_form y) (piece (punct char.comma ∷ closer Paren ∷ [])) comma_any))
    ∙ told_is x (ty.Tuple (y ∷ [])) _ (is ∙ ap ty.Tuple (sym e)) (type_tuple_is (y ∷ []))
one_type x elements (y ∷ z ∷ more) only is e some one first = absurd (omega arith)

pub no_types : (x : Ty) (elements put : List Ty) → x ≡ ty.Tuple elements → put ≡ elements → length put < 1
    → tok.Text (codes "()") ∷ [] ≡ told x
no_types x elements [] is e none = told_is x (ty.Tuple []) _ (is ∙ ap ty.Tuple (sym e)) (type_tuple_is [])
no_types x elements (y ∷ more) is e none = absurd (omega arith)

pub tuple_type : (x : Ty) (elements put : List Ty) → x ≡ ty.Tuple elements → put ≡ elements → 2 ≤ length put
    → stream_of (comma_list true (opener Paren) (closer Paren) (type_forms (map about_type put))) ≡ told x
tuple_type x elements [] is e many = absurd (omega arith)
tuple_type x elements (y ∷ []) is e many = absurd (omega arith)
tuple_type x elements (y ∷ z ∷ more) is e many =
    told_is x (ty.Tuple (y ∷ z ∷ more)) _ (is ∙ ap ty.Tuple (sym e)) (type_tuple_is (y ∷ z ∷ more))

pub never_type : (x : Ty) → x ≡ ty.Never → tok.Text (codes "!") ∷ [] ≡ told x
never_type x is = told_is x ty.Never _ is type_never_is

pub infer_type : (x : Ty) → x ≡ ty.Infer → tok.Text (codes "_") ∷ [] ≡ told x
infer_type x is = told_is x ty.Infer _ is type_infer_is

pub pointer_type : (x : Ty) (mutable : Bool) (inner put : Ty) → x ≡ ty.Ptr mutable inner → put ≡ inner
    → tok.Text (cond mutable (codes "*mut ") (codes "*const ")) ∷ told put ≡ told x
pointer_type x true inner put is e = rw e (told_is x (ty.Ptr true inner) _ is (type_ptr_is true inner))
pointer_type x false inner put is e = rw e (told_is x (ty.Ptr false inner) _ is (type_ptr_is false inner))

pub reference_type : (x : Ty) (lifetime : Option Lifetime) (mutable : Bool) (inner put : Ty)
    → x ≡ ty.Ref lifetime mutable inner → put ≡ inner
    → stream_of (Piece (Fixed kind.Punct (codes "&") ∷ []) (ref_lifetime lifetime Done))
    ++ (cond mutable (tok.Text (codes "mut ") ∷ []) [] ++ told put) ≡ told x
reference_type x lifetime mutable inner put is e =
    let bits = keyword (codes "mut") ∷ Blank ∷ [] in
    rw e (ap (λ (s : List Tok). stream_of (Piece (Fixed kind.Punct (codes "&") ∷ []) (ref_lifetime lifetime Done)) ++ s)
    (when_more mutable bits (codes "mut ") (Part (told_form inner) Done) (λ g. refl))
    ∙ reference_more lifetime (when mutable bits (Part (told_form inner) Done)))
    ∙ told_is x (ty.Ref lifetime mutable inner) _ is (type_ref_is lifetime mutable inner)

bracket_any : (q : Bool) → fed q (piece (closer Bracket ∷ [])) [] ≡ tok.Text (codes "]") ∷ []
bracket_any true = refl
bracket_any false = refl

pub slice_type : (x inner put : Ty) → x ≡ ty.Slice inner → put ≡ inner
    → tok.Text (codes "[") ∷ (told put ++ (tok.Text (codes "]") ∷ [])) ≡ told x
slice_type x inner put is e =
    rw e (ap (λ (s : List Tok). tok.Text (codes "[") ∷ s)
    (part_more (told_form inner) (piece (closer Bracket ∷ [])) bracket_any))
    ∙ told_is x (ty.Slice inner) _ is (type_slice_is inner)

abbrev length_form : List Listed → Form
length_form tokens = Piece (semicolon ++ Blank ∷ []) (Part (token_list tokens) (piece (closer Bracket ∷ [])))

length_any : (tokens : List Listed) (q : Bool) → fed q (length_form tokens) [] ≡ stream_of (length_form tokens)
length_any tokens true = refl
length_any tokens false = refl

pub array_type : (x inner put : Ty) (tokens : List Listed) → x ≡ ty.Array inner tokens → put ≡ inner
    → tok.Text (codes "[") ∷ (told put ++ (tok.Text (codes "; ") ∷ (stream_of (token_list tokens)
    ++ (tok.Text (codes "]") ∷ [])))) ≡ told x
array_type x inner put tokens is e =
    rw e (ap (λ (s : List Tok). tok.Text (codes "[") ∷ s)
    (ap (λ (s : List Tok). told inner ++ (tok.Text (codes "; ") ∷ s))
    (part_more (token_list tokens) (piece (closer Bracket ∷ [])) bracket_any)
    ∙ part_more (told_form inner) (length_form tokens) (length_any tokens)))
    ∙ told_is x (ty.Array inner tokens) _ is (type_array_is inner tokens)

pub function_type : (x : Ty) (binder : Option Binder) (is_unsafe : Bool) (abi : Option Abi)
    (params put : List FuncParam)
    (variadic : Bool) (output : Option Ty) → x ≡ ty.Func binder is_unsafe abi params variadic output → put ≡ params
    → stream_of (binder_form binder Done) ++ (cond is_unsafe (tok.Text (codes "unsafe ") ∷ []) []
    ++ (stream_of (abi_form abi Done) ++ (tok.Text (codes "fn") ∷
    (stream_of (params_form (map about_func_param put) variadic)
    ++ stream_of (output_form (option_map about_type output)))))) ≡ told x
function_type x binder is_unsafe abi params put variadic output is e =
    let facts = option_map about_type output in
    let bits = keyword (codes "unsafe") ∷ Blank ∷ [] in
    let list = params_form (map about_func_param params) variadic in
    let rest = Piece (keyword (codes "fn") ∷ []) (Part list (output_form facts)) in
    rw e (ap (λ (s : List Tok). stream_of (binder_form binder Done) ++ s)
    (ap (λ (s : List Tok). cond is_unsafe (tok.Text (codes "unsafe ") ∷ []) [] ++ s)
    (ap (λ (s : List Tok). stream_of (abi_form abi Done) ++ (tok.Text (codes "fn") ∷ s))
    (part_more list (output_form facts) (output_any facts))
    ∙ abi_more abi rest)
    ∙ when_more is_unsafe bits (codes "unsafe ") (abi_form abi rest) (λ g. refl))
    ∙ binder_more binder (when is_unsafe bits (abi_form abi rest)))
    ∙ told_is x (ty.Func binder is_unsafe abi params variadic output) _ is
    (type_func_is binder is_unsafe abi params variadic output)

pub bounds_type : (x : Ty) (dynamic : Bool) (bounds put : List Bound) → x ≡ ty.Bounds dynamic bounds → put ≡ bounds
    → tok.Text (cond dynamic (codes "dyn ") (codes "impl ")) ∷ stream_of (bounds_form (map about_bound put)) ≡ told x
bounds_type x true bounds put is e = rw e (told_is x (ty.Bounds true bounds) _ is (type_bounds_is true bounds))
bounds_type x false bounds put is e = rw e (told_is x (ty.Bounds false bounds) _ is (type_bounds_is false bounds))

-- ---- parameters of function types

func_param_parts : (p : FuncParam) (attrs : List Attr) → attrs ≡ p.attrs
    → stream_of (param_attrs attrs Done) ++ (stream_of (param_name p.name Done) ++ told p.ty)
    ≡ stream_of (about_func_param p).form
func_param_parts p attrs e =
    rw e (ap (λ (s : List Tok). stream_of (param_attrs p.attrs Done) ++ s)
    (param_name_more p.name (Part (told_form p.ty) Done))
    ∙ attrs_more p.attrs (param_name p.name (Part (told_form p.ty) Done)))
    ∙ sym (same (func_param_is p))

-- what one turn of the loop over the parameters puts
pub param_turn : (first : Bool) (p : FuncParam) (attrs : List Attr) → attrs ≡ p.attrs
    → cond first (list_opened (codes "(")) comma_between
    ++ (stream_of (param_attrs attrs Done) ++ (stream_of (param_name p.name Done) ++ told p.ty))
    ≡ cond first (list_opened (codes "(")) comma_between ++ stream_of (about_func_param p).form
param_turn first p attrs e =
    ap (λ (s : List Tok). cond first (list_opened (codes "(")) comma_between ++ s) (func_param_parts p attrs e)

-- the `...` after the parameters
abbrev pub variadic_close : List Tok
variadic_close = list_closed false false (codes "()") (codes ")")

pub dots_are : (es : List Form) (bare : Bool) → bare ≡ are_none es
    → row (list_opened (codes "(")) comma_between es
    ++ (cond bare (list_opened (codes "(")) comma_between ++ (tok.Text (codes "...") ∷ []))
    ≡ row (list_opened (codes "(")) comma_between (es ++ dots true)
dots_are es bare is = row_end (list_opened (codes "(")) comma_between es (piece (Operator (codes "...") ∷ [])) bare is

pub variadic_are : (ps : List FuncParam) (variadic bare : Bool) → variadic ≡ true
    → bare ≡ are_none (map (form_of about_func_param) ps)
    → row (list_opened (codes "(")) comma_between (map (form_of about_func_param) ps)
    ++ (cond bare (list_opened (codes "(")) comma_between ++ (tok.Text (codes "...") ∷ variadic_close))
    ≡ stream_of (params_form (map about_func_param ps) variadic)
variadic_are ps variadic bare there is =
    let es = map (form_of about_func_param) ps in
    let lead = cond bare (list_opened (codes "(")) comma_between in
    rw there (
    ap (λ (s : List Tok). row (list_opened (codes "(")) comma_between es ++ s)
    (sym (append_assoc lead (tok.Text (codes "...") ∷ []) variadic_close))
    ∙ sym (append_assoc (row (list_opened (codes "(")) comma_between es)
    (lead ++ (tok.Text (codes "...") ∷ [])) variadic_close)
    ∙ ap (λ (s : List Tok). s ++ variadic_close) (dots_are es bare is)
    ∙ parens_are false (es ++ dots true) false (one_there es (piece (Operator (codes "...") ∷ [])))
    ∙ ap (λ (fs : List Form). stream_of (comma_list false (opener Paren) (closer Paren) (fs ++ dots true)))
    (forms_are about_func_param ps))

pub params_are : (ps : List FuncParam) (variadic bare : Bool) → variadic ≡ false
    → bare ≡ are_none (map (form_of about_func_param) ps)
    → row (list_opened (codes "(")) comma_between (map (form_of about_func_param) ps)
    ++ list_closed true bare (codes "()") (codes ")")
    ≡ stream_of (params_form (map about_func_param ps) variadic)
params_are ps variadic bare there is =
    let es = map (form_of about_func_param) ps in
    rw there (parens_are true es bare is
    ∙ ap (λ (fs : List Form). stream_of (comma_list true (opener Paren) (closer Paren) fs))
    (forms_are about_func_param ps ∙ sym (append-nil (forms (map about_func_param ps)))))

pub types_are : (xs : List Ty) (bare : Bool) → bare ≡ are_none (map told_form xs)
    → row (list_opened (codes "(")) comma_between (map told_form xs) ++ list_closed true bare (codes "()") (codes ")")
    ≡ stream_of (comma_list true (opener Paren) (closer Paren) (type_forms (map about_type xs)))
types_are xs bare is =
    parens_are true (map told_form xs) bare is
    ∙ ap (λ (fs : List Form). stream_of (comma_list true (opener Paren) (closer Paren) fs)) (type_forms_are xs)

pub args_are : (xs : List Arg) (bare : Bool) → bare ≡ are_none (map (form_of about_arg) xs)
    → row (list_opened (codes "<")) comma_between (map (form_of about_arg) xs)
    ++ list_closed true bare (codes "<>") (codes ">")
    ≡ stream_of (angle_form (map about_arg xs))
args_are xs bare is =
    angles_are (map (form_of about_arg) xs) bare is
    ∙ ap (λ (fs : List Form). stream_of (comma_list true less greater fs)) (forms_are about_arg xs)

pub all_bounds : (xs : List Bound)
    → (tok.Begin false (pos 4) ∷ row [] plus_between (map (form_of about_bound) xs)) ++ (tok.End ∷ [])
    ≡ stream_of (bounds_form (map about_bound xs))
all_bounds xs =
    bounds_are (map (form_of about_bound) xs)
    ∙ ap (λ (fs : List Form). stream_of (I4 (joined (λ f. B (Piece (Operator (codes "+") ∷ Blank ∷ []) f)) fs) Done))
    (forms_are about_bound xs)

-- what one turn of the loop over the segments puts
pub segment_turn : (style : PathStyle) (first : Bool) (s : Word × Args)
    → cond (not first) (tok.Text (codes "::") ∷ []) [] ++ (stream_of (leaf_of s.0.raw s.0.text Done)
    ++ stream_of (in_style style (about_args s.1)).form)
    ≡ cond first [] (tok.Text (codes "::") ∷ []) ++ stream_of (segment_part style s)
segment_turn style true s = leaf_more s.0.raw s.0.text (Part (in_style style (about_args s.1)).form Done)
segment_turn style false s =
    ap (λ (l : List Tok). tok.Text (codes "::") ∷ l)
    (leaf_more s.0.raw s.0.text (Part (in_style style (about_args s.1)).form Done))
