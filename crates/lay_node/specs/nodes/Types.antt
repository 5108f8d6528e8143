-- Types, paths with generic arguments, and bounds: when they are well formed, their forms, and what
-- may follow (Rust Reference, "Types", "Paths", "Trait and lifetime bounds").
use Rattle.std.specs.Prelude.{ℕ, ◌&&◌, ◌||◌, not, Bool, true, false, if◌then◌else◌, List, [], ◌∷◌, ◌++◌, map, codes, Option, Some, None, is_some}
use Rattle.std.specs.List.{list_all}
use Rattle.std.specs.Str.{bytes_eq}
use Rattle.lay_piece.specs.Characters as char
use Rattle.lay_piece.specs.declared.kind.Delim.TheVariants.{Paren, Bracket, Brace}
use Rattle.lay_piece.specs.declared.kind.Kind.TheVariants as kind
use Rattle.lay_token.specs.Operators.{is_op}
use Rattle.lay_form.specs.Form.{Bit, Blank, Fixed, Operator, Form, Done, Piece, Leaf, Part, Deeper, Optional, punct, keyword, opener, closer, semicolon}
use Rattle.lay_form.specs.Notation.{B, I4, piece, when, each, comma_list}
use Rattle.lay_form.specs.Spelled as spelled
use Rattle.lay_node.specs.Ahead.{Tokens}
use Rattle.lay_node.specs.Follow.{Begin, OfArgs, OfCodeArgs, OfArrow, OfColons, OfBang, may_follow}
use Rattle.lay_node.specs.Words.{is_name, is_path_word, is_literal, is_number, is_string, leaf_of, colons}
use Rattle.lay_node.specs.nodes.Attr.{are_attrs, attr_part, is_empty}
use Rattle.lay_node.specs.nodes.Call.{about_call}
use Rattle.lay_node.specs.nodes.Facts.{Facts, forms, all_good}
use Rattle.lay_node.specs.tokens.Lexed.{is_token_list}
use Rattle.lay_node.specs.tokens.Lists.{group_form, token_list}
use Rattle.lay_node.specs.declared.attr.Attr.{Attr}
use Rattle.lay_node.specs.declared.token.GivenName.{GivenName}
use Rattle.lay_node.specs.declared.token.GivenName.TheVariants as given
use Rattle.lay_node.specs.declared.token.Lifetime.{Lifetime}
use Rattle.lay_node.specs.declared.token.Literal.{Literal}
use Rattle.lay_node.specs.declared.token.Word.{Word}
use Rattle.lay_node.specs.declared.types.Abi.{Abi}
use Rattle.lay_node.specs.declared.types.Arg.{Arg}
use Rattle.lay_node.specs.declared.types.Arg.TheFolds.{fold-Arg, fold-Args, fold-Bound, fold-Constraint, fold-Ty, fold-FuncParam, fold-Path, fold-PathStart}
use Rattle.lay_node.specs.declared.types.Arg.TheOpen.{Arg-F, Args-F, Bound-F, Constraint-F, PathStart-F, Ty-F, FuncParam-F, Path-F}
use Rattle.lay_node.specs.declared.types.Arg.TheViews.{out-Args, out-PathStart}
use Rattle.lay_node.specs.declared.types.Args.{Args}
use Rattle.lay_node.specs.declared.types.Binder.{Binder}
use Rattle.lay_node.specs.declared.types.Bound.{Bound}
use Rattle.lay_node.specs.declared.types.Capture.{Capture}
use Rattle.lay_node.specs.declared.types.Capture.TheVariants as capture
use Rattle.lay_node.specs.declared.types.ConstArg.{ConstArg}
use Rattle.lay_node.specs.declared.types.ConstArg.TheVariants as const_arg
use Rattle.lay_node.specs.declared.types.Constraint.{Constraint}
use Rattle.lay_node.specs.declared.types.FuncParam.{FuncParam}
use Rattle.lay_node.specs.declared.types.LifetimeParam.{LifetimeParam}
use Rattle.lay_node.specs.declared.types.Path.{Path}
use Rattle.lay_node.specs.declared.types.PathStyle.{PathStyle}
use Rattle.lay_node.specs.declared.types.PathStyle.TheVariants.{Code, Kind}
use Rattle.lay_node.specs.declared.types.PathStart.{PathStart}
use Rattle.lay_node.specs.declared.types.Ty.{Ty}
use Rattle.lay_node.specs.declared.types.TypePlace.{TypePlace}
use Rattle.lay_node.specs.declared.types.TypePlace.TheVariants.{Bounds, NoBounds}

-- ---- parts with no types within them

-- parts, each but the first with what leads to it
abbrev pub joined : (Form → Form) → List Form → Form
joined lead [] = Done
joined lead (e ∷ es) = Part e (each lead es)

abbrev pub less : Bit
less = Fixed kind.Punct (codes "<")

abbrev pub greater : Bit
greater = Fixed kind.Punct (codes ">")

-- `: `, before what is asked of a name, a lifetime or a type
abbrev pub colon : List Bit
colon = Operator (codes ":") ∷ Blank ∷ []

-- a `:` that may be spelled before nothing, and isn't laid out
abbrev pub idle_colon : Form
idle_colon = Optional false (Operator (codes ":") ∷ []) Done

abbrev pub equals : List Bit
equals = Blank ∷ Operator (codes "=") ∷ Blank ∷ []

-- attributes of a parameter, each with a blank after it, or a newline after documentation on a line
abbrev pub param_attrs : List Attr → Form → Form
param_attrs [] f = f
param_attrs (a ∷ more) f = attr_part false a (param_attrs more f)

abbrev pub lifetime_form : Lifetime → Form
lifetime_form l = Leaf kind.Lifetime l.text Done

-- lifetimes with ` + ` between them
abbrev pub lifetimes_form : List Lifetime → Form
lifetimes_form ls = joined (λ f. Piece (Blank ∷ Operator (codes "+") ∷ Blank ∷ []) f) (map lifetime_form ls)

abbrev pub outlived_form : List Lifetime → Form
outlived_form [] = idle_colon
outlived_form (l ∷ ls) = Piece colon (lifetimes_form (l ∷ ls))

abbrev pub lifetime_param_form : LifetimeParam → Form
lifetime_param_form p = param_attrs p.attrs (Part (lifetime_form p.lifetime) (outlived_form p.bounds))

abbrev pub is_lifetime_param : LifetimeParam → Bool
is_lifetime_param p = are_attrs false p.attrs

abbrev pub binder_form : Option Binder → Form → Form
binder_form None f = f
binder_form (Some b) f = Piece (keyword (codes "for") ∷ []) (Part (comma_list true less greater (map lifetime_param_form b.params)) (Piece (Blank ∷ []) f))

abbrev pub is_binder : Option Binder → Bool
is_binder None = true
is_binder (Some b) = list_all is_lifetime_param b.params

abbrev pub literal_form : Literal → Form → Form
literal_form l f = Leaf l.kind l.text f

abbrev pub const_form : ConstArg → Form
const_form (const_arg.Literal l) = literal_form l Done
const_form (const_arg.Negative l) = Piece (punct char.minus ∷ []) (literal_form l Done)
const_form (const_arg.Braces tokens) = group_form (record { delim = Brace; tokens = tokens }) Done

abbrev pub is_const : ConstArg → Bool
is_const (const_arg.Literal l) = is_literal l.kind l.text
is_const (const_arg.Negative l) = is_number l.kind
is_const (const_arg.Braces tokens) = is_token_list tokens

abbrev pub abi_name : Option Literal → Form → Form
abi_name None f = f
abi_name (Some l) f = literal_form l (Piece (Blank ∷ []) f)

abbrev pub abi_form : Option Abi → Form → Form
abi_form None f = f
abi_form (Some a) f = Piece (keyword (codes "extern") ∷ Blank ∷ []) (abi_name a.name f)

abbrev pub is_abi_name : Option Literal → Bool
is_abi_name None = true
is_abi_name (Some l) = is_string l.kind l.text

abbrev pub is_abi : Option Abi → Bool
is_abi None = true
is_abi (Some a) = is_abi_name a.name

abbrev pub given_form : GivenName → Form → Form
given_form (given.Name name) f = leaf_of name.raw name.text f
given_form given.Underscore f = Leaf kind.Underscore (codes "_") f

abbrev pub is_given : GivenName → Bool
is_given (given.Name name) = is_name name.raw name.text
is_given given.Underscore = true

-- A word may be captured if it is a name or `Self`.
abbrev pub is_captured : Word → Bool
is_captured w = is_name w.raw w.text || bytes_eq w.text (codes "Self")

abbrev pub is_capture : Capture → Bool
is_capture (capture.Region l) = true
is_capture (capture.Word w) = is_captured w

abbrev pub capture_form : Capture → Form
capture_form (capture.Region l) = lifetime_form l
capture_form (capture.Word w) = leaf_of w.raw w.text Done

abbrev pub captures_form : List Capture → Form
captures_form captured = Piece (keyword (codes "use") ∷ []) (Part (comma_list true less greater (map capture_form captured)) Done)

-- ---- the facts about types and about generic arguments

pub record TypeFacts : Type 0 where
  pub told : Facts
  -- It is bounds: a `+` would make it longer where several may stand.
  pub bounded : Bool
  -- It is several bounds, which stand where several may.
  pub several : Bool
  -- It is a function type with a binder.
  pub binds : Bool

abbrev pub plain_type : Facts → TypeFacts
plain_type told = record { told = told; bounded = false; several = false; binds = false }

abbrev pub type_forms : List TypeFacts → List Form
type_forms xs = map (λ (x : TypeFacts). x.told.form) xs

abbrev pub good_at : TypePlace → TypeFacts → Bool
good_at Bounds x = x.told.good
good_at NoBounds x = x.told.good && not x.several

abbrev pub all_types_good : List TypeFacts → Bool
all_types_good xs = list_all (good_at Bounds) xs

pub record ArgsFacts : Type 0 where
  -- the facts about the arguments in code, and in the name of a kind of things
  pub code : Facts
  pub kind : Facts
  -- They stand in parentheses.
  pub round : Bool
  -- They have a return type.
  pub returns : Bool

abbrev pub in_style : PathStyle → ArgsFacts → Facts
in_style Code args = args.code
in_style Kind args = args.kind

abbrev pub PathFacts : Type 0
PathFacts = PathStyle → Facts

-- ---- return types

abbrev pub output_form : Option TypeFacts → Form
output_form None = Done
output_form (Some x) = Piece (Blank ∷ Operator (codes "->") ∷ Blank ∷ []) (Part x.told.form Done)

abbrev pub output_good : Option TypeFacts → Bool
output_good None = true
output_good (Some x) = good_at NoBounds x

abbrev pub output_refuses : Option TypeFacts → List Begin
output_refuses None = OfArrow ∷ []
output_refuses (Some x) = x.told.refuses

-- ---- generic arguments

abbrev pub angle_form : List Facts → Form
angle_form args = comma_list true less greater (forms args)

abbrev pub round_form : List TypeFacts → Option TypeFacts → Form
round_form inputs output = Part (comma_list true (opener Paren) (closer Paren) (type_forms inputs)) (output_form output)

abbrev pub args_facts : Args-F Facts ArgsFacts Facts Facts Facts TypeFacts Facts PathFacts → ArgsFacts
args_facts Args-F.None = record {
  code = record { form = Done; good = true; refuses = OfCodeArgs ∷ [] };
  kind = record { form = Done; good = true; refuses = OfArgs ∷ [] };
  round = false;
  returns = false;
}
args_facts (Args-F.Angle args) = record {
  code = record { form = Piece colons (angle_form args); good = all_good args; refuses = [] };
  kind = record { form = Optional false colons (angle_form args); good = all_good args; refuses = [] };
  round = false;
  returns = false;
}
args_facts (Args-F.Round inputs output) = record {
  code = record { form = round_form inputs output; good = false; refuses = output_refuses output };
  kind = record { form = round_form inputs output; good = all_types_good inputs && output_good output; refuses = output_refuses output };
  round = true;
  returns = is_some output;
}

-- ---- bounds

abbrev pub is_there : {A : Type 0} → List A → Bool
is_there [] = false
is_there (x ∷ xs) = true

abbrev pub is_several : {A : Type 0} → List A → Bool
is_several (x ∷ y ∷ xs) = true
is_several _ = false

abbrev pub bounds_form : List Facts → Form
bounds_form bounds = I4 (joined (λ f. B (Piece (Operator (codes "+") ∷ Blank ∷ []) f)) (forms bounds)) Done

-- at least one
abbrev pub bounds_good : List Facts → Bool
bounds_good bounds = is_there bounds && all_good bounds

abbrev pub last_refuses : List Facts → List Begin
last_refuses [] = []
last_refuses (x ∷ []) = x.refuses
last_refuses (x ∷ y ∷ xs) = last_refuses (y ∷ xs)

abbrev pub meets_form : Bool → Option Binder → Form → Form
meets_form maybe binder path = when maybe (Fixed kind.Punct (codes "?") ∷ []) (binder_form binder (Part path Done))

abbrev pub bound_facts : Bound-F Facts ArgsFacts Facts Facts Facts TypeFacts Facts PathFacts → Facts
bound_facts (Bound-F.Outlives l) = record { form = lifetime_form l; good = true; refuses = [] }
bound_facts (Bound-F.Meets true maybe binder path) = record {
  form = Piece (opener Paren ∷ []) (Part (meets_form maybe binder (path Kind).form) (piece (closer Paren ∷ [])));
  good = is_binder binder && (path Kind).good;
  refuses = [];
}
bound_facts (Bound-F.Meets false maybe binder path) = record {
  form = meets_form maybe binder (path Kind).form;
  good = is_binder binder && (path Kind).good;
  refuses = (path Kind).refuses;
}
bound_facts (Bound-F.Captures captured) = record { form = captures_form captured; good = list_all is_capture captured; refuses = [] }

-- ---- arguments

abbrev pub constraint_facts : Constraint-F Facts ArgsFacts Facts Facts Facts TypeFacts Facts PathFacts → Facts
constraint_facts (Constraint-F.Equal x) = record { form = Piece equals (Part x.told.form Done); good = good_at Bounds x; refuses = x.told.refuses }
constraint_facts (Constraint-F.EqualConst value) = record { form = Piece equals (Part (const_form value) Done); good = is_const value; refuses = [] }
constraint_facts (Constraint-F.Limit bounds) = record { form = Piece colon (Part (bounds_form bounds) Done); good = bounds_good bounds; refuses = last_refuses bounds }

abbrev pub arg_facts : Arg-F Facts ArgsFacts Facts Facts Facts TypeFacts Facts PathFacts → Facts
arg_facts (Arg-F.Region l) = record { form = lifetime_form l; good = true; refuses = [] }
arg_facts (Arg-F.Plain x) = record { form = x.told.form; good = good_at Bounds x; refuses = x.told.refuses }
arg_facts (Arg-F.Const value) = record { form = const_form value; good = is_const value; refuses = [] }
arg_facts (Arg-F.Named name args constraint) = record {
  form = Deeper (leaf_of name.raw name.text (Part args.kind.form (Part constraint.form Done))) Done;
  good = is_name name.raw name.text && not args.round && args.kind.good && constraint.good;
  refuses = constraint.refuses;
}

-- ---- paths

abbrev pub segment_form : PathStyle → Word × ArgsFacts → Form → Form
segment_form style s f = leaf_of s.0.raw s.0.text (Part (in_style style s.1).form f)

abbrev pub segments_form : PathStyle → List (Word × ArgsFacts) → Form
segments_form style [] = Done
segments_form style (s ∷ []) = segment_form style s Done
segments_form style (s ∷ t ∷ more) = segment_form style s (Piece colons (segments_form style (t ∷ more)))

abbrev pub segment_good : PathStyle → Word × ArgsFacts → Bool
segment_good style s = is_path_word s.0.raw s.0.text && (in_style style s.1).good

-- At least one segment. Only the last one may have a return type, since what follows that type
-- would belong to it.
abbrev pub segments_good : PathStyle → List (Word × ArgsFacts) → Bool
segments_good style [] = false
segments_good style (s ∷ []) = segment_good style s
segments_good style (s ∷ t ∷ more) = segment_good style s && not s.1.returns && segments_good style (t ∷ more)

abbrev pub segments_refuse : PathStyle → List (Word × ArgsFacts) → List Begin
segments_refuse style [] = []
segments_refuse style (s ∷ []) = (in_style style s.1).refuses
segments_refuse style (s ∷ t ∷ more) = segments_refuse style (t ∷ more)

-- The trait stands one level deeper.
abbrev pub of_form : Option PathFacts → Form → Form
of_form None f = f
of_form (Some path) f = Piece (Blank ∷ keyword (codes "as") ∷ Blank ∷ []) (Deeper (path Kind).form f)

abbrev pub of_good : Option PathFacts → Bool
of_good None = true
of_good (Some path) = (path Kind).good

-- nothing, `::`, or a type and the trait that it is taken as
abbrev pub start_facts : PathStart-F Facts ArgsFacts Facts Facts Facts TypeFacts Facts PathFacts → Facts
start_facts PathStart-F.Local = record { form = Done; good = true; refuses = [] }
start_facts PathStart-F.Global = record { form = piece colons; good = true; refuses = [] }
start_facts (PathStart-F.Qualified x of) = record {
  form = Piece (less ∷ []) (Part x.told.form (of_form of (piece (greater ∷ colons))));
  good = good_at Bounds x && of_good of;
  refuses = [];
}

abbrev pub path_facts : Path-F Facts ArgsFacts Facts Facts Facts TypeFacts Facts PathFacts → PathFacts
path_facts path style = record {
  form = Part path.start.form (segments_form style path.segments);
  good = path.start.good && segments_good style path.segments;
  refuses = OfColons ∷ segments_refuse style path.segments;
}

-- ---- types

abbrev pub deeper : Form → Form
deeper f = Deeper f Done

-- a type in brackets, or otherwise closed, after which anything may follow
abbrev pub shut_type : Form → Bool → TypeFacts
shut_type form good = plain_type (record { form = deeper form; good = good; refuses = [] })

abbrev pub tuple_form : List TypeFacts → Form
tuple_form (x ∷ []) = Piece (opener Paren ∷ []) (Part x.told.form (piece (punct char.comma ∷ closer Paren ∷ [])))
tuple_form xs = comma_list true (opener Paren) (closer Paren) (type_forms xs)

abbrev pub pointer_word : Bool → Bit
pointer_word true = keyword (codes "mut")
pointer_word false = keyword (codes "const")

abbrev pub ref_lifetime : Option Lifetime → Form → Form
ref_lifetime None f = f
ref_lifetime (Some l) f = Part (lifetime_form l) (Piece (Blank ∷ []) f)

abbrev pub bounds_word : Bool → Bit
bounds_word true = keyword (codes "dyn")
bounds_word false = keyword (codes "impl")

-- the name of a parameter of a function type, if it has one
abbrev pub param_name : Option GivenName → Form → Form
param_name None f = f
param_name (Some name) f = given_form name (Piece colon f)

abbrev pub is_param_name : Option GivenName → Bool
is_param_name None = true
is_param_name (Some name) = is_given name

abbrev pub func_param_facts : FuncParam-F Facts ArgsFacts Facts Facts Facts TypeFacts Facts PathFacts → Facts
func_param_facts p = record {
  form = param_attrs p.attrs (param_name p.name (Part p.ty.told.form Done));
  good = are_attrs false p.attrs && is_param_name p.name && good_at Bounds p.ty;
  refuses = p.ty.told.refuses;
}

-- the `...` of a variadic function type; no comma stands after it
abbrev pub dots : Bool → List Form
dots true = piece (Operator (codes "...") ∷ []) ∷ []
dots false = []

abbrev pub params_form : List Facts → Bool → Form
params_form params variadic = comma_list (not variadic) (opener Paren) (closer Paren) (forms params ++ dots variadic)

abbrev pub ty_facts : Ty-F Facts ArgsFacts Facts Facts Facts TypeFacts Facts PathFacts → TypeFacts
ty_facts (Ty-F.Path path) = plain_type (record { form = deeper (path Kind).form; good = (path Kind).good; refuses = OfBang ∷ (path Kind).refuses })
ty_facts (Ty-F.Call call) = shut_type (about_call call).form (about_call call).good
ty_facts (Ty-F.Paren x) = shut_type (Piece (opener Paren ∷ []) (Part x.told.form (piece (closer Paren ∷ [])))) (good_at Bounds x)
ty_facts (Ty-F.Tuple xs) = shut_type (tuple_form xs) (all_types_good xs)
ty_facts Ty-F.Never = shut_type (piece (punct char.bang ∷ [])) true
ty_facts Ty-F.Infer = shut_type (piece (Fixed kind.Underscore (codes "_") ∷ [])) true
ty_facts (Ty-F.Ptr mutable x) = plain_type (record {
  form = deeper (Piece (punct char.star ∷ pointer_word mutable ∷ Blank ∷ []) (Part x.told.form Done));
  good = good_at NoBounds x;
  refuses = x.told.refuses;
})
ty_facts (Ty-F.Ref lifetime mutable x) = plain_type (record {
  form = deeper (Piece (Fixed kind.Punct (codes "&") ∷ []) (ref_lifetime lifetime (when mutable (keyword (codes "mut") ∷ Blank ∷ []) (Part x.told.form Done))));
  good = good_at NoBounds x;
  refuses = x.told.refuses;
})
ty_facts (Ty-F.Slice x) = shut_type (Piece (opener Bracket ∷ []) (Part x.told.form (piece (closer Bracket ∷ [])))) (good_at Bounds x)
ty_facts (Ty-F.Array x length) =
    shut_type (Piece (opener Bracket ∷ []) (Part x.told.form (Piece (semicolon ++ Blank ∷ []) (Part (token_list length) (piece (closer Bracket ∷ []))))))
    (good_at Bounds x && not (is_empty length) && is_token_list length)
ty_facts (Ty-F.Func binder is_unsafe abi params variadic output) = record {
  told = record {
    form = deeper (binder_form binder (when is_unsafe (keyword (codes "unsafe") ∷ Blank ∷ []) (abi_form abi
        (Piece (keyword (codes "fn") ∷ []) (Part (params_form params variadic) (output_form output))))));
    good = is_binder binder && is_abi abi && all_good params && output_good output;
    refuses = output_refuses output;
  };
  bounded = false;
  several = false;
  binds = is_some binder;
}
ty_facts (Ty-F.Bounds dynamic bounds) = record {
  told = record {
    form = deeper (Piece (bounds_word dynamic ∷ Blank ∷ []) (Part (bounds_form bounds) Done));
    good = bounds_good bounds;
    refuses = last_refuses bounds;
  };
  bounded = true;
  several = is_several bounds;
  binds = false;
}

-- ---- the facts about each node

unfoldable pub about_type : Ty → TypeFacts
about_type = fold-Ty Facts ArgsFacts Facts Facts Facts TypeFacts Facts PathFacts
    arg_facts args_facts bound_facts constraint_facts start_facts ty_facts func_param_facts path_facts

unfoldable pub about_path : Path → PathFacts
about_path = fold-Path Facts ArgsFacts Facts Facts Facts TypeFacts Facts PathFacts
    arg_facts args_facts bound_facts constraint_facts start_facts ty_facts func_param_facts path_facts

unfoldable pub about_start : PathStart → Facts
about_start = fold-PathStart Facts ArgsFacts Facts Facts Facts TypeFacts Facts PathFacts
    arg_facts args_facts bound_facts constraint_facts start_facts ty_facts func_param_facts path_facts

unfoldable pub about_args : Args → ArgsFacts
about_args = fold-Args Facts ArgsFacts Facts Facts Facts TypeFacts Facts PathFacts
    arg_facts args_facts bound_facts constraint_facts start_facts ty_facts func_param_facts path_facts

unfoldable pub about_arg : Arg → Facts
about_arg = fold-Arg Facts ArgsFacts Facts Facts Facts TypeFacts Facts PathFacts
    arg_facts args_facts bound_facts constraint_facts start_facts ty_facts func_param_facts path_facts

unfoldable pub about_constraint : Constraint → Facts
about_constraint = fold-Constraint Facts ArgsFacts Facts Facts Facts TypeFacts Facts PathFacts
    arg_facts args_facts bound_facts constraint_facts start_facts ty_facts func_param_facts path_facts

unfoldable pub about_bound : Bound → Facts
about_bound = fold-Bound Facts ArgsFacts Facts Facts Facts TypeFacts Facts PathFacts
    arg_facts args_facts bound_facts constraint_facts start_facts ty_facts func_param_facts path_facts

unfoldable pub about_func_param : FuncParam → Facts
about_func_param = fold-FuncParam Facts ArgsFacts Facts Facts Facts TypeFacts Facts PathFacts
    arg_facts args_facts bound_facts constraint_facts start_facts ty_facts func_param_facts path_facts

-- ---- beginnings

-- Where several bounds may stand, no `+` may follow bounds.
abbrev pub type_follows : TypePlace → TypeFacts → Tokens → Bool
type_follows Bounds x ts = not (x.bounded && is_op (codes "+") ts) && may_follow x.told.refuses ts
type_follows NoBounds x ts = may_follow x.told.refuses ts

-- A type with these facts stands at the start of the tokens, at the place.
abbrev pub TypeFront : TypePlace → TypeFacts → Tokens → ℕ → ℕ → Type 0
TypeFront place x ts n depth = spelled.Front x.told.form (good_at place x) (type_follows place x) ts n depth

-- A node that isn't counted, parsed by itself: what is within it is one level deeper.
abbrev pub alone : Facts → Facts
alone x = record { form = deeper x.form; good = x.good; refuses = x.refuses }

-- What may follow bounds by themselves: no `+`, since it would add a bound.
abbrev pub bounds_follow : List Bound → Tokens → Bool
bounds_follow bounds ts = not (is_op (codes "+") ts) && may_follow (last_refuses (map about_bound bounds)) ts

abbrev pub BoundsFront : List Bound → Tokens → ℕ → ℕ → Type 0
BoundsFront bounds ts n depth =
    spelled.Front (deeper (bounds_form (map about_bound bounds))) (bounds_good (map about_bound bounds)) (bounds_follow bounds) ts n depth

-- ---- a path that is one word

-- A path begins with its first segment.
abbrev pub starts_plain : PathStart-F Arg Args Bound Constraint PathStart Ty FuncParam Path → Bool
starts_plain PathStart-F.Local = true
starts_plain _ = false

abbrev pub are_none : Args-F Arg Args Bound Constraint PathStart Ty FuncParam Path → Bool
are_none Args-F.None = true
are_none _ = false

abbrev pub lone_segment : List (Word × Args) → Option Word
lone_segment (s ∷ []) = if are_none (out-Args s.1) then Some s.0 else None
lone_segment _ = None

-- the word that a path is, without arguments
abbrev pub lone_word : Path → Option Word
lone_word p = if starts_plain (out-PathStart p.start) then lone_segment p.segments else None
