-- The parser of types, paths with generic arguments, and bounds.
use Rattle.std.specs.Prelude.{ℕ, zero, suc, max, ◌&&◌, ◌||◌, not, Bool, true, false, if◌then◌else◌, List, [], ◌∷◌, length, drop, codes, Option, Some, None}
use Rattle.lay_token.specs.Operators.{is_op}
use Rattle.lay_piece.specs.declared.kind.Delim.TheVariants.{Paren, Bracket, Brace}
use Rattle.lay_token.specs.declared.token.Token.{Token}
use Rattle.lay_node.specs.Ahead.{Tokens, first, tail, is_keyword, is_mark, is_lifetime, opens, closes, opens_args, opens_args_late}
use Rattle.lay_node.specs.Begins.{is_literal_token, Lead, OfPath, OfParen, OfNever, OfInfer, OfPointer, OfReference, OfBracket, OfImpl, OfDyn, OfFunc, lead_at}
use Rattle.lay_node.specs.Follow.{begins_there, OfBang}
use Rattle.lay_node.specs.Words.{is_name, is_number, is_string}
use Rattle.lay_node.specs.nodes.Attr.{is_empty}
use Rattle.lay_node.specs.nodes.Types.{is_captured, about_args, starts_plain}
use Rattle.lay_node.specs.reader.Attr.{attributes}
use Rattle.lay_node.specs.reader.Call.{call}
use Rattle.lay_node.specs.reader.Loops.{Got, Read, ◌>>=◌, passed, nodes, deepest, repeat, elements, open_elements}
use Rattle.lay_node.specs.reader.SimplePath.{simple_path}
use Rattle.lay_node.specs.reader.Tokens.{tokens}
use Rattle.lay_node.specs.reader.Words.{word, given_name}
use Rattle.lay_node.specs.declared.token.GivenName.{GivenName}
use Rattle.lay_node.specs.declared.attr.Attr.{Attr}
use Rattle.lay_node.specs.declared.token.Lifetime.{Lifetime}
use Rattle.lay_node.specs.declared.token.Literal.{Literal}
use Rattle.lay_node.specs.declared.token.Name.{Name}
use Rattle.lay_node.specs.declared.token.Word.{Word}
use Rattle.lay_node.specs.declared.types.Abi.{Abi}
use Rattle.lay_node.specs.declared.types.Arg.{Arg}
use Rattle.lay_node.specs.declared.types.Arg.TheOpen.{Ty-F}
use Rattle.lay_node.specs.declared.types.Arg.TheVariants as arg
use Rattle.lay_node.specs.declared.types.Arg.TheViews.{out-PathStart, out-Ty}
use Rattle.lay_node.specs.declared.types.Args.{Args}
use Rattle.lay_node.specs.declared.types.Args.TheVariants as args
use Rattle.lay_node.specs.declared.types.Binder.{Binder}
use Rattle.lay_node.specs.declared.types.Bound.{Bound}
use Rattle.lay_node.specs.declared.types.Bound.TheVariants as bound
use Rattle.lay_node.specs.declared.types.Capture.{Capture}
use Rattle.lay_node.specs.declared.types.Capture.TheVariants as capture
use Rattle.lay_node.specs.declared.types.ConstArg.{ConstArg}
use Rattle.lay_node.specs.declared.types.ConstArg.TheVariants as const_arg
use Rattle.lay_node.specs.declared.types.Constraint.{Constraint}
use Rattle.lay_node.specs.declared.types.Constraint.TheVariants as constraint
use Rattle.lay_node.specs.declared.types.FuncParam.{FuncParam}
use Rattle.lay_node.specs.declared.types.LifetimeParam.{LifetimeParam}
use Rattle.lay_node.specs.declared.types.Path.{Path}
use Rattle.lay_node.specs.declared.types.PathStyle.{PathStyle}
use Rattle.lay_node.specs.declared.types.PathStyle.TheVariants.{Code, Kind as InKind}
use Rattle.lay_node.specs.declared.types.PathStart.{PathStart}
use Rattle.lay_node.specs.declared.types.PathStart.TheVariants as start
use Rattle.lay_node.specs.declared.types.Ty.{Ty}
use Rattle.lay_node.specs.declared.types.Ty.TheVariants as ty
use Rattle.lay_node.specs.declared.types.TypePlace.{TypePlace}
use Rattle.lay_node.specs.declared.types.TypePlace.TheVariants.{Bounds, NoBounds}

-- The parsers of what is one level deeper: types at a place, and what is asked of a name among
-- generic arguments.
pub record Within : Type 0 where
  pub types : TypePlace → Tokens → Read Ty
  pub constraints : Tokens → Read Constraint

-- ---- small parts

-- what follows an operator
abbrev pub operator : List ℕ → Tokens → Option Tokens
operator op ts = if is_op op ts then Some (drop (length op) ts) else None

-- whether the next token passes the test, and what follows it; without such a token the tokens as they are
abbrev pub flag : (Token → Bool) → Tokens → Bool × Tokens
flag p ts = if first p ts then (true, tail ts) else (false, ts)

-- a part, if the test holds
abbrev pub if_there : {A : Type 0} → Bool → (Tokens → Got A) → Tokens → Got (Option A)
if_there true one ts = do x ← one ts; Some (Some x.0, x.1)
if_there false one ts = Some (None, ts)

abbrev pub if_read : {A : Type 0} → Bool → (Tokens → Read A) → Tokens → Read (Option A)
if_read true one ts = do x ← one ts; Some ((Some x.0.0, x.0.1), x.1)
if_read false one ts = Some ((None, 0), ts)

unfoldable pub lifetime : Tokens → Got Lifetime
lifetime [] = None
lifetime (t ∷ ts) = if is_lifetime t then Some (record { text = t.text }, ts) else None

-- a literal token that passes
unfoldable pub literal : (Token → Bool) → Tokens → Got Literal
literal p [] = None
literal p (t ∷ ts) = if p t then Some (record { kind = t.kind; text = t.text }, ts) else None

-- at least one part, with an operator between them
unfoldable pub chain : {A : Type 0} → List ℕ → (Tokens → Got A) → Tokens → Got (List A)
chain op one ts = do
  x ← one ts
  more ← repeat (is_op op) (λ us. one (drop (length op) us)) x.1
  Some (x.0 ∷ more.0, more.1)

-- lifetimes after a `:`
abbrev pub lifetimes : Tokens → Got (List Lifetime)
lifetimes ts = if first is_lifetime ts then chain (codes "+") lifetime ts else Some ([], ts)

-- what a lifetime outlives, if a `:` stands there
abbrev pub outlived : Tokens → Got (List Lifetime)
outlived ts = if is_op (codes ":") ts then lifetimes (drop 1 ts) else Some ([], ts)

-- a lifetime parameter, after its attributes
unfoldable pub lifetime_behind : List Attr → Tokens → Got LifetimeParam
lifetime_behind attrs ts = do
  l ← lifetime ts
  bounds ← outlived l.1
  Some (record { attrs = attrs; lifetime = l.0; bounds = bounds.0 }, bounds.1)

abbrev pub lifetime_param : Tokens → Got LifetimeParam
lifetime_param ts = do attrs ← attributes false ts; lifetime_behind attrs.0 attrs.1

-- elements between a `<` and a `>`
abbrev pub angled : {A : Type 0} → (Tokens → Got A) → Tokens → Got (List A)
angled one ts = do inside ← passed (is_mark (codes "<")) ts; elements (is_mark (codes ">")) one inside

unfoldable pub binder : Tokens → Got Binder
binder ts = do
  behind ← passed (is_keyword (codes "for")) ts
  params ← angled lifetime_param behind
  Some (record { params = params.0 }, params.1)

abbrev pub binder_if : Tokens → Got (Option Binder)
binder_if ts = if_there (first (is_keyword (codes "for")) ts) binder ts

-- a lifetime or a word that is captured
unfoldable pub one_capture : Tokens → Got Capture
one_capture ts =
    if first is_lifetime ts then (do l ← lifetime ts; Some (capture.Region l.0, l.1))
    else (do w ← word ts; if is_captured w.0 then Some (capture.Word w.0, w.1) else None)

-- ---- constants

abbrev pub begins_const : Tokens → Bool
begins_const ts = first is_literal_token ts || (first (is_mark (codes "-")) ts || first (opens Brace) ts)

abbrev pub negative : Tokens → Got ConstArg
negative ts = do n ← literal (λ t. is_number t.kind) ts; Some (const_arg.Negative n.0, n.1)

abbrev pub braces : Tokens → Got ConstArg
braces ts = do
  within ← passed (opens Brace) ts
  us ← tokens within
  rest ← passed (closes Brace) us.1
  Some (const_arg.Braces us.0, rest)

unfoldable pub const : Tokens → Got ConstArg
const ts =
    if first is_literal_token ts then (do l ← literal is_literal_token ts; Some (const_arg.Literal l.0, l.1))
    else (if first (is_mark (codes "-")) ts then negative (tail ts) else braces ts)

-- ---- generic arguments

-- the path that a type is
abbrev pub path_in : Ty-F Arg Args Bound Constraint PathStart Ty FuncParam Path → Option Path
path_in (Ty-F.Path p) = Some p
path_in _ = None

abbrev pub as_path : Ty → Option Path
as_path x = path_in (out-Ty x)

abbrev pub as_name : Word → Option Name
as_name w = if is_name w.raw w.text then Some (record { raw = w.raw; text = w.text }) else None

-- the name and the arguments of a path that is one segment with a name, and without parentheses
abbrev pub named_segments : List (Word × Args) → Option (Name × Args)
named_segments (s ∷ []) = if (about_args s.1).round then None else (do n ← as_name s.0; Some (n, s.1))
named_segments _ = None

abbrev pub named_path : Path → Option (Name × Args)
named_path p = if starts_plain (out-PathStart p.start) then named_segments p.segments else None

abbrev pub named_type : Ty → Option (Name × Args)
named_type x = do p ← as_path x; named_path p

-- A constraint of a name is parsed after the name, since a type may stand there as well.
abbrev pub begins_constraint : Tokens → Bool
begins_constraint ts = is_op (codes "=") ts || is_op (codes ":") ts

abbrev pub arg_by : Within → Ty × ℕ → Tokens → Read Arg
arg_by within x ts =
    if begins_constraint ts then (do
      n ← named_type x.0
      c ← within.constraints ts
      Some ((arg.Named n.0 n.1 c.0.0, max x.1 c.0.1), c.1))
    else Some ((arg.Plain x.0, x.1), ts)

unfoldable pub one_arg : Within → Tokens → Read Arg
one_arg within ts =
    if first is_lifetime ts then (do l ← lifetime ts; Some ((arg.Region l.0, 0), l.1))
    else (if begins_const ts then (do c ← const ts; Some ((arg.Const c.0, 0), c.1))
    else (do x ← within.types Bounds ts; arg_by within x.0 x.1))

unfoldable pub angle : Within → Tokens → Read Args
angle within ts = do xs ← angled (one_arg within) ts; Some ((args.Angle (nodes xs.0), deepest xs.0), xs.1)

abbrev pub output : Within → Tokens → Read (Option Ty)
output within ts = if_read (is_op (codes "->") ts) (λ us. within.types NoBounds (drop 2 us)) ts

-- types in parentheses and a return type
unfoldable pub round : Within → Tokens → Read Args
round within ts = do
  inside ← passed (opens Paren) ts
  xs ← elements (closes Paren) (within.types Bounds) inside
  o ← output within xs.1
  Some ((args.Round (nodes xs.0) o.0.0, max (deepest xs.0) o.0.1), o.1)

abbrev pub no_args : Tokens → Read Args
no_args ts = Some ((args.None, 0), ts)

unfoldable pub args_by : Within → PathStyle → Tokens → Read Args
args_by within Code ts = if opens_args_late ts then angle within (drop 2 ts) else no_args ts
args_by within InKind ts =
    if opens_args ts then angle within ts
    else (if opens_args_late ts then angle within (drop 2 ts)
    else (if first (opens Paren) ts then round within ts else no_args ts))

-- ---- paths

unfoldable pub segment : Within → PathStyle → Tokens → Read (Word × Args)
segment within style ts = do
  w ← word ts
  a ← args_by within style w.1
  Some (((w.0, a.0.0), a.0.1), a.1)

-- a trait, which is one level deeper, as a type is
abbrev pub trait_path : Within → Tokens → Read Path
trait_path within ts = do x ← within.types NoBounds ts; p ← as_path x.0.0; Some ((p, x.0.1), x.1)

-- a type in `<` and `>::`, and the trait that it is taken as
unfoldable pub qualified : Within → Tokens → Read PathStart
qualified within ts = do
  inside ← passed (is_mark (codes "<")) ts
  x ← within.types Bounds inside
  p ← if_read (first (is_keyword (codes "as")) x.1) (λ us. trait_path within (tail us)) x.1
  behind ← passed (is_mark (codes ">")) p.1
  rest ← operator (codes "::") behind
  Some ((start.Qualified x.0.0 p.0.0, max x.0.1 p.0.1), rest)

abbrev pub path_start : Within → Tokens → Read PathStart
path_start within ts =
    if first (is_mark (codes "<")) ts then qualified within ts
    else (if is_op (codes "::") ts then Some ((start.Global, 0), drop 2 ts) else Some ((start.Local, 0), ts))

-- A return type stands on the last segment alone.
abbrev pub returns_last : List (Word × Args) → Bool
returns_last [] = true
returns_last (s ∷ []) = true
returns_last (s ∷ t ∷ more) = not (about_args s.1).returns && returns_last (t ∷ more)

abbrev pub path_of : PathStart → ℕ → List (Word × Args) → Tokens → Read Path
path_of begun need segments ts = if returns_last segments then Some ((record { start = begun; segments = segments }, need), ts) else None

unfoldable pub path : Within → PathStyle → Tokens → Read Path
path within style ts = do
  begun ← path_start within ts
  ss ← chain (codes "::") (segment within style) begun.1
  path_of begun.0.0 (max begun.0.1 (deepest ss.0)) (nodes ss.0) ss.1

-- ---- bounds

-- a bound that is a path, in parentheses or not
unfoldable pub meets : Within → Bool → Tokens → Read Bound
meets within parens ts = do
  b ← binder_if (flag (is_mark (codes "?")) ts).1
  p ← path within InKind b.1
  Some ((bound.Meets parens (flag (is_mark (codes "?")) ts).0 b.0 p.0.0, p.0.1), p.1)

-- what is captured, after `use`
abbrev pub captures : Tokens → Read Bound
captures ts = do captured ← angled one_capture ts; Some ((bound.Captures captured.0, 0), captured.1)

unfoldable pub one_bound : Within → Tokens → Read Bound
one_bound within ts =
    if first is_lifetime ts then (do l ← lifetime ts; Some ((bound.Outlives l.0, 0), l.1))
    else (if first (is_keyword (codes "use")) ts then captures (tail ts)
    else (if first (opens Paren) ts then (do
      x ← meets within true (tail ts)
      rest ← passed (closes Paren) x.1
      Some (x.0, rest))
    else meets within false ts))

abbrev pub all_bounds : Within → Tokens → Read (List Bound)
all_bounds within ts = do xs ← chain (codes "+") (one_bound within) ts; Some ((nodes xs.0, deepest xs.0), xs.1)

-- all bounds where several may stand, or else one
unfoldable pub bounds_by : Within → TypePlace → Tokens → Read (List Bound)
bounds_by within Bounds ts = all_bounds within ts
bounds_by within NoBounds ts = do x ← one_bound within ts; Some ((x.0.0 ∷ [], x.0.1), x.1)

abbrev pub equal : Within → Tokens → Read Constraint
equal within ts =
    if begins_const ts then (do c ← const ts; Some ((constraint.EqualConst c.0, 1), c.1))
    else (do x ← within.types Bounds ts; Some ((constraint.Equal x.0.0, suc x.0.1), x.1))

-- what is asked of a name among generic arguments
unfoldable pub constraint_by : Within → Tokens → Read Constraint
constraint_by within ts =
    if is_op (codes ":") ts then (do bs ← all_bounds within (drop 1 ts); Some ((constraint.Limit bs.0.0, suc bs.0.1), bs.1))
    else (do at ← operator (codes "=") ts; equal within at)

-- ---- types

-- A macro call begins: a path of words before a `!`.
abbrev pub begins_call : Tokens → Bool
begins_call ts = elim (simple_path ts) [ None ↦ false | Some p ↦ is_op (codes "!") p.1 ]

abbrev pub call_type : Tokens → Read Ty
call_type ts = do c ← call ts; Some ((ty.Call c.0, 1), c.1)

unfoldable pub path_type : Within → Tokens → Read Ty
path_type within ts = do
  p ← path within InKind ts
  if begins_there OfBang p.1 then None else Some ((ty.Path p.0.0, suc p.0.1), p.1)

-- what follows a `(` and a type
abbrev pub paren_by : Within → Ty × ℕ → Tokens → Read Ty
paren_by within x ts =
    if first (closes Paren) ts then Some ((ty.Paren x.0, suc x.1), tail ts)
    else (do
      behind ← passed (is_mark (codes ",")) ts
      more ← elements (closes Paren) (within.types Bounds) behind
      Some ((ty.Tuple (x.0 ∷ nodes more.0), suc (max x.1 (deepest more.0))), more.1))

-- what follows a `(`
unfoldable pub paren_type : Within → Tokens → Read Ty
paren_type within ts =
    if first (closes Paren) ts then Some ((ty.Tuple [], 1), tail ts)
    else (do x ← within.types Bounds ts; paren_by within x.0 x.1)

abbrev pub array_by : Ty × ℕ → Tokens → Read Ty
array_by x ts = do
  us ← tokens ts
  rest ← passed (closes Bracket) us.1
  if is_empty us.0 then None else Some ((ty.Array x.0 us.0, suc x.1), rest)

abbrev pub slice_by : Ty × ℕ → Tokens → Read Ty
slice_by x ts = do rest ← passed (closes Bracket) ts; Some ((ty.Slice x.0, suc x.1), rest)

-- what follows a `[`
unfoldable pub bracket_type : Within → Tokens → Read Ty
bracket_type within ts = do
  x ← within.types Bounds ts
  if first (is_mark (codes ";")) x.1 then array_by x.0 (tail x.1) else slice_by x.0 x.1

-- what follows a `&`
unfoldable pub reference_type : Within → Tokens → Read Ty
reference_type within ts = do
  l ← if_there (first is_lifetime ts) lifetime ts
  x ← within.types NoBounds (flag (is_keyword (codes "mut")) l.1).1
  Some ((ty.Ref l.0 (flag (is_keyword (codes "mut")) l.1).0 x.0.0, suc x.0.1), x.1)

abbrev pub is_mutable : Tokens → Got Bool
is_mutable ts =
    if first (is_keyword (codes "mut")) ts then Some (true, tail ts)
    else (if first (is_keyword (codes "const")) ts then Some (false, tail ts) else None)

-- what follows a `*`
unfoldable pub pointer_type : Within → Tokens → Read Ty
pointer_type within ts = do
  m ← is_mutable ts
  x ← within.types NoBounds m.1
  Some ((ty.Ptr m.0 x.0.0, suc x.0.1), x.1)

-- what follows `impl` or `dyn`
unfoldable pub bounds_type : Within → Bool → TypePlace → Tokens → Read Ty
bounds_type within dynamic place ts = do
  bs ← bounds_by within place ts
  Some ((ty.Bounds dynamic bs.0.0, suc bs.0.1), bs.1)

-- ---- function types

abbrev pub is_string_token : Token → Bool
is_string_token t = is_string t.kind t.text

unfoldable pub abi : Tokens → Got Abi
abi ts = do
  behind ← passed (is_keyword (codes "extern")) ts
  l ← if_there (first is_string_token behind) (literal is_string_token) behind
  Some (record { name = l.0 }, l.1)

-- A parameter's name begins: a name or `_` before a `:`.
abbrev pub begins_given : Tokens → Bool
begins_given ts = elim (given_name ts) [ None ↦ false | Some g ↦ is_op (codes ":") g.1 ]

abbrev pub param_name : Tokens → Got GivenName
param_name ts = do g ← given_name ts; Some (g.0, drop 1 g.1)

unfoldable pub func_param : Within → Tokens → Read FuncParam
func_param within ts = do
  attrs ← attributes false ts
  n ← if_there (begins_given attrs.1) param_name attrs.1
  x ← within.types Bounds n.1
  Some ((record { attrs = attrs.0; name = n.0; ty = x.0.0 }, x.0.1), x.1)

abbrev pub begins_param : Tokens → Bool
begins_param ts = not (first (closes Paren) ts || is_op (codes "...") ts)

-- parameters, and whether `...` stands after them
unfoldable pub func_params : Within → Tokens → Read (List FuncParam × Bool)
func_params within ts = do
  inside ← passed (opens Paren) ts
  ps ← open_elements begins_param (func_param within) inside
  rest ← passed (closes Paren) (if ps.0.1 && is_op (codes "...") ps.1 then drop 3 ps.1 else ps.1)
  Some (((nodes ps.0.0, ps.0.1 && is_op (codes "...") ps.1), deepest ps.0.0), rest)

unfoldable pub func_type : Within → Tokens → Read Ty
func_type within ts = do
  b ← binder_if ts
  a ← if_there (first (is_keyword (codes "extern")) (flag (is_keyword (codes "unsafe")) b.1).1) abi (flag (is_keyword (codes "unsafe")) b.1).1
  behind ← passed (is_keyword (codes "fn")) a.1
  ps ← func_params within behind
  o ← output within ps.1
  Some ((ty.Func b.0 (flag (is_keyword (codes "unsafe")) b.1).0 a.0 ps.0.0.0 ps.0.0.1 o.0.0, suc (max ps.0.1 o.0.1)), o.1)

-- ---- each kind

abbrev pub type_by : Within → TypePlace → Option Lead → Tokens → Read Ty
type_by within place None ts = None
type_by within place (Some OfPath) ts = if begins_call ts then call_type ts else path_type within ts
type_by within place (Some OfParen) ts = paren_type within (tail ts)
type_by within place (Some OfNever) ts = Some ((ty.Never, 1), tail ts)
type_by within place (Some OfInfer) ts = Some ((ty.Infer, 1), tail ts)
type_by within place (Some OfPointer) ts = pointer_type within (tail ts)
type_by within place (Some OfReference) ts = reference_type within (tail ts)
type_by within place (Some OfBracket) ts = bracket_type within (tail ts)
type_by within place (Some OfImpl) ts = bounds_type within false place (tail ts)
type_by within place (Some OfDyn) ts = bounds_type within true place (tail ts)
type_by within place (Some OfFunc) ts = func_type within ts

-- the parsers of what is within a node, by the budget
unfoldable pub within : ℕ → Within
within zero = record { types = λ place ts. None; constraints = λ ts. None }
within (suc budget) = record {
  types = λ place ts. type_by (within budget) place (lead_at ts) ts;
  constraints = λ ts. constraint_by (within budget) ts;
}

abbrev pub type_at : TypePlace → ℕ → Tokens → Read Ty
type_at place budget ts = (within budget).types place ts

-- ---- nodes that aren't counted, by themselves

-- A node parsed by itself: what is within it is one level deeper.
abbrev pub alone_at : {A : Type 0} → (Within → Tokens → Read A) → ℕ → Tokens → Read A
alone_at one zero ts = None
alone_at one (suc budget) ts = do x ← one (within budget) ts; Some ((x.0.0, suc x.0.1), x.1)

abbrev pub path_at : PathStyle → ℕ → Tokens → Read Path
path_at style = alone_at (λ w ts. path w style ts)

abbrev pub args_at : PathStyle → ℕ → Tokens → Read Args
args_at style = alone_at (λ w ts. args_by w style ts)

abbrev pub bounds_at : ℕ → Tokens → Read (List Bound)
bounds_at = alone_at all_bounds
