-- The forms of expressions, when each is well formed, and which tokens may follow it (Rust
-- Reference, "Expressions").
use Rattle.std.specs.Prelude.{ℕ, suc, ◌+◌, ◌==◌, nat_le, ◌&&◌, ◌||◌, not, Bool, true, false, if◌then◌else◌, List, [], ◌∷◌, ◌++◌, map, codes, length, drop, Option, Some, None, is_some, ◌≤◌, ◌⊎◌, IsTrue}
use Rattle.std.specs.List.{list_all}
use Rattle.std.specs.Str.{bytes_eq, chars}
use Rattle.lay_piece.specs.Characters as char
use Rattle.lay_piece.specs.Number.{is_index}
use Rattle.lay_piece.specs.declared.kind.Delim.{Delim}
use Rattle.lay_piece.specs.declared.kind.Delim.TheVariants.{Paren, Bracket, Brace}
use Rattle.lay_piece.specs.declared.kind.Kind.TheVariants as kind
use Rattle.lay_form.specs.BracedEnds.{EndsBraced}
use Rattle.lay_form.specs.Form.{Bit, Blank, Fixed, Operator, Braces, Bare, Marked, Nothing, Form, Done, Piece, Leaf, Part, Body, punct, keyword, opener, closer, semicolon}
use Rattle.lay_form.specs.Notation.{Z, B, N, Z-, C4, I4, piece, comma_list, braces, behind_attrs, I0, body, when}
use Rattle.lay_form.specs.Spelled.{Spells}
use Rattle.lay_node.specs.Ahead.{Tokens, first, is_keyword, is_lifetime, opens}
use Rattle.lay_node.specs.Follow.{Begin, OfArgs, OfBang, OfColons, may_follow}
use Rattle.lay_node.specs.Words.{is_name, is_literal, is_bare_number, leaf_of, colons}
use Rattle.lay_node.specs.nodes.Attr.{are_attrs, attr_form, is_empty}
use Rattle.lay_node.specs.nodes.Call.{about_call}
use Rattle.lay_node.specs.nodes.Facts.{Facts, all_good}
use Rattle.lay_node.specs.nodes.Functions.{may_be_type, self_type as param_type}
use Rattle.lay_node.specs.nodes.Patterns.{dots, about_pat, pat_form, pat_good}
use Rattle.lay_node.specs.nodes.Types.{TypeFacts, about_arg, about_path, about_type, angle_form, colon, deeper, good_at, is_there, lifetime_form, literal_form, lone_word, equals, param_attrs}
use Rattle.lay_node.specs.tokens.Lexed.{is_token_list}
use Rattle.lay_node.specs.tokens.Lists.{token_list}
use Rattle.lay_node.specs.declared.patterns.PatPlace.TheVariants.{Alternatives, Single}
use Rattle.lay_node.specs.declared.token.Lifetime.{Lifetime}
use Rattle.lay_node.specs.declared.token.Word.{Word}
use Rattle.lay_node.specs.declared.types.Arg.{Arg}
use Rattle.lay_node.specs.declared.types.Path.{Path}
use Rattle.lay_node.specs.declared.types.PathStyle.TheVariants.{Code}
use Rattle.lay_node.specs.declared.types.TypePlace.TheVariants.{NoBounds}
use Rattle.lay_code.specs.Operands.{ExprLead, ByLiteral, ByPath, ByUnderscore, ByLabel, ByParen, ByBracket, ByBrace, ByPrefix, ByRange, ByContinue, ByBreak, ByReturn, begins_operand, ByBlockWord, ByClosure}
use Rattle.lay_code.specs.Operators.{op_text, op_level, is_angle_op, is_dot_or_try, strength}
use Rattle.lay_code.specs.nodes.Bodies.{BodyKind, MacroBody, BlockBody, OtherBody, braces_of, is_lone_body, sheds}
use Rattle.lay_code.specs.nodes.CodeFacts.{ArmFacts, BlockFacts, BranchFacts, ConditionFacts, ItemFacts, KindFacts, LinkFacts, StmtFacts}
use Rattle.lay_code.specs.nodes.Places.{plain, FREE, begins, is_whole, is_part, before_op}
use Rattle.lay_code.specs.declared.exprs.ClosureParam.{ClosureParam}
use Rattle.lay_code.specs.declared.blocks.Stmt.TheOpen.{Arm-F, Block-F, Branch-F, Condition-F, Expr-F, FieldExpr-F, Item-F, ItemKind-F, Link-F, Step-F, Stmt-F}
use Rattle.lay_code.specs.declared.exprs.Place.{Place}
use Rattle.lay_code.specs.declared.operators.Op.{Op}
use Rattle.lay_code.specs.declared.operators.Prefix.{Prefix}
use Rattle.lay_code.specs.declared.operators.Prefix.TheVariants as before

-- ---- what an expression ends in

pub record Tail : Type 0 where
  -- It ends in the operand of a `return` or of a `break`, or in the body of a closure. Such an
  -- operand takes every operator that follows.
  pub takes_all : Bool
  -- It ends where an operand may stand that is left out.
  pub bare : Bool
  -- a path, after which a `{` begins a struct literal
  pub path : Bool
  -- `continue` without a label
  pub unlabelled : Bool
  -- a `&` before the path `raw`
  pub raw : Bool
  -- an `if` without an `else`
  pub lacks_else : Bool
  -- a closure
  pub closure : Bool
  -- what the part at its end refuses
  pub refuses : List Begin

abbrev pub shut_by : List Begin → Tail
shut_by refuses = record { takes_all = false; bare = false; path = false; unlabelled = false; raw = false; lacks_else = false; closure = false; refuses = refuses }

abbrev pub shut : Tail
shut = shut_by []

abbrev pub lacks_operand : Tail
lacks_operand = record shut { bare = true }

-- No operator can follow what ends so.
abbrev pub is_open : Tail → Bool
is_open t = t.takes_all || t.bare || t.closure

abbrev pub is_args : Begin → Bool
is_args OfArgs = true
is_args _ = false

-- Generic arguments are among what is refused. So it is after a type to which they could still be
-- added.
abbrev pub lacks_args : List Begin → Bool
lacks_args [] = false
lacks_args (b ∷ bs) = is_args b || lacks_args bs

-- The expression ends in a type to which generic arguments could still be added, and in no operand
-- that takes all operators.
abbrev pub is_typed : Tail → Bool
is_typed t = not t.takes_all && lacks_args t.refuses

abbrev pub begins_pointer : Tokens → Bool
begins_pointer ts = first (is_keyword (codes "const")) ts || first (is_keyword (codes "mut")) ts

-- The tokens may follow an expression that ends so. The flag says that no struct literal may stand
-- there.
abbrev pub tail_follows : Tail → Bool → Tokens → Bool
tail_follows t no_struct ts =
    (not t.takes_all || strength ts == 0) && not (t.bare && begins_operand no_struct ts)
    && not (t.path && (not no_struct && first (opens Brace) ts)) && not (t.unlabelled && first is_lifetime ts)
    && not (t.raw && begins_pointer ts) && not (t.lacks_else && first (is_keyword (codes "else")) ts) && may_follow t.refuses ts

-- ---- the facts about expressions

pub record ExprFacts : Type 0 where
  pub form : Form
  pub level : ℕ
  pub lead : ExprLead
  pub tail : Tail
  -- A `return`, a `break` or a closure. It stands at its level only where no operator follows.
  pub jumps : Bool
  -- a range without an end
  pub endless : Bool
  -- a cast to a type to which generic arguments could still be added
  pub typed : Bool
  pub is_struct : Bool
  -- As a statement it needs no `;`, and then only `.` and `?` go on with it. Such are expressions
  -- that end in a block of their own, and macro calls in braces.
  pub block_like : Bool
  pub kind : BodyKind
  -- the path of the one word `raw`
  pub is_raw : Bool
  -- a number without suffix
  pub is_number : Bool
  -- Where it begins a statement, each expression at its left edge may stand there too.
  pub starts : Bool
  -- No closure at its right edge has a body that keeps its braces only because no struct literal
  -- may stand there.
  pub tight : Bool
  -- It holds no struct literal outside delimiters.
  pub structless : Bool
  -- What is within it is well formed and stands in its places. The flags say that no struct literal
  -- may stand there, and that the expression begins a statement.
  pub within : Bool → Bool → Bool

-- The root of an expression may stand in a place.
abbrev pub may : ExprFacts → Place → Bool
may e place =
    nat_le place.level e.level && not (place.op_after && (e.jumps || e.endless)) && not (place.lt_after && e.typed)
    && not (is_part place.start && e.block_like) && not (place.no_struct && e.is_struct)

-- The root may stand in the place, and so may each expression at the right edge: an operator that
-- follows the whole follows these too.
abbrev pub stands : ExprFacts → Place → Bool
stands e place =
    nat_le place.level e.level && not (place.op_after && is_open e.tail) && not (place.lt_after && is_typed e.tail)
    && not (is_part place.start && e.block_like) && not (place.no_struct && e.is_struct)

-- The expression stands in a place, and all that is within it stands in its own places.
abbrev pub placed : ExprFacts → Place → Bool
placed e place = stands e place && e.within place.no_struct (begins place.start)

abbrev pub root_follows : ExprFacts → Place → Tokens → Bool
root_follows e place ts =
    if is_whole place.start && e.block_like then not (is_dot_or_try ts) else nat_le (strength ts) place.level

-- The tokens may follow the expression: they don't go on with its root, nor with what it ends in.
abbrev pub follows : ExprFacts → Place → Tokens → Bool
follows e place ts = root_follows e place ts && tail_follows e.tail place.no_struct ts

abbrev pub expr_forms : List ExprFacts → List Form
expr_forms xs = map (λ (x : ExprFacts). x.form) xs

abbrev pub all_free : List ExprFacts → Bool
all_free xs = list_all (λ (x : ExprFacts). placed x FREE) xs

-- ---- the facts about steps

pub data StepKind : Type 0 where
  OfField : StepKind
  OfTupleIndex : StepKind
  OfMethod : StepKind
  OfCall : StepKind
  OfIndex : StepKind
  OfTry : StepKind
  OfAwait : StepKind

pub record StepFacts : Type 0 where
  pub kind : StepKind
  pub form : Form
  pub good : Bool

-- ---- layers

-- what stands in a node, with facts in place of the nodes within it
abbrev pub Layer : (Type 0 → Type 0 → Type 0 → Type 0 → Type 0 → Type 0 → Type 0 → Type 0 → Type 0 → Type 0 → Type 0 → Type 0) → Type 0
Layer F = F StmtFacts LinkFacts ExprFacts Facts StepFacts KindFacts ArmFacts BlockFacts BranchFacts ConditionFacts ItemFacts

abbrev pub StmtLayer : Type 0
StmtLayer = Layer Stmt-F

abbrev pub ExprLayer : Type 0
ExprLayer = Layer Expr-F

abbrev pub FieldLayer : Type 0
FieldLayer = Layer FieldExpr-F

abbrev pub StepLayer : Type 0
StepLayer = Layer Step-F

abbrev pub KindLayer : Type 0
KindLayer = Layer ItemKind-F

abbrev pub ArmLayer : Type 0
ArmLayer = Layer Arm-F

abbrev pub BlockLayer : Type 0
BlockLayer = Layer Block-F

abbrev pub BranchLayer : Type 0
BranchLayer = Layer Branch-F

abbrev pub ConditionLayer : Type 0
ConditionLayer = Layer Condition-F

abbrev pub LinkLayer : Type 0
LinkLayer = Layer Link-F

abbrev pub ItemLayer : Type 0
ItemLayer = Layer Item-F

-- ---- which step it is, and the facts about each

abbrev pub is_field : StepKind → Bool
is_field OfField = true
is_field _ = false

abbrev pub is_tuple_index : StepKind → Bool
is_tuple_index OfTupleIndex = true
is_tuple_index _ = false

abbrev pub is_method : StepKind → Bool
is_method OfMethod = true
is_method _ = false

abbrev pub is_call : StepKind → Bool
is_call OfCall = true
is_call _ = false

-- It begins with `.` or is `?`.
abbrev pub is_dotted : StepKind → Bool
is_dotted OfCall = false
is_dotted OfIndex = false
is_dotted _ = true

abbrev pub generics_form : Option (List Arg) → Form → Form
generics_form None f = f
generics_form (Some args) f = Piece colons (Part (angle_form (map about_arg args)) f)

abbrev pub are_generics : Option (List Arg) → Bool
are_generics None = true
are_generics (Some args) = all_good (map about_arg args)

-- expressions in parentheses
abbrev pub args_form : List ExprFacts → Form
args_form xs = comma_list true (opener Paren) (closer Paren) (expr_forms xs)

abbrev pub step_facts : StepLayer → StepFacts
step_facts (Step-F.Field name) = record {
  kind = OfField;
  form = Piece (Operator (codes ".") ∷ []) (leaf_of name.raw name.text Done);
  good = is_name name.raw name.text;
}
step_facts (Step-F.TupleIndex index) = record {
  kind = OfTupleIndex;
  form = Piece (Operator (codes ".") ∷ []) (Leaf kind.Int index Done);
  good = is_index (chars index);
}
step_facts (Step-F.Method name generics args) = record {
  kind = OfMethod;
  form = Piece (Operator (codes ".") ∷ []) (leaf_of name.raw name.text (generics_form generics (Part (args_form args) Done)));
  good = is_name name.raw name.text && are_generics generics && all_free args;
}
step_facts (Step-F.Apply args) = record { kind = OfCall; form = args_form args; good = all_free args }
step_facts (Step-F.Index x) = record {
  kind = OfIndex;
  form = C4 (Piece (opener Bracket ∷ []) (Z (Part x.form (Z- (piece (closer Bracket ∷ [])))))) Done;
  good = placed x FREE;
}
step_facts Step-F.Try = record { kind = OfTry; form = piece (Operator (codes "?") ∷ []); good = true }
step_facts Step-F.Await = record { kind = OfAwait; form = piece (Operator (codes ".") ∷ keyword (codes "await") ∷ []); good = true }

-- No call stands directly after a field, since that would be a method call.
abbrev pub are_steps : List StepFacts → Bool
are_steps [] = true
are_steps (s ∷ []) = s.good
are_steps (s ∷ t ∷ more) = s.good && not (is_field s.kind && is_call t.kind) && are_steps (t ∷ more)

abbrev pub first_step : (StepKind → Bool) → List StepFacts → Bool
first_step p [] = false
first_step p (s ∷ more) = p s.kind

abbrev pub tail_of_steps : List StepFacts → Tail
tail_of_steps [] = shut
tail_of_steps (s ∷ []) = if is_field s.kind then shut_by (OfColons ∷ []) else shut
tail_of_steps (s ∷ t ∷ more) = tail_of_steps (t ∷ more)

-- how many of the steps are method calls
abbrev pub methods : List StepFacts → ℕ
methods [] = 0
methods (s ∷ more) = (if is_method s.kind then 1 else 0) + methods more

abbrev pub break_if : Bool → Form → Form
break_if true f = Z f
break_if false f = f

-- The steps, with a break before each method call after the first. The flags say that there are
-- several method calls, and that one of them stands before these steps.
abbrev pub steps_form : Bool → Bool → List StepFacts → Form
steps_form several behind [] = Done
steps_form several behind (s ∷ more) =
    break_if (several && (behind && is_method s.kind)) (Part s.form (steps_form several (behind || is_method s.kind) more))

abbrev pub group_if : Bool → Form → Form
group_if true f = C4 f Done
group_if false f = f

abbrev pub postfix_form : ExprFacts → List StepFacts → Form
postfix_form base steps = group_if (nat_le 2 (methods steps)) (Part base.form (steps_form (nat_le 2 (methods steps)) false steps))

-- ---- fields of struct literals

abbrev pub field_facts : FieldLayer → Facts
field_facts (FieldExpr-F.Named attrs name x) = record {
  form = behind_attrs (map attr_form attrs) (leaf_of name.raw name.text (Piece colon (Part x.form Done)));
  good = are_attrs false attrs && is_name name.raw name.text && placed x FREE;
  refuses = [];
}
field_facts (FieldExpr-F.Numbered attrs index x) = record {
  form = behind_attrs (map attr_form attrs) (Leaf kind.Int index (Piece colon (Part x.form Done)));
  good = are_attrs false attrs && placed x FREE;
  refuses = [];
}
field_facts (FieldExpr-F.Short attrs name) = record {
  form = behind_attrs (map attr_form attrs) (leaf_of name.raw name.text Done);
  good = are_attrs false attrs && is_name name.raw name.text;
  refuses = [];
}

-- ---- forms

abbrev pub tuple_form : List ExprFacts → Form
tuple_form (x ∷ []) = Piece (opener Paren ∷ []) (Part x.form (piece (punct char.comma ∷ closer Paren ∷ [])))
tuple_form xs = args_form xs

-- what follows the fields of a struct literal: nothing, `..`, or `..` and the base
abbrev pub base_form : Option (Option ExprFacts) → List Form
base_form None = []
base_form (Some None) = piece (Operator (codes "..") ∷ []) ∷ []
base_form (Some (Some x)) = Piece (Operator (codes "..") ∷ []) (Part x.form Done) ∷ []

abbrev pub struct_form : Path → List Facts → Option (Option ExprFacts) → Form
struct_form path fields base =
    Part (about_path path Code).form (braces (not (is_some base)) (map (λ (x : Facts). x.form) fields ++ base_form base))

abbrev pub operands_form : List (Op × ExprFacts) → Form
operands_form [] = Done
operands_form (x ∷ more) = B (Piece (Operator (op_text x.0) ∷ []) (Piece (Blank ∷ []) (Part x.1.form (operands_form more))))

abbrev pub types_form : List TypeFacts → Form
types_form [] = Done
types_form (x ∷ more) = Piece (Blank ∷ keyword (codes "as") ∷ Blank ∷ []) (Part x.told.form (types_form more))

abbrev pub prefix_bits : Prefix → List Bit
prefix_bits before.Neg = punct char.minus ∷ []
prefix_bits before.Deref = punct char.star ∷ []
prefix_bits before.Bang = punct char.bang ∷ []
prefix_bits before.Amp = Fixed kind.Punct (codes "&") ∷ []
prefix_bits before.AmpMut = Fixed kind.Punct (codes "&") ∷ keyword (codes "mut") ∷ Blank ∷ []
prefix_bits before.RawConst = Fixed kind.Punct (codes "&") ∷ keyword (codes "raw") ∷ Blank ∷ keyword (codes "const") ∷ Blank ∷ []
prefix_bits before.RawMut = Fixed kind.Punct (codes "&") ∷ keyword (codes "raw") ∷ Blank ∷ keyword (codes "mut") ∷ Blank ∷ []

abbrev pub prefixes_form : List Prefix → Form → Form
prefixes_form [] f = f
prefixes_form (p ∷ ps) f = Piece (prefix_bits p) (prefixes_form ps f)

abbrev pub end_form : Option ExprFacts → Form → Form
end_form None f = f
end_form (Some x) f = Part x.form f

abbrev pub targets_form : List (ExprFacts × Op) → Form → Form
targets_form [] f = f
targets_form (x ∷ more) f =
    Part x.0.form (Piece (Blank ∷ []) (Piece (Operator (op_text x.1) ∷ []) (Piece (Blank ∷ []) (N (targets_form more f)))))

abbrev pub label_form : Option Lifetime → Form → Form
label_form None f = f
label_form (Some l) f = Piece (Blank ∷ []) (Part (lifetime_form l) f)

abbrev pub operand_form : Option ExprFacts → Form
operand_form None = Done
operand_form (Some x) = Piece (Blank ∷ []) (Part x.form Done)

abbrev pub labelled : Option Lifetime → Form → Form
labelled None f = f
labelled (Some l) f = Part (lifetime_form l) (Piece colon (Part f Done))

abbrev pub branch_head : BranchFacts → Form
branch_head b = Piece (keyword (codes "if") ∷ Blank ∷ []) (Part b.condition Done)

-- further branches
abbrev pub more_branches : List BranchFacts → Form → Form
more_branches [] f = f
more_branches (b ∷ more) f =
    Piece (Blank ∷ keyword (codes "else") ∷ Blank ∷ []) (I0 (branch_head b) (Part b.soft (more_branches more f)))

abbrev pub branches_form : List BranchFacts → Form → Form
branches_form [] f = f
branches_form (b ∷ more) f = I0 (branch_head b) (Part b.soft (more_branches more f))

abbrev pub else_branch_form : Option BlockFacts → Form
else_branch_form None = Done
else_branch_form (Some b) = Piece (Blank ∷ keyword (codes "else") ∷ []) (Part b.soft Done)

abbrev pub arm_forms : List ArmFacts → List Form
arm_forms [] = []
arm_forms (a ∷ []) = a.form true ∷ []
arm_forms (a ∷ b ∷ more) = a.form false ∷ arm_forms (b ∷ more)

-- a value after its `=`, if there is one
abbrev pub value_form : Option ExprFacts → Form
value_form None = Done
value_form (Some x) = Piece equals (N (Part x.form Done))

abbrev pub value_placed : Option ExprFacts → Bool
value_placed None = true
value_placed (Some x) = placed x FREE

abbrev pub closure_param : ClosureParam → Form
closure_param p = param_attrs p.attrs (Part (pat_form Single (about_pat p.pat)) (Part (param_type p.ty) Done))

abbrev pub is_closure_param : ClosureParam → Bool
is_closure_param p = are_attrs false p.attrs && pat_good Single (about_pat p.pat) && may_be_type p.ty

abbrev pub bar : Bit
bar = Fixed kind.Punct (codes "|")

-- a closure from its parameters on, after its `async`, with a `move` if it has one
abbrev pub behind_async : Bool → List ClosureParam → Form → Form
behind_async moves params f =
    when moves (keyword (codes "move") ∷ Blank ∷ []) (Part (comma_list true bar bar (map closure_param params)) f)

-- a closure up to its body
abbrev pub closure_head : Bool → Bool → List ClosureParam → Form → Form
closure_head is_async moves params f = when is_async (keyword (codes "async") ∷ Blank ∷ []) (behind_async moves params f)

-- Braces that aren't in the tree may stand around a body only if the body may be a statement.
abbrev pub body_braces : ExprFacts → Braces
body_braces x = if x.starts && x.tight then braces_of x.kind else Bare

-- The body of a closure. A body that gets braces where it is broken stands after a break that is
-- never a newline.
abbrev pub closure_body : Braces → Form → Form
closure_body Marked x = N (Body Marked Nothing x Done)
closure_body braces x = Body braces Nothing x Done

abbrev pub inside : ExprLayer → Form
inside (Expr-F.Lit l) = literal_form l Done
inside (Expr-F.Path path) = (about_path path Code).form
inside Expr-F.Underscore = piece (Fixed kind.Underscore (codes "_") ∷ [])
inside (Expr-F.Expr::Call call) = (about_call call).form
inside (Expr-F.Paren x) = Piece (opener Paren ∷ []) (Part x.form (piece (closer Paren ∷ [])))
inside (Expr-F.Continue label) = Piece (keyword (codes "continue") ∷ []) (label_form label Done)
inside (Expr-F.Tuple xs) = tuple_form xs
inside (Expr-F.Array xs) = comma_list true (opener Bracket) (closer Bracket) (expr_forms xs)
inside (Expr-F.Repeat x length) =
    Piece (opener Bracket ∷ []) (Part x.form (Piece (semicolon ++ Blank ∷ []) (Part (token_list length) (piece (closer Bracket ∷ [])))))
inside (Expr-F.Expr::Struct path fields base) = struct_form path fields base
inside (Expr-F.Chain x rest) = I4 (Part x.form (operands_form rest)) Done
inside (Expr-F.Cast x types) = Part x.form (types_form (map about_type types))
inside (Expr-F.Unary ps x) = prefixes_form ps (Part x.form Done)
inside (Expr-F.Range start inclusive end) = end_form start (Piece (dots inclusive) (end_form end Done))
inside (Expr-F.Assign targets x) = targets_form targets (Part x.form Done)
inside (Expr-F.Postfix x steps) = postfix_form x steps
inside (Expr-F.Block label b) = labelled label (b.form false)
inside (Expr-F.Unsafe b) = Piece (keyword (codes "unsafe") ∷ []) (Part b.soft Done)
inside (Expr-F.ConstBlock b) = Piece (keyword (codes "const") ∷ []) (Part b.soft Done)
inside (Expr-F.Async moves b) = Piece (keyword (codes "async") ∷ []) (when moves (Blank ∷ keyword (codes "move") ∷ []) (Part (b.form true) Done))
inside (Expr-F.If branches otherwise) = branches_form branches (else_branch_form otherwise)
inside (Expr-F.Match x attrs arms) =
    I0 (Piece (keyword (codes "match") ∷ Blank ∷ []) (Part x.form Done)) (body (Blank ∷ []) [] (map attr_form attrs ++ arm_forms arms))
inside (Expr-F.Loop label b) = labelled label (Piece (keyword (codes "loop") ∷ []) (Part (b.form true) Done))
inside (Expr-F.While label c b) =
    labelled label (I0 (Piece (keyword (codes "while") ∷ Blank ∷ []) (Part c.form Done)) (Part (b.form true) Done))
inside (Expr-F.For label pat x b) = labelled label
    (I0 (Piece (keyword (codes "for") ∷ Blank ∷ []) (Part (pat_form Alternatives (about_pat pat)) (Piece (Blank ∷ keyword (codes "in") ∷ Blank ∷ []) (Part x.form Done))))
    (Part (b.form true) Done))
inside (Expr-F.Closure is_async moves params x) = closure_head is_async moves params (Piece (Blank ∷ []) (closure_body (body_braces x) x.form))
inside (Expr-F.TypedClosure is_async moves params output b) = closure_head is_async moves params
    (Piece (Blank ∷ Operator (codes "->") ∷ Blank ∷ []) (Part (about_type output).told.form (Part (b.form true) Done)))
inside (Expr-F.Return x) = Piece (keyword (codes "return") ∷ []) (operand_form x)
inside (Expr-F.Break label x) = Piece (keyword (codes "break") ∷ []) (label_form label (operand_form x))

-- ---- levels

abbrev pub level_of_chain : List (Op × ExprFacts) → ℕ
level_of_chain [] = 0
level_of_chain (x ∷ more) = op_level x.0

abbrev pub level_of : ExprLayer → ℕ
level_of (Expr-F.Chain x rest) = level_of_chain rest
level_of (Expr-F.Cast x types) = 11
level_of (Expr-F.Unary ps x) = 12
level_of (Expr-F.Range start inclusive end) = 1
level_of (Expr-F.Assign targets x) = 0
level_of (Expr-F.Postfix x steps) = 13
level_of (Expr-F.Return x) = 12
level_of (Expr-F.Break label x) = 12
level_of (Expr-F.Closure is_async moves params x) = 12
level_of (Expr-F.TypedClosure is_async moves params output b) = 12
level_of _ = 14

-- ---- what it begins with

abbrev pub lead_of_start : Option ExprFacts → ExprLead
lead_of_start None = ByRange
lead_of_start (Some x) = x.lead

abbrev pub lead_of_targets : List (ExprFacts × Op) → ExprFacts → ExprLead
lead_of_targets [] x = x.lead
lead_of_targets (y ∷ more) x = y.0.lead

abbrev pub label_or : ExprLead → Option Lifetime → ExprLead
label_or lead None = lead
label_or lead (Some l) = ByLabel

abbrev pub lead_of : ExprLayer → ExprLead
lead_of (Expr-F.Lit l) = ByLiteral
lead_of (Expr-F.Path path) = ByPath
lead_of Expr-F.Underscore = ByUnderscore
lead_of (Expr-F.Expr::Call call) = ByPath
lead_of (Expr-F.Paren x) = ByParen
lead_of (Expr-F.Continue label) = ByContinue
lead_of (Expr-F.Tuple xs) = ByParen
lead_of (Expr-F.Array xs) = ByBracket
lead_of (Expr-F.Repeat x length) = ByBracket
lead_of (Expr-F.Expr::Struct path fields base) = ByPath
lead_of (Expr-F.Chain x rest) = x.lead
lead_of (Expr-F.Cast x types) = x.lead
lead_of (Expr-F.Unary ps x) = ByPrefix
lead_of (Expr-F.Range start inclusive end) = lead_of_start start
lead_of (Expr-F.Assign targets x) = lead_of_targets targets x
lead_of (Expr-F.Postfix x steps) = x.lead
lead_of (Expr-F.Return x) = ByReturn
lead_of (Expr-F.Break label x) = ByBreak
lead_of (Expr-F.Block label b) = label_or ByBrace label
lead_of (Expr-F.Unsafe b) = ByBlockWord
lead_of (Expr-F.ConstBlock b) = ByBlockWord
lead_of (Expr-F.Async moves b) = ByBlockWord
lead_of (Expr-F.If branches otherwise) = ByBlockWord
lead_of (Expr-F.Match x attrs arms) = ByBlockWord
lead_of (Expr-F.Loop label b) = label_or ByBlockWord label
lead_of (Expr-F.While label c b) = label_or ByBlockWord label
lead_of (Expr-F.For label pat x b) = label_or ByBlockWord label
lead_of (Expr-F.Closure is_async moves params x) = ByClosure
lead_of (Expr-F.TypedClosure is_async moves params output b) = ByClosure

abbrev pub is_brace_lead : ExprLead → Bool
is_brace_lead ByBrace = true
is_brace_lead _ = false

abbrev pub is_label_lead : ExprLead → Bool
is_label_lead ByLabel = true
is_label_lead _ = false

abbrev pub is_prefix_lead : ExprLead → Bool
is_prefix_lead ByPrefix = true
is_prefix_lead _ = false

-- ---- what it ends in

abbrev pub tail_of_operands : List (Op × ExprFacts) → Tail
tail_of_operands [] = shut
tail_of_operands (x ∷ []) = x.1.tail
tail_of_operands (x ∷ y ∷ more) = tail_of_operands (y ∷ more)

abbrev pub type_refuses : List TypeFacts → List Begin
type_refuses [] = []
type_refuses (x ∷ []) = x.told.refuses
type_refuses (x ∷ y ∷ more) = type_refuses (y ∷ more)

abbrev pub tail_of_end : Option ExprFacts → Tail
tail_of_end None = lacks_operand
tail_of_end (Some x) = x.tail

abbrev pub tail_of_jump : Option ExprFacts → Tail
tail_of_jump None = lacks_operand
tail_of_jump (Some x) = record x.tail { takes_all = true }

abbrev pub is_amp : Prefix → Bool
is_amp before.Amp = true
is_amp _ = false

abbrev pub ends_in_amp : List Prefix → Bool
ends_in_amp [] = false
ends_in_amp (p ∷ []) = is_amp p
ends_in_amp (p ∷ q ∷ more) = ends_in_amp (q ∷ more)

abbrev pub tail_of : ExprLayer → Tail
tail_of (Expr-F.Path path) = record (shut_by (OfBang ∷ (about_path path Code).refuses)) { path = true }
tail_of (Expr-F.Continue label) = record shut { unlabelled = not (is_some label) }
tail_of (Expr-F.Chain x rest) = tail_of_operands rest
tail_of (Expr-F.Cast x types) = shut_by (type_refuses (map about_type types))
tail_of (Expr-F.Unary ps x) = record x.tail { raw = x.tail.raw || (ends_in_amp ps && x.is_raw) }
tail_of (Expr-F.Range start inclusive end) = tail_of_end end
tail_of (Expr-F.Assign targets x) = x.tail
tail_of (Expr-F.Postfix x steps) = tail_of_steps steps
tail_of (Expr-F.Return x) = tail_of_jump x
tail_of (Expr-F.Break label x) = tail_of_jump x
tail_of (Expr-F.If branches otherwise) = record shut { lacks_else = not (is_some otherwise) }
tail_of (Expr-F.Closure is_async moves params x) = record x.tail { takes_all = true; closure = true }
tail_of (Expr-F.TypedClosure is_async moves params output b) = record shut { closure = true }
tail_of _ = shut

-- ---- what it is

abbrev pub is_jump : ExprLayer → Bool
is_jump (Expr-F.Return x) = true
is_jump (Expr-F.Break label x) = true
is_jump (Expr-F.Closure is_async moves params x) = true
is_jump (Expr-F.TypedClosure is_async moves params output b) = true
is_jump _ = false

abbrev pub is_endless : ExprLayer → Bool
is_endless (Expr-F.Range start inclusive end) = not (is_some end)
is_endless _ = false

abbrev pub is_typed_cast : ExprLayer → Bool
is_typed_cast (Expr-F.Cast x types) = lacks_args (type_refuses (map about_type types))
is_typed_cast _ = false

abbrev pub is_struct_literal : ExprLayer → Bool
is_struct_literal (Expr-F.Expr::Struct path fields base) = true
is_struct_literal _ = false

abbrev pub is_brace : Delim → Bool
is_brace Brace = true
is_brace _ = false

abbrev pub is_block_like : ExprLayer → Bool
is_block_like (Expr-F.Expr::Call call) = is_brace call.tokens.delim
is_block_like (Expr-F.Block label b) = true
is_block_like (Expr-F.Unsafe b) = true
is_block_like (Expr-F.ConstBlock b) = true
is_block_like (Expr-F.If branches otherwise) = true
is_block_like (Expr-F.Match x attrs arms) = true
is_block_like (Expr-F.Loop label b) = true
is_block_like (Expr-F.While label c b) = true
is_block_like (Expr-F.For label pat x b) = true
is_block_like _ = false

abbrev pub body_kind : ExprLayer → BodyKind
body_kind (Expr-F.Expr::Call call) = MacroBody
body_kind (Expr-F.Block None b) = BlockBody b.lone b.structless
body_kind _ = OtherBody

abbrev pub is_raw_word : Option Word → Bool
is_raw_word None = false
is_raw_word (Some w) = not w.raw && bytes_eq w.text (codes "raw")

abbrev pub is_raw_path : ExprLayer → Bool
is_raw_path (Expr-F.Path path) = is_raw_word (lone_word path)
is_raw_path _ = false

abbrev pub is_bare_literal : ExprLayer → Bool
is_bare_literal (Expr-F.Lit l) = is_bare_number l.kind l.text
is_bare_literal _ = false

-- ---- what it begins with and ends in, where it is a statement

-- The left edge of the expression may begin a part of a statement.
abbrev pub begins_part : ExprFacts → Bool
begins_part x = not x.block_like && x.starts

abbrev pub starts_of : ExprLayer → Bool
starts_of (Expr-F.Chain x rest) = begins_part x
starts_of (Expr-F.Cast x types) = begins_part x
starts_of (Expr-F.Range (Some x) inclusive end) = begins_part x
starts_of (Expr-F.Assign (y ∷ more) x) = begins_part y.0
starts_of (Expr-F.Postfix x steps) = first_step is_dotted steps || begins_part x
starts_of _ = true

abbrev pub tight_operands : List (Op × ExprFacts) → Bool
tight_operands [] = true
tight_operands (x ∷ []) = x.1.tight
tight_operands (x ∷ y ∷ more) = tight_operands (y ∷ more)

abbrev pub tight_operand : Option ExprFacts → Bool
tight_operand None = true
tight_operand (Some x) = x.tight

abbrev pub tight_of : ExprLayer → Bool
tight_of (Expr-F.Chain x rest) = tight_operands rest
tight_of (Expr-F.Unary ps x) = x.tight
tight_of (Expr-F.Range start inclusive end) = tight_operand end
tight_of (Expr-F.Assign targets x) = x.tight
tight_of (Expr-F.Closure is_async moves params x) = not (is_lone_body x.kind) && x.tight
tight_of (Expr-F.Return x) = tight_operand x
tight_of (Expr-F.Break label x) = tight_operand x
tight_of _ = true

-- ---- struct literals outside delimiters

abbrev pub structless_operand : Option ExprFacts → Bool
structless_operand None = true
structless_operand (Some x) = x.structless

-- An operand that may be left out. If it begins with a `{`, it may stand only where a struct
-- literal may.
abbrev pub structless_end : Option ExprFacts → Bool
structless_end None = true
structless_end (Some x) = x.structless && not (is_brace_lead x.lead)

abbrev pub structless_of : ExprLayer → Bool
structless_of (Expr-F.Expr::Struct path fields base) = false
structless_of (Expr-F.Chain x rest) = x.structless && list_all (λ (y : Op × ExprFacts). y.1.structless) rest
structless_of (Expr-F.Cast x types) = x.structless
structless_of (Expr-F.Unary ps x) = x.structless
structless_of (Expr-F.Range start inclusive end) = structless_operand start && structless_end end
structless_of (Expr-F.Assign targets x) = list_all (λ (y : ExprFacts × Op). y.0.structless) targets && x.structless
structless_of (Expr-F.Postfix x steps) = x.structless
structless_of (Expr-F.Closure is_async moves params x) = x.structless
structless_of (Expr-F.Return x) = structless_end x
structless_of (Expr-F.Break label x) = structless_end x
structless_of _ = true

-- ---- what is within stands in its places

abbrev pub next_is_angle : List (Op × ExprFacts) → Bool
next_is_angle [] = false
next_is_angle (x ∷ more) = is_angle_op x.0

-- the place of an operand after an operator of this level, by the operators that follow
abbrev pub operand_place : ℕ → Bool → List (Op × ExprFacts) → Place
operand_place level no_struct [] = plain (suc level) no_struct
operand_place level no_struct (x ∷ more) = before_op (suc level) no_struct false (is_angle_op x.0)

abbrev pub operands_placed : ℕ → Bool → List (Op × ExprFacts) → Bool
operands_placed level no_struct [] = true
operands_placed level no_struct (x ∷ more) =
    (op_level x.0 == level) && placed x.1 (operand_place level no_struct more) && operands_placed level no_struct more

-- Operators of level 4, the comparisons, don't chain.
abbrev pub may_chain : ℕ → List (Op × ExprFacts) → Bool
may_chain level [] = false
may_chain level (x ∷ []) = true
may_chain level (x ∷ y ∷ more) = not (level == 4)

-- the levels of operators that chain: neither assignments nor ranges
abbrev pub is_chain_level : ℕ → Bool
is_chain_level level = nat_le 2 level && nat_le level 10

abbrev pub chain_placed : ℕ → ExprFacts → List (Op × ExprFacts) → Bool → Bool → Bool
chain_placed level x rest no_struct first =
    is_chain_level level && may_chain level rest && placed x (before_op (suc level) no_struct first (next_is_angle rest))
    && operands_placed level no_struct rest

abbrev pub start_placed : Option ExprFacts → Bool → Bool → Bool
start_placed None no_struct first = true
start_placed (Some x) no_struct first = placed x (before_op 2 no_struct first false)

-- Where no struct literal may stand, an operand that may be left out doesn't begin with a `{`.
abbrev pub begins_free : Bool → ExprFacts → Bool
begins_free no_struct x = not (no_struct && is_brace_lead x.lead)

abbrev pub end_placed : Option ExprFacts → Bool → Bool → Bool
end_placed None inclusive no_struct = not inclusive
end_placed (Some x) inclusive no_struct = placed x (plain 2 no_struct) && begins_free no_struct x

abbrev pub targets_placed : List (ExprFacts × Op) → Bool → Bool → Bool
targets_placed [] no_struct first = true
targets_placed (x ∷ more) no_struct first =
    (op_level x.1 == 0) && placed x.0 (before_op 1 no_struct first false) && targets_placed more no_struct false

abbrev pub operand_placed : Option ExprFacts → Bool → Bool
operand_placed None no_struct = true
operand_placed (Some x) no_struct = placed x (plain 0 no_struct) && begins_free no_struct x

-- A `break` without a label has no operand that begins with a lifetime: it would be read as the
-- label.
abbrev pub break_placed : Option Lifetime → Option ExprFacts → Bool
break_placed None (Some x) = not (is_label_lead x.lead)
break_placed _ _ = true

abbrev pub base_placed : Option (Option ExprFacts) → Bool
base_placed (Some (Some x)) = placed x FREE
base_placed _ = true

-- The base begins a part of a statement unless its first step is `.` or `?`. No tuple index stands
-- directly after a number without a suffix.
abbrev pub postfix_placed : ExprFacts → List StepFacts → Bool → Bool → Bool
postfix_placed x steps no_struct first =
    is_there steps && are_steps steps && not (x.is_number && first_step is_tuple_index steps)
    && placed x (before_op 14 no_struct (first && not (first_step is_dotted steps)) false)

abbrev pub types_good : List TypeFacts → Bool
types_good xs = list_all (good_at NoBounds) xs

abbrev pub branches_good : List BranchFacts → Bool
branches_good branches = list_all (λ (b : BranchFacts). b.good) branches

abbrev pub may_be_good : Option BlockFacts → Bool
may_be_good None = true
may_be_good (Some b) = b.good

abbrev pub arms_good : List ArmFacts → Bool
arms_good arms = list_all (λ (a : ArmFacts). a.good) arms

abbrev pub within_of : ExprLayer → Bool → Bool → Bool
within_of (Expr-F.Lit l) no_struct first = is_literal l.kind l.text
within_of (Expr-F.Path path) no_struct first = (about_path path Code).good
within_of Expr-F.Underscore no_struct first = true
within_of (Expr-F.Expr::Call call) no_struct first = (about_call call).good
within_of (Expr-F.Paren x) no_struct first = placed x FREE
within_of (Expr-F.Continue label) no_struct first = true
within_of (Expr-F.Tuple xs) no_struct first = all_free xs
within_of (Expr-F.Array xs) no_struct first = all_free xs
within_of (Expr-F.Repeat x length) no_struct first = placed x FREE && not (is_empty length) && is_token_list length
within_of (Expr-F.Expr::Struct path fields base) no_struct first = (about_path path Code).good && all_good fields && base_placed base
within_of (Expr-F.Chain x rest) no_struct first = chain_placed (level_of_chain rest) x rest no_struct first
within_of (Expr-F.Cast x types) no_struct first =
    is_there types && placed x (before_op 12 no_struct first false) && types_good (map about_type types)
within_of (Expr-F.Unary ps x) no_struct first = is_there ps && placed x (plain 12 no_struct) && not (is_prefix_lead x.lead)
within_of (Expr-F.Range start inclusive end) no_struct first = start_placed start no_struct first && end_placed end inclusive no_struct
within_of (Expr-F.Assign targets x) no_struct first =
    is_there targets && targets_placed targets no_struct first && placed x (plain 1 no_struct)
within_of (Expr-F.Postfix x steps) no_struct first = postfix_placed x steps no_struct first
within_of (Expr-F.Block label b) no_struct first = b.good
within_of (Expr-F.Unsafe b) no_struct first = b.good
within_of (Expr-F.ConstBlock b) no_struct first = b.good
within_of (Expr-F.Async moves b) no_struct first = b.good
within_of (Expr-F.If branches otherwise) no_struct first = is_there branches && branches_good branches && may_be_good otherwise
within_of (Expr-F.Match x attrs arms) no_struct first = placed x (plain 0 true) && are_attrs true attrs && arms_good arms
within_of (Expr-F.Loop label b) no_struct first = b.good
within_of (Expr-F.While label c b) no_struct first = c.good && b.good
within_of (Expr-F.For label pat x b) no_struct first = pat_good Alternatives (about_pat pat) && placed x (plain 0 true) && b.good
within_of (Expr-F.Closure is_async moves params x) no_struct first =
    list_all is_closure_param params && placed x (plain 0 no_struct) && not (sheds x.kind no_struct)
within_of (Expr-F.TypedClosure is_async moves params output b) no_struct first = list_all is_closure_param params && good_at NoBounds (about_type output) && b.good
within_of (Expr-F.Return x) no_struct first = operand_placed x no_struct
within_of (Expr-F.Break label x) no_struct first = operand_placed x no_struct && break_placed label x

-- ---- the facts about each node

abbrev pub expr_facts : ExprLayer → ExprFacts
expr_facts x = record {
  form = deeper (inside x);
  level = level_of x;
  lead = lead_of x;
  tail = tail_of x;
  jumps = is_jump x;
  endless = is_endless x;
  typed = is_typed_cast x;
  is_struct = is_struct_literal x;
  block_like = is_block_like x;
  kind = body_kind x;
  is_raw = is_raw_path x;
  is_number = is_bare_literal x;
  starts = starts_of x;
  tight = tight_of x;
  structless = structless_of x;
  within = within_of x;
}

-- ---- beginnings

-- The expression that these tokens spell may stand before the rest. If it ends in braces that
-- aren't in the tree, it ends as a block does: then it is enough that no operator follows.
abbrev pub Followed : ExprFacts → Place → ℕ → Tokens → Tokens → Type 0
Followed x place depth ts rest = IsTrue (follows x place rest) ⊎ (EndsBraced x.form depth ts rest × IsTrue (strength rest == 0))

-- An expression with these facts stands at the place, and the first `n` tokens spell it.
abbrev pub ExprFront : Place → ExprFacts → Tokens → ℕ → ℕ → Type 0
ExprFront place x ts n depth = (n ≤ length ts) × Spells x.form depth ts (drop n ts) × IsTrue (placed x place) × Followed x place depth ts (drop n ts)
