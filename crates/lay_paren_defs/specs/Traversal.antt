-- One traversal of the parts of each kind of node: in which place each part stands, and how the
-- node is built again from the results.
use Rattle.std.specs.Prelude.{ℕ, suc, Bool, true, false, ◌&&◌, not, if◌then◌else◌, is_some, List, [], ◌∷◌, map, Option, Some, None, option_map}
use Rattle.lay_node.specs.declared.token.Lifetime.{Lifetime}
use Rattle.lay_code.specs.Operators.{is_angle_op, op_level}
use Rattle.lay_code.specs.nodes.Exprs.{StepFacts, first_step, is_dotted, is_tuple_index}
use Rattle.lay_code.specs.nodes.Places.{FREE, before_op, begins, link_place, plain, statement}
use Rattle.lay_code.specs.nodes.PlacesTable.{as_node}
use Rattle.lay_code.specs.declared.blocks.Arm.{Arm}
use Rattle.lay_code.specs.declared.blocks.Block.{Block}
use Rattle.lay_code.specs.declared.blocks.Branch.{Branch}
use Rattle.lay_code.specs.declared.blocks.Stmt.{Stmt}
use Rattle.lay_code.specs.declared.blocks.Stmt.TheOpen.{Arm-F, Block-F, Branch-F, Condition-F, Expr-F, FieldExpr-F, Item-F, ItemKind-F, Link-F, Step-F, Stmt-F}
use Rattle.lay_code.specs.declared.blocks.Stmt.TheVariants as stmt
use Rattle.lay_code.specs.declared.conditions.Condition.{Condition}
use Rattle.lay_code.specs.declared.conditions.Link.{Link}
use Rattle.lay_code.specs.declared.conditions.Link.TheVariants as link
use Rattle.lay_code.specs.declared.exprs.Expr.{Expr}
use Rattle.lay_code.specs.declared.exprs.Expr.TheVariants as expr
use Rattle.lay_code.specs.declared.exprs.FieldExpr.{FieldExpr}
use Rattle.lay_code.specs.declared.exprs.FieldExpr.TheVariants as field
use Rattle.lay_code.specs.declared.exprs.Place.{Place}
use Rattle.lay_code.specs.declared.exprs.Step.{Step}
use Rattle.lay_code.specs.declared.exprs.Step.TheVariants as step
use Rattle.lay_code.specs.declared.item.Item.{Item}
use Rattle.lay_code.specs.declared.item.ItemKind.{ItemKind}
use Rattle.lay_code.specs.declared.item.ItemKind.TheVariants as kind
use Rattle.lay_code.specs.declared.operators.Op.{Op}
use Rattle.lay_paren_defs.specs.loose.Slots.{Any, BeforeElse, BeforeIndex, Optional, Prefixed, Slot, Unlabelled}

-- ---- ways to put parts together

pub record Ways (M : Type 0 → Type 0) : Type 1 where
  -- a node without parts
  pub kept : {A : Type 0} → A → M A
  -- of one part
  pub one : {A B : Type 0} → (A → B) → M A → M B
  -- of two
  pub both : {A B C : Type 0} → (A → B → C) → M A → M B → M C
  pub all : {A : Type 0} → List (M A) → M (List A)
  -- a part that may be left out
  pub may_be : {A : Type 0} → Option (M A) → M (Option A)
  -- the base of a struct literal
  pub base : {A : Type 0} → Option (Option (M A)) → M (Option (Option A))
  -- A row, each element of which is built from what its part became. The flag is that of the first
  -- element, and the others have none. An element also sees the elements after it.
  pub row : {A B C : Type 0} → (A → B → C) → (Bool → A → List A → M B) → Bool → List A → M (List C)

abbrev pub Same : Type 0 → Type 0
Same A = A

-- Each result is the part itself. An element of a row is built as if nothing stood after it.
abbrev pub as_is : Ways Same
as_is = record {
  kept = λ x. x;
  one = λ f x. f x;
  both = λ f x y. f x y;
  all = λ xs. xs;
  may_be = λ x. x;
  base = λ x. x;
  row = λ put part first xs. map (λ x. put x (part first x [])) xs;
}

-- How the parts of a node are handled. They are statements S, links L, expressions E, fields F,
-- steps T, kinds of items K, arms A, blocks B, branches R, conditions C and items I.
pub record PartsBy (M : Type 0 → Type 0) (S L E F T K A B R C I : Type 0) : Type 0 where
  pub part : E → Place → Slot → M Expr
  -- the body of an arm or of a closure
  pub body : E → Place → M Expr
  -- the whole of a statement
  pub whole : E → M Expr
  -- what is known of the steps after an expression
  pub told : M (List Step) → List StepFacts
  pub stmts : List S → List (M Stmt)
  -- of a condition
  pub links : List L → List (M Link)
  pub fields : List F → List (M FieldExpr)
  pub steps : List T → List (M Step)
  pub branches : List R → List (M Branch)
  pub arms : List A → List (M Arm)
  pub items : List I → List (M Item)
  pub block : B → M Block
  pub some_block : Option B → Option (M Block)
  pub condition : C → M Condition
  pub kind : K → M ItemKind
  pub item : I → M Item

-- the same, where all nodes but expressions and links are results already
abbrev pub made_within : {M : Type 0 → Type 0} {L E : Type 0} → (E → Place → Slot → M Expr)
    → (E → Place → M Expr) → (E → M Expr) → (M (List Step) → List StepFacts)
    → (List L → List (M Link))
    → PartsBy M (M Stmt) L E (M FieldExpr) (M Step) (M ItemKind) (M Arm) (M Block) (M Branch)
    (M Condition) (M Item)
made_within part body whole told links = record {
  part = part;
  body = body;
  whole = whole;
  told = told;
  stmts = λ xs. xs;
  links = links;
  fields = λ xs. xs;
  steps = λ xs. xs;
  branches = λ xs. xs;
  arms = λ xs. xs;
  items = λ xs. xs;
  block = λ x. x;
  some_block = λ x. x;
  condition = λ x. x;
  kind = λ x. x;
  item = λ x. x;
}

-- ---- places and slots

-- the level of the first operator, or 0 if there is none
abbrev pub level_by : {A : Type 0} → List (Op × A) → ℕ
level_by [] = 0
level_by (x ∷ more) = op_level x.0

-- The first operator is `<` or `<<`.
abbrev pub angle_next : {A : Type 0} → List (Op × A) → Bool
angle_next [] = false
angle_next (x ∷ more) = is_angle_op x.0

-- The place of an operand after an operator of this level. It stands before the next operator; the
-- last operand has the other rules of the node's place.
abbrev pub operand_at : {A : Type 0} → Place → ℕ → List (Op × A) → Place
operand_at place level [] = as_node place (suc level)
operand_at place level (x ∷ more) = before_op (suc level) place.no_struct false (is_angle_op x.0)

abbrev pub base_slot : List StepFacts → Slot
base_slot steps = if first_step is_tuple_index steps then BeforeIndex else Any

abbrev pub base_place : Place → List StepFacts → Place
base_place place steps =
    before_op 14 place.no_struct (begins place.start && not (first_step is_dotted steps)) false

abbrev pub break_slot : Option Lifetime → Slot
break_slot None = Unlabelled
break_slot (Some label) = Optional

-- The slot of the value of a `let`. The flag says that an `else` follows.
abbrev pub value_slot : Bool → Slot
value_slot true = BeforeElse
value_slot false = Any

-- ---- each kind of node

module _ {M : Type 0 → Type 0} {S L E F T K A B R C I : Type 0} (w : Ways M)
    (of : PartsBy M S L E F T K A B R C I) where
  abbrev pub free_of : List E → M (List Expr)
  free_of xs = w.all (map (λ x. of.part x FREE Any) xs)

  abbrev pub may_at : Place → Slot → Option E → M (Option Expr)
  may_at place slot x = w.may_be (option_map (λ y. of.part y place slot) x)

  abbrev pub step_of : Step-F S L E F T K A B R C I → M Step
  step_of (Step-F.Field name) = w.kept (step.Field name)
  step_of (Step-F.TupleIndex index) = w.kept (step.TupleIndex index)
  step_of (Step-F.Method name generics args) = w.one (step.Method name generics) (free_of args)
  step_of (Step-F.Apply args) = w.one step.Apply (free_of args)
  step_of (Step-F.Index x) = w.one step.Index (of.part x FREE Any)
  step_of Step-F.Try = w.kept step.Try
  step_of Step-F.Await = w.kept step.Await

  abbrev pub field_of : FieldExpr-F S L E F T K A B R C I → M FieldExpr
  field_of (FieldExpr-F.Named attrs name x) = w.one (field.Named attrs name) (of.part x FREE Any)
  field_of (FieldExpr-F.Numbered attrs index x) =
      w.one (field.Numbered attrs index) (of.part x FREE Any)
  field_of (FieldExpr-F.Short attrs name) = w.kept (field.Short attrs name)

  abbrev pub operands_of : Place → ℕ → List (Op × E) → M (List (Op × Expr))
  operands_of place level xs =
      w.row (λ (x : Op × E) (y : Expr). (x.0, y))
      (λ first x more. of.part x.1 (operand_at place level more) Any) false xs

  -- The flag says that the first target begins a part of what begins a statement.
  abbrev pub targets_of : Place → Bool → List (E × Op) → M (List (Expr × Op))
  targets_of place first xs =
      w.row (λ (x : E × Op) (y : Expr). (y, x.1))
      (λ first x more. of.part x.0 (before_op 1 place.no_struct first false) Any) first xs

  abbrev pub postfix_of : Place → E → M (List Step) → M Expr
  postfix_of place x steps =
      w.both expr.Postfix
      (of.part x (base_place place (of.told steps)) (base_slot (of.told steps))) steps

  -- The node stands in this place.
  abbrev pub expr_of : Place → Expr-F S L E F T K A B R C I → M Expr
  expr_of p (Expr-F.Lit l) = w.kept (expr.Lit l)
  expr_of p (Expr-F.Path path) = w.kept (expr.Path path)
  expr_of p Expr-F.Underscore = w.kept expr.Underscore
  expr_of p (Expr-F.Expr::Call call) = w.kept (expr.Call call)
  expr_of p (Expr-F.Paren x) = w.one expr.Paren (of.part x FREE Any)
  expr_of p (Expr-F.Continue label) = w.kept (expr.Continue label)
  expr_of p (Expr-F.Tuple xs) = w.one expr.Tuple (free_of xs)
  expr_of p (Expr-F.Array xs) = w.one expr.Array (free_of xs)
  expr_of p (Expr-F.Repeat x length) = w.one (λ y. expr.Repeat y length) (of.part x FREE Any)
  expr_of p (Expr-F.Expr::Struct path fields base) =
      w.both (expr.Struct path) (w.all (of.fields fields))
      (w.base (option_map (option_map (λ x. of.part x FREE Any)) base))
  expr_of p (Expr-F.Chain x rest) =
      w.both expr.Chain
      (of.part x (before_op (suc (level_by rest)) p.no_struct (begins p.start) (angle_next rest))
      Any) (operands_of p (level_by rest) rest)
  expr_of p (Expr-F.Cast x types) =
      w.one (λ y. expr.Cast y types)
      (of.part x (before_op 12 p.no_struct (begins p.start) false) Any)
  expr_of p (Expr-F.Unary ps x) = w.one (expr.Unary ps) (of.part x (as_node p 12) Prefixed)
  expr_of p (Expr-F.Range start inclusive end) =
      w.both (λ a b. expr.Range a inclusive b)
      (may_at (before_op 2 p.no_struct (begins p.start) false) Any start)
      (may_at (as_node p 2) Optional end)
  expr_of p (Expr-F.Assign targets x) =
      w.both expr.Assign (targets_of p (begins p.start) targets) (of.part x (as_node p 1) Any)
  expr_of p (Expr-F.Postfix x steps) = postfix_of p x (w.all (of.steps steps))
  expr_of p (Expr-F.Block label b) = w.one (expr.Block label) (of.block b)
  expr_of p (Expr-F.Unsafe b) = w.one expr.Unsafe (of.block b)
  expr_of p (Expr-F.ConstBlock b) = w.one expr.ConstBlock (of.block b)
  expr_of p (Expr-F.Async moves b) = w.one (expr.Async moves) (of.block b)
  expr_of p (Expr-F.If branches otherwise) =
      w.both expr.If (w.all (of.branches branches)) (w.may_be (of.some_block otherwise))
  expr_of p (Expr-F.Match x attrs arms) =
      w.both (λ y ys. expr.Match y attrs ys) (of.part x (plain 0 true) Any) (w.all (of.arms arms))
  expr_of p (Expr-F.Loop label b) = w.one (expr.Loop label) (of.block b)
  expr_of p (Expr-F.While label c b) = w.both (expr.While label) (of.condition c) (of.block b)
  expr_of p (Expr-F.For label pat x b) =
      w.both (expr.For label pat) (of.part x (plain 0 true) Any) (of.block b)
  expr_of p (Expr-F.Closure is_async moves params x) =
      w.one (expr.Closure is_async moves params) (of.body x (plain 0 p.no_struct))
  expr_of p (Expr-F.TypedClosure is_async moves params output b) =
      w.one (expr.TypedClosure is_async moves params output) (of.block b)
  expr_of p (Expr-F.Return x) = w.one expr.Return (may_at (plain 0 p.no_struct) Optional x)
  expr_of p (Expr-F.Break label x) =
      w.one (expr.Break label) (may_at (plain 0 p.no_struct) (break_slot label) x)

  -- The flags say that the link is a condition by itself, and that a further link follows.
  abbrev pub link_of : Bool → Bool → Link-F S L E F T K A B R C I → M Link
  link_of alone more (Link-F.Link::Expr x) =
      w.one link.Expr (of.part x (if alone then plain 0 true else link_place more) Any)
  link_of alone more (Link-F.Link::Let pat x) =
      w.one (link.Let pat) (of.part x (link_place more) Any)

  abbrev pub condition_of : Condition-F S L E F T K A B R C I → M Condition
  condition_of c = w.one (λ links. record { links = links }) (w.all (of.links c.links))

  abbrev pub stmt_of : Stmt-F S L E F T K A B R C I → M Stmt
  stmt_of (Stmt-F.Stmt::Let attrs pat ty x otherwise) =
      w.both (stmt.Let attrs pat ty) (may_at FREE (value_slot (is_some otherwise)) x)
      (w.may_be (of.some_block otherwise))
  stmt_of (Stmt-F.Item item) = w.one stmt.Item (of.item item)
  stmt_of (Stmt-F.Stmt::Expr attrs x ended) = w.one (λ y. stmt.Expr attrs y ended) (of.whole x)

  abbrev pub block_of : Block-F S L E F T K A B R C I → M Block
  block_of b = w.one (λ stmts. record { attrs = b.attrs; stmts = stmts }) (w.all (of.stmts b.stmts))

  abbrev pub branch_of : Branch-F S L E F T K A B R C I → M Branch
  branch_of b =
      w.both (λ c y. record { condition = c; body = y }) (of.condition b.condition)
      (of.block b.body)

  abbrev pub arm_of : Arm-F S L E F T K A B R C I → M Arm
  arm_of a =
      w.both (λ g x. record { attrs = a.attrs; pat = a.pat; guard = g; body = x })
      (may_at FREE Any a.guard) (of.body a.body statement)

  abbrev pub kind_of : ItemKind-F S L E F T K A B R C I → M ItemKind
  kind_of (ItemKind-F.ExternCrate x) = w.kept (kind.ExternCrate x)
  kind_of (ItemKind-F.Import tree) = w.kept (kind.Import tree)
  kind_of (ItemKind-F.FileModule name) = w.kept (kind.FileModule name)
  kind_of (ItemKind-F.Module name attrs items) =
      w.one (kind.Module name attrs) (w.all (of.items items))
  kind_of (ItemKind-F.Function head wheres b) =
      w.one (kind.Function head wheres) (w.may_be (of.some_block b))
  kind_of (ItemKind-F.Alias x) = w.kept (kind.Alias x)
  kind_of (ItemKind-F.ItemKind::Struct x) = w.kept (kind.Struct x)
  kind_of (ItemKind-F.Union x) = w.kept (kind.Union x)
  kind_of (ItemKind-F.Enum x) = w.kept (kind.Enum x)
  kind_of (ItemKind-F.Value head x) = w.one (kind.Value head) (may_at FREE Any x)
  kind_of (ItemKind-F.Trait head wheres attrs items) =
      w.one (kind.Trait head wheres attrs) (w.all (of.items items))
  kind_of (ItemKind-F.Impl head wheres attrs items) =
      w.one (kind.Impl head wheres attrs) (w.all (of.items items))
  kind_of (ItemKind-F.Foreign is_unsafe abi attrs items) =
      w.one (kind.Foreign is_unsafe abi attrs) (w.all (of.items items))
  kind_of (ItemKind-F.MacroRules name rules) = w.kept (kind.MacroRules name rules)
  kind_of (ItemKind-F.ItemKind::Call call) = w.kept (kind.Call call)

  abbrev pub item_of : Item-F S L E F T K A B R C I → M Item
  item_of item =
      w.one (λ y. record { attrs = item.attrs; vis = item.vis; kind = y }) (of.kind item.kind)
