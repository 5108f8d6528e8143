-- What each node becomes, by its kind, and an expression by what fits.
use Rattle.std.proofs.Common.{◌≡◌, ℕ, ◌<◌, ◌≤◌, Bool, true, false, ◌&&◌, if◌then◌else◌, List, [], ◌∷◌, map, Option, Some, None, refl, sym, ap, ap₂, subst, ◌∙◌, arith}
use Rattle.lay_node.specs.declared.patterns.Pat.{Pat}
use Rattle.lay_node.specs.declared.attr.Attr.{Attr}
use Rattle.lay_node.specs.declared.tokens.MacroCall.{MacroCall}
use Rattle.lay_node.specs.declared.token.Lifetime.{Lifetime}
use Rattle.lay_node.specs.declared.token.Literal.{Literal}
use Rattle.lay_node.specs.declared.token.Name.{Name}
use Rattle.lay_node.specs.declared.types.Path.{Path}
use Rattle.lay_node.specs.declared.functions.FnHead.{FnHead}
use Rattle.lay_node.specs.declared.generics.Wheres.{Wheres}
use Rattle.lay_node.specs.declared.heads.ImplHead.{ImplHead}
use Rattle.lay_node.specs.declared.heads.TraitHead.{TraitHead}
use Rattle.lay_node.specs.declared.heads.ValueHead.{ValueHead}
use Rattle.lay_code.specs.nodes.Code.{about_expr, about_step}
use Rattle.std.proofs.lemmas.Bool.{le-leb}
use Rattle.lay_code.specs.nodes.Blocks.{may_precede_else}
use Rattle.lay_code.specs.nodes.Exprs.{ExprFacts, may}
use Rattle.lay_code.specs.nodes.Layers.{ExprNode, FieldNode, KindNode, LinkNode, StepNode, StmtNode}
use Rattle.lay_code.specs.nodes.Places.{FREE, before_op, begins, plain, statement}
use Rattle.lay_code.specs.nodes.PlacesTable.{as_node}
use Rattle.lay_code.specs.declared.blocks.Arm.{Arm}
use Rattle.lay_code.specs.declared.blocks.Block.{Block}
use Rattle.lay_code.specs.declared.blocks.Branch.{Branch}
use Rattle.lay_code.specs.declared.blocks.Stmt.{Stmt}
use Rattle.lay_code.specs.declared.blocks.Stmt.TheOpen.{Expr-F, FieldExpr-F, ItemKind-F, Link-F, Step-F, Stmt-F}
use Rattle.lay_code.specs.declared.blocks.Stmt.TheViews as views
use Rattle.lay_code.specs.declared.conditions.Condition.{Condition}
use Rattle.lay_code.specs.declared.conditions.Link.{Link}
use Rattle.lay_code.specs.declared.exprs.Expr.{Expr}
use Rattle.lay_code.specs.declared.exprs.Expr.TheVariants as expr
use Rattle.lay_code.specs.declared.exprs.FieldExpr.{FieldExpr}
use Rattle.lay_code.specs.declared.exprs.FieldExpr.TheVariants as field
use Rattle.lay_code.specs.declared.exprs.Place.{Place}
use Rattle.lay_code.specs.declared.exprs.Step.{Step}
use Rattle.lay_code.specs.declared.exprs.Step.TheVariants as step
use Rattle.lay_code.specs.declared.item.Item.{Item}
use Rattle.lay_code.specs.declared.item.ItemKind.{ItemKind}
use Rattle.lay_code.specs.declared.item.ItemKind.TheVariants as kind
use Rattle.lay_code.specs.declared.operators.Op.{Op}
use Rattle.lay_paren_defs.specs.loose.Slots.{Any, BeforeElse, Slot, fits}
use Rattle.lay_paren.specs.InPlace.{arm_least, block_least, branch_least, condition_least, exprs_least, field_least, first_place, item_least, kind_least, least_in, least_parts, link_least, links_from, links_least, operand_least, operands_least, parts_least, placing, step_least, stmt_least, targets_least}
use Rattle.lay_paren.specs.Least.{chosen, least, made_of, wrapped}
use Rattle.lay_form.specs.Depth.{least_depth}
use Rattle.lay_depth.specs.nodes.Depths.{counted}
use Rattle.lay_paren.specs.Made.{Made, all}
use Rattle.lay_paren.specs.Nodes.{arm_parts, expr_parts, field_parts, kind_parts, link_parts, step_parts, stmt_parts, made_arm, made_block, made_branch, made_condition, made_field, made_item, made_kind, made_link, made_step, made_stmt}
use Rattle.lay_paren_defs.specs.Traversal.{base_place, base_slot, expr_of, field_of, kind_of, level_by, link_of, operand_at, step_of, stmt_of}
use Rattle.lay_paren.specs.Parts.{Linked, Placed, arm_made, field_made, kind_made, link_made, step_made, stmt_made, condition_links, expr_made, free_made, links_made, operands_made, targets_made}
use Rattle.lay_code.proofs.nodes.ItemLaws as laws
use Rattle.lay_paren.proofs.MadeFolds as made

-- ---- lists of parts

abbrev lists : {A : Type 0} → (A → Made A) → List A → List A
lists f xs = (all (map f xs)).result

lists_are : {A : Type 0} (f : A → Made A) (g : A → A) → ((x : A) → (f x).result ≡ g x) → (xs : List A) → lists f xs ≡ map g xs
lists_are f g same [] = refl
lists_are f g same (x ∷ xs) = ap₂ (λ y ys. y ∷ ys) (same x) (lists_are f g same xs)

free_are : (xs : List Expr) → (free_made (map made_of xs)).result ≡ exprs_least xs
unfolding least_in
free_are [] = refl
free_are (x ∷ xs) = ap (λ (ys : List Expr). (made_of x FREE Any).result ∷ ys) (free_are xs)

abbrev made_operand : Op × Expr → Op × Placed
made_operand x = (x.0, made_of x.1)

place_same : (p : Place) (level : ℕ) (more : List (Op × Expr)) → operand_at p level (map made_operand more) ≡ operand_at p level more
place_same p level [] = refl
place_same p level (x ∷ more) = refl

operands_are : (p : Place) (level : ℕ) (xs : List (Op × Expr)) → (operands_made p level (map made_operand xs)).result ≡ operands_least p level xs
unfolding least_in
operands_are p level [] = refl
operands_are p level (x ∷ more) =
    ap₂ (λ (q : Place) (ys : List (Op × Expr)). (x.0, (made_of x.1 q Any).result) ∷ ys) (place_same p level more) (operands_are p level more)

abbrev made_target : Expr × Op → Placed × Op
made_target x = (made_of x.0, x.1)

targets_are : (p : Place) (first : Bool) (xs : List (Expr × Op)) → (targets_made p first (map made_target xs)).result ≡ targets_least p first xs
unfolding least_in
targets_are p first [] = refl
targets_are p first (x ∷ more) =
    ap (λ (ys : List (Expr × Op)). ((made_of x.0 (before_op 1 p.no_struct first false) Any).result, x.1) ∷ ys) (targets_are p false more)

joined_are : (xs : List Link) → (all (links_made (map made_link xs))).result ≡ links_from false xs
unfolding link_least
joined_are [] = refl
joined_are (x ∷ []) = refl
joined_are (x ∷ y ∷ more) = ap (λ (ys : List Link). (made_link x false true).result ∷ ys) (joined_are (y ∷ more))

links_are : (xs : List Link) → (all (condition_links (map made_link xs))).result ≡ links_least xs
unfolding link_least
links_are [] = refl
links_are (x ∷ []) = refl
links_are (x ∷ y ∷ more) = joined_are (x ∷ y ∷ more)

-- ---- nodes of each kind

abbrev field_in : FieldNode → FieldExpr
field_in x = field_of placing least_parts x

field_by : (y : FieldNode) → (field_made (field_parts y)).result ≡ field_in y
unfolding least_in
field_by (FieldExpr-F.Named attrs name x) = refl
field_by _ = refl

pub field_becomes : (x : FieldExpr) → field_least x ≡ field_in (views.out-FieldExpr x)
unfolding field_least
field_becomes x =
    ap (λ (z : FieldExpr). (made_field z).result) (sym (views.roll-out-FieldExpr x))
    ∙ ap (λ (m : Made FieldExpr). m.result) (made.field_parts_is (views.out-FieldExpr x)) ∙ field_by (views.out-FieldExpr x)

abbrev pub step_in : StepNode → Step
step_in x = step_of placing least_parts x

step_by : (y : StepNode) → (step_made (step_parts y)).result ≡ step_in y
unfolding least_in
step_by (Step-F.Method name generics args) = ap (λ (xs : List Expr). step.Method name generics xs) (free_are args)
step_by (Step-F.Apply args) = ap (λ (xs : List Expr). step.Apply xs) (free_are args)
step_by _ = refl

pub step_becomes : (x : Step) → step_least x ≡ step_in (views.out-Step x)
unfolding step_least
step_becomes x =
    ap (λ (z : Step). (made_step z).result) (sym (views.roll-out-Step x))
    ∙ ap (λ (m : Made Step). m.result) (made.step_parts_is (views.out-Step x)) ∙ step_by (views.out-Step x)

abbrev stmt_in : StmtNode → Stmt
stmt_in x = stmt_of placing least_parts x

stmt_by : (y : StmtNode) → (stmt_made (stmt_parts y)).result ≡ stmt_in y
unfolding least_in item_least block_least
stmt_by (Stmt-F.Stmt::Let attrs pat ty None None) = refl
stmt_by (Stmt-F.Stmt::Let attrs pat ty (Some x) None) = refl
stmt_by (Stmt-F.Stmt::Let attrs pat ty None (Some b)) = refl
stmt_by (Stmt-F.Stmt::Let attrs pat ty (Some x) (Some b)) = refl
stmt_by _ = refl

pub stmt_becomes : (x : Stmt) → stmt_least x ≡ stmt_in (views.out-Stmt x)
unfolding stmt_least
stmt_becomes x =
    ap (λ (z : Stmt). (made_stmt z).result) (sym (views.roll-out-Stmt x))
    ∙ ap (λ (m : Made Stmt). m.result) (made.stmt_parts_is (views.out-Stmt x)) ∙ stmt_by (views.out-Stmt x)

abbrev link_in : Bool → Bool → LinkNode → Link
link_in alone more x = link_of placing least_parts alone more x

link_by : (alone more : Bool) (y : LinkNode) → (link_made (link_parts y) alone more).result ≡ link_in alone more y
unfolding least_in
link_by alone more (Link-F.Link::Expr x) = refl
link_by alone more (Link-F.Link::Let pat x) = refl

pub link_becomes : (alone more : Bool) (x : Link) → link_least alone more x ≡ link_in alone more (views.out-Link x)
unfolding link_least
link_becomes alone more x =
    ap (λ (z : Link). (made_link z alone more).result) (sym (views.roll-out-Link x))
    ∙ ap (λ (m : Linked). (m alone more).result) (made.link_parts_is (views.out-Link x)) ∙ link_by alone more (views.out-Link x)

abbrev kind_in : KindNode → ItemKind
kind_in x = kind_of placing least_parts x

item_same : (x : Item) → (made_item x).result ≡ item_least x
unfolding item_least
item_same x = refl

items_are : (xs : List Item) → lists made_item xs ≡ map item_least xs
items_are xs = lists_are made_item item_least item_same xs

kind_by : (y : KindNode) → (kind_made (kind_parts y)).result ≡ kind_in y
unfolding least_in block_least
kind_by (ItemKind-F.Module name attrs items) = ap (λ (ys : List Item). kind.Module name attrs ys) (items_are items)
kind_by (ItemKind-F.Function head wheres None) = refl
kind_by (ItemKind-F.Function head wheres (Some b)) = refl
kind_by (ItemKind-F.Value head None) = refl
kind_by (ItemKind-F.Value head (Some x)) = refl
kind_by (ItemKind-F.Trait head wheres attrs items) = ap (λ (ys : List Item). kind.Trait head wheres attrs ys) (items_are items)
kind_by (ItemKind-F.Impl head wheres attrs items) = ap (λ (ys : List Item). kind.Impl head wheres attrs ys) (items_are items)
kind_by (ItemKind-F.Foreign is_unsafe abi attrs items) = ap (λ (ys : List Item). kind.Foreign is_unsafe abi attrs ys) (items_are items)
kind_by _ = refl

pub kind_becomes : (x : ItemKind) → kind_least x ≡ kind_in (views.out-ItemKind x)
unfolding kind_least
kind_becomes x =
    ap (λ (z : ItemKind). (made_kind z).result) (sym (views.roll-out-ItemKind x))
    ∙ ap (λ (m : Made ItemKind). m.result) (made.kind_parts_is (views.out-ItemKind x)) ∙ kind_by (views.out-ItemKind x)

-- ---- nodes of one kind each

stmt_same : (x : Stmt) → (made_stmt x).result ≡ stmt_least x
unfolding stmt_least
stmt_same x = refl

pub block_becomes : (x : Block) → block_least x ≡ record { attrs = x.attrs; stmts = map stmt_least x.stmts }
unfolding block_least
block_becomes x =
    ap (λ (z : Block). (made_block z).result) (sym (views.roll-out-Block x))
    ∙ ap (λ (m : Made Block). m.result) (made.block_parts_is (views.out-Block x))
    ∙ ap (λ (ys : List Stmt). record { attrs = x.attrs; stmts = ys }) (lists_are made_stmt stmt_least stmt_same x.stmts)

pub branch_becomes : (x : Branch) → branch_least x ≡ record { condition = condition_least x.condition; body = block_least x.body }
unfolding branch_least condition_least block_least
branch_becomes x =
    ap (λ (z : Branch). (made_branch z).result) (sym (views.roll-out-Branch x))
    ∙ ap (λ (m : Made Branch). m.result) (made.branch_parts_is (views.out-Branch x))

pub condition_becomes : (x : Condition) → condition_least x ≡ record { links = links_least x.links }
unfolding condition_least
condition_becomes x =
    ap (λ (z : Condition). (made_condition z).result) (sym (views.roll-out-Condition x))
    ∙ ap (λ (m : Made Condition). m.result) (made.condition_parts_is (views.out-Condition x))
    ∙ ap (λ (ys : List Link). record { links = ys }) (links_are x.links)

pub item_becomes : (x : Item) → item_least x ≡ record { attrs = x.attrs; vis = x.vis; kind = kind_least x.kind }
unfolding item_least kind_least
item_becomes x =
    ap (λ (z : Item). (made_item z).result) (sym (views.roll-out-Item x))
    ∙ ap (λ (m : Made Item). m.result) (made.item_parts_is (views.out-Item x))

abbrev arm_in : Arm → Arm
arm_in x = record { attrs = x.attrs; pat = x.pat; guard = operand_least FREE Any x.guard; body = least_in x.body statement Any }

arm_by : (attrs : List Attr) (pat : Pat) (guard : Option Expr) (body : Expr)
    → let x : Arm = record { attrs = attrs; pat = pat; guard = guard; body = body } in
    (arm_made (arm_parts (views.out-Arm x))).result ≡ arm_in x
unfolding least_in
arm_by attrs pat None body = refl
arm_by attrs pat (Some x) body = refl

pub arm_becomes : (x : Arm) → arm_least x ≡ arm_in x
unfolding arm_least
arm_becomes x =
    ap (λ (z : Arm). (made_arm z).result) (sym (views.roll-out-Arm x))
    ∙ ap (λ (m : Made Arm). m.result) (made.arm_parts_is (views.out-Arm x)) ∙ arm_by x.attrs x.pat x.guard x.body

-- ---- expressions

field_same : (x : FieldExpr) → (made_field x).result ≡ field_least x
unfolding field_least
field_same x = refl

step_same : (x : Step) → (made_step x).result ≡ step_least x
unfolding step_least
step_same x = refl

branch_same : (x : Branch) → (made_branch x).result ≡ branch_least x
unfolding branch_least
branch_same x = refl

arm_same : (x : Arm) → (made_arm x).result ≡ arm_least x
unfolding arm_least
arm_same x = refl

fields_are : (xs : List FieldExpr) → lists made_field xs ≡ map field_least xs
fields_are xs = lists_are made_field field_least field_same xs

steps_are : (xs : List Step) → lists made_step xs ≡ map step_least xs
steps_are xs = lists_are made_step step_least step_same xs

branches_are : (xs : List Branch) → lists made_branch xs ≡ map branch_least xs
branches_are xs = lists_are made_branch branch_least branch_same xs

arms_are : (xs : List Arm) → lists made_arm xs ≡ map arm_least xs
arms_are xs = lists_are made_arm arm_least arm_same xs

-- each kind with its parts, where it stands in the place
abbrev pub expr_in : Place → ExprNode → Expr
expr_in p x = expr_of placing least_parts p x

expr_by : (p : Place) (y : ExprNode) → (expr_made p (expr_parts y)).result ≡ expr_in p y
unfolding least_in block_least condition_least
expr_by p (Expr-F.Tuple xs) = ap expr.Tuple (free_are xs)
expr_by p (Expr-F.Array xs) = ap expr.Array (free_are xs)
expr_by p (Expr-F.Expr::Struct path fields None) = ap (λ (ys : List FieldExpr). expr.Struct path ys None) (fields_are fields)
expr_by p (Expr-F.Expr::Struct path fields (Some None)) = ap (λ (ys : List FieldExpr). expr.Struct path ys (Some None)) (fields_are fields)
expr_by p (Expr-F.Expr::Struct path fields (Some (Some x))) =
    ap (λ (ys : List FieldExpr). expr.Struct path ys (Some (Some (made_of x FREE Any).result))) (fields_are fields)
expr_by p (Expr-F.Chain x []) = refl
expr_by p (Expr-F.Chain x (o ∷ more)) =
    ap (λ (ys : List (Op × Expr)). expr.Chain (made_of x (first_place p (o ∷ more)) Any).result ys) (operands_are p (level_by (o ∷ more)) (o ∷ more))
expr_by p (Expr-F.Range None inclusive None) = refl
expr_by p (Expr-F.Range None inclusive (Some y)) = refl
expr_by p (Expr-F.Range (Some x) inclusive None) = refl
expr_by p (Expr-F.Range (Some x) inclusive (Some y)) = refl
expr_by p (Expr-F.Assign targets x) =
    ap (λ (ys : List (Expr × Op)). expr.Assign ys (made_of x (as_node p 1) Any).result) (targets_are p (begins p.start) targets)
expr_by p (Expr-F.Postfix x steps) =
    ap (λ (ys : List Step). let told = map about_step ys in expr.Postfix (made_of x (base_place p told) (base_slot told)).result ys) (steps_are steps)
expr_by p (Expr-F.If branches None) = ap (λ (ys : List Branch). expr.If ys None) (branches_are branches)
expr_by p (Expr-F.If branches (Some b)) = ap (λ (ys : List Branch). expr.If ys (Some (made_block b).result)) (branches_are branches)
expr_by p (Expr-F.Match x attrs arms) = ap (λ (ys : List Arm). expr.Match (made_of x (plain 0 true) Any).result attrs ys) (arms_are arms)
expr_by p (Expr-F.Return None) = refl
expr_by p (Expr-F.Return (Some x)) = refl
expr_by p (Expr-F.Break label None) = refl
expr_by p (Expr-F.Break label (Some x)) = refl
expr_by p _ = refl

pub parts_become : (x : Expr) (p : Place) → parts_least p x ≡ expr_in p (views.out-Expr x)
unfolding parts_least
parts_become x p = expr_by p (views.out-Expr x)

-- ---- what fits stays as it is, and the rest gets a pair

abbrev pub by_fit : Bool → Expr → Expr → Expr
by_fit true here free = here
by_fit false here free = expr.Paren free

chosen_is : (here free : Made Expr) (p : Place) (s : Slot) → (chosen here free p s).result ≡ by_fit (fits (about_expr here.result) p s) here.result free.result
chosen_is here free p s = by (fits (about_expr here.result) p s)
  where
    by : (b : Bool) → (if b then here else wrapped free).result ≡ by_fit b here.result free.result
    by true = refl
    by false = refl

pub least_is : (x : Expr) (p : Place) (s : Slot) → least_in x p s ≡ by_fit (fits (about_expr (parts_least p x)) p s) (parts_least p x) (parts_least FREE x)
unfolding least_in parts_least
least_is x p s =
    let y = views.out-Expr x in
    ap (λ (z : Expr). (made_of z p s).result) (sym (views.roll-out-Expr x))
    ∙ ap (λ (m : Placed). (m p s).result) (made.expr_parts_is y)
    ∙ chosen_is (expr_made p (expr_parts y)) (expr_made FREE (expr_parts y)) p s

pub fitting : (x new : Expr) (p : Place) (s : Slot) → fits (about_expr (parts_least p x)) p s ≡ true → new ≡ parts_least p x → new ≡ least_in x p s
fitting x new p s fit is = is ∙ sym (least_is x p s ∙ ap (λ (b : Bool). by_fit b (parts_least p x) (parts_least FREE x)) fit)

pub enclosed : (x new : Expr) (p : Place) (s : Slot) → fits (about_expr (parts_least p x)) p s ≡ false → new ≡ expr.Paren (parts_least FREE x)
    → new ≡ least_in x p s
enclosed x new p s fails is = is ∙ sym (least_is x p s ∙ ap (λ (b : Bool). by_fit b (parts_least p x) (parts_least FREE x)) fails)

-- ---- before an `else`

asked : (F : ExprFacts) → fits F FREE BeforeElse ≡ may_precede_else F
asked F = ap (λ (b : Bool). b && may_precede_else F) (lowest F)
  where
    lowest : (F : ExprFacts) → may F FREE ≡ true
    lowest F = rw (le-leb 0 F.level (omega arith)) refl

pub before_else : (x made : Expr) → made ≡ parts_least FREE x → may_precede_else (about_expr made) ≡ true → made ≡ least_in x FREE BeforeElse
before_else x made is may =
    fitting x made FREE BeforeElse
    (asked (about_expr (parts_least FREE x)) ∙ ap (λ (z : Expr). may_precede_else (about_expr z)) (sym is) ∙ may) is

pub not_before_else : (x made new : Expr) → made ≡ parts_least FREE x → may_precede_else (about_expr made) ≡ false → new ≡ expr.Paren made
    → new ≡ least_in x FREE BeforeElse
not_before_else x made new is may paren =
    enclosed x new FREE BeforeElse
    (asked (about_expr (parts_least FREE x)) ∙ ap (λ (z : Expr). may_precede_else (about_expr z)) (sym is) ∙ may)
    (paren ∙ ap expr.Paren is)

-- ---- what has no parts stays as it is

stays : (x y : Expr) (p : Place) {layer : ExprNode} → x ≡ y → views.out-Expr y ≡ layer → expr_in p layer ≡ y → x ≡ parts_least p x
stays x y p is out same = is ∙ sym (ap (parts_least p) is ∙ parts_become y p ∙ ap (expr_in p) out ∙ same)

pub lit_stays : (x : Expr) (p : Place) (l : Literal) → x ≡ expr.Lit l → x ≡ parts_least p x
lit_stays x p l is = stays x (expr.Lit l) p is (views.outs-Lit l) refl

pub path_stays : (x : Expr) (p : Place) (path : Path) → x ≡ expr.Path path → x ≡ parts_least p x
path_stays x p path is = stays x (expr.Path path) p is (views.outs-Path path) refl

pub call_stays : (x : Expr) (p : Place) (call : MacroCall) → x ≡ expr.Call call → x ≡ parts_least p x
call_stays x p call is = stays x (expr.Call call) p is (views.outs-Expr::Call call) refl

pub continue_stays : (x : Expr) (p : Place) (label : Option Lifetime) → x ≡ expr.Continue label → x ≡ parts_least p x
continue_stays x p label is = stays x (expr.Continue label) p is (views.outs-Continue label) refl

pub short_stays : (x : FieldExpr) (attrs : List Attr) (name : Name) → x ≡ field.Short attrs name → x ≡ field_least x
short_stays x attrs name is =
    is ∙ sym (ap field_least is ∙ field_becomes (field.Short attrs name) ∙ ap field_in (views.outs-Short attrs name))

pub name_stays : (x : Step) (name : Name) → x ≡ step.Field name → x ≡ step_least x
name_stays x name is = is ∙ sym (ap step_least is ∙ step_becomes (step.Field name) ∙ ap step_in (views.outs-Field name))

pub index_stays : (x : Step) (index : List ℕ) → x ≡ step.TupleIndex index → x ≡ step_least x
index_stays x index is = is ∙ sym (ap step_least is ∙ step_becomes (step.TupleIndex index) ∙ ap step_in (views.outs-TupleIndex index))

-- items of no kind that has parts
pub record Partless (x : ItemKind) : Type 0 where
  pub not_module : (name : Name) (attrs : List Attr) (items : List Item) → x ≡ kind.Module name attrs items → ⊥
  pub not_function : (head : FnHead) (wheres : Wheres) (body : Option Block) → x ≡ kind.Function head wheres body → ⊥
  pub not_value : (head : ValueHead) (value : Option Expr) → x ≡ kind.Value head value → ⊥
  pub not_trait : (head : TraitHead) (wheres : Wheres) (attrs : List Attr) (items : List Item) → x ≡ kind.Trait head wheres attrs items → ⊥
  pub not_impl : (head : ImplHead) (wheres : Wheres) (attrs : List Attr) (items : List Item) → x ≡ kind.Impl head wheres attrs items → ⊥
  pub not_foreign : (is_unsafe : Bool) (abi : Option Literal) (attrs : List Attr) (items : List Item)
      → x ≡ kind.Foreign is_unsafe abi attrs items → ⊥

kind_same : (x : ItemKind) {layer : KindNode} → views.out-ItemKind x ≡ layer → kind_in layer ≡ x → x ≡ kind_least x
kind_same x out same = sym (kind_becomes x ∙ ap kind_in out ∙ same)

kind_stays_by : (x : ItemKind) → laws.KindView x → Partless x → x ≡ kind_least x
kind_stays_by _ (laws.IsExternCrate x) none = kind_same (kind.ExternCrate x) (views.outs-ExternCrate x) refl
kind_stays_by _ (laws.IsImport tree) none = kind_same (kind.Import tree) (views.outs-Import tree) refl
kind_stays_by _ (laws.IsFileModule name) none = kind_same (kind.FileModule name) (views.outs-FileModule name) refl
kind_stays_by _ (laws.IsModule name attrs items) none = absurd (none.not_module name attrs items refl)
kind_stays_by _ (laws.IsFunction head wheres body) none = absurd (none.not_function head wheres body refl)
kind_stays_by _ (laws.IsAlias x) none = kind_same (kind.Alias x) (views.outs-Alias x) refl
kind_stays_by _ (laws.IsStruct x) none = kind_same (kind.Struct x) (views.outs-ItemKind::Struct x) refl
kind_stays_by _ (laws.IsUnion x) none = kind_same (kind.Union x) (views.outs-Union x) refl
kind_stays_by _ (laws.IsEnum x) none = kind_same (kind.Enum x) (views.outs-Enum x) refl
kind_stays_by _ (laws.IsValue head value) none = absurd (none.not_value head value refl)
kind_stays_by _ (laws.IsTrait head wheres attrs items) none = absurd (none.not_trait head wheres attrs items refl)
kind_stays_by _ (laws.IsImpl head wheres attrs items) none = absurd (none.not_impl head wheres attrs items refl)
kind_stays_by _ (laws.IsForeign is_unsafe abi attrs items) none = absurd (none.not_foreign is_unsafe abi attrs items refl)
kind_stays_by _ (laws.IsRules name rules) none = kind_same (kind.MacroRules name rules) (views.outs-MacroRules name rules) refl
kind_stays_by _ (laws.IsCall call) none = kind_same (kind.Call call) (views.outs-ItemKind::Call call) refl

pub kind_stays : (x : ItemKind) → Partless x → x ≡ kind_least x
kind_stays x none = kind_stays_by x (laws.kind_view x) none

-- ---- the whole

pub whole : (x new : Expr) (p : Place) → new ≡ least_in x p Any → new ≡ least x p
unfolding least_in
whole x new p is = is

pub too_deep : (x made : Expr) (p : Place) (depth : ℕ) → made ≡ least_in x p Any → depth ≡ counted (least_depth (about_expr made).form) → 256 < depth
    → 256 < least_depth (about_expr (least x p)).form
too_deep x made p depth is told deep =
    subst (λ (z : Expr). 256 < least_depth (about_expr z).form) (whole x made p is)
    (let below : counted (least_depth (about_expr made).form) ≤ least_depth (about_expr made).form = omega arith in omega (arith, told, deep, below))
