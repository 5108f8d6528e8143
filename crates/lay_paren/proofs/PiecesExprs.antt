-- Expressions, fields and steps: their tokens are pieces exactly where they are without parentheses.
use Rattle.std.proofs.Common.{◌≡◌, codes, ℕ, Bool, true, false, ◌&&◌, ◌||◌, List, [], ◌∷◌, map, Option, Some, None, refl, sym, ap, ap₂, ◌∙◌}
use Rattle.std.specs.Prelude.{nat_le}
use Rattle.lay_piece.specs.declared.kind.Delim.TheVariants.{Paren, Bracket}
use Rattle.lay_piece.specs.declared.kind.Kind.TheVariants as kind
use Rattle.lay_form.specs.Form.{Blank, Form, Done, Leaf, Operator, Part, Piece, closer, keyword, opener}
use Rattle.lay_form.specs.Notation.{I0}
use Rattle.lay_form.specs.Pieces.{are_pieces, is_text_of}
use Rattle.lay_node.specs.Words.{leaf_of}
use Rattle.lay_node.specs.declared.patterns.Pat.{Pat}
use Rattle.lay_node.specs.declared.types.Ty.{Ty}
use Rattle.lay_node.specs.declared.types.Arg.{Arg}
use Rattle.lay_node.specs.declared.types.PathStyle.TheVariants.{Code}
use Rattle.lay_node.specs.declared.patterns.PatPlace.TheVariants.{Alternatives}
use Rattle.lay_node.specs.nodes.Attr.{attr_form}
use Rattle.lay_node.specs.nodes.Facts.{Facts}
use Rattle.lay_node.specs.nodes.Patterns.{about_pat, pat_form}
use Rattle.lay_node.specs.nodes.Types.{about_arg, about_path, about_type, angle_form, colon}
use Rattle.lay_node.specs.tokens.Lists.{token_list}
use Rattle.lay_code.specs.nodes.Code.{about_arm, about_block, about_branch, about_condition, about_expr, about_field_expr, about_step}
use Rattle.lay_code.specs.nodes.Exprs.{ExprFacts, StepFacts, args_form, arm_forms, base_form, body_braces, branches_form, break_if, closure_body, else_branch_form, expr_facts, expr_forms, field_facts, generics_form, group_if, is_method, methods, more_branches, operand_form, operands_form, postfix_form, step_facts, steps_form, targets_form, types_form}
use Rattle.lay_code.specs.declared.blocks.Block.{Block}
use Rattle.lay_code.specs.declared.blocks.Branch.{Branch}
use Rattle.lay_code.specs.declared.blocks.Stmt.TheOpen.{Expr-F, FieldExpr-F, Step-F}
use Rattle.lay_code.specs.declared.blocks.Stmt.TheViews as views
use Rattle.lay_code.specs.declared.conditions.Condition.{Condition}
use Rattle.lay_code.specs.declared.exprs.Expr.{Expr}
use Rattle.lay_code.specs.declared.exprs.FieldExpr.{FieldExpr}
use Rattle.lay_code.specs.declared.exprs.Step.{Step}
use Rattle.lay_code.specs.declared.operators.Op.{Op}
use Rattle.lay_code.proofs.nodes.Layers.{expr_is, expr_told, field_is, field_told, step_is, step_told}
use Rattle.lay_paren.specs.Erased.{erase, without_parens}
use Rattle.lay_paren.proofs.ErasedFolds.{arm_erased, block_erased, branch_erased, condition_erased, expr_without, expr_without_is, field_erased, field_without, field_without_is, step_erased, step_without, step_without_is}
use Rattle.lay_paren.proofs.PiecesForms.{Alike, Like, alike_joined, alike_same, and_yes, attrs_like, body_like, braces_like, closure_body_like, closure_like, comma_list_like, deeper, label_like, labelled_like, nodes_alike, prefixes_like, when_like}
use Rattle.lay_paren.proofs.PiecesSame.{ExprSame, FieldSame, Same, SameArm, SameBranch, SameExpr, SameField, SameStep, StepSame, expr_layer, field_layer, step_layer}

-- ---- lists of parts

leaf_like : (raw : Bool) (text : List ℕ) (f g : Form) → Like f g → Like (leaf_of raw text f) (leaf_of raw text g)
leaf_like true text f g h = ap (λ (b : Bool). is_text_of kind.RawIdent text && b) h
leaf_like false text f g h = ap (λ (b : Bool). is_text_of kind.Ident text && b) h

generics_like : (generics : Option (List Arg)) (f g : Form) → Like f g → Like (generics_form generics f) (generics_form generics g)
generics_like None f g h = h
generics_like (Some args) f g h = ap (λ (b : Bool). are_pieces (angle_form (map about_arg args)) && b) h

abbrev trees : List SameExpr → List Expr
trees ys = map (λ (y : SameExpr). y.0) ys

exprs_alike : (ys : List SameExpr) → Alike (expr_forms (map about_expr (map erase (trees ys)))) (expr_forms (map about_expr (trees ys)))
exprs_alike ys = nodes_alike ExprSame (λ (F : ExprFacts). F.form) about_expr erase (λ x is. is) ys

args_like : (ys : List SameExpr) → Like (args_form (map about_expr (map erase (trees ys)))) (args_form (map about_expr (trees ys)))
args_like ys =
    comma_list_like true (opener Paren) (closer Paren) (expr_forms (map about_expr (map erase (trees ys)))) (expr_forms (map about_expr (trees ys)))
    (exprs_alike ys)

abbrev field_forms : List FieldExpr → List Form
field_forms xs = map (λ (F : Facts). F.form) (map about_field_expr xs)

fields_alike : (ys : List SameField) → let xs = map (λ (y : SameField). y.0) ys in Alike (field_forms (map field_erased xs)) (field_forms xs)
fields_alike ys = nodes_alike FieldSame (λ (F : Facts). F.form) about_field_expr field_erased (λ x is. is) ys

abbrev told_operands : List (Op × Expr) → List (Op × ExprFacts)
told_operands xs = map (λ (x : Op × Expr). (x.0, about_expr x.1)) xs

abbrev operand_trees : List (Op × SameExpr) → List (Op × Expr)
operand_trees ys = map (λ (y : Op × SameExpr). (y.0, y.1.0)) ys

abbrev bare_operands : List (Op × Expr) → List (Op × Expr)
bare_operands xs = map (λ (x : Op × Expr). (x.0, erase x.1)) xs

operands_like : (ys : List (Op × SameExpr))
    → Like (operands_form (told_operands (bare_operands (operand_trees ys)))) (operands_form (told_operands (operand_trees ys)))
operands_like [] = refl
operands_like (y ∷ ys) = ap₂ (λ (a b : Bool). a && b) y.1.1 (operands_like ys)

abbrev told_targets : List (Expr × Op) → List (ExprFacts × Op)
told_targets xs = map (λ (x : Expr × Op). (about_expr x.0, x.1)) xs

abbrev target_trees : List (SameExpr × Op) → List (Expr × Op)
target_trees ys = map (λ (y : SameExpr × Op). (y.0.0, y.1)) ys

abbrev bare_targets : List (Expr × Op) → List (Expr × Op)
bare_targets xs = map (λ (x : Expr × Op). (erase x.0, x.1)) xs

targets_like : (ys : List (SameExpr × Op)) (f g : Form) → Like f g
    → Like (targets_form (told_targets (bare_targets (target_trees ys))) f) (targets_form (told_targets (target_trees ys)) g)
targets_like [] f g h = h
targets_like (y ∷ ys) f g h = ap₂ (λ (a b : Bool). a && b) y.0.1 (targets_like ys f g h)

-- ---- steps

abbrev all_steps : List StepFacts → Bool
all_steps [] = true
all_steps (s ∷ more) = are_pieces s.form && all_steps more

break_like : (b : Bool) (f : Form) → are_pieces (break_if b f) ≡ are_pieces f
break_like true f = refl
break_like false f = refl

steps_pieces : (several behind : Bool) (xs : List StepFacts) → are_pieces (steps_form several behind xs) ≡ all_steps xs
steps_pieces several behind [] = refl
steps_pieces several behind (s ∷ more) =
    break_like (several && (behind && is_method s.kind)) (Part s.form (steps_form several (behind || is_method s.kind) more))
    ∙ ap (λ (b : Bool). are_pieces s.form && b) (steps_pieces several (behind || is_method s.kind) more)

group_pieces : (b : Bool) (f : Form) → are_pieces (group_if b f) ≡ are_pieces f
group_pieces true f = both (are_pieces f)
  where
    both : (a : Bool) → (a && true) ≡ a
    both true = refl
    both false = refl
group_pieces false f = refl

postfix_pieces : (x : ExprFacts) (steps : List StepFacts) → are_pieces (postfix_form x steps) ≡ (are_pieces x.form && all_steps steps)
postfix_pieces x steps =
    group_pieces (nat_le 2 (methods steps)) (Part x.form (steps_form (nat_le 2 (methods steps)) false steps))
    ∙ ap (λ (b : Bool). are_pieces x.form && b) (steps_pieces (nat_le 2 (methods steps)) false steps)

abbrev step_trees : List SameStep → List Step
step_trees ys = map (λ (y : SameStep). y.0) ys

steps_like : (ys : List SameStep) → all_steps (map about_step (map step_erased (step_trees ys))) ≡ all_steps (map about_step (step_trees ys))
steps_like [] = refl
steps_like (y ∷ ys) = ap₂ (λ (a b : Bool). a && b) y.1 (steps_like ys)

-- ---- branches and arms

abbrev branch_trees : List SameBranch → List Branch
branch_trees ys = map (λ (y : SameBranch). y.0) ys

more_like : (ys : List SameBranch) (f g : Form) → Like f g
    → Like (more_branches (map about_branch (map branch_erased (branch_trees ys))) f) (more_branches (map about_branch (branch_trees ys)) g)
more_like [] f g h = h
more_like (y ∷ ys) f g h = ap₂ (λ (a b : Bool). (a && true) && b) y.1.condition (ap₂ (λ (a b : Bool). a && b) y.1.soft (more_like ys f g h))

branches_like : (ys : List SameBranch) (f g : Form) → Like f g
    → Like (branches_form (map about_branch (map branch_erased (branch_trees ys))) f) (branches_form (map about_branch (branch_trees ys)) g)
branches_like [] f g h = h
branches_like (y ∷ ys) f g h = ap₂ (λ (a b : Bool). (a && true) && b) y.1.condition (ap₂ (λ (a b : Bool). a && b) y.1.soft (more_like ys f g h))

arms_alike : (ys : List SameArm) →
    let xs = map (λ (y : SameArm). y.0) ys in Alike (arm_forms (map about_arm (map arm_erased xs))) (arm_forms (map about_arm xs))
arms_alike [] = tt
arms_alike (y ∷ []) = (y.1 true, tt)
arms_alike (y ∷ z ∷ more) = (y.1 false, arms_alike (z ∷ more))

-- ---- expressions

abbrev LayerSame : Same Expr-F → Type 0
LayerSame y = Like (expr_facts (expr_told (expr_without (expr_layer y)))).form (expr_facts (expr_told (expr_layer y))).form

-- forms of more than one part
abbrev while_form : Condition → Block → Form
while_form c b = I0 (Piece (keyword (codes "while") ∷ Blank ∷ []) (Part (about_condition c).form Done)) (Part ((about_block b).form true) Done)

abbrev for_form : Pat → Expr → Block → Form
for_form pat x b =
    I0 (Piece (keyword (codes "for") ∷ Blank ∷ [])
    (Part (pat_form Alternatives (about_pat pat)) (Piece (Blank ∷ keyword (codes "in") ∷ Blank ∷ []) (Part (about_expr x).form Done))))
    (Part ((about_block b).form true) Done)

abbrev typed_form : Ty → Block → Form
typed_form output b =
    Piece (Blank ∷ Operator (codes "->") ∷ Blank ∷ []) (Part (about_type output).told.form (Part ((about_block b).form true) Done))

-- one part, within fixed tokens
within : (a b : Bool) → a ≡ b → ((a && true) && true) ≡ ((b && true) && true)
within a b h = ap (λ (c : Bool). (c && true) && true) h

layer_same : (y : Same Expr-F) → LayerSame y
layer_same (Expr-F.Paren x) = within _ _ x.1
layer_same (Expr-F.Tuple []) = refl
layer_same (Expr-F.Tuple (y ∷ [])) = within _ _ y.1
layer_same (Expr-F.Tuple (y ∷ z ∷ more)) = deeper _ _ (args_like (y ∷ z ∷ more))
layer_same (Expr-F.Array ys) = deeper _ _ (comma_list_like true (opener Bracket) (closer Bracket) _ _ (exprs_alike ys))
layer_same (Expr-F.Repeat x length) = ap (λ (b : Bool). (b && (are_pieces (token_list length) && true)) && true) x.1
layer_same (Expr-F.Expr::Struct path fields None) =
    ap (λ (b : Bool). (are_pieces (about_path path Code).form && b) && true)
    (braces_like true _ _ (alike_joined _ _ [] [] (fields_alike fields) tt))
layer_same (Expr-F.Expr::Struct path fields (Some None)) =
    ap (λ (b : Bool). (are_pieces (about_path path Code).form && b) && true)
    (braces_like false _ _ (alike_joined _ _ (base_form (Some None)) (base_form (Some None)) (fields_alike fields) (refl, tt)))
layer_same (Expr-F.Expr::Struct path fields (Some (Some x))) =
    ap (λ (b : Bool). (are_pieces (about_path path Code).form && b) && true)
    (braces_like false _ _
    (alike_joined _ _ (base_form (Some (Some (about_expr (erase x.0))))) (base_form (Some (Some (about_expr x.0)))) (fields_alike fields)
    (deeper _ _ x.1, tt)))
layer_same (Expr-F.Chain x more) = ap₂ (λ (a b : Bool). ((a && b) && true) && true) x.1 (operands_like more)
layer_same (Expr-F.Cast x types) = ap (λ (b : Bool). (b && are_pieces (types_form (map about_type types))) && true) x.1
layer_same (Expr-F.Unary ps x) =
    deeper _ _ (prefixes_like ps (Part (about_expr (erase x.0)).form Done) (Part (about_expr x.0).form Done) (deeper _ _ x.1))
layer_same (Expr-F.Range None inclusive None) = refl
layer_same (Expr-F.Range (Some x) inclusive None) = within _ _ x.1
layer_same (Expr-F.Range None inclusive (Some y)) = within _ _ y.1
layer_same (Expr-F.Range (Some x) inclusive (Some y)) = ap₂ (λ (a b : Bool). (a && (b && true)) && true) x.1 y.1
layer_same (Expr-F.Assign targets x) =
    deeper _ _
    (targets_like targets (Part (about_expr (erase x.0)).form Done) (Part (about_expr x.0).form Done) (deeper _ _ x.1))
layer_same (Expr-F.Postfix x steps) =
    deeper _ _
    (postfix_pieces (about_expr (erase x.0)) (map about_step (map step_erased (step_trees steps)))
    ∙ ap₂ (λ (a b : Bool). a && b) x.1 (steps_like steps) ∙ sym (postfix_pieces (about_expr x.0) (map about_step (step_trees steps))))
layer_same (Expr-F.Block label b) =
    deeper _ _ (labelled_like label ((about_block (block_erased b.0)).form false) ((about_block b.0).form false) (b.1.form false))
layer_same (Expr-F.Unsafe b) = within _ _ b.1.soft
layer_same (Expr-F.ConstBlock b) = within _ _ b.1.soft
layer_same (Expr-F.Async moves b) =
    deeper _ _
    (when_like moves (Blank ∷ keyword (codes "move") ∷ []) (Part ((about_block (block_erased b.0)).form true) Done)
    (Part ((about_block b.0).form true) Done) (deeper _ _ (b.1.form true)))
layer_same (Expr-F.If branches None) = deeper _ _ (branches_like branches Done Done refl)
layer_same (Expr-F.If branches (Some b)) =
    deeper _ _
    (branches_like branches (else_branch_form (Some (about_block (block_erased b.0)))) (else_branch_form (Some (about_block b.0))) (deeper _ _ b.1.soft))
layer_same (Expr-F.Match x attrs arms) =
    ap₂ (λ (a b : Bool). ((a && true) && b) && true) x.1
    (body_like (Blank ∷ []) [] _ _ (alike_joined _ _ _ _ (alike_same (map attr_form attrs)) (arms_alike arms)))
layer_same (Expr-F.Loop label b) =
    deeper _ _
    (labelled_like label (Piece (keyword (codes "loop") ∷ []) (Part ((about_block (block_erased b.0)).form true) Done))
    (Piece (keyword (codes "loop") ∷ []) (Part ((about_block b.0).form true) Done)) (deeper _ _ (b.1.form true)))
layer_same (Expr-F.While label c b) =
    deeper _ _ (labelled_like label (while_form (condition_erased c.0) (block_erased b.0)) (while_form c.0 b.0)
    (ap₂ (λ (x y : Bool). (x && true) && (y && true)) c.1 (b.1.form true)))
layer_same (Expr-F.For label pat x b) =
    deeper _ _ (labelled_like label (for_form pat (erase x.0) (block_erased b.0)) (for_form pat x.0 b.0)
    (ap₂ (λ (x y : Bool). (are_pieces (pat_form Alternatives (about_pat pat)) && (x && true)) && (y && true)) x.1 (b.1.form true)))
layer_same (Expr-F.Closure is_async moves params x) =
    let f = closure_body (body_braces (about_expr (erase x.0))) (about_expr (erase x.0)).form in
    let g = closure_body (body_braces (about_expr x.0)) (about_expr x.0).form in
    deeper _ _
    (closure_like is_async moves params (Piece (Blank ∷ []) f) (Piece (Blank ∷ []) g)
    (closure_body_like (body_braces (about_expr (erase x.0))) (body_braces (about_expr x.0)) (about_expr (erase x.0)).form (about_expr x.0).form x.1))
layer_same (Expr-F.TypedClosure is_async moves params output b) =
    deeper _ _
    (closure_like is_async moves params (typed_form output (block_erased b.0)) (typed_form output b.0)
    (ap (λ (x : Bool). are_pieces (about_type output).told.form && (x && true)) (b.1.form true)))
layer_same (Expr-F.Return None) = refl
layer_same (Expr-F.Return (Some x)) = within _ _ x.1
layer_same (Expr-F.Break label None) = refl
layer_same (Expr-F.Break label (Some x)) =
    deeper _ _ (label_like label (operand_form (Some (about_expr (erase x.0)))) (operand_form (Some (about_expr x.0))) (deeper _ _ x.1))
layer_same _ = refl

-- the layer of a node that is no pair of parentheses
rolled : (y : Same Expr-F) → without_parens (expr_without (expr_layer y)) ≡ views.roll-Expr (expr_without (expr_layer y))
    → ExprSame (views.roll-Expr (expr_layer y))
rolled y e =
    ap (λ (x : Expr). are_pieces (about_expr x).form) (expr_without_is (expr_layer y) ∙ e)
    ∙ ap (λ (F : ExprFacts). are_pieces F.form) (expr_is (expr_without (expr_layer y))) ∙ layer_same y
    ∙ sym (ap (λ (F : ExprFacts). are_pieces F.form) (expr_is (expr_layer y)))

pub expr_pieces : (y : Same Expr-F) → ExprSame (views.roll-Expr (expr_layer y))
expr_pieces (Expr-F.Paren x) =
    ap (λ (z : Expr). are_pieces (about_expr z).form) (expr_without_is (Expr-F.Paren x.0)) ∙ x.1 ∙ and_yes (are_pieces (about_expr x.0).form)
    ∙ sym (ap (λ (F : ExprFacts). are_pieces F.form) (expr_is (Expr-F.Paren x.0)))
expr_pieces y = rolled y refl

-- ---- fields

field_same : (y : Same FieldExpr-F) → Like (field_facts (field_told (field_without (field_layer y)))).form (field_facts (field_told (field_layer y))).form
field_same (FieldExpr-F.Named attrs name x) =
    attrs_like (map attr_form attrs) (leaf_of name.raw name.text (Piece colon (Part (about_expr (erase x.0)).form Done)))
    (leaf_of name.raw name.text (Piece colon (Part (about_expr x.0).form Done))) (leaf_like name.raw name.text _ _ (deeper _ _ x.1))
field_same (FieldExpr-F.Numbered attrs index x) =
    attrs_like (map attr_form attrs) (Leaf kind.Int index (Piece colon (Part (about_expr (erase x.0)).form Done)))
    (Leaf kind.Int index (Piece colon (Part (about_expr x.0).form Done))) (ap (λ (b : Bool). is_text_of kind.Int index && (b && true)) x.1)
field_same (FieldExpr-F.Short attrs name) = refl

pub field_pieces : (y : Same FieldExpr-F) → FieldSame (views.roll-FieldExpr (field_layer y))
field_pieces y =
    ap (λ (x : FieldExpr). are_pieces (about_field_expr x).form) (field_without_is (field_layer y))
    ∙ ap (λ (F : Facts). are_pieces F.form) (field_is (field_without (field_layer y))) ∙ field_same y
    ∙ sym (ap (λ (F : Facts). are_pieces F.form) (field_is (field_layer y)))

-- ---- steps

step_same : (y : Same Step-F) → Like (step_facts (step_told (step_without (step_layer y)))).form (step_facts (step_told (step_layer y))).form
step_same (Step-F.Method name generics args) =
    leaf_like name.raw name.text _ _ (generics_like generics _ _
    (deeper _ _ (args_like args)))
step_same (Step-F.Apply args) = args_like args
step_same (Step-F.Index x) = within _ _ x.1
step_same _ = refl

pub step_pieces : (y : Same Step-F) → StepSame (views.roll-Step (step_layer y))
step_pieces y =
    ap (λ (x : Step). are_pieces (about_step x).form) (step_without_is (step_layer y))
    ∙ ap (λ (F : StepFacts). are_pieces F.form) (step_is (step_without (step_layer y))) ∙ step_same y
    ∙ sym (ap (λ (F : StepFacts). are_pieces F.form) (step_is (step_layer y)))
