-- A node with lists of parts is what another becomes exactly where each list is what the other's becomes.
use Rattle.std.proofs.Common.{◌≡◌, ◌↔◌, IsTrue, Bool, true, false, List, [], map, Option, sym, ap, ap₂, ◌∙◌}
use Rattle.lay_node.specs.declared.token.Name.{Name}
use Rattle.lay_node.specs.declared.types.Arg.{Arg}
use Rattle.lay_code.specs.nodes.Layers.{ExprNode, StepNode}
use Rattle.lay_code.specs.declared.blocks.Stmt.TheOpen.{Expr-F, Step-F}
use Rattle.lay_code.specs.declared.blocks.Stmt.TheViews as views
use Rattle.lay_code.specs.declared.exprs.Expr.{Expr}
use Rattle.lay_code.specs.declared.exprs.Expr.TheVariants as expr
use Rattle.lay_code.specs.declared.exprs.Step.{Step}
use Rattle.lay_code.specs.declared.exprs.Step.TheVariants as step
use Rattle.lay_code.specs.declared.operators.Op.{Op}
use Rattle.lay_paren_defs.specs.Enclosed.{expr_shell, operand_part, part, shell, shell_step, step_shell, target_part}

-- ---- what stands in a node

abbrev elements_of : ExprNode → List Expr
elements_of (Expr-F.Tuple xs) = xs
elements_of (Expr-F.Array xs) = xs
elements_of _ = []

one_tuple : (xs ys : List Expr) → expr.Tuple xs ≡ expr.Tuple ys → xs ≡ ys
one_tuple xs ys is =
    ap elements_of (sym (views.outs-Tuple xs)) ∙ ap (λ (x : Expr). elements_of (views.out-Expr x)) is ∙ ap elements_of (views.outs-Tuple ys)

one_array : (xs ys : List Expr) → expr.Array xs ≡ expr.Array ys → xs ≡ ys
one_array xs ys is =
    ap elements_of (sym (views.outs-Array xs)) ∙ ap (λ (x : Expr). elements_of (views.out-Expr x)) is ∙ ap elements_of (views.outs-Array ys)

abbrev operands_of : ExprNode → List (Op × Expr)
operands_of (Expr-F.Chain x rest) = rest
operands_of _ = []

one_chain : (a b : Expr) (xs ys : List (Op × Expr)) → expr.Chain a xs ≡ expr.Chain b ys → xs ≡ ys
one_chain a b xs ys is =
    ap operands_of (sym (views.outs-Chain a xs)) ∙ ap (λ (x : Expr). operands_of (views.out-Expr x)) is
    ∙ ap operands_of (views.outs-Chain b ys)

abbrev targets_of : ExprNode → List (Expr × Op)
targets_of (Expr-F.Assign targets x) = targets
targets_of _ = []

abbrev value_of : ExprNode → Expr
value_of (Expr-F.Assign targets x) = x
value_of _ = expr.Underscore

same_targets_of : (a b : Expr) (xs ys : List (Expr × Op)) → expr.Assign xs a ≡ expr.Assign ys b → xs ≡ ys
same_targets_of a b xs ys is =
    ap targets_of (sym (views.outs-Assign xs a)) ∙ ap (λ (x : Expr). targets_of (views.out-Expr x)) is ∙ ap targets_of (views.outs-Assign ys b)

same_value_of : (a b : Expr) (xs ys : List (Expr × Op)) → expr.Assign xs a ≡ expr.Assign ys b → a ≡ b
same_value_of a b xs ys is =
    ap value_of (sym (views.outs-Assign xs a)) ∙ ap (λ (x : Expr). value_of (views.out-Expr x)) is ∙ ap value_of (views.outs-Assign ys b)

abbrev args_of : StepNode → List Expr
args_of (Step-F.Method name generics args) = args
args_of (Step-F.Apply args) = args
args_of _ = []

one_apply : (xs ys : List Expr) → step.Apply xs ≡ step.Apply ys → xs ≡ ys
one_apply xs ys is =
    ap args_of (sym (views.outs-Apply xs)) ∙ ap (λ (x : Step). args_of (views.out-Step x)) is ∙ ap args_of (views.outs-Apply ys)

one_method : (n m : Name) (g h : Option (List Arg)) (xs ys : List Expr) → step.Method n g xs ≡ step.Method m h ys → xs ≡ ys
one_method n m g h xs ys is =
    ap args_of (sym (views.outs-Method n g xs)) ∙ ap (λ (x : Step). args_of (views.out-Step x)) is ∙ ap args_of (views.outs-Method m h ys)

-- ---- expressions

pub tuple_whole : (on : Bool) (x y : Expr) (xs ys : List Expr) (result : Bool) → x ≡ expr.Tuple xs → y ≡ expr.Tuple ys
    → (IsTrue result ↔ map (part on) xs ≡ ys) → IsTrue result ↔ shell on x ≡ y
tuple_whole on x y xs ys result is other by =
    ((λ t. becomes ∙ ap expr.Tuple (by.0 t) ∙ sym other), (λ e. by.1 (one_tuple (map (part on) xs) ys (sym becomes ∙ e ∙ other))))
  where
    becomes : shell on x ≡ expr.Tuple (map (part on) xs)
    becomes = ap (shell on) is ∙ ap (expr_shell on) (views.outs-Tuple xs)

pub array_whole : (on : Bool) (x y : Expr) (xs ys : List Expr) (result : Bool) → x ≡ expr.Array xs → y ≡ expr.Array ys
    → (IsTrue result ↔ map (part on) xs ≡ ys) → IsTrue result ↔ shell on x ≡ y
array_whole on x y xs ys result is other by =
    ((λ t. becomes ∙ ap expr.Array (by.0 t) ∙ sym other), (λ e. by.1 (one_array (map (part on) xs) ys (sym becomes ∙ e ∙ other))))
  where
    becomes : shell on x ≡ expr.Array (map (part on) xs)
    becomes = ap (shell on) is ∙ ap (expr_shell on) (views.outs-Array xs)

pub chain_whole : (on : Bool) (x y a b : Expr) (xs ys : List (Op × Expr)) (result : Bool) → x ≡ expr.Chain a xs → y ≡ expr.Chain b ys
    → part on a ≡ b → (IsTrue result ↔ map (operand_part on) xs ≡ ys) → IsTrue result ↔ shell on x ≡ y
chain_whole on x y a b xs ys result is other first by = (
  (λ t. becomes ∙ ap₂ expr.Chain first (by.0 t) ∙ sym other),
  (λ e. by.1 (one_chain (part on a) b (map (operand_part on) xs) ys (sym becomes ∙ e ∙ other))),
)
  where
    becomes : shell on x ≡ expr.Chain (part on a) (map (operand_part on) xs)
    becomes = ap (shell on) is ∙ ap (expr_shell on) (views.outs-Chain a xs)

assign_becomes : (on : Bool) (x a : Expr) (xs : List (Expr × Op)) → x ≡ expr.Assign xs a
    → shell on x ≡ expr.Assign (map (target_part on) xs) (part on a)
assign_becomes on x a xs is = ap (shell on) is ∙ ap (expr_shell on) (views.outs-Assign xs a)

pub assign_whole : (on : Bool) (x y a b : Expr) (xs ys : List (Expr × Op)) (result : Bool) → x ≡ expr.Assign xs a → y ≡ expr.Assign ys b
    → map (target_part on) xs ≡ ys → (IsTrue result ↔ part on a ≡ b) → IsTrue result ↔ shell on x ≡ y
assign_whole on x y a b xs ys result is other targets by = (
  (λ t. assign_becomes on x a xs is ∙ ap₂ expr.Assign targets (by.0 t) ∙ sym other),
  (λ e. by.1 (same_value_of (part on a) b (map (target_part on) xs) ys (sym (assign_becomes on x a xs is) ∙ e ∙ other))),
)

pub assign_other : (on : Bool) (x y a b : Expr) (xs ys : List (Expr × Op)) (result : Bool) → x ≡ expr.Assign xs a → y ≡ expr.Assign ys b
    → result ≡ false → (IsTrue result ↔ map (target_part on) xs ≡ ys) → IsTrue result ↔ shell on x ≡ y
assign_other on x y a b xs ys result is other off by = (
  (λ t. cc),
  (λ e. by.1 (same_targets_of (part on a) b (map (target_part on) xs) ys (sym (assign_becomes on x a xs is) ∙ e ∙ other))),
)

-- ---- steps

pub apply_whole : (on : Bool) (x y : Step) (xs ys : List Expr) (result : Bool) → x ≡ step.Apply xs → y ≡ step.Apply ys
    → (IsTrue result ↔ map (part on) xs ≡ ys) → IsTrue result ↔ shell_step on x ≡ y
apply_whole on x y xs ys result is other by =
    ((λ t. becomes ∙ ap step.Apply (by.0 t) ∙ sym other), (λ e. by.1 (one_apply (map (part on) xs) ys (sym becomes ∙ e ∙ other))))
  where
    becomes : shell_step on x ≡ step.Apply (map (part on) xs)
    becomes = ap (shell_step on) is ∙ ap (step_shell on) (views.outs-Apply xs)

pub method_whole : (on : Bool) (x y : Step) (n m : Name) (g h : Option (List Arg)) (xs ys : List Expr) (result : Bool)
    → x ≡ step.Method n g xs → y ≡ step.Method m h ys → n ≡ m → g ≡ h → (IsTrue result ↔ map (part on) xs ≡ ys)
    → IsTrue result ↔ shell_step on x ≡ y
method_whole on x y n m g h xs ys result is other names generics by = (
  (λ t. becomes ∙ ap (step.Method n g) (by.0 t) ∙ alike ∙ sym other),
  (λ e. by.1 (one_method n m g h (map (part on) xs) ys (sym becomes ∙ e ∙ other))),
)
  where
    becomes : shell_step on x ≡ step.Method n g (map (part on) xs)
    becomes = ap (shell_step on) is ∙ ap (step_shell on) (views.outs-Method n g xs)

    alike : step.Method n g ys ≡ step.Method m h ys
    alike = ap₂ (λ (a : Name) (b : Option (List Arg)). step.Method a b ys) names generics
