use Rattle.std.proofs.Common.{rules, ◌≡◌, ◌↔◌, IsTrue, Bool, true, [], Option, Some, None, sym, ap, ap₂, ◌∙◌}
use Rattle.lay_node.specs.declared.heads.ValueHead.{ValueHead}
use Rattle.lay_node.specs.declared.heads.ValueHead.TheVariants as head
use Rattle.lay_node.specs.declared.token.GivenName.TheVariants as given
use Rattle.lay_node.specs.declared.types.Ty.TheVariants as ty
use Rattle.lay_code.specs.nodes.Layers.{KindNode}
use Rattle.lay_code.specs.declared.blocks.Stmt.TheOpen.{ItemKind-F}
use Rattle.lay_code.specs.declared.blocks.Stmt.TheViews as views
use Rattle.lay_code.specs.declared.exprs.Expr.{Expr}
use Rattle.lay_code.specs.declared.item.ItemKind.{ItemKind}
use Rattle.lay_code.specs.declared.item.ItemKind.TheVariants as kind
use Rattle.lay_paren_defs.specs.Enclosed.{part}
use Rattle.lay_tree.proofs.enclosed.is_value.Goals as goal

abbrev value_of : KindNode → Option Expr
value_of (ItemKind-F.Value of value) = value
value_of _ = None

one_value : (x y : ValueHead) (v w : Option Expr) → kind.Value x v ≡ kind.Value y w → v ≡ w
one_value x y v w is =
    ap value_of (sym (views.outs-Value x v)) ∙ ap (λ (z : ItemKind). value_of (views.out-ItemKind z)) is ∙ ap value_of (views.outs-Value y w)

-- With the same head it is the item exactly where its value is the item's.
value_is : (this : ItemKind) (x y : ValueHead) (v w : Option Expr) (result : Bool) → this ≡ kind.Value x v → x ≡ y
    → (IsTrue result ↔ v ≡ w) → IsTrue result ↔ this ≡ kind.Value y w
value_is this x y v w result is same by =
    ((λ t. is ∙ ap₂ (λ (z : ValueHead) (u : Option Expr). kind.Value z u) same (by.0 t)), (λ e. by.1 (one_value x y v w (sym is ∙ e))))

pub returns-then-is_head : goal.returns-then-is_head
returns-then-is_head c =
    value_is c.args.item.now c.in-Value.head (head.Const given.Underscore (ty.Tuple [])) c.in-Value.value (Some (part true c.args.expr.now))
    c.is_enclosed.result c.in-Value.is (search rules) c.is_enclosed.ensures
