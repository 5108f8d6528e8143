-- A block of one expression, as the body of an arm within braces that aren't in the tree is read: what may follow it.
use Rattle.std.proofs.Common.{◌≡◌, true, not, refl, sym, subst}
use Rattle.lay_node.specs.Ahead.{Tokens}
use Rattle.lay_code.specs.Operators.{is_dot_or_try}
use Rattle.lay_code.specs.nodes.Code.{about_expr}
use Rattle.lay_code.specs.nodes.Exprs.{ExprFacts, follows, root_follows}
use Rattle.lay_code.specs.nodes.Places.{statement}
use Rattle.lay_code.specs.declared.exprs.Expr.{Expr}
use Rattle.lay_code.proofs.reader.Dressed.{IsAlone, Lone, about_alone, alone}

-- Nothing but `.` and `?` goes on with it.
pub alone_follows : (y : Expr) (ts : Tokens) → not (is_dot_or_try ts) ≡ true → follows (about_expr (alone y)) statement ts ≡ true
alone_follows y ts h = subst (λ (F : ExprFacts). follows F statement ts ≡ true) (sym (about_alone y)) (rw h refl)

pub lone_no_dot : (x : Expr) → Lone x → (ts : Tokens) → root_follows (about_expr x) statement ts ≡ true → not (is_dot_or_try ts) ≡ true
lone_no_dot _ (IsAlone y macro) ts h = subst (λ (F : ExprFacts). root_follows F statement ts ≡ true) (about_alone y) h
