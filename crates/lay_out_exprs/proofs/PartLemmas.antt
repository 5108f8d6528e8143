-- Where parts end, in parentheses or not.
use Rattle.std.proofs.Common.{◌≡◌, Bool, true, false, option_map, Option, Some, None, refl, sym, ap}
use Rattle.lay_form.specs.Form.{Done}
use Rattle.lay_form.specs.Layout.{ends_behind_point}
use Rattle.lay_code.specs.nodes.Code.{about_expr}
use Rattle.lay_code.specs.nodes.Exprs.{ExprFacts, end_form}
use Rattle.lay_code.specs.declared.exprs.Expr.{Expr}
use Rattle.lay_code.proofs.nodes.ExprsLaws.{expr_paren_is}
use Rattle.lay_paren_defs.specs.Enclosed.{enclosed, part}

-- a part in parentheses, and as it is
pub enclosed_end : (d q : Bool) (x : Expr) → d ≡ true → false ≡ ends_behind_point q (about_expr (part d x)).form
enclosed_end true q x is = sym (ap (λ (z : ExprFacts). ends_behind_point q z.form) (expr_paren_is (enclosed x)))
enclosed_end false q x is = cc

pub whole_end : (d q : Bool) (x : Expr) → d ≡ false
    → ends_behind_point q (about_expr x).form ≡ ends_behind_point q (about_expr (part d x)).form
whole_end true q x is = cc
whole_end false q x is = refl

-- a part that may be left out
pub no_end : (d q : Bool) (operand : Option Expr) → operand ≡ None
    → q ≡ ends_behind_point q (end_form (option_map about_expr (option_map (part d) operand)) Done)
no_end d q operand is = rw is refl

pub some_end : (d q : Bool) (operand : Option Expr) (x put : Expr) → operand ≡ Some x → put ≡ x
    → ends_behind_point q (about_expr (part d put)).form
    ≡ ends_behind_point q (end_form (option_map about_expr (option_map (part d) operand)) Done)
some_end d q operand x put is e = rw (is, e) refl
