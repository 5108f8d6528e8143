-- Parsing conditions, given the functions that parse one level deeper.
--
-- How a condition begins doesn't tell whether it has links. So its links are parsed one by one, at
-- the depth of links. If none of them is a `let`, they become the first operands of an expression,
-- and the operators after them are parsed next. So nothing is parsed twice.
use Rattle.std.specs.Prelude.{ℕ, suc, max, ◌==◌, Bool, true, if◌then◌else◌, List, [], ◌∷◌, drop, map, codes, Option, Some, None, is_some}
use Rattle.std.specs.List.{list_any}
use Rattle.lay_token.specs.Operators.{is_op}
use Rattle.lay_node.specs.Ahead.{Tokens, first, tail, is_keyword}
use Rattle.lay_node.specs.Follow.{begins_dots}
use Rattle.lay_node.specs.reader.Loops.{Got, Read, ◌>>=◌, nodes, deepest, repeat}
use Rattle.lay_node.specs.declared.patterns.Pat.{Pat}
use Rattle.lay_node.specs.declared.patterns.PatPlace.TheVariants.{Alternatives}
use Rattle.lay_code.specs.Operators.{strength}
use Rattle.lay_code.specs.nodes.Code.{about_expr}
use Rattle.lay_code.specs.nodes.Exprs.{stands}
use Rattle.lay_code.specs.nodes.Places.{link_place, plain}
use Rattle.lay_code.specs.reader.Within.{ExprWithin}
use Rattle.lay_code.specs.declared.conditions.Condition.{Condition}
use Rattle.lay_code.specs.declared.conditions.Link.{Link}
use Rattle.lay_code.specs.declared.conditions.Link.TheVariants as link
use Rattle.lay_code.specs.declared.exprs.Expr.{Expr}
use Rattle.lay_code.specs.declared.exprs.Expr.TheVariants as expr
use Rattle.lay_code.specs.declared.operators.Op.TheVariants as op

-- ---- links

-- a link as it is parsed: an expression, after a `let` and a pattern if it has them
abbrev pub ReadLink : Type 0
ReadLink = Option Pat × Expr

abbrev pub is_let : ReadLink → Bool
is_let l = is_some l.0

abbrev pub linked : ReadLink → Link
linked (None, x) = link.Expr x
linked (Some pat, x) = link.Let pat x

-- what follows `let`
unfoldable pub let_link : ExprWithin → Tokens → Read ReadLink
let_link within ts = do
  p ← within.pats Alternatives ts
  x ← (if is_op (codes "=") p.1 then within.exprs (plain 4 true) (drop 1 p.1) else None)
  Some (((Some p.0.0, x.0.0), max p.0.1 x.0.1), x.1)

abbrev pub expr_link : ExprWithin → Tokens → Read ReadLink
expr_link within ts = do x ← within.exprs (plain 4 true) ts; Some (((None, x.0.0), x.0.1), x.1)

abbrev pub link_by : ExprWithin → Tokens → Read ReadLink
link_by within ts = if first (is_keyword (codes "let")) ts then let_link within (tail ts) else expr_link within ts

-- The next operator is an `&&`, so a further link follows.
abbrev pub begins_link : Tokens → Bool
begins_link ts = strength ts == 4

-- If a further link follows, this one may stand before it.
abbrev pub link_ends : ReadLink → Tokens → Bool
link_ends l ts = if begins_link ts then stands (about_expr l.1) (link_place true) else true

unfoldable pub one_link : ExprWithin → Tokens → Read ReadLink
one_link within ts = do
  l ← link_by within ts
  if link_ends l.0.0 l.1 then Some l else None

-- the further links, each after an `&&`
unfoldable pub further_links : ExprWithin → Tokens → Got (List (ReadLink × ℕ))
further_links within ts = repeat begins_link (λ us. one_link within (drop 2 us)) ts

-- ---- conditions

-- the links, of which none has a `let`, as one expression
abbrev pub chain_of : ReadLink × ℕ → List (ReadLink × ℕ) → Expr × ℕ
chain_of l [] = (l.0.1, l.1)
chain_of l (m ∷ more) =
    (expr.Chain l.0.1 (map (λ (n : ReadLink × ℕ). (op.AndAnd, n.0.1)) (m ∷ more)), suc (max l.1 (deepest (m ∷ more))))

abbrev pub any_let : ReadLink × ℕ → List (ReadLink × ℕ) → Bool
any_let l more = list_any is_let (l.0 ∷ nodes more)

abbrev pub alone : Expr → Condition
alone x = record { links = link.Expr x ∷ [] }

-- the condition of these links, or of an expression that begins with them
unfoldable pub condition_of : ExprWithin → ReadLink × ℕ → List (ReadLink × ℕ) → Tokens → Read Condition
condition_of within l more ts =
    if any_let l more then Some ((record { links = map linked (l.0 ∷ nodes more) }, max l.1 (deepest more)), ts)
    else (do x ← within.goes_on (chain_of l more) ts; Some ((alone x.0.0, x.0.1), x.1))

-- A range without a start is no link: its level is lower. So it is parsed as an expression.
unfoldable pub condition_by : ExprWithin → Tokens → Read Condition
condition_by within ts =
    if begins_dots ts then (do x ← within.exprs (plain 0 true) ts; Some ((alone x.0.0, x.0.1), x.1))
    else (do
      l ← one_link within ts
      more ← further_links within l.1
      condition_of within l.0 more.0 more.1)
