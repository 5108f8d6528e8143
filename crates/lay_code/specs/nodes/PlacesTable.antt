-- The table of the places of expressions, row by row. A row says when a node may stand at a place,
-- by the places of the nodes within it.
use Rattle.std.specs.Prelude.{ℕ, suc, ◌≡◌, ◌==◌, ◌&&◌, not, Bool, false, List, [], ◌∷◌, Option, Some, IsTrue}
use Rattle.lay_node.specs.nodes.Types.{is_there}
use Rattle.lay_code.specs.Operators.{op_level, is_angle_op}
use Rattle.lay_code.specs.nodes.Exprs.{ExprFacts, begins_free, expr_facts, is_chain_level, is_prefix_lead, may, may_chain, placed, start_placed, targets_placed}
use Rattle.lay_code.specs.nodes.Places.{before_op, begins}
use Rattle.lay_code.specs.declared.blocks.Stmt.TheOpen.{Expr-F}
use Rattle.lay_code.specs.declared.exprs.Place.{Place}
use Rattle.lay_code.specs.declared.exprs.Start.TheVariants as start
use Rattle.lay_code.specs.declared.operators.Op.{Op}
use Rattle.lay_code.specs.declared.operators.Prefix.{Prefix}

abbrev pub Iff : Type 0 → Type 0 → Type 0
Iff A B = (A → B) × (B → A)

-- A place of this level. Its other rules are those of the node's place, but nothing begins a
-- statement there.
abbrev pub as_node : Place → ℕ → Place
as_node p level = record { level = level; no_struct = p.no_struct; start = start.No; op_after = p.op_after; lt_after = p.lt_after }

-- An expression stands at a place just where its root may and what is within it stands at its own
-- places.
abbrev pub ByRoot : Place → ExprFacts → Type 0
ByRoot p x = placed x p ≡ (may x p && x.within p.no_struct (begins p.start))

-- Each row asks that the root may stand at the place. Further it asks of what is within:
--
-- Unary: the operand stands at level 12, with the other rules of the node's place. It doesn't begin
-- with a prefix operator.
abbrev pub UnaryRow : Place → List Prefix → ExprFacts → Type 0
UnaryRow p ps x =
    IsTrue (may (expr_facts (Expr-F.Unary ps x)) p) × IsTrue (is_there ps) × IsTrue (placed x (as_node p 12)) × IsTrue (not (is_prefix_lead x.lead))

-- Range: the end stands at level 2, with the other rules of the node's place. Where no struct
-- literal may stand, it doesn't begin with a brace.
abbrev pub RangeRow : Place → Option ExprFacts → Bool → ExprFacts → Type 0
RangeRow p a inclusive x =
    IsTrue (may (expr_facts (Expr-F.Range a inclusive (Some x))) p) × IsTrue (start_placed a p.no_struct (begins p.start)) × IsTrue (placed x (as_node p 2)) × IsTrue (begins_free p.no_struct x)

-- Assign: the value stands at level 1, with the other rules of the node's place.
abbrev pub AssignRow : Place → List (ExprFacts × Op) → ExprFacts → Type 0
AssignRow p targets x =
    IsTrue (may (expr_facts (Expr-F.Assign targets x)) p) × IsTrue (is_there targets) × IsTrue (targets_placed targets p.no_struct (begins p.start)) × IsTrue (placed x (as_node p 1))

-- Chain: each operand after the first stands one level above that of the operators. The last one
-- has the other rules of the node's place.
abbrev pub OtherOperands : Place → ℕ → List (Op × ExprFacts) → Type 0
OtherOperands p level [] = Unit {0}
OtherOperands p level (x ∷ []) = IsTrue (op_level x.0 == level) × IsTrue (placed x.1 (as_node p (suc level)))
OtherOperands p level (x ∷ y ∷ more) =
    IsTrue (op_level x.0 == level) × IsTrue (placed x.1 (before_op (suc level) p.no_struct false (is_angle_op y.0))) × OtherOperands p level (y ∷ more)

-- The first operand stands before the operator that follows it.
abbrev pub ChainRow : Place → ExprFacts → Op × ExprFacts → List (Op × ExprFacts) → Type 0
ChainRow p x o more =
    IsTrue (may (expr_facts (Expr-F.Chain x (o ∷ more))) p) × IsTrue (is_chain_level (op_level o.0)) × IsTrue (may_chain (op_level o.0) (o ∷ more))
    × IsTrue (placed x (before_op (suc (op_level o.0)) p.no_struct (begins p.start) (is_angle_op o.0))) × OtherOperands p (op_level o.0) (o ∷ more)
