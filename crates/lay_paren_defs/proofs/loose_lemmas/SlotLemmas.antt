-- Parentheses fit everywhere, and a whole statement does as it is.
use Rattle.std.proofs.Common.{◌≡◌, ◌≤◌, Bool, true, false, not, ◌&&◌, refl, arith}
use Rattle.std.proofs.lemmas.Bool.{and_from, le-leb}
use Rattle.lay_code.specs.nodes.Exprs.{ExprFacts, expr_facts, may}
use Rattle.lay_code.specs.nodes.Places.{is_part, statement}
use Rattle.lay_code.specs.declared.blocks.Stmt.TheOpen.{Expr-F}
use Rattle.lay_code.specs.declared.exprs.Place.{Place}
use Rattle.lay_paren_defs.specs.loose.Slots.{Slot, Any, Prefixed, Optional, Unlabelled, BeforeElse, BeforeIndex, fits, slot_fits}

pub and_false : (a : Bool) → not (a && false) ≡ true
and_false true = refl
and_false false = refl

paren_may : (x : ExprFacts) (p : Place) → p.level ≤ 14 → may (expr_facts (Expr-F.Paren x)) p ≡ true
paren_may x p h =
    rw (le-leb p.level 14 h, and_false p.op_after, and_false p.lt_after, and_false (is_part p.start), and_false p.no_struct) refl

paren_slot : (x : ExprFacts) (s : Slot) (no_struct : Bool) → slot_fits s no_struct (expr_facts (Expr-F.Paren x)) ≡ true
paren_slot x Any no_struct = refl
paren_slot x Prefixed no_struct = refl
paren_slot x Optional no_struct = and_false no_struct
paren_slot x Unlabelled no_struct = and_from (not (no_struct && false)) true (and_false no_struct) refl
paren_slot x BeforeElse no_struct = refl
paren_slot x BeforeIndex no_struct = refl

pub paren_fits : (x : ExprFacts) (p : Place) (s : Slot) → p.level ≤ 14 → fits (expr_facts (Expr-F.Paren x)) p s ≡ true
paren_fits x p s h =
    and_from (may (expr_facts (Expr-F.Paren x)) p) (slot_fits s p.no_struct (expr_facts (Expr-F.Paren x))) (paren_may x p h)
    (paren_slot x s p.no_struct)

pub whole_fits : (x : ExprFacts) → fits x statement Any ≡ true
whole_fits x = rw (le-leb 0 x.level (omega arith)) refl
