-- Operators between operands pass, each with a blank before it and after it.
use Rattle.std.proofs.Common.{◌≡◌, [], ◌∷◌, Bool, true, ◌&&◌, refl}
use Rattle.std.proofs.lemmas.Bool.{and_parts}
use Rattle.lay_form.specs.Form.{Blank, Operator, Form, Piece}
use Rattle.lay_form.specs.Notation.{B}
use Rattle.lay_code.specs.Operators.{op_text}
use Rattle.lay_code.specs.declared.operators.Op.{Op}
use Rattle.lay_code.specs.declared.operators.Op.TheVariants as op
use Rattle.lay_reparse.proofs.borders.Border.{Border, beyond, pass}
use Rattle.lay_reparse.proofs.forms.Passes.{plain, stands}
use Rattle.lay_reparse.proofs.forms.Rules.{tables, From, fixed, dotted, breaks, simple}
use Rattle.lay_reparse.proofs.file.ExprParts.{ends_operand, is_clear, from_clear, gap}

-- an operator, with the blank that it may get, and a blank after it
abbrev op_fits : Op → Bool
op_fits o =
    let p = Operator (op_text o) ∷ [] in
    (stands p && (pass plain p && pass plain (Blank ∷ p)))
    && ((simple (beyond plain p) gap && is_clear (beyond (beyond plain p) gap))
    && (simple (beyond plain (Blank ∷ p)) gap && is_clear (beyond (beyond plain (Blank ∷ p)) gap)))

-- Each operator fits where nothing is asked.
ops_fit : (o : Op) → op_fits o ≡ true
unfolding tables
ops_fit op.Set = refl
ops_fit _ = refl

-- a blank, after which nothing is asked
behind_gap : (b : Border) → simple b gap && is_clear (beyond b gap) ≡ true → {f : Form} {c : Border} → From plain f c
    → From b (Piece gap f) c
behind_gap b h k = let q = and_parts (simple b gap) _ h in fixed q.0 (from_clear (beyond b gap) q.1 k)

-- an operator, and an operand after it
pub operator_passes : (o : Op) {f : Form} {c : Border} → From plain f c
    → From plain (Piece (Operator (op_text o) ∷ []) (Piece gap f)) c
operator_passes o k =
    let p = Operator (op_text o) ∷ [] in
    let q = and_parts (stands p && (pass plain p && pass plain (Blank ∷ p))) _ (ops_fit o) in
    let r = and_parts (simple (beyond plain p) gap && is_clear (beyond (beyond plain p) gap)) _ q.1 in
    dotted q.0 (behind_gap (beyond plain p) r.0 k) (behind_gap (beyond plain (Blank ∷ p)) r.1 k)

-- the same after an operand, where a break stands before it
pub operator_broken : (o : Op) {f : Form} {c : Border} → From plain f c
    → From ends_operand (B (Piece (Operator (op_text o) ∷ []) (Piece gap f))) c
operator_broken o k = breaks refl (operator_passes o k)
