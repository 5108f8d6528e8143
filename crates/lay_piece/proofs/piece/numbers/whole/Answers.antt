use Rattle.std.proofs.Common.{◌≡◌, ℕ, List, ◌∷◌, true, false, refl, subst}
use Rattle.lay_piece.specs.Number.{begins_point, is_exponent_letter, is_decimal}
use Rattle.lay_piece.specs.Found.{FrontPiece, Finds, whole, exponent}
use Rattle.lay_piece.specs.declared.piece.numbers.Base.{Base}
use Rattle.lay_piece.proofs.piece.numbers.whole.Goals as goal

-- the letter of an exponent after the digits of a decimal number
exponent_at : (base : Base) (cs tail : List ℕ) (c : ℕ) → cs ≡ c ∷ tail → false ≡ begins_point (c ∷ tail)
    → true ≡ is_exponent_letter c → true ≡ is_decimal base
    → exponent tail ≡ whole base cs
exponent_at base cs tail c e f g h = rw (e, ← f, ← g, ← h) refl

pub returns-then-is_decimal-2 : goal.returns-then-is_decimal-2
returns-then-is_decimal-2 c =
    let P : FrontPiece → Type 0 = λ x. Finds x c.exponent.result in
    subst P (exponent_at c.args.base _ _ c.in-Some.c c.in-Some.ensures.parts c.if-is_point.ensures c.if-contains.ensures c.if-is_decimal-2.ensures) c.exponent.ensures
