-- At most one piece stands at a place.
use Rattle.std.proofs.Common.{◌≡◌, ℕ, List, [], ◌∷◌, ◌++◌, Bool, sym, refl, ap, ◌∙◌, arith, length, length-append}
use Rattle.lay_piece.specs.Forms.{had, Had, may_precede}
use Rattle.lay_piece.specs.Found.{found, front_of}
use Rattle.lay_piece.specs.declared.kind.Kind.{Kind}
use Rattle.lay_piece.specs.declared.kind.Kind.TheVariants.{Ident, RawIdent, Underscore, Lifetime, Char, Str, RawStr, Byte, ByteStr, RawByteStr, CStr, RawCStr, Int, Float, Punct, Opener, Closer, Doc}
use Rattle.lay_piece.proofs.Exact.{front_complete, found_kind, found_rest}

-- what a piece asks of its rest is told by the rest's first two characters
pub had_two : (k : Kind) (piece x y : List ℕ) (c d : ℕ) (i : Bool)
    → had k piece (c ∷ d ∷ x) i ≡ had k piece (c ∷ d ∷ y) i
unfolding had may_precede
had_two Ident piece x y c d i = refl
had_two RawIdent piece x y c d i = refl
had_two Underscore piece x y c d i = refl
had_two Lifetime piece x y c d i = refl
had_two Int piece x y c d i = refl
had_two Float piece x y c d i = refl
had_two Punct piece x y c d i = refl
had_two (Opener e) piece x y c d i = refl
had_two (Closer e) piece x y c d i = refl
had_two (Doc inner block) piece x y c d i = refl
had_two Char piece x y c d i = refl
had_two Str piece x y c d i = refl
had_two RawStr piece x y c d i = refl
had_two Byte piece x y c d i = refl
had_two ByteStr piece x y c d i = refl
had_two RawByteStr piece x y c d i = refl
had_two CStr piece x y c d i = refl
had_two RawCStr piece x y c d i = refl

same_front : (p q r : List ℕ) → p ++ r ≡ q ++ r → p ≡ q
same_front [] [] r e = refl
same_front [] (d ∷ q) r e = let n = ap length e ∙ length-append (d ∷ q) r in absurd (omega (arith, n))
same_front (c ∷ p) [] r e = let n = ap length (sym e) ∙ length-append (c ∷ p) r in absurd (omega (arith, n))
same_front (c ∷ p) (d ∷ q) r e =
    let heads : c ≡ d = cc in
    let tails : p ++ r ≡ q ++ r = cc in
    ap (λ v. v ∷ p) heads ∙ ap (λ v. d ∷ v) (same_front p q r tails)

pub same_rest : (p r t : List ℕ) → p ++ r ≡ p ++ t → r ≡ t
same_rest [] r t e = e
same_rest (c ∷ p) r t e = let tails : p ++ r ≡ p ++ t = cc in same_rest p r t tails

pub record SamePiece (k l : Kind) (p q : List ℕ) : Type 0 where
  pub kind : k ≡ l
  pub piece : p ≡ q

-- at most one kind and length at a place
pub one_piece : (k l : Kind) (p q r t : List ℕ) (i : Bool) → p ++ r ≡ q ++ t → Had k p r i → Had l q t i
    → SamePiece k l p q
one_piece k l p q r t i e h g =
    let same : found k r ≡ found l t = sym (front_complete k p r i h) ∙ ap (front_of i) e
    ∙ front_complete l q t i g in
    let rests : r ≡ t = found_rest k l r t same in
    record { kind = found_kind k l r t same; piece = same_front p q r (e ∙ ap (λ v. q ++ v) (sym rests)) }
