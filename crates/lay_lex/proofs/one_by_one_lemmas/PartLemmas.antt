-- The parts that are found are those of the text.
use Rattle.std.proofs.Common.{◌≡◌, ℕ, zero, suc, ◌-◌, ◌<◌, ◌≤◌, Bool, false, List, [], ◌∷◌, ◌++◌, length, take, Some, None, Option, sym, refl, ap, ◌∙◌, subst, arith, length-append}
use Rattle.std.specs.Prelude.{IsTrue}
use Rattle.std.proofs.Math.Seq.{take-append_seam}
use Rattle.lay_piece.specs.Begins.{BeginsNoPiece}
use Rattle.lay_piece.specs.Forms.{Had, had}
use Rattle.lay_piece.specs.Found.{FrontPiece, found, front_of}
use Rattle.lay_piece.specs.Gap.{Outside, is_gap, is_last_gap}
use Rattle.lay_piece.specs.declared.kind.Kind.{Kind}
use Rattle.lay_piece.proofs.Exact.{front_complete, stands_at}
use Rattle.lay_piece.proofs.GapLaws.{piece_no_gap, gap_unique, last_gap_rest}
use Rattle.lay_piece.proofs.Unique.{same_rest}
use Rattle.lay_token.specs.Lexes.{Before, Fit, Part, is_index_place, spell, step}
use Rattle.lay_token.proofs.Parts.{had_some}
use Rattle.lay_lex.specs.Gap.{rest_of}
use Rattle.lay_lex.proofs.Gaps.{Longest, last_gap, longest}
use Rattle.lay_lex.specs.one_by_one.Ahead.{Next, next_is, next_part, parts_by, parts_in, parts_of, up_to, with_gap, with_piece}

-- ---- the part at the beginning

-- what stands before the end
up_to_end : (x y : List ℕ) → up_to (x ++ y) y ≡ x
up_to_end x y =
    let n : length (x ++ y) - length y ≡ length x = omega (arith, length-append x y) in
    ap (λ (k : ℕ). take k (x ++ y)) n ∙ take-append_seam x y

pub up_to_is : (cs x y : List ℕ) → cs ≡ x ++ y → up_to cs y ≡ x
up_to_is cs x y e = ap (λ (l : List ℕ). up_to l y) e ∙ up_to_end x y

-- A text isn't its last gap where a gap and a piece stand at its beginning.
unended : (gap piece rest cs : List ℕ) (k : Kind) (i : Bool) → cs ≡ gap ++ (piece ++ rest) → IsTrue (is_gap gap) → Had k piece rest i
    → IsTrue (is_last_gap cs) → ⊥
unended gap piece rest cs k i e g h l =
    let last = last_gap_rest gap (piece ++ rest) g (sym (ap is_last_gap e) ∙ l) in
    let n = (piece_no_gap k piece rest i h).unended in
    cc

gap_found : (gap piece rest cs : List ℕ) (k : Kind) (i : Bool) → cs ≡ gap ++ (piece ++ rest) → IsTrue (is_gap gap) → Had k piece rest i
    → (r : Option (List ℕ)) → rest_of Outside cs cs ≡ r → r ≡ Some (piece ++ rest)
gap_found gap piece rest cs k i e g h None f = absurd (unended gap piece rest cs k i e g h (last_gap cs f))
gap_found gap piece rest cs k i e g h (Some r) f =
    let l = longest cs r f in
    let both : l.gap ++ r ≡ gap ++ (piece ++ rest) = sym l.whole ∙ e in
    let gaps : l.gap ≡ gap = gap_unique l.gap gap r (piece ++ rest) both l.closed g l.no_more (piece_no_gap k piece rest i h) in
    ap (λ (x : List ℕ). Some x) (same_rest l.gap r (piece ++ rest) (both ∙ ap (λ (x : List ℕ). x ++ (piece ++ rest)) (sym gaps)))

-- after the gap that is found and the piece that is found there
pub next_found : (b : Before) (gap piece rest t cs : List ℕ) (k : Kind) → rest_of Outside cs cs ≡ Some t → front_of (is_index_place b) t ≡ found k rest
    → cs ≡ gap ++ t → t ≡ piece ++ rest → next_part b cs ≡ next_is (record { gap = gap; kind = k; piece = piece }) rest
next_found b gap piece rest t cs k r f e w =
    ap (with_gap (is_index_place b) cs) r
    ∙ ap (with_piece cs t) f
    ∙ ap (λ (x : List ℕ). next_is (record { gap = x; kind = k; piece = up_to t rest }) rest) (up_to_is cs gap t e)
    ∙ ap (λ (x : List ℕ). next_is (record { gap = gap; kind = k; piece = x }) rest) (up_to_is t piece rest w)

-- what is had is found
part_found : (b : Before) (p : Part) (rest cs : List ℕ) → cs ≡ p.gap ++ (p.piece ++ rest) → IsTrue (is_gap p.gap)
    → Had p.kind p.piece rest (is_index_place b) → next_part b cs ≡ next_is p rest
part_found b p rest cs e g h =
    next_found b p.gap p.piece rest (p.piece ++ rest) cs p.kind
    (gap_found p.gap p.piece rest cs p.kind (is_index_place b) e g h (rest_of Outside cs cs) refl)
    (front_complete p.kind p.piece rest (is_index_place b) h) e refl

-- ---- nothing at the beginning

pub none_behind : (b : Before) (cs : List ℕ) → rest_of Outside cs cs ≡ None → next_part b cs ≡ None
none_behind b cs r = ap (with_gap (is_index_place b) cs) r

no_front : (i : Bool) (t : List ℕ) → BeginsNoPiece t i → (f : FrontPiece) → front_of i t ≡ f → f ≡ None
no_front i t none None e = refl
no_front i t none (Some f) e = let s = stands_at i t f.0 f.1 e in absurd (none f.0 s.piece f.1 s.whole s.is_had)

pub none_there : (b : Before) (t cs : List ℕ) → rest_of Outside cs cs ≡ Some t → BeginsNoPiece t (is_index_place b) → next_part b cs ≡ None
none_there b t cs r none =
    ap (with_gap (is_index_place b) cs) r ∙ ap (with_piece cs t) (no_front (is_index_place b) t none (front_of (is_index_place b) t) refl)

last_none : (cs : List ℕ) → IsTrue (is_last_gap cs) → (r : Option (List ℕ)) → rest_of Outside cs cs ≡ r → r ≡ None
last_none cs l None f = refl
last_none cs l (Some r) f =
    let g = longest cs r f in
    let last = last_gap_rest g.gap r g.closed (sym (ap is_last_gap g.whole) ∙ l) in
    let n = g.no_more.unended in
    let never : ⊥ = cc in
    absurd never

-- ---- each part takes a character

piece_long : (k : Kind) (piece rest : List ℕ) (i : Bool) → Had k piece rest i → 1 ≤ length piece
piece_long k [] rest i h = let e : had k [] rest i ≡ false = had_some k rest i in cc
piece_long k (c ∷ cs) rest i h = omega arith

abbrev rest_in : List ℕ → Next → List ℕ
rest_in cs None = cs
rest_in cs (Some x) = x.1

shorter_piece : (i : Bool) (cs t : List ℕ) → Longest cs t → (f : FrontPiece) → front_of i t ≡ f → (p : Part) (rest : List ℕ)
    → with_piece cs t f ≡ next_is p rest → length rest < length cs
shorter_piece i cs t l None e p rest n = absurd (cc n)
shorter_piece i cs t l (Some f) e p rest n =
    let s = stands_at i t f.0 f.1 e in
    let same : f.1 ≡ rest = ap (rest_in cs) n in
    let less : length f.1 < length cs =
    omega (arith, ap length l.whole, length-append l.gap t, ap length s.whole, length-append s.piece f.1, piece_long f.0 s.piece f.1 i s.is_had) in
    subst (λ (x : List ℕ). length x < length cs) same less

shorter_gap : (i : Bool) (cs : List ℕ) (r : Option (List ℕ)) → rest_of Outside cs cs ≡ r → (p : Part) (rest : List ℕ)
    → with_gap i cs r ≡ next_is p rest → length rest < length cs
shorter_gap i cs None e p rest n = absurd (cc n)
shorter_gap i cs (Some t) e p rest n = shorter_piece i cs t (longest cs t e) (front_of i t) refl p rest n

shorter : (b : Before) (cs : List ℕ) (p : Part) (rest : List ℕ) → next_part b cs ≡ next_is p rest → length rest < length cs
shorter b cs p rest n = shorter_gap (is_index_place b) cs (rest_of Outside cs cs) refl p rest n

-- ---- as many as there are characters are enough

same_by : (more others : Part → List ℕ → List Part) (x : Next) → ((p : Part) (rest : List ℕ) → x ≡ next_is p rest → more p rest ≡ others p rest)
    → parts_by more x ≡ parts_by others x
same_by more others None h = refl
same_by more others (Some x) h = ap (λ (l : List Part). x.0 ∷ l) (h x.0 x.1 refl)

same_parts : (n m : ℕ) (b : Before) (cs : List ℕ) → length cs ≤ n → length cs ≤ m → parts_in n b cs ≡ parts_in m b cs
same_parts zero zero b cs h k = refl
same_parts zero (suc m) b [] h k = refl
same_parts zero (suc m) b (c ∷ cs) h k = let never : ⊥ = omega (arith, h) in absurd never
same_parts (suc n) zero b [] h k = refl
same_parts (suc n) zero b (c ∷ cs) h k = let never : ⊥ = omega (arith, k) in absurd never
same_parts (suc n) (suc m) b cs h k =
    same_by (λ p rest. parts_in n (step b p) rest) (λ p rest. parts_in m (step b p) rest) (next_part b cs) (λ p rest e.
    let less = shorter b cs p rest e in
    same_parts n m (step b p) rest (omega (arith, less, h)) (omega (arith, less, k)))

pub parts_more : (b : Before) (cs : List ℕ) (p : Part) (rest : List ℕ) → next_part b cs ≡ next_is p rest
    → parts_of b cs ≡ p ∷ parts_of (step b p) rest
parts_more b cs p rest n =
    let less = shorter b cs p rest n in
    same_parts (length cs) (suc (length cs)) b cs (omega arith) (omega arith)
    ∙ ap (parts_by (λ q tail. parts_in (length cs) (step b q) tail)) n
    ∙ ap (λ (l : List Part). p ∷ l) (same_parts (length cs) (length rest) (step b p) rest (omega (arith, less)) (omega arith))

pub parts_none : (b : Before) (cs : List ℕ) → next_part b cs ≡ None → parts_of b cs ≡ []
parts_none b cs n =
    same_parts (length cs) (suc (length cs)) b cs (omega arith) (omega arith)
    ∙ ap (parts_by (λ q tail. parts_in (length cs) (step b q) tail)) n

-- ---- the parts of a text

pub parts_are : (b : Before) (ps : List Part) (last : List ℕ) → Fit b ps last → IsTrue (is_last_gap last) → parts_of b (spell ps last) ≡ ps
parts_are b [] last f l = parts_none b last (none_behind b last (last_none last l (rest_of Outside last last) refl))
parts_are b (p ∷ ps) last f l =
    parts_more b (spell (p ∷ ps) last) p (spell ps last) (part_found b p (spell ps last) (spell (p ∷ ps) last) refl f.0 f.1)
    ∙ ap (λ (x : List Part). p ∷ x) (parts_are (step b p) ps last f.2 l)
