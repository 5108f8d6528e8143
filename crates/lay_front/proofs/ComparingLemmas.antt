-- What a sink that compares has met, against the bytes that are expected.
use Rattle.std.proofs.Common.{◌≡◌, ◌≢◌, ◌<◌, ◌≤◌, ◌+◌, ◌↔◌, zero, suc, ℕ, Bool, false, List, [], ◌∷◌, ◌++◌, length, take, drop, get_or, slice_get, is_some, Option, None, Some, IsTrue, refl, sym, ap, ◌∙◌, arith, append-nil, append_assoc}
use Rattle.std.proofs.Math.Seq.{take-append_seam, drop-append_seam, take-add, take-length}
use Rattle.std.proofs.lemmas.List.{get_or-drop, length-drop, take_more}
use Rattle.std.proofs.lemmas.Option.{slice_get_within, get_or_from_slice_get}
use Rattle.std.specs.Option.{ForSome, ForNone}
use Rattle.lay_io.specs.Faults.{Rose}
use Rattle.lay_io.specs.Told.{GrewBy, GrewByPrefix}
use Rattle.lay_front.specs.Comparing.{and_wrong}

cons_nil : (x : ℕ) (xs : List ℕ) → x ∷ xs ≡ [] → ⊥
cons_nil x xs e = omega (arith, ap (λ (bytes : List ℕ). length bytes) e)

-- A byte that isn't the next one, after a prefix of a list, makes no prefix of it.
no_front : (all : List ℕ) (met byte count : ℕ) → (slice_get all met ≡ Some byte → ⊥) → take met all ++ byte ∷ [] ≡ take count all → ⊥
no_front [] zero byte zero other e = cons_nil _ _ e
no_front [] zero byte (suc count) other e = cons_nil _ _ e
no_front [] (suc met) byte zero other e = cons_nil _ _ e
no_front [] (suc met) byte (suc count) other e = cons_nil _ _ e
no_front (x ∷ xs) zero byte zero other e = cons_nil _ _ e
no_front (x ∷ xs) zero byte (suc count) other e =
    let same : byte ≡ x = ap (λ (bytes : List ℕ). get_or bytes 0 0) e in other (ap Some (sym same))
no_front (x ∷ xs) (suc met) byte zero other e = cons_nil _ _ e
no_front (x ∷ xs) (suc met) byte (suc count) other e = no_front xs met byte count other (ap (λ (bytes : List ℕ). drop 1 bytes) e)

-- A wrong byte after those that were met isn't all that is expected.
pub wrong_is_other : (all : List ℕ) (met byte : ℕ) (wrong : Option ℕ) → wrong ≡ Some byte → ForSome wrong (λ b. slice_get all met ≢ Some b)
    → and_wrong (take met all) wrong ≡ all → ⊥
wrong_is_other all met byte None e differs same = let no : ⊥ = cc in absurd no
wrong_is_other all met byte (Some b) e differs same = no_front all met b (length all) (differs b refl) (same ∙ sym (take-length all))

none_is : (o : Option ℕ) → is_some o ≡ false → o ≡ None
none_is None e = refl
none_is (Some b) e = let no : ⊥ = cc in absurd no

-- A piece that is what is expected next.
pub met_more : (all piece : List ℕ) (met same : ℕ) (wrong : Option ℕ) → is_some wrong ≡ false → take same piece ≡ take same (drop met all)
    → same ≡ length piece → all ++ and_wrong (take met all) wrong ++ piece ≡ all ++ and_wrong (take (met + same) all) wrong
met_more all piece met same None none front whole =
    let next : piece ≡ take same (drop met all) = sym (take-length piece) ∙ ap (λ (n : ℕ). take n piece) (sym whole) ∙ front in
    append_assoc all (take met all) piece
    ∙ ap (λ (b : List ℕ). all ++ b) (ap (λ (b : List ℕ). take met all ++ b) next ∙ sym (take-add met same all))
met_more all piece met same (Some b) none front whole = let no : ⊥ = cc in absurd no

-- A piece of which a byte is wrong: it and those before it are kept.
pub met_then_wrong : (all piece : List ℕ) (met same : ℕ) (wrong : Option ℕ) → is_some wrong ≡ false
    → take same piece ≡ take same (drop met all) → same < length piece
    → all ++ and_wrong (take met all) wrong ++ take (same + 1) piece ≡ all ++ (take (met + same) all ++ get_or piece same 0 ∷ [])
met_then_wrong all piece met same None none front short =
    let byte : List ℕ = get_or piece same 0 ∷ [] in
    let next : take (same + 1) piece ≡ take same (drop met all) ++ byte =
    take_more piece same 0 short ∙ ap (λ (b : List ℕ). b ++ byte) front in
    append_assoc all (take met all) (take (same + 1) piece)
    ∙ ap (λ (b : List ℕ). all ++ b)
    (ap (λ (b : List ℕ). take met all ++ b) next ∙ sym (append_assoc (take met all) (take same (drop met all)) byte)
    ∙ ap (λ (b : List ℕ). b ++ byte) (sym (take-add met same all)))
met_then_wrong all piece met same (Some b) none front short = let no : ⊥ = cc in absurd no

-- The first byte after an equal prefix that differs isn't the next one.
pub not_next : (all piece : List ℕ) (met same byte : ℕ) → same < length piece → get_or piece same 0 ≡ byte
    → (same < length piece → same < length (drop met all) → get_or (drop met all) same 0 ≡ get_or piece same 0 → ⊥)
    → same ≤ length (drop met all) → slice_get all (met + same) ≡ Some byte → ⊥
not_next all piece met same byte short is ends within e =
    let inside : met + same < length all = slice_get_within all (met + same) byte e in
    let there : get_or (drop met all) same 0 ≡ byte = get_or-drop met all same 0 ∙ get_or_from_slice_get all (met + same) byte 0 e in
    ends short (behind all met same inside) (there ∙ sym is)
  where
    behind : (xs : List ℕ) (n m : ℕ) → n + m < length xs → m < length (drop n xs)
    behind xs n m h = grind (arith, length-drop)

-- of two joined lists whose prefixes are as long
split_same : (a b c d : List ℕ) → length a ≡ length c → a ++ b ≡ c ++ d → (a ≡ c) × (b ≡ d)
split_same a b c d l e = (
  sym (take-append_seam a b) ∙ ap (λ (bytes : List ℕ). take (length a) bytes) e ∙ ap (λ (n : ℕ). take n (c ++ d)) l ∙ take-append_seam c d,
  sym (drop-append_seam a b) ∙ ap (λ (bytes : List ℕ). drop (length a) bytes) e ∙ ap (λ (n : ℕ). drop n (c ++ d)) l ∙ drop-append_seam c d,
)

-- What was written to a sink that tells the expected bytes before it: the bytes are as they were, and after them stands
-- what was written.
compared : (given bytes none all written text : List ℕ) → given ≡ bytes → none ≡ [] → length all ≡ length given
    → GrewBy (Some (given ++ none)) (Some (all ++ written)) text → (all ≡ bytes) × (written ≡ text)
compared given bytes none all written text is empty long grew =
    let joined : given ++ none ++ text ≡ all ++ written = cc in
    let bare : given ++ none ≡ bytes = ap (λ (more : List ℕ). given ++ more) empty ∙ append-nil given ∙ is in
    let both : all ++ written ≡ bytes ++ text = sym joined ∙ ap (λ (front : List ℕ). front ++ text) bare in
    split_same all written bytes text (long ∙ ap (λ (b : List ℕ). length b) is) both

-- What was written is all that was expected exactly where the text is those bytes.
pub met_all : (given bytes none all written text : List ℕ) (same : Bool) → given ≡ bytes → none ≡ [] → length all ≡ length given
    → GrewBy (Some (given ++ none)) (Some (all ++ written)) text → (IsTrue same ↔ (written ≡ all)) → IsTrue same ↔ (bytes ≡ text)
met_all given bytes none all written text same is empty long grew h =
    let c : (all ≡ bytes) × (written ≡ text) = compared given bytes none all written text is empty long grew in
    (λ t. sym c.0 ∙ sym (h.0 t) ∙ c.1, λ e. h.1 (c.1 ∙ sym e ∙ sym c.0))

other_bytes : (bytes text : List ℕ) → (bytes ≡ text → ⊥) → IsTrue false ↔ (bytes ≡ text)
other_bytes bytes text differ = (λ t. let never : ⊥ = cc in absurd never, λ e. absurd (differ e))

-- A sink that met a wrong byte was written no prefix of the bytes that were expected.
pub met_wrong : (given bytes none all text : List ℕ) (met : ℕ) (wrong : Option ℕ) (before faults : ℕ) → given ≡ bytes → none ≡ []
    → length all ≡ length given → before ≡ 0 → ForNone wrong (faults ≡ 0) → ForSome wrong (λ byte. slice_get all met ≢ Some byte)
    → Rose before faults → GrewByPrefix (Some (given ++ none)) (Some (all ++ and_wrong (take met all) wrong)) text
    → IsTrue false ↔ (bytes ≡ text)
met_wrong given bytes none all text met None before faults is empty long unfailed counted differs rose grew =
    let no_faults : faults ≡ 0 = counted refl in let never : ⊥ = omega arith in absurd never
met_wrong given bytes none all text met (Some byte) before faults is empty long unfailed counted differs rose grew =
    let c : (all ≡ bytes) × (take met all ++ byte ∷ [] ≡ take grew.0 text) =
    compared given bytes none all (take met all ++ byte ∷ []) (take grew.0 text) is empty long grew.1 in
    other_bytes bytes text
    (λ e. no_front all met byte grew.0 (differs byte refl) (c.1 ∙ ap (λ (b : List ℕ). take grew.0 b) (sym e ∙ sym c.0)))
