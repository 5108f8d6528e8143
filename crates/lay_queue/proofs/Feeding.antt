-- A token is fed: the notes fit the scans of the tokens that wait again.
use Rattle.std.proofs.Common.{◌≡◌, ℕ, suc, ◌+◌, ◌-◌, ◌≤◌, ◌%◌, ◌^◌, min, List, [], ◌∷◌, ◌++◌, map, length, refl, sym, ap, subst, arith}
use Rattle.lay_layout.specs.declared.layout.Tok.{Tok}
use Rattle.lay_layout.specs.declared.layout.Tok.TheVariants as tok
use Rattle.lay_queue.specs.declared.close.Note.{Note}
use Rattle.lay_queue.specs.Scan.{Scan, cap}
use Rattle.lay_queue.specs.Notes.{scans}
use Rattle.lay_queue.proofs.Fitting.{EachFits}
use Rattle.lay_queue.proofs.Advancing.{grow, deepen, leave}
use Rattle.lay_queue.proofs.WriteBack.{scans_append, fits_grow, fits_deepen, fits_leave, fits_still, fits_push}

length_scans_of : (w : List Tok) → length (scans w) ≡ length w
length_scans_of [] = refl
length_scans_of (t ∷ w) = ap suc (length_scans_of w)

length_deepen : (cs : List Scan) → length (map deepen cs) ≡ length cs
length_deepen [] = refl
length_deepen (c ∷ cs) = ap suc (length_deepen cs)

pub fed_text : (i acc cur : ℕ) (w : List Tok) (t : List ℕ) (ms : List Note) → EachFits i acc cur cur (scans w) ms →
    EachFits i (min (acc + length t) cap) cur cur (scans (w ++ tok.Text t ∷ [])) ms
fed_text i acc cur w t ms h =
    subst (λ (x : List Scan). EachFits i (min (acc + length t) cap) cur cur x ms) (sym (scans_append w (tok.Text t)))
    (fits_still i (min (acc + length t) cap) cur cur (length t) (map (grow (length t)) (scans w)) ms (fits_grow i acc cur cur (length t) (scans w) ms h))

pub fed_begin : (i acc cur : ℕ) (w : List Tok) (c : _) (o : _) (ms : List Note) → acc ≤ cap → EachFits i acc cur cur (scans w) ms →
    EachFits i 0 (cur + 1) (cur + 1) (scans (w ++ tok.Begin c o ∷ [])) (ms ++ record { number = (i + length w) % 2 ^ 64; level = cur; delta = acc } ∷ [])
fed_begin i acc cur w c o ms q h =
    let note : Note = record { number = (i + length w) % 2 ^ 64; level = cur; delta = acc } in
    subst (λ (x : List Scan). EachFits i 0 (cur + 1) (cur + 1) x (ms ++ note ∷ [])) (sym (scans_append w (tok.Begin c o)))
    (fits_push i acc cur (cur + 1) 0 1 0 (cur + 1) note (map deepen (scans w)) ms
    (ap (λ (x : ℕ). x % 2 ^ 64) (let e : i + length w ≡ i + length (map deepen (scans w)) = omega (arith, length_deepen (scans w), length_scans_of w) in e)) (omega arith) (omega arith) (omega arith) (omega arith)
    (fits_deepen i acc cur cur (scans w) ms (omega arith) h))

pub fed_end : (i acc cur : ℕ) (w : List Tok) (ms : List Note) → EachFits i acc cur cur (scans w) ms →
    EachFits i acc (cur - 1) (cur - 1) (scans (w ++ tok.End ∷ [])) ms
fed_end i acc cur w ms h =
    let e : min cur (cur - 1) ≡ cur - 1 = omega arith in
    subst (λ (x : List Scan). EachFits i acc (cur - 1) (cur - 1) x ms) (sym (scans_append w tok.End))
    (fits_still i acc (cur - 1) (cur - 1) 0 (map leave (scans w)) ms
    (subst (λ (x : ℕ). EachFits i acc x (cur - 1) (map leave (scans w)) ms) e (fits_leave i acc cur cur (scans w) ms h)))
