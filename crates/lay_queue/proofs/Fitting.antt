-- What notes tell, one at a time.
use Rattle.std.proofs.Common.{◌≡◌, ℕ, ◌+◌, ◌-◌, ◌%◌, ◌^◌, min, List, [], ◌∷◌, refl, sym, ap}
use Rattle.lay_queue.specs.declared.close.Note.{Note}
use Rattle.lay_queue.specs.Scan.{Scan, Stopped, Going, cap}
use Rattle.lay_queue.specs.Notes.{acc_of, low_of, going, noted, Fits}

-- Each note is that of a scan that goes on, where i is the first number, modulo 2^64, and cur groups are open.
abbrev pub EachFits : (i acc low cur : ℕ) → List Scan → List Note → Type 0
EachFits i acc low cur [] [] = Unit {0}
EachFits i acc low cur [] (m ∷ ms) = ⊥
EachFits i acc low cur (Stopped n ∷ cs) ms = EachFits (i + 1) acc low cur cs ms
EachFits i acc low cur (Going n d ∷ cs) [] = ⊥
EachFits i acc low cur (Going n d ∷ cs) (m ∷ ms) =
    (m.number ≡ i % 2 ^ 64) × (min n cap ≡ acc_of acc ms) × (d ≡ cur - low_of low (m ∷ ms))
    × EachFits (i + 1) acc low cur cs ms

pub each_fits : (i acc low cur : ℕ) (cs : List Scan) (ms : List Note) → Fits i acc low cur cs ms → EachFits i acc low cur cs ms
each_fits i acc low cur [] [] h = tt
each_fits i acc low cur [] (m ∷ ms) h = cc
each_fits i acc low cur (Stopped n ∷ cs) ms h = each_fits (i + 1) acc low cur cs ms h
each_fits i acc low cur (Going n d ∷ cs) [] h = cc
each_fits i acc low cur (Going n d ∷ cs) (m ∷ ms) h =
    let r : Fits (i + 1) acc low cur cs ms = cc in
    let p : (i % 2 ^ 64, min n cap, d) ≡ (m.number, acc_of acc ms, cur - low_of low (m ∷ ms)) = cc in
    let a : m.number ≡ i % 2 ^ 64 = sym (ap (λ (x : ℕ × ℕ × ℕ). x.0) p) in
    let b : min n cap ≡ acc_of acc ms = ap (λ (x : ℕ × ℕ × ℕ). x.1) p in
    let c : d ≡ cur - low_of low (m ∷ ms) = ap (λ (x : ℕ × ℕ × ℕ). x.2) p in
    (a, b, c, each_fits (i + 1) acc low cur cs ms r)

pub all_fit : (i acc low cur : ℕ) (cs : List Scan) (ms : List Note) → EachFits i acc low cur cs ms → Fits i acc low cur cs ms
all_fit i acc low cur [] [] h = refl
all_fit i acc low cur [] (m ∷ ms) h = absurd h
all_fit i acc low cur (Stopped n ∷ cs) ms h = all_fit (i + 1) acc low cur cs ms h
all_fit i acc low cur (Going n d ∷ cs) [] h = absurd h
all_fit i acc low cur (Going n d ∷ cs) (m ∷ ms) h =
    let a : m.number ≡ i % 2 ^ 64 = h.0 in
    let b : min n cap ≡ acc_of acc ms = h.1 in
    let c : d ≡ cur - low_of low (m ∷ ms) = h.2 in
    let r : going (i + 1) cs ≡ noted acc low cur ms = all_fit (i + 1) acc low cur cs ms h.3 in
    cc
