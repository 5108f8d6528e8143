-- The loop that writes sizes back.
use Rattle.std.proofs.Common.{pos, ◌≡◌, ℕ, zero, suc, ◌+◌, ◌<◌, ◌≤◌, ◌%◌, ◌^◌, inl, inr, min, List, [], ◌∷◌, ◌++◌, map, set, get_or, length, refl, sym, ap, ◌∙◌, subst, arith}
use Rattle.lay_layout.specs.declared.layout.Tok.{Tok}
use Rattle.lay_ring.specs.declared.entry.Size.{Size}
use Rattle.lay_ring.specs.declared.entry.Size.TheVariants.{Unknown, Known}
use Rattle.lay_ring.specs.declared.entry.Entry.{Entry}
use Rattle.lay_ring.specs.Held.{place_of, sized_at, IsUnknownAt}
use Rattle.lay_queue.specs.declared.close.Note.{Note}
use Rattle.lay_queue.specs.Scan.{Scan, size_of_scan, cap}
use Rattle.lay_queue.proofs.Fitting.{EachFits, each_fits, all_fit}
use Rattle.lay_queue.specs.Closed.{Left, Closed, toks_of, sizes_of, NoteKept}
use Rattle.lay_queue.proofs.WriteBack.{Popped, pop, none_stops, no_note}

sizes_set : (es : List Entry) (i : ℕ) (z : Size) → sizes_of (sized_at es i z) ≡ set (sizes_of es) i z
sizes_set [] i z = refl
sizes_set (e ∷ es) zero z = refl
sizes_set (e ∷ es) (suc i) z = ap (λ (x : List Size). e.size ∷ x) (sizes_set es i z)

toks_set : (es : List Entry) (i : ℕ) (z : Size) → toks_of (sized_at es i z) ≡ toks_of es
toks_set [] i z = refl
toks_set (e ∷ es) zero z = refl
toks_set (e ∷ es) (suc i) z = ap (λ (x : List Tok). e.tok ∷ x) (toks_set es i z)

pub length_set : (es : List Entry) (i : ℕ) (z : Size) → length (sized_at es i z) ≡ length es
length_set [] i z = refl
length_set (e ∷ es) zero z = refl
length_set (e ∷ es) (suc i) z = ap suc (length_set es i z)

length_sizes : (es : List Entry) → length (sizes_of es) ≡ length es
length_sizes [] = refl
length_sizes (e ∷ es) = ap suc (length_sizes es)

length_scans : (cs : List Scan) → length (map size_of_scan cs) ≡ length cs
length_scans [] = refl
length_scans (c ∷ cs) = ap suc (length_scans cs)

-- the newest note names an entry
pub popped : {w : List Tok} {first acc cur : ℕ} {es : List Entry} {ms : List Note} (h : Left w first acc cur es ms) (ns : List Note) (m : Note) →
    ms ≡ ns ++ m ∷ [] → cur ≤ m.level → Popped first acc cur h.now ns m
popped {first} {acc} {cur} h ns m e l = pop first acc cur h.now ns m l (subst (λ (x : List Note). EachFits first acc cur cur h.now x) e (each_fits first acc cur cur h.now _ h.fits))

place_is : (first place number : ℕ) → first < 2 ^ 64 → place < 2 ^ 64 → number ≡ (first + place) % 2 ^ 64 → place_of first number ≡ place
place_is first place number f p e = omega arith

length_now : {w : List Tok} {first acc cur : ℕ} {es : List Entry} {ms : List Note} (h : Left w first acc cur es ms) → length h.now ≡ length es
length_now {es = es} h = omega (arith, ap length h.sizes, length_sizes es, length_scans h.now)

place_popped : {w : List Tok} {first acc cur : ℕ} {es : List Entry} {ms : List Note} (h : Left w first acc cur es ms) (ns : List Note) (m : Note) →
    (e : ms ≡ ns ++ m ∷ []) (l : cur ≤ m.level) → first < 2 ^ 64 → length es ≤ 2 ^ 63 → place_of first m.number ≡ (popped h ns m e l).place
place_popped {first = first} h ns m e l f g =
    let p = popped h ns m e l in
    place_is first p.place m.number f (omega (arith, p.within, length_now h)) p.number_is

unknown_at : (es : List Entry) (i : ℕ) → i < length es → get_or (sizes_of es) i (Known (pos 0)) ≡ Unknown → IsUnknownAt es i
unknown_at [] i l h = absurd (omega arith)
unknown_at (e ∷ es) zero l h = h
unknown_at (e ∷ es) (suc i) l h = unknown_at es i (omega arith) h

-- its size is unknown
pub place_unknown : {w : List Tok} {first acc cur : ℕ} {es : List Entry} {ms : List Note} (h : Left w first acc cur es ms) (ns : List Note) (m : Note) →
    ms ≡ ns ++ m ∷ [] → cur ≤ m.level → first < 2 ^ 64 → length es ≤ 2 ^ 63 → IsUnknownAt es (place_of first m.number)
place_unknown {es = es} h ns m e l f g =
    let p = popped h ns m e l in
    subst (λ (i : ℕ). IsUnknownAt es i) (sym (place_popped h ns m e l f g))
    (unknown_at es p.place (omega (arith, p.within, length_now h)) (ap (λ (x : List Size). get_or x p.place (Known (pos 0))) h.sizes ∙ p.was))

pub left_pop : {w : List Tok} {first acc cur : ℕ} {es : List Entry} {ms : List Note} (h : Left w first acc cur es ms) (ns : List Note) (m : Note) →
    ms ≡ ns ++ m ∷ [] → cur ≤ m.level → first < 2 ^ 64 → length es ≤ 2 ^ 63 → Left w first (min (acc + m.delta) cap) cur (sized_at es (place_of first m.number) (Known (pos acc))) ns
left_pop {w} {first} {acc} {cur} {es} h ns m e l f g =
    let p = popped h ns m e l in
    let i = place_of first m.number in
    record {
      now = p.now;
      toks = toks_set es i (Known (pos acc)) ∙ h.toks;
      sizes = sizes_set es i (Known (pos acc)) ∙ ap (λ (i : ℕ). set (sizes_of es) i (Known (pos acc))) (place_popped h ns m e l f g)
          ∙ ap (λ (x : List Size). set x p.place (Known (pos acc))) h.sizes ∙ sym p.sizes;
      stops = p.stops ∙ h.stops;
      fits = all_fit first (min (acc + m.delta) cap) cur cur p.now ns p.fits;
    }

pub closed : {w : List Tok} {first acc cur : ℕ} {es : List Entry} {ms : List Note} → Left w first acc cur es ms → NoteKept cur ms → Closed w first acc cur es ms
closed {first} {acc} {cur} h (inl e) = record { left = h; none = no_note first acc cur cur h.now (subst (λ (x : List Note). EachFits first acc cur cur h.now x) e (each_fits first acc cur cur h.now _ h.fits)) }
closed {first} {acc} {cur} h (inr b) = record { left = h; none = none_stops first acc cur h.now b.0 b.1 b.3 (subst (λ (x : List Note). EachFits first acc cur cur h.now x) b.2 (each_fits first acc cur cur h.now _ h.fits)) }

pub left_along : {w : List Tok} {first acc cur : ℕ} {es : List Entry} {ms : List Note} (first' acc' : ℕ) (es' : List Entry) →
    first' ≡ first → acc' ≡ acc → es' ≡ es → Left w first acc cur es ms → Left w first' acc' cur es' ms
left_along {w} {first} {acc} {cur} {es} {ms} first' acc' es' a b e h =
    subst (λ (x : ℕ). Left w x acc' cur es' ms) (sym a) (subst (λ (x : ℕ). Left w first x cur es' ms) (sym b) (subst (λ (x : List Entry). Left w first acc cur x ms) (sym e) h))
