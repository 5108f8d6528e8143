-- Sizes that are written back.
use Rattle.std.proofs.Common.{pos, ◌≡◌, ℕ, zero, suc, ◌+◌, ◌-◌, ◌<◌, ◌≤◌, ◌%◌, ◌^◌, min, List, [], ◌∷◌, ◌++◌, map, set, length, get_or, refl, sym, ap, ap₂, ◌∙◌, subst, arith}
use Rattle.lay_layout.specs.declared.layout.Tok.{Tok}
use Rattle.lay_layout.specs.declared.layout.Tok.TheVariants as tok
use Rattle.lay_layout.specs.Document.{width_of_break}
use Rattle.lay_layout.specs.Machine.{outer}
use Rattle.lay_ring.specs.declared.entry.Size.{Size}
use Rattle.lay_ring.specs.declared.entry.Size.TheVariants.{Unknown, Known}
use Rattle.lay_queue.specs.Scan.{Scan, Stopped, Going, widen, scan, scan_of, size_of_scan, cap}
use Rattle.lay_queue.specs.declared.close.Note.{Note}
use Rattle.lay_queue.specs.Notes.{scans, stop, acc_of, low_of}
use Rattle.lay_queue.proofs.Fitting.{EachFits}
use Rattle.lay_queue.proofs.Advancing.{grow, deepen, leave, advance}

-- one more token
widen_advance : (w : ℕ) (x : Tok) (c : Scan) → widen w (advance x c) ≡ advance x (widen w c)
widen_advance w (tok.Text t) (Stopped n) = refl
widen_advance w (tok.Text t) (Going n d) = ap (λ (k : ℕ). Going k d) (omega arith)
widen_advance w (tok.Break b) (Stopped n) = refl
widen_advance w (tok.Break b) (Going n zero) = refl
widen_advance w (tok.Break b) (Going n (suc d)) = ap (λ (k : ℕ). Going k (suc d)) (omega arith)
widen_advance w (tok.Begin o k) (Stopped n) = refl
widen_advance w (tok.Begin o k) (Going n d) = refl
widen_advance w tok.End (Stopped n) = refl
widen_advance w tok.End (Going n d) = refl

scan_one : (d : ℕ) (x : Tok) → scan d (x ∷ []) ≡ advance x (Going 0 d)
scan_one d (tok.Text t) = ap (λ (k : ℕ). Going k d) (omega arith)
scan_one zero (tok.Break b) = refl
scan_one (suc d) (tok.Break b) = ap (λ (k : ℕ). Going k (suc d)) (omega arith)
scan_one d (tok.Begin o k) = refl
scan_one d tok.End = refl

pub scan_append : (ts : List Tok) (d : ℕ) (x : Tok) → scan d (ts ++ x ∷ []) ≡ advance x (scan d ts)
scan_append [] d x = scan_one d x
scan_append (tok.Text t ∷ ts) d x = ap (widen (length t)) (scan_append ts d x) ∙ widen_advance (length t) x (scan d ts)
scan_append (tok.Break b ∷ ts) zero (tok.Text t) = refl
scan_append (tok.Break b ∷ ts) zero (tok.Break y) = refl
scan_append (tok.Break b ∷ ts) zero (tok.Begin o k) = refl
scan_append (tok.Break b ∷ ts) zero tok.End = refl
scan_append (tok.Break b ∷ ts) (suc d) x = ap (widen (width_of_break b)) (scan_append ts (suc d) x) ∙ widen_advance (width_of_break b) x (scan (suc d) ts)
scan_append (tok.Begin o k ∷ ts) d x = scan_append ts (suc d) x
scan_append (tok.End ∷ ts) d x = scan_append ts (outer d) x

stopped_stays : (n : ℕ) (x : Tok) → Stopped n ≡ advance x (Stopped n)
stopped_stays n (tok.Text t) = refl
stopped_stays n (tok.Break b) = refl
stopped_stays n (tok.Begin o k) = refl
stopped_stays n tok.End = refl

scan_of_append : (t : Tok) (ts : List Tok) (x : Tok) → scan_of t (ts ++ x ∷ []) ≡ advance x (scan_of t ts)
scan_of_append (tok.Text t) ts x = stopped_stays (length t) x
scan_of_append (tok.Break b) ts x = ap (widen (width_of_break b)) (scan_append ts 0 x) ∙ widen_advance (width_of_break b) x (scan 0 ts)
scan_of_append (tok.Begin o k) ts x = scan_append ts 1 x
scan_of_append tok.End ts x = stopped_stays 0 x

pub scans_append : (ts : List Tok) (x : Tok) → scans (ts ++ x ∷ []) ≡ map (advance x) (scans ts) ++ scan_of x [] ∷ []
scans_append [] x = refl
scans_append (t ∷ ts) x = ap₂ (λ (c : Scan) (cs : List Scan). c ∷ cs) (scan_of_append t ts x) (scans_append ts x)

-- the width since a note, after k more
acc_grow : (acc k : ℕ) (ms : List Note) → acc_of (min (acc + k) cap) ms ≡ min (acc_of acc ms + k) cap
acc_grow acc k [] = refl
acc_grow acc k (m ∷ ms) = omega (arith, acc_grow acc k ms)

pub fits_grow : (i acc low cur k : ℕ) (cs : List Scan) (ms : List Note) → EachFits i acc low cur cs ms → EachFits i (min (acc + k) cap) low cur (map (grow k) cs) ms
fits_grow i acc low cur k [] [] h = tt
fits_grow i acc low cur k [] (m ∷ ms) h = h
fits_grow i acc low cur k (Stopped n ∷ cs) ms h = fits_grow (i + 1) acc low cur k cs ms h
fits_grow i acc low cur k (Going n d ∷ cs) [] h = h
fits_grow i acc low cur k (Going n d ∷ cs) (m ∷ ms) h =
    let e : min n cap ≡ acc_of acc ms = h.1 in
    (h.0, omega (arith, acc_grow acc k ms), h.2, fits_grow (i + 1) acc low cur k cs ms h.3)

low_le : (low : ℕ) (ms : List Note) → low_of low ms ≤ low
low_le low [] = omega arith
low_le low (m ∷ ms) = omega (arith, low_le low ms)

-- a group begins
pub fits_deepen : (i acc low cur : ℕ) (cs : List Scan) (ms : List Note) → low ≤ cur → EachFits i acc low cur cs ms → EachFits i acc low (cur + 1) (map deepen cs) ms
fits_deepen i acc low cur [] [] l h = tt
fits_deepen i acc low cur [] (m ∷ ms) l h = h
fits_deepen i acc low cur (Stopped n ∷ cs) ms l h = fits_deepen (i + 1) acc low cur cs ms l h
fits_deepen i acc low cur (Going n d ∷ cs) [] l h = h
fits_deepen i acc low cur (Going n d ∷ cs) (m ∷ ms) l h =
    let e : d ≡ cur - low_of low (m ∷ ms) = h.2 in
    (h.0, h.1, omega (arith, low_le low ms), fits_deepen (i + 1) acc low cur cs ms l h.3)

pub outer_is : (d : ℕ) → outer d ≡ d - 1
outer_is zero = refl
outer_is (suc d) = omega arith

low_min : (low k : ℕ) (ms : List Note) → low_of (min low k) ms ≡ min (low_of low ms) k
low_min low k [] = refl
low_min low k (m ∷ ms) = omega (arith, low_min low k ms)

-- a group ends
pub fits_leave : (i acc low cur : ℕ) (cs : List Scan) (ms : List Note) → EachFits i acc low cur cs ms → EachFits i acc (min low (cur - 1)) (cur - 1) (map leave cs) ms
fits_leave i acc low cur [] [] h = tt
fits_leave i acc low cur [] (m ∷ ms) h = h
fits_leave i acc low cur (Stopped n ∷ cs) ms h = fits_leave (i + 1) acc low cur cs ms h
fits_leave i acc low cur (Going n d ∷ cs) [] h = h
fits_leave i acc low cur (Going n d ∷ cs) (m ∷ ms) h =
    let e : d ≡ cur - low_of low (m ∷ ms) = h.2 in
    (h.0, h.1, omega (arith, outer_is d, low_min low (cur - 1) ms), fits_leave (i + 1) acc low cur cs ms h.3)

acc_append : (acc : ℕ) (ms : List Note) (m : Note) → acc_of acc (ms ++ m ∷ []) ≡ acc_of (min (acc + m.delta) cap) ms
acc_append acc [] m = refl
acc_append acc (k ∷ ms) m = ap (λ (a : ℕ). min (a + k.delta) cap) (acc_append acc ms m)

low_append : (low : ℕ) (ms : List Note) (m : Note) → low_of low (ms ++ m ∷ []) ≡ low_of (min m.level low) ms
low_append low [] m = refl
low_append low (k ∷ ms) m = ap (λ (a : ℕ). min k.level a) (low_append low ms m)

-- an entry that has its size is added
pub fits_still : (i acc low cur n : ℕ) (cs : List Scan) (ms : List Note) → EachFits i acc low cur cs ms → EachFits i acc low cur (cs ++ Stopped n ∷ []) ms
fits_still i acc low cur n [] [] h = tt
fits_still i acc low cur n [] (m ∷ ms) h = h
fits_still i acc low cur n (Stopped k ∷ cs) ms h = fits_still (i + 1) acc low cur n cs ms h
fits_still i acc low cur n (Going k d ∷ cs) [] h = h
fits_still i acc low cur n (Going k d ∷ cs) (m ∷ ms) h = (h.0, h.1, h.2, fits_still (i + 1) acc low cur n cs ms h.3)

same_number : (i j : ℕ) → i ≡ j → i % 2 ^ 64 ≡ j % 2 ^ 64
same_number i j e = ap (λ (x : ℕ). x % 2 ^ 64) e

-- an entry that has no size yet is added, with its note
pub fits_push : (i acc low cur n d acc' low' : ℕ) (m : Note) (cs : List Scan) (ms : List Note) →
    m.number ≡ (i + length cs) % 2 ^ 64 → min n cap ≡ acc' → d ≡ cur - min m.level low' → acc ≡ min (acc' + m.delta) cap → low ≡ min m.level low' →
    EachFits i acc low cur cs ms → EachFits i acc' low' cur (cs ++ Going n d ∷ []) (ms ++ m ∷ [])
fits_push i acc low cur n d acc' low' m [] [] p q r s t h = (p ∙ same_number (i + 0) i (omega arith), q, r, tt)
fits_push i acc low cur n d acc' low' m [] (k ∷ ms) p q r s t h = absurd h
fits_push i acc low cur n d acc' low' m (Stopped k ∷ cs) ms p q r s t h = fits_push (i + 1) acc low cur n d acc' low' m cs ms (p ∙ same_number (i + suc (length cs)) (i + 1 + length cs) (omega arith)) q r s t h
fits_push i acc low cur n d acc' low' m (Going k e ∷ cs) [] p q r s t h = absurd h
fits_push i acc low cur n d acc' low' m (Going k e ∷ cs) (o ∷ ms) p q r s t h =
    let a : acc_of acc' (ms ++ m ∷ []) ≡ acc_of acc ms = acc_append acc' ms m ∙ ap (λ (x : ℕ). acc_of x ms) (sym s) in
    let b : low_of low' (ms ++ m ∷ []) ≡ low_of low ms = low_append low' ms m ∙ ap (λ (x : ℕ). low_of x ms) (sym t) in
    (h.0, h.1 ∙ sym a, h.2 ∙ ap (λ (x : ℕ). cur - min o.level x) (sym b), fits_push (i + 1) acc low cur n d acc' low' m cs ms (p ∙ same_number (i + suc (length cs)) (i + 1 + length cs) (omega arith)) q r s t h.3)

-- the newest note is popped and its entry's size written back
pub record Popped (i acc cur : ℕ) (cs : List Scan) (ms : List Note) (m : Note) : Type 0 where
  pub now : List Scan
  pub place : ℕ
  pub number_is : m.number ≡ (i + place) % 2 ^ 64
  pub within : place < length cs
  pub sizes : map size_of_scan now ≡ set (map size_of_scan cs) place (Known (pos acc))
  pub was : get_or (map size_of_scan cs) place (Known (pos 0)) ≡ Unknown
  pub stops : map stop now ≡ map stop cs
  pub fits : EachFits i (min (acc + m.delta) cap) cur cur now ms

low_stays : (level cur : ℕ) → cur ≤ level → min level cur ≡ cur
low_stays level cur l = omega arith

-- no scan goes on where there is no note
fits_none : (i acc low acc' low' cur : ℕ) (cs : List Scan) → EachFits i acc low cur cs [] → EachFits i acc' low' cur cs []
fits_none i acc low acc' low' cur [] h = tt
fits_none i acc low acc' low' cur (Stopped n ∷ cs) h = fits_none (i + 1) acc low acc' low' cur cs h
fits_none i acc low acc' low' cur (Going n d ∷ cs) h = h

pop_first : (i acc cur n d : ℕ) (cs : List Scan) (m : Note) → cur ≤ m.level → m.number ≡ i % 2 ^ 64 → min n cap ≡ acc → d ≡ cur - min m.level cur → EachFits (i + 1) acc cur cur cs [] → Popped i acc cur (Going n d ∷ cs) [] m
pop_first i acc cur n zero cs m l a b e h = record {
  now = Stopped n ∷ cs;
  place = 0;
  number_is = a ∙ same_number i (i + 0) (omega arith);
  within = omega arith;
  sizes = ap (λ (x : ℕ). Known (pos x) ∷ map size_of_scan cs) b;
  was = refl;
  stops = refl;
  fits = fits_none (i + 1) acc cur (min (acc + m.delta) cap) cur cur cs h;
}
pop_first i acc cur n (suc d) cs m l a b e h = absurd (omega arith)

pub pop : (i acc cur : ℕ) (cs : List Scan) (ms : List Note) (m : Note) → cur ≤ m.level → EachFits i acc cur cur cs (ms ++ m ∷ []) → Popped i acc cur cs ms m
pop i acc cur [] [] m l h = absurd h
pop i acc cur [] (k ∷ ms) m l h = absurd h
pop i acc cur (Stopped n ∷ cs) ms m l h =
    let p = pop (i + 1) acc cur cs ms m l h in
    record {
      now = Stopped n ∷ p.now;
      place = suc p.place;
      number_is = p.number_is ∙ same_number (i + 1 + p.place) (i + suc p.place) (omega arith);
      within = omega (arith, p.within);
      sizes = ap (λ (x : List Size). Known (pos (min n cap)) ∷ x) p.sizes;
      was = p.was;
      stops = ap (λ (x : List Scan). Stopped n ∷ x) p.stops;
      fits = p.fits;
    }
pop i acc cur (Going n d ∷ cs) [] m l h = pop_first i acc cur n d cs m l h.0 h.1 h.2 h.3
pop i acc cur (Going n d ∷ cs) (k ∷ ms) m l h =
    let p = pop (i + 1) acc cur cs ms m l h.3 in
    record {
      now = Going n d ∷ p.now;
      place = suc p.place;
      number_is = p.number_is ∙ same_number (i + 1 + p.place) (i + suc p.place) (omega arith);
      within = omega (arith, p.within);
      sizes = ap (λ (x : List Size). Unknown ∷ x) p.sizes;
      was = p.was;
      stops = ap (λ (x : List Scan). stop (Going n d) ∷ x) p.stops;
      fits = (h.0, h.1 ∙ acc_append acc ms m, h.2 ∙ ap (λ (x : ℕ). cur - min k.level x) (low_append cur ms m ∙ ap (λ (x : ℕ). low_of x ms) (low_stays m.level cur l)), p.fits);
    }

pub no_note : (i acc low cur : ℕ) (cs : List Scan) → EachFits i acc low cur cs [] → map stop cs ≡ cs
no_note i acc low cur [] h = refl
no_note i acc low cur (Stopped n ∷ cs) h = ap (λ (x : List Scan). Stopped n ∷ x) (no_note (i + 1) acc low cur cs h)
no_note i acc low cur (Going n d ∷ cs) h = absurd h

still : (n d : ℕ) (a b : List Scan) → 0 < d → a ≡ b → stop (Going n d) ∷ a ≡ Going n d ∷ b
still n zero a b l e = absurd (omega arith)
still n (suc d) a b l e = ap (λ (x : List Scan). Going n (suc d) ∷ x) e

-- where the newest note was made with fewer groups open than now, no more entry ends its measure here
pub none_stops : (i acc cur : ℕ) (cs : List Scan) (ms : List Note) (m : Note) → m.level < cur → EachFits i acc cur cur cs (ms ++ m ∷ []) → map stop cs ≡ cs
none_stops i acc cur [] ms m l h = refl
none_stops i acc cur (Stopped n ∷ cs) ms m l h = ap (λ (x : List Scan). Stopped n ∷ x) (none_stops (i + 1) acc cur cs ms m l h)
none_stops i acc cur (Going n d ∷ cs) [] m l h = still n d (map stop cs) cs (omega (arith, h.2)) (no_note (i + 1) acc cur cur cs h.3)
none_stops i acc cur (Going n d ∷ cs) (k ∷ ms) m l h =
    still n d (map stop cs) cs (omega (arith, h.2, low_append cur ms m, low_le (min m.level cur) ms)) (none_stops (i + 1) acc cur cs ms m l h.3)

size_grow : (k : ℕ) (cs : List Scan) → map size_of_scan (map (grow k) cs) ≡ map size_of_scan cs
size_grow k [] = refl
size_grow k (Stopped n ∷ cs) = ap (λ (x : List Size). Known (pos (min n cap)) ∷ x) (size_grow k cs)
size_grow k (Going n d ∷ cs) = ap (λ (x : List Size). Unknown ∷ x) (size_grow k cs)

map_two : (k : ℕ) (cs : List Scan) (f : Scan → Scan) → ((c : Scan) → f c ≡ grow k (stop c)) → map f cs ≡ map (grow k) (map stop cs)
map_two k [] f h = refl
map_two k (c ∷ cs) f h = ap₂ (λ (x : Scan) (xs : List Scan). x ∷ xs) (h c) (map_two k cs f h)

-- A break is fed: now is what the pops left of the scans. The sizes are those of the scans with the break,
-- and with a note of it the notes fit again.
pub record FedBreak (i cur : ℕ) (w : List Tok) (b : _) (now : List Scan) (acc : ℕ) (ms : List Note) : Type 0 where
  pub sizes : map size_of_scan (scans (w ++ tok.Break b ∷ [])) ≡ map size_of_scan now ++ Unknown ∷ []
  pub fits : EachFits i (min (width_of_break b) cap) cur cur (scans (w ++ tok.Break b ∷ [])) (ms ++ record { number = (i + length now) % 2 ^ 64; level = cur; delta = acc } ∷ [])

map_append : (f : Scan → Size) (a b : List Scan) → map f (a ++ b) ≡ map f a ++ map f b
map_append f [] b = refl
map_append f (x ∷ a) b = ap (λ (y : List Size). f x ∷ y) (map_append f a b)

length_grow : (k : ℕ) (cs : List Scan) → length (map (grow k) cs) ≡ length cs
length_grow k [] = refl
length_grow k (c ∷ cs) = ap suc (length_grow k cs)

pub fed_break : (i cur acc : ℕ) (w : List Tok) (b : _) (now : List Scan) (ms : List Note) → acc ≤ cap →
    map stop now ≡ map stop (scans w) → map stop now ≡ now → EachFits i acc cur cur now ms → FedBreak i cur w b now acc ms
fed_break i cur acc w b now ms q s t h =
    let k = width_of_break b in
    let e : scans (w ++ tok.Break b ∷ []) ≡ map (grow k) now ++ Going (k + 0) 0 ∷ [] =
    scans_append w (tok.Break b) ∙ ap (λ (x : List Scan). x ++ Going (k + 0) 0 ∷ []) (map_two k (scans w) (advance (tok.Break b)) (λ c. refl) ∙ ap (λ (x : List Scan). map (grow k) x) (sym s ∙ t)) in
    let g = fits_grow i acc cur cur k now ms h in
    let note : Note = record { number = (i + length now) % 2 ^ 64; level = cur; delta = acc } in
    record {
      sizes = ap (λ (x : List Scan). map size_of_scan x) e ∙ map_append size_of_scan (map (grow k) now) (Going (k + 0) 0 ∷ []) ∙ ap (λ (x : List Size). x ++ Unknown ∷ []) (size_grow k now);
      fits = subst (λ (x : List Scan). EachFits i (min k cap) cur cur x (ms ++ note ∷ [])) (sym e)
          (fits_push i (min (acc + k) cap) cur cur (k + 0) 0 (min k cap) cur note (map (grow k) now) ms (same_number (i + length now) (i + length (map (grow k) now)) (omega (arith, length_grow k now))) (omega arith) (omega arith) (omega arith) (omega arith) g);
    }
