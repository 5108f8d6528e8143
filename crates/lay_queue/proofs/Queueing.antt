-- What is kept fits the tokens that wait again, when a token is fed or no more come.
use Rattle.std.proofs.Common.{pos, ◌≡◌, ℕ, zero, suc, ◌+◌, ◌-◌, ◌<◌, ◌≤◌, ◌%◌, ◌^◌, min, Bool, true, false, Some, drop, List, [], ◌∷◌, ◌++◌, map, length, refl, sym, ap, ap₂, ◌∙◌, subst, length-append, arith}
use Rattle.lay_layout.specs.declared.layout.Break.{Break}
use Rattle.lay_layout.specs.declared.layout.Tok.{Tok}
use Rattle.lay_layout.specs.declared.layout.Tok.TheVariants as tok
use Rattle.lay_layout.specs.Document.{width_of_break}
use Rattle.lay_ring.specs.Held.{Held}
use Rattle.lay_ring.specs.Rows.{IsFirst, IsRun, bytes_in, entry_of, text_bytes}
use Rattle.lay_ring.specs.declared.row.LentEntry.{LentEntry}
use Rattle.lay_ring.specs.declared.entry.Size.{Size}
use Rattle.lay_ring.specs.declared.entry.Size.TheVariants.{Unknown, Known}
use Rattle.lay_ring.specs.declared.entry.Entry.{Entry}
use Rattle.lay_queue.specs.declared.close.Note.{Note}
use Rattle.lay_queue.specs.Scan.{Scan, Stopped, Going, at_end, size_of_scan, scan_of, waiting, text_length, cap}
use Rattle.lay_queue.specs.Notes.{scans, stop, Fits}
use Rattle.lay_queue.proofs.Fitting.{EachFits, each_fits, all_fit}
use Rattle.lay_queue.proofs.Advancing.{advance}
use Rattle.lay_queue.specs.Closed.{Left, Closed, toks_of, sizes_of}
use Rattle.lay_queue.specs.Entries.{notes_after}
use Rattle.lay_queue.proofs.WriteBack.{scans_append, fed_break}
use Rattle.lay_queue.proofs.Feeding.{fed_text, fed_begin, fed_end}

-- What is kept fits the tokens that wait. ended: no more tokens come.
pub record Good (ended : Bool) (ring : Held) (notes : List Note) (acc groups wait : ℕ) : Type 0 where
  pub sizes : sizes_of ring.entries ≡ map size_of_scan (map (at_end ended) (scans (toks_of ring.entries)))
  pub fits : Fits ring.first acc groups groups (map (at_end ended) (scans (toks_of ring.entries))) notes
  pub acc_small : acc ≤ cap
  pub wait_is : wait ≡ waiting ring.entries
  pub number : ring.first < 2 ^ 64
  pub held : length ring.entries ≤ 2 ^ 63

at_end_false : (cs : List Scan) → map (at_end false) cs ≡ cs
at_end_false [] = refl
at_end_false (c ∷ cs) = ap (λ (x : List Scan). c ∷ x) (at_end_false cs)

pub toks_more : (es : List Entry) (e : Entry) → toks_of (es ++ e ∷ []) ≡ toks_of es ++ e.tok ∷ []
toks_more [] e = refl
toks_more (x ∷ es) e = ap (λ (y : List Tok). x.tok ∷ y) (toks_more es e)

sizes_more : (es : List Entry) (e : Entry) → sizes_of (es ++ e ∷ []) ≡ sizes_of es ++ e.size ∷ []
sizes_more [] e = refl
sizes_more (x ∷ es) e = ap (λ (y : List Size). x.size ∷ y) (sizes_more es e)

waiting_more : (es : List Entry) (e : Entry) → waiting (es ++ e ∷ []) ≡ waiting es + text_length e.tok
waiting_more [] e = omega arith
waiting_more (x ∷ es) e = omega (arith, waiting_more es e)

pub length_more : (es : List Entry) (e : Entry) → length (es ++ e ∷ []) ≡ length es + 1
length_more [] e = refl
length_more (x ∷ es) e = omega (arith, length_more es e)

pub length_toks : (es : List Entry) → length (toks_of es) ≡ length es
length_toks [] = refl
length_toks (e ∷ es) = ap suc (length_toks es)

map_map : (f : Scan → Scan) (cs : List Scan) → ((c : Scan) → size_of_scan (f c) ≡ size_of_scan c) → map size_of_scan (map f cs) ≡ map size_of_scan cs
map_map f [] h = refl
map_map f (c ∷ cs) h = ap₂ (λ (x : Size) (xs : List Size). x ∷ xs) (h c) (map_map f cs h)

map_append : (a b : List Scan) → map size_of_scan (a ++ b) ≡ map size_of_scan a ++ map size_of_scan b
map_append [] b = refl
map_append (x ∷ a) b = ap (λ (y : List Size). size_of_scan x ∷ y) (map_append a b)

sizes_fed : (x : Tok) (w : List Tok) → ((c : Scan) → size_of_scan (advance x c) ≡ size_of_scan c) → map size_of_scan (scans (w ++ x ∷ [])) ≡ map size_of_scan (scans w) ++ size_of_scan (scan_of x []) ∷ []
sizes_fed x w h = ap (λ (y : List Scan). map size_of_scan y) (scans_append w x) ∙ map_append (map (advance x) (scans w)) (scan_of x [] ∷ [])
    ∙ ap (λ (y : List Size). y ++ size_of_scan (scan_of x []) ∷ []) (map_map (advance x) (scans w) h)

same_text : (t : List ℕ) (c : Scan) → size_of_scan (advance (tok.Text t) c) ≡ size_of_scan c
same_text t (Stopped n) = refl
same_text t (Going n d) = refl

same_begin : (k : _) (o : _) (c : Scan) → size_of_scan (advance (tok.Begin k o) c) ≡ size_of_scan c
same_begin k o (Stopped n) = refl
same_begin k o (Going n d) = refl

same_end : (c : Scan) → size_of_scan (advance tok.End c) ≡ size_of_scan c
same_end (Stopped n) = refl
same_end (Going n d) = refl

-- the sizes with one more entry
sizes_with : (es es' : List Entry) (e : Entry) → es' ≡ es ++ e ∷ [] → sizes_of es ≡ map size_of_scan (map (at_end false) (scans (toks_of es))) →
    map size_of_scan (scans (toks_of es ++ e.tok ∷ [])) ≡ map size_of_scan (scans (toks_of es)) ++ e.size ∷ [] →
    sizes_of es' ≡ map size_of_scan (map (at_end false) (scans (toks_of es')))
sizes_with es es' e a h k =
    let w = toks_of es in
    ap sizes_of a ∙ sizes_more es e ∙ ap (λ (y : List Size). y ++ e.size ∷ []) (h ∙ ap (λ (y : List Scan). map size_of_scan y) (at_end_false (scans w)))
    ∙ sym k ∙ ap (λ (y : List Tok). map size_of_scan (scans y)) (sym (toks_more es e) ∙ ap toks_of (sym a))
    ∙ ap (λ (y : List Scan). map size_of_scan y) (sym (at_end_false (scans (toks_of es'))))

fits_with : (i acc low cur : ℕ) (es es' : List Entry) (e : Entry) (ms : List Note) → es' ≡ es ++ e ∷ [] → EachFits i acc low cur (scans (toks_of es ++ e.tok ∷ [])) ms →
    EachFits i acc low cur (map (at_end false) (scans (toks_of es'))) ms
fits_with i acc low cur es es' e ms a h =
    subst (λ (y : List Scan). EachFits i acc low cur y ms) (sym (at_end_false (scans (toks_of es'))))
    (subst (λ (y : List Tok). EachFits i acc low cur (scans y) ms) (sym (toks_more es e) ∙ ap toks_of (sym a)) h)

plain_fits : (i acc low cur : ℕ) (w : List Tok) (ms : List Note) → Fits i acc low cur (map (at_end false) (scans w)) ms → EachFits i acc low cur (scans w) ms
plain_fits i acc low cur w ms h =
    subst (λ (y : List Scan). EachFits i acc low cur y ms) (at_end_false (scans w)) (each_fits i acc low cur (map (at_end false) (scans w)) ms h)

-- the sizes with one text more
pub sizes_text : (es : List Entry) (t : List ℕ) → sizes_of es ≡ map size_of_scan (map (at_end false) (scans (toks_of es))) →
    sizes_of (es ++ record { tok = tok.Text t; size = Known (pos (min (length t) cap)) } ∷ []) ≡ map size_of_scan (map (at_end false) (scans (toks_of (es ++ record { tok = tok.Text t; size = Known (pos (min (length t) cap)) } ∷ []))))
sizes_text es t h = sizes_with es (es ++ record { tok = tok.Text t; size = Known (pos (min (length t) cap)) } ∷ []) (record { tok = tok.Text t; size = Known (pos (min (length t) cap)) }) refl h (sizes_fed (tok.Text t) (toks_of es) (same_text t))

pub good_text : (x : Bool) (r r' : Held) (ms : List Note) (acc acc' g wait wait' : ℕ) (t : List ℕ) (z : Size) → x ≡ false → Good x r ms acc g wait →
    z ≡ Known (pos (min (length t) cap)) → r'.entries ≡ r.entries ++ record { tok = tok.Text t; size = z } ∷ [] → r'.first ≡ r.first → length r.entries < 2 ^ 63 →
    acc' ≡ min (acc + length t) cap → wait' ≡ wait + length t → Good x r' ms acc' g wait'
good_text true r r' ms acc acc' g wait wait' t z b h s e f n a k = cc
good_text false r r' ms acc acc' g wait wait' t z b h s e f n a k =
    let x : Entry = record { tok = tok.Text t; size = z } in
    record {
      sizes = sizes_with r.entries r'.entries x e h.sizes (sizes_fed (tok.Text t) (toks_of r.entries) (same_text t) ∙ ap (λ (y : Size). map size_of_scan (scans (toks_of r.entries)) ++ y ∷ []) (sym s));
      fits = all_fit r'.first acc' g g (map (at_end false) (scans (toks_of r'.entries))) ms (subst (λ (i : ℕ). EachFits i acc' g g (map (at_end false) (scans (toks_of r'.entries))) ms) (sym f)
          (fits_with r.first acc' g g r.entries r'.entries x ms e (subst (λ (i : ℕ). EachFits r.first i g g (scans (toks_of r.entries ++ tok.Text t ∷ [])) ms) (sym a)
          (fed_text r.first acc g (toks_of r.entries) t ms (plain_fits r.first acc g g (toks_of r.entries) ms h.fits)))));
      acc_small = omega arith;
      wait_is = omega (arith, h.wait_is, ap waiting e, waiting_more r.entries x);
      number = omega (arith, h.number);
      held = omega (arith, ap length e, length_more r.entries x);
    }

pub good_begin : (x : Bool) (r r' : Held) (ms ms' : List Note) (acc g g' wait number : ℕ) (k : _) (o : _) → x ≡ false → Good x r ms acc g wait →
    r'.entries ≡ r.entries ++ record { tok = tok.Begin k o; size = Unknown } ∷ [] → r'.first ≡ r.first → length r.entries < 2 ^ 63 →
    number ≡ (r.first + length r.entries) % 2 ^ 64 → ms' ≡ ms ++ record { number = number; level = g; delta = acc } ∷ [] → g' ≡ g + 1 → Good x r' ms' 0 g' wait
good_begin true r r' ms ms' acc g g' wait number k o b h e f n u m l = cc
good_begin false r r' ms ms' acc g g' wait number k o b h e f n u m l =
    let x : Entry = record { tok = tok.Begin k o; size = Unknown } in
    let w = toks_of r.entries in
    let q : number ≡ (r.first + length w) % 2 ^ 64 = u ∙ ap (λ (j : ℕ). (r.first + j) % 2 ^ 64) (sym (length_toks r.entries)) in
    record {
      sizes = sizes_with r.entries r'.entries x e h.sizes (sizes_fed (tok.Begin k o) w (same_begin k o));
      fits = all_fit r'.first 0 g' g' (map (at_end false) (scans (toks_of r'.entries))) ms' (subst (λ (i : ℕ). EachFits i 0 g' g' (map (at_end false) (scans (toks_of r'.entries))) ms') (sym f)
          (subst (λ (j : ℕ). EachFits r.first 0 j j (map (at_end false) (scans (toks_of r'.entries))) ms') (sym l)
          (fits_with r.first 0 (g + 1) (g + 1) r.entries r'.entries x ms' e
          (subst (λ (y : List Note). EachFits r.first 0 (g + 1) (g + 1) (scans (w ++ tok.Begin k o ∷ [])) y) (ap (λ (j : ℕ). ms ++ record { number = j; level = g; delta = acc } ∷ []) (sym q) ∙ sym m)
          (fed_begin r.first acc g w k o ms h.acc_small (plain_fits r.first acc g g w ms h.fits))))));
      acc_small = omega arith;
      wait_is = omega (arith, h.wait_is, ap waiting e, waiting_more r.entries x);
      number = omega (arith, h.number);
      held = omega (arith, ap length e, length_more r.entries x);
    }

pub good_end : (x : Bool) (r r' : Held) (ms : List Note) (acc g g' wait : ℕ) (z : Size) → x ≡ false → Good x r ms acc g wait →
    z ≡ Known (pos 0) → r'.entries ≡ r.entries ++ record { tok = tok.End; size = z } ∷ [] → r'.first ≡ r.first → length r.entries < 2 ^ 63 →
    g' ≡ g - 1 → Good x r' ms acc g' wait
good_end true r r' ms acc g g' wait z b h s e f n l = cc
good_end false r r' ms acc g g' wait z b h s e f n l =
    let x : Entry = record { tok = tok.End; size = z } in
    let w = toks_of r.entries in
    record {
      sizes = sizes_with r.entries r'.entries x e h.sizes (sizes_fed tok.End w same_end ∙ ap (λ (y : Size). map size_of_scan (scans w) ++ y ∷ []) (sym s));
      fits = all_fit r'.first acc g' g' (map (at_end false) (scans (toks_of r'.entries))) ms (subst (λ (i : ℕ). EachFits i acc g' g' (map (at_end false) (scans (toks_of r'.entries))) ms) (sym f)
          (subst (λ (j : ℕ). EachFits r.first acc j j (map (at_end false) (scans (toks_of r'.entries))) ms) (sym l)
          (fits_with r.first acc (g - 1) (g - 1) r.entries r'.entries x ms e (fed_end r.first acc g w ms (plain_fits r.first acc g g w ms h.fits)))));
      acc_small = h.acc_small;
      wait_is = omega (arith, h.wait_is, ap waiting e, waiting_more r.entries x);
      number = omega (arith, h.number);
      held = omega (arith, ap length e, length_more r.entries x);
    }

-- the notes and sizes before a write-back
pub left_begin : (x : Bool) (r : Held) (ms : List Note) (acc g wait : ℕ) → x ≡ false → Good x r ms acc g wait → Left (toks_of r.entries) r.first acc g r.entries ms
left_begin true r ms acc g wait b h = cc
left_begin false r ms acc g wait b h = record {
  now = scans (toks_of r.entries);
  toks = refl;
  sizes = h.sizes ∙ ap (λ (y : List Scan). map size_of_scan y) (at_end_false (scans (toks_of r.entries)));
  stops = refl;
  fits = all_fit r.first acc g g (scans (toks_of r.entries)) ms (plain_fits r.first acc g g (toks_of r.entries) ms h.fits);
}

pub waiting_toks : (a b : List Entry) → toks_of a ≡ toks_of b → waiting a ≡ waiting b
waiting_toks [] [] h = refl
waiting_toks [] (y ∷ b) h = cc
waiting_toks (x ∷ a) [] h = cc
waiting_toks (x ∷ a) (y ∷ b) h =
    let t : x.tok ≡ y.tok = cc in
    let u : toks_of a ≡ toks_of b = cc in
    omega (arith, waiting_toks a b u, ap text_length t)

length_sizes : (es : List Entry) → length (sizes_of es) ≡ length es
length_sizes [] = refl
length_sizes (e ∷ es) = ap suc (length_sizes es)

length_scans : (cs : List Scan) → length (map size_of_scan cs) ≡ length cs
length_scans [] = refl
length_scans (c ∷ cs) = ap suc (length_scans cs)

pub length_same : (a b : List Entry) → toks_of a ≡ toks_of b → length a ≡ length b
length_same a b h = sym (length_toks a) ∙ ap length h ∙ length_toks b

-- r: before. s: after the write-back. r': with the break.
pub good_break : (x : Bool) (r s r' : Held) (ms ns ns' : List Note) (acc acc' delta g wait number : ℕ) (b : Break) → x ≡ false → Good x r ms acc g wait →
    Closed (toks_of r.entries) s.first delta g s.entries ns → delta ≤ cap →
    r'.entries ≡ s.entries ++ record { tok = tok.Break b; size = Unknown } ∷ [] → r'.first ≡ s.first → s.first ≡ r.first → length r.entries < 2 ^ 63 →
    number ≡ (s.first + length s.entries) % 2 ^ 64 → ns' ≡ ns ++ record { number = number; level = g; delta = delta } ∷ [] → acc' ≡ width_of_break b → acc' ≤ 0x1_0000 → Good x r' ns' acc' g wait
good_break true r s r' ms ns ns' acc acc' delta g wait number b z h k d e f o n u m l j = cc
good_break false r s r' ms ns ns' acc acc' delta g wait number b z h k d e f o n u m l j =
    let x : Entry = record { tok = tok.Break b; size = Unknown } in
    let w = toks_of r.entries in
    let F = fed_break s.first g delta w b k.left.now ns d k.left.stops k.none (each_fits s.first delta g g k.left.now ns k.left.fits) in
    let t : toks_of s.entries ≡ w = k.left.toks in
    let y : length s.entries ≡ length k.left.now = omega (arith, ap length k.left.sizes, length_sizes s.entries, length_scans k.left.now) in
    let q : number ≡ (s.first + length k.left.now) % 2 ^ 64 = u ∙ ap (λ (j : ℕ). (s.first + j) % 2 ^ 64) y in
    let v : acc' ≡ min (width_of_break b) cap = omega arith in
    let wt : toks_of r'.entries ≡ w ++ tok.Break b ∷ [] = ap toks_of e ∙ toks_more s.entries x ∙ ap (λ (y : List Tok). y ++ tok.Break b ∷ []) t in
    record {
      sizes = ap sizes_of e ∙ sizes_more s.entries x ∙ ap (λ (y : List Size). y ++ Unknown ∷ []) k.left.sizes ∙ sym F.sizes
          ∙ ap (λ (y : List Tok). map size_of_scan (scans y)) (sym wt) ∙ ap (λ (y : List Scan). map size_of_scan y) (sym (at_end_false (scans (toks_of r'.entries))));
      fits = all_fit r'.first acc' g g (map (at_end false) (scans (toks_of r'.entries))) ns' (subst (λ (i : ℕ). EachFits i acc' g g (map (at_end false) (scans (toks_of r'.entries))) ns') (sym f)
          (subst (λ (i : ℕ). EachFits s.first i g g (map (at_end false) (scans (toks_of r'.entries))) ns') (sym v)
          (subst (λ (y : List Scan). EachFits s.first (min (width_of_break b) cap) g g y ns') (sym (at_end_false (scans (toks_of r'.entries))))
          (subst (λ (y : List Tok). EachFits s.first (min (width_of_break b) cap) g g (scans y) ns') (sym wt)
          (subst (λ (y : List Note). EachFits s.first (min (width_of_break b) cap) g g (scans (w ++ tok.Break b ∷ [])) y)
          (ap (λ (i : ℕ). ns ++ record { number = i; level = g; delta = delta } ∷ []) (sym q) ∙ sym m) F.fits)))));
      acc_small = omega arith;
      wait_is = omega (arith, h.wait_is, ap waiting e, waiting_more s.entries x, waiting_toks s.entries r.entries t);
      number = omega (arith, h.number);
      held = omega (arith, ap length e, length_more s.entries x, length_same s.entries r.entries t);
    }

abbrev AllStopped : List Scan → Type 0
AllStopped [] = Unit {0}
AllStopped (Stopped n ∷ cs) = AllStopped cs
AllStopped (Going n d ∷ cs) = ⊥

all_stopped : (i acc : ℕ) (cs : List Scan) (ms : List Note) → EachFits i acc 0 0 cs ms → map stop cs ≡ cs → AllStopped cs
all_stopped i acc [] ms h e = tt
all_stopped i acc (Stopped n ∷ cs) ms h e = let k : map stop cs ≡ cs = cc in all_stopped (i + 1) acc cs ms h k
all_stopped i acc (Going n zero ∷ cs) ms h e = cc
all_stopped i acc (Going n (suc d) ∷ cs) [] h e = h
all_stopped i acc (Going n (suc d) ∷ cs) (m ∷ ms) h e = absurd (omega (arith, h.2))

ends_as : (cs now : List Scan) → AllStopped now → map stop cs ≡ now → map (at_end true) cs ≡ now
ends_as [] now a e = e
ends_as (c ∷ cs) [] a e = cc
ends_as (c ∷ cs) (Going n d ∷ now) a e = absurd a
ends_as (Stopped k ∷ cs) (Stopped n ∷ now) a e =
    let u : k ≡ n = cc in let v : map stop cs ≡ now = cc in ap₂ (λ (x : ℕ) (y : List Scan). Stopped x ∷ y) u (ends_as cs now a v)
ends_as (Going k zero ∷ cs) (Stopped n ∷ now) a e =
    let u : k ≡ n = cc in let v : map stop cs ≡ now = cc in ap₂ (λ (x : ℕ) (y : List Scan). Stopped x ∷ y) u (ends_as cs now a v)
ends_as (Going k (suc d) ∷ cs) (Stopped n ∷ now) a e = cc

pub good_ended : (x : Bool) (r s : Held) (ms ns : List Note) (acc acc' g wait : ℕ) → x ≡ false → Good x r ms acc g wait → g ≡ 0 →
    Closed (toks_of r.entries) s.first acc' 0 s.entries ns → acc' ≤ cap → s.first ≡ r.first → Good true s ns acc' g wait
good_ended true r s ms ns acc acc' g wait z h l k d n = cc
good_ended false r s ms ns acc acc' g wait z h l k d n =
    let f = each_fits s.first acc' 0 0 k.left.now ns k.left.fits in
    let a = all_stopped s.first acc' k.left.now ns f k.none in
    let t : toks_of s.entries ≡ toks_of r.entries = k.left.toks in
    let e : map (at_end true) (scans (toks_of s.entries)) ≡ k.left.now =
    ap (λ (y : List Tok). map (at_end true) (scans y)) t ∙ ends_as (scans (toks_of r.entries)) k.left.now a (sym k.left.stops ∙ k.none) in
    record {
      sizes = k.left.sizes ∙ ap (λ (y : List Scan). map size_of_scan y) (sym e);
      fits = all_fit s.first acc' g g (map (at_end true) (scans (toks_of s.entries))) ns (subst (λ (i : ℕ). EachFits s.first acc' i i (map (at_end true) (scans (toks_of s.entries))) ns) (sym l)
          (subst (λ (y : List Scan). EachFits s.first acc' 0 0 y ns) (sym e) f));
      acc_small = d;
      wait_is = omega (arith, h.wait_is, waiting_toks s.entries r.entries t);
      number = omega (arith, h.number);
      held = omega (arith, h.held, length_same s.entries r.entries t);
    }

-- numbers are told by what is left of them modulo 2^64
fits_modulo : (i j acc low cur : ℕ) (cs : List Scan) (ms : List Note) → i % 2 ^ 64 ≡ j % 2 ^ 64 → EachFits i acc low cur cs ms → EachFits j acc low cur cs ms
fits_modulo i j acc low cur [] [] e h = tt
fits_modulo i j acc low cur [] (m ∷ ms) e h = h
fits_modulo i j acc low cur (Stopped n ∷ cs) ms e h = fits_modulo (i + 1) (j + 1) acc low cur cs ms (omega arith) h
fits_modulo i j acc low cur (Going n d ∷ cs) [] e h = h
fits_modulo i j acc low cur (Going n d ∷ cs) (m ∷ ms) e h = (h.0 ∙ e, h.1, h.2, fits_modulo (i + 1) (j + 1) acc low cur cs ms (omega arith) h.3)

-- the notes after the first entry's, if it has one
fits_rest : (i acc g : ℕ) (c : Scan) (cs : List Scan) (z : Size) (ms : List Note) → z ≡ size_of_scan c → EachFits i acc g g (c ∷ cs) ms → EachFits (i + 1) acc g g cs (notes_after z ms)
fits_rest i acc g (Stopped n) cs z ms e h = subst (λ (y : Size). EachFits (i + 1) acc g g cs (notes_after y ms)) (sym e) h
fits_rest i acc g (Going n d) cs z [] e h = absurd h
fits_rest i acc g (Going n d) cs z (m ∷ ms) e h = subst (λ (y : Size). EachFits (i + 1) acc g g cs (notes_after y (m ∷ ms))) (sym e) h.3

-- the first entry is taken
pub good_pop : (x : Bool) (r r' : Held) (e : Entry) (ms ms' : List Note) (acc g wait wait' : ℕ) → Good x r ms acc g wait →
    r.entries ≡ e ∷ r'.entries → r'.first ≡ (r.first + 1) % 2 ^ 64 → ms' ≡ notes_after e.size ms → wait' ≡ wait - text_length e.tok → Good x r' ms' acc g wait'
good_pop x r r' e ms ms' acc g wait wait' h a f m l =
    let c = at_end x (scan_of e.tok (toks_of r'.entries)) in
    let cs = map (at_end x) (scans (toks_of r'.entries)) in
    let s : e.size ∷ sizes_of r'.entries ≡ size_of_scan c ∷ map size_of_scan cs =
    subst (λ (y : List Entry). sizes_of y ≡ map size_of_scan (map (at_end x) (scans (toks_of y)))) a h.sizes in
    let s0 : e.size ≡ size_of_scan c = cc in
    let k : EachFits r.first acc g g (c ∷ cs) ms = each_fits r.first acc g g (c ∷ cs) ms (subst (λ (y : List Entry). Fits r.first acc g g (map (at_end x) (scans (toks_of y))) ms) a h.fits) in
    record {
      sizes = cc;
      fits = all_fit r'.first acc g g cs ms' (subst (λ (y : List Note). EachFits r'.first acc g g cs y) (sym m) (fits_modulo (r.first + 1) r'.first acc g g cs (notes_after e.size ms) (omega arith) (fits_rest r.first acc g c cs e.size ms s0 k)));
      acc_small = h.acc_small;
      wait_is = omega (arith, h.wait_is, ap waiting a);
      number = omega arith;
      held = omega (arith, h.held, ap length a);
    }

pub front_is : (es : List Entry) (w : LentEntry) → IsFirst es (Some w) → es ≡ entry_of w.tok w.size ∷ drop 1 es
front_is [] w h = cc
front_is (e ∷ es) w h = ap₂ (λ (t : Tok) (z : Size). record { tok = t; size = z } ∷ es) (sym h.0) (sym h.1)

text_length_is : (t : Tok) → text_bytes t ≡ text_length t
text_length_is (tok.Text text) = refl
text_length_is (tok.Break b) = refl
text_length_is (tok.Begin c o) = refl
text_length_is tok.End = refl

pub text_size : (x : Bool) (text : List ℕ) (ts : List Tok) → size_of_scan (at_end x (scan_of (tok.Text text) ts)) ≡ Known (pos (min (length text) cap))
text_size true text ts = refl
text_size false text ts = refl

pub bytes_waiting : (es : List Entry) → bytes_in es ≡ waiting es
bytes_waiting [] = refl
bytes_waiting (e ∷ es) = ap₂ (λ (a b : ℕ). a + b) (text_length_is e.tok) (bytes_waiting es)

-- how much text waits after texts at the front
pub run_waiting : (count : ℕ) (es : List Entry) (bytes : List ℕ) → IsRun count es bytes → waiting (drop count es) + length bytes ≡ waiting es
run_waiting zero es bytes h = omega (arith, ap length h)
run_waiting (suc count) [] bytes h = absurd h
run_waiting (suc count) (e ∷ es) bytes h =
    omega (arith, run_waiting count es h.1 h.4, ap length h.3, length-append h.0 h.1, ap text_length h.2)

pub run_within : (count : ℕ) (es : List Entry) (bytes : List ℕ) → IsRun count es bytes → count ≤ length es
run_within zero es bytes h = omega arith
run_within (suc count) [] bytes h = absurd h
run_within (suc count) (e ∷ es) bytes h = omega (arith, run_within count es h.1 h.4)

-- a text has no note
text_known : (x : Bool) (t : Tok) (text : List ℕ) (ts : List Tok) (z : Size) (ms : List Note) → t ≡ tok.Text text → z ≡ size_of_scan (at_end x (scan_of t ts)) → ms ≡ notes_after z ms
text_known x t text ts z ms e h =
    ap (λ (y : Size). notes_after y ms) (sym (h ∙ ap (λ (y : Tok). size_of_scan (at_end x (scan_of y ts))) e ∙ text_size x text ts))

next_number : (f count : ℕ) → (f + suc count) % 2 ^ 64 ≡ ((f + 1) % 2 ^ 64 + count) % 2 ^ 64
next_number f count = omega arith

same_first : (f f' : ℕ) → f < 2 ^ 64 → f' ≡ (f + 0) % 2 ^ 64 → f' ≡ f
same_first f f' l e = omega arith

texts_taken : (count : ℕ) (x : Bool) (es : List Entry) (f s : ℕ) (r' : Held) (ms : List Note) (acc g wait : ℕ) (bytes : List ℕ) → Good x (record { entries = es; first = f; spare = s }) ms acc g wait →
    IsRun count es bytes → r'.entries ≡ drop count es → r'.first ≡ (f + count) % 2 ^ 64 → Good x r' ms acc g (wait - length bytes)
texts_taken zero x es f s r' ms acc g wait bytes h n a b =
    let e : r'.first ≡ f = same_first f r'.first h.number b in
    record {
      sizes = subst (λ (y : List Entry). sizes_of y ≡ map size_of_scan (map (at_end x) (scans (toks_of y)))) (sym a) h.sizes;
      fits = subst (λ (i : ℕ). Fits i acc g g (map (at_end x) (scans (toks_of r'.entries))) ms) (sym e) (subst (λ (y : List Entry). Fits f acc g g (map (at_end x) (scans (toks_of y))) ms) (sym a) h.fits);
      acc_small = h.acc_small;
      wait_is = omega (arith, h.wait_is, ap waiting a, ap length n);
      number = omega (arith, h.number, e);
      held = omega (arith, h.held, ap length a);
    }
texts_taken (suc count) x [] f s r' ms acc g wait bytes h n a b = absurd n
texts_taken (suc count) x (e ∷ es) f s r' ms acc g wait bytes h n a b =
    let m : Held = record { entries = es; first = (f + 1) % 2 ^ 64; spare = s } in
    let z : e.size ∷ sizes_of es ≡ size_of_scan (at_end x (scan_of e.tok (toks_of es))) ∷ map size_of_scan (map (at_end x) (scans (toks_of es))) = h.sizes in
    let z0 : e.size ≡ size_of_scan (at_end x (scan_of e.tok (toks_of es))) = cc in
    let k = good_pop x (record { entries = e ∷ es; first = f; spare = s }) m e ms ms acc g wait (wait - text_length e.tok) h refl refl (text_known x e.tok n.0 (toks_of es) e.size ms n.2 z0) refl in
    let l : r'.first ≡ ((f + 1) % 2 ^ 64 + count) % 2 ^ 64 = b ∙ next_number f count in
    let w : wait - text_length e.tok - length n.1 ≡ wait - length bytes = omega (arith, ap text_length n.2, ap length n.3, length-append n.0 n.1) in
    subst (λ (i : ℕ). Good x r' ms acc g i) w (texts_taken count x es ((f + 1) % 2 ^ 64) s r' ms acc g (wait - text_length e.tok) n.1 k n.4 a l)

-- texts at the front are taken
pub good_texts : (count : ℕ) (x : Bool) (r r' : Held) (ms : List Note) (acc g wait : ℕ) (bytes : List ℕ) → Good x r ms acc g wait →
    IsRun count r.entries bytes → r'.entries ≡ drop count r.entries → r'.first ≡ (r.first + count) % 2 ^ 64 → Good x r' ms acc g (wait - length bytes)
good_texts count x r r' ms acc g wait bytes h n a b = texts_taken count x r.entries r.first r.spare r' ms acc g wait bytes h n a b
