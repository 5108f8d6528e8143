-- Each step of the printer keeps Holds.
use Rattle.std.proofs.Common.{pos, ◌≡◌, ℕ, zero, suc, ◌+◌, ◌<◌, ◌≤◌, min, Bool, true, false, List, [], ◌∷◌, ◌++◌, length, refl, sym, ap, ◌∙◌, append_assoc, append-nil, arith, lt-ltb}
use Rattle.std.proofs.lemmas.Bool.Decides.{nat_tests}
use Rattle.lay_layout.specs.Margins.{margin}
use Rattle.lay_layout.specs.declared.layout.Mark.{Mark}
use Rattle.lay_layout.specs.declared.layout.Mark.TheVariants.{Absent, Comma, OpenBrace, CloseBrace}
use Rattle.lay_layout.specs.declared.layout.Break.{Break}
use Rattle.lay_layout.specs.declared.layout.Frame.{Frame}
use Rattle.lay_layout.specs.declared.layout.Frame.TheVariants.{Flat, Broken}
use Rattle.lay_layout.specs.declared.layout.Tok.{Tok}
use Rattle.lay_layout.specs.declared.layout.Tok.TheVariants as tok
use Rattle.lay_layout.specs.Document.{State, width_of_break, over, put_mark, skip, newline, line, shift, break_by}
use Rattle.lay_layout.specs.Machine.{outer, reach, measure, play, step, act, Layout, begun, text, top}
use Rattle.lay_stream.proofs.Paging.{Grows}
use Rattle.lay_ring.specs.declared.entry.Size.{Size}
use Rattle.lay_ring.specs.declared.entry.Size.TheVariants.{Unknown, Known}
use Rattle.lay_ring.specs.declared.entry.Entry.{Entry}
use Rattle.lay_queue.specs.Entries.{least_width}
use Rattle.lay_queue.specs.Scan.{Scan, Stopped, Going, widen, scan, cap, size_of_scan, scan_of, sized, waiting, at_end}
use Rattle.lay_printer.specs.Queued.{MayFollow, Holds}

-- the measure, where r follows
abbrev pub with_rest : Scan → List Tok → ℕ
with_rest (Stopped n) r = n
with_rest (Going n d) r = n + reach d r

-- the size of a token that ts follow. ended: no more tokens come.
abbrev pub size_of : Bool → Tok → List Tok → Size
size_of ended t ts = size_of_scan (at_end ended (scan_of t ts))

with_rest_widen : (w : ℕ) (c : Scan) (r : List Tok) → with_rest (widen w c) r ≡ w + with_rest c r
with_rest_widen w (Stopped n) r = refl
with_rest_widen w (Going n d) r = omega arith

-- the measure is what the scan says, whatever follows
pub reach_scan : (ts : List Tok) (d : ℕ) (r : List Tok) → reach d (ts ++ r) ≡ with_rest (scan d ts) r
reach_scan [] d r = omega arith
reach_scan (tok.Text t ∷ ts) d r = omega (arith, reach_scan ts d r, with_rest_widen (length t) (scan d ts) r)
reach_scan (tok.Break b ∷ ts) zero r = refl
reach_scan (tok.Break b ∷ ts) (suc d) r = omega (arith, reach_scan ts (suc d) r, with_rest_widen (width_of_break b) (scan (suc d) ts) r)
reach_scan (tok.Begin c o ∷ ts) d r = reach_scan ts (suc d) r
reach_scan (tok.End ∷ ts) d r = reach_scan ts (outer d) r

-- printing one more token
pub play_more : (p : List Tok) (t : Tok) (rest : List Tok) (m : Layout) → play (p ++ t ∷ []) rest m ≡ step t rest (play p (t ∷ rest) m)
play_more [] t rest m = refl
play_more (x ∷ p) t rest m =
    let e = append_assoc p (t ∷ []) rest in
    ap (λ (ts : List Tok). play (p ++ t ∷ []) rest (step x ts m)) e ∙ play_more p t rest (step x (p ++ t ∷ rest) m)

pub measure_scan : (t : Tok) (ts r : List Tok) → measure t (ts ++ r) ≡ with_rest (scan_of t ts) r
measure_scan (tok.Text t) ts r = refl
measure_scan (tok.Break b) ts r = omega (arith, reach_scan ts 0 r, with_rest_widen (width_of_break b) (scan 0 ts) r)
measure_scan (tok.Begin c o) ts r = reach_scan ts 1 r
measure_scan tok.End ts r = refl

pub over_capped : (n : ℕ) (s : State) → s.room ≤ margin → over (min n cap) s ≡ over n s
over_capped n s h = grind (arith, nat_tests)

-- the space at the start of a line is at most the margin
room_mark : (k : Mark) (s : State) → (put_mark k s).room ≡ s.room
room_mark Absent s = refl
room_mark Comma s = refl
room_mark OpenBrace s = refl
room_mark CloseBrace s = refl

room_skip : (b : Break) (s : State) → (skip b s).room ≡ s.room
room_skip b s = room_mark b.instead _

room_newline : (b : Break) (i : ℕ) (s : State) → (newline b i s).room ≤ margin
room_newline b i s = omega (arith, room_mark b.after (line (shift i b.offset) (put_mark b.before s)))

room_brk : (v : Bool) (f : Frame) (b : Break) (big : Bool) (s : State) → s.room ≤ margin → (break_by v f b big s).room ≤ margin
room_brk true f b big s h = omega (arith, room_skip b s)
room_brk false Flat b big s h = omega (arith, room_skip b s)
room_brk false (Broken true i) b big s h = room_newline b i s
room_brk false (Broken false i) b true s h = room_newline b i s
room_brk false (Broken false i) b false s h = omega (arith, room_skip b s)

pub room_act : (t : Tok) (big : Bool) (m : Layout) → m.state.room ≤ margin → (act t big m).state.room ≤ margin
room_act (tok.Text t) big m h = h
room_act (tok.Break b) big m h = room_brk b.never (top m.frames) b big m.state h
room_act (tok.Begin c o) big m h = h
room_act tok.End big m h = h

-- printing the first token that waits, where its decision is the same whatever follows
print_shown : (e : Bool) (p : List Tok) (t : Tok) (ts : List Tok) (m : Layout) (big : Bool) →
    ((r : List Tok) → MayFollow e r → play p ((t ∷ ts) ++ r) begun ≡ m) →
    ((r : List Tok) → MayFollow e r → over (with_rest (scan_of t ts) r) m.state ≡ big) →
    (r : List Tok) → MayFollow e r → play (p ++ t ∷ []) (ts ++ r) begun ≡ act t big m
print_shown e p t ts m big h d r f =
    play_more p t (ts ++ r) begun
    ∙ ap (λ (l : Layout). step t (ts ++ r) l) (h r f)
    ∙ ap (λ (n : ℕ). act t (over n m.state) m) (measure_scan t ts r)
    ∙ ap (λ (b : Bool). act t b m) (d r f)

-- the tokens p are printed, and x with them: the others wait
held_on : (e : Bool) (s : List Tok) (t x : Tok) (ts : List Tok) (es : List Entry) (m : Layout) (p : List Tok) (big : Bool) → p ++ x ∷ ts ≡ s → x ≡ t → es ≡ sized e ts → m.state.room ≤ margin →
    ((r : List Tok) → MayFollow e r → play p ((x ∷ ts) ++ r) begun ≡ m) → ((r : List Tok) → MayFollow e r → over (with_rest (scan_of x ts) r) m.state ≡ big) → Holds e s es (act t big m)
held_on e s t x ts es m p big a k z q h d = record {
  printed = p ++ x ∷ [];
  waits = ts;
  all = append_assoc p (x ∷ []) ts ∙ a;
  are_sized = z;
  small = room_act t big m q;
  shown = λ r f. print_shown e p x ts m big h d r f ∙ ap (λ (y : Tok). act y big m) k;
}

capped_decides : (n k : ℕ) (s : State) → s.room ≤ margin → Known (pos k) ≡ Known (pos (min n cap)) → over n s ≡ over k s
capped_decides n k s h e =
    let q : k ≡ min n cap = cc in
    sym (ap (λ (x : ℕ). over x s) q ∙ over_capped n s h)

-- a known size decides
known_decides : (e : Bool) (c : Scan) (k : ℕ) (s : State) → s.room ≤ margin → Known (pos k) ≡ size_of_scan (at_end e c) → (r : List Tok) → MayFollow e r → over (with_rest c r) s ≡ over k s
known_decides false (Stopped n) k s h q r f = capped_decides n k s h q
known_decides false (Going n d) k s h q r f = cc
known_decides true (Stopped n) k s h q r f = capped_decides n k s h q
known_decides true (Going n d) k s h q r f = ap (λ (x : List Tok). over (n + reach d x) s) f ∙ ap (λ (x : ℕ). over x s) (let z : n + 0 ≡ n = omega arith in z) ∙ capped_decides n k s h q

print_known_at : (e : Bool) (s : List Tok) (t : Tok) (k : ℕ) (es : List Entry) (m : Layout) (p w : List Tok) →
    p ++ w ≡ s → record { tok = t; size = Known (pos k) } ∷ es ≡ sized e w → m.state.room ≤ margin →
    ((r : List Tok) → MayFollow e r → play p (w ++ r) begun ≡ m) → Holds e s es (act t (over k m.state) m)
print_known_at e s t k es m p [] a z q h = cc
print_known_at e s t k es m p (x ∷ ts) a z q h =
    let z0 : record { tok = t; size = Known (pos k) } ≡ record { tok = x; size = size_of e x ts } = cc in
    let zk = ap (λ (y : Entry). y.size) z0 in
    let zz : es ≡ sized e ts = cc in
    held_on e s t x ts es m p (over k m.state) a (sym (ap (λ (y : Entry). y.tok) z0)) zz q h (known_decides e (scan_of x ts) k m.state q zk)

-- the first entry has a known size: it is printed
pub print_known : (e : Bool) (s : List Tok) (t : Tok) (k : ℕ) (es : List Entry) (m : Layout) →
    Holds e s (record { tok = t; size = Known (pos k) } ∷ es) m → Holds e s es (act t (over k m.state) m)
print_known e s t k es m h = print_known_at e s t k es m h.printed h.waits h.all h.are_sized h.small h.shown

-- a measure that goes on is at least k already
abbrev AtLeast : Scan → ℕ → Type 0
AtLeast (Stopped n) k = Unit {0}
AtLeast (Going n d) k = k ≤ n

at_least_widen : (w : ℕ) (c : Scan) (k j : ℕ) → AtLeast c k → j ≤ w + k → AtLeast (widen w c) j
at_least_widen w (Stopped n) k j h l = tt
at_least_widen w (Going n d) k j h l = omega arith

at_least_le : (c : Scan) (k j : ℕ) → AtLeast c k → j ≤ k → AtLeast c j
at_least_le (Stopped n) k j h l = tt
at_least_le (Going n d) k j h l = omega arith

-- the texts of tokens that wait are part of a measure that goes on
texts_going : (ts : List Tok) (d : ℕ) → AtLeast (scan d ts) (waiting (sized false ts))
texts_going [] d = omega arith
texts_going (tok.Text t ∷ ts) d = at_least_widen (length t) (scan d ts) (waiting (sized false ts)) (waiting (sized false (tok.Text t ∷ ts))) (texts_going ts d) (omega arith)
texts_going (tok.Break b ∷ ts) zero = tt
texts_going (tok.Break b ∷ ts) (suc d) = at_least_widen (width_of_break b) (scan (suc d) ts) (waiting (sized false ts)) (waiting (sized false (tok.Break b ∷ ts))) (texts_going ts (suc d)) (omega arith)
texts_going (tok.Begin c o ∷ ts) d = at_least_le (scan (suc d) ts) (waiting (sized false ts)) _ (texts_going ts (suc d)) (omega arith)
texts_going (tok.End ∷ ts) d = at_least_le (scan (outer d) ts) (waiting (sized false ts)) _ (texts_going ts (outer d)) (omega arith)

-- so are those of an entry whose size isn't known and of what waits after it, and its own width
texts_unknown : (t : Tok) (ts : List Tok) → AtLeast (scan_of t ts) (least_width t + waiting (sized false (t ∷ ts)))
texts_unknown (tok.Text t) ts = tt
texts_unknown (tok.Break b) ts = at_least_widen (width_of_break b) (scan 0 ts) (waiting (sized false ts)) _ (texts_going ts 0) (omega arith)
texts_unknown (tok.Begin c o) ts = at_least_le (scan 1 ts) (waiting (sized false ts)) _ (texts_going ts 1) (omega arith)
texts_unknown tok.End ts = tt

forced_decides : (c : Scan) (k : ℕ) (s : State) → AtLeast c k → Unknown ≡ size_of_scan c → s.room < s.used + k → (r : List Tok) → over (with_rest c r) s ≡ true
forced_decides (Stopped n) k s h e l r = cc
forced_decides (Going n d) k s h e l r = lt-ltb s.room (s.used + (n + reach d r)) (omega arith)

print_forced_at : (s : List Tok) (t : Tok) (es : List Entry) (m : Layout) (p w : List Tok) →
    p ++ w ≡ s → record { tok = t; size = Unknown } ∷ es ≡ sized false w → m.state.room ≤ margin →
    ((r : List Tok) → MayFollow false r → play p (w ++ r) begun ≡ m) → m.state.room < m.state.used + (least_width t + waiting (record { tok = t; size = Unknown } ∷ es)) → Holds false s es (act t true m)
print_forced_at s t es m p [] a z q h l = cc
print_forced_at s t es m p (x ∷ ts) a z q h l =
    let z0 : record { tok = t; size = Unknown } ≡ record { tok = x; size = size_of false x ts } = cc in
    let zk = ap (λ (y : Entry). y.size) z0 in
    let zz : es ≡ sized false ts = cc in
    let zw = ap waiting z in
    let zl = ap (λ (y : Entry). least_width y.tok) z0 in
    held_on false s t x ts es m p true a (sym (ap (λ (y : Entry). y.tok) z0)) zz q h
    (λ r f. forced_decides (scan_of x ts) (least_width x + waiting (sized false (x ∷ ts))) m.state (texts_unknown x ts) zk (omega (arith, zw, zl)) r)

-- the first entry has no size yet, and the text that waits is greater than the space: it is printed as one that doesn't fit
pub print_forced : (s : List Tok) (t : Tok) (es : List Entry) (m : Layout) →
    Holds false s (record { tok = t; size = Unknown } ∷ es) m → m.state.room < m.state.used + (least_width t + waiting (record { tok = t; size = Unknown } ∷ es)) →
    Holds false s es (act t true m)
print_forced s t es m h l = print_forced_at s t es m h.printed h.waits h.all h.are_sized h.small h.shown l

-- a token is fed
pub fed_one : (s : List Tok) (t : Tok) (es : List Entry) (m : Layout) (h : Holds false s es m) → Holds false (s ++ t ∷ []) (sized false (h.waits ++ t ∷ [])) m
fed_one s t es m h = record {
  printed = h.printed;
  waits = h.waits ++ t ∷ [];
  all = sym (append_assoc h.printed h.waits (t ∷ [])) ∙ ap (λ (x : List Tok). x ++ t ∷ []) h.all;
  are_sized = refl;
  small = h.small;
  shown = λ r f. ap (λ (x : List Tok). play h.printed x begun) (append_assoc h.waits (t ∷ []) r) ∙ h.shown (t ∷ r) tt;
}

-- a token that is fed where none waits is printed at once, where its decision doesn't count
print_now_at : (s : List Tok) (t : Tok) (m : Layout) (big : Bool) (p w : List Tok) → p ++ w ≡ s → [] ≡ sized false w → m.state.room ≤ margin → ((r : List Tok) → MayFollow false r → play p (w ++ r) begun ≡ m) →
    ((r : List Tok) → act t (over (measure t r) m.state) m ≡ act t big m) → Holds false (s ++ t ∷ []) [] (act t big m)
print_now_at s t m big p (x ∷ w) a z q h d = cc
print_now_at s t m big p [] a z q h d = record {
  printed = p ++ t ∷ [];
  waits = [];
  all = append-nil (p ++ t ∷ []) ∙ ap (λ (x : List Tok). x ++ t ∷ []) (sym (append-nil p) ∙ a);
  are_sized = refl;
  small = room_act t big m q;
  shown = λ r f. play_more p t r begun ∙ ap (λ (l : Layout). step t r l) (h (t ∷ r) tt) ∙ d r;
}

pub print_now : (s : List Tok) (t : Tok) (m : Layout) (big : Bool) → Holds false s [] m → ((r : List Tok) → act t (over (measure t r) m.state) m ≡ act t big m) → Holds false (s ++ t ∷ []) [] (act t big m)
print_now s t m big h d = print_now_at s t m big h.printed h.waits h.all h.are_sized h.small h.shown d

-- no more tokens come: the sizes that weren't known are
pub to_end : (s : List Tok) (es : List Entry) (m : Layout) (h : Holds false s es m) → Holds true s (sized true h.waits) m
to_end s es m h = record { printed = h.printed; waits = h.waits; all = h.all; are_sized = refl; small = h.small; shown = λ r f. h.shown r tt }

text_ended_of : (s : List Tok) (m : Layout) (p w : List Tok) → p ++ w ≡ s → [] ≡ sized true w → ((r : List Tok) → MayFollow true r → play p (w ++ r) begun ≡ m) → text s ≡ m.state.text
text_ended_of s m p [] a e h = ap (λ (x : List Tok). text x) (sym a ∙ append-nil p) ∙ ap (λ (l : Layout). l.state.text) (h [] refl)
text_ended_of s m p (x ∷ w) a e h = cc

pub text_ended : (s : List Tok) (m : Layout) → Holds true s [] m → text s ≡ m.state.text
text_ended s m h = text_ended_of s m h.printed h.waits h.all h.are_sized h.shown

-- what was printed is a prefix of what will be
pub grows_same : (a : List ℕ) → Grows a a
grows_same a = ([], sym (append-nil a))

pub grows_on : (a b c : List ℕ) → Grows a b → Grows b c → Grows a c
grows_on a b c g h = (g.0 ++ h.0, h.1 ∙ ap (λ (x : List ℕ). x ++ h.0) g.1 ∙ append_assoc a g.0 h.0)

pub grows_mark : (k : Mark) (s : State) → Grows s.text (put_mark k s).text
grows_mark Absent s = grows_same s.text
grows_mark Comma s = (_, refl)
grows_mark OpenBrace s = (_, refl)
grows_mark CloseBrace s = (_, refl)

pub grows_skip : (b : Break) (s : State) → Grows s.text (skip b s).text
grows_skip b s = grows_mark b.instead _

pub grows_newline : (b : Break) (i : ℕ) (s : State) → Grows s.text (newline b i s).text
grows_newline b i s =
    let t = put_mark b.before s in
    let l = line (shift i b.offset) t in
    grows_on s.text t.text (newline b i s).text (grows_mark b.before s) (grows_on t.text l.text _ (10 ∷ [], refl) (grows_mark b.after l))

pub grows_brk : (v : Bool) (f : Frame) (b : Break) (big : Bool) (s : State) → Grows s.text (break_by v f b big s).text
grows_brk true f b big s = grows_skip b s
grows_brk false Flat b big s = grows_skip b s
grows_brk false (Broken true i) b big s = grows_newline b i s
grows_brk false (Broken false i) b true s = grows_newline b i s
grows_brk false (Broken false i) b false s = grows_skip b s

pub grows_act : (t : Tok) (big : Bool) (m : Layout) → Grows m.state.text (act t big m).state.text
grows_act (tok.Text t) big m = (_, refl)
grows_act (tok.Break b) big m = grows_brk b.never (top m.frames) b big m.state
grows_act (tok.Begin c o) big m = grows_same m.state.text
grows_act tok.End big m = grows_same m.state.text

pub grows_play : (ts rest : List Tok) (m : Layout) → Grows m.state.text (play ts rest m).state.text
grows_play [] rest m = grows_same m.state.text
grows_play (t ∷ ts) rest m =
    grows_on m.state.text (step t (ts ++ rest) m).state.text _ (grows_act t (over (measure t (ts ++ rest)) m.state) m) (grows_play ts rest (step t (ts ++ rest) m))
