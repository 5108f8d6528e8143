-- The printer holds tokens, and prints them.
use Rattle.std.proofs.Common.{pos, negsuc, ◌≡◌, ℕ, zero, suc, ◌+◌, ◌<◌, min, nat_lt, Bool, true, false, List, [], ◌∷◌, ◌++◌, map, length, drop, replicate, Option, Some, None, Result, Ok, Err, OnOk, refl, sym, ap, ap₂, ◌∙◌, subst, append_assoc, append-nil, length-append, arith}
use Rattle.std.proofs.lemmas.Bool.Decides.{nat_tests}
use Rattle.lay_layout.specs.declared.layout.Frame.{Frame}
use Rattle.lay_layout.specs.declared.layout.Tok.{Tok}
use Rattle.lay_layout.specs.declared.layout.Tok.TheVariants as tok
use Rattle.lay_layout.specs.Document.{State, over}
use Rattle.lay_layout.specs.Machine.{Layout, act, measure, play, step, begun, text}
use Rattle.lay_ring.specs.declared.entry.Size.{Size}
use Rattle.lay_ring.specs.declared.entry.Size.TheVariants.{Unknown, Known, Forced}
use Rattle.lay_ring.specs.declared.entry.Entry.{Entry}
use Rattle.lay_stream.specs.declared.line.Line.{Line}
use Rattle.lay_queue.specs.Scan.{Scan, Stopped, Going, at_end, cap, size_of_scan, scan_of, sized, waiting}
use Rattle.lay_ring.specs.Rows.{IsRun}
use Rattle.lay_queue.proofs.Queueing.{sizes_text, text_size, toks_more}
use Rattle.lay_printer.specs.Queued.{MayFollow, Holds}
use Rattle.lay_queue.specs.Notes.{scans}
use Rattle.lay_queue.specs.Closed.{toks_of, sizes_of}
use Rattle.lay_stream.specs.Pages.{At, Is, Wrote, Cut}
use Rattle.lay_queue.specs.Entries.{least_width}
use Rattle.lay_printer.specs.Queued.{Running, Broken, Prints, Advances, Ends, Says, Decided}
use Rattle.lay_printer.proofs.Steps.{size_of, grows_play, fed_one, print_known, print_forced, print_now, to_end, text_ended}
use Rattle.lay_stream.proofs.Paging.{Grows, cut_more, wrote_cut}
use Rattle.lay_printer.proofs.Lockstep.{toks_sized}

play_append : (a b rest : List Tok) (m : Layout) → play (a ++ b) rest m ≡ play b rest (play a (b ++ rest) m)
play_append [] b rest m = refl
play_append (x ∷ a) b rest m =
    ap (λ (ts : List Tok). play (a ++ b) rest (step x ts m)) (append_assoc a b rest) ∙ play_append a b rest (step x (a ++ (b ++ rest)) m)

-- what is printed is a prefix of the text of all
grows_to : (p w : List Tok) (m : Layout) → play p w begun ≡ m → Grows m.state.text (text (p ++ w))
grows_to p w m e =
    let k : play p (w ++ []) begun ≡ m = ap (λ (x : List Tok). play p x begun) (append-nil w) ∙ e in
    let g = grows_play w [] m in
    (g.0, ap (λ (l : Layout). l.state.text) (play_append p w [] begun ∙ ap (λ (l : Layout). play w [] l) k) ∙ g.1)

grows_by : (e : Bool) (s : List Tok) (es : List Entry) (m : Layout) → Holds e s es m → (r : List Tok) → MayFollow e r → Grows m.state.text (text (s ++ r))
grows_by e s es m h r f =
    subst (λ (x : List Tok). Grows m.state.text (text x)) (sym (append_assoc h.printed h.waits r) ∙ ap (λ (x : List Tok). x ++ r) h.all)
    (grows_to h.printed (h.waits ++ r) m (h.shown r f))

-- a sink that isn't written to has a prefix of the text
pub running_broken : (es : List Entry) (p : Line) (fs : List Frame) (w : Option (List ℕ)) (content : List ℕ) (s u : List Tok) → Running false es p fs w content s → Broken false w content (s ++ u)
running_broken es p fs w content s u h r f =
    cut_more w content h.layout.state.text (text ((s ++ u) ++ r)) (wrote_cut w content h.layout.state.text h.wrote)
    (subst (λ (x : List Tok). Grows h.layout.state.text (text x)) (sym (append_assoc s u r)) (grows_by false s es h.layout h.holds (u ++ r) tt))

-- a token is fed
pub running_fed : (es es' : List Entry) (p : Line) (fs : List Frame) (w : Option (List ℕ)) (content : List ℕ) (s : List Tok) (t : Tok) →
    toks_of es' ≡ toks_of es ++ t ∷ [] → es' ≡ sized false (toks_of es') → Running false es p fs w content s → Running false es' p fs w content (s ++ t ∷ [])
running_fed es es' p fs w content s t e z h =
    let k = h.holds in
    let q : toks_of es ≡ k.waits = ap toks_of k.are_sized ∙ toks_sized false k.waits in
    let y : sized false (k.waits ++ t ∷ []) ≡ es' = ap (λ (x : List Tok). sized false (x ++ t ∷ [])) (sym q) ∙ ap (sized false) (sym e) ∙ sym z in
    record {
      layout = h.layout;
      holds = subst (λ (x : List Entry). Holds false (s ++ t ∷ []) x h.layout) y (fed_one s t es h.layout k);
      at = h.at;
      wrote = h.wrote;
    }

-- entries are told by their tokens
pub sized_so : (e : Bool) (es : List Entry) → sizes_of es ≡ map size_of_scan (map (at_end e) (scans (toks_of es))) → es ≡ sized e (toks_of es)
sized_so e [] h = refl
sized_so e (x ∷ es) h =
    let a : x.size ≡ size_of e x.tok (toks_of es) = cc in
    let b : sizes_of es ≡ map size_of_scan (map (at_end e) (scans (toks_of es))) = cc in
    ap (λ (z : Size). record { tok = x.tok; size = z } ∷ es) a ∙ ap (λ (y : List Entry). record { tok = x.tok; size = size_of e x.tok (toks_of es) } ∷ y) (sized_so e es b)

over_page : (p : Line) (s : State) (k : ℕ) → Is p s → nat_lt p.room (p.used + k) ≡ over k s
over_page p s k h =
    let a = h.room in let b = h.small in let c = h.used in
    grind (arith, nat_tests)

-- a size is known from 0 on, or unknown while more may come
abbrev IsSize : Bool → Size → Type 0
IsSize e (Known (pos k)) = Unit {0}
IsSize e (Known (negsuc k)) = ⊥
IsSize false Unknown = Unit {0}
IsSize true Unknown = ⊥
IsSize e Forced = ⊥

is_size : (e : Bool) (c : Scan) → IsSize e (size_of_scan (at_end e c))
is_size false (Stopped n) = tt
is_size false (Going n d) = tt
is_size true (Stopped n) = tt
is_size true (Going n d) = tt

front_size : (e : Bool) (t : Tok) (z : Size) (es : List Entry) (w : List Tok) → record { tok = t; size = z } ∷ es ≡ sized e w → IsSize e z
front_size e t z es [] h = cc
front_size e t z es (x ∷ w) h =
    let k : record { tok = t; size = z } ≡ record { tok = x; size = size_of e x w } = cc in
    subst (IsSize e) (sym (ap (λ (y : Entry). y.size) k)) (is_size e (scan_of x w))

-- the oldest entry is printed as was decided
step_at : (x : Bool) (s : List Tok) (t : Tok) (z : Size) (es : List Entry) (m : Layout) (p : Line) (wait : ℕ) (big : Bool) → Is p m.state →
    wait ≡ waiting (record { tok = t; size = z } ∷ es) → Says z (least_width t) wait p (Some big) → IsSize x z → Holds x s (record { tok = t; size = z } ∷ es) m → Holds x s es (act t big m)
step_at x s t (Known (pos k)) es m p wait big i w d q h =
    let e : nat_lt p.room (p.used + k) ≡ big = cc in
    subst (λ (y : Bool). Holds x s es (act t y m)) (sym (over_page p m.state k i) ∙ e) (print_known x s t k es m h)
step_at x s t (Known (negsuc k)) es m p wait big i w d q h = absurd q
step_at false s t Unknown es m p wait big i w d q h =
    let a = i.room in let b = i.small in let c = i.used in
    subst (λ (y : Bool). Holds false s es (act t y m)) (sym d.0) (print_forced s t es m h (omega (arith, d.1)))
step_at true s t Unknown es m p wait big i w d q h = absurd q
step_at x s t Forced es m p wait big i w d q h = absurd q

prints_by : {T E : Type 0} (x : Bool) (es es' : List Entry) (t : Tok) (p p' : Line) (fs fs' : List Frame) (b n : Option (List ℕ)) (big : Bool) (res : Result T E) →
    ((s : List Tok) (m : Layout) → Is p m.state → Holds x s es m → Holds x s es' (act t big m)) → Prints p fs b res p' fs' n t big → Advances x es p fs b res es' p' fs' n (λ s. s)
prints_by x es es' t p p' fs fs' b n big (Ok y) f k = record {
  ok = λ content s r.
      let a = k.ok content r.layout r.at r.wrote in
      record { layout = act t big r.layout; holds = f s r.layout r.at.is r.holds; at = a.0; wrote = a.1 };
  err = tt;
}
prints_by x es es' t p p' fs fs' b n big (Err y) f k = record {
  ok = tt;
  err = λ content s r q g.
      cut_more n content (act t big r.layout).state.text (text (s ++ q)) (k.err content r.layout r.at r.wrote)
      (grows_by x s es' (act t big r.layout) (f s r.layout r.at.is r.holds) q g);
}

pub prints_front : {T E : Type 0} (x : Bool) (es es' : List Entry) (e : Entry) (p p' : Line) (fs fs' : List Frame) (b n : Option (List ℕ)) (wait : ℕ) (big : Bool) (res : Result T E) →
    es ≡ e ∷ es' → wait ≡ waiting es → Decided es wait p (Some big) → Prints p fs b res p' fs' n e.tok big → Advances x es p fs b res es' p' fs' n (λ s. s)
prints_front x es es' e p p' fs fs' b n wait big res a w d k =
    let d' : Says e.size (least_width e.tok) wait p (Some big) = subst (λ (y : List Entry). Decided y wait p (Some big)) a d in
    let w' : wait ≡ waiting (e ∷ es') = w ∙ ap waiting a in
    prints_by x es es' e.tok p p' fs fs' b n big res
    (λ s m i h.
    let q = subst (λ (y : List Entry). Holds x s y m) a h in
    step_at x s e.tok e.size es' m p wait big i w' d' (front_size x e.tok e.size es' q.waits q.are_sized) q) k

-- a token is printed at once, where none waits and its decision doesn't count
pub prints_now : {T E : Type 0} (es es' : List Entry) (t : Tok) (p p' : Line) (fs fs' : List Frame) (b n : Option (List ℕ)) (big : Bool) (res : Result T E) → es ≡ [] → es' ≡ [] →
    ((m : Layout) → At p fs m → (r : List Tok) → act t (over (measure t r) m.state) m ≡ act t big m) → Prints p fs b res p' fs' n t big → Advances false es p fs b res es' p' fs' n (λ s. s ++ t ∷ [])
prints_now es es' t p p' fs fs' b n big (Ok y) e e' d k = record {
  ok = λ content s r.
      let h : Holds false s [] r.layout = subst (λ (x : List Entry). Holds false s x r.layout) e r.holds in
      let a = k.ok content r.layout r.at r.wrote in
      record {
        layout = act t big r.layout;
        holds = subst (λ (x : List Entry). Holds false (s ++ t ∷ []) x (act t big r.layout)) (sym e') (print_now s t r.layout big h (d r.layout r.at));
        at = a.0;
        wrote = a.1;
      };
  err = tt;
}
prints_now es es' t p p' fs fs' b n big (Err y) e e' d k = record {
  ok = tt;
  err = λ content s r q g.
      let h : Holds false s [] r.layout = subst (λ (x : List Entry). Holds false s x r.layout) e r.holds in
      cut_more n content (act t big r.layout).state.text (text ((s ++ t ∷ []) ++ q)) (k.err content r.layout r.at r.wrote)
      (grows_by false (s ++ t ∷ []) [] (act t big r.layout) (print_now s t r.layout big h (d r.layout r.at)) q g);
}

-- a token wasn't fed
pub feeds_not : {T E : Type 0} (es es' : List Entry) (p p' : Line) (fs fs' : List Frame) (b : Option (List ℕ)) (t : Tok) (f : E) → Advances {T = T} false es p fs b (Err f) es' p' fs' b (λ s. s ++ t ∷ [])
feeds_not es es' p p' fs fs' b t f = record { ok = tt; err = λ content s r. running_broken es p fs b content s (t ∷ []) r }

-- no more tokens come
running_ends_ : (es mid : List Entry) (p : Line) (fs : List Frame) (w : Option (List ℕ)) (content : List ℕ) (s : List Tok) → toks_of mid ≡ toks_of es → mid ≡ sized true (toks_of mid) →
    Running false es p fs w content s → Running true mid p fs w content s
running_ends_ es mid p fs w content s e q r =
    let k : Holds false s es r.layout = r.holds in
    let y : toks_of es ≡ k.waits = ap toks_of k.are_sized ∙ toks_sized false k.waits in
    let v : sized true k.waits ≡ mid = ap (sized true) (sym y ∙ sym e) ∙ sym q in
    record { layout = r.layout; holds = subst (λ (x : List Entry). Holds true s x r.layout) v (to_end s es r.layout k); at = r.at; wrote = r.wrote }

pub ends_on : {T E : Type 0} (es mid es' : List Entry) (z : Bool) (p p' : Line) (fs fs' : List Frame) (b n : Option (List ℕ)) (res : Result T E) →
    toks_of mid ≡ toks_of es → z ≡ true → mid ≡ sized z (toks_of mid) → Advances z mid p fs b res es' p' fs' n (λ s. s) → (OnOk res (es' ≡ [])) → Ends es p fs b res n
ends_on es mid es' false p p' fs fs' b n res e y q k v = cc
ends_on es mid es' true p p' fs fs' b n (Ok x) e y q k v = record {
  ok = λ content s r.
      let u = k.ok content s (running_ends_ es mid p fs b content s e q r) in
      let h : Holds true s [] u.layout = subst (λ (x : List Entry). Holds true s x u.layout) v u.holds in
      subst (λ (x : List ℕ). Wrote n content x) (sym (text_ended s u.layout h)) u.wrote;
  err = tt;
}
ends_on es mid es' true p p' fs fs' b n (Err x) e y q k v = record {
  ok = tt;
  err = λ content s r. subst (λ (x : List Tok). Cut n content (text x)) (append-nil s) (k.err content s (running_ends_ es mid p fs b content s e q r) [] refl);
}

undecided : (z : Size) (least wait : ℕ) (p : Line) → IsSize true z → Says z least wait p None → ⊥
undecided (Known (pos k)) least wait p q d = cc
undecided (Known (negsuc k)) least wait p q d = q
undecided Unknown least wait p q d = q
undecided Forced least wait p q d = q

-- at the end nothing stays undecided
pub none_left : (es : List Entry) (z : Bool) (wait : ℕ) (p : Line) → z ≡ true → sizes_of es ≡ map size_of_scan (map (at_end z) (scans (toks_of es))) → Decided es wait p None → es ≡ []
none_left [] z wait p y q d = refl
none_left (e ∷ es) false wait p y q d = cc
none_left (e ∷ es) true wait p y q d =
    let a : e.size ≡ size_of_scan (at_end true (scan_of e.tok (toks_of es))) = cc in
    absurd (undecided e.size (least_width e.tok) wait p (subst (IsSize true) (sym a) (is_size true (scan_of e.tok (toks_of es)))) d)

-- a token was fed, where the stack of frames was given room before
fed_first : (es mid : List Entry) (p mp : Line) (fs mfs : List Frame) (w : Option (List ℕ)) (content : List ℕ) (s : List Tok) (t : Tok) → mp ≡ p → mfs ≡ fs → toks_of mid ≡ toks_of es ++ t ∷ [] →
    sizes_of mid ≡ map size_of_scan (map (at_end false) (scans (toks_of mid))) → Running false es p fs w content s → Running false mid mp mfs w content (s ++ t ∷ [])
fed_first es mid p mp fs mfs w content s t g f k q r =
    running_fed es mid mp mfs w content s t k (sized_so false mid q)
    (subst (λ (y : Line). Running false es y mfs w content s) (sym g) (subst (λ (x : List Frame). Running false es p x w content s) (sym f) r))

pub feeds_won : {T U E F : Type 0} (es mid es' : List Entry) (z : Bool) (p mp p' : Line) (fs mfs fs' : List Frame) (b n : Option (List ℕ)) (t : Tok) (u : T) (v : U) → mp ≡ p → mfs ≡ fs → toks_of mid ≡ toks_of es ++ t ∷ [] → z ≡ false →
    sizes_of mid ≡ map size_of_scan (map (at_end z) (scans (toks_of mid))) → Advances {E = E} z mid mp mfs b (Ok u) es' p' fs' n (λ s. s) → Advances {E = F} false es p fs b (Ok v) es' p' fs' n (λ s. s ++ t ∷ [])
feeds_won es mid es' true p mp p' fs mfs fs' b n t u v g f k y q h = cc
feeds_won es mid es' false p mp p' fs mfs fs' b n t u v g f k y q h = record {
  ok = λ content s r. h.ok content (s ++ t ∷ []) (fed_first es mid p mp fs mfs b content s t g f k q r);
  err = tt;
}

pub feeds_lost : {T U E F : Type 0} (es mid es' : List Entry) (z : Bool) (p mp p' : Line) (fs mfs fs' : List Frame) (b n : Option (List ℕ)) (t : Tok) (e : E) (f : F) → mp ≡ p → mfs ≡ fs → toks_of mid ≡ toks_of es ++ t ∷ [] → z ≡ false →
    sizes_of mid ≡ map size_of_scan (map (at_end z) (scans (toks_of mid))) → Advances {T = T} z mid mp mfs b (Err e) es' p' fs' n (λ s. s) → Advances {T = U} false es p fs b (Err f) es' p' fs' n (λ s. s ++ t ∷ [])
feeds_lost es mid es' true p mp p' fs mfs fs' b n t e f g m k y q h = cc
feeds_lost es mid es' false p mp p' fs mfs fs' b n t e f g m k y q h = record {
  ok = tt;
  err = λ content s r. h.err content (s ++ t ∷ []) (fed_first es mid p mp fs mfs b content s t g m k q r);
}

waiting_append : (a b : List Entry) → waiting (a ++ b) ≡ waiting a + waiting b
waiting_append [] b = omega arith
waiting_append (e ∷ a) b = omega (arith, waiting_append a b)

-- the oldest entry is printed, and some wait after those that are held
pub prints_front_on : {T E : Type 0} (x : Bool) (es es' tail : List Entry) (e : Entry) (p p' : Line) (fs fs' : List Frame) (b n : Option (List ℕ)) (wait : ℕ) (big : Bool) (res : Result T E) →
    es ≡ e ∷ es' → wait ≡ waiting es → Decided es (wait + waiting tail) p (Some big) → Prints p fs b res p' fs' n e.tok big → Advances x (es ++ tail) p fs b res (es' ++ tail) p' fs' n (λ s. s)
prints_front_on x es es' tail e p p' fs fs' b n wait big res a w d k =
    let all : es ++ tail ≡ e ∷ (es' ++ tail) = ap (λ (y : List Entry). y ++ tail) a in
    let d' : Decided (e ∷ es') (wait + waiting tail) p (Some big) = subst (λ (y : List Entry). Decided y (wait + waiting tail) p (Some big)) a d in
    prints_front x (es ++ tail) (es' ++ tail) e p p' fs fs' b n (wait + waiting tail) big res all (omega (arith, w, waiting_append es tail))
    (subst (λ (y : List Entry). Decided y (wait + waiting tail) p (Some big)) (sym all) d') k

front_text : (x : Bool) (e : Entry) (es : List Entry) (w : List Tok) (t : List ℕ) → e ∷ es ≡ sized x w → e.tok ≡ tok.Text t → e.size ≡ Known (pos (min (length t) cap))
front_text x e es [] t h k = cc
front_text x e es (y ∷ w) t h k =
    let q : e ≡ record { tok = y; size = size_of x y w } = cc in
    let a : y ≡ tok.Text t = sym (ap (λ (z : Entry). z.tok) q) ∙ k in
    ap (λ (z : Entry). z.size) q ∙ ap (λ (z : Tok). size_of x z w) a ∙ text_size x t w

-- a text at the front is printed
holds_text : (x : Bool) (s : List Tok) (e : Entry) (es : List Entry) (t : List ℕ) (m : Layout) → e.tok ≡ tok.Text t → Holds x s (e ∷ es) m → Holds x s es (act (tok.Text t) true m)
holds_text x s e es t m k h =
    let z = front_text x e es h.waits t h.are_sized k in
    let a : e ≡ record { tok = tok.Text t; size = Known (pos (min (length t) cap)) } = ap₂ (λ (y : Tok) (v : Size). record { tok = y; size = v }) k z in
    print_known x s (tok.Text t) (min (length t) cap) es m (subst (λ (y : Entry). Holds x s (y ∷ es) m) a h)

-- one text after another is printed as both in one
act_texts : (a b : List ℕ) (m : Layout) → act (tok.Text b) true (act (tok.Text a) true m) ≡ act (tok.Text (a ++ b)) true m
act_texts a b m =
    let k : List ℕ = replicate m.state.pending 32 in
    let t : (m.state.text ++ (k ++ a)) ++ ([] ++ b) ≡ m.state.text ++ (k ++ (a ++ b)) = append_assoc m.state.text (k ++ a) b ∙ ap (λ (y : List ℕ). m.state.text ++ y) (append_assoc k a b) in
    let u : m.state.used + length a + length b ≡ m.state.used + length (a ++ b) = omega (arith, length-append a b) in
    ap₂ (λ (y : List ℕ) (n : ℕ). record { frames = m.frames; state = record { text = y; pending = 0; room = m.state.room; used = n } }) t u

-- texts at the front are printed
holds_texts : (count : ℕ) (x : Bool) (s : List Tok) (es tail : List Entry) (bytes : List ℕ) (m : Layout) → IsRun (suc count) es bytes → Holds x s (es ++ tail) m →
    Holds x s (drop (suc count) es ++ tail) (act (tok.Text bytes) true m)
holds_texts count x s [] tail bytes m r h = absurd r
holds_texts zero x s (e ∷ es) tail bytes m r h =
    let a : bytes ≡ r.0 = r.3 ∙ ap (λ (y : List ℕ). r.0 ++ y) r.4 ∙ append-nil r.0 in
    subst (λ (y : List ℕ). Holds x s (es ++ tail) (act (tok.Text y) true m)) (sym a) (holds_text x s e (es ++ tail) r.0 m r.2 h)
holds_texts (suc count) x s (e ∷ es) tail bytes m r h =
    let one = holds_text x s e (es ++ tail) r.0 m r.2 h in
    let more = holds_texts count x s es tail r.1 (act (tok.Text r.0) true m) r.4 one in
    subst (λ (l : Layout). Holds x s (drop (suc count) es ++ tail) l) (act_texts r.0 r.1 m ∙ ap (λ (y : List ℕ). act (tok.Text y) true m) (sym r.3)) more

pub prints_texts : {T E : Type 0} (count : ℕ) (x : Bool) (es es' tail : List Entry) (bytes : List ℕ) (p p' : Line) (fs fs' : List Frame) (b n : Option (List ℕ)) (res : Result T E) →
    0 < count → IsRun count es bytes → es' ≡ drop count es → Prints p fs b res p' fs' n (tok.Text bytes) true → Advances x (es ++ tail) p fs b res (es' ++ tail) p' fs' n (λ s. s)
prints_texts zero x es es' tail bytes p p' fs fs' b n res c r a k = absurd (omega (arith, c))
prints_texts (suc count) x es es' tail bytes p p' fs fs' b n res c r a k =
    prints_by x (es ++ tail) (es' ++ tail) (tok.Text bytes) p p' fs fs' b n true res
    (λ s m i h. subst (λ (y : List Entry). Holds x s (y ++ tail) (act (tok.Text bytes) true m)) (sym a) (holds_texts count x s es tail bytes m r h)) k

-- nothing stands after those that are held
pub without_tail : {T E : Type 0} (x : Bool) (es es' : List Entry) (p p' : Line) (fs fs' : List Frame) (b n : Option (List ℕ)) (res : Result T E) →
    ((tail : List Entry) → waiting tail ≡ 0 → Advances x (es ++ tail) p fs b res (es' ++ tail) p' fs' n (λ s. s)) → Advances x es p fs b res es' p' fs' n (λ s. s)
without_tail x es es' p p' fs fs' b n res h =
    subst (λ (y : List Entry). Advances x y p fs b res es' p' fs' n (λ s. s)) (append-nil es)
    (subst (λ (y : List Entry). Advances x (es ++ []) p fs b res y p' fs' n (λ s. s)) (append-nil es') (h [] refl))

-- nothing is printed
pub advances_not : {T E : Type 0} (x : Bool) (es : List Entry) (p : Line) (fs : List Frame) (b : Option (List ℕ)) (v : T) → Advances {E = E} x es p fs b (Ok v) es p fs b (λ s. s)
advances_not x es p fs b v = record { ok = λ content s r. r; err = tt }

advances_then : {U T E : Type 0} (x : Bool) (es es1 es2 : List Entry) (p p1 p2 : Line) (fs fs1 fs2 : List Frame) (b m n : Option (List ℕ)) (u : U) (res : Result T E) →
    Advances {E = E} x es p fs b (Ok u) es1 p1 fs1 m (λ s. s) → Advances x es1 p1 fs1 m res es2 p2 fs2 n (λ s. s) → Advances x es p fs b res es2 p2 fs2 n (λ s. s)
advances_then x es es1 es2 p p1 p2 fs fs1 fs2 b m n u (Ok v) h k = record { ok = λ content s r. k.ok content s (h.ok content s r); err = tt }
advances_then x es es1 es2 p p1 p2 fs fs1 fs2 b m n u (Err v) h k = record { ok = tt; err = λ content s r. k.err content s (h.ok content s r) }

abbrev text_entry : List ℕ → Entry
text_entry t = record { tok = tok.Text t; size = Known (pos (min (length t) cap)) }

pub feeds_by : {T E : Type 0} (es mid es' : List Entry) (p p' : Line) (fs fs' : List Frame) (b n : Option (List ℕ)) (t : Tok) (res : Result T E) → toks_of mid ≡ toks_of es ++ t ∷ [] →
    sizes_of mid ≡ map size_of_scan (map (at_end false) (scans (toks_of mid))) → Advances false mid p fs b res es' p' fs' n (λ s. s) → Advances false es p fs b res es' p' fs' n (λ s. s ++ t ∷ [])
feeds_by es mid es' p p' fs fs' b n t (Ok v) k q h = feeds_won es mid es' false p p p' fs fs fs' b n t v v refl refl k refl q h
feeds_by es mid es' p p' fs fs' b n t (Err v) k q h = feeds_lost es mid es' false p p p' fs fs fs' b n t v v refl refl k refl q h

-- a long text is fed: first what waits is printed
pub long_lost : {U T E : Type 0} (es es' : List Entry) (z : Bool) (p p' : Line) (fs fs' : List Frame) (b n : Option (List ℕ)) (t : List ℕ) (v : E) → z ≡ false →
    sizes_of es ≡ map size_of_scan (map (at_end z) (scans (toks_of es))) →
    ((tail : List Entry) → waiting tail ≡ length t → Advances {T = U} z (es ++ tail) p fs b (Err v) (es' ++ tail) p' fs' n (λ s. s)) →
    Advances {T = T} false es p fs b (Err v) es' p' fs' n (λ s. s ++ tok.Text t ∷ [])
long_lost es es' true p p' fs fs' b n t v y q h = cc
long_lost {U = U} es es' false p p' fs fs' b n t v y q h =
    let x = text_entry t in
    let k = h (x ∷ []) (omega arith) in
    feeds_lost {T = U} es (es ++ x ∷ []) es' false p p p' fs fs fs' b n (tok.Text t) v v refl refl (toks_more es x) refl (sizes_text es t q) (record { ok = tt; err = k.err })

pub long_printed : {U T E : Type 0} (es es1 es2 : List Entry) (z : Bool) (p p1 p2 : Line) (fs fs1 fs2 : List Frame) (b m n : Option (List ℕ)) (t : List ℕ) (u : U) (res : Result T E) → z ≡ false →
    sizes_of es ≡ map size_of_scan (map (at_end z) (scans (toks_of es))) → es1 ≡ [] → es2 ≡ [] →
    ((tail : List Entry) → waiting tail ≡ length t → Advances {E = E} z (es ++ tail) p fs b (Ok u) (es1 ++ tail) p1 fs1 m (λ s. s)) →
    Prints p1 fs1 m res p2 fs2 n (tok.Text t) true → Advances false es p fs b res es2 p2 fs2 n (λ s. s ++ tok.Text t ∷ [])
long_printed es es1 es2 true p p1 p2 fs fs1 fs2 b m n t u res y q a c h k = cc
long_printed {U = U} {E = E} es es1 es2 false p p1 p2 fs fs1 fs2 b m n t u res y q a c h k =
    let x = text_entry t in
    let one = h (x ∷ []) (omega arith) in
    let one' : Advances {T = U} {E = E} false (es ++ x ∷ []) p fs b (Ok u) (x ∷ []) p1 fs1 m (λ s. s) = subst (λ (l : List Entry). Advances {T = U} {E = E} false (es ++ x ∷ []) p fs b (Ok u) (l ++ x ∷ []) p1 fs1 m (λ s. s)) a one in
    let two : Advances false (x ∷ []) p1 fs1 m res es2 p2 fs2 n (λ s. s) =
    prints_by false (x ∷ []) es2 (tok.Text t) p1 p2 fs1 fs2 m n true res (λ s l i g. subst (λ (e : List Entry). Holds false s e (act (tok.Text t) true l)) (sym c) (holds_text false s x [] t l refl g)) k in
    feeds_by es (es ++ x ∷ []) es2 p p2 fs fs2 b n (tok.Text t) res (toks_more es x) (sizes_text es t q) (advances_then false (es ++ x ∷ []) (x ∷ []) es2 p p1 p2 fs fs1 fs2 b m n u res one' two)
