-- SmallEntry entries and the bytes of their texts.
use Rattle.std.proofs.Common.{◌≡◌, ℕ, zero, suc, ◌+◌, ◌-◌, ◌<◌, ◌≤◌, ℤ, pos, Bool, true, false, List, [], ◌∷◌, ◌++◌, length, take, drop, set, slice_get, Some, None, refl, sym, ap, ap₂, ◌∙◌, subst, length-drop, length-append, arith}
use Rattle.std.proofs.lemmas.List.{take-append-le, drop-append-le, length-take, length-take-le, drop-drop, take-take, drop-take, take-append-drop}
use Rattle.lay_layout.specs.declared.layout.Tok.{Tok}
use Rattle.lay_layout.specs.declared.layout.Tok.TheVariants as tok
use Rattle.lay_ring.specs.declared.entry.Size.TheVariants.{Known}
use Rattle.lay_ring.specs.declared.entry.Entry.{Entry}
use Rattle.lay_ring.specs.declared.row.Kind.{Kind}
use Rattle.lay_ring.specs.declared.row.Kind.TheVariants as kind
use Rattle.lay_ring.specs.declared.row.SmallEntry.{SmallEntry}
use Rattle.lay_ring.specs.Held.{sized_at, IsUnknownAt}
use Rattle.lay_ring.specs.declared.row.LentEntry.{LentEntry}
use Rattle.lay_ring.specs.Rows.{IsFirst, IsRun, IsTextAt, all_taken, bytes_in, bytes_kept, entries_at, room_in, size_of, taken, text_bytes, text_in, text_most, texts_beside, tok_at, tok_of}

take_sum : (m n : ℕ) (xs : List ℕ) → take (m + n) xs ≡ take m xs ++ take n (drop m xs)
take_sum m n xs = sym (take-append-drop m (take (m + n) xs)) ∙ ap₂ (λ (a b : List ℕ). a ++ b) (take-take m (m + n) xs (omega arith)) (drop-take m n xs)

pub length_entries : (ss : List SmallEntry) (bytes : List ℕ) → length (entries_at ss bytes) ≡ length ss
length_entries [] bytes = refl
length_entries (s ∷ ss) bytes = ap suc (length_entries ss (drop (taken s.kind) bytes))

-- a text at the front
front_text : (k : Kind) (bytes more : List ℕ) → taken k ≤ length bytes → tok_at k (bytes ++ more) ≡ tok_at k bytes
front_text (kind.Text n) bytes more h = ap tok.Text (take-append-le n bytes more h)
front_text (kind.Break b) bytes more h = refl
front_text (kind.Begin c o) bytes more h = refl
front_text kind.End bytes more h = refl

pub entries_more : (ss : List SmallEntry) (s : SmallEntry) (bytes more : List ℕ) → all_taken ss ≡ length bytes →
    entries_at (ss ++ s ∷ []) (bytes ++ more) ≡ entries_at ss bytes ++ record { tok = tok_at s.kind more; size = size_of s.size } ∷ []
entries_more [] s [] more h = refl
entries_more [] s (b ∷ bytes) more h = absurd (omega arith)
entries_more (x ∷ ss) s bytes more h =
    let k : taken x.kind ≤ length bytes = omega arith in
    let e : all_taken ss ≡ length (drop (taken x.kind) bytes) = omega (arith, length-drop (taken x.kind) bytes) in
    ap₂ (λ (t : Tok) (es : List Entry). record { tok = t; size = size_of x.size } ∷ es) (front_text x.kind bytes more k)
    (ap (entries_at (ss ++ s ∷ [])) (drop-append-le (taken x.kind) bytes more k) ∙ entries_more ss s (drop (taken x.kind) bytes) more e)

pub all_taken_more : (ss : List SmallEntry) (s : SmallEntry) → all_taken (ss ++ s ∷ []) ≡ all_taken ss + taken s.kind
all_taken_more [] s = omega arith
all_taken_more (x ∷ ss) s = omega (arith, all_taken_more ss s)

text_taken : (k : Kind) (bytes : List ℕ) → taken k ≤ length bytes → text_bytes (tok_at k bytes) ≡ taken k
text_taken (kind.Text n) bytes h = length-take-le n bytes h
text_taken (kind.Break b) bytes h = refl
text_taken (kind.Begin c o) bytes h = refl
text_taken kind.End bytes h = refl

pub bytes_taken : (ss : List SmallEntry) (bytes : List ℕ) → all_taken ss ≤ length bytes → bytes_in (entries_at ss bytes) ≡ all_taken ss
bytes_taken [] bytes h = refl
bytes_taken (s ∷ ss) bytes h =
    ap₂ (λ (a b : ℕ). a + b) (text_taken s.kind bytes (omega arith)) (bytes_taken ss (drop (taken s.kind) bytes) (omega (arith, length-drop (taken s.kind) bytes)))

-- an entry gets its size
pub entries_sized : (ss : List SmallEntry) (bytes : List ℕ) (place size : ℕ) (s : SmallEntry) → Some s ≡ slice_get ss place →
    entries_at (set ss place (record { kind = s.kind; size = pos size })) bytes ≡ sized_at (entries_at ss bytes) place (Known (pos size))
entries_sized [] bytes place size s h = refl
entries_sized (x ∷ ss) bytes zero size s h =
    let k : s ≡ x = cc in
    ap (λ (y : SmallEntry). record { tok = tok_at y.kind bytes; size = Known (pos size) } ∷ entries_at ss (drop (taken y.kind) bytes)) k
entries_sized (x ∷ ss) bytes (suc place) size s h =
    ap (λ (es : List Entry). record { tok = tok_at x.kind bytes; size = size_of x.size } ∷ es) (entries_sized ss (drop (taken x.kind) bytes) place size s h)

pub all_taken_sized : (ss : List SmallEntry) (place : ℕ) (size : ℤ) (s : SmallEntry) → Some s ≡ slice_get ss place → all_taken (set ss place (record { kind = s.kind; size = size })) ≡ all_taken ss
all_taken_sized [] place size s h = refl
all_taken_sized (x ∷ ss) zero size s h = let k : s ≡ x = cc in ap (λ (y : SmallEntry). taken y.kind + all_taken ss) k
all_taken_sized (x ∷ ss) (suc place) size s h = ap (λ (n : ℕ). taken x.kind + n) (all_taken_sized ss place size s h)

pub within_get : (ss : List SmallEntry) (place : ℕ) (s : SmallEntry) → Some s ≡ slice_get ss place → place < length ss
within_get [] place s h = cc
within_get (x ∷ ss) zero s h = omega arith
within_get (x ∷ ss) (suc place) s h = omega (arith, within_get ss place s h)

pub some_small : (ss : List SmallEntry) (bytes : List ℕ) (place : ℕ) → IsUnknownAt (entries_at ss bytes) place → None ≡ slice_get ss place → ⊥
some_small [] bytes place u h = u
some_small (x ∷ ss) bytes zero u h = cc
some_small (x ∷ ss) bytes (suc place) u h = some_small ss (drop (taken x.kind) bytes) place u h

pub first_within : (ss : List SmallEntry) (s : SmallEntry) (bytes : List ℕ) → Some s ≡ slice_get ss 0 → all_taken ss ≡ length bytes → taken s.kind ≤ length bytes
first_within [] s bytes h e = cc
first_within (x ∷ ss) s bytes h e = let k : s ≡ x = cc in omega (arith, ap (λ (y : SmallEntry). taken y.kind) k)

pub first_none : (ss : List SmallEntry) (bytes : List ℕ) → None ≡ slice_get ss 0 → IsFirst (entries_at ss bytes) None
first_none [] bytes h = refl
first_none (x ∷ ss) bytes h = cc

pub first_some : (ss : List SmallEntry) (s : SmallEntry) (bytes : List ℕ) (w : LentEntry) → Some s ≡ slice_get ss 0 → tok_of w.tok ≡ tok_at s.kind bytes → size_of w.size ≡ size_of s.size →
    IsFirst (entries_at ss bytes) (Some w)
first_some [] s bytes w h t z = cc
first_some (x ∷ ss) s bytes w h t z = let k : s ≡ x = cc in (t ∙ ap (λ (y : SmallEntry). tok_at y.kind bytes) k, z ∙ ap (λ (y : SmallEntry). size_of y.size) k)

-- the entry after the first
pub entries_rest : (ss : List SmallEntry) (s : SmallEntry) (bytes : List ℕ) → Some s ≡ slice_get ss 0 → entries_at (drop 1 ss) (drop (taken s.kind) bytes) ≡ drop 1 (entries_at ss bytes)
entries_rest [] s bytes h = cc
entries_rest (x ∷ ss) s bytes h = let k : s ≡ x = cc in ap (λ (y : SmallEntry). entries_at ss (drop (taken y.kind) bytes)) k

pub all_taken_rest : (ss : List SmallEntry) (s : SmallEntry) → Some s ≡ slice_get ss 0 → taken s.kind + all_taken (drop 1 ss) ≡ all_taken ss
all_taken_rest [] s h = cc
all_taken_rest (x ∷ ss) s h = let k : s ≡ x = cc in ap (λ (y : SmallEntry). taken y.kind + all_taken ss) k

pub text_is : (ss : List SmallEntry) (place n : ℕ) (s : SmallEntry) → Some s ≡ slice_get ss place → s.kind ≡ kind.Text n → IsTextAt ss place (Some n)
text_is [] place n s h e = cc
text_is (x ∷ ss) zero n s h e = let k : s ≡ x = cc in sym (ap (λ (y : SmallEntry). y.kind) k) ∙ e
text_is (x ∷ ss) (suc place) n s h e = text_is ss place n s h e

-- The first this many are texts, which take this many bytes.
abbrev pub TextsAt : ℕ → List SmallEntry → ℕ → Type 0
TextsAt zero ss len = len ≡ 0
TextsAt (suc n) [] len = ⊥
TextsAt (suc n) (s ∷ ss) len = (k : ℕ) × (s.kind ≡ kind.Text k) × (k ≤ len) × TextsAt n ss (len - k)

pub texts_more : (count len more : ℕ) (ss : List SmallEntry) → TextsAt count ss len → IsTextAt ss count (Some more) → TextsAt (suc count) ss (len + more)
texts_more zero len more [] h k = absurd k
texts_more zero len more (s ∷ ss) h k = (more, k, omega arith, omega (arith, h))
texts_more (suc count) len more [] h k = absurd h
texts_more (suc count) len more (s ∷ ss) h k =
    let e : len - h.0 + more ≡ len + more - h.0 = omega (arith, h.2) in
    (h.0, h.1, omega (arith, h.2), subst (λ (n : ℕ). TextsAt (suc count) ss n) e (texts_more count (len - h.0) more ss h.3 k))

pub texts_within : (count len : ℕ) (ss : List SmallEntry) → TextsAt count ss len → (count ≤ length ss) × (len ≤ all_taken ss)
texts_within zero len ss h = (omega arith, omega arith)
texts_within (suc count) len [] h = absurd h
texts_within (suc count) len (s ∷ ss) h =
    let k = texts_within count (len - h.0) ss h.3 in
    let e : taken s.kind ≡ h.0 = ap taken h.1 in
    (omega (arith, k.0), omega (arith, k.1, h.2))

pub texts_run : (count len : ℕ) (ss : List SmallEntry) (bytes : List ℕ) → TextsAt count ss len → len ≤ length bytes → IsRun count (entries_at ss bytes) (take len bytes)
texts_run zero len ss bytes h l = ap (λ (n : ℕ). take n bytes) h
texts_run (suc count) len [] bytes h l = absurd h
texts_run (suc count) len (s ∷ ss) bytes h l =
    let k = h.0 in
    let e : k + (len - k) ≡ len = omega (arith, h.2) in
    let t : taken s.kind ≡ k = ap taken h.1 in (
      take k bytes,
      take (len - k) (drop k bytes),
      ap (λ (y : Kind). tok_at y bytes) h.1,
      ap (λ (n : ℕ). take n bytes) (sym e) ∙ take_sum k (len - k) bytes,
      subst (λ (n : ℕ). IsRun count (entries_at ss (drop n bytes)) (take (len - k) (drop k bytes))) (sym t)
          (texts_run count (len - k) ss (drop k bytes) h.3 (omega (arith, length-drop k bytes))),
    )

run_text : (k : Kind) (bytes text : List ℕ) → taken k ≤ length bytes → tok_at k bytes ≡ tok.Text text → taken k ≡ length text
run_text (kind.Text n) bytes text l h = let e : take n bytes ≡ text = cc in sym (length-take-le n bytes l) ∙ ap length e
run_text (kind.Break b) bytes text l h = cc
run_text (kind.Begin c o) bytes text l h = cc
run_text kind.End bytes text l h = cc

-- what is left after texts at the front
pub record RunsOut (count len : ℕ) (ss : List SmallEntry) (bytes : List ℕ) : Type 0 where
  pub count_within : count ≤ length ss
  pub len_within : len ≤ length bytes
  pub whole : all_taken (drop count ss) ≡ length (drop len bytes)
  pub entries : entries_at (drop count ss) (drop len bytes) ≡ drop count (entries_at ss bytes)

pub runs_out : (count len : ℕ) (ss : List SmallEntry) (bytes run : List ℕ) → all_taken ss ≡ length bytes → IsRun count (entries_at ss bytes) run → len ≡ length run → RunsOut count len ss bytes
runs_out zero len ss bytes run w h l =
    let e : len ≡ 0 = l ∙ ap length h in
    record {
      count_within = omega arith;
      len_within = omega (arith, e);
      whole = subst (λ (n : ℕ). all_taken ss ≡ length (drop n bytes)) (sym e) w;
      entries = ap (λ (n : ℕ). entries_at ss (drop n bytes)) e;
    }
runs_out (suc count) len [] bytes run w h l = absurd h
runs_out (suc count) len (s ∷ ss) bytes run w h l =
    let text = h.0 in
    let rest = h.1 in
    let i : taken s.kind ≤ length bytes = omega arith in
    let t : taken s.kind ≡ length text = run_text s.kind bytes text i h.2 in
    let n : length run ≡ length text + length rest = ap length h.3 ∙ length-append text rest in
    let r = runs_out count (len - taken s.kind) ss (drop (taken s.kind) bytes) rest (omega (arith, length-drop (taken s.kind) bytes)) h.4 (omega (arith, t, n)) in
    let d : drop (len - taken s.kind) (drop (taken s.kind) bytes) ≡ drop len bytes = drop-drop (len - taken s.kind) (taken s.kind) bytes ∙ ap (λ (k : ℕ). drop k bytes) (let e : taken s.kind + (len - taken s.kind) ≡ len = omega (arith, t, n) in e) in
    record {
      count_within = omega (arith, r.count_within);
      len_within = omega (arith, r.len_within, length-drop (taken s.kind) bytes, t, n);
      whole = r.whole ∙ ap length d;
      entries = ap (entries_at (drop count ss)) (sym d) ∙ r.entries;
    }

-- an entry that is added after the others, with its text after theirs
pub record Added (ss ss' : List SmallEntry) (bytes bytes' : List ℕ) (t : Tok) (size : ℤ) : Type 0 where
  pub whole : all_taken ss' ≡ length bytes'
  pub entries : entries_at ss' bytes' ≡ entries_at ss bytes ++ record { tok = t; size = size_of size } ∷ []

pub text_length : (t : Tok) → text_bytes t ≡ length (text_in t)
text_length (tok.Text text) = refl
text_length (tok.Break b) = refl
text_length (tok.Begin c o) = refl
text_length tok.End = refl

pub added : (ss ss' : List SmallEntry) (bytes bytes' : List ℕ) (k : Kind) (t : Tok) (size : ℤ) → all_taken ss ≡ length bytes → ss' ≡ ss ++ record { kind = k; size = size } ∷ [] → bytes' ≡ bytes ++ text_in t →
    taken k ≡ text_bytes t → tok_at k (text_in t) ≡ t → Added ss ss' bytes bytes' t size
added ss ss' bytes bytes' k t size w a b l e =
    let s : SmallEntry = record { kind = k; size = size } in
    record {
      whole = ap all_taken a ∙ all_taken_more ss s ∙ (let n : all_taken ss + taken k ≡ length (bytes ++ text_in t) = omega (arith, w, l, text_length t, length-append bytes (text_in t)) in n) ∙ ap length (sym b);
      entries = ap₂ entries_at a b ∙ entries_more ss s bytes (text_in t) w ∙ ap (λ (x : Tok). entries_at ss bytes ++ record { tok = x; size = size_of size } ∷ []) e;
    }

-- bytes that were moved to the front
pub moved_to_front : (first end : ℕ) (room : List ℕ) → first ≤ end → end ≤ length room → drop 0 (take (end - first) (drop first room ++ take first room)) ≡ drop first (take end room)
moved_to_front first end room a b =
    take-append-le (end - first) (drop first room) (take first room) (omega (arith, length-drop first room))
    ∙ sym (drop-take first (end - first) room) ∙ ap (λ (n : ℕ). drop first (take n room)) (let e : first + (end - first) ≡ end = omega arith in e)

-- bytes that were put after those that wait
pub put_behind : (first end : ℕ) (room room' more : List ℕ) → first ≤ end → end ≤ length room → take (end + length more) room' ≡ take end room ++ more → drop first (take (end + length more) room') ≡ drop first (take end room) ++ more
put_behind first end room room' more a b h =
    ap (drop first) h ∙ drop-append-le first (take end room) more (omega (arith, length-take-le end room b))

-- room for texts
pub texts_count : (full : Bool) (wait count : ℕ) → texts_beside full wait count ≤ count
texts_count true wait count = omega arith
texts_count false wait count = omega arith

pub fits_more : (full : Bool) (wait count more : ℕ) → 0 < texts_beside full wait count → wait + more ≤ bytes_kept → more ≤ text_most → wait + more ≤ room_in full
fits_more true wait count more r n m = n
fits_more false wait count more r n m = omega arith

pub texts_pushed : (full : Bool) (wait wait' count count' : ℕ) → count' + 1 ≡ count → texts_beside full wait count ≤ texts_beside full wait' count' + 1
texts_pushed true wait wait' count count' h = omega arith
texts_pushed false wait wait' count count' h = omega arith

pub texts_popped : (full : Bool) (wait wait' count count' : ℕ) → wait' ≤ wait → count ≤ count' → texts_beside full wait count ≤ texts_beside full wait' count'
texts_popped true wait wait' count count' w h = h
texts_popped false wait wait' count count' w h = omega arith

pub room_most : (full : Bool) → room_in full ≤ bytes_kept
room_most true = omega arith
room_most false = omega arith

-- bytes that wait, where their room is made longer
pub room_grown : (first end n : ℕ) (room more : List ℕ) → end ≤ n → end ≤ length room → drop first (take end (take n room ++ more)) ≡ drop first (take end room)
room_grown first end n room more a b =
    ap (drop first) (take-append-le end (take n room) more (omega (arith, length-take n room)) ∙ take-take end n room a)
