-- A page that moves from state to state.
use Rattle.std.proofs.Common.{◌≡◌, ℕ, zero, suc, ◌+◌, ◌-◌, ◌≤◌, min, List, [], ◌∷◌, ◌++◌, replicate, take, Option, Some, None, Result, Ok, Err, IsErrAnd, refl, sym, ap, ◌∙◌, subst, append_assoc, append-nil, take-append-drop, drop, arith}
use Rattle.lay_layout.specs.Margins.{greatest_blanks}
use Rattle.lay_layout.specs.Document.{State, write, put_mark, skip}
use Rattle.lay_layout.specs.declared.layout.Break.{Break}
use Rattle.lay_io.specs.Told.{GrewBy, GrewByPrefix}
use Rattle.lay_io.specs.Calls.{Writes}
use Rattle.lay_stream.specs.declared.line.Line.{Line}
use Rattle.lay_io.proofs.Growth.{grew_by-more, grew_by_prefix-more, grew_by_prefix-longer}
use Rattle.lay_stream.specs.Pages.{greatest_used, Is, Wrote, Cut, Moves}

take-replicate : (k n x : ℕ) → k ≤ n → take k (replicate n x) ≡ replicate k x
take-replicate zero n x l = refl
take-replicate (suc k) zero x l = absurd (omega arith)
take-replicate (suc k) (suc n) x l = ap (λ (y : List ℕ). x ∷ y) (take-replicate k n x (omega arith))

replicate-add : (m n x : ℕ) → replicate m x ++ replicate n x ≡ replicate (m + n) x
replicate-add zero n x = let e : n ≡ 0 + n = omega arith in ap (λ (k : ℕ). replicate k x) e
replicate-add (suc m) n x =
    let e : suc (m + n) ≡ suc m + n = omega arith in
    ap (λ (y : List ℕ). x ∷ y) (replicate-add m n x) ∙ ap (λ (k : ℕ). replicate k x) e

blanked : (p q : Line) (k : Break) (s : State) → q.pending ≡ min (p.pending + k.blank) greatest_blanks → q.used ≡ min (p.used + k.blank) greatest_used → q.room ≡ p.room → Is p s →
    Is q (record { text = s.text; pending = min (s.pending + k.blank) greatest_blanks; room = s.room; used = s.used + k.blank })
blanked p q k s e f g i = record { pending = omega (arith, i.pending); room = omega (arith, i.room); small = i.small; used = omega (arith, i.used) }

-- what was written is a prefix of what will be
abbrev pub Grows : List ℕ → List ℕ → Type 0
Grows a b = (u : List ℕ) × (b ≡ a ++ u)

-- a prefix of what is a prefix
pub cut_more : (now : Option (List ℕ)) (content t u : List ℕ) → Cut now content t → Grows t u → Cut now content u
cut_more None content t u h g = tt
cut_more (Some all) content t u h g =
    (h.0, h.1 ++ g.0, h.2, sym (append_assoc h.0 h.1 g.0) ∙ ap (λ (x : List ℕ). x ++ g.0) h.3 ∙ sym g.1)

pub wrote_cut : (now : Option (List ℕ)) (content t : List ℕ) → Wrote now content t → Cut now content t
wrote_cut None content t h = tt
wrote_cut (Some all) content t h = (t, [], h, append-nil t)

-- bytes are appended
pub wrote_more : (before now : Option (List ℕ)) (content t piece : List ℕ) → Wrote before content t → GrewBy before now piece → Wrote now content (t ++ piece)
wrote_more before None content t piece w g = tt
wrote_more None (Some all) content t piece w g = cc
wrote_more (Some old) (Some all) content t piece w g =
    let e : old ++ piece ≡ all = cc in
    sym e ∙ ap (λ (x : List ℕ). x ++ piece) w ∙ append_assoc content t piece

pub cut_part : (before now : Option (List ℕ)) (content t piece : List ℕ) → Wrote before content t → GrewByPrefix before now piece → Cut now content (t ++ piece)
cut_part before now content t piece w g =
    cut_more now content (t ++ take g.0 piece) (t ++ piece) (wrote_cut now content (t ++ take g.0 piece) (wrote_more before now content t (take g.0 piece) w g.1))
    (drop g.0 piece, ap (λ (x : List ℕ). t ++ x) (sym (take-append-drop g.0 piece)) ∙ sym (append_assoc t (take g.0 piece) (drop g.0 piece)))

-- one more, after one that answered Ok
pub moves_then : {T U E F : Type 0} (p q r : Line) (b m n : Option (List ℕ)) (x : T) (res : Result U F) (f g : State → State) →
    Moves {E = E} p b (Ok x) q m f → Moves q m res r n g → Moves p b res r n (λ s. g (f s))
moves_then p q r b m n x (Ok y) f g h k = record { ok = λ c s i w. let a = h.ok c s i w in k.ok c (f s) a.0 a.1; err = tt }
moves_then p q r b m n x (Err y) f g h k = record { ok = tt; err = λ c s i w. let a = h.ok c s i w in k.err c (f s) a.0 a.1 }

-- the same move by another name
pub moves_as : {T E : Type 0} (p q : Line) (b n : Option (List ℕ)) (res : Result T E) (f g : State → State) → ((s : State) → f s ≡ g s) →
    Moves p b res q n f → Moves p b res q n g
moves_as p q b n (Ok y) f g e h = record { ok = λ c s i w. let a = h.ok c s i w in (subst (λ (t : State). Is q t) (e s) a.0, subst (λ (t : State). Wrote n c t.text) (e s) a.1); err = tt }
moves_as p q b n (Err y) f g e h = record { ok = tt; err = λ c s i w. subst (λ (t : State). Cut n c t.text) (e s) (h.err c s i w) }

-- blanks that wait are added, and then a mark is put
pub moves_blanks : {T E : Type 0} (p q r : Line) (b n : Option (List ℕ)) (res : Result T E) (k : Break) →
    q.pending ≡ min (p.pending + k.blank) greatest_blanks → q.used ≡ min (p.used + k.blank) greatest_used → q.room ≡ p.room →
    Moves q b res r n (put_mark k.instead) → Moves p b res r n (skip k)
moves_blanks p q r b n (Ok y) k e f g h = record {
  ok = λ c s i w. h.ok c (record { text = s.text; pending = min (s.pending + k.blank) greatest_blanks; room = s.room; used = s.used + k.blank }) (blanked p q k s e f g i) w;
  err = tt;
}
moves_blanks p q r b n (Err y) k e f g h = record {
  ok = tt;
  err = λ c s i w. h.err c (record { text = s.text; pending = min (s.pending + k.blank) greatest_blanks; room = s.room; used = s.used + k.blank }) (blanked p q k s e f g i) w;
}

-- the blanks weren't all written
pub moves_no_blanks : {U E : Type 0} (p q : Line) (b n : Option (List ℕ)) (e : E) (res : Result U E) (bytes : List ℕ) → IsErrAnd res (λ y. y ≡ e) →
    GrewByPrefix b n (replicate p.pending 32) → Moves p b res q n (write bytes)
moves_no_blanks p q b n e (Ok y) bytes i h = absurd i
moves_no_blanks p q b n e (Err y) bytes i h = record {
  ok = tt;
  err = λ c s j w.
      let a : GrewByPrefix b n (replicate s.pending 32) = subst (λ (k : ℕ). GrewByPrefix b n (replicate k 32)) j.pending h in
      cut_more n c (s.text ++ replicate s.pending 32) (write bytes s).text (cut_part b n c s.text (replicate s.pending 32) w a) (bytes, sym (append_assoc s.text (replicate s.pending 32) bytes));
}

-- the bytes weren't all written
pub moves_no_bytes : {U E : Type 0} (p q : Line) (b m n : Option (List ℕ)) (e : E) (res : Result U E) (bytes : List ℕ) → IsErrAnd res (λ y. y ≡ e) →
    GrewBy b m (replicate p.pending 32) → GrewByPrefix m n bytes → Moves p b res q n (write bytes)
moves_no_bytes p q b m n e (Ok y) bytes i h k = absurd i
moves_no_bytes p q b m n e (Err y) bytes i h k = record {
  ok = tt;
  err = λ c s j w.
      let a : GrewBy b m (replicate s.pending 32) = subst (λ (x : ℕ). GrewBy b m (replicate x 32)) j.pending h in
      subst (λ (x : List ℕ). Cut n c x) (append_assoc s.text (replicate s.pending 32) bytes)
      (cut_part m n c (s.text ++ replicate s.pending 32) bytes (wrote_more b m c s.text (replicate s.pending 32) w a) k);
}

-- count more blanks
pub blanks_more : (start before now : Option (List ℕ)) (all left count : ℕ) → left ≤ all → count ≤ left → count ≤ 64 →
    GrewBy start before (replicate (all - left) 32) → GrewBy before now (take count (replicate 64 32)) → GrewBy start now (replicate (all - (left - count)) 32)
blanks_more start before now all left count a b d h k =
    subst (λ (x : List ℕ). GrewBy start now x) (ap (λ (x : List ℕ). replicate (all - left) 32 ++ x) (take-replicate count 64 32 d) ∙ replicate-add (all - left) count 32 ∙ ap (λ (x : ℕ). replicate x 32) (let e : (all - left) + count ≡ all - (left - count) = omega arith in e))
    (grew_by-more start before now (replicate (all - left) 32) (take count (replicate 64 32)) h k)

pub blanks_err : {U E : Type 0} (start before now : Option (List ℕ)) (all left : ℕ) (e : E) (res : Result U E) (count : ℕ) → IsErrAnd res (λ y. y ≡ e) → left ≤ all → count ≤ left → count ≤ 64 →
    GrewBy start before (replicate (all - left) 32) → GrewByPrefix before now (take count (replicate 64 32)) → Writes start now res (replicate all 32)
blanks_err start before now all left e (Ok y) count i a b d h k = absurd i
blanks_err start before now all left e (Err y) count i a b d h k =
    let f : replicate (all - left) 32 ++ (take count (replicate 64 32) ++ replicate (left - count) 32) ≡ replicate all 32 =
    ap (λ (x : List ℕ). replicate (all - left) 32 ++ (x ++ replicate (left - count) 32)) (take-replicate count 64 32 d)
    ∙ ap (λ (x : List ℕ). replicate (all - left) 32 ++ x) (replicate-add count (left - count) 32)
    ∙ replicate-add (all - left) (count + (left - count)) 32 ∙ ap (λ (x : ℕ). replicate x 32) (let e : (all - left) + (count + (left - count)) ≡ all = omega arith in e) in
    subst (λ (x : List ℕ). GrewByPrefix start now x) f
    (grew_by_prefix-more start before now (replicate (all - left) 32) (take count (replicate 64 32) ++ replicate (left - count) 32) h
    (grew_by_prefix-longer before now (take count (replicate 64 32)) (replicate (left - count) 32) k))
