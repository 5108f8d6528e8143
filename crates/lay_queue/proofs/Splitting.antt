-- The newest item of a list.
use Rattle.std.proofs.Common.{◌≡◌, ℕ, zero, suc, ◌-◌, ◌<◌, inl, inr, List, [], ◌∷◌, ◌++◌, length, take, slice_get, Option, Some, None, MatchOption, refl, sym, ap, ◌∙◌, arith}
use Rattle.lay_queue.specs.declared.close.Note.{Note}
use Rattle.lay_queue.specs.Closed.{NoteKept}

-- the last item and those before it
at_last : {X : Type 0} (xs : List X) (k : ℕ) (x : X) → length xs ≡ suc k → Some x ≡ slice_get xs k → xs ≡ take k xs ++ x ∷ []
at_last [] k x l h = absurd (omega arith)
at_last (y ∷ []) zero x l h = let e : x ≡ y = cc in ap (λ (z : _). z ∷ []) (sym e)
at_last (y ∷ []) (suc k) x l h = absurd (omega arith)
at_last (y ∷ z ∷ xs) zero x l h = absurd (omega arith)
at_last (y ∷ z ∷ xs) (suc k) x l h = ap (λ (w : _). y ∷ w) (at_last (z ∷ xs) k x (omega arith) h)

none_at : {X : Type 0} (xs : List X) (k : ℕ) → k < length xs → None ≡ slice_get xs k → ⊥
none_at [] k l h = absurd (omega arith)
none_at (y ∷ xs) zero l h = cc
none_at (y ∷ xs) (suc k) l h = none_at xs k (omega arith) h

pub none_last : {X : Type 0} (xs : List X) → None ≡ slice_get xs (length xs - 1) → xs ≡ []
none_last [] h = refl
none_last (y ∷ xs) h = absurd (none_at (y ∷ xs) (length (y ∷ xs) - 1) (omega arith) h)

pub some_last : {X : Type 0} (xs : List X) (x : X) → Some x ≡ slice_get xs (length xs - 1) → xs ≡ take (length xs - 1) xs ++ x ∷ []
some_last [] x h = cc
some_last (y ∷ xs) x h = at_last (y ∷ xs) (length (y ∷ xs) - 1) x (omega arith) h

pub popped_last : {X : Type 0} (xs ys : List X) (r : Option X) → r ≡ slice_get xs (length xs - 1) → ys ≡ take (length xs - 1) xs → MatchOption r (ys ≡ xs) (λ x. xs ≡ ys ++ x ∷ [])
popped_last xs ys None h e = let a = none_last xs h in e ∙ ap (λ (z : List _). take (length z - 1) z) a ∙ sym a
popped_last xs ys (Some x) h e = some_last xs x h ∙ ap (λ (z : List _). z ++ x ∷ []) (sym e)

pub kept_none : (cur : ℕ) (ms : List Note) → None ≡ slice_get ms (length ms - 1) → NoteKept cur ms
kept_none cur ms h = inl (none_last ms h)

pub kept_below : (cur : ℕ) (ms : List Note) (n : Note) → Some n ≡ slice_get ms (length ms - 1) → n.level < cur → NoteKept cur ms
kept_below cur ms n h l = inr (take (length ms - 1) ms, n, some_last ms n h, l)
