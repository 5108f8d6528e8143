-- The two loops of the readers: what they read stands there, and what stands there is read.
use Rattle.std.proofs.Common.{◌≡◌, ℕ, zero, suc, ◌<◌, ◌≤◌, Bool, true, false, List, [], ◌∷◌, ◌++◌, ◌⊎◌, inl, inr, length, codes, Some, None, refl, sym, ap, subst, ◌∙◌, if◌then◌else◌, append_assoc, append-nil, arith}
use Rattle.lay_piece.specs.Forms.{closing}
use Rattle.lay_piece.specs.declared.kind.Delim.{Delim}
use Rattle.lay_piece.specs.declared.kind.Kind.TheVariants.{Punct, Closer}
use Rattle.lay_form.specs.Form.{Fixed}
use Rattle.lay_form.specs.Spelled.{IsOne}
use Rattle.lay_form.proofs.FormLaws.{one_end}
use Rattle.lay_node.specs.Ahead.{Tokens, first, tail, is_mark, closes}
use Rattle.lay_node.specs.reader.Exact.{InText}
use Rattle.lay_node.specs.reader.Loops.{Got, ◌>>=◌, repeat_from, repeat, element_end, elements_from, elements}
use Rattle.lay_node.proofs.Fronts.{texts_behind, mark_one, closes_one, one_front, one_shorter, closer_first}
use Rattle.lay_node.proofs.Parts.{Rows, bit_alone, Closed, Behind, Elements}
use Rattle.lay_node.proofs.Steps.{got_same, chosen, bind_some, one_more, no_more}

-- ---- what is read stands there

-- what one step reads, and the texts of what it leaves
abbrev pub SoundStep : {A : Type 0} → (Tokens → Got A) → (A → Tokens → Tokens → Type 0) → Type 0
SoundStep {A} one P = (ts : Tokens) (x : A) (rest : Tokens) → InText ts → one ts ≡ Some (x, rest) → P x ts rest × InText rest

-- the same, where the loop's test holds
abbrev pub SoundTurn : {A : Type 0} → (Tokens → Bool) → (Tokens → Got A) → (A → Tokens → Tokens → Type 0) → Type 0
SoundTurn {A} more one P = (ts : Tokens) (x : A) (rest : Tokens) → InText ts → more ts ≡ true → one ts ≡ Some (x, rest)
    → P x ts rest × InText rest

element_end_is : (d : Delim) (ts rest : Tokens) → element_end (closes d) ts ≡ Some rest
    → IsOne Punct (codes ",") ts rest ⊎ ((first (closes d) ts ≡ true) × (ts ≡ rest))
element_end_is d ts rest h =
    elim (chosen (first (is_mark (codes ",")) ts) (Some (tail ts)) (if first (closes d) ts then Some ts else None) (Some rest) h) [
      | inl g ↦ let e : tail ts ≡ rest = cc g.1 in inl (subst (IsOne Punct (codes ",") ts) e (mark_one (codes ",") ts g.0))
      | inr g ↦ elim (chosen (first (closes d) ts) (Some ts) None (Some rest) g.1) [
        | inl f ↦ let e : ts ≡ rest = cc f.1 in inr (f.0, e)
        | inr f ↦ absurd (cc)
      ]
    ]

elements_closed : {A : Type 0} (d : Delim) (one : Tokens → Got A) (n : ℕ) (found : List A) (ts : Tokens) (xs : List A) (rest : Tokens)
    → first (closes d) ts ≡ true → elements_from (closes d) one n found ts ≡ Some (xs, rest) → (found ≡ xs) × (tail ts ≡ rest)
unfolding elements_from
elements_closed d one zero found ts xs rest c h = absurd (cc)
elements_closed d one (suc n) found ts xs rest c h = got_same found xs (tail ts) rest (rw c at h)

behind_comma : {A : Type 0} (d : Delim) (P : A → Tokens → Tokens → Type 0) (xs : List A) (ts next rest : Tokens) → IsOne Punct (codes ",") ts next
    → Elements d P xs next rest → Behind d P xs ts rest
behind_comma d P [] ts next rest m r = (ts, refl, (next, inr (next, m, refl), r))
behind_comma d P (x ∷ xs) ts next rest m r = let b = r.2 in (b.0, (r.0, (next, m, r.1), b.1), b.2)

module _ {A : Type 0} (more : Tokens → Bool) (one : Tokens → Got A) (P : A → Tokens → Tokens → Type 0) (sound : SoundTurn more one P) where
  repeat_from_sound : (n : ℕ) (found : List A) (ts : Tokens) (xs : List A) (rest : Tokens) → InText ts
      → repeat_from more one n found ts ≡ Some (xs, rest)
      → (ys : List A) × (xs ≡ found ++ ys) × Rows P ys ts rest × InText rest × (more rest ≡ false)
  unfolding repeat_from
  repeat_from_sound zero found ts xs rest t h = absurd (cc)
  repeat_from_sound (suc n) found ts xs rest t h =
      let go_on : A × Tokens → Got (List A) = λ x. repeat_from more one n (found ++ x.0 ∷ []) x.1 in
      elim (chosen (more ts) (one ts >>= go_on) (Some (found, ts)) (Some (xs, rest)) h) [
        | inl g ↦
            let b = bind_some (one ts) go_on (xs, rest) g.1 in
            let s = sound ts b.0.0 b.0.1 t g.0 b.1 in
            let r = repeat_from_sound n (found ++ b.0.0 ∷ []) b.0.1 xs rest s.1 b.2 in
            (b.0.0 ∷ r.0, one_more found b.0.0 r.0 xs r.1, (b.0.1, s.0, r.2), r.3, r.4)
        | inr g ↦
            let e = got_same found xs ts rest g.1 in
            ([], no_more found xs e.0, e.1, subst InText e.1 t, subst (λ us. more us ≡ false) e.1 g.0)
      ]

  pub repeat_sound : (ts : Tokens) (xs : List A) (rest : Tokens) → InText ts → repeat more one ts ≡ Some (xs, rest)
      → Rows P xs ts rest × InText rest × (more rest ≡ false)
  unfolding repeat
  repeat_sound ts xs rest t h =
      let r = repeat_from_sound (suc (length ts)) [] ts xs rest t h in
      (subst (λ ys. Rows P ys ts rest) (sym r.1) r.2, r.3, r.4)

module _ {A : Type 0} (one : Tokens → Got A) (P : A → Tokens → Tokens → Type 0) (sound : SoundStep one P) where
  elements_from_sound : (d : Delim) (n : ℕ) (found : List A) (ts : Tokens) (xs : List A) (rest : Tokens) → InText ts
      → elements_from (closes d) one n found ts ≡ Some (xs, rest) → (ys : List A) × (xs ≡ found ++ ys) × Elements d P ys ts rest × InText rest
  unfolding elements_from
  elements_from_sound d zero found ts xs rest t h = absurd (cc)
  elements_from_sound d (suc n) found ts xs rest t h =
      let go_on : A × Tokens → Got (List A) = λ x. element_end (closes d) x.1 >>= (λ next. elements_from (closes d) one n (found ++ x.0 ∷ []) next) in
      let closed : (us : Tokens) → InText us → first (closes d) us ≡ true → tail us ≡ rest → Closed d us rest × InText rest =
      λ us p c e.
      let o = closes_one d us p c in
      (subst (Closed d us) e o, subst InText e (texts_behind us (tail us) (one_end _ _ us (tail us) o) p)) in
      elim (chosen (first (closes d) ts) (Some (found, tail ts)) (one ts >>= go_on) (Some (xs, rest)) h) [
        | inl g ↦
            let e = got_same found xs (tail ts) rest g.1 in
            let c = closed ts t g.0 e.1 in ([], no_more found xs e.0, c.0, c.1)
        | inr g ↦
            let b = bind_some (one ts) go_on (xs, rest) g.1 in
            let s = sound ts b.0.0 b.0.1 t b.1 in
            let c = bind_some (element_end (closes d) b.0.1) (λ next. elements_from (closes d) one n (found ++ b.0.0 ∷ []) next) (xs, rest) b.2 in
            elim (element_end_is d b.0.1 c.0 c.1) [
              | inl m ↦
                  let left = texts_behind b.0.1 c.0 (one_end Punct (codes ",") b.0.1 c.0 m) s.1 in
                  let r = elements_from_sound d n (found ++ b.0.0 ∷ []) c.0 xs rest left c.2 in
                  (b.0.0 ∷ r.0, one_more found b.0.0 r.0 xs r.1, (b.0.1, s.0, behind_comma d P r.0 b.0.1 c.0 rest m r.2), r.3)
              | inr m ↦
                  let here : first (closes d) c.0 ≡ true = subst (λ us. first (closes d) us ≡ true) m.1 m.0 in
                  let e = elements_closed d one n (found ++ b.0.0 ∷ []) c.0 xs rest here c.2 in
                  let f = closed b.0.1 s.1 m.0 (ap tail m.1 ∙ e.1) in
                  (b.0.0 ∷ [], sym e.0, (b.0.1, s.0, (b.0.1, refl, (b.0.1, inl refl, f.0))), f.1)
            ]
      ]

  pub elements_sound : (d : Delim) (ts : Tokens) (xs : List A) (rest : Tokens) → InText ts → elements (closes d) one ts ≡ Some (xs, rest)
      → Elements d P xs ts rest × InText rest
  unfolding elements
  elements_sound d ts xs rest t h =
      let r = elements_from_sound d (suc (length ts)) [] ts xs rest t h in
      (subst (λ ys. Elements d P ys ts rest) (sym r.1) r.2, r.3)

-- ---- what stands there is read

-- a turn of a loop: the loop goes on, reads this, and leaves fewer tokens
abbrev pub Turn : {A : Type 0} → (Tokens → Bool) → (Tokens → Got A) → A → Tokens → Tokens → Type 0
Turn more one x ts mid = (more ts ≡ true) × (one ts ≡ Some (x, mid)) × (length mid < length ts)

-- an element of a list: nothing closes the list there, this is read, and fewer tokens are left
abbrev pub Element : {A : Type 0} → Delim → (Tokens → Got A) → A → Tokens → Tokens → Type 0
Element d one x ts mid = (first (closes d) ts ≡ false) × (one ts ≡ Some (x, mid)) × (length mid < length ts)

closed_shorter : (d : Delim) (ts rest : Tokens) → Closed d ts rest → length rest < length ts
closed_shorter d ts rest o = one_shorter (Closer d) (closing d ∷ []) ts rest o

closer_ends : (d : Delim) (ts rest : Tokens) → Closed d ts rest → element_end (closes d) ts ≡ Some ts
closer_ends d ts rest o =
    let no_comma : first (is_mark (codes ",")) ts ≡ false = rw (one_front (Closer d) (closing d ∷ []) ts rest o).1 refl in
    rw (no_comma, (closer_first d ts rest o).0) refl

comma_ends : (d : Delim) (ts rest : Tokens) → IsOne Punct (codes ",") ts rest → element_end (closes d) ts ≡ Some rest
comma_ends d ts rest o = rw (one_front Punct (codes ",") ts rest o).1 refl

module _ {A : Type 0} (one : Tokens → Got A) where
  repeat_from_complete : (more : Tokens → Bool) (xs : List A) (n : ℕ) (found : List A) (ts rest : Tokens) → length ts < n
      → Rows (Turn more one) xs ts rest → more rest ≡ false → repeat_from more one n found ts ≡ Some (found ++ xs, rest)
  unfolding repeat_from
  repeat_from_complete more xs zero found ts rest lt r h = absurd (omega arith)
  repeat_from_complete more [] (suc n) found ts rest lt r h = rw (r, h, append-nil found) refl
  repeat_from_complete more (x ∷ xs) (suc n) found ts rest lt r h =
      let turn = r.1 in
      let less : length r.0 < n = omega (arith, lt, turn.2) in
      let go : repeat_from more one n (found ++ x ∷ []) r.0 ≡ Some ((found ++ x ∷ []) ++ xs, rest) =
      repeat_from_complete more xs n (found ++ x ∷ []) r.0 rest less r.2 h in
      rw (turn.0, turn.1, go, append_assoc found (x ∷ []) xs) refl

  pub repeat_complete : (more : Tokens → Bool) (xs : List A) (ts rest : Tokens) → Rows (Turn more one) xs ts rest → more rest ≡ false
      → repeat more one ts ≡ Some (xs, rest)
  unfolding repeat
  repeat_complete more xs ts rest r h =
      let lt : length ts < suc (length ts) = omega arith in repeat_from_complete more xs (suc (length ts)) [] ts rest lt r h

  closed_complete : (d : Delim) (n : ℕ) (found : List A) (ts rest : Tokens) → length ts ≤ n → Closed d ts rest
      → elements_from (closes d) one n found ts ≡ Some (found ++ [], rest)
  unfolding elements_from
  closed_complete d zero found ts rest le o = absurd (omega (arith, le, closed_shorter d ts rest o))
  closed_complete d (suc n) found ts rest le o = let c = closer_first d ts rest o in rw (c.0, c.1, append-nil found) refl

  -- what follows an element, and what is read of it
  abbrev ReadBehind : Delim → ℕ → List A → List A → Tokens → Tokens → Type 0
  ReadBehind d n found xs ts rest =
      (next : Tokens) × (element_end (closes d) ts ≡ Some next) × (elements_from (closes d) one n found next ≡ Some (found ++ xs, rest))

  behind_complete : (d : Delim) (xs : List A) (n : ℕ) (found : List A) (ts rest : Tokens) → length ts ≤ n → Behind d (Element d one) xs ts rest
      → ReadBehind d n found xs ts rest
  unfolding elements_from
  behind_complete d [] n found ts rest le b =
      let last = b.2 in
      elim last.1 [
        | inl e ↦
            let here : Closed d ts rest = rw (b.1, e) last.2 in
            (ts, closer_ends d ts rest here, closed_complete d n found ts rest le here)
        | inr m ↦
            let here : IsOne Punct (codes ",") ts last.0 = rw b.1 (bit_alone (Fixed Punct (codes ",")) b.0 last.0 m) in
            let less : length last.0 ≤ n = omega (arith, le, one_shorter Punct (codes ",") ts last.0 here) in
            (last.0, comma_ends d ts last.0 here, closed_complete d n found last.0 rest less last.2)
      ]
  behind_complete d (x ∷ xs) zero found ts rest le b =
      let row = b.1.1 in absurd (omega (arith, le, one_shorter Punct (codes ",") ts row.0 row.1))
  behind_complete d (x ∷ xs) (suc n) found ts rest le b =
      let row = b.1.1 in
      let mid = b.1.0 in
      let element = row.2 in
      let less : length mid ≤ n = omega (arith, le, one_shorter Punct (codes ",") ts row.0 row.1, element.2) in
      let more = behind_complete d xs n (found ++ x ∷ []) mid rest less (b.0, b.1.2, b.2) in
      (row.0, comma_ends d ts row.0 row.1, rw (element.0, element.1, more.1, more.2, append_assoc found (x ∷ []) xs) refl)

  pub elements_complete : (d : Delim) (xs : List A) (ts rest : Tokens) → Elements d (Element d one) xs ts rest
      → elements (closes d) one ts ≡ Some (xs, rest)
  unfolding elements elements_from
  elements_complete d [] ts rest r = let le : length ts ≤ suc (length ts) = omega arith in closed_complete d (suc (length ts)) [] ts rest le r
  elements_complete d (x ∷ xs) ts rest r =
      let element = r.1 in
      let less : length r.0 ≤ length ts = omega (arith, element.2) in
      let more = behind_complete d xs (length ts) (x ∷ []) r.0 rest less r.2 in
      rw (element.0, element.1, more.1, more.2) refl

-- ---- what follows an element

-- A comma stands there, or what closes the list.
abbrev pub Ends : Delim → Tokens → Type 0
Ends d ts = (rest : Tokens) × (IsOne Punct (codes ",") ts rest ⊎ Closed d ts rest)

abbrev pub Ended : {A : Type 0} → Delim → (A → Tokens → Tokens → Type 0) → A → Tokens → Tokens → Type 0
Ended d P x ts mid = P x ts mid × Ends d mid

behind_ends : {A : Type 0} (d : Delim) (P : A → Tokens → Tokens → Type 0) (xs : List A) (ts rest : Tokens) → Behind d P xs ts rest
    → Ends d ts × Behind d (Ended d P) xs ts rest
behind_ends d P [] ts rest b =
    let last = b.2 in (
      elim last.1 [
        | inl e ↦ (rest, inr (rw (b.1, e) last.2))
        | inr m ↦ (last.0, inl (rw b.1 (bit_alone (Fixed Punct (codes ",")) b.0 last.0 m)))
      ],
      b,
    )
behind_ends d P (x ∷ xs) ts rest b =
    let row = b.1.1 in
    let more = behind_ends d P xs b.1.0 rest (b.0, b.1.2, b.2) in
    let behind = more.1 in
    ((row.0, inl row.1), (behind.0, (b.1.0, (row.0, row.1, (row.2, more.0)), behind.1), behind.2))

pub elements_end : {A : Type 0} (d : Delim) (P : A → Tokens → Tokens → Type 0) (xs : List A) (ts rest : Tokens) → Elements d P xs ts rest
    → Elements d (Ended d P) xs ts rest
elements_end d P [] ts rest r = r
elements_end d P (x ∷ xs) ts rest r = let b = behind_ends d P xs r.0 rest r.2 in (r.0, (r.1, b.0), b.1)
