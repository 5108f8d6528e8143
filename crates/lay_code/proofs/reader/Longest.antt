-- The longest run of nodes: what is read stands there, and a run that stands there is read as far as it goes.
use Rattle.std.proofs.Common.{◌≡◌, ℕ, zero, suc, ◌<◌, ◌≤◌, List, [], ◌∷◌, ◌++◌, length, Some, None, refl, sym, subst, append_assoc, append-nil, arith}
use Rattle.lay_node.specs.Ahead.{Tokens}
use Rattle.lay_node.specs.reader.Exact.{InText}
use Rattle.lay_node.specs.reader.Loops.{Got}
use Rattle.lay_node.proofs.Parts.{Rows}
use Rattle.lay_node.proofs.Steps.{one_more}
use Rattle.lay_node.proofs.reader.Loops.{SoundStep}
use Rattle.lay_code.specs.reader.File.{behind_one, longest_from, longest}

-- ---- what is read stands there

module _ {A : Type 0} (one : Tokens → Got A) (P : A → Tokens → Tokens → Type 0) (sound : SoundStep one P) where
  -- after what was found, the nodes of a run stand up to what it leaves
  abbrev Stand : List A → Tokens → List A × Tokens → Type 0
  Stand found ts run = (ys : List A) × (run.0 ≡ found ++ ys) × Rows P ys ts run.1 × InText run.1

  pub longest_from_sound : (n : ℕ) (found : List A) (ts : Tokens) → InText ts → Stand found ts (longest_from one n found ts)
  unfolding longest_from
  longest_from_sound zero found ts t = ([], sym (append-nil found), refl, t)
  longest_from_sound (suc n) found ts t =
      by (one ts) refl (λ x us u. longest_from_sound n (found ++ x ∷ []) us u)
    where
      by : (o : Got A) → one ts ≡ o
          → ((x : A) (us : Tokens) → InText us → Stand (found ++ x ∷ []) us (longest_from one n (found ++ x ∷ []) us))
          → Stand found ts (behind_one (longest_from one n) found ts o)
      by None e more = ([], sym (append-nil found), refl, t)
      by (Some x) e more =
          let s = sound ts x.0 x.1 t e in
          let r = more x.0 x.1 s.1 in
          (x.0 ∷ r.0, one_more found x.0 r.0 (longest_from one n (found ++ x.0 ∷ []) x.1).0 r.1, (x.1, s.0, r.2), r.3)

  pub longest_sound : (ts : Tokens) → InText ts → Rows P (longest one ts).0 ts (longest one ts).1 × InText (longest one ts).1
  unfolding longest
  longest_sound ts t =
      let r = longest_from_sound (length ts) [] ts t in
      (subst (λ ys. Rows P ys ts (longest_from one (length ts) [] ts).1) (sym r.1) r.2, r.3)

-- ---- what stands there is read

-- A node is read, and leaves fewer tokens.
abbrev pub Reads : {A : Type 0} → (Tokens → Got A) → A → Tokens → Tokens → Type 0
Reads one x ts mid = (one ts ≡ Some (x, mid)) × (length mid < length ts)

module _ {A : Type 0} (one : Tokens → Got A) where
  -- a run ends where none is read
  pub longest_end : (n : ℕ) (found : List A) (ts : Tokens) → one ts ≡ None → longest_from one n found ts ≡ (found, ts)
  unfolding longest_from
  longest_end zero found ts e = refl
  longest_end (suc n) found ts e = rw e refl

  -- The nodes that stand there are found, and turns enough are left after them.
  past : (ys : List A) (n : ℕ) (found : List A) (ts mid : Tokens) → length ts ≤ n → Rows (Reads one) ys ts mid
      → (m : ℕ) × (longest_from one n found ts ≡ longest_from one m (found ++ ys) mid)
  unfolding longest_from
  past [] n found ts mid enough r = (n, rw (r, append-nil found) refl)
  past (y ∷ ys) zero found ts mid enough r = absurd (omega (arith, enough, r.1.1))
  past (y ∷ ys) (suc n) found ts mid enough r =
      let s = past ys n (found ++ y ∷ []) r.0 mid (omega (arith, enough, r.1.1)) r.2 in
      (s.0, rw (r.1.0, ← append_assoc found (y ∷ []) ys) s.1)

  pub longest_past : (ys : List A) (ts mid : Tokens) → Rows (Reads one) ys ts mid
      → (m : ℕ) × (longest one ts ≡ longest_from one m ys mid)
  unfolding longest
  longest_past ys ts mid r = past ys (length ts) [] ts mid (omega arith) r
