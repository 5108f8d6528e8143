-- From what stands before what is left to a count of tokens; and that at most one node and one count fit.
use Rattle.std.proofs.Common.{◌≡◌, ℕ, ◌≤◌, ◌∙◌, true, length, drop, Some, refl, sym, ap, subst, arith, length-append, length-drop}
use Rattle.std.proofs.lemmas.List.{drop_at}
use Rattle.lay_form.specs.Spelled.{Spells}
use Rattle.lay_form.proofs.FormLaws.{is_end}
use Rattle.lay_node.specs.Ahead.{Tokens}
use Rattle.lay_node.specs.Follow.{may_follow}
use Rattle.lay_node.specs.nodes.Facts.{Facts, Front}
use Rattle.lay_node.specs.reader.Exact.{InText, Exact, needless}
use Rattle.lay_node.specs.reader.Loops.{Got, Read}
use Rattle.lay_node.proofs.Steps.{or_else, bind_some, read_same}

-- A node with these facts stands before the rest.
abbrev pub Stands : Facts → ℕ → Tokens → Tokens → Type 0
Stands x depth ts rest = Spells x.form depth ts rest × (x.good ≡ true) × (may_follow x.refuses rest ≡ true)

-- What is read stands there at the depth that it needs.
abbrev pub Sound : {A : Type 0} → (A → Facts) → ℕ → (Tokens → Read A) → Type 0
Sound {A} about budget read = (ts : Tokens) (x : A) (need : ℕ) (rest : Tokens) → InText ts → read ts ≡ Some ((x, need), rest)
    → (need ≤ budget) × Stands (about x) need ts rest

-- What stands there at the depth is read, with its need.
abbrev pub IsRead : {A : Type 0} → ℕ → (Tokens → Read A) → A → Tokens → Tokens → Type 0
IsRead depth read x ts rest = (need : ℕ) × (need ≤ depth) × (read ts ≡ Some ((x, need), rest))

abbrev pub Complete : {A : Type 0} → (A → Facts) → ℕ → (Tokens → Read A) → Type 0
Complete {A} about depth read = (x : A) (ts rest : Tokens) → Stands (about x) depth ts rest → IsRead depth read x ts rest

pub counted : (x : Facts) (depth : ℕ) (ts rest : Tokens) → Stands x depth ts rest → (n : ℕ) × (drop n ts ≡ rest) × Front x ts n depth
counted x depth ts rest s =
    let e = is_end x.form depth ts rest s.0 in
    let n = length e.before in
    let dropped : drop n ts ≡ rest = ap (λ (us : Tokens). drop n us) e.whole ∙ drop_at e.before rest n refl in
    let le : n ≤ length ts = omega (arith, ap length e.whole, length-append e.before rest) in
    let front : Front x ts n depth =
    (le, subst (λ us. Spells x.form depth ts us) (sym dropped) s.0, s.1, subst (λ us. may_follow x.refuses us ≡ true) (sym dropped) s.2) in
    (n, dropped, front)

pub exact : {A : Type 0} (about : A → Facts) (read : ℕ → Tokens → Read A) → ((budget : ℕ) → Sound about budget (read budget))
    → ((depth budget : ℕ) → depth ≤ budget → Complete about depth (read budget)) → Exact read (λ x. Front (about x))
exact about read sound complete = record {
  sound = λ budget ts x need rest t h.
      let s = sound budget ts x need rest t h in
      let c = counted (about x) need ts rest s.1 in (c.0, c.1, s.0, c.2);
  complete = λ x ts n depth f budget h. complete depth budget h x ts (drop n ts) (f.1, f.2, f.3);
}

-- a reading of nodes with no nodes within them
pub needless_sound : {A : Type 0} (about : A → Facts) (one : Tokens → Got A)
    → ((ts : Tokens) (x : A) (rest : Tokens) → InText ts → one ts ≡ Some (x, rest) → Stands (about x) 0 ts rest)
    → (budget : ℕ) → Sound about budget (needless one budget)
needless_sound {A} about one sound budget ts x need rest t h =
    let last : A × Tokens → Read A = λ y. Some ((y.0, 0), y.1) in
    let b = bind_some (one ts) last ((x, need), rest) h in
    let e = read_same b.0.0 x 0 need b.0.1 rest b.2 in
    let same : one ts ≡ Some (x, rest) = b.1 ∙ ap (λ (y : A). let found : Got A = Some (y, b.0.1) in found) e.0 ∙ ap (λ (us : Tokens). let found : Got A = Some (x, us) in found) e.2 in
    (omega (arith, e.1), subst (λ n. Stands (about x) n ts rest) e.1 (sound ts x rest t same))

pub needless_complete : {A : Type 0} (about : A → Facts) (one : Tokens → Got A)
    → ((x : A) (depth : ℕ) (ts rest : Tokens) → Stands (about x) depth ts rest → one ts ≡ Some (x, rest))
    → (depth budget : ℕ) → depth ≤ budget → Complete about depth (needless one budget)
needless_complete about one complete depth budget h x ts rest s = (0, omega arith, rw (complete x depth ts rest s) refl)

-- One reading gives one node and one count of tokens, where a prefix is no longer than the tokens.
pub one_by_reading : {A : Type 0} (Fits : A → Tokens → ℕ → ℕ → Type 0) (read : ℕ → Tokens → Read A)
    → ((x : A) (ts : Tokens) (n depth : ℕ) → Fits x ts n depth → n ≤ length ts) → Exact read Fits
    → (node other : A) (ts : Tokens) (n m depth : ℕ) → Fits node ts n depth → Fits other ts m depth → (node ≡ other) × (n ≡ m)
one_by_reading {A} Fits read within exactly node other ts n m depth f g =
    let a = exactly.complete node ts n depth f depth (omega arith) in
    let b = exactly.complete other ts m depth g depth (omega arith) in
    let e : ◌≡◌ {A = (A × ℕ) × Tokens} ((node, a.0), drop n ts) ((other, b.0), drop m ts) =
    ap (or_else ((node, a.0), drop n ts)) (sym a.2 ∙ b.2) in
    let left : length (drop n ts) ≡ length (drop m ts) = ap (λ (x : (A × ℕ) × Tokens). length x.1) e in
    (ap (λ (x : (A × ℕ) × Tokens). x.0.0) e, omega (arith, left, length-drop n ts, length-drop m ts, within node ts n depth f, within other ts m depth g))

pub one_at_most : {A : Type 0} (about : A → Facts) (read : ℕ → Tokens → Read A) → Exact read (λ x. Front (about x))
    → (node other : A) (ts : Tokens) (n m depth : ℕ) → Front (about node) ts n depth → Front (about other) ts m depth → (node ≡ other) × (n ≡ m)
one_at_most about read exactly = one_by_reading (λ x. Front (about x)) read (λ x ts n depth f. f.0) exactly
