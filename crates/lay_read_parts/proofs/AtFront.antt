-- What is read at the beginning at a depth, and nothing else.
use Rattle.std.proofs.Common.{◌≡◌, ℕ, suc, ◌-◌, ◌<◌, ◌≤◌, Bool, drop, Some, None, Ok, Err, refl, sym, ap, ◌∙◌, arith}
use Rattle.lay_form.specs.Form.{Form}
use Rattle.lay_form.specs.Spelled as spelled
use Rattle.lay_form.proofs.FormLaws.{deeper}
use Rattle.lay_node.specs.Ahead.{Tokens}
use Rattle.lay_node.specs.reader.Exact.{Exact}
use Rattle.lay_node.specs.reader.Loops.{Read}
use Rattle.lay_node.specs.reader.Types.{Within, within, alone_at}
use Rattle.lay_read_tokens.specs.Answers.{AreLexed, Stopped}
use Rattle.lay_read_tokens.specs.declared.stop.ReadNone.{ReadNone}
use Rattle.lay_read_tokens.specs.declared.stop.ReadNone.TheVariants.{NoReading, NoMemory}
use Rattle.lay_read_tokens.proofs.Lexed.{lexed_in_text}
use Rattle.lay_read_tokens.proofs.Lists.{some_is}
use Rattle.lay_read_parts.specs.Answers.{IsReadAt}

-- What stands at the beginning at a depth stands there at each greater one.
pub front_deeper : (form : Form) (good : Bool) (follows : Tokens → Bool) (ts : Tokens) (n m depth : ℕ) → m ≤ depth
    → spelled.Front form good follows ts n m → spelled.Front form good follows ts n depth
front_deeper form good follows ts n m depth le f = (f.0, deeper form m depth ts (drop n ts) le f.1, f.2, f.3)

module _ {A : Type 0} (one : ℕ → Tokens → Read A) (Front : A → Tokens → ℕ → ℕ → Type 0) (exact : Exact one Front)
    (lift : (x : A) (ts : Tokens) (n m depth : ℕ) → m ≤ depth → Front x ts n m → Front x ts n depth)
    (depth : ℕ) (ts : Tokens) (l : AreLexed ts) (fork : Tokens) (e : fork ≡ ts) where
  pub node_read : (node : A) (need : ℕ) (left : Tokens) → one depth fork ≡ Some ((node, need), left)
      → IsReadAt depth Front ts (Ok node) left
  node_read node need left h =
      let here : one depth ts ≡ Some ((node, need), left) = ap (one depth) (sym e) ∙ h in
      let s = exact.sound depth ts node need left (lexed_in_text ts l) here in (
        (s.0, sym s.1, lift node ts s.0 need depth s.2 s.3),
        λ other rest o.
            let c = exact.complete other ts o.0 depth o.2 depth (omega arith) in
            let same = some_is {A = (A × ℕ) × Tokens} ((other, c.0), drop o.0 ts) ((node, need), left) (sym c.2 ∙ here) in
            (ap (λ (x : (A × ℕ) × Tokens). x.0.0) same, o.1 ∙ ap (λ (x : (A × ℕ) × Tokens). x.1) same),
      )

  pub none_read : (none : ReadNone) → Stopped (one depth fork) none → IsReadAt depth Front ts (Err none) ts
  none_read NoReading h =
      let here : one depth ts ≡ None = ap (one depth) (sym e) ∙ h in
      (refl, λ node n f. let c = exact.complete node ts n depth f depth (omega arith) in absurd (cc (c.2)))
  none_read NoMemory h = refl

-- ---- nodes that aren't counted, by themselves

module _ {A : Type 0} (one : Within → Tokens → Read A) (depth : ℕ) (ts : Tokens) where
  pub alone_nowhere : depth ≡ 0 → alone_at one depth ts ≡ None
  alone_nowhere e = ap (λ d. alone_at one d ts) e

  deeper_one : 0 < depth → alone_at one depth ts ≡ alone_at one (suc (depth - 1)) ts
  deeper_one some = let e : depth ≡ suc (depth - 1) = omega arith in ap (λ d. alone_at one d ts) e

  pub alone_stopped : 0 < depth → (none : ReadNone) → Stopped (one (within (depth - 1)) ts) none
      → Stopped (alone_at one depth ts) none
  alone_stopped some NoReading h = deeper_one some ∙ rw h refl
  alone_stopped some NoMemory h = tt

  pub alone_read : 0 < depth → (x : A) (need : ℕ) (rest : Tokens) → one (within (depth - 1)) ts ≡ Some ((x, need), rest)
      → alone_at one depth ts ≡ Some ((x, suc need), rest)
  alone_read some x need rest h = deeper_one some ∙ rw h refl

-- ---- nodes whose last part may be spelled or not, without saying which

module _ {A : Type 0} (At : Bool → A → Tokens → ℕ → ℕ → Type 0) (depth : ℕ) (ts : Tokens) where
  abbrev Either : A → Tokens → ℕ → ℕ → Type 0
  Either x us n d = (spelled : Bool) × At spelled x us n d

  pub either_read : (node : A) (flag : Bool) (left : Tokens)
      → IsReadAt depth (λ (x : A × Bool) us n d. At x.1 x.0 us n d) ts (Ok (node, flag)) left → IsReadAt depth Either ts (Ok node) left
  either_read node flag left h = (
    (h.0.0, h.0.1, (flag, h.0.2)),
    λ other rest o. let s = h.1 (other, o.2.0) rest (o.0, o.1, o.2.1) in (ap (λ (x : A × Bool). x.0) s.0, s.1),
  )

  pub either_none : (none : ReadNone) (left : Tokens)
      → IsReadAt depth (λ (x : A × Bool) us n d. At x.1 x.0 us n d) ts (Err none) left → IsReadAt depth Either ts (Err none) left
  either_none NoReading left h = (h.0, λ node n f. h.1 (node, f.0) n f.1)
  either_none NoMemory left h = h
