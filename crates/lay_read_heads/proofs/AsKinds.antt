-- What comes next, as what an item is.
use Rattle.std.proofs.Common.{◌≡◌, ℕ, zero, suc, ◌-◌, ◌<◌, inl, inr, true, false, [], ◌∷◌, codes, Some, None, Ok, Err, Result, refl, ap, ◌∙◌, arith}
use Rattle.std.proofs.lemmas.Bool.{and_parts}
use Rattle.lay_token.specs.declared.token.Token.{Token}
use Rattle.lay_token.proofs.Deciding.{bytes_same}
use Rattle.std.specs.Str.{bytes_eq}
use Rattle.lay_node.specs.Ahead.{Tokens, first, is_ident, is_keyword}
use Rattle.lay_node.specs.nodes.Facts.{Told, ToldFront, by_itself}
use Rattle.lay_node.specs.nodes.Heads.{about_struct, about_union, headed}
use Rattle.lay_node.specs.reader.Exact.{Exact}
use Rattle.lay_node.specs.reader.Functions.{head_at, insides}
use Rattle.lay_node.specs.reader.Heads.{struct, union}
use Rattle.lay_node.specs.reader.Loops.{Read}
use Rattle.lay_node.specs.reader.Patterns.{PatWithin}
use Rattle.lay_node.specs.reader.Types.{Within}
use Rattle.lay_node.proofs.reader.StructsExact.{structs_exact, unions_exact}
use Rattle.lay_code.specs.declared.item.ItemKind.{ItemKind}
use Rattle.lay_code.specs.declared.item.ItemKind.TheVariants as item
use Rattle.lay_read_tokens.specs.Answers.{AreLexed, IsRead, Stopped}
use Rattle.lay_read_tokens.specs.declared.stop.ReadNone.{ReadNone}
use Rattle.lay_read_tokens.specs.declared.stop.ReadNone.TheVariants.{NoReading, NoMemory}
use Rattle.lay_read_parts.specs.Answers.{IsReadAt}
use Rattle.lay_read_heads.specs.Answers.{OfKind, StructFront}
use Rattle.lay_read_heads.proofs.AtFront.{head_found, head_none, head_nowhere}

-- ---- a node with what is within it one level deeper

module _ {A : Type 0} (make : A → ItemKind) (about : A → Told) (one : PatWithin → Tokens → Read A)
    (exact : Exact (head_at one) (λ x. ToldFront (by_itself (about x)))) (depth : ℕ) (ts : Tokens) (l : AreLexed ts) where
  abbrev At : A → Tokens → ℕ → ℕ → Type 0
  At x = ToldFront (by_itself (about x))

  abbrev Of : ItemKind → Tokens → ℕ → ℕ → Type 0
  Of = OfKind make (λ x. by_itself (about x))

  none_of : (none : ReadNone) (left : Tokens) → IsReadAt depth At ts (Err none) left → IsReadAt depth Of ts (Err none) left
  none_of NoReading left h = (h.0, λ k n f. h.1 f.0 n f.2)
  none_of NoMemory left h = h

  pub kind_nowhere : depth ≡ 0 → IsReadAt depth Of ts (Err NoReading) ts
  kind_nowhere e = none_of NoReading ts (head_nowhere about one exact depth ts l e)

  module _ (some : 0 < depth) (fork : Tokens) (e : fork ≡ ts) where
    pub kind_none : (none : ReadNone) → Stopped (one (insides (depth - 1)) fork) none → IsReadAt depth Of ts (Err none) ts
    kind_none none h = none_of none ts (head_none about one exact depth ts l some fork e none h)

    pub kind_found : (x : A) (need : ℕ) (left : Tokens) → one (insides (depth - 1)) fork ≡ Some ((x, need), left)
        → IsReadAt depth Of ts (Ok (make x)) left
    kind_found x need left h =
        let f = head_found about one exact depth ts l some fork e x need left h in
        ((f.0.0, f.0.1, (x, refl, f.0.2)), λ other rest o. let s = f.1 o.2.0 rest (o.0, o.1, o.2.2) in (o.2.1 ∙ ap make s.0, s.1))

-- ---- a node without nodes within it

module _ {A : Type 0} (make : A → ItemKind) (about : A → Told) (ts left : Tokens) where
  pub free_found : (x : A) → IsRead (λ x. ToldFront (about x)) ts (Ok x) left → IsRead (OfKind make about) ts (Ok (make x)) left
  free_found x h = ((h.0.0, h.0.1, (x, refl, h.0.2)), λ other rest o. let s = h.1 o.2.0 rest (o.0, o.1, o.2.2) in (o.2.1 ∙ ap make s.0, s.1))

  pub free_none : (none : ReadNone) → IsRead (λ x. ToldFront (about x)) ts (Err none) left → IsRead (OfKind make about) ts (Err none) left
  free_none NoReading h = (h.0, λ k n f. h.1 f.0 n f.2)
  free_none NoMemory h = h

-- ---- a struct or a union

no_struct_one : (t : Token) (ts : Tokens) (w : Within) → is_keyword (codes "union") t ≡ true → struct w (t ∷ ts) ≡ None
unfolding struct
no_struct_one t ts w h =
    let p = and_parts (is_ident t.kind) (bytes_eq t.text (codes "union")) h in
    let other : is_keyword (codes "struct") t ≡ false = rw (p.0, bytes_same t.text (codes "union") p.1) refl in
    rw other refl

no_struct : (ts : Tokens) (w : Within) → first (is_keyword (codes "union")) ts ≡ true → struct w ts ≡ None
no_struct [] w h = absurd (cc)
no_struct (t ∷ ts) w h = no_struct_one t ts w h

no_union : (ts : Tokens) (w : Within) → first (is_keyword (codes "union")) ts ≡ false → union w ts ≡ None
unfolding union
no_union ts w h = rw h refl

-- Where nothing is read, nothing stands.
module _ {A : Type 0} (about : A → Told) (one : PatWithin → Tokens → Read A)
    (exact : Exact (head_at one) (λ x. ToldFront (by_itself (about x)))) (ts : Tokens) (none : (w : PatWithin) → one w ts ≡ None) where
  nothing_read : (depth : ℕ) → head_at one depth ts ≡ None
  nothing_read zero = refl
  nothing_read (suc depth) = rw (none (insides depth)) refl

  nothing_there : (x : A) (n depth : ℕ) → ToldFront (by_itself (about x)) ts n depth → ⊥
  nothing_there x n depth f =
      let c = exact.complete x ts n depth f depth (omega arith) in
      let here = nothing_read depth in absurd (cc (c.2))

module _ (depth : ℕ) (ts left : Tokens) where
  abbrev AStruct : ItemKind → Tokens → ℕ → ℕ → Type 0
  AStruct = OfKind item.Struct (λ x. by_itself (headed (about_struct x)))

  abbrev AUnion : ItemKind → Tokens → ℕ → ℕ → Type 0
  AUnion = OfKind item.Union (λ x. by_itself (headed (about_union x)))

  pub struct_front : first (is_keyword (codes "union")) ts ≡ false → (r : Result ItemKind ReadNone) → IsReadAt depth AStruct ts r left
      → IsReadAt depth StructFront ts r left
  struct_front u (Ok k) h = (
    (h.0.0, h.0.1, inl h.0.2),
    λ other rest o. elim o.2 [
      | inl s ↦ h.1 other rest (o.0, o.1, s)
      | inr x ↦ absurd (nothing_there (λ x. headed (about_union x)) (λ w ts. union w.kinds ts) unions_exact ts (λ w. no_union ts w.kinds u) x.0 o.0 depth x.2)
    ],
  )
  struct_front u (Err NoReading) h = (
    h.0,
    λ k n f. elim f [
      | inl s ↦ h.1 k n s
      | inr x ↦ nothing_there (λ x. headed (about_union x)) (λ w ts. union w.kinds ts) unions_exact ts (λ w. no_union ts w.kinds u) x.0 n depth x.2
    ],
  )
  struct_front u (Err NoMemory) h = h

  pub union_front : first (is_keyword (codes "union")) ts ≡ true → (r : Result ItemKind ReadNone) → IsReadAt depth AUnion ts r left
      → IsReadAt depth StructFront ts r left
  union_front u (Ok k) h = (
    (h.0.0, h.0.1, inr h.0.2),
    λ other rest o. elim o.2 [
      | inl s ↦ absurd (nothing_there (λ x. headed (about_struct x)) (λ w ts. struct w.kinds ts) structs_exact ts (λ w. no_struct ts w.kinds u) s.0 o.0 depth s.2)
      | inr x ↦ h.1 other rest (o.0, o.1, x)
    ],
  )
  union_front u (Err NoReading) h = (
    h.0,
    λ k n f. elim f [
      | inl s ↦ nothing_there (λ x. headed (about_struct x)) (λ w ts. struct w.kinds ts) structs_exact ts (λ w. no_struct ts w.kinds u) s.0 n depth s.2
      | inr x ↦ h.1 k n x
    ],
  )
  union_front u (Err NoMemory) h = h
