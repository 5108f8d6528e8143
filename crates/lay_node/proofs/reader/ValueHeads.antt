-- The heads of constants and statics are read exactly where they stand.
use Rattle.std.proofs.Common.{List, Some, codes, false, inl, inr, refl, true, ℕ, ◌≡◌, ◌≤◌}
use Rattle.std.proofs.lemmas.Bool.{and_from, and_parts}
use Rattle.lay_piece.specs.Word.{class_of}
use Rattle.lay_piece.specs.declared.kind.Kind.TheVariants.{Ident, Underscore}
use Rattle.lay_form.specs.Form.{Fixed, Form, Operator, keyword}
use Rattle.lay_form.specs.Spelled.{AreBits, IsOne, Spells}
use Rattle.lay_node.specs.Ahead.{Tokens, first, is_keyword, tail}
use Rattle.lay_node.specs.Words.{is_name, leaf_of, is_path_class}
use Rattle.lay_node.specs.nodes.Facts.{ToldFront, by_itself}
use Rattle.lay_node.specs.nodes.Functions.{mut_word}
use Rattle.lay_node.specs.nodes.Heads as heads
use Rattle.lay_node.specs.nodes.Heads.{about_value_head}
use Rattle.lay_node.specs.nodes.Types.{about_type, given_form, good_at, is_given, type_follows}
use Rattle.lay_node.specs.reader.Exact.{Exact, InText}
use Rattle.lay_node.specs.reader.Functions.{head_at}
use Rattle.lay_node.specs.reader.Heads.{of_type, const_head, static_head, value_head}
use Rattle.lay_node.specs.reader.Loops.{passed}
use Rattle.lay_node.specs.reader.Types.{Within, flag, operator}
use Rattle.lay_node.specs.reader.Words.{given_name, name}
use Rattle.lay_node.specs.declared.heads.ValueHead.TheVariants as value
use Rattle.lay_node.specs.declared.heads.ValueHead.{ValueHead}
use Rattle.lay_node.specs.declared.token.GivenName.TheVariants as given
use Rattle.lay_node.specs.declared.token.GivenName.{GivenName}
use Rattle.lay_node.specs.declared.types.Ty.{Ty}
use Rattle.lay_node.specs.declared.types.TypePlace.TheVariants.{Bounds}
use Rattle.lay_node.proofs.Fronts.{keyword_one, one_front}
use Rattle.lay_node.proofs.Parts.{before_blank, leaf_parts, leaf_spelled, part_alone, word_kind}
use Rattle.lay_node.proofs.Steps.{bind_some, chosen, same_some}
use Rattle.lay_node.proofs.reader.Exact.{IsRead}
use Rattle.lay_node.proofs.reader.HeadsLevel.{CompleteHead, SoundHead, Stood, head_exact}
use Rattle.lay_node.proofs.reader.Loops.{SoundStep}
use Rattle.lay_node.proofs.reader.SimplePath.{word_no_keyword}
use Rattle.lay_node.proofs.reader.TypesComplete.{Reads, follows_fits, operator_read, name_is_word}
use Rattle.lay_node.proofs.reader.TypesCompleteKinds.{keyword_other}
use Rattle.lay_node.proofs.reader.TypesCompleteParts.{colon_operator, flag_complete, keyword_there, one_left}
use Rattle.lay_node.proofs.reader.TypesSoundFuncs.{given_texts}
use Rattle.lay_node.proofs.reader.TypesSoundLevel.{SoundWithin}
use Rattle.lay_node.proofs.reader.TypesSoundParts.{Out, bit_texts, flag_texts, keyword_passed_is, operator_is, flag_leads}
use Rattle.lay_node.proofs.reader.Use.{RenameIs, given_name_complete, given_name_is, underscore_complete}
use Rattle.lay_node.proofs.reader.Words.{name_complete, name_sound}

-- ---- a name that is given

pub given_spelled : (g : GivenName) (f : Form) (depth : ℕ) (ts mid rest : Tokens) → RenameIs g ts mid → Spells f depth mid rest
    → Spells (given_form g f) depth ts rest
given_spelled (given.Name n) f depth ts mid rest i s = leaf_spelled n.raw n.text f depth ts mid rest i.0 s
given_spelled given.Underscore f depth ts mid rest i s = (mid, i, s)

pub given_good : (g : GivenName) (ts rest : Tokens) → RenameIs g ts rest → is_given g ≡ true
given_good (given.Name n) ts rest i = i.1
given_good given.Underscore ts rest i = refl

pub given_parts : (g : GivenName) (f : Form) (depth : ℕ) (ts rest : Tokens) → Spells (given_form g f) depth ts rest → is_given g ≡ true
    → (mid : Tokens) × RenameIs g ts mid × Spells f depth mid rest
given_parts (given.Name n) f depth ts rest s h = let l = leaf_parts n.raw n.text f depth ts rest s in (l.0, (l.1, h), l.2)
given_parts given.Underscore f depth ts rest s h = s

given_read : (g : GivenName) (ts rest : Tokens) → RenameIs g ts rest → given_name ts ≡ Some (g, rest)
given_read (given.Name n) ts rest i = given_name_complete n ts rest i
given_read given.Underscore ts rest i = underscore_complete ts rest i

-- ---- a type after a `:`

-- A type stands after a `:` within the budget.
abbrev pub TypeGiven : ℕ → Ty × ℕ → Tokens → Tokens → Type 0
TypeGiven budget x ts rest =
    (x.1 ≤ budget) × Spells (heads.of_type x.0) x.1 ts rest
    × (good_at Bounds (about_type x.0) ≡ true) × (type_follows Bounds (about_type x.0) rest ≡ true)

module _ (budget : ℕ) (within : Within) (sound : SoundWithin budget within) where
  pub of_type_sound : SoundStep (of_type within) (TypeGiven budget)
  of_type_sound ts x rest t h =
      let c = bind_some (operator (codes ":") ts) _ _ h in
      let o = operator_is (codes ":") ts c.0 c.1 in
      let s = sound.types Bounds c.0 x rest (bit_texts (Operator (codes ":")) ts c.0 o t) c.2 in
      ((s.0.0, (c.0, (c.0, o, (c.0, refl, refl)), (rest, s.0.1, refl)), s.0.2, s.0.3), s.1)

  -- ---- what is read is spelled

  const_sound : (ts at : Tokens) → IsOne Ident (codes "const") ts at → InText at → (x : ValueHead × ℕ) (rest : Tokens)
      → const_head within at ≡ Some (x, rest) → Out (Stood about_value_head budget) ts (x, rest)
  const_sound ts at word t x rest h =
      let n = bind_some (given_name at) _ _ h in
      let y = bind_some (of_type within n.0.1) _ _ n.2 in
      let i = given_name_is at n.0.0 n.0.1 t n.1 in
      let s = of_type_sound n.0.1 y.0.0 y.0.1 (given_texts n.0.0 at n.0.1 i t) y.1 in
      let k = s.0 in
      let name = given_spelled n.0.0 (heads.of_type y.0.0.0) y.0.0.1 at n.0.1 y.0.1 i k.1 in
      let good = and_from (is_given n.0.0) (good_at Bounds (about_type y.0.0.0)) (given_good n.0.0 at n.0.1 i) k.2 in
      same_some (Out (Stood about_value_head budget) ts) ((value.Const n.0.0 y.0.0.0, y.0.0.1), y.0.1) (x, rest) y.2
      ((k.0, (at, (at, word, (at, refl, refl)), name), good, k.3), s.1)

  static_sound : (ts at : Tokens) → IsOne Ident (codes "static") ts at → InText at → (x : ValueHead × ℕ) (rest : Tokens)
      → static_head within at ≡ Some (x, rest) → Out (Stood about_value_head budget) ts (x, rest)
  static_sound ts at word t x rest h =
      let mutable = (flag (is_keyword (codes "mut")) at).0 in
      let start = (flag (is_keyword (codes "mut")) at).1 in
      let bits : first (is_keyword (codes "mut")) at ≡ true → AreBits mut_word at (tail at) =
      λ e. (tail at, keyword_one (codes "mut") at e, (tail at, refl, refl)) in
      let n = bind_some (name start) _ _ h in
      let y = bind_some (of_type within n.0.1) _ _ n.2 in
      let i = name_sound start n.0.0 n.0.1 n.1 in
      let raw = n.0.0.raw in
      let text = n.0.0.text in
      let begun = flag_texts (is_keyword (codes "mut")) mut_word at bits t in
      let s = of_type_sound n.0.1 y.0.0 y.0.1 (bit_texts (Fixed (word_kind raw) text) start n.0.1 i.0 begun) y.1 in
      let k = s.0 in
      let named = leaf_spelled raw text (heads.of_type y.0.0.0) y.0.0.1 start n.0.1 y.0.1 i.0 k.1 in
      let spelled =
      flag_leads (is_keyword (codes "mut")) mut_word at bits (leaf_of raw text (heads.of_type y.0.0.0)) y.0.0.1 y.0.1 named in
      let good = and_from (is_name raw text) (good_at Bounds (about_type y.0.0.0)) i.1 k.2 in
      same_some (Out (Stood about_value_head budget) ts) ((value.Static mutable n.0.0 y.0.0.0, y.0.0.1), y.0.1) (x, rest) y.2
      ((k.0, (at, (at, word, (at, refl, refl)), spelled), good, k.3), s.1)

  value_sound : SoundStep (value_head within) (Stood about_value_head budget)
  unfolding value_head
  value_sound ts x rest t h = elim (chosen (first (is_keyword (codes "const")) ts) _ _ _ h) [
    | inl g ↦
        let word = keyword_one (codes "const") ts g.0 in
        const_sound ts (tail ts) word (bit_texts (keyword (codes "const")) ts (tail ts) word t) x rest g.1
    | inr g ↦
        let b = bind_some (passed (is_keyword (codes "static")) ts) _ _ g.1 in
        let word = keyword_passed_is (codes "static") ts b.0 b.1 in
        static_sound ts b.0 word (bit_texts (keyword (codes "static")) ts b.0 word t) x rest b.2
  ]

pub value_heads_sound : SoundHead about_value_head (λ w ts. value_head w.kinds ts)
value_heads_sound budget inner sound = value_sound budget inner.kinds sound.kinds

-- ---- what is spelled is read

module _ (depth : ℕ) (inner : Within) (reads : Reads depth inner) where
  pub of_type_read : (x : Ty) (ts rest : Tokens) → Spells (heads.of_type x) depth ts rest → good_at Bounds (about_type x) ≡ true
      → type_follows Bounds (about_type x) rest ≡ true → IsRead depth (of_type inner) x ts rest
  of_type_read x ts rest s g f =
      let o = colon_operator ts s.0 s.1 in
      let spelled = part_alone (about_type x).told.form depth s.0 rest s.2 in
      let r = reads.types Bounds x s.0 rest spelled g (follows_fits Bounds (about_type x) rest f) in
      (r.0, r.1, rw (operator_read (codes ":") ts s.0 o) r.2)

  value_read : (x : ValueHead) (ts rest : Tokens) → Spells (about_value_head x).form depth ts rest → (about_value_head x).good ≡ true
      → (about_value_head x).follows rest ≡ true → IsRead depth (value_head inner) x ts rest
  unfolding value_head
  value_read (value.Const g x) ts rest s good f =
      let goods = and_parts (is_given g) (good_at Bounds (about_type x)) good in
      let word : IsOne Ident (codes "const") ts s.0 = before_blank (keyword (codes "const")) ts s.0 s.1 in
      let n = given_parts g (heads.of_type x) depth s.0 rest s.2 goods.0 in
      let r = of_type_read x n.0 rest n.2 goods.1 f in
      let there = keyword_there (codes "const") ts s.0 word in
      let left = one_left Ident (codes "const") ts s.0 word in
      (r.0, r.1, rw (there, left, given_read g s.0 n.0 n.1, r.2) refl)
  value_read (value.Static mutable n x) ts rest s good f =
      let goods = and_parts (is_name n.raw n.text) (good_at Bounds (about_type x)) good in
      let word : IsOne Ident (codes "static") ts s.0 = before_blank (keyword (codes "static")) ts s.0 s.1 in
      let named : Form = leaf_of n.raw n.text (heads.of_type x) in
      let m = flag_complete (codes "mut") mutable named depth s.0 rest s.2
      (λ us t. let l = leaf_parts n.raw n.text (heads.of_type x) depth us rest t in word_no_keyword (codes "mut") refl n.raw n.text us l.0 (name_is_word n.raw n.text goods.0) l.1) in
      let l = leaf_parts n.raw n.text (heads.of_type x) depth m.0 rest m.2 in
      let r = of_type_read x l.0 rest l.2 goods.1 f in
      let other = keyword_other (codes "static") (codes "const") refl ts s.0 word in
      let there = keyword_there (codes "static") ts s.0 word in
      let left = one_left Ident (codes "static") ts s.0 word in
      (r.0, r.1, rw (other, there, left, m.1, name_complete n m.0 l.0 (l.1, goods.0), r.2) refl)

pub value_heads_complete : CompleteHead about_value_head (λ w ts. value_head w.kinds ts)
value_heads_complete depth inner reads x ts rest s g f = value_read depth inner.kinds reads.kinds x ts rest s g f

pub value_heads_exact : Exact (head_at (λ w ts. value_head w.kinds ts)) (λ (x : ValueHead). ToldFront (by_itself (about_value_head x)))
value_heads_exact = head_exact about_value_head (λ w ts. value_head w.kinds ts) value_heads_sound value_heads_complete

-- ---- what they begin with

abbrev pub value_word : ValueHead → List ℕ
value_word (value.Const g x) = codes "const"
value_word (value.Static mutable n x) = codes "static"

pub value_begins : (x : ValueHead) (depth : ℕ) (ts rest : Tokens) → Spells (about_value_head x).form depth ts rest
    → (at : Tokens) × IsOne Ident (value_word x) ts at
value_begins (value.Const g x) depth ts rest s = (s.0, before_blank (keyword (codes "const")) ts s.0 s.1)
value_begins (value.Static mutable n x) depth ts rest s = (s.0, before_blank (keyword (codes "static")) ts s.0 s.1)

-- After `const` a name stands, or `_`, and so no keyword.
pub const_no_keyword : (word : List ℕ) → is_path_class (class_of word) ≡ false → (g : GivenName) (x : Ty) (depth : ℕ) (ts rest : Tokens)
    → Spells (about_value_head (value.Const g x)).form depth ts rest → is_given g ≡ true → first (is_keyword word) (tail ts) ≡ false
const_no_keyword word none g x depth ts rest s good =
    let o : IsOne Ident (codes "const") ts s.0 = before_blank (keyword (codes "const")) ts s.0 s.1 in
    let n = given_parts g (heads.of_type x) depth s.0 rest s.2 good in
    rw (one_left Ident (codes "const") ts s.0 o) (by g s.0 n.0 n.1)
  where
    by : (g : GivenName) (us at : Tokens) → RenameIs g us at → first (is_keyword word) us ≡ false
    by (given.Name n) us at i = word_no_keyword word none n.raw n.text us at (name_is_word n.raw n.text i.1) i.0
    by given.Underscore us at i = rw (one_front Underscore (codes "_") us at i).1 refl
