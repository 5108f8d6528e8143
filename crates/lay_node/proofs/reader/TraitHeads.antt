-- The heads of traits are read exactly where they stand, and handed back with the way in which they are spelled.
use Rattle.std.proofs.Common.{if◌then◌else◌, Bool, List, Some, [], arith, codes, drop, false, map, max, not, refl, true, ℕ, ◌&&◌, ◌||◌, ◌∷◌, ◌≡◌, ◌≤◌, subst, ap, inl, inr, ◌∙◌}
use Rattle.std.proofs.lemmas.Bool.{and_from, and_parts, not-true}
use Rattle.lay_piece.specs.declared.kind.Kind.TheVariants.{Ident}
use Rattle.lay_token.specs.Operators.{is_op}
use Rattle.lay_form.specs.Form.{Blank, Done, Fixed, Form, Operator, Part, Piece, keyword}
use Rattle.lay_form.specs.Spelled.{IsOne, IsOperator, Spells}
use Rattle.lay_form.proofs.FormLaws.{deeper as raise}
use Rattle.lay_node.specs.Ahead.{is_keyword, Tokens}
use Rattle.lay_node.specs.Begins.{begins_bound}
use Rattle.lay_node.specs.Follow.{may_follow}
use Rattle.lay_node.specs.Words.{is_name, leaf_of}
use Rattle.lay_node.specs.nodes.Generics.{are_bounds, generics_follow, generics_spelled, is_generics, bounded_form, generics_form}
use Rattle.lay_node.specs.nodes.Heads.{TraitHeadAt, about_trait_head, bounds_end, bounds_spelled, is_trait_head, tells, ends_head, trait_head_form, trait_head_spelled, unsafe_form}
use Rattle.lay_node.specs.nodes.Types.{about_bound, bounds_form, last_refuses, is_there}
use Rattle.lay_node.specs.reader.Exact.{Exact, InText}
use Rattle.lay_node.specs.reader.Functions.{head_at}
use Rattle.lay_node.specs.reader.Generics.{generics, met, met_if}
use Rattle.lay_node.specs.reader.Heads.{trait_head, unsafe_flag}
use Rattle.lay_node.specs.reader.Loops.{passed}
use Rattle.lay_node.specs.reader.Types.{Within}
use Rattle.lay_node.specs.reader.Words.{name}
use Rattle.lay_node.specs.declared.heads.TraitHead.{TraitHead}
use Rattle.lay_node.specs.declared.types.Bound.{Bound}
use Rattle.lay_node.proofs.Follow.{quiet_follows}
use Rattle.lay_node.proofs.Parts.{before_blank, leaf_parts, leaf_spelled, part_alone, piece_bit, word_kind}
use Rattle.lay_node.proofs.Steps.{bind_some, same_some}
use Rattle.lay_node.proofs.reader.Exact.{IsRead}
use Rattle.lay_node.proofs.reader.GenericsComplete.{generics_read}
use Rattle.lay_node.proofs.reader.GenericsSound.{MetHeld, generics_sound, met_sound}
use Rattle.lay_node.proofs.reader.HeadEnds.{BeforeBody, WordFront, before_body, word_front, unsafe_bits}
use Rattle.lay_node.proofs.reader.HeadParts.{generics_unflagged, generics_way}
use Rattle.lay_node.proofs.reader.HeadsLevel.{CompleteHead, SoundHead, Stood, head_exact}
use Rattle.lay_node.proofs.reader.Loops.{SoundStep}
use Rattle.lay_node.proofs.reader.TypesComplete.{Reads}
use Rattle.lay_node.proofs.reader.TypesCompleteKinds.{keyword_other}
use Rattle.lay_node.proofs.reader.TypesCompleteParts.{colon_operator, flag_complete, keyword_there, one_left}
use Rattle.lay_node.proofs.reader.TypesCompletePaths.{all_bounds_read}
use Rattle.lay_node.proofs.reader.TypesFronts.{follows_clear, op_first}
use Rattle.lay_node.proofs.reader.TypesSoundLevel.{SoundWithin}
use Rattle.lay_node.proofs.reader.TypesSoundParts.{Out, bit_texts, flag_leads, flag_texts, keyword_passed_is}
use Rattle.lay_node.proofs.reader.Words.{name_complete, name_sound}

abbrev pub Flagged : Type 0
Flagged = TraitHead × (Bool × Bool)

-- ---- what is read is spelled

-- Bounds after a `:`, or a `:` alone, or nothing, with what follows them.
record SpelledBounds (budget : ℕ) (with_generics with_colon : Bool) (x : List Bound × ℕ) (ts rest : Tokens) : Type 0 where
  pub within : x.1 ≤ budget
  pub spelled : Spells (bounds_spelled with_colon x.0) x.1 ts rest
  pub good : are_bounds x.0 ≡ true
  pub told : tells with_colon x.0 ≡ true
  pub follows : bounds_end with_generics with_colon x.0 rest ≡ true

colon_bounds : (budget : ℕ) (with_generics : Bool) (bs : List Bound) (n : ℕ) (ts at rest : Tokens) → IsOperator (codes ":") ts at
    → MetHeld budget (bs, n) at rest → SpelledBounds budget with_generics true (bs, n) ts rest
colon_bounds budget with_generics [] n ts at rest o k = record { within = k.0; spelled = (at, (at, o, refl), k.1); good = refl; told = refl; follows = k.3 }
colon_bounds budget with_generics (b ∷ bs) n ts at rest o k = record {
  within = k.0;
  spelled = (at, (at, o, (at, refl, refl)), (rest, k.1, refl));
  good = k.2;
  told = refl;
  follows = k.3;
}

module _ (budget : ℕ) (within : Within) (sound : SoundWithin budget within) where
  colon_flag : (ts : Tokens) (x : List Bound × ℕ) (rest : Tokens) (b : Bool) → is_op (codes ":") ts ≡ b → met_if within ts ≡ Some (x, rest)
      → (if b then met within (drop 1 ts) else Some (([], 0), ts)) ≡ Some (x, rest)
  colon_flag ts x rest b e h =
      subst (λ c. (if c then met within (drop 1 ts) else Some (([], 0), ts)) ≡ Some (x, rest)) e h

  spelled_bounds : (with_generics with_colon : Bool) (ts : Tokens) → is_op (codes ":") ts ≡ with_colon → generics_follow with_generics ts ≡ true → InText ts
      → (x : List Bound × ℕ) (rest : Tokens) → met_if within ts ≡ Some (x, rest)
      → SpelledBounds budget with_generics with_colon x ts rest × InText rest
  spelled_bounds with_generics true ts e f t x rest h =
      let at = drop 1 ts in
      let o : IsOperator (codes ":") ts at = (e, refl) in
      let k = met_sound budget within sound at x rest (bit_texts (Operator (codes ":")) ts at o t) (colon_flag ts x rest true e h) in
      (colon_bounds budget with_generics x.0 x.1 ts at rest o k.0, k.1)
  spelled_bounds with_generics false ts e f t x rest h =
      same_some (λ (r : (List Bound × ℕ) × Tokens). SpelledBounds budget with_generics false r.0 ts r.1 × InText r.1) (([], 0), ts) (x, rest) (colon_flag ts x rest false e h) (
        record {
          within = omega arith;
          spelled = refl;
          good = refl;
          told = refl;
          follows = rw (e, f) refl;
        },
        t,
      )

  trait_good : (x : Flagged) → tells x.1.0 x.0.generics.params ≡ true → tells x.1.1 x.0.bounds ≡ true → is_name x.0.name.raw x.0.name.text ≡ true
      → is_generics x.0.generics ≡ true → are_bounds x.0.bounds ≡ true → (about_trait_head x).good ≡ true
  trait_good x a b c d e = rw (a, b, c, d, e) refl

  trait_sound : SoundStep (trait_head within) (Stood about_trait_head budget)
  unfolding trait_head
  trait_sound ts x rest t h =
      let is_unsafe = (unsafe_flag ts).0 in
      let start = (unsafe_flag ts).1 in
      let k = bind_some (passed (is_keyword (codes "trait")) start) _ _ h in
      let n = bind_some (name k.0) _ _ k.2 in
      let g = bind_some (generics within n.0.1) _ _ n.2 in
      let b = bind_some (met_if within g.0.1) _ _ g.2 in
      let begun = flag_texts (is_keyword (codes "unsafe")) (keyword (codes "unsafe") ∷ Blank ∷ []) ts (unsafe_bits ts) t in
      let word = keyword_passed_is (codes "trait") start k.0 k.1 in
      let i = name_sound k.0 n.0.0 n.0.1 n.1 in
      let raw = n.0.0.raw in
      let text = n.0.0.text in
      let named = bit_texts (Fixed (word_kind raw) text) k.0 n.0.1 i.0 (bit_texts (keyword (codes "trait")) start k.0 word begun) in
      let s = generics_sound budget within sound n.0.1 g.0.0 g.0.1 named g.1 in
      let params = s.0 in
      let with_generics = g.0.0.0.1 in
      let with_colon = is_op (codes ":") g.0.1 in
      let goods = and_parts (with_generics || not (is_there g.0.0.0.0.params)) (is_generics g.0.0.0.0) params.2.0 in
      let m = spelled_bounds with_generics with_colon g.0.1 refl params.2.1 s.1 b.0.0 b.0.1 b.1 in
      let bounds = m.0 in
      let made : TraitHead = record { is_unsafe = is_unsafe; name = n.0.0; generics = g.0.0.0.0; bounds = b.0.0.0 } in
      let flagged : Flagged = (made, (with_generics, with_colon)) in
      let most = max g.0.0.1 b.0.0.1 in
      let behind : Form = Part (generics_spelled with_generics made.generics) (Part (bounds_spelled with_colon made.bounds) Done) in
      let spelled_params = raise (generics_spelled with_generics made.generics) g.0.0.1 most n.0.1 g.0.1 (omega arith) params.1 in
      let spelled = raise (bounds_spelled with_colon made.bounds) b.0.0.1 most g.0.1 b.0.1 (omega arith) bounds.spelled in
      let leaf = leaf_spelled raw text behind most k.0 n.0.1 b.0.1 i.0 (g.0.1, spelled_params, (b.0.1, spelled, refl)) in
      let F : Form = Piece (keyword (codes "trait") ∷ Blank ∷ []) (leaf_of raw text behind) in
      let whole = flag_leads (is_keyword (codes "unsafe")) (keyword (codes "unsafe") ∷ Blank ∷ []) ts (unsafe_bits ts) F most b.0.1
      (k.0, (k.0, word, (k.0, refl, refl)), leaf) in
      let good = trait_good flagged goods.0 bounds.told i.1 goods.1 bounds.good in
      same_some (Out (Stood about_trait_head budget) ts) ((flagged, most), b.0.1) (x, rest) b.2
      ((omega (arith, params.0, bounds.within), whole, good, bounds.follows), m.1)

pub trait_heads_sound : SoundHead about_trait_head (λ w ts. trait_head w.kinds ts)
trait_heads_sound budget inner sound = trait_sound budget inner.kinds sound.kinds

-- ---- what is spelled is read

-- A `:` stands there just where it is told.
bounds_colon : (with_generics with_colon : Bool) (bs : List Bound) (depth : ℕ) (ts rest : Tokens) → Spells (bounds_spelled with_colon bs) depth ts rest
    → tells with_colon bs ≡ true → bounds_end with_generics with_colon bs rest ≡ true → is_op (codes ":") ts ≡ with_colon
bounds_colon with_generics true [] depth ts rest s t f =
    let o : IsOperator (codes ":") ts rest = piece_bit (Operator (codes ":")) depth ts rest s in o.0
bounds_colon with_generics false [] depth ts rest s t f =
    rw s (not-true (is_op (codes ":") rest) (and_parts (not (is_op (codes ":") rest)) (generics_follow with_generics rest) f).0)
bounds_colon with_generics true (b ∷ bs) depth ts rest s t f = (colon_operator ts s.0 s.1).0
bounds_colon with_generics false (b ∷ bs) depth ts rest s t f = absurd (cc)

-- No `<` follows generic parameters that are spelled as nothing.
bounds_behind : (with_generics with_colon : Bool) (bs : List Bound) (depth : ℕ) (ts rest : Tokens) → Spells (bounds_spelled with_colon bs) depth ts rest
    → tells with_colon bs ≡ true → bounds_end with_generics with_colon bs rest ≡ true → generics_follow with_generics ts ≡ true
bounds_behind true with_colon bs depth ts rest s t f = refl
bounds_behind false true bs depth ts rest s t f =
    let c : is_op (codes ":") ts ≡ true = bounds_colon false true bs depth ts rest s t f in
    rw (op_first 58 [] ts c).3 refl
bounds_behind false false [] depth ts rest s t f = rw s (and_parts (not (is_op (codes ":") rest)) (generics_follow false rest) f).1
bounds_behind false false (b ∷ bs) depth ts rest s t f = absurd (cc)

module _ (depth : ℕ) (inner : Within) (reads : Reads depth inner) where
  bounds_there : (with_generics with_colon : Bool) (bs : List Bound) (ts rest : Tokens) → Spells (bounds_spelled with_colon bs) depth ts rest
      → are_bounds bs ≡ true → tells with_colon bs ≡ true → bounds_end with_generics with_colon bs rest ≡ true → IsRead depth (met_if inner) bs ts rest
  bounds_there with_generics true [] ts rest s g t f =
      let o : IsOperator (codes ":") ts rest = piece_bit (Operator (codes ":")) depth ts rest s in
      (0, omega arith, rw (o.0, o.1, not-true (begins_bound rest) f) refl)
  bounds_there with_generics false [] ts rest s g t f =
      let none = not-true (is_op (codes ":") rest) (and_parts (not (is_op (codes ":") rest)) (generics_follow with_generics rest) f).0 in
      (0, omega arith, rw s (rw none refl))
  bounds_there with_generics true (b ∷ bs) ts rest s g t f =
      let o = colon_operator ts s.0 s.1 in
      let spelled = part_alone (bounds_form (map about_bound (b ∷ bs))) depth s.0 rest s.2 in
      let p = and_parts (not (is_op (codes "+") rest)) (may_follow (last_refuses (map about_bound (b ∷ bs))) rest) f in
      let r = all_bounds_read depth inner reads b bs s.0 rest spelled g (follows_clear (last_refuses (map about_bound (b ∷ bs))) rest p.1)
      (not-true (is_op (codes "+") rest) p.0) in
      let n = r.0 in
      (n.0, n.1, rw (o.0, o.1, r.1, n.2) refl)
  bounds_there with_generics false (b ∷ bs) ts rest s g t f = absurd (cc)

  all_read : (x : Flagged) (ts a b c d rest : Tokens) (l m : ℕ) → unsafe_flag ts ≡ (x.0.is_unsafe, a) → passed (is_keyword (codes "trait")) a ≡ Some b
      → name b ≡ Some (x.0.name, c) → generics inner c ≡ Some (((x.0.generics, x.1.0), l), d) → met_if inner d ≡ Some ((x.0.bounds, m), rest)
      → is_op (codes ":") d ≡ x.1.1 → trait_head inner ts ≡ Some ((x, max l m), rest)
  unfolding trait_head
  all_read x ts a b c d rest l m e f g h i j = rw (e, f, g, h, i, j) refl

  trait_read : (x : Flagged) (ts rest : Tokens) → Spells (about_trait_head x).form depth ts rest → (about_trait_head x).good ≡ true
      → (about_trait_head x).follows rest ≡ true → IsRead depth (trait_head inner) x ts rest
  trait_read x ts rest s g f =
      let head = x.0 in
      let with_generics = x.1.0 in
      let with_colon = x.1.1 in
      let told = and_parts (tells with_generics head.generics.params && tells with_colon head.bounds) (is_trait_head head) g in
      let flags = and_parts (tells with_generics head.generics.params) (tells with_colon head.bounds) told.0 in
      let g2 = and_parts (is_name head.name.raw head.name.text && is_generics head.generics) (are_bounds head.bounds) told.1 in
      let g1 = and_parts (is_name head.name.raw head.name.text) (is_generics head.generics) g2.0 in
      let behind : Form = Part (generics_spelled with_generics head.generics) (Part (bounds_spelled with_colon head.bounds) Done) in
      let F : Form = Piece (keyword (codes "trait") ∷ Blank ∷ []) (leaf_of head.name.raw head.name.text behind) in
      let u = flag_complete (codes "unsafe") head.is_unsafe F depth ts rest s
      (λ us t. keyword_other (codes "trait") (codes "unsafe") refl us t.0 (before_blank (keyword (codes "trait")) us t.0 t.1)) in
      let at = u.0 in
      let w = u.2 in
      let word : IsOne Ident (codes "trait") at w.0 = before_blank (keyword (codes "trait")) at w.0 w.1 in
      let l = leaf_parts head.name.raw head.name.text behind depth w.0 rest w.2 in
      let params = l.2 in
      let bounds = part_alone (bounds_spelled with_colon head.bounds) depth params.0 rest params.2 in
      let r = generics_read depth inner reads with_generics head.generics l.0 params.0 params.1 (and_from _ _ flags.0 g1.1)
      (bounds_behind with_generics with_colon head.bounds depth params.0 rest bounds flags.1 f) in
      let b = bounds_there with_generics with_colon head.bounds params.0 rest bounds g2.1 flags.1 f in
      let colon = bounds_colon with_generics with_colon head.bounds depth params.0 rest bounds flags.1 f in
      let there : passed (is_keyword (codes "trait")) at ≡ Some w.0 =
      rw (keyword_there (codes "trait") at w.0 word, one_left Ident (codes "trait") at w.0 word) refl in (
        max r.0 b.0,
        omega (arith, r.1, b.1),
        all_read x ts at w.0 l.0 params.0 rest r.0 b.0 u.1 there (name_complete head.name w.0 l.0 (l.1, g1.0)) r.2 b.2 colon,
      )

pub trait_heads_complete : CompleteHead about_trait_head (λ w ts. trait_head w.kinds ts)
trait_heads_complete depth inner reads x ts rest s g f = trait_read depth inner.kinds reads.kinds x ts rest s g f

pub trait_heads_exact : Exact (head_at (λ w ts. trait_head w.kinds ts)) (λ (x : TraitHead × (Bool × Bool)). TraitHeadAt x.1.0 x.1.1 x.0)
trait_heads_exact = head_exact about_trait_head (λ w ts. trait_head w.kinds ts) trait_heads_sound trait_heads_complete

-- ---- heads of traits within items

-- The head is spelled in one of its ways.
abbrev pub TraitWay : TraitHead → ℕ → Tokens → Tokens → Type 0
TraitWay x depth ts rest =
    (with_generics : Bool) × (with_colon : Bool) × Spells (trait_head_spelled with_generics with_colon x) depth ts rest
    × (tells with_generics x.generics.params ≡ true) × (tells with_colon x.bounds ≡ true)

bounds_way : (bs : List Bound) (depth : ℕ) (ts rest : Tokens) → Spells (bounded_form bs) depth ts rest
    → (with_colon : Bool) × Spells (bounds_spelled with_colon bs) depth ts rest × (tells with_colon bs ≡ true)
bounds_way [] depth ts rest s = elim s.1 [
  | inl e ↦ (false, e ∙ s.2, refl)
  | inr b ↦ (true, (s.0, b, s.2), refl)
]
bounds_way (b ∷ bs) depth ts rest s = (true, s, refl)

bounds_unflagged : (with_colon : Bool) (bs : List Bound) (depth : ℕ) (ts rest : Tokens) → Spells (bounds_spelled with_colon bs) depth ts rest
    → tells with_colon bs ≡ true → Spells (bounded_form bs) depth ts rest
bounds_unflagged true [] depth ts rest s t = (s.0, inr s.1, s.2)
bounds_unflagged false [] depth ts rest s t = (ts, inl refl, s)
bounds_unflagged true (b ∷ bs) depth ts rest s t = s
bounds_unflagged false (b ∷ bs) depth ts rest s t = absurd (cc)

-- what follows `unsafe`
abbrev trait_called : TraitHead → Form → Form
trait_called x f = Piece (keyword (codes "trait") ∷ Blank ∷ []) (leaf_of x.name.raw x.name.text f)

pub trait_way : (x : TraitHead) (depth : ℕ) (ts rest : Tokens) → Spells (trait_head_form x) depth ts rest → TraitWay x depth ts rest
trait_way x depth ts rest s = by x.is_unsafe s
  where
    bounded : Form
    bounded = Part (bounded_form x.bounds) Done

    called_way : (us : Tokens) → Spells (trait_called x (Part (generics_form x.generics) bounded)) depth us rest
        → TraitWay (record { is_unsafe = false; name = x.name; generics = x.generics; bounds = x.bounds }) depth us rest
    called_way us t =
        let l = leaf_parts x.name.raw x.name.text (Part (generics_form x.generics) bounded) depth t.0 rest t.2 in
        let p = l.2 in
        let g = generics_way x.generics depth l.0 p.0 p.1 in
        let b = bounds_way x.bounds depth p.0 rest (part_alone (bounded_form x.bounds) depth p.0 rest p.2) in
        let leaf = leaf_spelled x.name.raw x.name.text (Part (generics_spelled g.0 x.generics) (Part (bounds_spelled b.0 x.bounds) Done)) depth t.0 l.0 rest l.1
        (p.0, g.1, (rest, b.1, refl)) in
        (g.0, b.0, (t.0, t.1, leaf), g.2, b.2)

    by : (is_unsafe : Bool) → Spells (unsafe_form is_unsafe (trait_called x (Part (generics_form x.generics) bounded))) depth ts rest
        → TraitWay (record { is_unsafe = is_unsafe; name = x.name; generics = x.generics; bounds = x.bounds }) depth ts rest
    by true t = let c = called_way t.0 t.2 in (c.0, c.1, (t.0, t.1, c.2), c.3, c.4)
    by false t = called_way ts t

pub trait_unflagged : (x : Flagged) (depth : ℕ) (ts rest : Tokens) → Spells (trait_head_spelled x.1.0 x.1.1 x.0) depth ts rest
    → tells x.1.0 x.0.generics.params ≡ true → tells x.1.1 x.0.bounds ≡ true → Spells (trait_head_form x.0) depth ts rest
trait_unflagged x depth ts rest s g b = by x.0.is_unsafe s
  where
    head : TraitHead
    head = x.0

    spelled : Form
    spelled = Part (generics_spelled x.1.0 head.generics) (Part (bounds_spelled x.1.1 head.bounds) Done)

    behind : Form
    behind = Part (generics_form head.generics) (Part (bounded_form head.bounds) Done)

    called_spelled : (us : Tokens) → Spells (trait_called head spelled) depth us rest → Spells (trait_called head behind) depth us rest
    called_spelled us t =
        let l = leaf_parts head.name.raw head.name.text spelled depth t.0 rest t.2 in
        let p = l.2 in
        let params = generics_unflagged x.1.0 head.generics depth l.0 p.0 p.1 g in
        let bounds = bounds_unflagged x.1.1 head.bounds depth p.0 rest (part_alone (bounds_spelled x.1.1 head.bounds) depth p.0 rest p.2) b in
        (t.0, t.1, leaf_spelled head.name.raw head.name.text behind depth t.0 l.0 rest l.1 (p.0, params, (rest, bounds, refl)))

    by : (is_unsafe : Bool) → Spells (unsafe_form is_unsafe (trait_called head spelled)) depth ts rest
        → Spells (unsafe_form is_unsafe (trait_called head behind)) depth ts rest
    by true t = (t.0, t.1, called_spelled t.0 t.2)
    by false t = called_spelled ts t

-- A where clause and a body may follow it, in whichever way it is spelled.
pub body_ends_bounds : (with_generics with_colon : Bool) (bs : List Bound) (ts : Tokens) → BeforeBody ts → bounds_end with_generics with_colon bs ts ≡ true
body_ends_bounds with_generics with_colon (b ∷ bs) ts e =
    and_from (not (is_op (codes "+") ts)) (may_follow (last_refuses (map about_bound (b ∷ bs))) ts) (ap not e.quiet.plus)
    (quiet_follows (last_refuses (map about_bound (b ∷ bs))) ts e.follow)
body_ends_bounds with_generics true [] ts e = rw e.bound refl
body_ends_bounds true false [] ts e = rw e.colon refl
body_ends_bounds false false [] ts e = rw (e.colon, e.less) refl

-- What is read stands there.
abbrev pub TraitHeld : ℕ → Flagged × ℕ → Tokens → Tokens → Type 0
TraitHeld budget x ts rest = (x.1 ≤ budget) × Spells (trait_head_form x.0.0) x.1 ts rest × (is_trait_head x.0.0 ≡ true)

pub trait_held : (budget : ℕ) (within : Within) → SoundWithin budget within → SoundStep (trait_head within) (TraitHeld budget)
trait_held budget within sound ts x rest t h =
    let s = trait_sound budget within sound ts x rest t h in
    let k = s.0 in
    let told = and_parts (tells x.0.1.0 x.0.0.generics.params && tells x.0.1.1 x.0.0.bounds) (is_trait_head x.0.0) k.2 in
    let flags = and_parts (tells x.0.1.0 x.0.0.generics.params) (tells x.0.1.1 x.0.0.bounds) told.0 in
    ((k.0, trait_unflagged x.0 x.1 ts rest k.1 flags.0 flags.1, told.1), s.1)

-- What stands there before a where clause or a body is read.
pub trait_there : (depth : ℕ) (inner : Within) → Reads depth inner → (x : TraitHead) (ts rest : Tokens) → Spells (trait_head_form x) depth ts rest
    → is_trait_head x ≡ true → ends_head rest ≡ true → (flags : Bool × Bool) × IsRead depth (trait_head inner) (x, flags) ts rest
trait_there depth inner reads x ts rest s g f =
    let w = trait_way x depth ts rest s in
    let flags : Bool × Bool = (w.0, w.1) in
    let good = and_from (tells w.0 x.generics.params && tells w.1 x.bounds) (is_trait_head x)
    (and_from (tells w.0 x.generics.params) (tells w.1 x.bounds) w.3 w.4) g in
    (flags, trait_read depth inner reads (x, flags) ts rest w.2 good (body_ends_bounds w.0 w.1 x.bounds rest (before_body rest f)))

-- A head of a trait begins with its words, in whichever way it is spelled.
pub trait_begins : (x : TraitHead) (depth : ℕ) (ts rest : Tokens) → Spells (trait_head_form x) depth ts rest → WordFront x.is_unsafe (codes "trait") ts
trait_begins x depth ts rest s =
    word_front x.is_unsafe (codes "trait") (trait_called x (Part (generics_form x.generics) (Part (bounded_form x.bounds) Done))) depth ts rest refl
    (λ us t. (t.0, before_blank (keyword (codes "trait")) us t.0 t.1)) s
