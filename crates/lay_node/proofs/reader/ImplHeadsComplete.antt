-- The heads of implementations: what is spelled is read.
use Rattle.lay_form.proofs.FormLaws.{deeper as raise}
use Rattle.std.proofs.Common.{Bool, List, None, Option, Some, [], arith, codes, false, max, not, refl, subst, sym, true, ℕ, ◌&&◌, ◌||◌, ◌∙◌, ◌∷◌, ◌≡◌}
use Rattle.std.proofs.lemmas.Bool.{and_from, and_parts, false_from_ne_true}
use Rattle.lay_piece.specs.declared.kind.Kind.TheVariants.{Ident, Punct}
use Rattle.lay_token.specs.Operators.{is_op}
use Rattle.lay_form.specs.Form.{Blank, Done, Fixed, Form, Part, Piece, keyword}
use Rattle.lay_form.specs.Notation.{piece, when}
use Rattle.lay_form.specs.Spelled.{IsOne, Spells}
use Rattle.lay_node.specs.Ahead.{Tokens, first, is_keyword, is_mark, tail}
use Rattle.lay_node.specs.Begins.{Lead, OfBracket, OfDyn, OfFunc, OfImpl, OfInfer, OfNever, OfParen, OfPath, OfPointer, OfReference, lead_at}
use Rattle.lay_node.specs.nodes.Call.{about_call}
use Rattle.lay_node.specs.nodes.Facts.{ToldFront, by_itself}
use Rattle.lay_node.specs.nodes.Generics.{generics_follow, generics_form, is_generics}
use Rattle.lay_node.specs.nodes.Heads.{about_impl_head, ends_head, is_trait_ref, opens_less, trait_ref_form}
use Rattle.lay_node.specs.nodes.SimplePath.{is_simple_path}
use Rattle.lay_node.specs.nodes.Types.{about_path, about_type, good_at, is_there, TypeFacts}
use Rattle.lay_node.specs.reader.Exact.{Exact}
use Rattle.lay_node.specs.reader.Functions.{head_at}
use Rattle.lay_node.specs.reader.Generics.{generics}
use Rattle.lay_node.specs.reader.Heads.{impl_head, trait_found, trait_ref, unsafe_flag}
use Rattle.lay_node.specs.reader.Loops.{Got, passed}
use Rattle.lay_node.specs.reader.Types.{Within, flag, path}
use Rattle.lay_node.specs.declared.generics.GenericParam.{GenericParam}
use Rattle.lay_node.specs.declared.generics.Generics.{Generics}
use Rattle.lay_node.specs.declared.heads.ImplHead.{ImplHead}
use Rattle.lay_node.specs.declared.heads.TraitRef.{TraitRef}
use Rattle.lay_node.specs.declared.types.Path.{Path}
use Rattle.lay_node.specs.declared.types.PathStyle.TheVariants.{Kind as InKind}
use Rattle.lay_node.specs.declared.types.Ty.{Ty}
use Rattle.lay_node.specs.declared.types.TypePlace.TheVariants.{Bounds}
use Rattle.lay_node.proofs.Fronts.{mark_one, one_front, op_front}
use Rattle.lay_node.proofs.Parts.{before_blank, behind_blank, bit_alone, part_alone, piece_bit}
use Rattle.lay_node.proofs.Steps.{same_some}
use Rattle.lay_node.proofs.nodes.TypesLaws.{TyView, IsPath, IsCall, IsParen, IsTuple, IsNever, IsInfer, IsPtr, IsRef, IsSlice, IsArray, IsFunc, IsBounds, type_view, type_path_is, type_call_is, type_never_is}
use Rattle.lay_node.proofs.reader.Call.{bang_operator}
use Rattle.lay_node.proofs.reader.Exact.{IsRead}
use Rattle.lay_node.proofs.reader.GenericsComplete.{generics_read}
use Rattle.lay_node.proofs.reader.HeadEnds.{BeforeBody, WordFront, before_body, word_front}
use Rattle.lay_node.proofs.reader.HeadParts.{generics_way}
use Rattle.lay_node.proofs.reader.HeadsLevel.{CompleteHead, head_exact}
use Rattle.lay_node.proofs.reader.ImplFronts.{path_lead, ref_less, words_are_path, words_path}
use Rattle.lay_node.proofs.reader.ImplHeadsSound.{impl_heads_sound}
use Rattle.lay_node.proofs.reader.TypesBegins.{lead_of, opened, path_begins, type_begins}
use Rattle.lay_node.proofs.reader.TypesComplete.{Reads, quiet_read}
use Rattle.lay_node.proofs.reader.TypesCompleteKinds.{keyword_other}
use Rattle.lay_node.proofs.reader.TypesCompleteParts.{blank_left, flag_complete, keyword_there, one_left}
use Rattle.lay_node.proofs.reader.TypesCompletePaths.{path_read}
use Rattle.lay_node.proofs.reader.TypesFronts.{free_clear, kind_quiet}

-- ---- a `!` at the beginning

bang_lead : (ts rest : Tokens) → IsOne Punct (codes "!") ts rest → lead_at ts ≡ Some OfNever
unfolding lead_at
bang_lead ts rest o = rw (one_front Punct (codes "!") ts rest o).1 refl

lead_no_bang : (ts : Tokens) (l : Lead) → (Some OfNever ≡ Some l → ⊥) → lead_at ts ≡ Some l → first (is_mark (codes "!")) ts ≡ false
lead_no_bang ts l differ h =
    false_from_ne_true (first (is_mark (codes "!")) ts) (λ e. differ (sym (bang_lead ts (tail ts) (mark_one (codes "!") ts e)) ∙ h))

-- ---- no trait is found where a type stands before a where clause or a body

-- What is read there is no path with `for` after it.
abbrev NoFor : Got (Path × ℕ) → Type 0
NoFor o = (p : (Path × ℕ) × Tokens) → o ≡ Some p → first (is_keyword (codes "for")) p.1 ≡ false

not_found : (negative : Bool) (ts : Tokens) (o : Got (Path × ℕ)) → NoFor o → trait_found negative ts o ≡ Some ((None, 0), ts)
not_found negative ts None h = refl
not_found negative ts (Some p) h = rw (h p refl) refl

-- Where a path is read, another reading of it is the same.
read_no_for : (o : Got (Path × ℕ)) (x : Path × ℕ) (rest : Tokens) → o ≡ Some (x, rest) → first (is_keyword (codes "for")) rest ≡ false → NoFor o
read_no_for o x rest e h p f =
    same_some (λ (z : (Path × ℕ) × Tokens). first (is_keyword (codes "for")) z.1 ≡ false) (x, rest) p (sym e ∙ f) h

bang_no_for : (ts : Tokens) → is_op (codes "!") ts ≡ true → first (is_keyword (codes "for")) ts ≡ false
bang_no_for ts h = rw (op_front (codes "!") ts h).2 refl

module _ (depth : ℕ) (inner : Within) (reads : Reads depth inner) where
  -- No path is read where none begins.
  lead_no_for : (ts : Tokens) (l : Option Lead) → (l ≡ Some OfPath → ⊥) → lead_at ts ≡ l → NoFor (path inner InKind ts)
  lead_no_for ts l differ h p e = absurd (differ (sym h ∙ path_lead inner InKind ts p e))

  -- Before a where clause or a body a type is read, and no path with `for` after it.
  type_stays : (x : Ty) (ts rest : Tokens) → Spells (about_type x).told.form depth ts rest → good_at Bounds (about_type x) ≡ true → BeforeBody rest
      → NoFor (path inner InKind (flag (is_mark (codes "!")) ts).1)
  type_stays x ts rest s g b = by x (type_view x) s g (type_begins x Bounds depth ts rest s g).lead
    where
      Wanted : Type 0
      Wanted = NoFor (path inner InKind (flag (is_mark (codes "!")) ts).1)

      -- Only `!` by itself is passed.
      kept : (l : Lead) → (Some OfNever ≡ Some l → ⊥) → lead_at ts ≡ Some l → NoFor (path inner InKind ts) → Wanted
      kept l differ h n = let none = lead_no_bang ts l differ h in rw none n

      other : (l : Lead) → (Some OfNever ≡ Some l → ⊥) → (Some l ≡ Some OfPath → ⊥) → lead_at ts ≡ Some l → Wanted
      other l differ no_path h = kept l differ h (lead_no_for ts (Some l) no_path h)

      by : (y : Ty) (v : TyView y) → Spells (about_type y).told.form depth ts rest → (about_type y).told.good ≡ true → lead_at ts ≡ Some (lead_of y v)
          → Wanted
      by _ (IsPath p) t h l =
          let u = subst (λ (F : TypeFacts). Spells F.told.form depth ts rest) (type_path_is p) t in
          let i = opened (about_path p InKind).form depth ts rest u in
          let spelled = raise (about_path p InKind).form i.0 depth ts rest (omega (arith, i.1)) i.2 in
          let good = subst (λ (F : TypeFacts). F.told.good ≡ true) (type_path_is p) h in
          let r = path_read depth inner reads InKind p ts rest spelled good (free_clear (about_path p InKind).refuses rest b.quiet.free) in
          kept OfPath (λ e. cc) l (read_no_for (path inner InKind ts) (p, r.0) rest r.2 b.for_word)
      by _ (IsCall c) t h l =
          let u = subst (λ (F : TypeFacts). Spells F.told.form depth ts rest) (type_call_is c) t in
          let i = opened (about_call c).form depth ts rest u in
          let call = raise (about_call c).form i.0 depth ts rest (omega (arith, i.1)) i.2 in
          let good = (and_parts (is_simple_path c.path) _ (subst (λ (F : TypeFacts). F.told.good ≡ true) (type_call_is c) h)).0 in
          let mid = call.0 in
          let behind = call.2 in
          let o = bang_operator c.tokens.delim mid behind.0 behind.1 in
          let w = words_are_path c.path depth ts mid call.1 good o.0 in
          let p = words_path c.path in
          let r = path_read depth inner reads InKind p ts mid w.spelled w.good w.clear in
          kept OfPath (λ e. cc) l (read_no_for (path inner InKind ts) (p, r.0) mid r.2 (bang_no_for mid o.0))
      by _ IsNever t h l =
          let u = subst (λ (F : TypeFacts). Spells F.told.form depth ts rest) type_never_is t in
          let i = opened (piece (Fixed Punct (codes "!") ∷ [])) depth ts rest u in
          let o : IsOne Punct (codes "!") ts rest = piece_bit (Fixed Punct (codes "!")) i.0 ts rest i.2 in
          let there : first (is_mark (codes "!")) ts ≡ true = rw (one_front Punct (codes "!") ts rest o).1 refl in
          let left = one_left Punct (codes "!") ts rest o in
          rw (there, left) (lead_no_for rest None (λ e. cc) b.lead)
      by _ (IsParen y) t h l = other OfParen (λ e. cc) (λ e. cc) l
      by _ (IsTuple ys) t h l = other OfParen (λ e. cc) (λ e. cc) l
      by _ IsInfer t h l = other OfInfer (λ e. cc) (λ e. cc) l
      by _ (IsPtr m y) t h l = other OfPointer (λ e. cc) (λ e. cc) l
      by _ (IsRef r m y) t h l = other OfReference (λ e. cc) (λ e. cc) l
      by _ (IsSlice y) t h l = other OfBracket (λ e. cc) (λ e. cc) l
      by _ (IsArray y us) t h l = other OfBracket (λ e. cc) (λ e. cc) l
      by _ (IsFunc d u a ps v o) t h l = other OfFunc (λ e. cc) (λ e. cc) l
      by _ (IsBounds true bs) t h l = other OfDyn (λ e. cc) (λ e. cc) l
      by _ (IsBounds false bs) t h l = other OfImpl (λ e. cc) (λ e. cc) l

  -- ---- the trait that is implemented

  ref_read : (of : Option TraitRef) (x : Ty) (ts rest : Tokens) → Spells (trait_ref_form of (Part (about_type x).told.form Done)) depth ts rest
      → is_trait_ref of ≡ true → good_at Bounds (about_type x) ≡ true → BeforeBody rest
      → (mid : Tokens) × IsRead depth (trait_ref inner) of ts mid × Spells (about_type x).told.form depth mid rest
  unfolding trait_ref
  ref_read None x ts rest s h g b =
      let spelled = part_alone (about_type x).told.form depth ts rest s in
      let none = not_found (flag (is_mark (codes "!")) ts).0 ts (path inner InKind (flag (is_mark (codes "!")) ts).1) (type_stays x ts rest spelled g b) in
      (ts, (0, omega arith, none), spelled)
  ref_read (Some r) x ts rest s h g b = by r.negative s
    where
      behind : Form
      behind = Part (about_path r.path InKind).form (Piece (Blank ∷ keyword (codes "for") ∷ Blank ∷ []) (Part (about_type x).told.form Done))

      Found : Bool → Type 0
      Found negative =
          (mid : Tokens) × IsRead depth (trait_ref inner) (Some (record { negative = negative; path = r.path })) ts mid
          × Spells (about_type x).told.form depth mid rest

      found : (negative : Bool) (at : Tokens) → flag (is_mark (codes "!")) ts ≡ (negative, at) → Spells behind depth at rest → Found negative
      found negative at e t =
          let w = t.2 in
          let word : IsOne Ident (codes "for") t.0 w.0 =
          before_blank (keyword (codes "for")) t.0 w.0 (behind_blank (keyword (codes "for") ∷ Blank ∷ []) t.0 w.0 w.1) in
          let free = (kind_quiet Ident (codes "for") refl refl t.0 w.0 word).free in
          let p = path_read depth inner reads InKind r.path at t.0 t.1 h (free_clear (about_path r.path InKind).refuses t.0 free) in
          let there = keyword_there (codes "for") t.0 w.0 word in
          let left = one_left Ident (codes "for") t.0 w.0 word in
          (w.0, (p.0, p.1, rw (e, p.2, there, left) refl), part_alone (about_type x).told.form depth w.0 rest w.2)

      by : (negative : Bool) → Spells (when negative (Fixed Punct (codes "!") ∷ []) behind) depth ts rest → Found negative
      by true t =
          let o : IsOne Punct (codes "!") ts t.0 = bit_alone (Fixed Punct (codes "!")) ts t.0 t.1 in
          let there : first (is_mark (codes "!")) ts ≡ true = rw (one_front Punct (codes "!") ts t.0 o).1 refl in
          let left = one_left Punct (codes "!") ts t.0 o in
          found true t.0 (rw (there, left) refl) t.2
      by false t =
          let lead = (path_begins InKind r.path depth ts t.0 t.1 h).lead in
          let none = lead_no_bang ts OfPath (λ e. cc) lead in
          found false ts (rw none refl) t

  -- ---- the head

  all_read : (x : ImplHead) (ts a b c d rest : Tokens) (l m n : ℕ) (is_spelled : Bool) → unsafe_flag ts ≡ (x.is_unsafe, a)
      → passed (is_keyword (codes "impl")) a ≡ Some b → generics inner b ≡ Some (((x.generics, is_spelled), l), c)
      → trait_ref inner c ≡ Some ((x.of, m), d) → inner.types Bounds d ≡ Some ((x.ty, n), rest)
      → (is_there x.generics.params || not (first (is_mark (codes "<")) c)) ≡ true → ends_head rest ≡ true
      → impl_head inner ts ≡ Some ((x, max l (max m n)), rest)
  unfolding impl_head
  all_read x ts a b c d rest l m n is_spelled e f g h i j k = rw (e, f, g, h, i, j, k) refl

  -- Generic parameters that are spelled as nothing are none, so no `<` stands after them.
  generics_behind : (is_spelled : Bool) (g : Generics) (ts : Tokens) → (is_spelled || not (is_there g.params)) ≡ true
      → (is_there g.params || not (first (is_mark (codes "<")) ts)) ≡ true → generics_follow is_spelled ts ≡ true
  generics_behind true g ts h k = refl
  generics_behind false g ts h k = by g.params h k
    where
      by : (ps : List GenericParam) → (false || not (is_there ps)) ≡ true → (is_there ps || not (first (is_mark (codes "<")) ts)) ≡ true
          → not (first (is_mark (codes "<")) ts) ≡ true
      by [] h k = k
      by (p ∷ ps) h k = absurd (cc)

  impl_read : (x : ImplHead) (ts rest : Tokens) → Spells (about_impl_head x).form depth ts rest → (about_impl_head x).good ≡ true
      → (about_impl_head x).follows rest ≡ true → IsRead depth (impl_head inner) x ts rest
  impl_read x ts rest s g f =
      let g3 = and_parts (is_generics x.generics && is_trait_ref x.of && good_at Bounds (about_type x.ty))
      (is_there x.generics.params || not (opens_less x.of x.ty)) g in
      let g2 = and_parts (is_generics x.generics && is_trait_ref x.of) (good_at Bounds (about_type x.ty)) g3.0 in
      let g1 = and_parts (is_generics x.generics) (is_trait_ref x.of) g2.0 in
      let inside : Form = trait_ref_form x.of (Part (about_type x.ty).told.form Done) in
      let F : Form = Piece (keyword (codes "impl") ∷ []) (Part (generics_form x.generics) (Piece (Blank ∷ []) inside)) in
      let u = flag_complete (codes "unsafe") x.is_unsafe F depth ts rest s
      (λ us t. keyword_other (codes "impl") (codes "unsafe") refl us t.0 (bit_alone (keyword (codes "impl")) us t.0 t.1)) in
      let at = u.0 in
      let w = u.2 in
      let word : IsOne Ident (codes "impl") at w.0 = bit_alone (keyword (codes "impl")) at w.0 w.1 in
      let params = w.2 in
      let mid = params.0 in
      let blank = params.2 in
      let spelled : Spells inside depth mid rest = subst (λ us. Spells inside depth us rest) (sym (blank_left mid blank.0 blank.1)) blank.2 in
      let less = ref_less x.of x.ty depth mid rest spelled g1.1 g2.1 in
      let told : (is_there x.generics.params || not (first (is_mark (codes "<")) mid)) ≡ true =
      subst (λ z. (is_there x.generics.params || not z) ≡ true) (sym less) g3.1 in
      let way = generics_way x.generics depth w.0 mid params.1 in
      let good = and_from (way.0 || not (is_there x.generics.params)) (is_generics x.generics) way.2 g1.0 in
      let p = generics_read depth inner reads way.0 x.generics w.0 mid way.1 good (generics_behind way.0 x.generics mid way.2 told) in
      let b = before_body rest f in
      let r = ref_read x.of x.ty mid rest spelled g1.1 g2.1 b in
      let of = r.1 in
      let y = quiet_read depth inner reads Bounds x.ty r.0 rest r.2 g2.1 b.quiet in
      let there : passed (is_keyword (codes "impl")) at ≡ Some w.0 =
      rw (keyword_there (codes "impl") at w.0 word, one_left Ident (codes "impl") at w.0 word) refl in (
        max p.0 (max of.0 y.0),
        omega (arith, p.1, of.1, y.1),
        all_read x ts at w.0 mid r.0 rest p.0 of.0 y.0 way.0 u.1 there p.2 of.2 y.2 told f,
      )

pub impl_heads_complete : CompleteHead about_impl_head (λ w ts. impl_head w.kinds ts)
impl_heads_complete depth inner reads x ts rest s g f = impl_read depth inner.kinds reads.kinds x ts rest s g f

pub impl_heads_exact : Exact (head_at (λ w ts. impl_head w.kinds ts)) (λ (x : ImplHead). ToldFront (by_itself (about_impl_head x)))
impl_heads_exact = head_exact about_impl_head (λ w ts. impl_head w.kinds ts) impl_heads_sound impl_heads_complete

-- A head of an implementation begins with its words.
pub impl_begins : (x : ImplHead) (depth : ℕ) (ts rest : Tokens) → Spells (about_impl_head x).form depth ts rest → WordFront x.is_unsafe (codes "impl") ts
impl_begins x depth ts rest s =
    let inside : Form = trait_ref_form x.of (Part (about_type x.ty).told.form Done) in
    word_front x.is_unsafe (codes "impl") (Piece (keyword (codes "impl") ∷ []) (Part (generics_form x.generics) (Piece (Blank ∷ []) inside))) depth ts rest refl
    (λ us t. (t.0, bit_alone (keyword (codes "impl")) us t.0 t.1)) s
