-- The heads of implementations: what is read within a budget stands there, at the depth that it needs.
use Rattle.std.proofs.Common.{Bool, None, Option, Some, [], arith, codes, inl, inr, max, not, refl, subst, true, ℕ, ◌&&◌, ◌||◌, ◌∷◌, ◌≡◌, ◌≤◌}
use Rattle.std.proofs.lemmas.Bool.{and_parts}
use Rattle.lay_piece.specs.declared.kind.Kind.TheVariants.{Punct}
use Rattle.lay_form.specs.Form.{Blank, Done, Fixed, Form, Part, Piece, keyword}
use Rattle.lay_form.specs.Spelled.{AreBits, Spells}
use Rattle.lay_form.proofs.FormLaws.{deeper as raise}
use Rattle.lay_node.specs.Ahead.{Tokens, first, is_keyword, is_mark, tail}
use Rattle.lay_node.specs.nodes.Generics.{generics_form, is_generics}
use Rattle.lay_node.specs.nodes.Heads.{about_impl_head, ends_head, is_impl_head, is_trait_ref, opens_less, trait_ref_form}
use Rattle.lay_node.specs.nodes.Types.{about_path, about_type, good_at, is_there}
use Rattle.lay_node.specs.reader.Generics.{generics}
use Rattle.lay_node.specs.reader.Heads.{impl_head, trait_found, trait_ref, unsafe_flag}
use Rattle.lay_node.specs.reader.Loops.{Got, passed}
use Rattle.lay_node.specs.reader.Types.{Within, flag, path}
use Rattle.lay_node.specs.declared.heads.ImplHead.{ImplHead}
use Rattle.lay_node.specs.declared.heads.TraitRef.{TraitRef}
use Rattle.lay_node.specs.declared.types.Path.{Path}
use Rattle.lay_node.specs.declared.types.PathStyle.TheVariants.{Kind as InKind}
use Rattle.lay_node.specs.declared.types.TypePlace.TheVariants.{Bounds}
use Rattle.lay_node.proofs.Fronts.{keyword_one, mark_one}
use Rattle.lay_node.proofs.Steps.{bind_some, chosen, same_some}
use Rattle.lay_node.proofs.reader.HeadEnds.{unsafe_bits}
use Rattle.lay_node.proofs.reader.HeadParts.{generics_held}
use Rattle.lay_node.proofs.reader.HeadsLevel.{SoundHead, Stood}
use Rattle.lay_node.proofs.reader.ImplFronts.{ref_less}
use Rattle.lay_node.proofs.reader.Loops.{SoundStep}
use Rattle.lay_node.proofs.reader.TypesSoundLevel.{SoundWithin}
use Rattle.lay_node.proofs.reader.TypesSoundParts.{Out, bit_texts, flag_leads, flag_texts, keyword_passed_is}
use Rattle.lay_node.proofs.reader.TypesSoundPaths.{path_sound}

-- The trait that is implemented is spelled before whatever follows its `for`.
record RefHeld (budget : ℕ) (x : Option TraitRef × ℕ) (ts rest : Tokens) : Type 0 where
  pub within : x.1 ≤ budget
  pub leads : (f : Form) (depth : ℕ) (end : Tokens) → x.1 ≤ depth → Spells f depth rest end → Spells (trait_ref_form x.0 f) depth ts end
  pub good : is_trait_ref x.0 ≡ true

bang_bits : (ts : Tokens) → first (is_mark (codes "!")) ts ≡ true → AreBits (Fixed Punct (codes "!") ∷ []) ts (tail ts)
bang_bits ts e = (tail ts, mark_one (codes "!") ts e, refl)

impl_good : (x : ImplHead) (less : Bool) → is_generics x.generics ≡ true → is_trait_ref x.of ≡ true → good_at Bounds (about_type x.ty) ≡ true
    → less ≡ opens_less x.of x.ty → (is_there x.generics.params || not less) ≡ true → is_impl_head x ≡ true
impl_good x less a b c e h =
    let shown : (is_there x.generics.params || not (opens_less x.of x.ty)) ≡ true =
    subst (λ z. (is_there x.generics.params || not z) ≡ true) e h in
    rw (a, b, c, shown) refl

module _ (budget : ℕ) (within : Within) (sound : SoundWithin budget within) where
  trait_ref_sound : SoundStep (trait_ref within) (RefHeld budget)
  unfolding trait_ref
  trait_ref_sound ts x rest t h = by (path within InKind start) refl h
    where
      negative : Bool
      negative = (flag (is_mark (codes "!")) ts).0

      start : Tokens
      start = (flag (is_mark (codes "!")) ts).1

      none : RefHeld budget (None, 0) ts ts
      none = record { within = omega arith; leads = λ f depth end le s. s; good = refl }

      by : (o : Got (Path × ℕ)) → path within InKind start ≡ o → trait_found negative ts o ≡ Some (x, rest) → Out (RefHeld budget) ts (x, rest)
      by None e g = same_some (Out (RefHeld budget) ts) ((None, 0), ts) (x, rest) g (none, t)
      by (Some p) e g = elim (chosen (first (is_keyword (codes "for")) p.1) _ _ _ g) [
        | inl k ↦
            let begun = flag_texts (is_mark (codes "!")) (Fixed Punct (codes "!") ∷ []) ts (bang_bits ts) t in
            let s = path_sound budget within sound InKind start p.0 p.1 begun e in
            let stands = s.0.1 in
            let word = keyword_one (codes "for") p.1 k.0 in
            let behind : Form → Form = λ f. Part (about_path p.0.0 InKind).form (Piece (Blank ∷ keyword (codes "for") ∷ Blank ∷ []) f) in
            let made : Option TraitRef × ℕ = (Some (record { negative = negative; path = p.0.0 }), p.0.1) in
            let held : RefHeld budget made ts (tail p.1) =
            record {
              within = s.0.0;
              leads = λ f depth end le u.
                  flag_leads (is_mark (codes "!")) (Fixed Punct (codes "!") ∷ []) ts (bang_bits ts) (behind f) depth end (
                    p.1,
                    raise (about_path p.0.0 InKind).form p.0.1 depth start p.1 le stands.0,
                    (tail p.1, (p.1, refl, (tail p.1, word, (tail p.1, refl, refl))), u),
                  );
              good = stands.1;
            } in
            same_some (Out (RefHeld budget) ts) (made, tail p.1) (x, rest) k.1 (held, bit_texts (keyword (codes "for")) p.1 (tail p.1) word s.1)
        | inr k ↦ same_some (Out (RefHeld budget) ts) ((None, 0), ts) (x, rest) k.1 (none, t)
      ]

  impl_sound : SoundStep (impl_head within) (Stood about_impl_head budget)
  unfolding impl_head
  impl_sound ts x rest t h =
      let is_unsafe = (unsafe_flag ts).0 in
      let start = (unsafe_flag ts).1 in
      let k = bind_some (passed (is_keyword (codes "impl")) start) _ _ h in
      let g = bind_some (generics within k.0) _ _ k.2 in
      let r = bind_some (trait_ref within g.0.1) _ _ g.2 in
      let y = bind_some (within.types Bounds r.0.1) _ _ r.2 in
      let begun = flag_texts (is_keyword (codes "unsafe")) (keyword (codes "unsafe") ∷ Blank ∷ []) ts (unsafe_bits ts) t in
      let word = keyword_passed_is (codes "impl") start k.0 k.1 in
      let s = generics_held budget within sound k.0 g.0.0 g.0.1 (bit_texts (keyword (codes "impl")) start k.0 word begun) g.1 in
      let q = trait_ref_sound g.0.1 r.0.0 r.0.1 s.1 r.1 in
      let v = sound.types Bounds r.0.1 y.0.0 y.0.1 q.1 y.1 in
      let params = s.0 in
      let of = q.0 in
      let behind = v.0 in
      let made : ImplHead = record { is_unsafe = is_unsafe; generics = g.0.0.0.0; of = r.0.0.0; ty = y.0.0.0 } in
      let most = max g.0.0.1 (max r.0.0.1 y.0.0.1) in
      let type_form : Form = (about_type made.ty).told.form in
      let spelled_type : Spells (Part type_form Done) most r.0.1 y.0.1 =
      (y.0.1, raise type_form y.0.0.1 most r.0.1 y.0.1 (omega arith) behind.1, refl) in
      let inner = of.leads (Part type_form Done) most y.0.1 (omega arith) spelled_type in
      let spelled_params = raise (generics_form made.generics) g.0.0.1 most k.0 g.0.1 (omega arith) params.1 in
      let F : Form = Piece (keyword (codes "impl") ∷ []) (Part (generics_form made.generics) (Piece (Blank ∷ []) (trait_ref_form made.of (Part type_form Done)))) in
      let whole = flag_leads (is_keyword (codes "unsafe")) (keyword (codes "unsafe") ∷ Blank ∷ []) ts (unsafe_bits ts) F most y.0.1
      (k.0, (k.0, word, refl), (g.0.1, spelled_params, (g.0.1, (g.0.1, refl, refl), inner))) in
      let less = first (is_mark (codes "<")) g.0.1 in
      elim (chosen ((is_there made.generics.params || not less) && ends_head y.0.1) (Some ((made, most), y.0.1)) None (Some (x, rest)) y.2) [
        | inl c ↦
            let tests = and_parts (is_there made.generics.params || not less) (ends_head y.0.1) c.0 in
            let good = impl_good made less params.2 of.good behind.2 (ref_less made.of made.ty most g.0.1 y.0.1 inner of.good behind.2) tests.0 in
            same_some (Out (Stood about_impl_head budget) ts) ((made, most), y.0.1) (x, rest) c.1
            ((omega (arith, params.0, of.within, behind.0), whole, good, tests.1), v.1)
        | inr c ↦ absurd (cc)
      ]

pub impl_heads_sound : SoundHead about_impl_head (λ w ts. impl_head w.kinds ts)
impl_heads_sound budget inner sound = impl_sound budget inner.kinds sound.kinds
