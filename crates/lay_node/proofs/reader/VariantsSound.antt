-- Variants of enumerations: what is read within a budget stands there, at the depth that it needs. The tokens of a
-- discriminant are a token list since a comma or a closer stands after them, so variants are told as elements of a list.
use Rattle.std.proofs.Common.{◌≡◌, ℕ, zero, suc, ◌≤◌, Bool, true, false, not, ◌&&◌, List, [], ◌∷◌, ◌++◌, length, map, drop, codes, Option, Some, None, inl, inr, refl, sym, ap, subst, ◌∙◌, if◌then◌else◌, arith}
use Rattle.std.specs.List.{list_all}
use Rattle.std.proofs.lemmas.Bool.{and_from, or_right}
use Rattle.lay_piece.specs.declared.kind.Delim.{Delim}
use Rattle.lay_piece.specs.declared.kind.Delim.TheVariants.{Brace}
use Rattle.lay_token.specs.Delimiters as delimiters
use Rattle.lay_token.specs.Operators.{is_op}
use Rattle.lay_token.specs.declared.token.Token.{Token}
use Rattle.lay_form.specs.Form.{Fixed, Form, Done, Part, opener, closer}
use Rattle.lay_form.specs.Notation as notation
use Rattle.lay_form.specs.Spelled.{IsOperator, Spells}
use Rattle.lay_form.proofs.FormLaws.{deeper as raise}
use Rattle.lay_node.specs.Ahead.{Tokens, first, tail, closes, is_mark, opens}
use Rattle.lay_node.specs.Words.{is_name, leaf_of}
use Rattle.lay_node.specs.nodes.Attr.{are_attrs, is_empty}
use Rattle.lay_node.specs.nodes.Fields.{are_fields, blank_if, discriminant_form, fields_form, has_comma, is_discriminant, is_variant, variant_form}
use Rattle.lay_node.specs.nodes.Vis.{is_vis}
use Rattle.lay_node.specs.reader.Attr.{attributes}
use Rattle.lay_node.specs.reader.Exact.{InText}
use Rattle.lay_node.specs.reader.Fields.{discriminant, variant, variant_fields, variants}
use Rattle.lay_node.specs.reader.Loops.{Got, ◌>>=◌, deepest, element_end, elements, elements_from, nodes, passed}
use Rattle.lay_node.specs.reader.Tokens.{tokens_before_comma}
use Rattle.lay_node.specs.reader.Types.{Within, if_there}
use Rattle.lay_node.specs.reader.Vis.{visibility}
use Rattle.lay_node.specs.reader.Words.{name}
use Rattle.lay_node.specs.tokens.Lexed.{is_token_list}
use Rattle.lay_node.specs.declared.fields.Variant.{Variant}
use Rattle.lay_node.specs.declared.token.Listed.{Listed}
use Rattle.lay_node.proofs.Fronts.{closer_kind, closes_one, opener_passed_is}
use Rattle.lay_node.proofs.Parts.{leaf_spelled, word_kind}
use Rattle.lay_node.proofs.Steps.{bind_some, chosen, got_same, same_some}
use Rattle.lay_node.proofs.WithCommas.{list_as_fields}
use Rattle.lay_node.proofs.reader.Attr.{behind_equals}
use Rattle.lay_node.proofs.reader.FieldsSound.{leads_sound, variant_fields_sound}
use Rattle.lay_node.proofs.reader.Loops.{SoundStep}
use Rattle.lay_node.proofs.reader.TokenLists.{EndsRun, before_comma_sound}
use Rattle.lay_node.proofs.reader.TypesSoundLevel.{SoundWithin}
use Rattle.lay_node.proofs.reader.TypesSoundNeeds.{listed}
use Rattle.lay_node.proofs.reader.TypesSoundParts.{Out, bit_texts}
use Rattle.lay_node.proofs.reader.Words.{name_sound}

-- ---- elements before what ends them

-- an element, read where a comma or what closes the list stands after it
abbrev before_end : {A : Type 0} → (Token → Bool) → (Tokens → Got A) → Tokens → Got A
before_end closed one ts = do x ← one ts; behind ← element_end closed x.1; Some x

from_before_end : {A : Type 0} (closed : Token → Bool) (one : Tokens → Got A) (n : ℕ) (found : List A) (ts : Tokens) (r : List A × Tokens)
    → elements_from closed one n found ts ≡ Some r → elements_from closed (before_end closed one) n found ts ≡ Some r
unfolding elements_from
from_before_end closed one zero found ts r h = absurd (cc)
from_before_end {A} closed one (suc n) found ts r h =
    let go_on : A × Tokens → Got (List A) =
    λ x. element_end closed x.1 >>= (λ next. elements_from closed one n (found ++ x.0 ∷ []) next) in
    elim (chosen (first closed ts) (Some (found, tail ts)) (one ts >>= go_on) (Some r) h) [
      | inl g ↦ rw g.0 g.1
      | inr g ↦
          let x = bind_some (one ts) go_on r g.1 in
          let next = bind_some (element_end closed x.0.1) (λ us. elements_from closed one n (found ++ x.0.0 ∷ []) us) r x.2 in
          rw (g.0, x.1, next.1) (rw next.1 (from_before_end closed one n (found ++ x.0.0 ∷ []) next.0 r next.2))
    ]

elements_before_end : {A : Type 0} (closed : Token → Bool) (one : Tokens → Got A) (ts : Tokens) (r : List A × Tokens)
    → elements closed one ts ≡ Some r → elements closed (before_end closed one) ts ≡ Some r
unfolding elements
elements_before_end closed one ts r h = from_before_end closed one (suc (length ts)) [] ts r h

end_ends : (d : Delim) (ts next : Tokens) → element_end (closes d) ts ≡ Some next → EndsRun true ts
end_ends d [] next h = absurd (cc)
end_ends d (t ∷ ts) next h = elim (chosen (is_mark (codes ",") t) (Some ts) (if closes d t then Some (t ∷ ts) else None) (Some next) h) [
  | inl g ↦ or_right (delimiters.is_closer t.kind) (is_mark (codes ",") t) g.0
  | inr g ↦ elim (chosen (closes d t) (Some (t ∷ ts)) None (Some next) g.1) [
    | inl f ↦ rw (ap delimiters.is_closer (closer_kind d t.kind f.0)) refl
    | inr f ↦ absurd (cc)
  ]
]

-- ---- discriminants

abbrev DiscriminantHeld : Option (List Listed) → Tokens → Tokens → Type 0
DiscriminantHeld d ts rest = Spells (discriminant_form d) 0 ts rest × (is_discriminant d ≡ true)

discriminant_sound : (ts : Tokens) (us : List Listed) (rest : Tokens) → InText ts → is_op (codes "=") ts ≡ true → discriminant (drop 1 ts) ≡ Some (us, rest)
    → EndsRun true rest → Out DiscriminantHeld ts (Some us, rest)
unfolding discriminant
discriminant_sound ts us rest t g h e =
    let at = drop 1 ts in
    let o : IsOperator (codes "=") ts at = (g, refl) in
    let vs = bind_some (tokens_before_comma at) _ _ h in
    elim (chosen (is_empty vs.0.0) _ _ _ vs.2) [
      | inl f ↦ absurd (cc f.1)
      | inr f ↦
          let read = vs.1 ∙ f.1 in
          let some = same_some (λ (r : List Listed × Tokens). is_empty r.0 ≡ false) vs.0 (us, rest) f.1 f.0 in
          let j = behind_equals ts t g in
          let s = before_comma_sound 0 at us rest j.0 j.1 read e in (
            (
              (at, (ts, refl, (at, o, (at, refl, refl))), (rest, s.0, refl)),
              and_from (not (is_empty us) && is_token_list us) (not (has_comma 0 us))
                  (and_from (not (is_empty us)) (is_token_list us) (ap not some) s.1) (ap not s.2),
            ),
            s.3,
          )
    ]

discriminant_if : (b : Bool) (ts : Tokens) (d : Option (List Listed)) (rest : Tokens) → is_op (codes "=") ts ≡ b → InText ts
    → if_there b (λ us. discriminant (drop 1 us)) ts ≡ Some (d, rest) → EndsRun true rest → Out DiscriminantHeld ts (d, rest)
discriminant_if true ts d rest g t h e =
    let y = bind_some (discriminant (drop 1 ts)) _ _ h in
    let left = (got_same {A = Option (List Listed)} (Some y.0.0) d y.0.1 rest y.2).1 in
    same_some (Out DiscriminantHeld ts) (Some y.0.0, y.0.1) (d, rest) y.2
    (discriminant_sound ts y.0.0 y.0.1 t g y.1 (subst (EndsRun true) (sym left) e))
discriminant_if false ts d rest g t h e = same_some (Out DiscriminantHeld ts) (None, ts) (d, rest) h ((refl, refl), t)

module _ (budget : ℕ) (within : Within) (sound : SoundWithin budget within) where
  abbrev pub VariantHeld : Variant × ℕ → Tokens → Tokens → Type 0
  VariantHeld x ts rest = (x.1 ≤ budget) × Spells (variant_form x.0) x.1 ts rest × (is_variant x.0 ≡ true)

  -- A variant before a comma or a closer.
  pub variant_sound : (ts : Tokens) (x : Variant × ℕ) (rest : Tokens) → InText ts → EndsRun true rest → variant within ts ≡ Some (x, rest)
      → Out VariantHeld ts (x, rest)
  unfolding variant
  variant_sound ts x rest t e h =
      let a = bind_some (attributes false ts) _ _ h in
      let v = bind_some (visibility a.0.1) _ _ a.2 in
      let n = bind_some (name v.0.1) _ _ v.2 in
      let fs = bind_some (variant_fields within n.0.1) _ _ n.2 in
      let d = bind_some (if_there (is_op (codes "=") fs.0.1) (λ us. discriminant (drop 1 us)) fs.0.1) _ _ fs.2 in
      let l = leads_sound ts a.0.0 a.0.1 v.0.0 v.0.1 t a.1 v.1 in
      let i = name_sound v.0.1 n.0.0 n.0.1 n.1 in
      let raw = n.0.0.raw in
      let text = n.0.0.text in
      let named = bit_texts (Fixed (word_kind raw) text) v.0.1 n.0.1 i.0 l.texts in
      let s = variant_fields_sound budget within sound n.0.1 fs.0.0 fs.0.1 named fs.1 in
      let need = fs.0.0.1 in
      let one : Variant = record { attrs = a.0.0; vis = v.0.0; name = n.0.0; fields = fs.0.0.0; discriminant = d.0.0 } in
      let left = (got_same {A = Variant × ℕ} (one, need) x d.0.1 rest d.2).1 in
      let k = discriminant_if (is_op (codes "=") fs.0.1) fs.0.1 d.0.0 d.0.1 refl s.1 d.1 (subst (EndsRun true) (sym left) e) in
      let inner = raise (discriminant_form d.0.0) 0 need fs.0.1 d.0.1 (omega arith) k.0.0 in
      let behind : Form = Part (fields_form true fs.0.0.0) (Part (discriminant_form d.0.0) Done) in
      let leaf = leaf_spelled raw text behind need v.0.1 n.0.1 d.0.1 i.0 (fs.0.1, s.0.1, (d.0.1, inner, refl)) in
      let good = and_from (are_attrs false a.0.0 && is_vis v.0.0 && is_name raw text && are_fields fs.0.0.0) (is_discriminant d.0.0)
      (and_from (are_attrs false a.0.0 && is_vis v.0.0 && is_name raw text) (are_fields fs.0.0.0)
      (and_from (are_attrs false a.0.0 && is_vis v.0.0) (is_name raw text)
      (and_from (are_attrs false a.0.0) (is_vis v.0.0) l.attrs_good l.vis_good) i.1) s.0.2) k.0.1 in
      same_some (Out VariantHeld ts) ((one, need), d.0.1) (x, rest) d.2 ((s.0.0, l.led (leaf_of raw text behind) need d.0.1 leaf, good), k.1)

  ended_sound : SoundStep (before_end (closes Brace) (variant within)) VariantHeld
  ended_sound ts x rest t h =
      let y = bind_some (variant within ts) _ _ h in
      let next = bind_some (element_end (closes Brace) y.0.1) _ _ y.2 in
      same_some (Out VariantHeld ts) y.0 (x, rest) next.2 (variant_sound ts y.0.0 y.0.1 t (end_ends Brace y.0.1 next.0 next.1) y.1)

  -- with a leading blank and without one
  abbrev pub VariantsHeld : List Variant × ℕ → Tokens → Tokens → Type 0
  VariantsHeld x ts rest =
      (x.1 ≤ budget) × ((lead : Bool) → Spells (notation.fields (blank_if lead) (map variant_form x.0)) x.1 ts rest) × (list_all is_variant x.0 ≡ true)

  pub variants_sound : SoundStep (variants within) VariantsHeld
  unfolding variants
  variants_sound ts x rest t h =
      let o = bind_some (passed (opens Brace) ts) _ _ h in
      let xs = bind_some (elements (closes Brace) (variant within) o.0) _ _ o.2 in
      let one = opener_passed_is Brace ts o.0 t o.1 in
      let read = elements_before_end (closes Brace) (variant within) o.0 xs.0 xs.1 in
      let l = listed budget variant_form is_variant VariantHeld (λ y us mid s. s) (closes Brace) (opener Brace) (closer Brace)
      (closes_one Brace) (before_end (closes Brace) (variant within)) ended_sound ts o.0 xs.0.0 xs.0.1 one (bit_texts (opener Brace) ts o.0 one t) read in
      same_some (Out VariantsHeld ts) ((nodes xs.0.0, deepest xs.0.0), xs.0.1) (x, rest) xs.2
      ((l.0, (λ lead. list_as_fields lead (map variant_form (nodes xs.0.0)) (deepest xs.0.0) ts xs.0.1 l.1), l.2), l.3)
