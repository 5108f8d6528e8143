-- Types with a name: what is read within a budget stands there, at the depth that it needs.
use Rattle.std.proofs.Common.{None, Some, arith, codes, inl, inr, map, max, refl, true, ℕ, ◌≡◌}
use Rattle.lay_piece.specs.declared.kind.Kind.TheVariants.{Punct}
use Rattle.lay_form.specs.Form.{Done, Fixed, Part}
use Rattle.lay_form.specs.Spelled.{Spells}
use Rattle.lay_form.proofs.FormLaws.{deeper as raise}
use Rattle.lay_node.specs.Words.{is_name}
use Rattle.lay_node.specs.nodes.Facts.{Told}
use Rattle.lay_node.specs.nodes.Generics.{are_bounds, bounded_form, default_form, is_default, is_generics}
use Rattle.lay_node.specs.nodes.Heads.{about_alias, headed, may_be_given}
use Rattle.lay_node.specs.nodes.Where.{are_predicates, predicate_form, wheres_before_semicolon}
use Rattle.lay_node.specs.reader.Generics.{generics, met_if}
use Rattle.lay_node.specs.reader.Heads.{alias, called, given, semicolon}
use Rattle.lay_node.specs.reader.Types.{Within}
use Rattle.lay_node.specs.reader.Where.{wheres}
use Rattle.lay_node.specs.declared.heads.Alias.{Alias}
use Rattle.lay_node.specs.declared.heads.Site.{Site}
use Rattle.lay_node.proofs.Fronts.{mark_passed_is}
use Rattle.lay_node.proofs.Parts.{bit_piece}
use Rattle.lay_node.proofs.Steps.{same_some, bind_some, chosen}
use Rattle.lay_node.proofs.reader.GenericsSound.{default_sound, met_if_sound}
use Rattle.lay_node.proofs.reader.HeadParts.{called_held, semicolon_wheres, wheres_held}
use Rattle.lay_node.proofs.reader.HeadsLevel.{SoundHead, Stood}
use Rattle.lay_node.proofs.reader.Loops.{SoundStep}
use Rattle.lay_node.proofs.reader.TypesSoundLevel.{SoundWithin}
use Rattle.lay_node.proofs.reader.TypesSoundParts.{Out, bit_texts}

abbrev pub alias_told : Site → Alias → Told
alias_told site x = headed (about_alias site x)

-- What is good of an alias, by its parts.
alias_good : (site : Site) (x : Alias) → is_name x.name.raw x.name.text ≡ true → is_generics x.generics ≡ true → are_bounds x.bounds ≡ true
    → is_default x.ty ≡ true → are_predicates x.wheres ≡ true → may_be_given site x.ty ≡ true → (alias_told site x).good ≡ true
alias_good site x named generics bounds default wheres given = rw (named, generics, bounds, default, wheres, given) refl

module _ (site : Site) (budget : ℕ) (within : Within) (sound : SoundWithin budget within) where
  pub alias_sound : SoundStep (alias site within) (Stood (alias_told site) budget)
  unfolding alias
  alias_sound ts x rest t h =
      let c = bind_some (called within (codes "type") ts) _ _ h in
      let b = bind_some (met_if within c.0.1) _ _ c.2 in
      let y = bind_some (given within b.0.1) _ _ b.2 in
      let w = bind_some (wheres within y.0.1) _ _ y.2 in
      let m = bind_some (semicolon w.0.1) _ _ w.2 in
      let k1 = called_held budget within sound (codes "type") ts c.0.0 c.0.1 t c.1 in
      let k2 = met_if_sound budget within sound c.0.1 b.0.0 b.0.1 k1.1 b.1 in
      let k3 = default_sound budget within sound b.0.1 y.0.0 y.0.1 k2.1 y.1 in
      let k4 = wheres_held budget within sound y.0.1 w.0.0 w.0.1 k3.1 w.1 in
      let s1 = k1.0 in
      let s2 = k2.0 in
      let s3 = k3.0 in
      let s4 = k4.0 in
      let mark = mark_passed_is (codes ";") w.0.1 m.0 m.1 in
      let made : Alias = record { name = c.0.0.0.0; generics = c.0.0.0.1; bounds = b.0.0.0; ty = y.0.0.0; wheres = w.0.0.0.0 } in
      let most = max c.0.0.1 (max b.0.0.1 (max y.0.0.1 w.0.0.1)) in
      elim (chosen (may_be_given site y.0.0.0) (Some ((made, most), m.0)) None (Some (x, rest)) m.2) [
        | inl g ↦
            let bounds = raise (bounded_form made.bounds) b.0.0.1 most c.0.1 b.0.1 (omega arith) s2.1 in
            let default = raise (default_form made.ty) y.0.0.1 most b.0.1 y.0.1 (omega arith) s3.1 in
            let clause = raise (wheres_before_semicolon made.wheres) w.0.0.1 most y.0.1 w.0.1 (omega arith)
            (semicolon_wheres (map predicate_form made.wheres.predicates) w.0.0.1 y.0.1 w.0.1 s4.1) in
            let head = s1.1 (Part (bounded_form made.bounds) (Part (default_form made.ty) Done)) most y.0.1 (omega arith)
            (b.0.1, bounds, (y.0.1, default, refl)) in
            let spelled : Spells (alias_told site made).form most ts m.0 =
            (y.0.1, head, (w.0.1, clause, bit_piece (Fixed Punct (codes ";")) most w.0.1 m.0 mark)) in
            let good = alias_good site made s1.2 s1.3 s2.2 s3.2 s4.2 g.0 in
            same_some (Out (Stood (alias_told site) budget) ts) ((made, most), m.0) (x, rest) g.1
            ((omega (arith, s1.0, s2.0, s3.0, s4.0), spelled, good, refl), bit_texts (Fixed Punct (codes ";")) w.0.1 m.0 mark k4.1)
        | inr g ↦ absurd (cc)
      ]

pub aliases_sound : (site : Site) → SoundHead (alias_told site) (λ w ts. alias site w.kinds ts)
aliases_sound site budget inner sound = alias_sound site budget inner.kinds sound.kinds
