-- Structs, unions and enumerations: what is read within a budget stands there, at the depth that it needs.
use Rattle.std.proofs.Common.{◌≡◌, ℕ, max, true, ◌&&◌, map, codes, Some, inl, inr, refl, arith}
use Rattle.std.specs.List.{list_all}
use Rattle.std.proofs.lemmas.Bool.{and_from}
use Rattle.lay_piece.specs.declared.kind.Delim.TheVariants.{Paren, Brace}
use Rattle.lay_piece.specs.declared.kind.Kind.TheVariants as kind
use Rattle.lay_form.specs.Form.{Fixed, Done, Part}
use Rattle.lay_form.specs.Notation as notation
use Rattle.lay_form.proofs.FormLaws.{deeper as raise}
use Rattle.lay_node.specs.Ahead.{Tokens, first, opens}
use Rattle.lay_node.specs.Words.{is_name}
use Rattle.lay_node.specs.nodes.Fields.{blank_if, is_field, is_tuple_field, is_variant, named_form, tuple_form, variant_form}
use Rattle.lay_node.specs.nodes.Generics.{is_generics}
use Rattle.lay_node.specs.nodes.Heads.{about_enum, about_struct, about_union, headed, leads}
use Rattle.lay_node.specs.nodes.Where.{are_predicates, predicate_form, wheres_before_body}
use Rattle.lay_node.specs.reader.Exact.{InText}
use Rattle.lay_node.specs.reader.Fields.{named_fields, tuple_fields, variants}
use Rattle.lay_node.specs.reader.Heads.{called, enum, other_struct, semicolon, struct, tuple_struct, union}
use Rattle.lay_node.specs.reader.Types.{Within}
use Rattle.lay_node.specs.reader.Where.{wheres}
use Rattle.lay_node.specs.declared.fields.Fields.TheVariants as fields
use Rattle.lay_node.specs.declared.generics.Generics.{Generics}
use Rattle.lay_node.specs.declared.heads.Enum.{Enum}
use Rattle.lay_node.specs.declared.heads.Struct.{Struct}
use Rattle.lay_node.specs.declared.heads.Union.{Union}
use Rattle.lay_node.specs.declared.token.Name.{Name}
use Rattle.lay_node.proofs.Fronts.{mark_passed_is}
use Rattle.lay_node.proofs.Parts.{bit_piece}
use Rattle.lay_node.proofs.Steps.{bind_some, chosen, same_some}
use Rattle.lay_node.proofs.reader.FieldsSound.{named_fields_sound, tuple_fields_sound}
use Rattle.lay_node.proofs.reader.HeadParts.{CalledHeld, called_held, semicolon_wheres, wheres_held}
use Rattle.lay_node.proofs.reader.HeadsLevel.{SoundHead, Stood}
use Rattle.lay_node.proofs.reader.Loops.{SoundStep}
use Rattle.lay_node.proofs.reader.TypesSoundLevel.{SoundWithin}
use Rattle.lay_node.proofs.reader.TypesSoundParts.{Out, bit_texts}
use Rattle.lay_node.proofs.reader.VariantsSound.{variants_sound}

module _ (budget : ℕ) (within : Within) (sound : SoundWithin budget within) where
  -- ---- structs

  abbrev StructHeld : Struct × ℕ → Tokens → Tokens → Type 0
  StructHeld = Stood (λ x. headed (about_struct x)) budget

  abbrev Called : (Name × Generics) × ℕ → Tokens → Tokens → Type 0
  Called = CalledHeld budget within sound (codes "struct")

  tuple_struct_sound : (ts : Tokens) (c : (Name × Generics) × ℕ) (at : Tokens) → Called c ts at → InText at → (x : Struct × ℕ) (rest : Tokens)
      → tuple_struct within c at ≡ Some (x, rest) → Out StructHeld ts (x, rest)
  tuple_struct_sound ts c at s t x rest h =
      let fs = bind_some (tuple_fields within at) _ _ h in
      let w = bind_some (wheres within fs.0.1) _ _ fs.2 in
      let r = bind_some (semicolon w.0.1) _ _ w.2 in
      let k = tuple_fields_sound budget within sound at fs.0.0 fs.0.1 t fs.1 in
      let l = wheres_held budget within sound fs.0.1 w.0.0 w.0.1 k.1 w.1 in
      let mark = mark_passed_is (codes ";") w.0.1 r.0 r.1 in
      let xs = fs.0.0.0 in
      let clause = w.0.0.0.0 in
      let most = max c.1 (max fs.0.0.1 w.0.0.1) in
      let head = s.1 (Part (tuple_form xs) Done) most fs.0.1 (omega arith)
      (fs.0.1, raise (tuple_form xs) fs.0.0.1 most at fs.0.1 (omega arith) k.0.1, refl) in
      let before = semicolon_wheres (map predicate_form clause.predicates) most fs.0.1 w.0.1
      (raise (wheres_before_body clause) w.0.0.1 most fs.0.1 w.0.1 (omega arith) l.0.1) in
      let named = is_name c.0.0.raw c.0.0.text in
      let good = and_from (named && is_generics c.0.1 && list_all is_tuple_field xs) (are_predicates clause)
      (and_from (named && is_generics c.0.1) (list_all is_tuple_field xs) (and_from named (is_generics c.0.1) s.2 s.3) k.0.2) l.0.2 in
      same_some (Out StructHeld ts)
      ((record { name = c.0.0; generics = c.0.1; fields = fields.Tuple xs; wheres = clause }, most), r.0) (x, rest) r.2 (
        (
          omega (arith, s.0, k.0.0, l.0.0),
          (fs.0.1, head, (w.0.1, before, bit_piece (Fixed kind.Punct (codes ";")) most w.0.1 r.0 mark)),
          good,
          refl,
        ),
        bit_texts (Fixed kind.Punct (codes ";")) w.0.1 r.0 mark l.1,
      )

  other_struct_sound : (ts : Tokens) (c : (Name × Generics) × ℕ) (at : Tokens) → Called c ts at → InText at → (x : Struct × ℕ) (rest : Tokens)
      → other_struct within c at ≡ Some (x, rest) → Out StructHeld ts (x, rest)
  other_struct_sound ts c at s t x rest h =
      let w = bind_some (wheres within at) _ _ h in
      let l = wheres_held budget within sound at w.0.0 w.0.1 t w.1 in
      let clause = w.0.0.0.0 in
      let named = is_name c.0.0.raw c.0.0.text in
      let called_good = and_from named (is_generics c.0.1) s.2 s.3 in
      elim (chosen (first (opens Brace) w.0.1) _ _ _ w.2) [
        | inl g ↦
            let fs = bind_some (named_fields within w.0.1) _ _ g.1 in
            let k = named_fields_sound budget within sound w.0.1 fs.0.0 fs.0.1 l.1 fs.1 in
            let xs = fs.0.0.0 in
            let most = max c.1 (max w.0.0.1 fs.0.0.1) in
            let head = s.1 (Part Done Done) most at (omega arith) (at, refl, refl) in
            let before = raise (wheres_before_body clause) w.0.0.1 most at w.0.1 (omega arith) l.0.1 in
            let form = named_form (leads clause) xs in
            let good = and_from (named && is_generics c.0.1 && list_all is_field xs) (are_predicates clause)
            (and_from (named && is_generics c.0.1) (list_all is_field xs) called_good k.0.2) l.0.2 in
            same_some (Out StructHeld ts)
            ((record { name = c.0.0; generics = c.0.1; fields = fields.Named xs; wheres = clause }, most), fs.0.1) (x, rest) fs.2 (
              (
                omega (arith, s.0, l.0.0, k.0.0),
                (at, head, (w.0.1, before, raise form fs.0.0.1 most w.0.1 fs.0.1 (omega arith) (k.0.1 (leads clause)))),
                good,
                refl,
              ),
              k.1,
            )
        | inr g ↦
            let r = bind_some (semicolon w.0.1) _ _ g.1 in
            let mark = mark_passed_is (codes ";") w.0.1 r.0 r.1 in
            let most = max c.1 w.0.0.1 in
            let head = s.1 (Part Done Done) most at (omega arith) (at, refl, refl) in
            let before = semicolon_wheres (map predicate_form clause.predicates) most at w.0.1
            (raise (wheres_before_body clause) w.0.0.1 most at w.0.1 (omega arith) l.0.1) in
            let good = and_from (named && is_generics c.0.1 && true) (are_predicates clause)
            (and_from (named && is_generics c.0.1) true called_good refl) l.0.2 in
            same_some (Out StructHeld ts)
            ((record { name = c.0.0; generics = c.0.1; fields = fields.Unit; wheres = clause }, most), r.0) (x, rest) r.2 (
              (
                omega (arith, s.0, l.0.0),
                (at, head, (w.0.1, before, bit_piece (Fixed kind.Punct (codes ";")) most w.0.1 r.0 mark)),
                good,
                refl,
              ),
              bit_texts (Fixed kind.Punct (codes ";")) w.0.1 r.0 mark l.1,
            )
      ]

  struct_held : SoundStep (struct within) StructHeld
  unfolding struct
  struct_held ts x rest t h =
      let c = bind_some (called within (codes "struct") ts) _ _ h in
      let s = called_held budget within sound (codes "struct") ts c.0.0 c.0.1 t c.1 in
      elim (chosen (first (opens Paren) c.0.1) _ _ _ c.2) [
        | inl g ↦ tuple_struct_sound ts c.0.0 c.0.1 s.0 s.1 x rest g.1
        | inr g ↦ other_struct_sound ts c.0.0 c.0.1 s.0 s.1 x rest g.1
      ]

  -- ---- unions and enumerations

  union_held : SoundStep (union within) (Stood (λ x. headed (about_union x)) budget)
  unfolding union
  union_held ts x rest t h =
      let c = bind_some (called within (codes "union") ts) _ _ h in
      let w = bind_some (wheres within c.0.1) _ _ c.2 in
      let fs = bind_some (named_fields within w.0.1) _ _ w.2 in
      let s = called_held budget within sound (codes "union") ts c.0.0 c.0.1 t c.1 in
      let l = wheres_held budget within sound c.0.1 w.0.0 w.0.1 s.1 w.1 in
      let k = named_fields_sound budget within sound w.0.1 fs.0.0 fs.0.1 l.1 fs.1 in
      let n = c.0.0.0.0 in
      let params = c.0.0.0.1 in
      let clause = w.0.0.0.0 in
      let xs = fs.0.0.0 in
      let most = max c.0.0.1 (max w.0.0.1 fs.0.0.1) in
      let k0 = s.0 in
      let head = k0.1 Done most c.0.1 (omega arith) refl in
      let before = raise (wheres_before_body clause) w.0.0.1 most c.0.1 w.0.1 (omega arith) l.0.1 in
      let behind = raise (named_form (leads clause) xs) fs.0.0.1 most w.0.1 fs.0.1 (omega arith) (k.0.1 (leads clause)) in
      let named = is_name n.raw n.text in
      let good = and_from (named && is_generics params && are_predicates clause) (list_all is_field xs)
      (and_from (named && is_generics params) (are_predicates clause) (and_from named (is_generics params) k0.2 k0.3) l.0.2) k.0.2 in
      same_some (Out (Stood (λ (y : Union). headed (about_union y)) budget) ts)
      ((record { name = n; generics = params; wheres = clause; fields = xs }, most), fs.0.1) (x, rest) fs.2
      ((omega (arith, k0.0, l.0.0, k.0.0), (c.0.1, head, (w.0.1, before, behind)), good, refl), k.1)

  enum_held : SoundStep (enum within) (Stood (λ x. headed (about_enum x)) budget)
  unfolding enum
  enum_held ts x rest t h =
      let c = bind_some (called within (codes "enum") ts) _ _ h in
      let w = bind_some (wheres within c.0.1) _ _ c.2 in
      let vs = bind_some (variants within w.0.1) _ _ w.2 in
      let s = called_held budget within sound (codes "enum") ts c.0.0 c.0.1 t c.1 in
      let l = wheres_held budget within sound c.0.1 w.0.0 w.0.1 s.1 w.1 in
      let k = variants_sound budget within sound w.0.1 vs.0.0 vs.0.1 l.1 vs.1 in
      let n = c.0.0.0.0 in
      let params = c.0.0.0.1 in
      let clause = w.0.0.0.0 in
      let xs = vs.0.0.0 in
      let most = max c.0.0.1 (max w.0.0.1 vs.0.0.1) in
      let k0 = s.0 in
      let head = k0.1 Done most c.0.1 (omega arith) refl in
      let before = raise (wheres_before_body clause) w.0.0.1 most c.0.1 w.0.1 (omega arith) l.0.1 in
      let form = notation.fields (blank_if (leads clause)) (map variant_form xs) in
      let behind = raise form vs.0.0.1 most w.0.1 vs.0.1 (omega arith) (k.0.1 (leads clause)) in
      let named = is_name n.raw n.text in
      let good = and_from (named && is_generics params && are_predicates clause) (list_all is_variant xs)
      (and_from (named && is_generics params) (are_predicates clause) (and_from named (is_generics params) k0.2 k0.3) l.0.2) k.0.2 in
      same_some (Out (Stood (λ (y : Enum). headed (about_enum y)) budget) ts)
      ((record { name = n; generics = params; wheres = clause; variants = xs }, most), vs.0.1) (x, rest) vs.2
      ((omega (arith, k0.0, l.0.0, k.0.0), (c.0.1, head, (w.0.1, before, behind)), good, refl), k.1)

pub struct_sound : SoundHead (λ x. headed (about_struct x)) (λ w ts. struct w.kinds ts)
struct_sound budget inner sound = struct_held budget inner.kinds sound.kinds

pub union_sound : SoundHead (λ x. headed (about_union x)) (λ w ts. union w.kinds ts)
union_sound budget inner sound = union_held budget inner.kinds sound.kinds

pub enum_sound : SoundHead (λ x. headed (about_enum x)) (λ w ts. enum w.kinds ts)
enum_sound budget inner sound = enum_held budget inner.kinds sound.kinds
