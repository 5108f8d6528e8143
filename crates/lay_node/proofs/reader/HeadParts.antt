-- Generic parameters and where clauses within the heads of items. There the spelling doesn't tell whether a last part
-- that may be left out is there, and what follows begins no such part.
use Rattle.std.proofs.Common.{◌≡◌, ℕ, ◌≤◌, Bool, true, false, not, ◌||◌, List, [], ◌∷◌, ◌⊎◌, inl, inr, map, codes, refl, sym, subst, ◌∙◌}
use Rattle.std.proofs.lemmas.Bool.{and_parts}
use Rattle.lay_piece.specs.Forms.{opening}
use Rattle.lay_piece.specs.declared.kind.Delim.TheVariants.{Brace}
use Rattle.lay_piece.specs.declared.kind.Kind.TheVariants.{Ident, Punct, Opener}
use Rattle.lay_token.specs.Operators.{op_at, is_op}
use Rattle.lay_form.specs.Form.{Fixed, Form, Part, keyword}
use Rattle.lay_form.specs.LastParts.{last_follows}
use Rattle.lay_form.specs.Notation.{where_body, where_semicolon, wheres_spelled}
use Rattle.lay_form.specs.Spelled.{IsOne, Spells}
use Rattle.lay_form.proofs.FormLaws.{deeper}
use Rattle.lay_node.specs.Ahead.{Tokens, first, is_keyword, is_lifetime, is_mark}
use Rattle.lay_node.specs.Begins.{begins_bound, begins_predicate, lead_at}
use Rattle.lay_node.specs.Follow.{OfRename, OfArgs, OfCodeArgs, OfArrow, OfColons, OfBang}
use Rattle.lay_node.specs.Words.{is_name}
use Rattle.lay_node.specs.nodes.Generics.{generics_form, generics_spelled, is_generics}
use Rattle.lay_node.specs.nodes.Heads as heads
use Rattle.lay_node.specs.nodes.Types.{about_bound, is_there, last_refuses}
use Rattle.lay_node.specs.nodes.Where.{are_predicates, begins_last_part, last_predicate_follow, predicate_form, wheres_before_body}
use Rattle.lay_node.specs.reader.Generics.{generics}
use Rattle.lay_node.specs.reader.Heads.{called}
use Rattle.lay_node.specs.reader.Loops.{passed}
use Rattle.lay_node.specs.reader.Types.{Within}
use Rattle.lay_node.specs.reader.Where.{wheres}
use Rattle.lay_node.specs.reader.Words.{name}
use Rattle.lay_node.specs.declared.generics.GenericParam.{GenericParam}
use Rattle.lay_node.specs.declared.generics.Generics.{Generics}
use Rattle.lay_node.specs.declared.generics.Predicate.{Predicate}
use Rattle.lay_node.specs.declared.generics.Predicate.TheVariants as predicate
use Rattle.lay_node.specs.declared.generics.Wheres.{Wheres}
use Rattle.lay_node.specs.declared.token.Name.{Name}
use Rattle.lay_node.proofs.Follow.{Quiet, quiet_follows, semicolon_quiet}
use Rattle.lay_node.proofs.Fronts.{one_front, one_no_op}
use Rattle.lay_node.proofs.Parts.{bit_alone, word_kind, before_blank, leaf_parts, leaf_spelled}
use Rattle.lay_node.proofs.Steps.{same_some, bind_some}
use Rattle.lay_node.proofs.reader.Exact.{IsRead}
use Rattle.lay_node.proofs.reader.GenericsComplete.{generics_read}
use Rattle.lay_node.proofs.reader.GenericsSound.{generics_sound}
use Rattle.lay_node.proofs.reader.Loops.{SoundStep}
use Rattle.lay_node.proofs.reader.TypesComplete.{Reads}
use Rattle.lay_node.proofs.reader.TypesCompleteParts.{keyword_there, one_left}
use Rattle.lay_node.proofs.reader.TypesFronts.{no_other_op}
use Rattle.lay_node.proofs.reader.TypesSoundLevel.{SoundWithin}
use Rattle.lay_node.proofs.reader.TypesSoundParts.{Out, bit_texts, keyword_passed_is}
use Rattle.lay_node.proofs.reader.WheresComplete.{wheres_read}
use Rattle.lay_node.proofs.reader.WheresSound.{wheres_sound}
use Rattle.lay_node.proofs.reader.Words.{name_complete, name_sound}

-- ---- one of the two ways

-- Generic parameters are spelled with `<` and `>`, or as nothing where there are none.
abbrev pub GenericsWay : Generics → ℕ → Tokens → Tokens → Type 0
GenericsWay g depth ts rest =
    (is_spelled : Bool) × Spells (generics_spelled is_spelled g) depth ts rest × ((is_spelled || not (is_there g.params)) ≡ true)

pub generics_way : (g : Generics) (depth : ℕ) (ts rest : Tokens) → Spells (generics_form g) depth ts rest → GenericsWay g depth ts rest
generics_way g depth ts rest s = by g.params s
  where
    by : (ps : List GenericParam) → Spells (generics_form (record { params = ps })) depth ts rest → GenericsWay (record { params = ps }) depth ts rest
    by [] s = elim s.1 [
      | inl e ↦ (false, e ∙ s.2, refl)
      | inr b ↦ (true, (s.0, b, s.2), refl)
    ]
    by (p ∷ ps) s = (true, s, refl)

pub generics_unflagged : (is_spelled : Bool) (g : Generics) (depth : ℕ) (ts rest : Tokens) → Spells (generics_spelled is_spelled g) depth ts rest
    → (is_spelled || not (is_there g.params)) ≡ true → Spells (generics_form g) depth ts rest
generics_unflagged is_spelled g depth ts rest s t = by is_spelled g.params s t
  where
    by : (is_spelled : Bool) (ps : List GenericParam) → Spells (generics_spelled is_spelled (record { params = ps })) depth ts rest
        → (is_spelled || not (is_there ps)) ≡ true → Spells (generics_form (record { params = ps })) depth ts rest
    by true [] s t = (s.0, inr s.1, s.2)
    by false [] s t = (ts, inl refl, s)
    by true (p ∷ ps) s t = s
    by false (p ∷ ps) s t = absurd (cc)

-- A where clause is spelled with its last part or without it.
pub wheres_way : (fs : List Form) (depth : ℕ) (ts rest : Tokens) → Spells (where_body fs) depth ts rest
    → (last : Bool) × Spells (wheres_spelled last fs) depth ts rest
wheres_way [] depth ts rest s = elim s.1 [
  | inl e ↦ (false, e ∙ s.2)
  | inr b ↦ (true, (s.0, b, s.2))
]
wheres_way (f ∷ fs) depth ts rest s =
    let word = s.1 in
    let row = word.2 in
    let more = row.2 in
    let last = more.2 in
    elim last.1 [
      | inl e ↦ (false, (s.0, (word.0, word.1, (row.0, row.1, (more.0, more.1, e ∙ last.2))), s.2))
      | inr b ↦ (true, (s.0, (word.0, word.1, (row.0, row.1, (more.0, more.1, (last.0, b, last.2)))), s.2))
    ]

pub wheres_unflagged : (last : Bool) (fs : List Form) (depth : ℕ) (ts rest : Tokens) → Spells (wheres_spelled last fs) depth ts rest
    → Spells (where_body fs) depth ts rest
wheres_unflagged true [] depth ts rest s = (s.0, inr s.1, s.2)
wheres_unflagged false [] depth ts rest s = (ts, inl refl, s)
wheres_unflagged true (f ∷ fs) depth ts rest s =
    let word = s.1 in
    let row = word.2 in
    let more = row.2 in
    let last = more.2 in
    (s.0, (word.0, word.1, (row.0, row.1, (more.0, more.1, (last.0, inr last.1, last.2)))), s.2)
wheres_unflagged false (f ∷ fs) depth ts rest s =
    let word = s.1 in
    let row = word.2 in
    let more = row.2 in
    (s.0, (word.0, word.1, (row.0, row.1, (more.0, more.1, (more.0, inl refl, more.2)))), s.2)

-- The same tokens spell it before a `;` and before a body.
pub body_wheres : (fs : List Form) (depth : ℕ) (ts rest : Tokens) → Spells (where_semicolon fs) depth ts rest → Spells (where_body fs) depth ts rest
body_wheres [] depth ts rest s = s
body_wheres (f ∷ fs) depth ts rest s = s

pub semicolon_wheres : (fs : List Form) (depth : ℕ) (ts rest : Tokens) → Spells (where_body fs) depth ts rest → Spells (where_semicolon fs) depth ts rest
semicolon_wheres [] depth ts rest s = s
semicolon_wheres (f ∷ fs) depth ts rest s = s

-- ---- what a where clause begins with, and what follows it

-- It is nothing, or begins with its word.
pub wheres_front : (fs : List Form) (depth : ℕ) (ts rest : Tokens) → Spells (where_body fs) depth ts rest
    → (ts ≡ rest) ⊎ ((at : Tokens) × IsOne Ident (codes "where") ts at)
wheres_front [] depth ts rest s = elim s.1 [
  | inl e ↦ inl (e ∙ s.2)
  | inr b ↦ inr (s.0, bit_alone (keyword (codes "where")) ts s.0 b)
]
wheres_front (f ∷ fs) depth ts rest s = let word = s.1 in inr (word.0, bit_alone (keyword (codes "where")) ts word.0 word.1)

-- Nothing that goes on with a where clause begins there.
pub record EndsWheres (ts : Tokens) : Type 0 where
  pub word : first (is_keyword (codes "where")) ts ≡ false
  pub comma : first (is_mark (codes ",")) ts ≡ false
  pub predicate : begins_predicate ts ≡ false
  pub lifetime : first is_lifetime ts ≡ false
  pub plus : is_op (codes "+") ts ≡ false
  pub bound : begins_bound ts ≡ false
  pub quiet : Quiet ts

pub semicolon_ends_wheres : (ts rest : Tokens) → IsOne Punct (codes ";") ts rest → EndsWheres ts
unfolding lead_at op_at
semicolon_ends_wheres ts rest o =
    let f = (one_front Punct (codes ";") ts rest o).1 in
    record {
      word = rw f refl;
      comma = rw f refl;
      predicate = rw f refl;
      lifetime = rw f refl;
      plus = no_other_op 43 [] 59 ts rest refl o;
      bound = rw f refl;
      quiet = semicolon_quiet ts rest o;
    }

pub brace_quiet : (ts rest : Tokens) → IsOne (Opener Brace) (opening Brace ∷ []) ts rest → Quiet ts
unfolding op_at
brace_quiet ts rest o OfRename = rw (one_front (Opener Brace) (opening Brace ∷ []) ts rest o).1 refl
brace_quiet ts rest o OfColons = one_no_op (codes "::") (Opener Brace) (opening Brace ∷ []) ts rest refl o
brace_quiet ts rest o OfArgs = rw (one_front (Opener Brace) (opening Brace ∷ []) ts rest o).1 refl
brace_quiet ts rest o OfCodeArgs = rw (one_front (Opener Brace) (opening Brace ∷ []) ts rest o).1 refl
brace_quiet ts rest o OfArrow = one_no_op (codes "->") (Opener Brace) (opening Brace ∷ []) ts rest refl o
brace_quiet ts rest o OfBang = one_no_op (codes "!") (Opener Brace) (opening Brace ∷ []) ts rest refl o

pub brace_ends_wheres : (ts rest : Tokens) → IsOne (Opener Brace) (opening Brace ∷ []) ts rest → EndsWheres ts
unfolding lead_at
brace_ends_wheres ts rest o =
    let f = (one_front (Opener Brace) (opening Brace ∷ []) ts rest o).1 in
    record {
      word = rw f refl;
      comma = rw f refl;
      predicate = rw f refl;
      lifetime = rw f refl;
      plus = one_no_op (codes "+") (Opener Brace) (opening Brace ∷ []) ts rest refl o;
      bound = rw f refl;
      quiet = brace_quiet ts rest o;
    }

last_follow : (ps : List Predicate) (ts : Tokens) → EndsWheres ts → last_predicate_follow ps ts ≡ true
last_follow [] ts e = refl
last_follow (predicate.Region l [] ∷ []) ts e = rw e.lifetime refl
last_follow (predicate.Region l (m ∷ ls) ∷ []) ts e = rw e.plus refl
last_follow (predicate.Bounded b x [] ∷ []) ts e = rw e.bound refl
last_follow (predicate.Bounded b x (c ∷ bs) ∷ []) ts e =
    rw (e.plus, quiet_follows (last_refuses (map about_bound (c ∷ bs))) ts e.quiet) refl
last_follow (p ∷ q ∷ ps) ts e = last_follow (q ∷ ps) ts e

-- So it may follow where clauses that are spelled with their last part, and those that are spelled without it.
pub ends_follow : (last : Bool) (ps : List Predicate) (ts : Tokens) → EndsWheres ts
    → last_follows last (begins_last_part ps) begins_predicate ts ≡ true
ends_follow true ps ts e = rw e.predicate refl
ends_follow false [] ts e = rw e.word refl
ends_follow false (p ∷ ps) ts e = rw (e.comma, last_follow (p ∷ ps) ts e) refl

-- ---- what is read stands there

module _ (budget : ℕ) (within : Within) (sound : SoundWithin budget within) where
  abbrev pub GenericsHeld : (Generics × Bool) × ℕ → Tokens → Tokens → Type 0
  GenericsHeld x ts rest = (x.1 ≤ budget) × Spells (generics_form x.0.0) x.1 ts rest × (is_generics x.0.0 ≡ true)

  pub generics_held : SoundStep (generics within) GenericsHeld
  generics_held ts x rest t h =
      let s = generics_sound budget within sound ts x rest t h in
      let k = s.0 in
      let goods = and_parts (x.0.1 || not (is_there x.0.0.params)) (is_generics x.0.0) k.2.0 in
      ((k.0, generics_unflagged x.0.1 x.0.0 x.1 ts rest k.1 goods.0, goods.1), s.1)

  abbrev pub WheresHeld : (Wheres × Bool) × ℕ → Tokens → Tokens → Type 0
  WheresHeld x ts rest = (x.1 ≤ budget) × Spells (wheres_before_body x.0.0) x.1 ts rest × (are_predicates x.0.0 ≡ true)

  pub wheres_held : SoundStep (wheres within) WheresHeld
  wheres_held ts x rest t h =
      let s = wheres_sound budget within sound ts x rest t h in
      let k = s.0 in
      ((k.0, wheres_unflagged x.0.1 (map predicate_form x.0.0.predicates) x.1 ts rest k.1, k.2.0), s.1)

  -- A keyword, a name and generic parameters are spelled before whatever follows them.
  abbrev pub CalledHeld : List ℕ → (Name × Generics) × ℕ → Tokens → Tokens → Type 0
  CalledHeld word x ts rest =
      (x.1 ≤ budget)
      × ((f : Form) (depth : ℕ) (end : Tokens) → x.1 ≤ depth → Spells f depth rest end
      → Spells (heads.called word x.0.0.raw x.0.0.text x.0.1 f) depth ts end)
      × (is_name x.0.0.raw x.0.0.text ≡ true) × (is_generics x.0.1 ≡ true)

  pub called_held : (word : List ℕ) → SoundStep (called within word) (CalledHeld word)
  called_held word ts x rest t h =
      let k = bind_some (passed (is_keyword word) ts) _ _ h in
      let n = bind_some (name k.0) _ _ k.2 in
      let g = bind_some (generics within n.0.1) _ _ n.2 in
      let o = keyword_passed_is word ts k.0 k.1 in
      let i = name_sound k.0 n.0.0 n.0.1 n.1 in
      let raw = n.0.0.raw in
      let text = n.0.0.text in
      let named = bit_texts (Fixed (word_kind raw) text) k.0 n.0.1 i.0 (bit_texts (keyword word) ts k.0 o t) in
      let s = generics_held n.0.1 g.0.0 g.0.1 named g.1 in
      let form = generics_form g.0.0.0.0 in
      let leads : (f : Form) (depth : ℕ) (end : Tokens) → g.0.0.1 ≤ depth → Spells f depth g.0.1 end
      → Spells (heads.called word raw text g.0.0.0.0 f) depth ts end =
      λ f depth end le r. (
        k.0,
        (k.0, o, (k.0, refl, refl)),
        leaf_spelled raw text (Part form f) depth k.0 n.0.1 end i.0
            (g.0.1, deeper form g.0.0.1 depth n.0.1 g.0.1 le s.0.1, r),
      ) in
      same_some (Out (CalledHeld word) ts) (((n.0.0, g.0.0.0.0), g.0.0.1), g.0.1) (x, rest) g.2
      ((s.0.0, leads, i.1, s.0.2), s.1)

-- ---- what stands there is read

module _ (depth : ℕ) (inner : Within) (reads : Reads depth inner) where
  pub generics_there : (g : Generics) (ts rest : Tokens) → Spells (generics_form g) depth ts rest → is_generics g ≡ true
      → first (is_mark (codes "<")) rest ≡ false → (is_spelled : Bool) × IsRead depth (generics inner) (g, is_spelled) ts rest
  generics_there g ts rest s good none =
      let w = generics_way g depth ts rest s in
      (w.0, generics_read depth inner reads w.0 g ts rest w.1 (rw (w.2, good) refl) (follows w.0))
    where
      follows : (b : Bool) → (b || not (first (is_mark (codes "<")) rest)) ≡ true
      follows true = refl
      follows false = rw none refl

  pub wheres_there : (w : Wheres) (ts rest : Tokens) → Spells (wheres_before_body w) depth ts rest → are_predicates w ≡ true → EndsWheres rest
      → (last : Bool) × IsRead depth (wheres inner) (w, last) ts rest
  wheres_there w ts rest s good e =
      let l = wheres_way (map predicate_form w.predicates) depth ts rest s in
      (l.0, wheres_read depth inner reads l.0 w.predicates ts rest l.1 good (ends_follow l.0 w.predicates rest e))

  -- A keyword, a name and generic parameters, after which no `<` stands.
  pub called_there : (word : List ℕ) (n : Name) (g : Generics) (f : Form) (ts rest : Tokens)
      → Spells (heads.called word n.raw n.text g f) depth ts rest → is_name n.raw n.text ≡ true → is_generics g ≡ true
      → ((us : Tokens) → Spells f depth us rest → first (is_mark (codes "<")) us ≡ false)
      → (mid : Tokens) × IsRead depth (called inner word) (n, g) ts mid × Spells f depth mid rest
  called_there word n g f ts rest s named good none =
      let o : IsOne Ident word ts s.0 = before_blank (keyword word) ts s.0 s.1 in
      let l = leaf_parts n.raw n.text (Part (generics_form g) f) depth s.0 rest s.2 in
      let part = l.2 in
      let r = generics_there g l.0 part.0 part.1 good (none part.0 part.2) in
      let i = r.1 in
      let read = name_complete n s.0 l.0 (l.1, named) in
      (part.0, (i.0, i.1, rw (keyword_there word ts s.0 o, one_left Ident word ts s.0 o, read, i.2) refl), part.2)

  -- The same with nothing after them.
  pub called_alone : (word : List ℕ) (n : Name) (g : Generics) (f : Form) (ts rest : Tokens)
      → Spells (heads.called word n.raw n.text g f) depth ts rest → is_name n.raw n.text ≡ true → is_generics g ≡ true
      → ((us : Tokens) → Spells f depth us rest → us ≡ rest) → first (is_mark (codes "<")) rest ≡ false
      → IsRead depth (called inner word) (n, g) ts rest
  called_alone word n g f ts rest s named good nothing none =
      let c = called_there word n g f ts rest s named good
      (λ us t. subst (λ vs. first (is_mark (codes "<")) vs ≡ false) (sym (nothing us t)) none) in
      subst (λ us. IsRead depth (called inner word) (n, g) ts us) (nothing c.0 c.2) c.1
