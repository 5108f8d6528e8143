-- Types, kind by kind: what is read stands there, where what is one level deeper is read so.
use Rattle.std.proofs.Common.{◌≡◌, ℕ, suc, ◌≤◌, Bool, true, false, not, ◌&&◌, ◌||◌, List, [], ◌∷◌, inl, inr, map, codes, Option, Some, None, refl, sym, ap, subst, ◌∙◌, arith}
use Rattle.std.specs.Str.{bytes_eq}
use Rattle.std.proofs.lemmas.Bool.{and_parts, and_from}
use Rattle.lay_piece.specs.Characters as char
use Rattle.lay_piece.specs.Forms.{opening}
use Rattle.lay_piece.specs.Word.{class_of}
use Rattle.lay_piece.specs.declared.kind.Delim.{Delim}
use Rattle.lay_piece.specs.declared.kind.Delim.TheVariants.{Paren, Bracket}
use Rattle.lay_piece.specs.declared.kind.Kind.{Kind}
use Rattle.lay_piece.specs.declared.kind.Kind.TheVariants as kind
use Rattle.lay_token.specs.Delimiters.{is_closer}
use Rattle.lay_token.specs.Lexes.{is_punct}
use Rattle.lay_token.specs.Operators.{is_op}
use Rattle.lay_token.specs.declared.token.Token.{Token}
use Rattle.lay_token.proofs.Deciding.{bytes_same}
use Rattle.lay_form.specs.Form.{Blank, Fixed, Form, Done, Piece, Part, punct, keyword, opener, closer}
use Rattle.lay_form.specs.Notation.{piece, when, comma_list}
use Rattle.lay_form.specs.Spelled.{IsOne, IsBit, AreBits, Spells}
use Rattle.lay_form.proofs.FormLaws.{deeper as raise, is_end}
use Rattle.lay_node.specs.Ahead.{Tokens, first, tail, is_keyword, is_mark, is_lifetime, closes}
use Rattle.lay_node.specs.Begins.{Lead, OfPath, OfParen, OfNever, OfInfer, OfPointer, OfReference, OfBracket, OfImpl, OfDyn, OfFunc, begins_func, lead_of_word, lead_by, lead_at}
use Rattle.lay_node.specs.Follow.{OfBang, begins_there, may_follow}
use Rattle.lay_node.specs.Words.{is_path_class}
use Rattle.lay_node.specs.nodes.Attr.{is_empty}
use Rattle.lay_node.specs.nodes.Call.{about_call}
use Rattle.lay_node.specs.nodes.Types as types
use Rattle.lay_node.specs.nodes.Types.{TypeFacts, good_at, all_types_good, type_follows, is_several, tuple_form, pointer_word, ref_lifetime, bounds_word, last_refuses, ty_facts, about_type, about_bound}
use Rattle.lay_node.specs.reader.Call.{call}
use Rattle.lay_node.specs.reader.Exact.{InText}
use Rattle.lay_node.specs.reader.Loops.{passed, nodes, deepest, elements}
use Rattle.lay_node.specs.reader.Tokens.{tokens}
use Rattle.lay_node.specs.reader.Types.{Within, flag, if_there, lifetime, path, begins_call, call_type, path_type, paren_by, paren_type, array_by, bracket_type, reference_type, is_mutable, pointer_type, bounds_by, bounds_type, type_by}
use Rattle.lay_node.specs.tokens.Lexed.{is_token_list}
use Rattle.lay_node.specs.tokens.Lists.{token_list}
use Rattle.lay_node.specs.tokens.Pairs as pairs
use Rattle.lay_node.specs.tokens.Pairs.{at_start}
use Rattle.lay_node.specs.declared.token.Lifetime.{Lifetime}
use Rattle.lay_node.specs.declared.token.Listed.{Listed}
use Rattle.lay_node.specs.declared.types.Arg.TheOpen.{Ty-F}
use Rattle.lay_node.specs.declared.types.Bound.{Bound}
use Rattle.lay_node.specs.declared.types.PathStyle.TheVariants.{Kind as InKind}
use Rattle.lay_node.specs.declared.types.Ty.{Ty}
use Rattle.lay_node.specs.declared.types.Ty.TheVariants as ty
use Rattle.lay_node.specs.declared.types.TypePlace.{TypePlace}
use Rattle.lay_node.specs.declared.types.TypePlace.TheVariants.{Bounds, NoBounds}
use Rattle.lay_node.proofs.Fronts.{texts_behind, closer_kind, keyword_one, mark_one, closes_one, passed_first, mark_passed_is, closer_passed_is}
use Rattle.lay_node.proofs.InText.{only_text, IsText, behind, text_one}
use Rattle.lay_node.proofs.Steps.{same_some, chosen, bind_some}
use Rattle.lay_node.proofs.nodes.TypesLaws.{type_path_is, type_call_is, type_paren_is, type_tuple_is, type_never_is, type_infer_is, type_ptr_is, type_ref_is, type_slice_is, type_array_is, type_bounds_is}
use Rattle.lay_node.proofs.reader.Attr.{text_listed}
use Rattle.lay_node.proofs.reader.Call.{call_sound}
use Rattle.lay_node.proofs.reader.Loops.{SoundStep}
use Rattle.lay_node.proofs.reader.TokenLists.{EndsRun, tokens_held}
use Rattle.lay_node.proofs.reader.Tokens.{tokens_is}
use Rattle.lay_node.proofs.reader.TypesSoundBounds.{placed, PlacedHeld, placed_sound}
use Rattle.lay_node.proofs.reader.TypesSoundFuncs.{func_sound}
use Rattle.lay_node.proofs.reader.TypesSoundNeeds.{list_held}
use Rattle.lay_node.proofs.reader.TypesSoundParts.{Out, Leads, bit_texts, flag_leads, flag_texts, if_there_sound, ElementsBy, behind_comma, elements_by, lifetime_sound}
use Rattle.lay_node.proofs.reader.TypesSoundLevel.{type_held, shut_held, IsType, TypeHeld, SoundWithin}
use Rattle.lay_node.proofs.reader.TypesSoundPaths.{paren_shuts, path_told, type_list, path_sound}

-- ---- the first token

-- what the first token of a type is, where its reader doesn't test it again
abbrev LeadIs : Lead → Kind → List ℕ → Type 0
LeadIs OfParen k text = k ≡ kind.Opener Paren
LeadIs OfNever k text = (k ≡ kind.Punct) × (text ≡ codes "!")
LeadIs OfInfer k text = k ≡ kind.Underscore
LeadIs OfPointer k text = (k ≡ kind.Punct) × (text ≡ codes "*")
LeadIs OfReference k text = (k ≡ kind.Punct) × (text ≡ codes "&")
LeadIs OfBracket k text = k ≡ kind.Opener Bracket
LeadIs OfImpl k text = (k ≡ kind.Ident) × (text ≡ codes "impl")
LeadIs OfDyn k text = (k ≡ kind.Ident) × (text ≡ codes "dyn")
LeadIs _ k text = Unit {0}

word_lead : (text : List ℕ) (l : Lead) → lead_of_word text ≡ Some l → LeadIs l kind.Ident text
word_lead text l h = elim (chosen (is_path_class (class_of text)) _ _ _ h) [
  | inl g ↦ same_some (λ q. LeadIs q kind.Ident text) OfPath l g.1 tt
  | inr g ↦ elim (chosen (bytes_eq text (codes "impl")) _ _ _ g.1) [
    | inl a ↦ same_some (λ q. LeadIs q kind.Ident text) OfImpl l a.1 (refl, bytes_same text (codes "impl") a.0)
    | inr a ↦ elim (chosen (bytes_eq text (codes "dyn")) _ _ _ a.1) [
      | inl b ↦ same_some (λ q. LeadIs q kind.Ident text) OfDyn l b.1 (refl, bytes_same text (codes "dyn") b.0)
      | inr b ↦ elim (chosen (begins_func text) _ _ _ b.1) [
        | inl c ↦ same_some (λ q. LeadIs q kind.Ident text) OfFunc l c.1 tt
        | inr c ↦ absurd (cc)
      ]
    ]
  ]
]

lead_text : (k : Kind) (text : List ℕ) (ts : Tokens) (l : Lead) → lead_by k text ts ≡ Some l → LeadIs l k text
lead_text kind.Ident text ts l h = word_lead text l h
lead_text kind.RawIdent text ts l h = same_some (λ q. LeadIs q kind.RawIdent text) OfPath l h tt
lead_text kind.Underscore text ts l h = same_some (λ q. LeadIs q kind.Underscore text) OfInfer l h refl
lead_text kind.Punct text ts l h = elim (chosen (bytes_eq text (codes "!")) _ _ _ h) [
  | inl g ↦ same_some (λ q. LeadIs q kind.Punct text) OfNever l g.1 (refl, bytes_same text (codes "!") g.0)
  | inr g ↦ elim (chosen (bytes_eq text (codes "*")) _ _ _ g.1) [
    | inl a ↦ same_some (λ q. LeadIs q kind.Punct text) OfPointer l a.1 (refl, bytes_same text (codes "*") a.0)
    | inr a ↦ elim (chosen (bytes_eq text (codes "&")) _ _ _ a.1) [
      | inl b ↦ same_some (λ q. LeadIs q kind.Punct text) OfReference l b.1 (refl, bytes_same text (codes "&") b.0)
      | inr b ↦ elim (chosen (bytes_eq text (codes "<") || is_op (codes "::") ts) _ _ _ b.1) [
        | inl c ↦ same_some (λ q. LeadIs q kind.Punct text) OfPath l c.1 tt
        | inr c ↦ absurd (cc)
      ]
    ]
  ]
]
lead_text (kind.Opener Paren) text ts l h = same_some (λ q. LeadIs q (kind.Opener Paren) text) OfParen l h refl
lead_text (kind.Opener Bracket) text ts l h = same_some (λ q. LeadIs q (kind.Opener Bracket) text) OfBracket l h refl
lead_text _ text ts l h = absurd (cc)

abbrev FirstIs : Lead → Tokens → Type 0
FirstIs l [] = ⊥
FirstIs l (t ∷ ts) = LeadIs l t.kind t.text

first_is : (l : Lead) (ts : Tokens) → lead_at ts ≡ Some l → FirstIs l ts
unfolding lead_at
first_is l [] h = absurd (cc)
first_is l (t ∷ ts) h = lead_text t.kind t.text (t ∷ ts) l h

-- a token whose kind has one text alone
pub only_first : (k : Kind) (only : List ℕ) → only_text k ≡ Some only → (t : Token) (ts : Tokens) → InText (t ∷ ts)
    → t.kind ≡ k → IsOne k only (t ∷ ts) ts
only_first k only e t ts i h = (
  h,
  subst (λ (z : Option (List ℕ)). IsText z t.text) e (subst (λ z. IsText (only_text z) t.text) h (text_one t ts i)),
  refl,
)

paren_first : (ts : Tokens) → InText ts → FirstIs OfParen ts → IsBit (opener Paren) ts (tail ts)
paren_first [] i f = absurd f
paren_first (t ∷ ts) i f = only_first (kind.Opener Paren) (opening Paren ∷ []) refl t ts i f

bracket_first : (ts : Tokens) → InText ts → FirstIs OfBracket ts → IsBit (opener Bracket) ts (tail ts)
bracket_first [] i f = absurd f
bracket_first (t ∷ ts) i f = only_first (kind.Opener Bracket) (opening Bracket ∷ []) refl t ts i f

infer_first : (ts : Tokens) → InText ts → FirstIs OfInfer ts → IsOne kind.Underscore (codes "_") ts (tail ts)
infer_first [] i f = absurd f
infer_first (t ∷ ts) i f = only_first kind.Underscore (codes "_") refl t ts i f

never_first : (ts : Tokens) → FirstIs OfNever ts → IsOne kind.Punct (codes "!") ts (tail ts)
never_first [] f = absurd f
never_first (t ∷ ts) f = (f.0, f.1, refl)

pointer_first : (ts : Tokens) → FirstIs OfPointer ts → IsOne kind.Punct (codes "*") ts (tail ts)
pointer_first [] f = absurd f
pointer_first (t ∷ ts) f = (f.0, f.1, refl)

reference_first : (ts : Tokens) → FirstIs OfReference ts → IsOne kind.Punct (codes "&") ts (tail ts)
reference_first [] f = absurd f
reference_first (t ∷ ts) f = (f.0, f.1, refl)

impl_first : (ts : Tokens) → FirstIs OfImpl ts → IsBit (bounds_word false) ts (tail ts)
impl_first [] f = absurd f
impl_first (t ∷ ts) f = (f.0, f.1, refl)

dyn_first : (ts : Tokens) → FirstIs OfDyn ts → IsBit (bounds_word true) ts (tail ts)
dyn_first [] f = absurd f
dyn_first (t ∷ ts) f = (f.0, f.1, refl)

-- ---- tokens after a `;`

semicolon_texts : (ts : Tokens) → InText ts → first (is_mark (codes ";")) ts ≡ true → (j : InText (tail ts))
    × (pairs.is_mark (codes ".") j.last ≡ false)
semicolon_texts [] i h = absurd (cc)
semicolon_texts (t ∷ ts) i h =
    let text = bytes_same t.text (codes ";") (and_parts (is_punct t.kind) (bytes_eq t.text (codes ";")) h).1 in
    (behind t ts i, and_no _ _ (ap (λ z. bytes_eq z (codes ".")) (text_listed t ∙ text)))
  where
    and_no : (a b : Bool) → b ≡ false → a && b ≡ false
    and_no true b h = h
    and_no false b h = refl

-- A list of tokens is spelled after a `;` and before what closes it.
pub length_sound : (d : Delim) (depth : ℕ) (ts : Tokens) (us : List Listed) (mid rest : Tokens) → InText ts
    → first (is_mark (codes ";")) ts ≡ true
    → tokens (tail ts) ≡ Some (us, mid) → passed (closes d) mid ≡ Some rest
    → Spells (token_list us) depth (tail ts) mid × (is_token_list us ≡ true) × InText mid
length_sound d depth ts us mid rest t m h c =
    let j = semicolon_texts ts t m in
    tokens_held false depth (tail ts) us mid j.0 j.1 (tokens_is false (tail ts) us mid h) (shut mid (passed_first (closes d) mid rest c).0)
  where
    shut : (mid : Tokens) → first (closes d) mid ≡ true → EndsRun false mid
    shut [] f = absurd (cc)
    shut (last ∷ end) f = ap is_closer (closer_kind d last.kind f)

pub bracket_shuts : (ts : Tokens) → InText ts → first (closes Bracket) ts ≡ true → IsBit (closer Bracket) ts (tail ts)
bracket_shuts ts t h = closes_one Bracket ts t h

-- ---- each kind

module _ (budget : ℕ) (within : Within) (sound : SoundWithin budget within) where
  abbrev HeldAt : TypePlace → Ty × ℕ → Tokens → Tokens → Type 0
  HeldAt place = TypeHeld place (suc budget)

  call_type_sound : (place : TypePlace) → SoundStep call_type (HeldAt place)
  call_type_sound place ts x rest t h =
      let c = bind_some (call ts) _ _ h in
      let s = call_sound 0 ts c.0.0 c.0.1 t c.1 in
      let told = about_call c.0.0 in
      same_some (Out (HeldAt place) ts) ((ty.Call c.0.0, 1), c.0.1) (x, rest) c.2 (
        shut_held place budget (about_type (ty.Call c.0.0)) told.form told.good 0 ts c.0.1 (type_call_is c.0.0)
            (omega arith) s.0 s.1,
        texts_behind ts c.0.1 (is_end told.form 0 ts c.0.1 s.0) t,
      )

  path_type_sound : (place : TypePlace) → SoundStep (path_type within) (HeldAt place)
  unfolding path_type
  path_type_sound place ts x rest t h =
      let p = bind_some (path within InKind ts) _ _ h in
      let s = path_sound budget within sound InKind ts p.0.0 p.0.1 t p.1 in
      let told = path_told InKind p.0.0.0 in
      elim (chosen (begins_there OfBang p.0.1) _ _ _ p.2) [
        | inl g ↦ absurd (cc g.1)
        | inr g ↦
            let follows = and_from (not (begins_there OfBang p.0.1)) (may_follow told.refuses p.0.1) (ap not g.0)
            s.0.1.2 in
            same_some (Out (HeldAt place) ts) ((ty.Path p.0.0.0, suc p.0.0.1), p.0.1) (x, rest) g.1 (
              type_held place budget (about_type (ty.Path p.0.0.0)) told.form told.good (OfBang ∷ told.refuses)
                  false p.0.0.1 ts p.0.1
                  (type_path_is p.0.0.0) s.0.0 s.0.1.0 s.0.1.1 follows,
              s.1,
            )
      ]

  -- ---- parentheses

  tuple_held : (x : Ty × ℕ) (xs : List (Ty × ℕ)) (ts inside mid behind rest : Tokens) → IsBit (opener Paren) ts inside
      → TypeHeld Bounds budget x inside mid
      → IsOne kind.Punct (codes ",") mid behind → ElementsBy (closer Paren) (TypeHeld Bounds budget) xs behind rest
      → (deepest (x ∷ xs) ≤ budget) × Spells (tuple_form (map about_type (nodes (x ∷ xs)))) (deepest (x ∷ xs)) ts rest
      × (all_types_good (map about_type (nodes (x ∷ xs))) ≡ true)
  tuple_held x [] ts inside mid behind rest o s c e = (
    omega (arith, s.0),
    (
      inside,
      (inside, o, refl),
      (
        mid,
        raise (about_type x.0).told.form x.1 (deepest (x ∷ [])) inside mid (omega arith) s.1,
        (rest, (behind, c, (rest, e, refl)), refl),
      ),
    ),
    and_from (good_at Bounds (about_type x.0)) true s.2 refl,
  )
  tuple_held x (y ∷ ys) ts inside mid behind rest o s c e =
      let P = TypeHeld Bounds budget in
      let all : ElementsBy (closer Paren) P (x ∷ y ∷ ys) inside rest =
      (mid, s, behind_comma (closer Paren) P (y ∷ ys) mid behind rest c e) in
      let l = list_held budget (λ z. (about_type z).told.form) (λ z. good_at Bounds (about_type z)) P
      (λ z us at k. (k.0, k.1, k.2))
      (opener Paren) (closer Paren) (x ∷ y ∷ ys) ts inside rest o all in
      let told = type_list (nodes (x ∷ y ∷ ys)) in (
        l.0,
        subst (λ fs. Spells (comma_list true (opener Paren) (closer Paren) fs) (deepest (x ∷ y ∷ ys)) ts rest)
            (sym told.0) l.1,
        told.1 ∙ l.2,
      )

  paren_by_sound : (place : TypePlace) (ts inside : Tokens) (y : Ty × ℕ) (mid : Tokens) → IsBit (opener Paren) ts inside
      → TypeHeld Bounds budget y inside mid → InText mid
      → (x : Ty × ℕ) (rest : Tokens) → paren_by within y mid ≡ Some (x, rest) → Out (HeldAt place) ts (x, rest)
  paren_by_sound place ts inside y mid o s t x rest h = elim (chosen (first (closes Paren) mid) _ _ _ h) [
    | inl g ↦
        let c = closes_one Paren mid t g.0 in
        let end = tail mid in
        let told = about_type y.0 in
        let form : Form = Piece (opener Paren ∷ []) (Part told.told.form (piece (closer Paren ∷ []))) in
        let spelled : Spells form y.1 ts end = (inside, (inside, o, refl), (mid, s.1, (end, (end, c, refl), refl))) in
        same_some (Out (HeldAt place) ts) ((ty.Paren y.0, suc y.1), end) (x, rest) g.1 (
          shut_held place budget (about_type (ty.Paren y.0)) form (good_at Bounds told) y.1 ts end (type_paren_is y.0)
              s.0 spelled s.2,
          bit_texts (closer Paren) mid end c t,
        )
    | inr g ↦
        let k = bind_some (passed (is_mark (codes ",")) mid) _ _ g.1 in
        let more = bind_some (elements (closes Paren) (within.types Bounds) k.0) _ _ k.2 in
        let comma = mark_passed_is (codes ",") mid k.0 k.1 in
        let e = elements_by (within.types Bounds) (TypeHeld Bounds budget) (sound.types Bounds) (closes Paren)
        (closer Paren) paren_shuts
        k.0 more.0.0 more.0.1 (bit_texts (Fixed kind.Punct (codes ",")) mid k.0 comma t) more.1 in
        let l = tuple_held y more.0.0 ts inside mid k.0 more.0.1 o s comma e.0 in
        let all = nodes (y ∷ more.0.0) in
        same_some (Out (HeldAt place) ts) ((ty.Tuple all, suc (deepest (y ∷ more.0.0))), more.0.1) (x, rest) more.2 (
          shut_held place budget (about_type (ty.Tuple all)) (tuple_form (map about_type all))
              (all_types_good (map about_type all)) (deepest (y ∷ more.0.0))
              ts more.0.1 (type_tuple_is all) l.0 l.1 l.2,
          e.1,
        )
  ]

  paren_type_sound : (place : TypePlace) (ts inside : Tokens) → IsBit (opener Paren) ts inside → InText inside
      → (x : Ty × ℕ) (rest : Tokens) → paren_type within inside ≡ Some (x, rest) → Out (HeldAt place) ts (x, rest)
  unfolding paren_type
  paren_type_sound place ts inside o t x rest h = elim (chosen (first (closes Paren) inside) _ _ _ h) [
    | inl g ↦
        let c = closes_one Paren inside t g.0 in
        let end = tail inside in
        let spelled : Spells (tuple_form []) 0 ts end = (end, (inside, o, (end, c, refl)), refl) in
        same_some (Out (HeldAt place) ts) ((ty.Tuple [], 1), end) (x, rest) g.1 (
          shut_held place budget (about_type (ty.Tuple [])) (tuple_form []) true 0 ts end (type_tuple_is [])
              (omega arith) spelled refl,
          bit_texts (closer Paren) inside end c t,
        )
    | inr g ↦
        let y = bind_some (within.types Bounds inside) _ _ g.1 in
        let s = sound.types Bounds inside y.0.0 y.0.1 t y.1 in
        paren_by_sound place ts inside y.0.0 y.0.1 o s.0 s.1 x rest y.2
  ]

  -- ---- brackets

  array_sound : (place : TypePlace) (ts inside : Tokens) (y : Ty × ℕ) (mid : Tokens) → IsBit (opener Bracket) ts inside
      → TypeHeld Bounds budget y inside mid
      → InText mid → first (is_mark (codes ";")) mid ≡ true → (x : Ty × ℕ) (rest : Tokens)
      → array_by y (tail mid) ≡ Some (x, rest)
      → Out (HeldAt place) ts (x, rest)
  array_sound place ts inside y mid o s t m x rest h =
      let at = tail mid in
      let us = bind_some (tokens at) _ _ h in
      let c = bind_some (passed (closes Bracket) us.0.1) _ _ us.2 in
      let semi = mark_one (codes ";") mid m in
      let l = length_sound Bracket y.1 mid us.0.0 us.0.1 c.0 t m us.1 c.1 in
      let shut = closer_passed_is Bracket us.0.1 c.0 l.2 c.1 in
      let told = about_type y.0 in
      let length = us.0.0 in
      elim (chosen (is_empty length) _ _ _ c.2) [
        | inl g ↦ absurd (cc g.1)
        | inr g ↦
            let form : Form =
            Piece (opener Bracket ∷ []) (Part told.told.form
            (Piece (punct char.semicolon ∷ Blank ∷ []) (Part (token_list length) (piece (closer Bracket ∷ []))))) in
            let spelled : Spells form y.1 ts c.0 = (
              inside,
              (inside, o, refl),
              (mid, s.1, (at, (at, semi, (at, refl, refl)), (us.0.1, l.0, (c.0, (c.0, shut, refl), refl)))),
            ) in
            let good = and_from (good_at Bounds told && not (is_empty length)) (is_token_list length)
            (and_from (good_at Bounds told) (not (is_empty length)) s.2 (ap not g.0)) l.1 in
            same_some (Out (HeldAt place) ts) ((ty.Array y.0 length, suc y.1), c.0) (x, rest) g.1 (
              shut_held place budget (about_type (ty.Array y.0 length)) form
                  (good_at Bounds told && not (is_empty length) && is_token_list length) y.1 ts c.0
                  (type_array_is y.0 length) s.0 spelled good,
              bit_texts (closer Bracket) us.0.1 c.0 shut l.2,
            )
      ]

  bracket_type_sound : (place : TypePlace) (ts inside : Tokens) → IsBit (opener Bracket) ts inside → InText inside
      → (x : Ty × ℕ) (rest : Tokens) → bracket_type within inside ≡ Some (x, rest) → Out (HeldAt place) ts (x, rest)
  unfolding bracket_type
  bracket_type_sound place ts inside o t x rest h =
      let y = bind_some (within.types Bounds inside) _ _ h in
      let s = sound.types Bounds inside y.0.0 y.0.1 t y.1 in
      elim (chosen (first (is_mark (codes ";")) y.0.1) _ _ _ y.2) [
        | inl g ↦ array_sound place ts inside y.0.0 y.0.1 o s.0 s.1 g.0 x rest g.1
        | inr g ↦
            let c = bind_some (passed (closes Bracket) y.0.1) _ _ g.1 in
            let shut = closer_passed_is Bracket y.0.1 c.0 s.1 c.1 in
            let told = about_type y.0.0.0 in
            let form : Form = Piece (opener Bracket ∷ []) (Part told.told.form (piece (closer Bracket ∷ []))) in
            let spelled : Spells form y.0.0.1 ts c.0 =
            (inside, (inside, o, refl), (y.0.1, s.0.1, (c.0, (c.0, shut, refl), refl))) in
            same_some (Out (HeldAt place) ts) ((ty.Slice y.0.0.0, suc y.0.0.1), c.0) (x, rest) c.2 (
              shut_held place budget (about_type (ty.Slice y.0.0.0)) form (good_at Bounds told) y.0.0.1 ts c.0
                  (type_slice_is y.0.0.0) s.0.0 spelled s.0.2,
              bit_texts (closer Bracket) y.0.1 c.0 shut s.1,
            )
      ]

  -- ---- references and pointers

  life_sound : (ts : Tokens) (x : Option Lifetime) (rest : Tokens) → InText ts
      → if_there (first is_lifetime ts) lifetime ts ≡ Some (x, rest)
      → Out (λ l us end. Leads (ref_lifetime l) us end) ts (x, rest)
  life_sound ts x rest t h =
      if_there_sound (λ l us end. Leads (ref_lifetime l) us end) lifetime (first is_lifetime ts) ts
      (λ g y mid e. let s = lifetime_sound ts y mid t e in (
        (λ f depth end r. (
          mid,
          (mid, s.0, refl),
          (mid, (mid, refl, refl), r),
        )),
        s.1,
      ))
      (λ g f depth end s. s) t x rest h

  reference_sound : (place : TypePlace) (ts at : Tokens) → IsOne kind.Punct (codes "&") ts at → InText at
      → (x : Ty × ℕ) (rest : Tokens) → reference_type within at ≡ Some (x, rest) → Out (HeldAt place) ts (x, rest)
  unfolding reference_type
  reference_sound place ts at o t x rest h =
      let l = bind_some (if_there (first is_lifetime at) lifetime at) _ _ h in
      let life = life_sound at l.0.0 l.0.1 t l.1 in
      let mark = is_keyword (codes "mut") in
      let bits = keyword (codes "mut") ∷ Blank ∷ [] in
      let mid = (flag mark l.0.1).1 in
      let mutable = (flag mark l.0.1).0 in
      let are : first mark l.0.1 ≡ true → AreBits bits l.0.1 (tail l.0.1) =
      λ e. (tail l.0.1, keyword_one (codes "mut") l.0.1 e, (tail l.0.1, refl, refl)) in
      let y = bind_some (within.types NoBounds mid) _ _ l.2 in
      let s = sound.types NoBounds mid y.0.0 y.0.1 (flag_texts mark bits l.0.1 are life.1) y.1 in
      let inner = y.0.0.0 in
      let n = y.0.0.1 in
      let told = about_type inner in
      let F : Form = Part told.told.form Done in
      let G : Form = Piece (Fixed kind.Punct (codes "&") ∷ []) (ref_lifetime l.0.0 (when mutable bits F)) in
      let led = life.0 (when mutable bits F) n y.0.1 (flag_leads mark bits l.0.1 are F n y.0.1 (y.0.1, s.0.1, refl)) in
      let spelled : Spells G n ts y.0.1 = (at, (at, o, refl), led) in
      same_some (Out (HeldAt place) ts) ((ty.Ref l.0.0 mutable inner, suc n), y.0.1) (x, rest) y.2 (
        type_held place budget (about_type (ty.Ref l.0.0 mutable inner)) G (good_at NoBounds told)
            told.told.refuses false n ts y.0.1
            (type_ref_is l.0.0 mutable inner) s.0.0 spelled s.0.2 s.0.3,
        s.1,
      )

  mutable_sound : SoundStep is_mutable (λ m ts rest. IsBit (pointer_word m) ts rest)
  mutable_sound ts x rest t h =
      let P : Bool → Tokens → Tokens → Type 0 = λ m us end. IsBit (pointer_word m) us end in
      elim (chosen (first (is_keyword (codes "mut")) ts) _ _ _ h) [
        | inl g ↦
            let o = keyword_one (codes "mut") ts g.0 in
            same_some (Out P ts) (true, tail ts) (x, rest) g.1 (o, bit_texts (keyword (codes "mut")) ts (tail ts) o t)
        | inr g ↦ elim (chosen (first (is_keyword (codes "const")) ts) _ _ _ g.1) [
          | inl f ↦
              let o = keyword_one (codes "const") ts f.0 in
              same_some (Out P ts) (false, tail ts) (x, rest) f.1
              (o, bit_texts (keyword (codes "const")) ts (tail ts) o t)
          | inr f ↦ absurd (cc f.1)
        ]
      ]

  pointer_sound : (place : TypePlace) (ts at : Tokens) → IsOne kind.Punct (codes "*") ts at → InText at
      → (x : Ty × ℕ) (rest : Tokens) → pointer_type within at ≡ Some (x, rest) → Out (HeldAt place) ts (x, rest)
  unfolding pointer_type
  pointer_sound place ts at o t x rest h =
      let m = bind_some (is_mutable at) _ _ h in
      let w = mutable_sound at m.0.0 m.0.1 t m.1 in
      let y = bind_some (within.types NoBounds m.0.1) _ _ m.2 in
      let s = sound.types NoBounds m.0.1 y.0.0 y.0.1 w.1 y.1 in
      let inner = y.0.0.0 in
      let n = y.0.0.1 in
      let told = about_type inner in
      let G : Form = Piece (punct char.star ∷ pointer_word m.0.0 ∷ Blank ∷ []) (Part told.told.form Done) in
      let spelled : Spells G n ts y.0.1 = (m.0.1, (at, o, (m.0.1, w.0, (m.0.1, refl, refl))), (y.0.1, s.0.1, refl)) in
      same_some (Out (HeldAt place) ts) ((ty.Ptr m.0.0 inner, suc n), y.0.1) (x, rest) y.2 (
        type_held place budget (about_type (ty.Ptr m.0.0 inner)) G (good_at NoBounds told)
            told.told.refuses false n ts y.0.1
            (type_ptr_is m.0.0 inner) s.0.0 spelled s.0.2 s.0.3,
        s.1,
      )

  -- ---- bounds

  bounds_held : (place : TypePlace) (dynamic : Bool) (bs : List Bound × ℕ) (ts at rest : Tokens)
      → IsBit (bounds_word dynamic) ts at
      → PlacedHeld budget within sound place bs at rest → HeldAt place (ty.Bounds dynamic bs.0, suc bs.1) ts rest
  bounds_held place dynamic bs ts at rest w k =
      let X = ty_facts (Ty-F.Bounds dynamic (map about_bound bs.0)) in
      let all = map about_bound bs.0 in
      let one = k.0 in
      let spelled : Spells X.told.form (suc bs.1) ts rest =
      (rest, (at, (at, w, (at, refl, refl)), (rest, one.1, refl)), refl) in
      let there : (place : TypePlace) → placed place bs.0 rest ≡ true → IsType place (suc budget) X (suc bs.1) ts rest =
      λ q e. (omega (arith, one.0), spelled, fits_good q e, fits_follow q e) in
      subst (λ (z : TypeFacts). IsType place (suc budget) z (suc bs.1) ts rest) (sym (type_bounds_is dynamic bs.0))
      (there place k.1)
    where
      fits_good : (q : TypePlace) → placed q bs.0 rest ≡ true
          → good_at q (ty_facts (Ty-F.Bounds dynamic (map about_bound bs.0))) ≡ true
      fits_good Bounds e = k.0.2
      fits_good NoBounds e =
          and_from (types.bounds_good (map about_bound bs.0)) (not (is_several (map about_bound bs.0))) k.0.2 e

      fits_follow : (q : TypePlace) → placed q bs.0 rest ≡ true
          → type_follows q (ty_facts (Ty-F.Bounds dynamic (map about_bound bs.0))) rest ≡ true
      fits_follow Bounds e =
          and_from (not (is_op (codes "+") rest)) (may_follow (last_refuses (map about_bound bs.0)) rest) e k.0.3
      fits_follow NoBounds e = k.0.3

  bounds_type_sound : (place : TypePlace) (dynamic : Bool) (ts at : Tokens) → IsBit (bounds_word dynamic) ts at
      → InText at
      → (x : Ty × ℕ) (rest : Tokens) → bounds_type within dynamic place at ≡ Some (x, rest)
      → Out (HeldAt place) ts (x, rest)
  unfolding bounds_type
  bounds_type_sound place dynamic ts at w t x rest h =
      let bs = bind_some (bounds_by within place at) _ _ h in
      let s = placed_sound budget within sound place at bs.0.0 bs.0.1 t bs.1 in
      same_some (Out (HeldAt place) ts) ((ty.Bounds dynamic bs.0.0.0, suc bs.0.0.1), bs.0.1) (x, rest) bs.2
      (bounds_held place dynamic bs.0.0 ts at bs.0.1 w s.0, s.1)

  -- ---- all kinds

  pub type_sound : (place : TypePlace) (l : Option Lead) (ts : Tokens) → lead_at ts ≡ l → InText ts
      → (x : Ty × ℕ) (rest : Tokens)
      → type_by within place l ts ≡ Some (x, rest) → Out (HeldAt place) ts (x, rest)
  type_sound place None ts e t x rest h = absurd (cc)
  type_sound place (Some OfPath) ts e t x rest h = elim (chosen (begins_call ts) _ _ _ h) [
    | inl g ↦ call_type_sound place ts x rest t g.1
    | inr g ↦ path_type_sound place ts x rest t g.1
  ]
  type_sound place (Some OfParen) ts e t x rest h =
      let o = paren_first ts t (first_is OfParen ts e) in
      paren_type_sound place ts (tail ts) o (bit_texts (opener Paren) ts (tail ts) o t) x rest h
  type_sound place (Some OfNever) ts e t x rest h =
      let o = never_first ts (first_is OfNever ts e) in
      let spelled : Spells (piece (punct char.bang ∷ [])) 0 ts (tail ts) = (tail ts, (tail ts, o, refl), refl) in
      same_some (Out (HeldAt place) ts) ((ty.Never, 1), tail ts) (x, rest) h (
        shut_held place budget (about_type ty.Never) (piece (punct char.bang ∷ [])) true 0 ts (tail ts) type_never_is
            (omega arith) spelled refl,
        bit_texts (punct char.bang) ts (tail ts) o t,
      )
  type_sound place (Some OfInfer) ts e t x rest h =
      let o = infer_first ts t (first_is OfInfer ts e) in
      let bit = Fixed kind.Underscore (codes "_") in
      let spelled : Spells (piece (bit ∷ [])) 0 ts (tail ts) = (tail ts, (tail ts, o, refl), refl) in
      same_some (Out (HeldAt place) ts) ((ty.Infer, 1), tail ts) (x, rest) h (
        shut_held place budget (about_type ty.Infer) (piece (bit ∷ [])) true 0 ts (tail ts) type_infer_is (omega arith)
            spelled refl,
        bit_texts bit ts (tail ts) o t,
      )
  type_sound place (Some OfPointer) ts e t x rest h =
      let o = pointer_first ts (first_is OfPointer ts e) in
      pointer_sound place ts (tail ts) o (bit_texts (Fixed kind.Punct (codes "*")) ts (tail ts) o t) x rest h
  type_sound place (Some OfReference) ts e t x rest h =
      let o = reference_first ts (first_is OfReference ts e) in
      reference_sound place ts (tail ts) o (bit_texts (Fixed kind.Punct (codes "&")) ts (tail ts) o t) x rest h
  type_sound place (Some OfBracket) ts e t x rest h =
      let o = bracket_first ts t (first_is OfBracket ts e) in
      bracket_type_sound place ts (tail ts) o (bit_texts (opener Bracket) ts (tail ts) o t) x rest h
  type_sound place (Some OfImpl) ts e t x rest h =
      let o = impl_first ts (first_is OfImpl ts e) in
      bounds_type_sound place false ts (tail ts) o (bit_texts (bounds_word false) ts (tail ts) o t) x rest h
  type_sound place (Some OfDyn) ts e t x rest h =
      let o = dyn_first ts (first_is OfDyn ts e) in
      bounds_type_sound place true ts (tail ts) o (bit_texts (bounds_word true) ts (tail ts) o t) x rest h
  type_sound place (Some OfFunc) ts e t x rest h = func_sound budget within sound place ts x rest t h
