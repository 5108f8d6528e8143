-- Attributes: what is read is spelled, and well formed.
use Rattle.std.proofs.Common.{◌≡◌, ℕ, Bool, true, false, not, ◌&&◌, List, [], ◌∷◌, map, drop, codes, inl, inr, Option, Some, None, if◌then◌else◌, refl, sym, ap, ◌∙◌, subst}
use Rattle.std.specs.Prelude.{encode_utf8_all}
use Rattle.std.specs.Str.{chars, bytes_eq}
use Rattle.std.proofs.lemmas.Bool.{and_from, not-true}
use Rattle.lay_piece.specs.Forms.{closing}
use Rattle.lay_token.specs.Delimiters.{is_closer}
use Rattle.lay_token.specs.Operators.{op_at, is_op}
use Rattle.lay_piece.specs.Value.{value_of}
use Rattle.lay_piece.specs.declared.kind.Delim.TheVariants.{Bracket}
use Rattle.lay_piece.specs.declared.kind.Kind.{Kind}
use Rattle.lay_piece.specs.declared.kind.Kind.TheVariants.{Ident, Punct, Closer, Doc}
use Rattle.lay_token.specs.declared.token.Token.{Token}
use Rattle.lay_token.proofs.Deciding.{bytes_same}
use Rattle.lay_form.specs.Form.{Operator, Done, keyword, closer}
use Rattle.lay_form.specs.Notation.{piece, when}
use Rattle.lay_form.specs.Spelled.{IsOne, IsString, AreBits, attr_opening, Spells}
use Rattle.lay_form.proofs.FormLaws.{one_end, bits_end, is_end}
use Rattle.lay_node.specs.Ahead.{Tokens, first, tail, is_keyword, is_mark, opens, closes}
use Rattle.lay_node.specs.Words.{leaf_of, colons}
use Rattle.lay_node.specs.nodes.Attr.{string_of, is_empty, is_doc_words, is_doc_path, is_doc_input, is_meta_path, is_input, same_flag, is_attr, are_attrs, meta_path_form, input_form, attr_form, about_attr}
use Rattle.lay_node.specs.nodes.SimplePath.{simple_words_form}
use Rattle.lay_node.specs.reader.Attr.{begins_group, value, grouped, meta_name, meta_input, doc_or, made, behind_opening, meta_attr, is_doc_kind, is_doc, doc_attr, attribute, begins_attr, attributes}
use Rattle.lay_node.specs.reader.Exact.{InText}
use Rattle.lay_node.specs.reader.Loops.{Got, ◌>>=◌, passed}
use Rattle.lay_node.specs.reader.SimplePath.{simple_path}
use Rattle.lay_node.specs.reader.Tokens.{tokens, group}
use Rattle.lay_node.specs.tokens.Lexed.{is_token_list}
use Rattle.lay_node.specs.tokens.Lists.{group_form}
use Rattle.lay_node.specs.tokens.Listing.{is_doc_text, kind_of, text_of, as_listed, listed_by}
use Rattle.lay_node.specs.tokens.Pairs as pairs
use Rattle.lay_node.specs.tokens.Pairs.{at_start}
use Rattle.lay_node.specs.declared.attr.Attr.{Attr}
use Rattle.lay_node.specs.declared.attr.Attr.TheVariants as attr
use Rattle.lay_node.specs.declared.attr.MetaInput.{MetaInput}
use Rattle.lay_node.specs.declared.attr.MetaInput.TheVariants as input
use Rattle.lay_node.specs.declared.attr.MetaPath.{MetaPath}
use Rattle.lay_node.specs.declared.attr.MetaPath.TheVariants as meta_path
use Rattle.lay_node.specs.declared.simple_path.SimplePath.{SimplePath}
use Rattle.lay_node.specs.declared.token.Word.{Word}
use Rattle.lay_node.specs.declared.token.Listed.{Listed}
use Rattle.lay_node.specs.declared.token.Listed.TheVariants as listed
use Rattle.lay_node.proofs.InText.{behind, behind_all}
use Rattle.lay_node.proofs.Fronts.{one_test, lone_text, texts_behind, keyword_one, mark_passed_is, opener_passed_is, closer_passed_is}
use Rattle.lay_node.proofs.Parts.{Rows, rows_to, rows_map, rows_of_map, rows_pass, rows_with, GoodAt, SpelledAt, bits_joined, bit_piece, leaf_alone}
use Rattle.lay_node.proofs.Steps.{same_some, chosen, bind_some}
use Rattle.lay_node.proofs.reader.Loops.{repeat_sound}
use Rattle.lay_node.proofs.reader.SimplePath.{simple_path_sound}
use Rattle.lay_node.proofs.reader.TokenLists.{EndsRun, tokens_held}
use Rattle.lay_node.proofs.reader.Tokens.{IsList, tokens_is, list_row_of, group_sound}
use Rattle.lay_node.proofs.token_lists.Spelling.{IsRow}

-- ---- what an attribute is called, and what it is given

meta_name_sound : (depth : ℕ) (ts : Tokens) (path : MetaPath) (rest : Tokens) → InText ts → meta_name ts ≡ Some (path, rest)
    → Spells (meta_path_form path) depth ts rest × (is_meta_path path ≡ true)
unfolding meta_name
meta_name_sound depth ts path rest t h =
    let go_on : (SimplePath × Tokens) → Got MetaPath = λ p. Some (meta_path.Path p.0, p.1) in
    let R : MetaPath × Tokens → Type 0 = λ r. Spells (meta_path_form r.0) depth ts r.1 × (is_meta_path r.0 ≡ true) in
    elim (chosen (first (is_keyword (codes "unsafe")) ts) (Some (meta_path.Unsafe, tail ts)) (simple_path ts >>= go_on) (Some (path, rest)) h) [
      | inl g ↦
          same_some R (meta_path.Unsafe, tail ts) (path, rest) g.1
          (bit_piece (keyword (codes "unsafe")) depth ts (tail ts) (keyword_one (codes "unsafe") ts g.0), refl)
      | inr g ↦
          let b = bind_some (simple_path ts) go_on (path, rest) g.1 in
          let s = simple_path_sound depth ts b.0.0 b.0.1 t b.1 in
          same_some R (meta_path.Path b.0.0, b.0.1) (path, rest) b.2 (s.0, s.1)
    ]

-- what an input is, read
abbrev pub InputIs : MetaInput → Tokens → Tokens → Type 0
InputIs input.Bare ts rest = ts ≡ rest
InputIs (input.Group g) ts rest = group ts ≡ Some (g, rest)
InputIs (input.Value us) ts rest = (is_op (codes "=") ts ≡ true) × (is_empty us ≡ false) × IsList (drop 1 ts) us rest

value_is : (ts : Tokens) (given : MetaInput) (rest : Tokens) → is_op (codes "=") ts ≡ true → value ts ≡ Some (given, rest) → InputIs given ts rest
unfolding value
value_is ts given rest e h =
    let R : MetaInput × Tokens → Type 0 = λ r. InputIs r.0 ts r.1 in
    let b = bind_some (tokens (drop 1 ts)) (λ us. if is_empty us.0 then None else Some (input.Value us.0, us.1)) (given, rest) h in
    elim (chosen (is_empty b.0.0) None (Some (input.Value b.0.0, b.0.1)) (Some (given, rest)) b.2) [
      | inl g ↦ absurd (cc)
      | inr g ↦ same_some R (input.Value b.0.0, b.0.1) (given, rest) g.1 (e, g.0, tokens_is false (drop 1 ts) b.0.0 b.0.1 b.1)
    ]

meta_input_is : (ts : Tokens) (given : MetaInput) (rest : Tokens) → meta_input ts ≡ Some (given, rest) → InputIs given ts rest
unfolding meta_input
meta_input_is ts given rest h =
    let R : MetaInput × Tokens → Type 0 = λ r. InputIs r.0 ts r.1 in
    elim (chosen (is_op (codes "=") ts) (value ts) (if first begins_group ts then grouped ts else Some (input.Bare, ts)) (Some (given, rest)) h) [
      | inl g ↦ value_is ts given rest g.0 g.1
      | inr g ↦ elim (chosen (first begins_group ts) (grouped ts) (Some (input.Bare, ts)) (Some (given, rest)) g.1) [
        | inl f ↦
            let b = bind_some (group ts) (λ x. Some (input.Group x.0, x.1)) (given, rest) f.1 in
            same_some R (input.Group b.0.0, b.0.1) (given, rest) b.2 b.1
        | inr f ↦ same_some R (input.Bare, ts) (given, rest) f.1 refl
      ]
    ]

pub text_listed : (t : Token) → text_of (as_listed t) ≡ t.text
text_listed t = by t.kind
  where
    by : (k : Kind) → text_of (listed_by k t.text t.joint) ≡ t.text
    by (Doc inner block) = refl
    by _ = refl

-- what follows a `=`, which is no point
pub behind_equals : (ts : Tokens) → InText ts → is_op (codes "=") ts ≡ true → (j : InText (drop 1 ts)) × (pairs.is_mark (codes ".") j.last ≡ false)
unfolding op_at
behind_equals [] i h = absurd (cc)
behind_equals (t ∷ ts) i h = (behind t ts i, and_no _ _ (ap (λ z. bytes_eq z (codes ".")) (text_listed t ∙ lone_text 61 t ts h)))
  where
    and_no : (a b : Bool) → b ≡ false → a && b ≡ false
    and_no true b h = h
    and_no false b h = refl

-- The tokens after an input stand in a text.
input_texts : (given : MetaInput) (ts mid : Tokens) → InputIs given ts mid → InText ts → InText mid
input_texts input.Bare ts mid i t = subst InText i t
input_texts (input.Group g) ts mid i t =
    let s = group_sound 0 ts g mid Done mid t i refl in texts_behind ts mid (is_end (group_form g Done) 0 ts mid s.0) t
input_texts (input.Value us) ts mid i t =
    behind_all i.2.read mid (subst InText i.2.there.whole (behind_equals ts t i.0).0)

-- what an input and the closing bracket after it are spelled by
abbrev InputStands : MetaInput → ℕ → Tokens → Tokens → Type 0
InputStands given depth ts rest = Spells (input_form given (piece (closer Bracket ∷ []))) depth ts rest × (is_input given ≡ true)

input_sound : (given : MetaInput) (depth : ℕ) (ts mid rest : Tokens) → InText ts → InputIs given ts mid
    → IsOne (Closer Bracket) (closing Bracket ∷ []) mid rest → InputStands given depth ts rest
input_sound input.Bare depth ts mid rest t i c = (rw i (bit_piece (closer Bracket) depth mid rest c), refl)
input_sound (input.Group g) depth ts mid rest t i c =
    group_sound depth ts g mid (piece (closer Bracket ∷ [])) rest t i (bit_piece (closer Bracket) depth mid rest c)
input_sound (input.Value us) depth ts mid rest t i c =
    let j = behind_equals ts t i.0 in
    let shuts : EndsRun false mid = one_test is_closer (Closer Bracket) (closing Bracket ∷ []) mid rest c in
    let l = tokens_held false depth (drop 1 ts) us mid j.0 j.1 i.2 shuts in (
      (drop 1 ts, (ts, refl, (drop 1 ts, (i.0, refl), (drop 1 ts, refl, refl))), (mid, l.0, bit_piece (closer Bracket) depth mid rest c)),
      and_from (not (is_empty us)) (is_token_list us) (ap not i.1) l.1,
    )

-- ---- documentation that is spelled as an attribute

doc_leaf : (raw : Bool) (text : List ℕ) (depth : ℕ) (ts mid : Tokens) → (not raw && bytes_eq text (codes "doc")) ≡ true
    → Spells (leaf_of raw text Done) depth ts mid → IsOne Ident (codes "doc") ts mid
doc_leaf true text depth ts mid d s = absurd (cc)
doc_leaf false text depth ts mid d s =
    subst (λ w. IsOne Ident w ts mid) (bytes_same text (codes "doc") d) (leaf_alone false text depth ts mid s)

doc_words : (words : List Word) (depth : ℕ) (ts mid : Tokens) → is_doc_words words ≡ true
    → Spells (simple_words_form words Done) depth ts mid → IsOne Ident (codes "doc") ts mid
doc_words [] depth ts mid d s = absurd (cc)
doc_words (one ∷ []) depth ts mid d s = doc_leaf one.raw one.text depth ts mid d s
doc_words (one ∷ two ∷ more) depth ts mid d s = absurd (cc)

doc_path : (global : Bool) (words : List Word) (depth : ℕ) (ts mid : Tokens) → (not global && is_doc_words words) ≡ true
    → Spells (when global colons (simple_words_form words Done)) depth ts mid → IsOne Ident (codes "doc") ts mid
doc_path true words depth ts mid d s = absurd (cc)
doc_path false words depth ts mid d s = doc_words words depth ts mid d s

doc_name : (path : MetaPath) (depth : ℕ) (ts mid : Tokens) → is_doc_path path ≡ true → Spells (meta_path_form path) depth ts mid
    → IsOne Ident (codes "doc") ts mid
doc_name (meta_path.Path path) depth ts mid d s = doc_path path.global path.words depth ts mid d s
doc_name meta_path.Unsafe depth ts mid d s = absurd (cc)

-- a list that is one string alone
string_one : (us : List Listed) (value : List ℕ) (ts rest : Tokens) → IsRow us ts rest → string_of us ≡ Some value
    → IsString (encode_utf8_all value) ts rest
string_one [] value ts rest r v = absurd (cc)
string_one (u ∷ v ∷ us) value ts rest r h = absurd (two u v us h)
  where
    two : (u v : Listed) (us : List Listed) → string_of (u ∷ v ∷ us) ≡ Some value → ⊥
    two (listed.Token k x j) v us h = cc
    two (listed.Doc inner x) v us h = cc
string_one (listed.Doc inner x ∷ []) value ts rest r h = absurd (cc)
string_one (listed.Token k x j ∷ []) value [] rest r h = absurd r
string_one (listed.Token k x j ∷ []) value (t ∷ ts) rest r h = by t.kind refl
  where
    by : (k : Kind) → t.kind ≡ k → IsString (encode_utf8_all value) (t ∷ ts) rest
    by (Doc inner block) e = let f : listed.Doc inner t.text ≡ listed.Token k x j = sym (ap (λ z. listed_by z t.text t.joint) e) ∙ r.0 in absurd (cc)
    by l e =
        let f : listed_by l t.text t.joint ≡ listed.Token k x j = sym (ap (λ z. listed_by z t.text t.joint) e) ∙ r.0 in
        let kind : t.kind ≡ k = e ∙ ap kind_of f in
        let text : t.text ≡ x = ap text_of f in
        ((value, ap (λ z. value_of z (chars t.text)) kind ∙ ap (λ z. value_of k (chars z)) text ∙ h, refl), r.1)

-- ---- what an attribute is made of

pub flag_same : (a b : Bool) → same_flag a b ≡ true → b ≡ a
flag_same true b h = h
flag_same false b h = not-true b h

pub same_as_itself : (a : Bool) → same_flag a a ≡ true
same_as_itself true = refl
same_as_itself false = refl

none : (a : Bool) → (a && false) ≡ false
none true = refl
none false = refl

-- an attribute with its name and input is spelled, and well formed
module _ (inner : Bool) (depth : ℕ) (ts rest : Tokens) where
  abbrev GoodAttr : Attr → Type 0
  GoodAttr a = GoodAt (about_attr inner) depth a ts rest

  module _ (path : MetaPath) (inside mid end : Tokens) (o : AreBits (attr_opening inner) ts inside) (s : Spells (meta_path_form path) depth inside mid)
      (p : is_meta_path path ≡ true) (c : IsOne (Closer Bracket) (closing Bracket ∷ []) end rest) where
    plain_sound : (given : MetaInput) → InputStands given depth mid rest → (is_doc_path path && is_doc_input inner given) ≡ false
        → GoodAttr (attr.Meta inner path given)
    plain_sound given i plain =
        let normal : not (is_doc_path path && is_doc_input inner given) ≡ true = rw plain refl in
        let named = and_from (same_flag inner inner) (is_meta_path path) (same_as_itself inner) p in
        let filled = and_from (same_flag inner inner && is_meta_path path) (is_input given) named i.1 in (
          (inside, o, (mid, s, i.0)),
          and_from (same_flag inner inner && is_meta_path path && is_input given) (not (is_doc_path path && is_doc_input inner given)) filled normal,
        )

    module _ (us : List Listed) (e : is_op (codes "=") mid ≡ true) (row : IsRow us (drop 1 mid) end) (i : InputStands (input.Value us) depth mid rest) where
      abbrev other : Attr
      other = attr.Meta inner path (input.Value us)

      -- by whether its name is `doc`, whether its input is a string, and whether documentation can be written with that
      text_sound : (value : List ℕ) → is_doc_path path ≡ true → string_of us ≡ Some value → (b : Bool)
          → is_doc_text inner (encode_utf8_all value) ≡ b → GoodAttr (if b then attr.Doc inner (encode_utf8_all value) else other)
      text_sound value d v true w =
          let docs : AreBits (keyword (codes "doc") ∷ Operator (codes "=") ∷ []) inside (drop 1 mid) =
          (mid, doc_name path depth inside mid d s, (drop 1 mid, (e, refl), refl)) in
          let opened = bits_joined (attr_opening inner) (keyword (codes "doc") ∷ Operator (codes "=") ∷ []) ts inside (drop 1 mid) o docs in
          let string = string_one us value (drop 1 mid) end row v in (
            (rest, inr (drop 1 mid, opened, (end, string, (rest, c, refl))), refl),
            and_from (same_flag inner inner) (is_doc_text inner (encode_utf8_all value)) (same_as_itself inner) w,
          )
      text_sound value d v false w = plain_sound (input.Value us) i (rw (d, v) w)

      value_sound : is_doc_path path ≡ true → (v : Option (List ℕ)) → string_of us ≡ v → GoodAttr (doc_or inner v other)
      value_sound d None v = plain_sound (input.Value us) i (rw (d, v) refl)
      value_sound d (Some value) v = text_sound value d v (is_doc_text inner (encode_utf8_all value)) refl

      named_sound : (b : Bool) → is_doc_path path ≡ b → GoodAttr (if b then doc_or inner (string_of us) other else other)
      named_sound true d = value_sound d (string_of us) refl
      named_sound false d = plain_sound (input.Value us) i (rw d refl)

    made_sound : (given : MetaInput) → InText mid → InputIs given mid end → GoodAttr (made inner path given)
    made_sound input.Bare t i = plain_sound input.Bare (input_sound input.Bare depth mid end rest t i c) (none (is_doc_path path))
    made_sound (input.Group g) t i = plain_sound (input.Group g) (input_sound (input.Group g) depth mid end rest t i c) (none (is_doc_path path))
    made_sound (input.Value us) t i =
        named_sound us i.0 (list_row_of false (drop 1 mid) us end i.2) (input_sound (input.Value us) depth mid end rest t i c) (is_doc_path path) refl

-- ---- attributes, one and many

opening_sound : (inner : Bool) (ts inside : Tokens) → InText ts → behind_opening inner ts ≡ Some inside → AreBits (attr_opening inner) ts inside
opening_sound false ts inside t h =
    let b = bind_some (passed (is_mark (codes "#")) ts) (λ mark. passed (opens Bracket) mark) inside h in
    let hash = mark_passed_is (codes "#") ts b.0 b.1 in
    let left = texts_behind ts b.0 (one_end Punct (codes "#") ts b.0 hash) t in
    (b.0, hash, (inside, opener_passed_is Bracket b.0 inside left b.2, refl))
opening_sound true ts inside t h =
    let b = bind_some (passed (is_mark (codes "#")) ts) (λ mark. passed (is_mark (codes "!")) mark >>= (λ bang. passed (opens Bracket) bang)) inside h in
    let c = bind_some (passed (is_mark (codes "!")) b.0) (λ bang. passed (opens Bracket) bang) inside b.2 in
    let hash = mark_passed_is (codes "#") ts b.0 b.1 in
    let bang = mark_passed_is (codes "!") b.0 c.0 c.1 in
    let left = texts_behind b.0 c.0 (one_end Punct (codes "!") b.0 c.0 bang) (texts_behind ts b.0 (one_end Punct (codes "#") ts b.0 hash) t) in
    (b.0, hash, (c.0, bang, (inside, opener_passed_is Bracket c.0 inside left c.2, refl)))

meta_attr_sound : (inner : Bool) (depth : ℕ) (ts : Tokens) (a : Attr) (rest : Tokens) → InText ts → meta_attr inner ts ≡ Some (a, rest)
    → GoodAt (about_attr inner) depth a ts rest
unfolding meta_attr
meta_attr_sound inner depth ts a rest t h =
    let last : MetaPath → (MetaInput × Tokens) → Got Attr = λ path given. passed (closes Bracket) given.1 >>= (λ left. Some (made inner path given.0, left)) in
    let b = bind_some (behind_opening inner ts) (λ inside. meta_name inside >>= (λ path. meta_input path.1 >>= last path.0)) (a, rest) h in
    let c = bind_some (meta_name b.0) (λ path. meta_input path.1 >>= last path.0) (a, rest) b.2 in
    let d = bind_some (meta_input c.0.1) (last c.0.0) (a, rest) c.2 in
    let e = bind_some (passed (closes Bracket) d.0.1) (λ left. Some (made inner c.0.0 d.0.0, left)) (a, rest) d.2 in
    let opened = opening_sound inner ts b.0 t b.1 in
    let t1 = texts_behind ts b.0 (bits_end (attr_opening inner) ts b.0 opened) t in
    let named = meta_name_sound depth b.0 c.0.0 c.0.1 t1 c.1 in
    let t2 = texts_behind b.0 c.0.1 (is_end (meta_path_form c.0.0) depth b.0 c.0.1 named.0) t1 in
    let given = meta_input_is c.0.1 d.0.0 d.0.1 d.1 in
    let closed = closer_passed_is Bracket d.0.1 e.0 (input_texts d.0.0 c.0.1 d.0.1 given t2) e.1 in
    let good = made_sound inner depth ts e.0 c.0.0 b.0 c.0.1 d.0.1 opened named.0 named.1 closed d.0.0 t2 given in
    same_some (λ (r : Attr × Tokens). GoodAt (about_attr inner) depth r.0 ts r.1) (made inner c.0.0 d.0.0, e.0) (a, rest) e.2 good

doc_kind : (inner : Bool) (k : Kind) → is_doc_kind inner k ≡ true → (block : Bool) × (k ≡ Doc inner block)
doc_kind inner (Doc flag block) h = (block, ap (λ b. Doc b block) (flag_same inner flag h))
doc_kind inner _ h = absurd (cc)

doc_attr_sound : (inner : Bool) (depth : ℕ) (ts : Tokens) (a : Attr) (rest : Tokens) → first (is_doc inner) ts ≡ true → doc_attr inner ts ≡ Some (a, rest)
    → GoodAt (about_attr inner) depth a ts rest
unfolding doc_attr
doc_attr_sound inner depth [] a rest d h = absurd (cc)
doc_attr_sound inner depth (t ∷ ts) a rest d h =
    elim (chosen (is_doc_text inner t.text) (Some (attr.Doc inner t.text, ts)) None (Some (a, rest)) h) [
      | inl g ↦
          let k = doc_kind inner t.kind d in
          let good = and_from (same_flag inner inner) (is_doc_text inner t.text) (same_as_itself inner) g.0 in
          same_some (λ (r : Attr × Tokens). GoodAt (about_attr inner) depth r.0 (t ∷ ts) r.1) (attr.Doc inner t.text, ts) (a, rest) g.1
          ((ts, inl (k.0, k.1, refl, refl), refl), good)
      | inr g ↦ absurd (cc)
    ]

pub attribute_sound : (inner : Bool) (depth : ℕ) (ts : Tokens) (a : Attr) (rest : Tokens) → InText ts → attribute inner ts ≡ Some (a, rest)
    → GoodAt (about_attr inner) depth a ts rest
unfolding attribute
attribute_sound inner depth ts a rest t h =
    elim (chosen (first (is_doc inner) ts) (doc_attr inner ts) (meta_attr inner ts) (Some (a, rest)) h) [
      | inl g ↦ doc_attr_sound inner depth ts a rest g.0 g.1
      | inr g ↦ meta_attr_sound inner depth ts a rest t g.1
    ]

attribute_turn : (inner : Bool) (depth : ℕ) (ts : Tokens) (a : Attr) (rest : Tokens) → InText ts → attribute inner ts ≡ Some (a, rest)
    → GoodAt (about_attr inner) depth a ts rest × InText rest
attribute_turn inner depth ts a rest t h =
    let s = attribute_sound inner depth ts a rest t h in (s, texts_behind ts rest (is_end (attr_form a) depth ts rest s.0) t)

pub attributes_sound : (inner : Bool) (depth : ℕ) (ts : Tokens) (attrs : List Attr) (rest : Tokens) → InText ts → attributes inner ts ≡ Some (attrs, rest)
    → Rows (GoodAt (about_attr inner) depth) attrs ts rest × InText rest × (begins_attr inner rest ≡ false)
unfolding attributes
attributes_sound inner depth ts attrs rest t h =
    repeat_sound (begins_attr inner) (attribute inner) (GoodAt (about_attr inner) depth)
    (λ us a left p m g. attribute_turn inner depth us a left p g) ts attrs rest t h

pub attrs_spelled : (inner : Bool) (depth : ℕ) (attrs : List Attr) (ts rest : Tokens) → Rows (GoodAt (about_attr inner) depth) attrs ts rest
    → Rows (SpelledAt depth) (map attr_form attrs) ts rest × (are_attrs inner attrs ≡ true)
attrs_spelled inner depth attrs ts rest r = (
  rows_map attr_form (SpelledAt depth) attrs ts rest
      (rows_to (GoodAt (about_attr inner) depth) (λ a. SpelledAt depth (attr_form a)) (λ a us mid g. g.0) attrs ts rest r),
  rows_pass (is_attr inner) (λ a. SpelledAt depth (attr_form a)) attrs ts rest r,
)

pub attrs_rows : (inner : Bool) (depth : ℕ) (attrs : List Attr) (ts rest : Tokens) → Rows (SpelledAt depth) (map attr_form attrs) ts rest
    → are_attrs inner attrs ≡ true → Rows (GoodAt (about_attr inner) depth) attrs ts rest
attrs_rows inner depth attrs ts rest r g =
    rows_with (is_attr inner) (λ a. SpelledAt depth (attr_form a)) attrs ts rest g (rows_of_map attr_form (SpelledAt depth) attrs ts rest r)
