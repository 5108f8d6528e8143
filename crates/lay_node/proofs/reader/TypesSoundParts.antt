-- What is read in parts of types is spelled: lists in any brackets, parts with an operator between them, and parts with
-- no types within them.
use Rattle.std.proofs.Common.{◌≡◌, ℕ, zero, suc, Bool, true, false, not, List, [], ◌∷◌, ◌++◌, ◌⊎◌, inl, inr, length, map, drop, codes, Option, Some, None, if◌then◌else◌, cond, refl, sym, ap, subst, ◌∙◌, arith}
use Rattle.std.specs.List.{list_all}
use Rattle.std.proofs.lemmas.Bool.{and_from}
use Rattle.lay_piece.specs.Forms.{opening}
use Rattle.lay_piece.specs.declared.kind.Delim.{Delim}
use Rattle.lay_piece.specs.declared.kind.Delim.TheVariants.{Brace}
use Rattle.lay_piece.specs.declared.kind.Kind.{Kind}
use Rattle.lay_piece.specs.declared.kind.Kind.TheVariants as kind
use Rattle.lay_token.specs.Operators.{is_op}
use Rattle.lay_token.specs.declared.token.Token.{Token}
use Rattle.lay_form.specs.Form.{Bit, Blank, Fixed, Operator, Form, Done, Piece, Part, keyword, comma}
use Rattle.lay_form.specs.Notation.{H, when, each, comma_gap, comma_list}
use Rattle.lay_form.specs.Spelled.{Then, IsOne, IsOperator, IsBit, AreBits, MayBe, Spells}
use Rattle.lay_form.proofs.FormLaws.{deeper as raise, bits_end, is_end}
use Rattle.lay_node.specs.Ahead.{Tokens, first, tail, is_keyword, is_mark, is_lifetime, is_lifetime_kind, opens, closes}
use Rattle.lay_node.specs.Words.{is_literal, is_number, is_string}
use Rattle.lay_node.specs.nodes.Attr.{attr_form, is_attr, are_attrs, is_inner, is_line, about_attr}
use Rattle.lay_node.specs.nodes.Types.{joined, less, greater, is_captured, is_capture, capture_form, param_attrs, lifetime_form, lifetimes_form, outlived_form, lifetime_param_form, is_lifetime_param, binder_form, is_binder, const_form, is_const, abi_form, is_abi}
use Rattle.lay_node.specs.nodes.Types as types
use Rattle.lay_node.specs.nodes.Where.{outlives_follow}
use Rattle.lay_node.specs.reader.Attr.{attributes}
use Rattle.lay_node.specs.reader.Exact.{InText}
use Rattle.lay_node.specs.reader.Loops.{Got, Read, ◌>>=◌, passed, repeat, element_end, elements_from, elements}
use Rattle.lay_node.specs.reader.Tokens.{tokens, group}
use Rattle.lay_node.specs.reader.Words.{word}
use Rattle.lay_node.specs.reader.Types.{operator, flag, if_there, if_read, lifetime, literal, chain, lifetimes, outlived, lifetime_behind, lifetime_param, angled, binder, binder_if, one_capture, negative, braces, const, is_string_token, abi}
use Rattle.lay_node.specs.Begins.{is_literal_token}
use Rattle.lay_node.specs.tokens.Lists.{group_form}
use Rattle.lay_node.specs.declared.attr.Attr.{Attr}
use Rattle.lay_node.specs.declared.token.Lifetime.{Lifetime}
use Rattle.lay_node.specs.declared.token.Listed.{Listed}
use Rattle.lay_node.specs.declared.token.Literal.{Literal}
use Rattle.lay_node.specs.declared.tokens.Group.{Group}
use Rattle.lay_node.specs.declared.types.Abi.{Abi}
use Rattle.lay_node.specs.declared.types.Binder.{Binder}
use Rattle.lay_node.specs.declared.types.Capture.{Capture}
use Rattle.lay_node.specs.declared.types.Capture.TheVariants as capture
use Rattle.lay_node.specs.declared.types.ConstArg.{ConstArg}
use Rattle.lay_node.specs.declared.types.ConstArg.TheVariants as const_arg
use Rattle.lay_node.specs.declared.types.LifetimeParam.{LifetimeParam}
use Rattle.lay_node.proofs.Fronts.{texts_behind, keyword_one, mark_one, passed_first, mark_passed_is, opener_passed_is}
use Rattle.lay_node.proofs.Parts.{Rows, rows_pass, GoodAt, SpelledAt, Further, word_kind, leaf_spelled}
use Rattle.lay_node.proofs.Steps.{got_same, same_some, chosen, bind_some, one_more, no_more}
use Rattle.lay_node.proofs.reader.Attr.{attributes_sound}
use Rattle.lay_node.proofs.reader.Loops.{SoundStep, repeat_sound}
use Rattle.lay_node.proofs.reader.Tokens.{group_sound}
use Rattle.lay_node.proofs.reader.Words.{word_sound}

-- ---- what is read, and what is left

-- What holds of a node, of the tokens from which it is read, and of what is left, which stands in a text.
abbrev pub Out : {A : Type 0} → (A → Tokens → Tokens → Type 0) → Tokens → A × Tokens → Type 0
Out P ts r = P r.0 ts r.1 × InText r.1

-- It is spelled there before whatever follows it.
abbrev pub Leads : (Form → Form) → Tokens → Tokens → Type 0
Leads lead ts rest = (f : Form) (depth : ℕ) (end : Tokens) → Spells f depth rest end → Spells (lead f) depth ts end

pub bit_texts : (b : Bit) (ts rest : Tokens) → IsBit b ts rest → InText ts → InText rest
bit_texts b ts rest o t = texts_behind ts rest (bits_end (b ∷ []) ts rest (rest, o, refl)) t

pub operator_is : (op : List ℕ) (ts at : Tokens) → operator op ts ≡ Some at → IsOperator op ts at
operator_is op ts at h = elim (chosen (is_op op ts) (Some (drop (length op) ts)) None (Some at) h) [
  | inl g ↦ let e : drop (length op) ts ≡ at = cc g.1 in (g.0, e)
  | inr g ↦ absurd (cc)
]

pub keyword_passed_is : (word : List ℕ) (ts rest : Tokens) → passed (is_keyword word) ts ≡ Some rest
    → IsOne kind.Ident word ts rest
keyword_passed_is word ts rest h =
    let f = passed_first (is_keyword word) ts rest h in subst (IsOne kind.Ident word ts) f.1 (keyword_one word ts f.0)

-- ---- a part that is there or not

abbrev flagged : Bool → Tokens → Bool × Tokens
flagged b ts = if b then (true, tail ts) else (false, ts)

flagged_leads : (bits : List Bit) (b : Bool) (ts : Tokens) → (b ≡ true → AreBits bits ts (tail ts))
    → Leads (when (flagged b ts).0 bits) ts (flagged b ts).1
flagged_leads bits true ts are f depth end s = (tail ts, are refl, s)
flagged_leads bits false ts are f depth end s = s

pub flag_leads : (p : Token → Bool) (bits : List Bit) (ts : Tokens) → (first p ts ≡ true → AreBits bits ts (tail ts))
    → Leads (when (flag p ts).0 bits) ts (flag p ts).1
flag_leads p bits ts are = flagged_leads bits (first p ts) ts are

flagged_texts : (bits : List Bit) (b : Bool) (ts : Tokens) → (b ≡ true → AreBits bits ts (tail ts)) → InText ts
    → InText (flagged b ts).1
flagged_texts bits true ts are t = texts_behind ts (tail ts) (bits_end bits ts (tail ts) (are refl)) t
flagged_texts bits false ts are t = t

pub flag_texts : (p : Token → Bool) (bits : List Bit) (ts : Tokens) → (first p ts ≡ true → AreBits bits ts (tail ts))
    → InText ts → InText (flag p ts).1
flag_texts p bits ts are t = flagged_texts bits (first p ts) ts are t

pub if_there_sound : {A : Type 0} (P : Option A → Tokens → Tokens → Type 0) (one : Tokens → Got A) (b : Bool)
    (ts : Tokens)
    → (b ≡ true → (y : A) (mid : Tokens) → one ts ≡ Some (y, mid) → Out P ts (Some y, mid)) → (b ≡ false → P None ts ts)
    → InText ts
    → (x : Option A) (rest : Tokens) → if_there b one ts ≡ Some (x, rest) → Out P ts (x, rest)
if_there_sound P one true ts some none t x rest h =
    let b = bind_some (one ts) _ _ h in
    same_some (Out P ts) (Some b.0.0, b.0.1) (x, rest) b.2 (some refl b.0.0 b.0.1 b.1)
if_there_sound P one false ts some none t x rest h = same_some (Out P ts) (None, ts) (x, rest) h (none refl, t)

pub if_read_sound : {A : Type 0} (P : Option A × ℕ → Tokens → Tokens → Type 0) (one : Tokens → Read A) (b : Bool)
    (ts : Tokens)
    → (b ≡ true → (y : A × ℕ) (mid : Tokens) → one ts ≡ Some (y, mid) → Out P ts ((Some y.0, y.1), mid))
    → (b ≡ false → P (None, 0) ts ts) → InText ts
    → (x : Option A × ℕ) (rest : Tokens) → if_read b one ts ≡ Some (x, rest) → Out P ts (x, rest)
if_read_sound P one true ts some none t x rest h =
    let b = bind_some (one ts) _ _ h in
    same_some (Out P ts) ((Some b.0.0.0, b.0.0.1), b.0.1) (x, rest) b.2 (some refl b.0.0 b.0.1 b.1)
if_read_sound P one false ts some none t x rest h = same_some (Out P ts) ((None, 0), ts) (x, rest) h (none refl, t)

-- ---- parts with an operator between them

-- a part after its operator
abbrev pub BehindOp : {A : Type 0} → List ℕ → (A → Tokens → Tokens → Type 0) → A → Tokens → Tokens → Type 0
BehindOp op P x = Then (IsOperator op) (P x)

abbrev pub Chain : {A : Type 0} → List ℕ → (A → Tokens → Tokens → Type 0) → List A → Tokens → Tokens → Type 0
Chain op P [] ts rest = ⊥
Chain op P (x ∷ xs) ts rest = Then (P x) (Rows (BehindOp op P) xs) ts rest

module _ {A : Type 0} (op : List ℕ) (one : Tokens → Got A) (P : A → Tokens → Tokens → Type 0)
    (sound : SoundStep one P) where
  behind_sound : (ts : Tokens) (x : A) (rest : Tokens) → InText ts → is_op op ts ≡ true
      → one (drop (length op) ts) ≡ Some (x, rest)
      → BehindOp op P x ts rest × InText rest
  behind_sound ts x rest t m h =
      let at = drop (length op) ts in
      let o : IsOperator op ts at = (m, refl) in
      let s = sound at x rest (bit_texts (Operator op) ts at o t) h in ((at, o, s.0), s.1)

  pub chain_sound : (ts : Tokens) (xs : List A) (rest : Tokens) → InText ts → chain op one ts ≡ Some (xs, rest)
      → Chain op P xs ts rest × InText rest × (is_op op rest ≡ false)
  unfolding chain
  chain_sound ts xs rest t h =
      let b = bind_some (one ts) _ _ h in
      let c = bind_some (repeat (is_op op) (λ us. one (drop (length op) us)) b.0.1) _ _ b.2 in
      let s = sound ts b.0.0 b.0.1 t b.1 in
      let r = repeat_sound (is_op op) (λ us. one (drop (length op) us)) (BehindOp op P)
      behind_sound b.0.1 c.0.0 c.0.1 s.1 c.1 in
      same_some (λ (r : List A × Tokens). Chain op P r.0 ts r.1 × InText r.1 × (is_op op r.1 ≡ false))
      (b.0.0 ∷ c.0.0, c.0.1) (xs, rest) c.2
      ((b.0.1, s.0, r.0), r.1, r.2)

module _ {A : Type 0} (op : List ℕ) (lead : Form → Form)
    (leads : (f : Form) (depth : ℕ) (ts mid rest : Tokens) → IsOperator op ts mid → Spells f depth mid rest
    → Spells (lead f) depth ts rest)
    (form : A → Form) (depth : ℕ) where
  pub further_spelled : (xs : List A) (ts rest : Tokens) → Rows (BehindOp op (λ x. SpelledAt depth (form x))) xs ts rest
      → Spells (each lead (map form xs)) depth ts rest
  further_spelled [] ts rest r = r
  further_spelled (x ∷ xs) ts rest r =
      let row = r.1 in
      leads (Part (form x) (each lead (map form xs))) depth ts row.0 rest row.1
      (r.0, row.2, further_spelled xs r.0 rest r.2)

  pub chain_spelled : (xs : List A) (ts rest : Tokens) → Chain op (λ x. SpelledAt depth (form x)) xs ts rest
      → Spells (joined lead (map form xs)) depth ts rest
  chain_spelled [] ts rest c = absurd c
  chain_spelled (x ∷ xs) ts rest c = (c.0, c.1, further_spelled xs c.0 rest c.2)

-- ---- lists with commas, whatever closes them

-- further elements, a last comma that may be left out, and what closes the list
abbrev pub BehindBy : {A : Type 0} → Bit → (A → Tokens → Tokens → Type 0) → List A → Tokens → Tokens → Type 0
BehindBy shut P xs = Then (Rows (Further P) xs) (Then (MayBe comma) (IsBit shut))

abbrev pub ElementsBy : {A : Type 0} → Bit → (A → Tokens → Tokens → Type 0) → List A → Tokens → Tokens → Type 0
ElementsBy shut P [] = IsBit shut
ElementsBy shut P (x ∷ xs) = Then (P x) (BehindBy shut P xs)

pub behind_comma : {A : Type 0} (shut : Bit) (P : A → Tokens → Tokens → Type 0) (xs : List A) (ts next rest : Tokens)
    → IsOne kind.Punct (codes ",") ts next
    → ElementsBy shut P xs next rest → BehindBy shut P xs ts rest
behind_comma shut P [] ts next rest m r = (ts, refl, (next, inr (next, m, refl), r))
behind_comma shut P (x ∷ xs) ts next rest m r = let b = r.2 in (b.0, (r.0, (next, m, r.1), b.1), b.2)

-- The test tells that what closes a list stands there.
abbrev pub Shuts : (Token → Bool) → Bit → Type 0
Shuts closed shut = (ts : Tokens) → InText ts → first closed ts ≡ true → IsBit shut ts (tail ts)

element_end_is : (closed : Token → Bool) (ts rest : Tokens) → element_end closed ts ≡ Some rest
    → IsOne kind.Punct (codes ",") ts rest ⊎ ((first closed ts ≡ true) × (ts ≡ rest))
element_end_is closed ts rest h =
    elim (chosen (first (is_mark (codes ",")) ts) (Some (tail ts)) (if first closed ts then Some ts else None)
    (Some rest) h) [
      | inl g ↦
          let e : tail ts ≡ rest =
          cc g.1 in inl (subst (IsOne kind.Punct (codes ",") ts) e (mark_one (codes ",") ts g.0))
      | inr g ↦ elim (chosen (first closed ts) (Some ts) None (Some rest) g.1) [
        | inl f ↦ let e : ts ≡ rest = cc f.1 in inr (f.0, e)
        | inr f ↦ absurd (cc)
      ]
    ]

elements_closed : {A : Type 0} (closed : Token → Bool) (one : Tokens → Got A) (n : ℕ) (found : List A) (ts : Tokens)
    (xs : List A) (rest : Tokens)
    → first closed ts ≡ true → elements_from closed one n found ts ≡ Some (xs, rest) → (found ≡ xs) × (tail ts ≡ rest)
unfolding elements_from
elements_closed closed one zero found ts xs rest c h = absurd (cc)
elements_closed closed one (suc n) found ts xs rest c h = got_same found xs (tail ts) rest (rw c at h)

module _ {A : Type 0} (one : Tokens → Got A) (P : A → Tokens → Tokens → Type 0) (sound : SoundStep one P)
    (closed : Token → Bool) (shut : Bit)
    (shuts : Shuts closed shut) where
  shut_there : (ts rest : Tokens) → InText ts → first closed ts ≡ true → tail ts ≡ rest → IsBit shut ts rest
      × InText rest
  shut_there ts rest t c e =
      let o = shuts ts t c in (subst (IsBit shut ts) e o, subst InText e (bit_texts shut ts (tail ts) o t))

  from_sound : (n : ℕ) (found : List A) (ts : Tokens) (xs : List A) (rest : Tokens) → InText ts
      → elements_from closed one n found ts ≡ Some (xs, rest) → (ys : List A) × (xs ≡ found ++ ys)
      × ElementsBy shut P ys ts rest × InText rest
  unfolding elements_from
  from_sound zero found ts xs rest t h = absurd (cc)
  from_sound (suc n) found ts xs rest t h =
      let go_on : A × Tokens → Got (List A) =
      λ x. element_end closed x.1 >>= (λ next. elements_from closed one n (found ++ x.0 ∷ []) next) in
      elim (chosen (first closed ts) (Some (found, tail ts)) (one ts >>= go_on) (Some (xs, rest)) h) [
        | inl g ↦
            let e = got_same found xs (tail ts) rest g.1 in
            let c = shut_there ts rest t g.0 e.1 in ([], no_more found xs e.0, c.0, c.1)
        | inr g ↦
            let b = bind_some (one ts) go_on (xs, rest) g.1 in
            let s = sound ts b.0.0 b.0.1 t b.1 in
            let c = bind_some (element_end closed b.0.1) (λ next. elements_from closed one n (found ++ b.0.0 ∷ []) next)
            (xs, rest) b.2 in
            elim (element_end_is closed b.0.1 c.0 c.1) [
              | inl m ↦
                  let left = bit_texts (Fixed kind.Punct (codes ",")) b.0.1 c.0 m s.1 in
                  let r = from_sound n (found ++ b.0.0 ∷ []) c.0 xs rest left c.2 in (
                    b.0.0 ∷ r.0,
                    one_more found b.0.0 r.0 xs r.1,
                    (b.0.1, s.0, behind_comma shut P r.0 b.0.1 c.0 rest m r.2),
                    r.3,
                  )
              | inr m ↦
                  let here : first closed c.0 ≡ true = subst (λ us. first closed us ≡ true) m.1 m.0 in
                  let e = elements_closed closed one n (found ++ b.0.0 ∷ []) c.0 xs rest here c.2 in
                  let f = shut_there b.0.1 rest s.1 m.0 (ap tail m.1 ∙ e.1) in
                  (b.0.0 ∷ [], sym e.0, (b.0.1, s.0, (b.0.1, refl, (b.0.1, inl refl, f.0))), f.1)
            ]
      ]

  pub elements_by : (ts : Tokens) (xs : List A) (rest : Tokens) → InText ts → elements closed one ts ≡ Some (xs, rest)
      → ElementsBy shut P xs ts rest × InText rest
  unfolding elements
  elements_by ts xs rest t h =
      let r = from_sound (suc (length ts)) [] ts xs rest t h in
      (subst (λ ys. ElementsBy shut P ys ts rest) (sym r.1) r.2, r.3)

-- each element of a list, where its form is spelled
module _ {A : Type 0} (form : A → Form) (depth : ℕ) where
  pub each_spelled : (xs : List A) (ts rest : Tokens) → Rows (Further (λ x. SpelledAt depth (form x))) xs ts rest
      → Spells (each comma_gap (map form xs)) depth ts rest
  each_spelled [] ts rest r = r
  each_spelled (x ∷ xs) ts rest r =
      let one = r.1 in (one.0, (one.0, one.1, refl), (r.0, one.2, each_spelled xs r.0 rest r.2))

  pub list_by : (opens shut : Bit) (xs : List A) (ts inside rest : Tokens) → IsBit opens ts inside
      → ElementsBy shut (λ x. SpelledAt depth (form x)) xs inside rest
      → Spells (comma_list true opens shut (map form xs)) depth ts rest
  list_by opens shut [] ts inside rest o r = (rest, (inside, o, (rest, r, refl)), refl)
  list_by opens shut (x ∷ xs) ts inside rest o r =
      let behind = r.2 in
      let last = behind.2 in (
        rest,
        (
          inside,
          (inside, o, refl),
          (
            r.0,
            r.1,
            (behind.0, each_spelled xs r.0 behind.0 behind.1, (last.0, last.1, (rest, (rest, last.2, refl), refl))),
          ),
        ),
        refl,
      )

-- ---- what holds of all elements

module _ {A : Type 0} (P : A → Tokens → Tokens → Type 0) (Q : A → Tokens → Tokens → Type 0) (good : A → Bool)
    (to : (x : A) (ts mid : Tokens) → P x ts mid → Q x ts mid × (good x ≡ true)) where
  pub further_all : (xs : List A) (ts rest : Tokens) → Rows (Further P) xs ts rest → Rows (Further Q) xs ts rest
      × (list_all good xs ≡ true)
  further_all [] ts rest r = (r, refl)
  further_all (x ∷ xs) ts rest r =
      let row = r.1 in
      let one = to x row.0 r.0 row.2 in
      let more = further_all xs r.0 rest r.2 in
      ((r.0, (row.0, row.1, one.0), more.0), and_from (good x) (list_all good xs) one.1 more.1)

  pub elements_all : (shut : Bit) (xs : List A) (ts rest : Tokens) → ElementsBy shut P xs ts rest
      → ElementsBy shut Q xs ts rest × (list_all good xs ≡ true)
  elements_all shut [] ts rest r = (r, refl)
  elements_all shut (x ∷ xs) ts rest r =
      let behind = r.2 in
      let one = to x ts r.0 r.1 in
      let more = further_all xs r.0 behind.0 behind.1 in
      ((r.0, one.0, (behind.0, more.0, behind.2)), and_from (good x) (list_all good xs) one.1 more.1)

-- ---- lifetimes

life_kind : (k : Kind) → is_lifetime_kind k ≡ true → k ≡ kind.Lifetime
life_kind kind.Lifetime h = refl
life_kind _ h = absurd (cc)

abbrev pub IsLifetime : Lifetime → Tokens → Tokens → Type 0
IsLifetime l = IsOne kind.Lifetime l.text

pub lifetime_sound : SoundStep lifetime IsLifetime
unfolding lifetime
lifetime_sound [] l rest p h = absurd (cc)
lifetime_sound (t ∷ ts) l rest p h =
    let one : Lifetime = record { text = t.text } in
    elim (chosen (is_lifetime t) (Some (one, ts)) None (Some (l, rest)) h) [
      | inl g ↦
          let o : IsLifetime one (t ∷ ts) ts = (life_kind t.kind g.0, refl, refl) in
          same_some (Out IsLifetime (t ∷ ts)) (one, ts) (l, rest) g.1
          (o, bit_texts (Fixed kind.Lifetime t.text) (t ∷ ts) ts o p)
      | inr g ↦ absurd (cc)
    ]

abbrev plus_lead : Form → Form
plus_lead f = Piece (Blank ∷ Operator (codes "+") ∷ Blank ∷ []) f

plus_leads : (f : Form) (depth : ℕ) (ts mid rest : Tokens) → IsOperator (codes "+") ts mid → Spells f depth mid rest
    → Spells (plus_lead f) depth ts rest
plus_leads f depth ts mid rest o s = (mid, (ts, refl, (mid, o, (mid, refl, refl))), s)

lifetime_spelled : (depth : ℕ) (l : Lifetime) (ts rest : Tokens) → IsLifetime l ts rest
    → Spells (lifetime_form l) depth ts rest
lifetime_spelled depth l ts rest o = (rest, o, refl)

lifetime_rows : (ls : List Lifetime) (ts rest : Tokens) → Rows (BehindOp (codes "+") IsLifetime) ls ts rest
    → Rows (BehindOp (codes "+") (λ l. SpelledAt 0 (lifetime_form l))) ls ts rest
lifetime_rows [] ts rest r = r
lifetime_rows (l ∷ ls) ts rest r =
    let row = r.1 in (r.0, (row.0, row.1, lifetime_spelled 0 l row.0 r.0 row.2), lifetime_rows ls r.0 rest r.2)

-- Lifetimes are spelled there, and no more of them follow.
abbrev pub AreLifetimes : List Lifetime → Tokens → Tokens → Type 0
AreLifetimes ls ts rest = Spells (lifetimes_form ls) 0 ts rest × (outlives_follow ls rest ≡ true)

lifetimes_are : (ls : List Lifetime) (ts rest : Tokens) → Chain (codes "+") IsLifetime ls ts rest
    → is_op (codes "+") rest ≡ false → AreLifetimes ls ts rest
lifetimes_are [] ts rest c e = absurd c
lifetimes_are (l ∷ ls) ts rest c e =
    let rows : Chain (codes "+") (λ m. SpelledAt 0 (lifetime_form m)) (l ∷ ls) ts rest =
    (c.0, lifetime_spelled 0 l ts c.0 c.1, lifetime_rows ls c.0 rest c.2) in
    (chain_spelled (codes "+") plus_lead plus_leads lifetime_form 0 (l ∷ ls) ts rest rows, ap not e)

pub lifetimes_sound : SoundStep lifetimes AreLifetimes
lifetimes_sound ts ls rest t h =
    elim (chosen (first is_lifetime ts) (chain (codes "+") lifetime ts) (Some ([], ts)) (Some (ls, rest)) h) [
      | inl g ↦
          let c = chain_sound (codes "+") lifetime IsLifetime lifetime_sound ts ls rest t g.1 in
          (lifetimes_are ls ts rest c.0 c.2, c.1)
      | inr g ↦ same_some (Out AreLifetimes ts) ([], ts) (ls, rest) g.1 ((refl, ap not g.0), t)
    ]

abbrev IsOutlived : List Lifetime → Tokens → Tokens → Type 0
IsOutlived ls = SpelledAt 0 (outlived_form ls)

outlived_by : (ls : List Lifetime) (ts at rest : Tokens) → IsOperator (codes ":") ts at
    → Spells (lifetimes_form ls) 0 at rest → IsOutlived ls ts rest
outlived_by [] ts at rest o s = (at, inr (at, o, refl), s)
outlived_by (l ∷ ls) ts at rest o s = (at, (at, o, (at, refl, refl)), s)

outlived_sound : SoundStep outlived IsOutlived
outlived_sound ts ls rest t h =
    elim (chosen (is_op (codes ":") ts) (lifetimes (drop 1 ts)) (Some ([], ts)) (Some (ls, rest)) h) [
      | inl g ↦
          let o : IsOperator (codes ":") ts (drop 1 ts) = (g.0, refl) in
          let s = lifetimes_sound (drop 1 ts) ls rest (bit_texts (Operator (codes ":")) ts (drop 1 ts) o t) g.1 in
          (outlived_by ls ts (drop 1 ts) rest o s.0.0, s.1)
      | inr g ↦ same_some (Out IsOutlived ts) ([], ts) (ls, rest) g.1 ((ts, inl refl, refl), t)
    ]

-- ---- attributes of a parameter

behind_spelled : (inner line : Bool) (f : Form) (depth : ℕ) (ts rest : Tokens) → Spells f depth ts rest
    → Spells (cond inner f (cond line (H f) (Piece (Blank ∷ []) f))) depth ts rest
behind_spelled true line f depth ts rest s = s
behind_spelled false true f depth ts rest s = s
behind_spelled false false f depth ts rest s = (ts, (ts, refl, refl), s)

pub param_attrs_leads : (depth : ℕ) (attrs : List Attr) (ts mid : Tokens)
    → Rows (GoodAt (about_attr false) depth) attrs ts mid
    → (f : Form) (rest : Tokens) → Spells f depth mid rest → Spells (param_attrs attrs f) depth ts rest
param_attrs_leads depth [] ts mid r f rest s = subst (λ us. Spells f depth us rest) (sym r) s
param_attrs_leads depth (a ∷ more) ts mid r f rest s =
    let one = r.1 in (
      r.0,
      one.0,
      behind_spelled (is_inner a) (is_line a) (param_attrs more f) depth r.0 rest
          (param_attrs_leads depth more r.0 mid r.2 f rest s),
    )

pub attrs_good : (depth : ℕ) (attrs : List Attr) (ts mid : Tokens) → Rows (GoodAt (about_attr false) depth) attrs ts mid
    → are_attrs false attrs ≡ true
attrs_good depth attrs ts mid r = rows_pass (is_attr false) (λ a. SpelledAt depth (attr_form a)) attrs ts mid r

-- ---- lifetimes that are parameters, and binders

abbrev pub IsBehind : List Attr → LifetimeParam → Tokens → Tokens → Type 0
IsBehind attrs p ts rest =
    (p.attrs ≡ attrs) × Spells (Part (lifetime_form p.lifetime) (outlived_form p.bounds)) 0 ts rest

pub lifetime_behind_sound : (attrs : List Attr) → SoundStep (lifetime_behind attrs) (IsBehind attrs)
unfolding lifetime_behind
lifetime_behind_sound attrs ts p rest t h =
    let l = bind_some (lifetime ts) _ _ h in
    let b = bind_some (outlived l.0.1) _ _ l.2 in
    let s = lifetime_sound ts l.0.0 l.0.1 t l.1 in
    let o = outlived_sound l.0.1 b.0.0 b.0.1 s.1 b.1 in
    same_some (Out (IsBehind attrs) ts) (record { attrs = attrs; lifetime = l.0.0; bounds = b.0.0 }, b.0.1) (p, rest)
    b.2
    ((refl, (l.0.1, lifetime_spelled 0 l.0.0 ts l.0.1 s.0, o.0)), o.1)

abbrev pub IsLifetimeParam : LifetimeParam → Tokens → Tokens → Type 0
IsLifetimeParam p ts rest = Spells (lifetime_param_form p) 0 ts rest × (is_lifetime_param p ≡ true)

pub lifetime_param_is : (p : LifetimeParam) (attrs : List Attr) (ts mid rest : Tokens)
    → Rows (GoodAt (about_attr false) 0) attrs ts mid
    → IsBehind attrs p mid rest → IsLifetimeParam p ts rest
lifetime_param_is p attrs ts mid rest r s =
    let rows = subst (λ given. Rows (GoodAt (about_attr false) 0) given ts mid) (sym s.0) r in (
      param_attrs_leads 0 p.attrs ts mid rows (Part (lifetime_form p.lifetime) (outlived_form p.bounds)) rest s.1,
      attrs_good 0 p.attrs ts mid rows,
    )

lifetime_param_sound : SoundStep lifetime_param IsLifetimeParam
lifetime_param_sound ts p rest t h =
    let a = bind_some (attributes false ts) _ _ h in
    let r = attributes_sound false 0 ts a.0.0 a.0.1 t a.1 in
    let s = lifetime_behind_sound a.0.0 a.0.1 p rest r.1 a.2 in
    (lifetime_param_is p a.0.0 ts a.0.1 rest r.0 s.0, s.1)

pub greater_shuts : Shuts (is_mark (codes ">")) greater
greater_shuts ts t h = mark_one (codes ">") ts h

abbrev LeadsGood : Option Binder → Tokens → Tokens → Type 0
LeadsGood b ts rest = Leads (binder_form b) ts rest × (is_binder b ≡ true)

binder_sound : SoundStep binder (λ b. LeadsGood (Some b))
unfolding binder
binder_sound ts b rest t h =
    let k = bind_some (passed (is_keyword (codes "for")) ts) _ _ h in
    let ps = bind_some (angled lifetime_param k.0) _ _ k.2 in
    let o = bind_some (passed (is_mark (codes "<")) k.0) _ _ ps.1 in
    let word = keyword_passed_is (codes "for") ts k.0 k.1 in
    let behind = bit_texts (keyword (codes "for")) ts k.0 word t in
    let opened = mark_passed_is (codes "<") k.0 o.0 o.1 in
    let inside = bit_texts less k.0 o.0 opened behind in
    let e = elements_by lifetime_param IsLifetimeParam lifetime_param_sound (is_mark (codes ">"))
    greater greater_shuts o.0 ps.0.0 ps.0.1 inside o.2 in
    let a = elements_all IsLifetimeParam (λ p. SpelledAt 0 (lifetime_param_form p)) is_lifetime_param (λ p us mid g. g)
    greater ps.0.0 o.0 ps.0.1 e.0 in
    let list = list_by lifetime_param_form 0 less greater ps.0.0 k.0 o.0 ps.0.1 opened a.0 in
    let leads : Leads (binder_form (Some (record { params = ps.0.0 }))) ts ps.0.1 =
    λ f depth end s. (
      k.0,
      (k.0, word, refl),
      (
        ps.0.1,
        raise (comma_list true less greater (map lifetime_param_form ps.0.0)) 0 depth k.0 ps.0.1 (omega arith) list,
        (ps.0.1, (ps.0.1, refl, refl), s),
      ),
    ) in
    same_some (Out (λ b. LeadsGood (Some b)) ts) (record { params = ps.0.0 }, ps.0.1) (b, rest) ps.2 ((leads, a.1), e.1)

pub binder_if_sound : SoundStep binder_if LeadsGood
binder_if_sound ts b rest t h =
    if_there_sound LeadsGood binder (first (is_keyword (codes "for")) ts) ts (λ g y mid e. binder_sound ts y mid t e)
    (λ g. ((λ f depth end s. s), refl)) t
    b rest h

-- ---- what is captured

abbrev pub IsCapture : Capture → Tokens → Tokens → Type 0
IsCapture c ts rest = Spells (capture_form c) 0 ts rest × (is_capture c ≡ true)

capture_sound : SoundStep one_capture IsCapture
unfolding one_capture
capture_sound ts c rest t h = elim (chosen (first is_lifetime ts) _ _ _ h) [
  | inl g ↦
      let l = bind_some (lifetime ts) _ _ g.1 in
      let s = lifetime_sound ts l.0.0 l.0.1 t l.1 in
      same_some (Out IsCapture ts) (capture.Region l.0.0, l.0.1) (c, rest) l.2
      ((lifetime_spelled 0 l.0.0 ts l.0.1 s.0, refl), s.1)
  | inr g ↦
      let w = bind_some (word ts) _ _ g.1 in
      let o = (word_sound ts w.0.0 w.0.1 w.1).0 in
      elim (chosen (is_captured w.0.0) _ None _ w.2) [
        | inl k ↦
            same_some (Out IsCapture ts) (capture.Word w.0.0, w.0.1) (c, rest) k.1 (
              (leaf_spelled w.0.0.raw w.0.0.text Done 0 ts w.0.1 w.0.1 o refl, k.0),
              bit_texts (Fixed (word_kind w.0.0.raw) w.0.0.text) ts w.0.1 o t,
            )
        | inr k ↦ absurd (cc)
      ]
]

abbrev pub AreCaptured : List Capture → Tokens → Tokens → Type 0
AreCaptured cs ts rest = Spells (comma_list true less greater (map capture_form cs)) 0 ts rest × (list_all is_capture cs ≡ true)

pub captured_sound : SoundStep (angled one_capture) AreCaptured
captured_sound ts cs rest t h =
    let o = bind_some (passed (is_mark (codes "<")) ts) _ _ h in
    let opened = mark_passed_is (codes "<") ts o.0 o.1 in
    let e = elements_by one_capture IsCapture capture_sound (is_mark (codes ">")) greater greater_shuts o.0 cs rest
    (bit_texts less ts o.0 opened t) o.2 in
    let a = elements_all IsCapture (λ c. SpelledAt 0 (capture_form c)) is_capture (λ c us mid g. g) greater cs o.0 rest e.0 in
    ((list_by capture_form 0 less greater cs ts o.0 rest opened a.0, a.1), e.1)

-- ---- literals and constants

abbrev pub IsLiteral : (Kind → List ℕ → Bool) → Literal → Tokens → Tokens → Type 0
IsLiteral passes l ts rest = IsOne l.kind l.text ts rest × (passes l.kind l.text ≡ true)

pub literal_sound : (passes : Kind → List ℕ → Bool) → SoundStep (literal (λ t. passes t.kind t.text)) (IsLiteral passes)
unfolding literal
literal_sound passes [] l rest p h = absurd (cc)
literal_sound passes (t ∷ ts) l rest p h =
    let one : Literal = record { kind = t.kind; text = t.text } in
    elim (chosen (passes t.kind t.text) (Some (one, ts)) None (Some (l, rest)) h) [
      | inl g ↦
          let o : IsOne t.kind t.text (t ∷ ts) ts = (refl, refl, refl) in
          same_some (Out (IsLiteral passes) (t ∷ ts)) (one, ts) (l, rest) g.1
          ((o, g.0), bit_texts (Fixed t.kind t.text) (t ∷ ts) ts o p)
      | inr g ↦ absurd (cc)
    ]

abbrev pub IsConst : ConstArg → Tokens → Tokens → Type 0
IsConst c ts rest = Spells (const_form c) 0 ts rest × (is_const c ≡ true)

-- a group, from what opens it, its tokens and what closes it
pub group_there : (d : Delim) (ts inside : Tokens) (us : List Listed) (mid rest : Tokens)
    → IsOne (kind.Opener d) (opening d ∷ []) ts inside
    → tokens inside ≡ Some (us, mid) → passed (closes d) mid ≡ Some rest
    → group ts ≡ Some (record { delim = d; tokens = us }, rest)
unfolding group
group_there d [] inside us mid rest o u c = absurd o
group_there d (t ∷ ts) inside us mid rest o u c =
    let read : tokens ts ≡ Some (us, mid) = ap tokens o.2 ∙ u in
    at t.kind o.0 read
  where
    at : (k : Kind) → k ≡ kind.Opener d → tokens ts ≡ Some (us, mid)
        → group (record t { kind = k } ∷ ts) ≡ Some (record { delim = d; tokens = us }, rest)
    at k e read = rw (e, read, c) refl

braces_sound : SoundStep braces IsConst
braces_sound ts x rest t h =
    let o = bind_some (passed (opens Brace) ts) _ _ h in
    let us = bind_some (tokens o.0) _ _ o.2 in
    let c = bind_some (passed (closes Brace) us.0.1) _ _ us.2 in
    let g : Group = record { delim = Brace; tokens = us.0.0 } in
    let opened = opener_passed_is Brace ts o.0 t o.1 in
    let s = group_sound 0 ts g c.0 Done c.0 t (group_there Brace ts o.0 us.0.0 us.0.1 c.0 opened us.1 c.1) refl in
    same_some (Out IsConst ts) (const_arg.Braces us.0.0, c.0) (x, rest) c.2
    (s, texts_behind ts c.0 (is_end (group_form g Done) 0 ts c.0 s.0) t)

negative_sound : (ts at : Tokens) (x : ConstArg) (rest : Tokens) → IsOne kind.Punct (codes "-") ts at → InText at
    → negative at ≡ Some (x, rest)
    → Out IsConst ts (x, rest)
negative_sound ts at x rest o t h =
    let n = bind_some (literal (λ u. is_number u.kind) at) _ _ h in
    let s = literal_sound (λ k text. is_number k) at n.0.0 n.0.1 t n.1 in
    same_some (Out IsConst ts) (const_arg.Negative n.0.0, n.0.1) (x, rest) n.2
    (((at, (at, o, refl), (n.0.1, s.0.0, refl)), s.0.1), s.1)

pub const_sound : SoundStep const IsConst
unfolding const
const_sound ts x rest t h = elim (chosen (first is_literal_token ts) _ _ _ h) [
  | inl g ↦
      let l = bind_some (literal is_literal_token ts) _ _ g.1 in
      let s = literal_sound is_literal ts l.0.0 l.0.1 t l.1 in
      same_some (Out IsConst ts) (const_arg.Literal l.0.0, l.0.1) (x, rest) l.2 (((l.0.1, s.0.0, refl), s.0.1), s.1)
  | inr g ↦ elim (chosen (first (is_mark (codes "-")) ts) _ _ _ g.1) [
    | inl m ↦
        let o = mark_one (codes "-") ts m.0 in
        negative_sound ts (tail ts) x rest o (bit_texts (Fixed kind.Punct (codes "-")) ts (tail ts) o t) m.1
    | inr m ↦ braces_sound ts x rest t m.1
  ]
]

-- ---- what a function type is extern for

abbrev NameLeads : Option Literal → Tokens → Tokens → Type 0
NameLeads l ts rest = Leads (types.abi_name l) ts rest × (types.is_abi_name l ≡ true)

abbrev pub AbiLeads : Option Abi → Tokens → Tokens → Type 0
AbiLeads a ts rest = Leads (abi_form a) ts rest × (is_abi a ≡ true)

abi_name_sound : (ts : Tokens) (x : Option Literal) (rest : Tokens) → InText ts
    → if_there (first is_string_token ts) (literal is_string_token) ts ≡ Some (x, rest)
    → Out NameLeads ts (x, rest)
abi_name_sound ts x rest t h =
    if_there_sound NameLeads (literal is_string_token) (first is_string_token ts) ts
    (λ g y mid e. let s = literal_sound is_string ts y mid t e in (
      (
        (λ f depth end r. (
          mid,
          s.0.0,
          (mid, (mid, refl, refl), r),
        )),
        s.0.1,
      ),
      s.1,
    ))
    (λ g. ((λ f depth end s. s), refl)) t x rest h

pub abi_sound : SoundStep abi (λ a. AbiLeads (Some a))
unfolding abi
abi_sound ts a rest t h =
    let k = bind_some (passed (is_keyword (codes "extern")) ts) _ _ h in
    let l = bind_some (if_there (first is_string_token k.0) (literal is_string_token) k.0) _ _ k.2 in
    let word = keyword_passed_is (codes "extern") ts k.0 k.1 in
    let s = abi_name_sound k.0 l.0.0 l.0.1 (bit_texts (keyword (codes "extern")) ts k.0 word t) l.1 in
    let leads : Leads (abi_form (Some (record { name = l.0.0 }))) ts l.0.1 =
    λ f depth end r. (k.0, (k.0, word, (k.0, refl, refl)), s.0.0 f depth end r) in
    same_some (Out (λ a. AbiLeads (Some a)) ts) (record { name = l.0.0 }, l.0.1) (a, rest) l.2 ((leads, s.0.1), s.1)
