-- What the tests of the beginning of a list of tokens tell of it, and what stands there tells of the tests.
use Rattle.std.proofs.Common.{◌≡◌, ℕ, suc, ◌≤◌, ◌<◌, Bool, true, false, List, [], ◌∷◌, ◌&&◌, length, codes, Option, Some, None, refl, sym, ap, subst, ◌∙◌, inl, inr, arith, length-append, length-drop, cond}
use Rattle.std.specs.List.{list_all}
use Rattle.std.specs.Str.{bytes_eq}
use Rattle.std.proofs.lemmas.Bool.{and_parts, cases_Bool, false_from_ne_true}
use Rattle.std.proofs.lemmas.Slice.Eq.{bytes_eq-Decides}
use Rattle.lay_piece.specs.Forms.{opening, closing}
use Rattle.lay_token.specs.Lexes.{is_punct}
use Rattle.lay_token.specs.Operators.{operators, begins_op, first_op, or_lone, op_at, is_op_of, is_op}
use Rattle.lay_piece.specs.declared.kind.Delim.{Delim}
use Rattle.lay_piece.specs.declared.kind.Delim.TheVariants.{Paren, Bracket, Brace}
use Rattle.lay_piece.specs.declared.kind.Kind.{Kind}
use Rattle.lay_piece.specs.declared.kind.Kind.TheVariants.{Ident, Punct, Opener, Closer}
use Rattle.lay_token.specs.declared.token.Token.{Token}
use Rattle.lay_token.proofs.Deciding.{punct_is, bytes_same, bytes_self}
use Rattle.lay_form.specs.Spelled.{IsOne, IsOperator}
use Rattle.lay_form.proofs.FormLaws.{IsEnd}
use Rattle.lay_node.specs.Ahead.{Tokens, first, tail, is_ident, is_keyword, is_mark, same_delim, is_opener, is_closer, opens, closes}
use Rattle.lay_node.specs.reader.Exact.{InText}
use Rattle.lay_node.specs.reader.Loops.{passed}
use Rattle.lay_node.proofs.InText.{only_text, IsText, behind_all, text_one}
use Rattle.lay_node.proofs.Steps.{chosen}

-- ---- what is left

-- Tokens stand in a text where they end ones that do.
pub texts_behind : (ts rest : Tokens) → IsEnd rest ts → InText ts → InText rest
texts_behind ts rest e h = behind_all e.before rest (subst InText e.whole h)

pub end_shorter : (ts rest : Tokens) → IsEnd rest ts → length rest ≤ length ts
end_shorter ts rest e = omega (arith, ap length e.whole, length-append e.before rest)

only_one : (kind other : Kind) (only text : List ℕ) → other ≡ kind → only_text kind ≡ Some only → IsText (only_text other) text → text ≡ only
only_one kind other only text k o h = subst (λ (one : Option (List ℕ)). IsText one text) (ap only_text k ∙ o) h

-- ---- what a test tells

pub ident_kind : (k : Kind) → is_ident k ≡ true → k ≡ Ident
ident_kind Ident h = refl
ident_kind _ h = absurd (cc)

delim_same : (d e : Delim) → same_delim d e ≡ true → e ≡ d
delim_same Paren Paren h = refl
delim_same Bracket Bracket h = refl
delim_same Brace Brace h = refl
delim_same _ _ h = absurd (cc)

pub opener_kind : (d : Delim) (k : Kind) → is_opener d k ≡ true → k ≡ Opener d
opener_kind d (Opener e) h = ap (λ x. Opener x) (delim_same d e h)
opener_kind d _ h = absurd (cc)

pub closer_kind : (d : Delim) (k : Kind) → is_closer d k ≡ true → k ≡ Closer d
closer_kind d (Closer e) h = ap (λ x. Closer x) (delim_same d e h)
closer_kind d _ h = absurd (cc)

pub keyword_one : (word : List ℕ) (ts : Tokens) → first (is_keyword word) ts ≡ true → IsOne Ident word ts (tail ts)
keyword_one word [] h = absurd (cc)
keyword_one word (t ∷ ts) h =
    let b = and_parts (is_ident t.kind) (bytes_eq t.text word) h in (ident_kind t.kind b.0, bytes_same t.text word b.1, refl)

pub mark_one : (character : List ℕ) (ts : Tokens) → first (is_mark character) ts ≡ true → IsOne Punct character ts (tail ts)
mark_one character [] h = absurd (cc)
mark_one character (t ∷ ts) h =
    let b = and_parts (is_punct t.kind) (bytes_eq t.text character) h in (punct_is t.kind b.0, bytes_same t.text character b.1, refl)

pub opens_one : (d : Delim) (ts : Tokens) → InText ts → first (opens d) ts ≡ true → IsOne (Opener d) (opening d ∷ []) ts (tail ts)
opens_one d [] p h = absurd (cc)
opens_one d (t ∷ ts) p h =
    let k = opener_kind d t.kind h in (k, only_one (Opener d) t.kind (opening d ∷ []) t.text k refl (text_one t ts p), refl)

pub closes_one : (d : Delim) (ts : Tokens) → InText ts → first (closes d) ts ≡ true → IsOne (Closer d) (closing d ∷ []) ts (tail ts)
closes_one d [] p h = absurd (cc)
closes_one d (t ∷ ts) p h =
    let k = closer_kind d t.kind h in (k, only_one (Closer d) t.kind (closing d ∷ []) t.text k refl (text_one t ts p), refl)

pub passed_first : (p : Token → Bool) (ts rest : Tokens) → passed p ts ≡ Some rest → (first p ts ≡ true) × (tail ts ≡ rest)
passed_first p ts rest h =
    elim (chosen (first p ts) (Some (tail ts)) None (Some rest) h) [
      | inl g ↦ let e : tail ts ≡ rest = cc g.1 in (g.0, e)
      | inr g ↦ absurd (cc)
    ]

pub mark_passed_is : (character : List ℕ) (ts rest : Tokens) → passed (is_mark character) ts ≡ Some rest → IsOne Punct character ts rest
mark_passed_is character ts rest h =
    let f = passed_first (is_mark character) ts rest h in subst (IsOne Punct character ts) f.1 (mark_one character ts f.0)

pub opener_passed_is : (d : Delim) (ts rest : Tokens) → InText ts → passed (opens d) ts ≡ Some rest → IsOne (Opener d) (opening d ∷ []) ts rest
opener_passed_is d ts rest t h =
    let f = passed_first (opens d) ts rest h in subst (IsOne (Opener d) (opening d ∷ []) ts) f.1 (opens_one d ts t f.0)

pub closer_passed_is : (d : Delim) (ts rest : Tokens) → InText ts → passed (closes d) ts ≡ Some rest → IsOne (Closer d) (closing d ∷ []) ts rest
closer_passed_is d ts rest t h =
    let f = passed_first (closes d) ts rest h in subst (IsOne (Closer d) (closing d ∷ []) ts) f.1 (closes_one d ts t f.0)

-- ---- one token

-- the token at the beginning, with the kind and text that it has written out
pub one_front : (kind : Kind) (text : List ℕ) (ts rest : Tokens) → IsOne kind text ts rest
    → (t : Token) × (ts ≡ record t { kind = kind; text = text } ∷ rest)
one_front kind text [] rest h = absurd h
one_front kind text (t ∷ ts) rest h = (
  t,
  ap (λ (us : Tokens). t ∷ us) h.2 ∙ ap (λ (k : Kind). record t { kind = k } ∷ rest) h.0
      ∙ ap (λ (w : List ℕ). record t { kind = kind; text = w } ∷ rest) h.1,
)

pub one_shorter : (kind : Kind) (text : List ℕ) (ts rest : Tokens) → IsOne kind text ts rest → length rest < length ts
one_shorter kind text [] rest h = absurd h
one_shorter kind text (t ∷ ts) rest h = omega (arith, ap length h.2)

-- what a test of kinds says of the first token
pub one_test : (p : Kind → Bool) (kind : Kind) (text : List ℕ) (ts rest : Tokens) → IsOne kind text ts rest → first (λ t. p t.kind) ts ≡ p kind
one_test p kind text [] rest h = absurd h
one_test p kind text (t ∷ ts) rest h = ap p h.0

same_itself : (d : Delim) → same_delim d d ≡ true
same_itself Paren = refl
same_itself Bracket = refl
same_itself Brace = refl

pub mark_passed : (character : List ℕ) (ts rest : Tokens) → IsOne Punct character ts rest → passed (is_mark character) ts ≡ Some rest
mark_passed character ts rest o =
    rw ((one_front Punct character ts rest o).1, bytes_self character) refl

pub opener_passed : (d : Delim) (ts rest : Tokens) → IsOne (Opener d) (opening d ∷ []) ts rest → passed (opens d) ts ≡ Some rest
opener_passed d ts rest o = rw ((one_front (Opener d) (opening d ∷ []) ts rest o).1, same_itself d) refl

pub closer_passed : (d : Delim) (ts rest : Tokens) → IsOne (Closer d) (closing d ∷ []) ts rest → passed (closes d) ts ≡ Some rest
closer_passed d ts rest o = rw ((one_front (Closer d) (closing d ∷ []) ts rest o).1, same_itself d) refl

-- a closing delimiter comes next
pub closer_first : (d : Delim) (ts rest : Tokens) → IsOne (Closer d) (closing d ∷ []) ts rest → (first (closes d) ts ≡ true) × (tail ts ≡ rest)
closer_first d ts rest o = let f = (one_front (Closer d) (closing d ∷ []) ts rest o).1 in (rw (f, same_itself d) refl, rw f refl)

-- ---- operators

no_operator : (t : Token) (ts : Tokens) → is_punct t.kind ≡ false → op_at (t ∷ ts) ≡ None
unfolding op_at
no_operator t ts h = at t.kind h
  where
    at : (k : Kind) → is_punct k ≡ false → op_at (record t { kind = k } ∷ ts) ≡ None
    at Punct h = absurd (cc)
    at _ h = refl

pub no_op : (op : List ℕ) (t : Token) (ts : Tokens) → is_punct t.kind ≡ false → is_op op (t ∷ ts) ≡ false
no_op op t ts h = ap (is_op_of op) (no_operator t ts h)

-- An operator begins with punctuation.
pub op_front : (op : List ℕ) (ts : Tokens) → is_op op ts ≡ true → (t : Token) × (us : Tokens) × (ts ≡ record t { kind = Punct } ∷ us)
unfolding op_at
op_front op [] h = absurd (cc)
op_front op (t ∷ ts) h = elim (cases_Bool (is_punct t.kind)) [
  | inl e ↦ (t, ts, ap (λ (k : Kind). record t { kind = k } ∷ ts) (punct_is t.kind e))
  | inr e ↦ let g = no_op op t ts e in absurd (cc)
]

other_of : (op other : List ℕ) → bytes_eq op other ≡ false → (o : Option (List ℕ)) → is_op_of op o ≡ true → is_op_of other o ≡ false
other_of op other differ None h = refl
other_of op other differ (Some x) h =
    false_from_ne_true (bytes_eq other x) (λ g.
    let a : op ≡ x = (bytes_eq-Decides op x).0 h in
    let b : other ≡ x = (bytes_eq-Decides other x).0 g in
    let e : bytes_eq op other ≡ true = (bytes_eq-Decides op other).1 (a ∙ sym b) in
    absurd (cc))

-- One operator stands at a place.
pub other_op : (op other : List ℕ) → bytes_eq op other ≡ false → (ts : Tokens) → is_op op ts ≡ true → is_op other ts ≡ false
other_op op other differ ts h = other_of op other differ (op_at ts) h

pub one_no_op : (op : List ℕ) (kind : Kind) (text : List ℕ) (ts rest : Tokens) → is_punct kind ≡ false → IsOne kind text ts rest → is_op op ts ≡ false
one_no_op op kind text ts rest h o =
    let g = one_front kind text ts rest o in rw g.1 (no_op op (record g.0 { kind = kind; text = text }) rest h)

pub comma_no_colons : (ts rest : Tokens) → IsOne Punct (codes ",") ts rest → is_op (codes "::") ts ≡ false
unfolding op_at
comma_no_colons ts rest o = rw (one_front Punct (codes ",") ts rest o).1 refl

pub semicolon_no_colons : (ts rest : Tokens) → IsOne Punct (codes ";") ts rest → is_op (codes "::") ts ≡ false
unfolding op_at
semicolon_no_colons ts rest o = rw (one_front Punct (codes ";") ts rest o).1 refl

pub op_test : (p : Kind → Bool) (op : List ℕ) (ts : Tokens) → is_op op ts ≡ true → first (λ t. p t.kind) ts ≡ p Punct
op_test p op ts h = rw (op_front op ts h).2 refl

pub op_shorter : (c : ℕ) (cs : List ℕ) (ts rest : Tokens) → IsOperator (c ∷ cs) ts rest → length rest < length ts
op_shorter c cs ts rest o =
    let g = op_front (c ∷ cs) ts o.0 in
    let l : length ts ≡ suc (length g.1) = ap length g.2 in
    omega (arith, length-drop (length (c ∷ cs)) ts, ap length o.1)

abbrev is_long : List ℕ → Bool
is_long (a ∷ b ∷ cs) = true
is_long _ = false

no_long : (c : ℕ) (op : List ℕ) → is_long op ≡ true → bytes_eq (c ∷ []) op ≡ false
no_long c [] h = absurd (cc)
no_long c (a ∷ []) h = absurd (cc)
no_long c (a ∷ b ∷ cs) h = false_from_ne_true (bytes_eq (c ∷ []) (a ∷ b ∷ cs)) (λ e. let f = bytes_same (c ∷ []) (a ∷ b ∷ cs) e in absurd (cc))

no_first : (c : ℕ) (ops : List (List ℕ)) (ts : Tokens) → list_all is_long ops ≡ true → is_op_of (c ∷ []) (first_op ops ts) ≡ false
no_first c [] ts h = refl
no_first c (op ∷ ops) ts h =
    let a = and_parts (is_long op) (list_all is_long ops) h in by (begins_op op ts) (no_long c op a.0) (no_first c ops ts a.1)
  where
    by : (b : Bool) → bytes_eq (c ∷ []) op ≡ false → is_op_of (c ∷ []) (first_op ops ts) ≡ false
        → is_op_of (c ∷ []) (cond b (Some op) (first_op ops ts)) ≡ false
    by true n m = n
    by false n m = m

-- An operator of one character is a token of this text.
pub lone_text : (c : ℕ) (t : Token) (ts : Tokens) → is_op (c ∷ []) (t ∷ ts) ≡ true → t.text ≡ c ∷ []
unfolding op_at
lone_text c t ts h = by (first_op operators (t ∷ ts)) (no_first c operators (t ∷ ts) refl) h
  where
    lone : (b : Bool) → is_op_of (c ∷ []) (cond b (Some t.text) None) ≡ true → t.text ≡ c ∷ []
    lone true h = sym (bytes_same (c ∷ []) t.text h)
    lone false h = absurd (cc)

    by : (o : Option (List ℕ)) → is_op_of (c ∷ []) o ≡ false → is_op_of (c ∷ []) (or_lone o (t ∷ ts)) ≡ true → t.text ≡ c ∷ []
    by None n h = lone (is_punct t.kind) h
    by (Some op) n h = absurd (cc)

pub first_there : (ops : List (List ℕ)) (ts : Tokens) (op : List ℕ) → first_op ops ts ≡ Some op → begins_op op ts ≡ true
first_there [] ts op h = absurd (cc)
first_there (o ∷ ops) ts op h = elim (chosen (begins_op o ts) (Some o) (first_op ops ts) (Some op) h) [
  | inl g ↦ let e : o ≡ op = cc g.1 in subst (λ z. begins_op z ts ≡ true) e g.0
  | inr g ↦ first_there ops ts op g.1
]

-- The first token of an operator begins with its first character.
pub op_text : (c : ℕ) (cs : List ℕ) (t : Token) (ts : Tokens) → is_op (c ∷ cs) (t ∷ ts) ≡ true → (xs : List ℕ) × (t.text ≡ c ∷ xs)
unfolding op_at
op_text c cs t ts h = by (first_op operators (t ∷ ts)) refl h
  where
    lone : (b : Bool) → is_op_of (c ∷ cs) (cond b (Some t.text) None) ≡ true → (xs : List ℕ) × (t.text ≡ c ∷ xs)
    lone true h = (cs, sym (bytes_same (c ∷ cs) t.text h))
    lone false h = absurd (cc)

    by : (o : Option (List ℕ)) → first_op operators (t ∷ ts) ≡ o → is_op_of (c ∷ cs) (or_lone o (t ∷ ts)) ≡ true → (xs : List ℕ) × (t.text ≡ c ∷ xs)
    by None e h = lone (is_punct t.kind) h
    by (Some op) e h =
        let same = bytes_same (c ∷ cs) op h in
        let b = subst (λ z. begins_op z (t ∷ ts) ≡ true) (sym same) (first_there operators (t ∷ ts) op e) in
        ([], bytes_same t.text (c ∷ []) (and_parts (is_punct t.kind) _ (and_parts (is_punct t.kind && bytes_eq t.text (c ∷ [])) _ b).0).1)
