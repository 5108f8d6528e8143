-- What an expression begins with is told by the first tokens, and tells what doesn't stand there.
use Rattle.std.proofs.Common.{◌≡◌, ℕ, Bool, true, false, not, ◌&&◌, ◌||◌, List, [], ◌∷◌, codes, Option, Some, None, is_some, if◌then◌else◌, inl, inr, refl, sym, ap, subst, ◌∙◌}
use Rattle.std.specs.Prelude.{◌==◌}
use Rattle.std.specs.Str.{bytes_eq}
use Rattle.std.proofs.lemmas.Bool.{cases_Bool, false_from_ne_true}
use Rattle.lay_piece.specs.Word.{class_of}
use Rattle.lay_piece.specs.declared.kind.Delim.{Delim}
use Rattle.lay_piece.specs.declared.kind.Delim.TheVariants.{Paren, Bracket, Brace}
use Rattle.lay_piece.specs.declared.kind.Kind.{Kind}
use Rattle.lay_piece.specs.declared.kind.Kind.TheVariants.{Ident, RawIdent, Lifetime, Doc, Underscore, Punct, Opener, Closer}
use Rattle.lay_token.specs.Lexes.{is_punct}
use Rattle.lay_token.specs.Operators.{is_op}
use Rattle.lay_token.proofs.Deciding.{bytes_same}
use Rattle.lay_form.specs.Form.{Operator}
use Rattle.lay_form.specs.Spelled.{IsOne, IsOperator, AreBits}
use Rattle.lay_node.specs.Ahead.{Tokens, first, tail, is_keyword, is_lifetime, is_lifetime_kind, is_mark, is_closer, closes, ends_items}
use Rattle.lay_node.specs.Begins.{OfPath, OfNever, OfPointer, OfReference, OfImpl, OfDyn, OfFunc, begins_func, lead_of_word, lead_of_punct, lead_by, lead_at}
use Rattle.lay_node.specs.Follow.{begins_dots}
use Rattle.lay_node.specs.Words.{is_path_class, is_literal}
use Rattle.lay_node.specs.nodes.Patterns.{dots}
use Rattle.lay_node.specs.reader.Attr.{begins_attr, is_doc, is_doc_kind}
use Rattle.lay_node.proofs.Fronts.{keyword_one, mark_one, other_op}
use Rattle.lay_node.proofs.Parts.{bit_alone}
use Rattle.lay_node.proofs.reader.TypesFronts.{no_other_op, op_first}
use Rattle.lay_code.specs.Operands.{ExprLead, ByLiteral, ByPath, ByLabel, ByBrace, ByPrefix, ByRange, expr_lead_of_word, expr_lead_of_punct, expr_lead_by, expr_lead_at, is_operand_lead, begins_operand}
use Rattle.lay_code.specs.Operators.{amp_by, prefix_by, prefix}
use Rattle.lay_code.specs.declared.operators.Prefix.TheVariants as before
use Rattle.lay_code.specs.nodes.Exprs.{is_brace_lead, is_label_lead, is_prefix_lead}

-- ---- the lead that the first tokens tell

pub one_lead : (k : Kind) (text : List ℕ) (ts rest : Tokens) → IsOne k text ts rest → expr_lead_at ts ≡ expr_lead_by k text ts
unfolding expr_lead_at
one_lead k text [] rest s = absurd s
one_lead k text (t ∷ ts) rest s = ap (λ (j : Kind). expr_lead_by j t.text (t ∷ ts)) s.0 ∙ ap (λ (w : List ℕ). expr_lead_by k w (t ∷ ts)) s.1

-- where the kind and the text alone tell it
pub lone_lead : (k : Kind) (text : List ℕ) (l : ExprLead) → ((us : Tokens) → expr_lead_by k text us ≡ Some l) → (ts rest : Tokens)
    → IsOne k text ts rest
    → expr_lead_at ts ≡ Some l
lone_lead k text l is ts rest s = one_lead k text ts rest s ∙ is ts

literal_by : (k : Kind) (text : List ℕ) (ts : Tokens) → is_literal k text ≡ true → expr_lead_by k text ts ≡ Some ByLiteral
literal_by Ident text ts h = elim (cases_Bool (bytes_eq text (codes "true"))) [
  | inl a ↦ rw (bytes_same text (codes "true") a) refl
  | inr a ↦ let b : bytes_eq text (codes "false") ≡ true = sym (ap (λ c. c || bytes_eq text (codes "false")) a) ∙ h in
      rw (bytes_same text (codes "false") b) refl
]
literal_by RawIdent text ts h = absurd (cc)
literal_by Underscore text ts h = absurd (cc)
literal_by Lifetime text ts h = absurd (cc)
literal_by Punct text ts h = absurd (cc)
literal_by (Opener d) text ts h = absurd (cc)
literal_by (Closer d) text ts h = absurd (cc)
literal_by (Doc inner block) text ts h = absurd (cc)
literal_by _ text ts h = refl

pub literal_lead : (k : Kind) (text : List ℕ) (ts rest : Tokens) → is_literal k text ≡ true → IsOne k text ts rest
    → expr_lead_at ts ≡ Some ByLiteral
literal_lead k text ts rest g s = one_lead k text ts rest s ∙ literal_by k text ts g

colons_lead : (ts : Tokens) → is_op (codes "::") ts ≡ true → expr_lead_at ts ≡ Some ByPath
unfolding expr_lead_at
colons_lead ts h =
    let f = op_first 58 (codes ":") ts h in
    let us : Tokens = record f.0 { kind = Punct; text = 58 ∷ f.2 } ∷ f.1 in
    let is : is_op (codes "::") us ≡ true = subst (λ vs. is_op (codes "::") vs ≡ true) f.3 h in
    let g : expr_lead_at us ≡ Some ByPath = rw is refl in
    subst (λ vs. expr_lead_at vs ≡ Some ByPath) (sym f.3) g

-- What begins a type that is a path begins a path.
word_path : (text : List ℕ) → lead_of_word text ≡ Some OfPath → is_path_class (class_of text) ≡ true
word_path text h = elim (cases_Bool (is_path_class (class_of text))) [
  | inl e ↦ e
  | inr e ↦ absurd (by (bytes_eq text (codes "impl")) (bytes_eq text (codes "dyn")) (begins_func text) (sym (rw e refl) ∙ h))
]
  where
    by : (a b c : Bool) → (if a then Some OfImpl else (if b then Some OfDyn else (if c then Some OfFunc else None))) ≡ Some OfPath → ⊥
    by true b c e = cc
    by false true c e = cc
    by false false true e = cc
    by false false false e = cc

punct_path : (text : List ℕ) (ts : Tokens) → is_op (codes "::") ts ≡ false → lead_of_punct text ts ≡ Some OfPath
    → expr_lead_of_punct text ts ≡ Some ByPath
punct_path text ts n h = elim (cases_Bool (bytes_eq text (codes "<"))) [
  | inl e ↦ rw (bytes_same text (codes "<") e) refl
  | inr e ↦ absurd (by (bytes_eq text (codes "!")) (bytes_eq text (codes "*")) (bytes_eq text (codes "&")) (sym (rw (e, n) refl) ∙ h))
]
  where
    by : (a b c : Bool) → (if a then Some OfNever else
        (if b then Some OfPointer else (if c then Some OfReference else None))) ≡ Some OfPath → ⊥
    by true b c e = cc
    by false true c e = cc
    by false false true e = cc
    by false false false e = cc

path_by : (k : Kind) (text : List ℕ) (ts : Tokens) → is_op (codes "::") ts ≡ false → lead_by k text ts ≡ Some OfPath
    → expr_lead_by k text ts ≡ Some ByPath
path_by Ident text ts n h = rw (word_path text h) refl
path_by RawIdent text ts n h = refl
path_by Punct text ts n h = punct_path text ts n h
path_by (Opener Paren) text ts n h = absurd (cc)
path_by (Opener Bracket) text ts n h = absurd (cc)
path_by _ text ts n h = absurd (cc)

pub path_lead : (ts : Tokens) → lead_at ts ≡ Some OfPath → expr_lead_at ts ≡ Some ByPath
unfolding lead_at expr_lead_at
path_lead ts h = elim (cases_Bool (is_op (codes "::") ts)) [
  | inl e ↦ colons_lead ts e
  | inr e ↦ by ts e h
]
  where
    by : (us : Tokens) → is_op (codes "::") us ≡ false → lead_at us ≡ Some OfPath → expr_lead_at us ≡ Some ByPath
    by [] n g = absurd (cc)
    by (u ∷ us) n g = path_by u.kind u.text (u ∷ us) n g

-- `..` or `..=`
pub dots_lead : (cs : List ℕ) → bytes_eq (46 ∷ cs) (codes "::") ≡ false → (ts : Tokens) → is_op (46 ∷ cs) ts ≡ true → begins_dots ts ≡ true
    → expr_lead_at ts ≡ Some ByRange
unfolding expr_lead_at
dots_lead cs other ts h d =
    let f = op_first 46 cs ts h in
    let us : Tokens = record f.0 { kind = Punct; text = 46 ∷ f.2 } ∷ f.1 in
    let n : is_op (codes "::") us ≡ false = subst (λ vs. is_op (codes "::") vs ≡ false) f.3 (other_op (46 ∷ cs) (codes "::") other ts h) in
    let is : begins_dots us ≡ true = subst (λ vs. begins_dots vs ≡ true) f.3 d in
    let g : expr_lead_at us ≡ Some ByRange = rw (n, is) refl in
    subst (λ vs. expr_lead_at vs ≡ Some ByRange) (sym f.3) g

pub range_lead : (inclusive : Bool) (ts rest : Tokens) → AreBits (dots inclusive) ts rest → expr_lead_at ts ≡ Some ByRange
range_lead true ts rest s =
    let o : IsOperator (codes "..=") ts rest = bit_alone (Operator (codes "..=")) ts rest s in
    let n : is_op (codes "..") ts ≡ false = other_op (codes "..=") (codes "..") refl ts o.0 in
    dots_lead (codes ".=") refl ts o.0 (rw (n, o.0) refl)
range_lead false ts rest s =
    let o : IsOperator (codes "..") ts rest = bit_alone (Operator (codes "..")) ts rest s in dots_lead (codes ".") refl ts o.0 (rw o.0 refl)

-- ---- what it tells

-- the first token isn't one that begins no expression
no_lead : (b : Bool) (ts : Tokens) (l : ExprLead) → expr_lead_at ts ≡ Some l → (b ≡ true → expr_lead_at ts ≡ None) → b ≡ false
no_lead true ts l h f = let e = f refl in absurd (cc)
no_lead false ts l h f = refl

pub expr_no_closer : (d : Delim) (ts : Tokens) (l : ExprLead) → expr_lead_at ts ≡ Some l → first (closes d) ts ≡ false
unfolding expr_lead_at
expr_no_closer d [] l h = refl
expr_no_closer d (t ∷ ts) l h = no_lead (is_closer d t.kind) (t ∷ ts) l h (λ e. none t.kind e)
  where
    none : (k : Kind) → is_closer d k ≡ true → expr_lead_by k t.text (t ∷ ts) ≡ None
    none (Closer e) g = refl
    none _ g = absurd (cc)

-- a character that begins no expression
mark_lead : (c : ℕ) → (58 == c) ≡ false → (46 == c) ≡ false
    → ((us : Tokens) → is_op (codes "::") us ≡ false → begins_dots us ≡ false → expr_lead_of_punct (c ∷ []) us ≡ None)
    → (ts rest : Tokens) → IsOne Punct (c ∷ []) ts rest → expr_lead_at ts ≡ None
mark_lead c colon point none ts rest s =
    let n = no_other_op 58 (codes ":") c ts rest colon s in
    let a = no_other_op 46 (codes ".") c ts rest point s in
    let b = no_other_op 46 (codes ".=") c ts rest point s in
    let d : begins_dots ts ≡ false = rw (a, b) refl in
    one_lead Punct (c ∷ []) ts rest s ∙ none ts n d

pub comma_lead : (ts rest : Tokens) → IsOne Punct (codes ",") ts rest → expr_lead_at ts ≡ None
comma_lead = mark_lead 44 refl refl (λ us n d. rw (n, d) refl)

pub semicolon_lead : (ts rest : Tokens) → IsOne Punct (codes ";") ts rest → expr_lead_at ts ≡ None
semicolon_lead = mark_lead 59 refl refl (λ us n d. rw (n, d) refl)

pub expr_no_comma : (ts : Tokens) (l : ExprLead) → expr_lead_at ts ≡ Some l → first (is_mark (codes ",")) ts ≡ false
expr_no_comma ts l h = no_lead (first (is_mark (codes ",")) ts) ts l h (λ e. comma_lead ts (tail ts) (mark_one (codes ",") ts e))

pub expr_no_semicolon : (ts : Tokens) (l : ExprLead) → expr_lead_at ts ≡ Some l → first (is_mark (codes ";")) ts ≡ false
expr_no_semicolon ts l h = no_lead (first (is_mark (codes ";")) ts) ts l h (λ e. semicolon_lead ts (tail ts) (mark_one (codes ";") ts e))

-- Nothing begins an attribute.
hash_lead : (ts rest : Tokens) → IsOne Punct (codes "#") ts rest → expr_lead_at ts ≡ None
hash_lead = mark_lead 35 refl refl (λ us n d. rw (n, d) refl)

expr_no_doc : (inner : Bool) (ts : Tokens) (l : ExprLead) → expr_lead_at ts ≡ Some l → first (is_doc inner) ts ≡ false
unfolding expr_lead_at
expr_no_doc inner [] l h = refl
expr_no_doc inner (t ∷ ts) l h = no_lead (is_doc_kind inner t.kind) (t ∷ ts) l h (λ e. none t.kind e)
  where
    none : (k : Kind) → is_doc_kind inner k ≡ true → expr_lead_by k t.text (t ∷ ts) ≡ None
    none (Doc flag block) g = refl
    none _ g = absurd (cc)

pub expr_no_attr : (inner : Bool) (ts : Tokens) (l : ExprLead) → expr_lead_at ts ≡ Some l → begins_attr inner ts ≡ false
expr_no_attr inner ts l h =
    let hash = no_lead (first (is_mark (codes "#")) ts) ts l h (λ e. hash_lead ts (tail ts) (mark_one (codes "#") ts e)) in
    by inner (expr_no_doc inner ts l h) hash
  where
    by : (inner : Bool) → first (is_doc inner) ts ≡ false → first (is_mark (codes "#")) ts ≡ false → begins_attr inner ts ≡ false
    by true d m = rw (d, m) refl
    by false d m = rw (d, m) refl

-- Tokens are there, and no `}`.
pub expr_more : (ts : Tokens) (l : ExprLead) → expr_lead_at ts ≡ Some l → ends_items ts ≡ false
unfolding expr_lead_at
expr_more [] l h = absurd (cc)
expr_more (t ∷ ts) l h = expr_no_closer Brace (t ∷ ts) l h

-- a word that begins no expression, whatever follows it
pub expr_no_keyword : (word : List ℕ) → ((us : Tokens) → expr_lead_of_word word us ≡ None) → (ts : Tokens) (l : ExprLead)
    → expr_lead_at ts ≡ Some l
    → first (is_keyword word) ts ≡ false
expr_no_keyword word none ts l h =
    no_lead (first (is_keyword word) ts) ts l h (λ e. one_lead Ident word ts (tail ts) (keyword_one word ts e) ∙ none (tail ts))

-- It begins an operand, where no `{` does or none may.
pub lead_operand : (no_struct : Bool) (ts : Tokens) (l : ExprLead) → expr_lead_at ts ≡ Some l → not (no_struct && is_brace_lead l) ≡ true
    → begins_operand no_struct ts ≡ true
lead_operand no_struct ts l h g = rw h (by no_struct l g)
  where
    by : (b : Bool) (l : ExprLead) → not (b && is_brace_lead l) ≡ true → is_operand_lead b (Some l) ≡ true
    by true ByBrace e = absurd (cc)
    by false ByBrace e = refl
    by b _ e = refl

-- A lifetime begins what has a label.
pub lead_no_lifetime : (ts : Tokens) (l : ExprLead) → expr_lead_at ts ≡ Some l → not (is_label_lead l) ≡ true → first is_lifetime ts ≡ false
unfolding expr_lead_at
lead_no_lifetime [] l h g = refl
lead_no_lifetime (t ∷ ts) l h g = by t.kind h
  where
    other : (l : ExprLead) → Some ByLabel ≡ Some l → not (is_label_lead l) ≡ true → ⊥
    other l e f = subst (λ (o : Option ExprLead). labelled o ≡ true → ⊥) e (λ z. cc) f
      where
        labelled : Option ExprLead → Bool
        labelled None = true
        labelled (Some m) = not (is_label_lead m)

    by : (k : Kind) → expr_lead_by k t.text (t ∷ ts) ≡ Some l → is_lifetime_kind k ≡ false
    by Lifetime e = absurd (other l e g)
    by _ e = refl

-- An operator before its operand begins a unary expression.
pub prefix_lead : (ts : Tokens) → is_some (prefix ts) ≡ true → expr_lead_at ts ≡ Some ByPrefix
unfolding prefix expr_lead_at
prefix_lead [] h = absurd (cc)
prefix_lead (t ∷ ts) h = by t.kind h
  where
    text_lead : (a b c d : Bool) (us : Tokens)
        → is_some (if a then Some before.Neg else
        (if b then Some before.Deref else (if c then Some before.Bang else (if d then Some (amp_by us) else None)))) ≡ true
        → (a || (b || (c || (d || false)))) ≡ true
    text_lead true b c d us e = refl
    text_lead false true c d us e = refl
    text_lead false false true d us e = refl
    text_lead false false false true us e = refl
    text_lead false false false false us e = absurd (cc)

    by : (k : Kind) → is_some (if is_punct k then prefix_by t.text ts else None) ≡ true → expr_lead_by k t.text (t ∷ ts) ≡ Some ByPrefix
    by Punct e =
        rw (text_lead (bytes_eq t.text (codes "-")) (bytes_eq t.text (codes "*")) (bytes_eq t.text (codes "!"))
        (bytes_eq t.text (codes "&")) ts e) refl
    by _ e = absurd (cc)

pub lead_no_prefix : (ts : Tokens) (l : ExprLead) → expr_lead_at ts ≡ Some l → not (is_prefix_lead l) ≡ true → is_some (prefix ts) ≡ false
lead_no_prefix ts l h g = false_from_ne_true (is_some (prefix ts)) (λ e. other l (sym (prefix_lead ts e) ∙ h) g)
  where
    other : (l : ExprLead) → Some ByPrefix ≡ Some l → not (is_prefix_lead l) ≡ true → ⊥
    other l e f = subst (λ (o : Option ExprLead). led o ≡ true → ⊥) e (λ z. cc) f
      where
        led : Option ExprLead → Bool
        led None = true
        led (Some m) = not (is_prefix_lead m)
