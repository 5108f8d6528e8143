-- What types, paths and bounds begin with, and what follows them: what the first tokens tell, and tokens that begin
-- nothing that a type may refuse.
use Rattle.std.proofs.Common.{◌≡◌, ℕ, Bool, true, false, not, ◌&&◌, ◌||◌, cond, List, [], ◌∷◌, length, codes, Option, Some, None, inl, inr, refl, sym, ap, subst, ◌∙◌, arith, eq-eqb}
use Rattle.std.specs.Prelude.{◌==◌}
use Rattle.std.specs.List.{list_all}
use Rattle.std.specs.Str.{bytes_eq}
use Rattle.std.proofs.lemmas.Bool.{and_parts, and_from, cases_Bool, false_from_ne_true}
use Rattle.lay_piece.specs.Forms.{closing}
use Rattle.lay_piece.specs.Word.{class_of}
use Rattle.lay_piece.specs.declared.kind.Delim.{Delim}
use Rattle.lay_piece.specs.declared.kind.Delim.TheVariants.{Paren, Brace}
use Rattle.lay_piece.specs.declared.kind.Kind.{Kind}
use Rattle.lay_piece.specs.declared.kind.Kind.TheVariants.{Ident, RawIdent, Lifetime, Doc, Underscore, Punct, Opener, Closer}
use Rattle.lay_token.specs.Lexes.{is_punct}
use Rattle.lay_token.specs.Operators.{operators, begins_op, first_op, or_lone, op_at, is_op_of, is_op}
use Rattle.lay_token.specs.declared.token.Token.{Token}
use Rattle.lay_token.proofs.Deciding.{bytes_same}
use Rattle.lay_form.specs.Spelled.{IsOne}
use Rattle.lay_node.specs.Ahead.{Tokens, first, tail, is_keyword, is_lifetime, is_lifetime_kind, is_mark, is_opener, is_closer, opens, closes, opens_args}
use Rattle.lay_node.specs.Begins.{Lead, OfPath, OfFunc, lead_of_word, lead_of_punct, lead_by, lead_at, begins_bound, is_literal_token, begins_value, begins_span_end}
use Rattle.lay_node.specs.Follow.{Begin, OfRename, OfArgs, OfCodeArgs, OfArrow, OfColons, OfBang, begins_there, may_follow, begins_dots}
use Rattle.lay_node.specs.Words.{is_plain, is_path_word, is_literal}
use Rattle.lay_node.specs.reader.Attr.{is_doc_kind, begins_attr}
use Rattle.lay_node.specs.reader.Types.{begins_const, begins_given}
use Rattle.lay_node.specs.reader.Words.{given_name}
use Rattle.lay_node.proofs.Fronts.{keyword_one, mark_one, one_front, op_front, op_test, op_text, one_test, other_op, one_no_op, first_there}
use Rattle.lay_node.proofs.Parts.{word_kind}

-- ---- operators

-- An operator begins with the character that comes next.
pub no_other_op : (c : ℕ) (cs : List ℕ) (d : ℕ) (ts rest : Tokens) → (c == d) ≡ false → IsOne Punct (d ∷ []) ts rest → is_op (c ∷ cs) ts ≡ false
no_other_op c cs d ts rest h s = false_from_ne_true (is_op (c ∷ cs) ts) (λ e.
    let f = one_front Punct (d ∷ []) ts rest s in
    let t : Token = record f.0 { kind = Punct; text = d ∷ [] } in
    let o = op_text c cs t rest (subst (λ us. is_op (c ∷ cs) us ≡ true) f.1 e) in
    let same : d ≡ c = ap (front 0) o.1 in
    let k = eq-eqb c d (sym same) in absurd (cc))
  where
    front : ℕ → List ℕ → ℕ
    front n [] = n
    front n (x ∷ xs) = x

-- The first token of an operator, written out.
pub op_first : (c : ℕ) (cs : List ℕ) (ts : Tokens) → is_op (c ∷ cs) ts ≡ true
    → (t : Token) × (us : Tokens) × (more : List ℕ) × (ts ≡ record t { kind = Punct; text = c ∷ more } ∷ us)
op_first c cs ts h =
    let f = op_front (c ∷ cs) ts h in
    let t : Token = record f.0 { kind = Punct } in
    let o = op_text c cs t f.1 (subst (λ us. is_op (c ∷ cs) us ≡ true) f.2 h) in
    (f.0, f.1, o.0, f.2 ∙ ap (λ (w : List ℕ). record t { text = w } ∷ f.1) o.1)

-- What is left of an operator stands after its first character.
pub op_behind : (c d : ℕ) (cs : List ℕ) (ts rest : Tokens) → IsOne Punct (c ∷ []) ts rest → is_op (c ∷ d ∷ cs) ts ≡ true → begins_op (d ∷ cs) rest ≡ true
unfolding op_at
op_behind c d cs [] rest s h = absurd s
op_behind c d cs (t ∷ us) rest s h = by (first_op operators (t ∷ us)) refl h
  where
    lone : (b : Bool) → is_op_of (c ∷ d ∷ cs) (cond b (Some t.text) None) ≡ true → t.text ≡ c ∷ d ∷ cs
    lone true e = sym (bytes_same (c ∷ d ∷ cs) t.text e)
    lone false e = absurd (cc)

    by : (o : Option (List ℕ)) → first_op operators (t ∷ us) ≡ o → is_op_of (c ∷ d ∷ cs) (or_lone o (t ∷ us)) ≡ true → begins_op (d ∷ cs) rest ≡ true
    by None e g = let k = sym s.1 ∙ lone (is_punct t.kind) g in let n = ap length k in absurd (omega (arith, n))
    by (Some op) e g =
        let same = bytes_same (c ∷ d ∷ cs) op g in
        let b = subst (λ z. begins_op z (t ∷ us) ≡ true) (sym same) (first_there operators (t ∷ us) op e) in
        let p = and_parts (is_punct t.kind && bytes_eq t.text (c ∷ [])) (t.joint && begins_op (d ∷ cs) us) b in
        subst (λ vs. begins_op (d ∷ cs) vs ≡ true) s.2 (and_parts t.joint (begins_op (d ∷ cs) us) p.1).1

pub no_begins : (c : ℕ) (cs : List ℕ) (ts : Tokens) → first (is_mark (c ∷ [])) ts ≡ false → begins_op (c ∷ cs) ts ≡ false
no_begins c cs [] h = refl
no_begins c cs (t ∷ ts) h = rw h refl

opens_by : (t : Token) (inside : Tokens) → let ts : Tokens = record t { kind = Punct; text = codes "<" } ∷ inside in
    opens_args ts ≡ not (is_op (codes "<=") ts || is_op (codes "<<=") ts)
unfolding op_at
opens_by t inside = by (begins_op (codes "<<=") ts) (begins_op (codes "<=") ts) (begins_op (codes "<<") ts) (begins_op (codes "<-") ts)
  where
    ts : Tokens
    ts = record t { kind = Punct; text = codes "<" } ∷ inside

    found : Bool → Bool → Bool → Bool → Option (List ℕ)
    found a b c d = or_lone (cond a (Some (codes "<<=")) (cond b (Some (codes "<=")) (cond c (Some (codes "<<")) (cond d (Some (codes "<-")) None)))) ts

    by : (a b c d : Bool) → (is_op_of (codes "<") (found a b c d) || (is_op_of (codes "<<") (found a b c d) || is_op_of (codes "<-") (found a b c d)))
        ≡ not (is_op_of (codes "<=") (found a b c d) || is_op_of (codes "<<=") (found a b c d))
    by true b c d = refl
    by false true c d = refl
    by false false true d = refl
    by false false false true = refl
    by false false false false = refl

-- After a `<`, generic arguments are opened where it is the first character of neither `<=` nor `<<=`.
pub opens_args_is : (ts inside : Tokens) → IsOne Punct (codes "<") ts inside → opens_args ts ≡ not (is_op (codes "<=") ts || is_op (codes "<<=") ts)
opens_args_is ts inside s =
    let f = one_front Punct (codes "<") ts inside s in
    subst (λ vs. opens_args vs ≡ not (is_op (codes "<=") vs || is_op (codes "<<=") vs)) (sym f.1) (opens_by f.0 inside)

-- What follows it tells.
pub opens_there : (ts inside : Tokens) → IsOne Punct (codes "<") ts inside → first (is_mark (codes "=")) inside ≡ false → begins_op (codes "<=") inside ≡ false
    → opens_args ts ≡ true
opens_there ts inside s equals less =
    let a : is_op (codes "<=") ts ≡ false = false_from_ne_true (is_op (codes "<=") ts) (λ e.
    let b = op_behind 60 61 [] ts inside s e in let n = no_begins 61 [] inside equals in absurd (cc)) in
    let c : is_op (codes "<<=") ts ≡ false = false_from_ne_true (is_op (codes "<<=") ts) (λ e.
    let b = op_behind 60 60 (codes "=") ts inside s e in absurd (cc)) in
    opens_args_is ts inside s ∙ (rw (a, c) refl)

-- ---- what begins a type

-- the word or the mark at the beginning decides
keyword_lead : (word : List ℕ) (ts : Tokens) → first (is_keyword word) ts ≡ true → lead_at ts ≡ lead_of_word word
unfolding lead_at
keyword_lead word ts h = rw (one_front Ident word ts (tail ts) (keyword_one word ts h)).1 refl

lead_no : (b : Bool) (ts : Tokens) (l : Lead) → lead_at ts ≡ Some l → (b ≡ true → lead_at ts ≡ None) → b ≡ false
lead_no true ts l h f = let e = f refl in absurd (cc)
lead_no false ts l h f = refl

pub lead_no_kind : (p : Kind → Bool) → ((k : Kind) (text : List ℕ) (us : Tokens) → p k ≡ true → lead_by k text us ≡ None)
    → (ts : Tokens) (l : Lead) → lead_at ts ≡ Some l → first (λ t. p t.kind) ts ≡ false
unfolding lead_at
lead_no_kind p none [] l h = refl
lead_no_kind p none (t ∷ ts) l h = lead_no (p t.kind) (t ∷ ts) l h (λ e. none t.kind t.text (t ∷ ts) e)

pub lead_no_closer : (d : Delim) (ts : Tokens) (l : Lead) → lead_at ts ≡ Some l → first (closes d) ts ≡ false
lead_no_closer d = lead_no_kind (is_closer d) none
  where
    none : (k : Kind) (text : List ℕ) (us : Tokens) → is_closer d k ≡ true → lead_by k text us ≡ None
    none (Closer e) text us h = refl
    none _ text us h = absurd (cc)

pub lead_no_lifetime : (ts : Tokens) (l : Lead) → lead_at ts ≡ Some l → first is_lifetime ts ≡ false
lead_no_lifetime = lead_no_kind is_lifetime_kind none
  where
    none : (k : Kind) (text : List ℕ) (us : Tokens) → is_lifetime_kind k ≡ true → lead_by k text us ≡ None
    none Lifetime text us h = refl
    none _ text us h = absurd (cc)

lead_no_brace : (ts : Tokens) (l : Lead) → lead_at ts ≡ Some l → first (opens Brace) ts ≡ false
lead_no_brace = lead_no_kind (is_opener Brace) none
  where
    none : (k : Kind) (text : List ℕ) (us : Tokens) → is_opener Brace k ≡ true → lead_by k text us ≡ None
    none (Opener Brace) text us h = refl
    none _ text us h = absurd (cc)

lead_no_doc : (ts : Tokens) (l : Lead) → lead_at ts ≡ Some l → first (λ t. is_doc_kind false t.kind) ts ≡ false
lead_no_doc = lead_no_kind (is_doc_kind false) none
  where
    none : (k : Kind) (text : List ℕ) (us : Tokens) → is_doc_kind false k ≡ true → lead_by k text us ≡ None
    none (Doc inner block) text us h = refl
    none _ text us h = absurd (cc)

-- a character that begins no type
mark_lead : (c : ℕ) (ts : Tokens) → ((us : Tokens) → is_op (codes "::") us ≡ false → lead_by Punct (c ∷ []) us ≡ None) → (58 == c) ≡ false
    → first (is_mark (c ∷ [])) ts ≡ true → lead_at ts ≡ None
unfolding lead_at
mark_lead c ts none other h =
    let s = mark_one (c ∷ []) ts h in
    let f = one_front Punct (c ∷ []) ts (tail ts) s in
    let us : Tokens = record f.0 { kind = Punct; text = c ∷ [] } ∷ tail ts in
    let no : is_op (codes "::") us ≡ false = subst (λ vs. is_op (codes "::") vs ≡ false) f.1 (no_other_op 58 (codes ":") c ts (tail ts) other s) in
    let g : lead_at us ≡ None = none us no in
    subst (λ vs. lead_at vs ≡ None) (sym f.1) g

pub lead_no_mark : (c : ℕ) → ((us : Tokens) → is_op (codes "::") us ≡ false → lead_by Punct (c ∷ []) us ≡ None) → (58 == c) ≡ false
    → (ts : Tokens) (l : Lead) → lead_at ts ≡ Some l → first (is_mark (c ∷ [])) ts ≡ false
lead_no_mark c none other ts l h = lead_no (first (is_mark (c ∷ [])) ts) ts l h (mark_lead c ts none other)

pub lead_no_greater : (ts : Tokens) (l : Lead) → lead_at ts ≡ Some l → first (is_mark (codes ">")) ts ≡ false
lead_no_greater = lead_no_mark 62 (λ us n. rw n refl) refl

pub lead_no_equals : (ts : Tokens) (l : Lead) → lead_at ts ≡ Some l → first (is_mark (codes "=")) ts ≡ false
lead_no_equals = lead_no_mark 61 (λ us n. rw n refl) refl

pub lead_no_question : (ts : Tokens) (l : Lead) → lead_at ts ≡ Some l → first (is_mark (codes "?")) ts ≡ false
lead_no_question = lead_no_mark 63 (λ us n. rw n refl) refl

-- a word that begins no type
pub lead_no_keyword : (word : List ℕ) → lead_of_word word ≡ None → (ts : Tokens) (l : Lead) → lead_at ts ≡ Some l → first (is_keyword word) ts ≡ false
lead_no_keyword word none ts l h = lead_no (first (is_keyword word) ts) ts l h (λ e. keyword_lead word ts e ∙ none)

-- a word that begins another type
pub lead_other_keyword : (word : List ℕ) (other l : Lead) → lead_of_word word ≡ Some other → (Some other ≡ Some l → ⊥)
    → (ts : Tokens) → lead_at ts ≡ Some l → first (is_keyword word) ts ≡ false
lead_other_keyword word other l is differ ts h = false_from_ne_true (first (is_keyword word) ts) (λ e. differ (sym is ∙ sym (keyword_lead word ts e) ∙ h))

-- No type begins as a constant does.
pub lead_no_literal : (ts : Tokens) (l : Lead) → lead_at ts ≡ Some l → first is_literal_token ts ≡ false
unfolding lead_at
lead_no_literal [] l h = refl
lead_no_literal (t ∷ ts) l h = lead_no (is_literal t.kind t.text) (t ∷ ts) l h (λ e. none t.kind t.text e)
  where
    none : (k : Kind) (text : List ℕ) → is_literal k text ≡ true → lead_by k text (t ∷ ts) ≡ None
    none Ident text e = elim (cases_Bool (bytes_eq text (codes "true"))) [
      | inl a ↦ ap lead_of_word (bytes_same text (codes "true") a)
      | inr a ↦ let b : bytes_eq text (codes "false") ≡ true = sym (ap (λ c. c || bytes_eq text (codes "false")) a) ∙ e in
          ap lead_of_word (bytes_same text (codes "false") b)
    ]
    none RawIdent text e = absurd (cc)
    none Underscore text e = absurd (cc)
    none Punct text e = absurd (cc)
    none (Opener d) text e = absurd (cc)
    none _ text e = refl

pub lead_no_const : (ts : Tokens) (l : Lead) → lead_at ts ≡ Some l → begins_const ts ≡ false
lead_no_const ts l h = rw (lead_no_literal ts l h, lead_no_mark 45 (λ us n. rw n refl) refl ts l h, lead_no_brace ts l h) refl

pub lead_no_attr : (ts : Tokens) (l : Lead) → lead_at ts ≡ Some l → begins_attr false ts ≡ false
lead_no_attr ts l h = rw (lead_no_doc ts l h, lead_no_mark 35 (λ us n. rw n refl) refl ts l h) refl

-- an operator that begins no type
lead_no_op : (c : ℕ) (cs : List ℕ) → ((more : List ℕ) (us : Tokens) → is_op (codes "::") us ≡ false → lead_by Punct (c ∷ more) us ≡ None)
    → bytes_eq (c ∷ cs) (codes "::") ≡ false → (ts : Tokens) (l : Lead) → lead_at ts ≡ Some l → is_op (c ∷ cs) ts ≡ false
unfolding lead_at
lead_no_op c cs none other ts l h = lead_no (is_op (c ∷ cs) ts) ts l h (λ e.
    let f = op_first c cs ts e in
    let us : Tokens = record f.0 { kind = Punct; text = c ∷ f.2 } ∷ f.1 in
    let no : is_op (codes "::") us ≡ false = subst (λ vs. is_op (codes "::") vs ≡ false) f.3 (other_op (c ∷ cs) (codes "::") other ts e) in
    let g : lead_at us ≡ None = none f.2 us no in
    subst (λ vs. lead_at vs ≡ None) (sym f.3) g)

pub lead_no_dots : (ts : Tokens) (l : Lead) → lead_at ts ≡ Some l → is_op (codes "...") ts ≡ false
lead_no_dots = lead_no_op 46 (codes "..") (λ more us n. rw n refl) refl

pub lead_no_rest : (ts : Tokens) (l : Lead) → lead_at ts ≡ Some l → begins_dots ts ≡ false
lead_no_rest ts l h =
    let none : (more : List ℕ) (us : Tokens) → is_op (codes "::") us ≡ false → lead_by Punct (46 ∷ more) us ≡ None = λ more us n. rw n refl in
    rw (lead_no_op 46 (codes ".") none refl ts l h, lead_no_op 46 (codes ".=") none refl ts l h) refl

pub lead_no_bar : (ts : Tokens) (l : Lead) → lead_at ts ≡ Some l → is_op (codes "|") ts ≡ false
lead_no_bar = lead_no_op 124 [] (λ more us n. rw n refl) refl

pub lead_no_value : (ts : Tokens) (l : Lead) → lead_at ts ≡ Some l → begins_value ts ≡ false
lead_no_value ts l h = rw (lead_no_literal ts l h, lead_no_mark 45 (λ us n. rw n refl) refl ts l h) refl

-- A path begins neither a bound in parentheses nor one of its other signs.
pub path_lead_no_paren : (ts : Tokens) → lead_at ts ≡ Some OfPath → first (opens Paren) ts ≡ false
unfolding lead_at
path_lead_no_paren [] h = refl
path_lead_no_paren (t ∷ ts) h = by t.kind h
  where
    by : (k : Kind) → lead_by k t.text (t ∷ ts) ≡ Some OfPath → is_opener Paren k ≡ false
    by (Opener Paren) e = absurd (cc)
    by (Opener Brace) e = refl
    by (Opener _) e = refl
    by _ e = refl

pub path_lead_no_for : (ts : Tokens) → lead_at ts ≡ Some OfPath → first (is_keyword (codes "for")) ts ≡ false
path_lead_no_for = lead_other_keyword (codes "for") OfFunc OfPath refl (λ e. cc)

-- ---- words

pub word_lead : (raw : Bool) (text : List ℕ) (ts rest : Tokens) → IsOne (word_kind raw) text ts rest → is_path_word raw text ≡ true → lead_at ts ≡ Some OfPath
unfolding lead_at
word_lead true text ts rest s g = rw (one_front RawIdent text ts rest s).1 refl
word_lead false text ts rest s g = rw ((one_front Ident text ts rest s).1, g) refl

pub colons_lead : (ts : Tokens) → is_op (codes "::") ts ≡ true → lead_at ts ≡ Some OfPath
unfolding lead_at
colons_lead ts h =
    let f = op_first 58 (codes ":") ts h in
    let us : Tokens = record f.0 { kind = Punct; text = 58 ∷ f.2 } ∷ f.1 in
    let is : is_op (codes "::") us ≡ true = subst (λ vs. is_op (codes "::") vs ≡ true) f.3 h in
    let g : lead_at us ≡ Some OfPath = rw is refl in
    subst (λ vs. lead_at vs ≡ Some OfPath) (sym f.3) g

pub less_lead : (ts rest : Tokens) → IsOne Punct (codes "<") ts rest → lead_at ts ≡ Some OfPath
unfolding lead_at
less_lead ts rest s = rw (one_front Punct (codes "<") ts rest s).1 refl

pub word_no_mark : (character : List ℕ) (raw : Bool) (text : List ℕ) (ts rest : Tokens) → IsOne (word_kind raw) text ts rest
    → first (is_mark character) ts ≡ false
word_no_mark character true text ts rest s = rw (one_front RawIdent text ts rest s).1 refl
word_no_mark character false text ts rest s = rw (one_front Ident text ts rest s).1 refl

-- No name of a parameter stands where no `:` does after the word.
pub word_no_given : (raw : Bool) (text : List ℕ) (ts rest : Tokens) → IsOne (word_kind raw) text ts rest → is_op (codes ":") rest ≡ false
    → begins_given ts ≡ false
unfolding given_name
word_no_given true text ts rest s h = rw ((one_front RawIdent text ts rest s).1, h) refl
word_no_given false text ts rest s h =
    let f = one_front Ident text ts rest s in
    let us : Tokens = record f.0 { kind = Ident; text = text } ∷ rest in
    subst (λ vs. begins_given vs ≡ false) (sym f.1) (by us (is_plain (class_of text)) refl)
  where
    by : (us : Tokens) (b : Bool) → is_plain (class_of text) ≡ b
        → begins_given ((record (one_front Ident text ts rest s).0 { kind = Ident; text = text }) ∷ rest) ≡ false
    by us true e = rw (e, h) refl
    by us false e = rw e refl

-- ---- what may follow a type

-- Of what a node may refuse, a type refuses all but another name.
abbrev pub is_clear : Begin → Tokens → Bool
is_clear OfRename ts = true
is_clear b ts = not (begins_there b ts)

abbrev pub Clear : List Begin → Tokens → Type 0
Clear bs ts = list_all (λ b. is_clear b ts) bs ≡ true

pub follows_clear : (bs : List Begin) (ts : Tokens) → may_follow bs ts ≡ true → Clear bs ts
follows_clear [] ts h = refl
follows_clear (b ∷ bs) ts h =
    let p = and_parts (not (begins_there b ts)) (may_follow bs ts) h in
    and_from (is_clear b ts) (list_all (λ c. is_clear c ts) bs) (one b p.0) (follows_clear bs ts p.1)
  where
    one : (b : Begin) → not (begins_there b ts) ≡ true → is_clear b ts ≡ true
    one OfRename g = refl
    one OfArgs g = g
    one OfCodeArgs g = g
    one OfArrow g = g
    one OfColons g = g
    one OfBang g = g

-- Nothing that a type refuses begins there.
pub record Free (ts : Tokens) : Type 0 where
  pub colons : is_op (codes "::") ts ≡ false
  pub bang : is_op (codes "!") ts ≡ false
  pub arrow : is_op (codes "->") ts ≡ false
  pub args : opens_args ts ≡ false
  pub paren : first (opens Paren) ts ≡ false

pub free_clear : (bs : List Begin) (ts : Tokens) → Free ts → Clear bs ts
free_clear [] ts f = refl
free_clear (b ∷ bs) ts f = and_from (is_clear b ts) (list_all (λ c. is_clear c ts) bs) (one b) (free_clear bs ts f)
  where
    one : (b : Begin) → is_clear b ts ≡ true
    one OfRename = refl
    one OfArgs = rw (f.args, f.colons, f.paren) refl
    one OfCodeArgs = rw f.colons refl
    one OfArrow = rw f.arrow refl
    one OfColons = rw f.colons refl
    one OfBang = rw f.bang refl

-- Nor does a further bound.
pub record Quiet (ts : Tokens) : Type 0 where
  pub free : Free ts
  pub plus : is_op (codes "+") ts ≡ false

-- Nothing that a pattern goes on with, and no other name.
pub record EndsPattern (ts : Tokens) : Type 0 where
  pub bar : is_op (codes "|") ts ≡ false
  pub at : is_op (codes "@") ts ≡ false
  pub brace : first (opens Brace) ts ≡ false
  pub dots : begins_dots ts ≡ false
  pub span : begins_span_end ts ≡ false
  pub rename : first (is_keyword (codes "as")) ts ≡ false

-- Nor does what is asked of a name, or a first bound: an element of a list ends there.
pub record Ends (ts : Tokens) : Type 0 where
  pub pattern : EndsPattern ts
  pub quiet : Quiet ts
  pub colon : is_op (codes ":") ts ≡ false
  pub equals : is_op (codes "=") ts ≡ false
  pub bound : begins_bound ts ≡ false

-- another operator
pub op_free : (op : List ℕ) → bytes_eq op (codes "::") ≡ false → bytes_eq op (codes "!") ≡ false → bytes_eq op (codes "->") ≡ false
    → bytes_eq op (codes "<") ≡ false → bytes_eq op (codes "<<") ≡ false → bytes_eq op (codes "<-") ≡ false
    → (ts : Tokens) → is_op op ts ≡ true → Free ts
op_free op a b c d e f ts h = record {
  colons = other_op op (codes "::") a ts h;
  bang = other_op op (codes "!") b ts h;
  arrow = other_op op (codes "->") c ts h;
  args = rw (other_op op (codes "<") d ts h, other_op op (codes "<<") e ts h, other_op op (codes "<-") f ts h) refl;
  paren = op_test (is_opener Paren) op ts h;
}

-- A `+` may follow any bound.
pub plus_free : (ts : Tokens) → is_op (codes "+") ts ≡ true → Free ts
plus_free = op_free (codes "+") refl refl refl refl refl refl

pub equals_quiet : (ts : Tokens) → is_op (codes "=") ts ≡ true → Quiet ts
equals_quiet ts h = record { free = op_free (codes "=") refl refl refl refl refl refl ts h; plus = other_op (codes "=") (codes "+") refl ts h }

pub colon_quiet : (ts : Tokens) → is_op (codes ":") ts ≡ true → Quiet ts
colon_quiet ts h = record { free = op_free (codes ":") refl refl refl refl refl refl ts h; plus = other_op (codes ":") (codes "+") refl ts h }

-- another mark
mark_quiet : (c : ℕ) → (58 == c) ≡ false → (33 == c) ≡ false → (45 == c) ≡ false → (60 == c) ≡ false → (43 == c) ≡ false
    → (ts rest : Tokens) → IsOne Punct (c ∷ []) ts rest → Quiet ts
mark_quiet c colon bang minus less plus ts rest s = record {
  free = record {
    colons = no_other_op 58 (codes ":") c ts rest colon s;
    bang = no_other_op 33 [] c ts rest bang s;
    arrow = no_other_op 45 (codes ">") c ts rest minus s;
    args = rw (no_other_op 60 [] c ts rest less s, no_other_op 60 (codes "<") c ts rest less s, no_other_op 60 (codes "-") c ts rest less s) refl;
    paren = rw (one_front Punct (c ∷ []) ts rest s).1 refl;
  };
  plus = no_other_op 43 [] c ts rest plus s;
}

mark_no_bound : (text : List ℕ) (ts rest : Tokens) → IsOne Punct text ts rest → is_op (codes "::") ts ≡ false
    → ((us : Tokens) → is_op (codes "::") us ≡ false → lead_of_punct text us ≡ None) → bytes_eq text (codes "?") ≡ false → begins_bound ts ≡ false
unfolding lead_at
mark_no_bound text ts rest s n none other =
    let f = one_front Punct text ts rest s in
    let us : Tokens = record f.0 { kind = Punct; text = text } ∷ rest in
    let g : lead_of_punct text us ≡ None = none us (subst (λ vs. is_op (codes "::") vs ≡ false) f.1 n) in
    let h : begins_bound us ≡ false = rw (other, g) refl in
    subst (λ vs. begins_bound vs ≡ false) (sym f.1) h

-- no `@`, no bar and no point, and neither a value nor a path
mark_pattern : (c : ℕ) → (124 == c) ≡ false → (64 == c) ≡ false → (46 == c) ≡ false → bytes_eq (c ∷ []) (codes "-") ≡ false
    → ((us : Tokens) → is_op (codes "::") us ≡ false → lead_of_punct (c ∷ []) us ≡ None)
    → (ts rest : Tokens) → IsOne Punct (c ∷ []) ts rest → is_op (codes "::") ts ≡ false → EndsPattern ts
unfolding lead_at
mark_pattern c bar at point minus none ts rest s n =
    let f = one_front Punct (c ∷ []) ts rest s in
    let us : Tokens = record f.0 { kind = Punct; text = c ∷ [] } ∷ rest in
    let g : lead_of_punct (c ∷ []) us ≡ None = none us (subst (λ vs. is_op (codes "::") vs ≡ false) f.1 n) in
    let h : begins_span_end us ≡ false = rw (minus, g) refl in
    record {
      bar = no_other_op 124 [] c ts rest bar s;
      at = no_other_op 64 [] c ts rest at s;
      brace = rw f.1 refl;
      dots = rw (no_other_op 46 (codes ".") c ts rest point s, no_other_op 46 (codes ".=") c ts rest point s) refl;
      span = subst (λ vs. begins_span_end vs ≡ false) (sym f.1) h;
      rename = rw f.1 refl;
    }

pub mark_ends : (c : ℕ) → (124 == c) ≡ false → (64 == c) ≡ false → (46 == c) ≡ false → bytes_eq (c ∷ []) (codes "-") ≡ false → (58 == c) ≡ false → (33 == c) ≡ false → (45 == c) ≡ false → (60 == c) ≡ false → (43 == c) ≡ false → (61 == c) ≡ false
    → ((us : Tokens) → is_op (codes "::") us ≡ false → lead_of_punct (c ∷ []) us ≡ None) → bytes_eq (c ∷ []) (codes "?") ≡ false
    → (ts rest : Tokens) → IsOne Punct (c ∷ []) ts rest → Ends ts
mark_ends c bar at point negative colon bang minus less plus equals none other ts rest s =
    let q = mark_quiet c colon bang minus less plus ts rest s in
    record {
      pattern = mark_pattern c bar at point negative none ts rest s q.free.colons;
      quiet = q;
      colon = no_other_op 58 [] c ts rest colon s;
      equals = no_other_op 61 [] c ts rest equals s;
      bound = mark_no_bound (c ∷ []) ts rest s q.free.colons none other;
    }

pub comma_ends : (ts rest : Tokens) → IsOne Punct (codes ",") ts rest → Ends ts
comma_ends = mark_ends 44 refl refl refl refl refl refl refl refl refl refl (λ us n. rw n refl) refl

pub greater_ends : (ts rest : Tokens) → IsOne Punct (codes ">") ts rest → Ends ts
greater_ends = mark_ends 62 refl refl refl refl refl refl refl refl refl refl (λ us n. rw n refl) refl

pub semicolon_quiet : (ts rest : Tokens) → IsOne Punct (codes ";") ts rest → Quiet ts
semicolon_quiet = mark_quiet 59 refl refl refl refl refl

-- After what asks for a default no bound begins.
pub equals_no_bound : (ts : Tokens) → is_op (codes "=") ts ≡ true → begins_bound ts ≡ false
unfolding lead_at
equals_no_bound ts h =
    let f = op_first 61 [] ts h in
    let us : Tokens = record f.0 { kind = Punct; text = 61 ∷ f.2 } ∷ f.1 in
    let n : is_op (codes "::") us ≡ false = subst (λ vs. is_op (codes "::") vs ≡ false) f.3 (other_op (codes "=") (codes "::") refl ts h) in
    let g : begins_bound us ≡ false = rw n refl in
    subst (λ vs. begins_bound vs ≡ false) (sym f.3) g

-- a token that is no punctuation
pub kind_quiet : (k : Kind) (text : List ℕ) → is_punct k ≡ false → is_opener Paren k ≡ false → (ts rest : Tokens) → IsOne k text ts rest → Quiet ts
kind_quiet k text punct opener ts rest s =
    let no : (op : List ℕ) → is_op op ts ≡ false = λ op. one_no_op op k text ts rest punct s in
    let paren : first (opens Paren) ts ≡ false = one_test (is_opener Paren) k text ts rest s ∙ opener in
    record {
      free = record {
        colons = no (codes "::");
        bang = no (codes "!");
        arrow = no (codes "->");
        args = rw (no (codes "<"), no (codes "<<"), no (codes "<-")) refl;
        paren = paren;
      };
      plus = no (codes "+");
    }

pub as_quiet : (ts rest : Tokens) → IsOne Ident (codes "as") ts rest → Quiet ts
as_quiet = kind_quiet Ident (codes "as") refl refl

pub closer_ends : (d : Delim) (ts rest : Tokens) → IsOne (Closer d) (closing d ∷ []) ts rest → Ends ts
unfolding lead_at
closer_ends d ts rest s = record {
  pattern = record {
    bar = one_no_op (codes "|") (Closer d) (closing d ∷ []) ts rest refl s;
    at = one_no_op (codes "@") (Closer d) (closing d ∷ []) ts rest refl s;
    brace = rw (one_front (Closer d) (closing d ∷ []) ts rest s).1 refl;
    dots = rw (
      one_no_op (codes "..") (Closer d) (closing d ∷ []) ts rest refl s,
      one_no_op (codes "..=") (Closer d) (closing d ∷ []) ts rest refl s,
    ) refl;
    span = rw (one_front (Closer d) (closing d ∷ []) ts rest s).1 refl;
    rename = rw (one_front (Closer d) (closing d ∷ []) ts rest s).1 refl;
  };
  quiet = kind_quiet (Closer d) (closing d ∷ []) refl refl ts rest s;
  colon = one_no_op (codes ":") (Closer d) (closing d ∷ []) ts rest refl s;
  equals = one_no_op (codes "=") (Closer d) (closing d ∷ []) ts rest refl s;
  bound = rw (one_front (Closer d) (closing d ∷ []) ts rest s).1 refl;
}
