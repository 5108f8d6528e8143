-- What the first token of an expression is, where its reader doesn't test it again.
use Rattle.std.proofs.Common.{◌≡◌, ℕ, Bool, true, false, not, ◌||◌, List, [], ◌∷◌, codes, Option, Some, None, is_some, if◌then◌else◌, refl, sym, subst, ◌∙◌}
use Rattle.std.specs.Str.{bytes_eq}
use Rattle.lay_piece.specs.Forms.{opening}
use Rattle.lay_piece.specs.Word.{class_of}
use Rattle.lay_piece.specs.declared.kind.Delim.TheVariants.{Paren, Bracket, Brace}
use Rattle.lay_piece.specs.declared.kind.Kind.{Kind}
use Rattle.lay_piece.specs.declared.kind.Kind.TheVariants as kind
use Rattle.lay_token.specs.Lexes.{is_punct}
use Rattle.lay_token.specs.Operators.{is_op}
use Rattle.lay_form.specs.Form.{opener}
use Rattle.lay_form.specs.Spelled.{IsBit, IsOne}
use Rattle.lay_node.specs.Ahead.{Tokens, first, tail, is_lifetime, opens}
use Rattle.lay_node.specs.Follow.{begins_dots}
use Rattle.lay_node.specs.Words.{is_literal, is_path_class}
use Rattle.lay_node.specs.reader.Exact.{InText}
use Rattle.lay_node.proofs.reader.TypesSoundKinds.{only_first}
use Rattle.lay_code.specs.Operands.{ExprLead, ByUnderscore, ByLabel, ByParen, ByBracket, ByBrace, ByPrefix, ByRange, ByContinue, ByBreak, ByReturn, ByBlockWord, ByClosure, begins_closure, expr_lead_at, expr_lead_by, expr_lead_of_punct, expr_lead_of_word, is_block_word, is_of}
use Rattle.lay_code.specs.Operators.{amp_by, prefix, prefix_by}
use Rattle.lay_code.specs.nodes.Exprs.{is_label_lead, is_prefix_lead}
use Rattle.lay_token.proofs.Deciding.{bytes_same}
use Rattle.lay_code.specs.declared.operators.Prefix.TheVariants as before

abbrev prefix_texts : List (List ℕ)
prefix_texts = codes "-" ∷ codes "*" ∷ codes "!" ∷ codes "&" ∷ []

abbrev LeadIs : ExprLead → Kind → List ℕ → Tokens → Type 0
LeadIs ByUnderscore k text ts = k ≡ kind.Underscore
LeadIs ByLabel k text ts = k ≡ kind.Lifetime
LeadIs ByParen k text ts = k ≡ kind.Opener Paren
LeadIs ByBracket k text ts = k ≡ kind.Opener Bracket
LeadIs ByBrace k text ts = k ≡ kind.Opener Brace
LeadIs ByBlockWord k text ts = k ≡ kind.Ident
LeadIs ByPrefix k text ts = (k ≡ kind.Punct) × (is_of prefix_texts text ≡ true)
LeadIs ByRange k text ts = begins_dots ts ≡ true
LeadIs ByContinue k text ts = (k ≡ kind.Ident) × (text ≡ codes "continue")
LeadIs ByBreak k text ts = (k ≡ kind.Ident) × (text ≡ codes "break")
LeadIs ByReturn k text ts = (k ≡ kind.Ident) × (text ≡ codes "return")
LeadIs _ k text ts = Unit {0}

abbrev Leads : Kind → List ℕ → Tokens → Option ExprLead → Type 0
Leads k text ts None = Unit {0}
Leads k text ts (Some lead) = LeadIs lead k text ts

-- what both have that are chosen from
either : (P : Option ExprLead → Type 0) (b : Bool) (x y : Option ExprLead) → (b ≡ true → P x) → P y → P (if b then x else y)
either P true x y f g = f refl
either P false x y f g = g

word_leads : (text : List ℕ) (ts us : Tokens) → Leads kind.Ident text us (expr_lead_of_word text ts)
word_leads text ts us =
    let by = either (Leads kind.Ident text us) in
    by (is_path_class (class_of text)) _ _ (λ e. tt) (by (is_literal kind.Ident text) _ _ (λ e. tt)
    (by (bytes_eq text (codes "continue")) _ _ (λ e. (refl, bytes_same text (codes "continue") e))
    (by (bytes_eq text (codes "break")) _ _ (λ e. (refl, bytes_same text (codes "break") e))
    (by (bytes_eq text (codes "return")) _ _ (λ e. (refl, bytes_same text (codes "return") e))
    (by (bytes_eq text (codes "move")) _ _ (λ e. tt) (by (bytes_eq text (codes "async")) _ _ (λ e. async (begins_closure ts))
    (by (is_block_word text ts) (Some ByBlockWord) None (λ e. refl) tt)))))))
  where
    async : (b : Bool) → LeadIs (if b then ByClosure else ByBlockWord) kind.Ident text us
    async true = tt
    async false = refl

punct_leads : (text : List ℕ) (ts : Tokens) → Leads kind.Punct text ts (expr_lead_of_punct text ts)
punct_leads text ts =
    let by = either (Leads kind.Punct text ts) in
    by (is_of prefix_texts text) _ _ (λ e. (refl, e)) (by (bytes_eq text (codes "|")) _ _ (λ e. tt)
    (by (bytes_eq text (codes "<") || is_op (codes "::") ts) _ _ (λ e. tt)
    (by (begins_dots ts) (Some ByRange) None (λ e. e) tt)))

lead_text : (k : Kind) (text : List ℕ) (ts : Tokens) → Leads k text ts (expr_lead_by k text ts)
lead_text kind.Ident text ts = word_leads text (tail ts) ts
lead_text kind.Punct text ts = punct_leads text ts
lead_text kind.Underscore text ts = refl
lead_text kind.Lifetime text ts = refl
lead_text (kind.Opener Paren) text ts = refl
lead_text (kind.Opener Bracket) text ts = refl
lead_text (kind.Opener Brace) text ts = refl
lead_text (kind.Closer d) text ts = tt
lead_text (kind.Doc inner block) text ts = tt
lead_text _ text ts = tt

-- the first token of what has the lead
abbrev FirstIs : ExprLead → Tokens → Type 0
FirstIs lead [] = ⊥
FirstIs lead (t ∷ ts) = LeadIs lead t.kind t.text (t ∷ ts)

first_is : (lead : ExprLead) (ts : Tokens) → expr_lead_at ts ≡ Some lead → FirstIs lead ts
unfolding expr_lead_at
first_is lead [] h = absurd (cc h)
first_is lead (t ∷ ts) h = subst (Leads t.kind t.text (t ∷ ts)) h (lead_text t.kind t.text (t ∷ ts))

-- What each of these leads begins has its token at the beginning.
pub paren_first : (ts : Tokens) → InText ts → expr_lead_at ts ≡ Some ByParen → IsBit (opener Paren) ts (tail ts)
paren_first [] i h = absurd (first_is ByParen [] h)
paren_first (t ∷ ts) i h = only_first (kind.Opener Paren) (opening Paren ∷ []) refl t ts i (first_is ByParen (t ∷ ts) h)

pub bracket_first : (ts : Tokens) → InText ts → expr_lead_at ts ≡ Some ByBracket → IsBit (opener Bracket) ts (tail ts)
bracket_first [] i h = absurd (first_is ByBracket [] h)
bracket_first (t ∷ ts) i h = only_first (kind.Opener Bracket) (opening Bracket ∷ []) refl t ts i (first_is ByBracket (t ∷ ts) h)

pub underscore_first : (ts : Tokens) → InText ts → expr_lead_at ts ≡ Some ByUnderscore
    → IsOne kind.Underscore (codes "_") ts (tail ts)
underscore_first [] i h = absurd (first_is ByUnderscore [] h)
underscore_first (t ∷ ts) i h = only_first kind.Underscore (codes "_") refl t ts i (first_is ByUnderscore (t ∷ ts) h)

pub continue_first : (ts : Tokens) → expr_lead_at ts ≡ Some ByContinue → IsOne kind.Ident (codes "continue") ts (tail ts)
continue_first [] h = absurd (first_is ByContinue [] h)
continue_first (t ∷ ts) h = let f = first_is ByContinue (t ∷ ts) h in (f.0, f.1, refl)

pub break_first : (ts : Tokens) → expr_lead_at ts ≡ Some ByBreak → IsOne kind.Ident (codes "break") ts (tail ts)
break_first [] h = absurd (first_is ByBreak [] h)
break_first (t ∷ ts) h = let f = first_is ByBreak (t ∷ ts) h in (f.0, f.1, refl)

pub return_first : (ts : Tokens) → expr_lead_at ts ≡ Some ByReturn → IsOne kind.Ident (codes "return") ts (tail ts)
return_first [] h = absurd (first_is ByReturn [] h)
return_first (t ∷ ts) h = let f = first_is ByReturn (t ∷ ts) h in (f.0, f.1, refl)

pub range_first : (ts : Tokens) → expr_lead_at ts ≡ Some ByRange → begins_dots ts ≡ true
range_first [] h = absurd (first_is ByRange [] h)
range_first (t ∷ ts) h = first_is ByRange (t ∷ ts) h

-- A `{` begins a block alone, and no word does.
pub brace_first : (ts : Tokens) → expr_lead_at ts ≡ Some ByBrace → first (opens Brace) ts ≡ true
brace_first [] h = absurd (first_is ByBrace [] h)
brace_first (t ∷ ts) h = rw (first_is ByBrace (t ∷ ts) h) refl

pub word_first : (ts : Tokens) → expr_lead_at ts ≡ Some ByBlockWord → first (opens Brace) ts ≡ false
word_first [] h = absurd (first_is ByBlockWord [] h)
word_first (t ∷ ts) h = rw (first_is ByBlockWord (t ∷ ts) h) refl

-- ---- what doesn't begin there

label_first : (ts : Tokens) → expr_lead_at ts ≡ Some ByLabel → first is_lifetime ts ≡ true
label_first [] h = absurd (first_is ByLabel [] h)
label_first (t ∷ ts) h = rw (first_is ByLabel (t ∷ ts) h) refl

-- Where no lifetime stands, no label begins an expression.
pub no_label : (ts : Tokens) (lead : ExprLead) → expr_lead_at ts ≡ Some lead → first is_lifetime ts ≡ false
    → not (is_label_lead lead) ≡ true
no_label ts ByLabel h f = let g = label_first ts h in absurd (cc (sym f ∙ g))
no_label ts _ h f = refl

prefix_named : (text : List ℕ) (us : Tokens) → is_of prefix_texts text ≡ true → is_some (prefix_by text us) ≡ true
prefix_named text us h =
    by (bytes_eq text (codes "-")) (bytes_eq text (codes "*")) (bytes_eq text (codes "!")) (bytes_eq text (codes "&")) h
  where
    by : (a b c d : Bool) → (a || (b || (c || (d || false)))) ≡ true
        → is_some (if a then Some before.Neg else (if b then Some before.Deref else (if c then Some before.Bang
        else (if d then Some (amp_by us) else None)))) ≡ true
    by true b c d h = refl
    by false true c d h = refl
    by false false true d h = refl
    by false false false true h = refl
    by false false false false h = absurd (cc h)

-- What a prefix operator begins has one at its beginning.
pub prefix_first : (ts : Tokens) → expr_lead_at ts ≡ Some ByPrefix → is_some (prefix ts) ≡ true
unfolding prefix
prefix_first [] h = absurd (first_is ByPrefix [] h)
prefix_first (t ∷ ts) h =
    let f = first_is ByPrefix (t ∷ ts) h in
    let P : Kind → Type 0 = λ k. is_some (if is_punct k then prefix_by t.text ts else None) ≡ true in
    subst P (sym f.0) (prefix_named t.text ts f.1)

-- Where no prefix operator stands, none begins an expression.
pub no_prefix : (ts : Tokens) (lead : ExprLead) → expr_lead_at ts ≡ Some lead → is_some (prefix ts) ≡ false
    → not (is_prefix_lead lead) ≡ true
no_prefix ts ByPrefix h f = let g = prefix_first ts h in absurd (cc (sym f ∙ g))
no_prefix ts _ h f = refl
