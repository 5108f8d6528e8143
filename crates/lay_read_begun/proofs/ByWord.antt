-- What leads an item, decided by the word at the beginning.
use Rattle.std.proofs.Common.{◌≡◌, ℕ, Bool, true, false, List, [], ◌∷◌, Some, None, codes, refl, sym, ap, subst, if◌then◌else◌, slice_get}
use Rattle.std.proofs.lemmas.Bool.{or_parts}
use Rattle.std.specs.Str.{bytes_eq}
use Rattle.lay_piece.specs.declared.kind.Kind.{Kind}
use Rattle.lay_piece.specs.declared.kind.Kind.TheVariants.{Ident}
use Rattle.lay_token.specs.declared.token.Token.{Token}
use Rattle.lay_node.specs.Ahead.{Tokens}
use Rattle.lay_code.specs.reader.ItemLeads.{OfCall, OfFunction, begins_function, item_lead}
use Rattle.lay_read_begun.specs.Leads.{lead_of_word, led_by, may_lead_function}

abbrev word_at : List ℕ → Token → Token
word_at text t = record t { kind = Ident; text = text }

-- Another word leads no function.
no_function : (text : List ℕ) (t : Token) (ts : Tokens) → may_lead_function text ≡ false → begins_function (word_at text t ∷ ts) ≡ false
no_function text t ts h =
    let is : List ℕ → Bool = λ word. bytes_eq text word in
    let a = or_parts (is (codes "fn")) _ h in
    let b = or_parts (is (codes "const")) _ a.1 in
    let c = or_parts (is (codes "async")) _ b.1 in
    let d = or_parts (is (codes "unsafe")) _ c.1 in
    let e = or_parts (is (codes "safe")) (is (codes "extern")) d.1 in
    rw b.0 (rw c.0 (rw d.0 (rw e.0 (rw e.1 (rw a.0 refl)))))

word_leads : (text : List ℕ) (t : Token) (ts : Tokens) → item_lead (word_at text t ∷ ts) ≡ lead_of_word text (word_at text t ∷ ts)
unfolding item_lead
word_leads text t ts = by (may_lead_function text) refl
  where
    by : (b : Bool) → may_lead_function text ≡ b → item_lead (word_at text t ∷ ts)
        ≡ (if b then (if begins_function (word_at text t ∷ ts) then OfFunction else led_by text (word_at text t ∷ ts)) else led_by text (word_at text t ∷ ts))
    by true h = refl
    by false h = rw (no_function text t ts h) refl

-- What is no word leads a macro call.
others_call : (k : Kind) (t : Token) (ts : Tokens) → (k ≡ Ident → ⊥) → item_lead (record t { kind = k } ∷ ts) ≡ OfCall
unfolding item_lead
others_call Ident t ts n = absurd (n refl)
others_call _ t ts n = refl

-- ---- the same of the token that was looked at

pub word_found : (ts : Tokens) (t : Token) → slice_get ts 0 ≡ Some t → t.kind ≡ Ident → item_lead ts ≡ lead_of_word t.text ts
word_found [] t h k = absurd (cc)
word_found (u ∷ us) t h k =
    let e : u ≡ t = cc in
    rw e (subst (λ x. item_lead (x ∷ us) ≡ lead_of_word t.text (x ∷ us)) (ap (λ x. record t { kind = x }) (sym k)) (word_leads t.text t us))

pub other_found : (ts : Tokens) (t : Token) → slice_get ts 0 ≡ Some t → (t.kind ≡ Ident → ⊥) → item_lead ts ≡ OfCall
other_found [] t h n = absurd (cc)
other_found (u ∷ us) t h n = let e : u ≡ t = cc in rw e (others_call t.kind t us n)

pub end_found : (ts : Tokens) → slice_get ts 0 ≡ None → item_lead ts ≡ OfCall
unfolding item_lead
end_found [] h = refl
end_found (t ∷ ts) h = absurd (cc)
