-- Tokens are balanced, or unbalanced at a place.
use Rattle.std.proofs.Common.{◌≡◌, ◌⊎◌, inl, inr, ℕ, true, List, [], ◌∷◌, ◌++◌, refl, sym, ap, ◌∙◌, subst, append_assoc, append-nil}
use Rattle.std.specs.Prelude.{IsTrue}
use Rattle.std.proofs.lemmas.Bool.{cases_Bool}
use Rattle.lay_token.specs.Delimiters.{Trees, NoTree, One, Nest, Paired, Balanced, LeaveOpen, UnbalancedAt, tokens_of, is_opener, is_closer, is_pair, is_stray}
use Rattle.lay_token.specs.declared.token.Token.{Token}
use Rattle.lay_nest.proofs.Delimiters.{not_pair_stray}

-- ---- trees after trees

abbrev joined : Trees → Trees → Trees
joined NoTree more = more
joined (One t rest) more = One t (joined rest more)
joined (Nest o inside c rest) more = Nest o inside c (joined rest more)

tokens-joined : (trees more : Trees) → tokens_of trees ++ tokens_of more ≡ tokens_of (joined trees more)
tokens-joined NoTree more = refl
tokens-joined (One t rest) more = ap (λ ts. t ∷ ts) (tokens-joined rest more)
tokens-joined (Nest o inside c rest) more =
    ap (λ ts. o ∷ ts) (append_assoc (tokens_of inside) (c ∷ tokens_of rest) (tokens_of more))
    ∙ ap (λ ts. o ∷ (tokens_of inside ++ c ∷ ts)) (tokens-joined rest more)

paired-joined : (trees more : Trees) → Paired trees → Paired more → Paired (joined trees more)
paired-joined NoTree more p q = q
paired-joined (One t rest) more p q = (p.0, p.1, paired-joined rest more p.2 q)
paired-joined (Nest o inside c rest) more p q = (p.0, p.1, paired-joined rest more p.2 q)

balanced_both : (ts us : List Token) → Balanced ts → Balanced us → Balanced (ts ++ us)
balanced_both ts us b c =
    (joined b.0 c.0, paired-joined b.0 c.0 b.1 c.1, (λ i. b.2 i ++ c.2 i) ∙ tokens-joined b.0 c.0)

-- What is balanced leaves open what was open before it.
left_behind : (os before more : List Token) → LeaveOpen os before → Balanced more → LeaveOpen os (before ++ more)
left_behind [] before more l b = balanced_both before more l b
left_behind (o ∷ os) before more l b = (
  l.0,
  l.1 ++ more,
  ap (λ ts. ts ++ more) l.2 ∙ append_assoc l.0 (o ∷ l.1) more,
  l.3,
  l.4,
  balanced_both l.1 more l.5 b,
)

-- ---- one token more

abbrev Answers : List Token → Type 0
Answers tokens = Balanced tokens ⊎ ((at : ℕ) × UnbalancedAt tokens at)

module _ (before : List Token) (t : Token) (ts : List Token) where
  -- what the tokens after this one answer, whatever is open there
  abbrev Onward : Type 0
  Onward = (us : List Token) → LeaveOpen us (before ++ t ∷ []) → Answers (before ++ t ∷ ts)

  stray_here : (os : List Token) → LeaveOpen os before → IsTrue (is_stray os t.kind) → Answers (before ++ t ∷ ts)
  stray_here os l s = inr (
    t.at,
    inl (record {
      before = before;
      closer = t;
      after = ts;
      open_ones = os;
      whole = refl;
      left = l;
      stray = s;
      place = refl;
    }),
  )

  at_closer : (os : List Token) → LeaveOpen os before → is_closer t.kind ≡ true → Onward → Answers (before ++ t ∷ ts)
  at_closer [] l c onward = stray_here [] l c
  at_closer (o ∷ os) l c onward = elim (cases_Bool (is_pair o.kind t.kind)) [
    | inl p ↦
        let group : Balanced (o ∷ (l.1 ++ t ∷ [])) =
        (Nest o l.5.0 t NoTree, (p, l.5.1, tt), ap (λ us. o ∷ (us ++ t ∷ [])) l.5.2) in
        let same : l.0 ++ (o ∷ (l.1 ++ t ∷ [])) ≡ before ++ t ∷ [] =
        sym (append_assoc l.0 (o ∷ l.1) (t ∷ [])) ∙ ap (λ us. us ++ t ∷ []) (sym l.2) in
        onward os (subst (LeaveOpen os) same (left_behind os l.0 (o ∷ (l.1 ++ t ∷ [])) l.4 group))
    | inr n ↦ stray_here (o ∷ os) l (not_pair_stray o os t.kind c n)
  ]

  at_token : (os : List Token) → LeaveOpen os before → Onward → Answers (before ++ t ∷ ts)
  at_token os l onward = elim (cases_Bool (is_opener t.kind)) [
    | inl o ↦ onward (t ∷ os) (before, [], refl, o, l, (NoTree, tt, refl))
    | inr other ↦ elim (cases_Bool (is_closer t.kind)) [
      | inl c ↦ at_closer os l c onward
      | inr plain ↦ onward os (left_behind os before (t ∷ []) l (One t NoTree, (other, plain, tt), refl))
    ]
  ]

-- ---- all tokens

at_end : (os before : List Token) → LeaveOpen os before → Answers before
at_end [] before l = inl l
at_end (o ∷ os) before l = inr (o.at, inr (record { last = o; others = os; left = l; place = refl }))

answers_behind : (ts os before : List Token) → LeaveOpen os before → Answers (before ++ ts)
answers_behind [] os before l = subst Answers (sym (append-nil before)) (at_end os before l)
answers_behind (t ∷ ts) os before l =
    at_token before t ts os l
    (λ us left. subst Answers (append_assoc before (t ∷ []) ts) (answers_behind ts us (before ++ t ∷ []) left))

-- Tokens are balanced, or unbalanced at a place.
pub balanced_or_not : (tokens : List Token) → Balanced tokens ⊎ ((at : ℕ) × UnbalancedAt tokens at)
balanced_or_not tokens = answers_behind tokens [] [] (NoTree, tt, refl)
