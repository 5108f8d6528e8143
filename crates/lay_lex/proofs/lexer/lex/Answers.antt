-- What lexes in one way alone is what was read.
use Rattle.std.proofs.Common.{◌≡◌, ◌⊎◌, inl, inr, ℕ, List, Result, Ok, Err, refl, ap, ◌∙◌, subst}
use Rattle.lay_token.specs.Lexes.{Lexes, NoTokenAt}
use Rattle.lay_token.specs.declared.token.Token.{Token}
use Rattle.lay_text.specs.declared.refusal.FormatError.{FormatError}
use Rattle.lay_text.specs.declared.refusal.FormatError.TheVariants.{Refused, NoMemory}
use Rattle.lay_text.specs.declared.refusal.Refusal.TheVariants.{NotUtf8, NoToken, Unbalanced, NoItem}
use Rattle.lay_token.proofs.Unique.{lexes_once, no_token_once, no_token_or_tokens}
use Rattle.lay_lex.specs.Lexer.{LexedAs}
use Rattle.lay_lex.proofs.lexer.lex.Goals as goal

back_tokens : (bytes : List ℕ) (start : ℕ) (r : Result (List Token) FormatError) (ts : List Token)
    → LexedAs bytes start r → Lexes bytes start ts
    → (r ≡ Ok ts) ⊎ (r ≡ Err NoMemory)
back_tokens bytes start (Ok us) ts h l = inl (ap (λ v. Ok v) (lexes_once bytes start us ts h l))
back_tokens bytes start (Err (Refused (NoToken at))) ts h l = absurd (no_token_or_tokens bytes start at ts h l)
back_tokens bytes start (Err (Refused (NotUtf8 at))) ts h l = absurd h
back_tokens bytes start (Err (Refused (Unbalanced at))) ts h l = absurd h
back_tokens bytes start (Err (Refused (NoItem at))) ts h l = absurd h
back_tokens bytes start (Err NoMemory) ts h l = inr refl

back_no_token : (bytes : List ℕ) (start : ℕ) (r : Result (List Token) FormatError) (at : ℕ) → LexedAs bytes start r
    → NoTokenAt bytes start at
    → (r ≡ Err (Refused (NoToken at))) ⊎ (r ≡ Err NoMemory)
back_no_token bytes start (Ok us) at h l = absurd (no_token_or_tokens bytes start at us l h)
back_no_token bytes start (Err (Refused (NoToken other))) at h l =
    inl (ap (λ v. Err (Refused (NoToken v))) (no_token_once bytes start other at h l))
back_no_token bytes start (Err (Refused (NotUtf8 other))) at h l = absurd h
back_no_token bytes start (Err (Refused (Unbalanced other))) at h l = absurd h
back_no_token bytes start (Err (Refused (NoItem other))) at h l = absurd h
back_no_token bytes start (Err NoMemory) at h l = inr refl

pub returns-clause-tokens : goal.returns-clause-tokens
returns-clause-tokens c ts l =
    let P : List ℕ → Type 0 = λ b. LexedAs b c.args.source.now.start c.tokens_of.result in
    back_tokens c.args.source.now.text c.args.source.now.start c.tokens_of.result ts
    (subst P (c.from_utf8_unchecked-text.ensures ∙ c.as_slice.ensures) c.tokens_of.ensures) l

pub returns-clause-no_token : goal.returns-clause-no_token
returns-clause-no_token c at l =
    let P : List ℕ → Type 0 = λ b. LexedAs b c.args.source.now.start c.tokens_of.result in
    back_no_token c.args.source.now.text c.args.source.now.start c.tokens_of.result at
    (subst P (c.from_utf8_unchecked-text.ensures ∙ c.as_slice.ensures) c.tokens_of.ensures) l
