-- What is balanced, or is unbalanced at a place, has one answer alone.
use Rattle.std.proofs.Common.{◌≡◌, ◌⊎◌, inl, inr, ℕ, List, Result, Ok, Err, refl, ap}
use Rattle.lay_token.specs.Delimiters.{Balanced, UnbalancedAt}
use Rattle.lay_token.specs.declared.token.Token.{Token}
use Rattle.lay_text.specs.declared.refusal.FormatError.{FormatError}
use Rattle.lay_text.specs.declared.refusal.FormatError.TheVariants.{Refused, NoMemory}
use Rattle.lay_text.specs.declared.refusal.Refusal.TheVariants.{NotUtf8, NoToken, Unbalanced, NoItem}
use Rattle.lay_nest.specs.Nested.{NestedAs}
use Rattle.lay_nest.specs.declared.nesting.Nested.{Nested}
use Rattle.lay_nest.proofs.Machine.{once_unbalanced, unbalanced_or_balanced}
use Rattle.lay_nest.proofs.nesting.nest.Goals as goal

back_balanced : (ts : List Token) (r : Result Nested FormatError) → NestedAs ts r → Balanced ts → (r ≡ Ok ts) ⊎ (r ≡ Err NoMemory)
back_balanced ts (Ok us) h b = inl (ap (λ v. Ok v) h.0)
back_balanced ts (Err (Refused (Unbalanced at))) h b = absurd (unbalanced_or_balanced ts at h b)
back_balanced ts (Err (Refused (NotUtf8 at))) h b = absurd h
back_balanced ts (Err (Refused (NoToken at))) h b = absurd h
back_balanced ts (Err (Refused (NoItem at))) h b = absurd h
back_balanced ts (Err NoMemory) h b = inr refl

back_unbalanced : (ts : List Token) (r : Result Nested FormatError) (at : ℕ) → NestedAs ts r → UnbalancedAt ts at
    → (r ≡ Err (Refused (Unbalanced at))) ⊎ (r ≡ Err NoMemory)
back_unbalanced ts (Ok us) at h u = absurd (unbalanced_or_balanced ts at u h.1)
back_unbalanced ts (Err (Refused (Unbalanced other))) at h u =
    inl (ap (λ v. Err (Refused (Unbalanced v))) (once_unbalanced ts other at h u))
back_unbalanced ts (Err (Refused (NotUtf8 other))) at h u = absurd h
back_unbalanced ts (Err (Refused (NoToken other))) at h u = absurd h
back_unbalanced ts (Err (Refused (NoItem other))) at h u = absurd h
back_unbalanced ts (Err NoMemory) at h u = inr refl

pub returns-in-Ok-clause-unbalanced : goal.returns-in-Ok-clause-unbalanced
returns-in-Ok-clause-unbalanced c at u =
    let spanned = rw c.as_slice.ensures at c.in-Ok.ensures in
    absurd (unbalanced_or_balanced c.args.tokens at u (spanned.trees, spanned.paired, spanned.tokens_are))

pub returns-in-Err-clause-balanced : goal.returns-in-Err-clause-balanced
returns-in-Err-clause-balanced c b =
    back_balanced c.args.tokens (Err c.in-Err.error) (rw c.as_slice.ensures at c.in-Err.ensures) b

pub returns-in-Err-clause-unbalanced : goal.returns-in-Err-clause-unbalanced
returns-in-Err-clause-unbalanced c at u =
    back_unbalanced c.args.tokens (Err c.in-Err.error) at (rw c.as_slice.ensures at c.in-Err.ensures) u
