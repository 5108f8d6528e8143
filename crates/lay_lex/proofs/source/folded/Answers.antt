use Rattle.std.proofs.Common.{rules, ◌≡◌, ◌++◌, ◌∷◌, [], List, ℕ, false, length, sym, ap, ◌∙◌, arith, append-nil}
use Rattle.std.specs.Prelude.{◌==◌}
use Rattle.std.specs.List.{list_any}
use Rattle.lay_token.specs.Source.{folded}
use Rattle.lay_lex.proofs.Folds.{folded_text, folded-none}
use Rattle.lay_lex.proofs.source.folded.Goals as goal

-- nothing is left to fold
all_folded : (text rest : List ℕ) → length rest ≡ 0 → text ++ folded rest ≡ text
all_folded text [] h = append-nil text
all_folded text (b ∷ rest) h = absurd (omega arith)

pub returns : goal.returns
returns c =
    folded_text c.args.s.now c.loop-byte.text.items c.utf8.s
    (sym (all_folded c.loop-byte.text.items c.loop-byte.rest.now c.in_default.ensures.cases) ∙ c.loop-byte.invariant)

pub returns-then-not-has_return : goal.returns-then-not-has_return
returns-then-not-has_return c =
    let none : list_any (λ b. b == 13) c.args.s.now ≡ false =
    ap (list_any (λ b. b == 13)) (sym c.as_bytes-rest.ensures.value) ∙ sym c.has_return.ensures ∙ (search rules) in
    let whole : c.extend_from_slice.new.self.items ≡ c.args.s.now = c.in_ok-extend_from_slice.ensures.items
    ∙ ap (λ l. l ++ c.as_bytes-rest.result.now) c.in_ok-text.ensures.items ∙ c.as_bytes-rest.ensures.value in
    folded_text c.args.s.now c.extend_from_slice.new.self.items c.utf8.s (whole ∙ folded-none c.args.s.now none)
