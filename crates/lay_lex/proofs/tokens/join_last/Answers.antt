use Rattle.std.proofs.Common.{rules, ◌≡◌, ℕ, zero, suc, ◌+◌, ◌-◌, if◌then◌else◌, Bool, true, List, [], ◌∷◌, length, get_or, set, sym, ap, ◌∙◌, arith}
use Rattle.lay_token.specs.declared.token.Token.{Token}
use Rattle.lay_lex.specs.Added.{last_joint}
use Rattle.lay_lex.proofs.tokens.join_last.Goals as goal

abbrev made_joint : Token → Token
made_joint t = record t { joint = true }

-- the last of the tokens is set
last_set : (t : Token) (ts : List Token) (n : ℕ) → length ts ≡ n + 1 → t ≡ get_or ts n t
    → set ts n (record t { joint = true }) ≡ last_joint ts
last_set t [] n e f = absurd (omega arith)
last_set t (x ∷ []) zero e f = ap (λ (v : Token). made_joint v ∷ []) f
last_set t (x ∷ []) (suc n) e f = absurd (omega arith)
last_set t (x ∷ y ∷ ts) zero e f = absurd (omega arith)
last_set t (x ∷ y ∷ ts) (suc n) e f = ap (λ (l : List Token). x ∷ l) (last_set t (y ∷ ts) n (omega arith) f)

pub returns-then-joint-clause-items : goal.returns-then-joint-clause-items
returns-then-joint-clause-items c =
    let ts = c.args.tokens.now.items in
    last_set c.index_mut.result.now ts (c.len-last.result - 1) (search rules) c.index_mut.ensures.value
    ∙ ap (λ (b : Bool). if b then last_joint ts else ts) (sym c.if-joint.true)
