-- What follows an expression that ends by itself, or after which no token stands: nothing goes on with it, nor with what it ends
-- in. What ends in a block ends in no braces but those that are in the tree.
use Rattle.std.proofs.Common.{◌≡◌, ℕ, true, false, ◌||◌, [], ◌∷◌, inl, inr, Some, None, refl, sym, subst}
use Rattle.std.proofs.lemmas.Bool.{and_from, or_cases}
use Rattle.lay_node.specs.Ahead.{Tokens, at_end}
use Rattle.lay_code.specs.nodes.Code.{about_expr}
use Rattle.lay_code.specs.nodes.Exprs.{ExprFacts, Followed, expr_facts, follows, placed, root_follows, tail_follows}
use Rattle.lay_code.specs.nodes.Layers.{ExprNode}
use Rattle.lay_code.specs.nodes.Places.{statement}
use Rattle.lay_code.specs.declared.blocks.Stmt.TheOpen.{Expr-F}
use Rattle.lay_code.specs.declared.blocks.Stmt.TheViews as views
use Rattle.lay_code.specs.declared.exprs.Expr.{Expr}
use Rattle.lay_code.proofs.nodes.Layers.{expr_is, expr_told}
use Rattle.lay_code.proofs.reader.BodilessKinds.{if_bare}
use Rattle.lay_code.proofs.reader.ExprQuiet.{ends_follow, nothing_ends_expr}
use Rattle.lay_code.proofs.reader.ExprSoundLevel.{within_held}
use Rattle.lay_code.proofs.reader.Followed.{bodiless, no_braced_end, root_of}

-- Where it is block-like, what follows it may follow its root and what it ends in.
abbrev Settles : ExprFacts → Type 0
Settles x = x.block_like ≡ true → placed x statement ≡ true → (depth : ℕ) (ts rest : Tokens) → Followed x statement depth ts rest
    → follows x statement rest ≡ true

-- What ends in nothing that goes on is followed by all that doesn't go on with its root.
shut_settles : (x : ExprFacts) → ((rest : Tokens) → tail_follows x.tail statement.no_struct rest ≡ true) → Settles x
shut_settles x tail b w depth ts rest f =
    and_from (root_follows x statement rest) (tail_follows x.tail statement.no_struct rest) (root_of x statement depth ts rest f) (tail rest)

-- What ends in no body ends in no braces that aren't in the tree.
bodiless_settles : (x : ExprFacts) → bodiless x.form ≡ true → Settles x
bodiless_settles x n b w depth ts rest (inl h) = h
bodiless_settles x n b w depth ts rest (inr h) = absurd (no_braced_end x.form n depth ts rest h.0)

node_settles : (y : ExprNode) → Settles (expr_facts (expr_told y))
node_settles (Expr-F.Expr::Call call) = shut_settles (expr_facts (expr_told (Expr-F.Expr::Call call))) (λ rest. refl)
node_settles (Expr-F.Block label b) = shut_settles (expr_facts (expr_told (Expr-F.Block label b))) (λ rest. refl)
node_settles (Expr-F.Unsafe b) = shut_settles (expr_facts (expr_told (Expr-F.Unsafe b))) (λ rest. refl)
node_settles (Expr-F.ConstBlock b) = shut_settles (expr_facts (expr_told (Expr-F.ConstBlock b))) (λ rest. refl)
node_settles (Expr-F.If [] o) = λ b w. absurd (cc (within_held (expr_facts (expr_told (Expr-F.If [] o))) statement w))
node_settles (Expr-F.If (c ∷ more) None) = bodiless_settles (expr_facts (expr_told (Expr-F.If (c ∷ more) None))) (if_bare c more)
node_settles (Expr-F.If (c ∷ more) (Some o)) = shut_settles (expr_facts (expr_told (Expr-F.If (c ∷ more) (Some o)))) (λ rest. refl)
node_settles (Expr-F.Match x attrs arms) = shut_settles (expr_facts (expr_told (Expr-F.Match x attrs arms))) (λ rest. refl)
node_settles (Expr-F.Loop label b) = shut_settles (expr_facts (expr_told (Expr-F.Loop label b))) (λ rest. refl)
node_settles (Expr-F.While label c b) = shut_settles (expr_facts (expr_told (Expr-F.While label c b))) (λ rest. refl)
node_settles (Expr-F.For label pat x b) = shut_settles (expr_facts (expr_told (Expr-F.For label pat x b))) (λ rest. refl)
node_settles _ = λ b. absurd (cc b)

expr_settles : (x : Expr) → Settles (about_expr x)
expr_settles x = subst (λ z. Settles (about_expr z)) (views.roll-out-Expr x)
    (subst Settles (sym (expr_is (views.out-Expr x))) (node_settles (views.out-Expr x)))

pub settled : (x : Expr) (depth : ℕ) (ts rest : Tokens) → placed (about_expr x) statement ≡ true → Followed (about_expr x) statement depth ts rest
    → ((about_expr x).block_like || at_end rest) ≡ true → follows (about_expr x) statement rest ≡ true
settled x depth ts rest w f e = elim (or_cases (about_expr x).block_like (at_end rest) e) [
  | inl b ↦ expr_settles x b w depth ts rest f
  | inr g ↦ ended rest g
]
  where
    ended : (us : Tokens) → at_end us ≡ true → follows (about_expr x) statement us ≡ true
    ended [] g = ends_follow (about_expr x) statement [] (nothing_ends_expr false)
    ended (t ∷ us) g = absurd (cc g)
