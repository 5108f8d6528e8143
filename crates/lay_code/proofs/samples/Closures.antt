-- Samples of closures: the braces around their bodies that aren't in the tree.
use Rattle.std.proofs.Common.{◌≡◌, ℕ, suc, true, false, List, [], ◌∷◌, ◌++◌, None, codes, ap, ◌∙◌, sym, subst, refl, inl, inr, arith}
use Rattle.std.specs.Prelude.{replicate}
use Rattle.lay_piece.specs.declared.kind.Delim.TheVariants.{Brace}
use Rattle.lay_token.specs.declared.token.Token.{Token}
use Rattle.lay_form.specs.BracedEnds.{EndsBraced}
use Rattle.lay_form.specs.Depth.{least_depth}
use Rattle.lay_form.specs.Form.{Bare, Blank, Marked, Nothing, Form, Done, Piece, Part, Deeper, Body}
use Rattle.lay_form.specs.Notation.{N, comma_list}
use Rattle.lay_form.specs.Spelled.{Braced, Spells}
use Rattle.lay_token.specs.Operators.{op_at}
use Rattle.lay_node.proofs.samples.Trees.{named, a, b, closes, mark, opens, word}
use Rattle.lay_node.proofs.samples.Types.{local, local_is}
use Rattle.lay_code.specs.Operands.{expr_lead_at}
use Rattle.lay_code.specs.Operators.{binary, strength}
use Rattle.lay_code.specs.nodes.Blocks.{block_facts, stmt_facts}
use Rattle.lay_code.specs.nodes.Bodies.{sheds}
use Rattle.lay_code.specs.nodes.Code.{about_expr}
use Rattle.lay_code.specs.nodes.Exprs.{ExprFacts, Followed, bar, body_braces, expr_facts, follows, placed}
use Rattle.lay_code.specs.nodes.Places.{FREE, plain}
use Rattle.lay_code.specs.reader.Exprs.{shed}
use Rattle.lay_code.specs.declared.blocks.Stmt.TheOpen.{Expr-F, Stmt-F}
use Rattle.lay_code.specs.declared.blocks.Stmt.TheViews as views
use Rattle.lay_code.specs.declared.exprs.Expr.{Expr}
use Rattle.lay_code.specs.declared.exprs.Expr.TheVariants as expr
use Rattle.lay_code.specs.declared.exprs.Step.TheVariants as step
use Rattle.lay_code.specs.declared.operators.Op.TheVariants as op
use Rattle.lay_code.specs.declared.operators.Prefix.TheVariants as before
use Rattle.lay_code.proofs.nodes.BlocksLaws as blocks
use Rattle.lay_code.proofs.nodes.ExprsLaws as exprs
use Rattle.lay_code.proofs.samples.Blocks.{alone_of, laid_expr}
use Rattle.lay_code.proofs.samples.Exprs.{called, name, name_facts, name_is}

-- ---- trees, and the facts about them

-- `{ x }`
abbrev pub braced : Expr → Expr
braced x = expr.Block None (alone_of x)

abbrev pub braced_facts : ExprFacts → ExprFacts
braced_facts F =
    expr_facts (Expr-F.Block None (block_facts (record { attrs = []; stmts = stmt_facts (Stmt-F.Stmt::Expr [] F false) ∷ [] })))

pub braced_is : (x : Expr) (F : ExprFacts) → about_expr x ≡ F → about_expr (braced x) ≡ braced_facts F
braced_is x F e = rw (exprs.expr_block_is None (alone_of x), blocks.block_is (alone_of x), blocks.stmt_expr_is [] x false, e) refl

-- `|| x`
abbrev pub closure : Expr → Expr
closure x = expr.Closure false false [] x

abbrev closure_facts : ExprFacts → ExprFacts
closure_facts F = expr_facts (Expr-F.Closure false false [] F)

closure_is : (x : Expr) (F : ExprFacts) → about_expr x ≡ F → about_expr (closure x) ≡ closure_facts F
closure_is x F e = exprs.expr_closure_is false false [] x ∙ ap closure_facts e

-- `-x`
abbrev negative : Expr → Expr
negative x = expr.Unary (before.Neg ∷ []) x

abbrev negative_facts : ExprFacts → ExprFacts
negative_facts F = expr_facts (Expr-F.Unary (before.Neg ∷ []) F)

negative_is : (x : Expr) (F : ExprFacts) → about_expr x ≡ F → about_expr (negative x) ≡ negative_facts F
negative_is x F e = exprs.expr_unary_is (before.Neg ∷ []) x ∙ ap negative_facts e

-- `S {}`
abbrev literal : Expr
literal = expr.Struct (local (codes "S")) [] None

abbrev literal_facts : ExprFacts
literal_facts = expr_facts (Expr-F.Expr::Struct (local (codes "S")) [] None)

literal_is : about_expr literal ≡ literal_facts
literal_is = exprs.expr_struct_is (local (codes "S")) [] None

-- `{ S {} }`
abbrev held : Expr
held = braced literal

abbrev held_facts : ExprFacts
held_facts = braced_facts literal_facts

held_is : about_expr held ≡ held_facts
held_is = braced_is literal literal_facts literal_is

abbrev return_facts : ExprFacts
return_facts = expr_facts (Expr-F.Return None)

return_is : about_expr (expr.Return None) ≡ return_facts
return_is = exprs.expr_return_is None

-- ---- which braces go

-- Those of a struct literal stay where none may stand,
stays : sheds (about_expr held).kind true ≡ false
stays = rw (held_is) refl

goes : sheds (about_expr held).kind false ≡ true
goes = rw (held_is) refl

-- and those of others go there too.
goes_too : sheds (about_expr (braced (name a))).kind true ≡ true
goes_too = rw (braced_is (name a) (name_facts a) (name_is a)) refl

call_stays : sheds (about_expr (braced (expr.Call called))).kind false ≡ false
call_stays = rw (braced_is (expr.Call called) (expr_facts (Expr-F.Expr::Call called)) (exprs.expr_call_is called)) refl

-- Of two pairs the inner one stays where no struct literal may stand.
shed_outer : shed true 2 (braced held) ≡ held
unfolding shed
shed_outer =
    rw (
      braced_is held held_facts held_is,
      views.outs-Block None (alone_of held),
      views.outs-Stmt::Expr [] held false,
      held_is,
    )
    refl

shed_both : shed false 3 (braced held) ≡ literal
unfolding shed
shed_both =
    rw (
      braced_is held held_facts held_is,
      views.outs-Block None (alone_of held),
      views.outs-Stmt::Expr [] held false,
      held_is,
      views.outs-Block None (alone_of literal),
      views.outs-Stmt::Expr [] literal false,
      literal_is,
    )
    refl

-- ---- which bodies may be statements

-- `{ a } - b` may not,
chain_starts : (about_expr (expr.Chain (braced (name a)) ((op.Sub, name b) ∷ []))).starts ≡ false
chain_starts = rw (exprs.expr_chain_is (braced (name a)) ((op.Sub, name b) ∷ []), braced_is (name a) (name_facts a) (name_is a)) refl

-- and `{ a }.b` may.
steps_start : (about_expr (expr.Postfix (braced (name a)) (step.Field (named b) ∷ []))).starts ≡ true
steps_start = rw (exprs.expr_postfix_is (braced (name a)) (step.Field (named b) ∷ []), exprs.step_field_is (named b)) refl

-- `|| { S {} }`, which keeps its braces in a condition, may not, and nothing may that ends in it.
keeps_loose : (about_expr (closure held)).tight ≡ false
keeps_loose = rw (closure_is held held_facts held_is) refl

negative_loose : (about_expr (negative (closure held))).tight ≡ false
negative_loose = rw (negative_is (closure held) (closure_facts held_facts) (closure_is held held_facts held_is)) refl

name_tight : (about_expr (closure (name a))).tight ≡ true
name_tight = rw (closure_is (name a) (name_facts a) (name_is a)) refl

never_braced : body_braces (about_expr (closure held)) ≡ Bare
never_braced = rw (closure_is held held_facts held_is) refl

-- ---- which closures are good

-- `|| { S {} }` in a condition, and nowhere else
good_there : placed (about_expr (closure held)) (plain 0 true) ≡ true
good_there = rw (closure_is held held_facts held_is, local_is (codes "S")) refl

bad_elsewhere : placed (about_expr (closure held)) FREE ≡ false
bad_elsewhere = rw (closure_is held held_facts held_is, local_is (codes "S")) refl

-- `|| { a }` nowhere
bad_there : placed (about_expr (closure (braced (name a)))) (plain 0 true) ≡ false
bad_there = rw (closure_is (braced (name a)) (braced_facts (name_facts a)) (braced_is (name a) (name_facts a) (name_is a))) refl

-- In a condition `|| || { S {} }` is good, whose inner closure keeps its braces,
good_inner : placed (about_expr (closure (closure held))) (plain 0 true) ≡ true
good_inner = rw (closure_is (closure held) (closure_facts held_facts) (closure_is held held_facts held_is), local_is (codes "S")) refl

-- and so is `|| { || S {} }`, whose outer one does. Within the braces of the outer one the inner one has none of its own.
good_outer : placed (about_expr (closure (braced (closure literal)))) (plain 0 true) ≡ true
good_outer =
    rw (
      closure_is (braced (closure literal)) (braced_facts (closure_facts literal_facts))
          (braced_is (closure literal) (closure_facts literal_facts) (closure_is literal literal_facts literal_is)),
      local_is (codes "S"),
    )
    refl

bad_both : placed (about_expr (closure (braced (closure held)))) (plain 0 true) ≡ false
bad_both =
    rw (
      closure_is (braced (closure held)) (braced_facts (closure_facts held_facts))
          (braced_is (closure held) (closure_facts held_facts) (closure_is held held_facts held_is)),
      local_is (codes "S"),
    )
    refl

-- ---- how they are laid out

laid_of_89 : laid_expr (closure (name (replicate 86 97))) ≡ codes "|| " ++ replicate 86 97
laid_of_89 = rw (closure_is (name (replicate 86 97)) (name_facts (replicate 86 97)) (name_is (replicate 86 97))) refl

-- A body that doesn't fit its line gets braces.
laid_of_90 : laid_expr (closure (name (replicate 87 97))) ≡ codes "|| {\n    " ++ (replicate 87 97 ++ codes "\n}")
laid_of_90 = rw (closure_is (name (replicate 87 97)) (name_facts (replicate 87 97)) (name_is (replicate 87 97))) refl

laid_call : laid_expr (closure (expr.Call called)) ≡ codes "|| m! {}"
laid_call = rw (closure_is (expr.Call called) (expr_facts (Expr-F.Expr::Call called)) (exprs.expr_call_is called)) refl

-- So does `{ a }.b`, which never fits, and `{ a } - b` doesn't, which is no statement.
laid_steps : laid_expr (closure (expr.Postfix (braced (name a)) (step.Field (named b) ∷ [])))
    ≡ codes "|| {\n    {\n        a\n    }.b\n}"
laid_steps =
    rw (
      exprs.expr_closure_is false false [] (expr.Postfix (braced (name a)) (step.Field (named b) ∷ [])),
      exprs.expr_postfix_is (braced (name a)) (step.Field (named b) ∷ []),
      exprs.step_field_is (named b),
      braced_is (name a) (name_facts a) (name_is a),
    )
    refl

laid_chain : laid_expr (closure (expr.Chain (braced (name a)) ((op.Sub, name b) ∷ []))) ≡ codes "|| {\n        a\n    } - b"
laid_chain =
    rw (
      exprs.expr_closure_is false false [] (expr.Chain (braced (name a)) ((op.Sub, name b) ∷ [])),
      exprs.expr_chain_is (braced (name a)) ((op.Sub, name b) ∷ []),
      braced_is (name a) (name_facts a) (name_is a),
      name_is b,
    )
    refl

-- Nor does a closure that keeps its braces.
laid_kept : laid_expr (closure (closure held)) ≡ codes "|| || {\n    S {}\n}"
laid_kept = rw (closure_is (closure held) (closure_facts held_facts) (closure_is held held_facts held_is), local_is (codes "S")) refl

-- ---- how they are spelled

abbrev bars : List Token → List Token
bars ts = mark (codes "|") ∷ mark (codes "|") ∷ ts

abbrev semicolon : Token
semicolon = mark (codes ";")

-- `{ts}`
abbrev pair : Token → List Token → List Token
pair t ts = opens Brace ∷ t ∷ closes Brace ∷ ts

word_spelled : (text : List ℕ) (ts : List Token) → Spells (name_facts text).form 1 (word text ∷ ts) ts
word_spelled text ts = (_, (_, refl, (_, (refl, refl, refl), (_, refl, refl))), refl)

in_pair : (R : List Token → List Token → Type 0) (ts rest : List Token) → R ts (closes Brace ∷ rest) → Braced 1 R (opens Brace ∷ ts) rest
in_pair R ts rest r =
    (_, (_, (_, (refl, refl, refl), (_, (0, refl), refl)), refl), (_, r, (_, (_, (refl, refl, refl), refl), refl)))

-- two pairs, where a `;` stands after the first brace
in_pairs : (R : List Token → List Token → Type 0) (ts rest : List Token) → R ts (closes Brace ∷ closes Brace ∷ rest)
    → Braced 2 R (opens Brace ∷ semicolon ∷ opens Brace ∷ ts) rest
in_pairs R ts rest r = (
  _,
  (_, (_, (refl, refl, refl), (_, (1, (_, (refl, refl, refl), refl)), refl)), (_, (_, (refl, refl, refl), (_, (0, refl), refl)), refl)),
  (_, r, (_, (_, (refl, refl, refl), refl), (_, (_, (refl, refl, refl), refl), refl))),
)

-- the form of a closure whose body is broken in braces
abbrev marked : Form → Form
marked f = Deeper (Part (comma_list true bar bar []) (Piece (Blank ∷ []) (N (Body Marked Nothing f Done)))) Done

bars_spelled : (depth : ℕ) (ts : List Token) → Spells (comma_list true bar bar []) depth (bars ts) ts
bars_spelled depth ts = (_, (_, (refl, refl, refl), (_, (refl, refl, refl), refl)), refl)

spelled : (f : Form) (depth : ℕ) (ts rest : List Token) → Spells (Body Marked Nothing f Done) depth ts rest
    → Spells (marked f) (suc depth) (bars ts) rest
spelled f depth ts rest s = (_, (_, bars_spelled depth ts, (_, (_, refl, refl), s)), refl)

name_spelled : (depth : ℕ) (ts : List Token) → Spells (Body Marked Nothing (name_facts a).form Done) depth ts []
    → Spells (about_expr (closure (name a))).form (suc depth) (bars ts) []
name_spelled depth ts s =
    subst (λ (F : ExprFacts). Spells F.form (suc depth) (bars ts) []) (sym (closure_is (name a) (name_facts a) (name_is a)))
    (spelled (name_facts a).form depth ts [] s)

-- `||a` and `||{a}` at depth 3, where `a` stands at 1,
no_pair : Spells (about_expr (closure (name a))).form 3 (bars (word a ∷ [])) []
no_pair = name_spelled 2 (word a ∷ []) (0, tt, omega arith, (_, (_, refl, (_, word_spelled a [], refl)), (_, refl, refl)))

one_pair : Spells (about_expr (closure (name a))).form 3 (bars (pair (word a) [])) []
one_pair =
    name_spelled 2 (pair (word a) [])
    (1, tt, omega arith, (_, in_pair (Spells (name_facts a).form 1) (word a ∷ closes Brace ∷ []) [] (word_spelled a (closes Brace ∷ [])), (_, refl, refl)))

least_three : least_depth (about_expr (closure (name a))).form ≡ 3
least_three = rw (closure_is (name a) (name_facts a) (name_is a)) refl

-- and `||{;{a}}` at depth 4
two_pairs : Spells (about_expr (closure (name a))).form 4 (bars (opens Brace ∷ semicolon ∷ pair (word a) (closes Brace ∷ []))) []
two_pairs = name_spelled 3 (opens Brace ∷ semicolon ∷ pair (word a) (closes Brace ∷ [])) (
  2,
  tt,
  omega arith,
  (
    _,
    in_pairs (Spells (name_facts a).form 1) (word a ∷ closes Brace ∷ closes Brace ∷ []) [] (word_spelled a (closes Brace ∷ closes Brace ∷ [])),
    (_, refl, refl),
  ),
)

-- ---- what ends within braces that aren't in the tree, and what may follow it

ends : (f : Form) (depth : ℕ) (ts rest : List Token) → EndsBraced (Body Marked Nothing f Done) depth ts rest
    → EndsBraced (marked f) (suc depth) (bars ts) rest
ends f depth ts rest w = inr (inl (_, bars_spelled depth ts, (_, (_, refl, refl), w)), refl)

body_ends : (f : Form) (ts rest : List Token) → Spells f 1 ts (closes Brace ∷ rest) → EndsBraced (Body Marked Nothing f Done) 2 (opens Brace ∷ ts) rest
body_ends f ts rest s = (1, tt, omega arith, inr (inl (omega arith, in_pair (Spells f 1) ts rest s, refl, refl)))

name_ends : EndsBraced (marked (name_facts a).form) 3 (bars (pair (word a) [])) []
name_ends =
    ends (name_facts a).form 2 (pair (word a) []) []
    (body_ends (name_facts a).form (word a ∷ closes Brace ∷ []) [] (word_spelled a (closes Brace ∷ [])))

-- `-||{a}`
negative_ends : EndsBraced (about_expr (negative (closure (name a)))).form 4 (mark (codes "-") ∷ bars (pair (word a) [])) []
negative_ends =
    subst (λ (F : ExprFacts). EndsBraced F.form 4 (mark (codes "-") ∷ bars (pair (word a) [])) [])
    (sym (negative_is (closure (name a)) (closure_facts (name_facts a)) (closure_is (name a) (name_facts a) (name_is a))))
    (inr ((_, (_, (refl, refl, refl), refl), inr (name_ends, refl)), refl))

-- `||return` isn't followed by a name, which would be its operand,
bare_return : follows (about_expr (closure (expr.Return None))) FREE (word a ∷ []) ≡ false
unfolding expr_lead_at binary strength op_at
bare_return = rw (closure_is (expr.Return None) return_facts return_is) refl

-- and `||{return}` is.
abbrev before_name : List Token
before_name = bars (pair (word (codes "return")) (word a ∷ []))

return_spelled : (ts : List Token) → Spells return_facts.form 1 (word (codes "return") ∷ ts) ts
return_spelled ts = (_, (_, (_, (refl, refl, refl), refl), refl), refl)

return_ends : EndsBraced (marked return_facts.form) 3 before_name (word a ∷ [])
return_ends =
    ends return_facts.form 2 (pair (word (codes "return")) (word a ∷ [])) (word a ∷ [])
    (body_ends return_facts.form (word (codes "return") ∷ closes Brace ∷ word a ∷ []) (word a ∷ []) (return_spelled (closes Brace ∷ word a ∷ [])))

braced_return : Followed (about_expr (closure (expr.Return None))) FREE 3 before_name (word a ∷ [])
unfolding binary strength op_at
braced_return = inr (
  subst (λ (F : ExprFacts). EndsBraced F.form 3 before_name (word a ∷ [])) (sym (closure_is (expr.Return None) return_facts return_is)) return_ends,
  refl,
)
