-- Samples of blocks, statements, control flow and closures: how they are laid out.
use Rattle.std.proofs.Common.{◌≡◌, ℕ, true, false, List, [], ◌∷◌, ◌++◌, Option, Some, None, codes, ap, ◌∙◌, refl}
use Rattle.std.specs.Prelude.{replicate}
use Rattle.lay_node.specs.declared.types.Ty.{Ty}
use Rattle.lay_node.proofs.nodes.PatternsLaws as pats
use Rattle.lay_node.proofs.samples.Trees.{named, a, b, c, laid}
use Rattle.lay_node.proofs.samples.Types.{named_is}
use Rattle.lay_code.specs.nodes.Blocks.{arm_facts, block_facts, stmt_facts}
use Rattle.lay_code.specs.nodes.Code.{about_arm, about_block, about_expr, about_link, about_stmt}
use Rattle.lay_code.specs.nodes.CodeFacts.{ArmFacts, BlockFacts}
use Rattle.lay_code.specs.nodes.Conditions.{link_facts}
use Rattle.lay_code.specs.nodes.Exprs.{ExprFacts, expr_facts}
use Rattle.lay_code.specs.declared.blocks.Arm.{Arm}
use Rattle.lay_code.specs.declared.blocks.Block.{Block}
use Rattle.lay_code.specs.declared.blocks.Branch.{Branch}
use Rattle.lay_code.specs.declared.blocks.Stmt.{Stmt}
use Rattle.lay_code.specs.declared.blocks.Stmt.TheOpen.{Expr-F, Link-F, Stmt-F}
use Rattle.lay_code.specs.declared.blocks.Stmt.TheVariants as stmt
use Rattle.lay_code.specs.declared.conditions.Condition.{Condition}
use Rattle.lay_code.specs.declared.conditions.Link.{Link}
use Rattle.lay_code.specs.declared.conditions.Link.TheVariants as link
use Rattle.lay_code.specs.declared.exprs.ClosureParam.{ClosureParam}
use Rattle.lay_code.specs.declared.exprs.Expr.{Expr}
use Rattle.lay_code.specs.declared.exprs.Expr.TheVariants as expr
use Rattle.lay_code.specs.declared.item.ItemKind.TheVariants as item
use Rattle.lay_code.proofs.nodes.BlocksLaws as blocks
use Rattle.lay_code.proofs.nodes.ExprsLaws as exprs
use Rattle.lay_code.proofs.nodes.ItemLaws as items
use Rattle.lay_code.proofs.samples.Exprs.{name, name_facts, name_is, named_type, tick_a}
use Rattle.lay_code.proofs.samples.Heads.{fn_of, name_pat}
use Rattle.lay_code.proofs.samples.ItemTrees.{about, item_of, kind_is, no_wheres}

-- ---- trees

abbrev pub block_of : List Stmt → Block
block_of stmts = record { attrs = []; stmts = stmts }

-- `{ a }`
abbrev pub alone_of : Expr → Block
alone_of x = block_of (stmt.Expr [] x false ∷ [])

-- `a; b`
abbrev pub ended_then : Expr → Expr → List Stmt
ended_then x y = stmt.Expr [] x true ∷ stmt.Expr [] y false ∷ []

-- `a`, and `let a = b`
abbrev pub name_link : List ℕ → Link
name_link text = link.Expr (name text)

abbrev pub name_let : List ℕ → List ℕ → Link
name_let text value = link.Let (name_pat text) (name value)

abbrev pub of_links : List Link → Condition
of_links links = record { links = links }

abbrev pub branch_of : List Link → List ℕ → Branch
branch_of links body = record { condition = of_links links; body = alone_of (name body) }

abbrev pub arm_of : List ℕ → Expr → Arm
arm_of text body = record { attrs = []; pat = name_pat text; guard = None; body = body }

abbrev pub param_named : List ℕ → Option Ty → ClosureParam
param_named text x = record { attrs = []; pat = name_pat text; ty = x }

-- ---- the facts about them

pub alone_is : (text : List ℕ) → about_block (alone_of (name text))
    ≡ block_facts (record { attrs = []; stmts = stmt_facts (Stmt-F.Stmt::Expr [] (name_facts text) false) ∷ [] })
alone_is text = rw (blocks.block_is (alone_of (name text)), blocks.stmt_expr_is [] (name text) false, name_is text) refl

abbrev pair_facts : BlockFacts
pair_facts = block_facts (record {
  attrs = [];
  stmts = stmt_facts (Stmt-F.Stmt::Expr [] (name_facts a) true) ∷ stmt_facts (Stmt-F.Stmt::Expr [] (name_facts b) false) ∷ [];
})

pub pair_is : about_block (block_of (ended_then (name a) (name b))) ≡ pair_facts
pair_is =
    rw (
      blocks.block_is (block_of (ended_then (name a) (name b))),
      blocks.stmt_expr_is [] (name a) true,
      blocks.stmt_expr_is [] (name b) false,
      name_is a,
      name_is b,
    )
    refl

pub name_link_is : (text : List ℕ) → about_link (name_link text) ≡ link_facts (Link-F.Link::Expr (name_facts text))
name_link_is text = blocks.link_expr_is (name text) ∙ ap (λ (F : ExprFacts). link_facts (Link-F.Link::Expr F)) (name_is text)

pub name_let_is : (text value : List ℕ) → about_link (name_let text value) ≡ link_facts (Link-F.Link::Let (name_pat text) (name_facts value))
name_let_is text value =
    blocks.link_let_is (name_pat text) (name value) ∙ ap (λ (F : ExprFacts). link_facts (Link-F.Link::Let (name_pat text) F)) (name_is value)

abbrev pub laid_expr : Expr → List ℕ
laid_expr x = laid (record { form = (about_expr x).form; good = true; refuses = [] })

abbrev laid_stmt : Stmt → List ℕ
laid_stmt s = laid (record { form = (about_stmt s).form; good = true; refuses = [] })

-- ---- blocks

laid_empty : laid_expr (expr.Block None (block_of [])) ≡ codes "{}"
laid_empty = rw (exprs.expr_block_is None (block_of []), blocks.block_is (block_of [])) refl

laid_labelled : laid_expr (expr.Block (Some tick_a) (alone_of (name b))) ≡ codes "'a: {\n    b\n}"
laid_labelled = rw (exprs.expr_block_is (Some tick_a) (alone_of (name b)), alone_is b) refl

-- a `;` between statements
laid_pair : laid_expr (expr.Block None (block_of (ended_then (name a) (name b)))) ≡ codes "{\n    a;\n    b\n}"
laid_pair = rw (exprs.expr_block_is None (block_of (ended_then (name a) (name b))), pair_is) refl

-- A block of one expression stands on one line after `unsafe`,
laid_unsafe : laid_expr (expr.Unsafe (alone_of (name a))) ≡ codes "unsafe { a }"
laid_unsafe = rw (exprs.expr_unsafe_is (alone_of (name a)), alone_is a) refl

laid_unsafe_of_89 : laid_expr (expr.Unsafe (alone_of (name (replicate 78 97)))) ≡ codes "unsafe { " ++ (replicate 78 97 ++ codes " }")
laid_unsafe_of_89 = rw (exprs.expr_unsafe_is (alone_of (name (replicate 78 97))), alone_is (replicate 78 97)) refl

-- where it fits there.
laid_unsafe_of_90 : laid_expr (expr.Unsafe (alone_of (name (replicate 79 97)))) ≡ codes "unsafe {\n    " ++ (replicate 79 97 ++ codes "\n}")
laid_unsafe_of_90 = rw (exprs.expr_unsafe_is (alone_of (name (replicate 79 97))), alone_is (replicate 79 97)) refl

-- With a `;` it doesn't.
laid_unsafe_pair : laid_expr (expr.Unsafe (block_of (ended_then (name a) (name b)))) ≡ codes "unsafe {\n    a;\n    b\n}"
laid_unsafe_pair = rw (exprs.expr_unsafe_is (block_of (ended_then (name a) (name b))), pair_is) refl

laid_const : laid_expr (expr.ConstBlock (alone_of (name a))) ≡ codes "const { a }"
laid_const = rw (exprs.expr_const_block_is (alone_of (name a)), alone_is a) refl

laid_async : laid_expr (expr.Async true (alone_of (name a))) ≡ codes "async move {\n    a\n}"
laid_async = rw (exprs.expr_async_is true (alone_of (name a)), alone_is a) refl

-- ---- control flow

laid_if : laid_expr (expr.If (branch_of (name_link a ∷ []) b ∷ []) (Some (alone_of (name c)))) ≡ codes "if a { b } else { c }"
laid_if =
    rw (
      exprs.expr_if_is (branch_of (name_link a ∷ []) b ∷ []) (Some (alone_of (name c))),
      blocks.branch_is (branch_of (name_link a ∷ []) b),
      blocks.condition_is (of_links (name_link a ∷ [])),
      name_link_is a,
      alone_is b,
      alone_is c,
    )
    refl

laid_else_if : laid_expr (expr.If (branch_of (name_link a ∷ []) b ∷ branch_of (name_let c a ∷ []) b ∷ []) None)
    ≡ codes "if a { b } else if let c = a { b }"
laid_else_if =
    rw (
      exprs.expr_if_is (branch_of (name_link a ∷ []) b ∷ branch_of (name_let c a ∷ []) b ∷ []) None,
      blocks.branch_is (branch_of (name_link a ∷ []) b),
      blocks.branch_is (branch_of (name_let c a ∷ []) b),
      blocks.condition_is (of_links (name_link a ∷ [])),
      blocks.condition_is (of_links (name_let c a ∷ [])),
      name_link_is a,
      name_let_is c a,
      alone_is b,
      pats.pat_bind_is false false (named c) None,
    )
    refl

laid_match : laid_expr (expr.Match (name a) [] (arm_of b (name c) ∷ [])) ≡ codes "match a {\n    b => c,\n}"
laid_match =
    rw (
      exprs.expr_match_is (name a) [] (arm_of b (name c) ∷ []),
      blocks.arm_is (arm_of b (name c)),
      name_is a,
      name_is c,
      pats.pat_bind_is false false (named b) None,
    )
    refl

-- A body of several statements keeps its braces, and no comma stands after them.
abbrev pair : Expr
pair = expr.Block None (block_of (ended_then (name a) (name b)))

abbrev pair_expr : ExprFacts
pair_expr = expr_facts (Expr-F.Block None pair_facts)

pair_expr_is : about_expr pair ≡ pair_expr
pair_expr_is =
    exprs.expr_block_is None (block_of (ended_then (name a) (name b)))
    ∙ ap (λ (B : BlockFacts). expr_facts (Expr-F.Block None B)) pair_is

arm_pair_is : about_arm (arm_of c pair) ≡ arm_facts (record { attrs = []; pat = name_pat c; guard = None; body = pair_expr })
arm_pair_is =
    blocks.arm_is (arm_of c pair)
    ∙ ap (λ (x : ExprFacts). arm_facts (record { attrs = []; pat = name_pat c; guard = None; body = x })) pair_expr_is

match_pair_is : about_expr (expr.Match (name a) [] (arm_of c pair ∷ []))
    ≡ expr_facts (Expr-F.Match (name_facts a) [] (arm_facts (record { attrs = []; pat = name_pat c; guard = None; body = pair_expr }) ∷ []))
match_pair_is =
    exprs.expr_match_is (name a) [] (arm_of c pair ∷ [])
    ∙ ap (λ (x : ExprFacts). expr_facts (Expr-F.Match x [] (about_arm (arm_of c pair) ∷ []))) (name_is a)
    ∙ ap (λ (A : ArmFacts). expr_facts (Expr-F.Match (name_facts a) [] (A ∷ []))) arm_pair_is

laid_match_block : laid_expr (expr.Match (name a) [] (arm_of c pair ∷ []))
    ≡ codes "match a {\n    c => {\n        a;\n        b\n    }\n}"
laid_match_block =
    ap (λ (F : ExprFacts). laid (record { form = F.form; good = true; refuses = [] })) match_pair_is
    ∙ rw (pats.pat_bind_is false false (named c) None) refl

laid_loop : laid_expr (expr.Loop (Some tick_a) (alone_of (name b))) ≡ codes "'a: loop {\n    b\n}"
laid_loop = rw (exprs.expr_loop_is (Some tick_a) (alone_of (name b)), alone_is b) refl

laid_while_let : laid_expr (expr.While None (of_links (name_let a b ∷ [])) (alone_of (name c))) ≡ codes "while let a = b {\n    c\n}"
laid_while_let =
    rw (
      exprs.expr_while_is None (of_links (name_let a b ∷ [])) (alone_of (name c)),
      blocks.condition_is (of_links (name_let a b ∷ [])),
      name_let_is a b,
      alone_is c,
      pats.pat_bind_is false false (named a) None,
    )
    refl

laid_for : laid_expr (expr.For None (name_pat a) (name b) (alone_of (name c))) ≡ codes "for a in b {\n    c\n}"
laid_for =
    rw (
      exprs.expr_for_is None (name_pat a) (name b) (alone_of (name c)),
      name_is b,
      alone_is c,
      pats.pat_bind_is false false (named a) None,
    )
    refl

-- ---- closures

laid_closure : laid_expr (expr.Closure false true (param_named a None ∷ param_named b (Some (named_type (codes "u8"))) ∷ []) (name c))
    ≡ codes "move |a, b: u8| c"
laid_closure =
    rw (
      exprs.expr_closure_is false true (param_named a None ∷ param_named b (Some (named_type (codes "u8"))) ∷ []) (name c),
      name_is c,
      named_is (codes "u8"),
      pats.pat_bind_is false false (named a) None,
      pats.pat_bind_is false false (named b) None,
    )
    refl

laid_no_params : laid_expr (expr.Closure false false [] (name c)) ≡ codes "|| c"
laid_no_params = rw (exprs.expr_closure_is false false [] (name c), name_is c) refl

laid_async_closure : laid_expr (expr.Closure true false [] (name c)) ≡ codes "async || c"
laid_async_closure = rw (exprs.expr_closure_is true false [] (name c), name_is c) refl

laid_async_move : laid_expr (expr.Closure true true [] (name c)) ≡ codes "async move || c"
laid_async_move = rw (exprs.expr_closure_is true true [] (name c), name_is c) refl

laid_typed_closure : laid_expr (expr.TypedClosure false false (param_named a None ∷ []) (named_type (codes "u8")) (alone_of (name b)))
    ≡ codes "|a| -> u8 {\n    b\n}"
laid_typed_closure =
    rw (
      exprs.expr_typed_closure_is false false (param_named a None ∷ []) (named_type (codes "u8")) (alone_of (name b)),
      alone_is b,
      named_is (codes "u8"),
      pats.pat_bind_is false false (named a) None,
    )
    refl

-- ---- statements and functions

laid_let : laid_stmt (stmt.Let [] (name_pat a) (Some (named_type (codes "u8"))) (Some (name b)) None) ≡ codes "let a: u8 = b;"
laid_let =
    rw (
      blocks.stmt_let_is [] (name_pat a) (Some (named_type (codes "u8"))) (Some (name b)) None,
      name_is b,
      named_is (codes "u8"),
      pats.pat_bind_is false false (named a) None,
    )
    refl

laid_let_else : laid_stmt (stmt.Let [] (name_pat a) None (Some (name b)) (Some (alone_of (name c)))) ≡ codes "let a = b else {\n    c\n};"
laid_let_else =
    rw (
      blocks.stmt_let_is [] (name_pat a) None (Some (name b)) (Some (alone_of (name c))),
      name_is b,
      alone_is c,
      pats.pat_bind_is false false (named a) None,
    )
    refl

laid_function : laid (about (item_of [] (item.Function (fn_of None a [] None) no_wheres (Some (alone_of (name b))))))
    ≡ codes "fn a() {\n    b\n}"
laid_function = rw (kind_is [] _ _ (items.function_is (fn_of None a [] None) no_wheres (Some (alone_of (name b)))), alone_is b) refl
