use Rattle.std.proofs.Common.{◌≡◌, ◌∙◌, ℕ, List, ◌++◌, Option, ap, subst, arith}
use Rattle.std.specs.Option.{option_to_list}
use Rattle.lay_code.specs.declared.blocks.Block.{Block}
use Rattle.lay_code.specs.declared.blocks.Stmt.{Stmt}
use Rattle.lay_code.specs.declared.exprs.Expr.{Expr}
use Rattle.lay_build_types.specs.Answers.{AreParts}
use Rattle.lay_build_types.specs.Kinds.{IsBlock, IsStmt, form_of_block, form_of_stmt}
use Rattle.lay_build_types.proofs.AnswerLemmas.{Is, part_of}
use Rattle.lay_build.specs.Nodes as node
use Rattle.lay_build.proofs.BlockLemmas.{block_made, block_need}
use Rattle.lay_build.proofs.blocks.block.Goals as goal
use Rattle.lay_build_exprs.proofs.JoinLemmas.{both_parts}

pub kept-requires : goal.kept-requires
kept-requires c =
    let ss = c.args.stmts in
    let tail = c.args.tail in
    let tails = c.part_or_none-tail.ensures in
    let ended = c.part_or_none-tail.result in
    let stmts = c.in_ok-stmts.stmts in
    let last = c.in_ok-stmts.last in
    let need = c.max.result in
    let got =
    both_parts (AreParts form_of_stmt IsStmt ss) (λ (s : Option Stmt). option_to_list s ≡ node.tail_stmt ended.0)
    c.nodes.result c.tail_stmt.result stmts last c.nodes.ensures c.tail_stmt.ensures c.in_ok-stmts.ensures in
    let same =
    ap (λ (xs : List Stmt). node.block_of (xs ++ option_to_list last)) got.0.same
    ∙ ap (λ (xs : List Stmt). node.block_of (ss ++ xs)) got.1
    ∙ ap (λ (p : Option Expr × ℕ). node.block ss p.0) tails.part in
    let deep = ap (λ (p : Option Expr × ℕ). p.1) tails.part in
    let whole = block_need ss tail in
    part_of form_of_block IsBlock (node.block ss tail) need c.block_of.result
    (subst (λ (b : Block). Is b need c.block_of.result) same c.block_of.ensures)
    (omega (arith, c.max.ensures, got.0.need, deep, whole))
    (block_made tail tails.kept ss got.0.kept)
