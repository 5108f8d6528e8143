-- Blocks and statements that stand by themselves at the beginning of the tokens.
use Rattle.std.specs.Prelude.{ℕ, zero, suc, not, ◌&&◌, ◌||◌, Bool, true, false, if◌then◌else◌, codes, Some, None}
use Rattle.lay_node.specs.Ahead.{Tokens, at_end, first, is_mark}
use Rattle.lay_node.specs.nodes.Facts.{Told, ToldFront, by_itself}
use Rattle.lay_node.specs.reader.Loops.{Read, ◌>>=◌}
use Rattle.lay_code.specs.nodes.Code.{about_block, about_expr, about_stmt}
use Rattle.lay_code.specs.nodes.Exprs.{follows}
use Rattle.lay_code.specs.nodes.Layers.{StmtNode}
use Rattle.lay_code.specs.nodes.Places.{statement}
use Rattle.lay_code.specs.reader.Blocks.{stmt_by}
use Rattle.lay_code.specs.reader.Code.{code_in}
use Rattle.lay_code.specs.reader.Within.{ExprWithin}
use Rattle.lay_code.specs.declared.blocks.Block.{Block}
use Rattle.lay_code.specs.declared.blocks.Stmt.{Stmt}
use Rattle.lay_code.specs.declared.blocks.Stmt.TheOpen.{Stmt-F}
use Rattle.lay_code.specs.declared.blocks.Stmt.TheViews.{out-Stmt}

-- Any token may follow a block.
abbrev pub block_told : Block → Told
block_told x = record { form = (about_block x).form false; good = (about_block x).good; follows = λ ts. true }

abbrev pub BlockFront : Block → Tokens → ℕ → ℕ → Type 0
BlockFront x = ToldFront (by_itself (block_told x))

-- Which tokens may follow a statement. After an expression without its `;` none may that is a `;`
-- or that would go on with it. Then no token at all may follow, unless the expression is
-- block-like. Any token may follow every other statement.
abbrev pub follows_in : StmtNode → Tokens → Bool
follows_in (Stmt-F.Stmt::Expr attrs x false) ts =
    follows (about_expr x) statement ts && not (first (is_mark (codes ";")) ts) && ((about_expr x).block_like || at_end ts)
follows_in _ ts = true

abbrev pub stmt_follows : Stmt → Tokens → Bool
stmt_follows x = follows_in (out-Stmt x)

abbrev pub stmt_told : Stmt → Told
stmt_told x = record { form = (about_stmt x).form; good = (about_stmt x).good; follows = stmt_follows x }

abbrev pub StmtFront : Stmt → Tokens → ℕ → ℕ → Type 0
StmtFront x = ToldFront (by_itself (stmt_told x))

-- ---- readings

-- A node of code by itself. The code within it is one level deeper.
abbrev pub alone : {A : Type 0} → (ExprWithin → Tokens → Read A) → ℕ → Tokens → Read A
alone one zero ts = None
alone one (suc budget) ts = do x ← one (code_in budget) ts; Some ((x.0.0, suc x.0.1), x.1)

-- A statement by itself. It ends by itself, or it is the last of the tokens.
abbrev pub stmt_alone : ExprWithin → Tokens → Read Stmt
stmt_alone within ts = do s ← stmt_by within ts; if (about_stmt s.0.0).ends || at_end s.1 then Some s else None
