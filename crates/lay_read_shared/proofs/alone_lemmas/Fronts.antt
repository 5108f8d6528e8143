-- Blocks and statements by themselves are read exactly where they stand.
use Rattle.std.proofs.Common.{◌≡◌, ℕ, false, refl}
use Rattle.lay_node.specs.Ahead.{Tokens}
use Rattle.lay_node.specs.reader.Exact.{Exact}
use Rattle.lay_node.proofs.reader.Exact.{one_by_reading}
use Rattle.lay_code.specs.reader.Blocks.{block_by}
use Rattle.lay_code.specs.declared.blocks.Block.{Block}
use Rattle.lay_code.specs.declared.blocks.Stmt.{Stmt}
use Rattle.lay_code.proofs.reader.BlocksComplete.{block_form_read}
use Rattle.lay_code.proofs.reader.BlocksSoundWhole.{block_sound}
use Rattle.lay_code.proofs.reader.FrontsHeld.{fronts}
use Rattle.lay_read_shared.specs.alone.Fronts.{BlockFront, StmtFront, alone, block_told, stmt_alone, stmt_told}
use Rattle.lay_read_shared.proofs.alone_lemmas.Alone.{CompleteNode, SoundNode, alone_exact}
use Rattle.lay_read_shared.proofs.alone_lemmas.StmtAlone.{stmt_alone_read, stmt_alone_sound}

block_alone_sound : SoundNode block_told block_by
block_alone_sound budget within sound ts x rest t h =
    let s = block_sound budget within sound ts x rest t h in ((s.0.need, s.0.form false, s.0.good, refl), s.1)

block_alone_read : CompleteNode block_told block_by
block_alone_read depth within reads x ts rest s g f = block_form_read fronts depth within reads x false ts rest s g

pub blocks_exact : Exact (alone block_by) BlockFront
blocks_exact = alone_exact block_told block_by block_alone_sound block_alone_read

pub stmts_exact : Exact (alone stmt_alone) StmtFront
stmts_exact = alone_exact stmt_told stmt_alone stmt_alone_sound stmt_alone_read

-- So at most one block and one count of tokens fit.
pub one_block : (node other : Block) (ts : Tokens) (n m depth : ℕ) → BlockFront node ts n depth → BlockFront other ts m depth
    → (node ≡ other) × (n ≡ m)
one_block = one_by_reading BlockFront (alone block_by) (λ x ts n depth f. f.0) blocks_exact

-- So does at most one statement.
pub one_stmt : (node other : Stmt) (ts : Tokens) (n m depth : ℕ) → StmtFront node ts n depth → StmtFront other ts m depth
    → (node ≡ other) × (n ≡ m)
one_stmt = one_by_reading StmtFront (alone stmt_alone) (λ x ts n depth f. f.0) stmts_exact
