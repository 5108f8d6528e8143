-- What follows a gap, as the code scans it.
use Rattle.std.specs.Prelude.{ℕ, cond, List, [], ◌∷◌, Option, Some, None}
use Rattle.lay_piece.specs.Quoted as block
use Rattle.lay_piece.specs.Gap.{InGap, Outside, Opening, Two, Three, Line, Block, BlockStar, Within, Spoilt, gap_step, is_closed, is_closed_or_line}
use Rattle.lay_lex.specs.declared.gap.InBlock.{InBlock}
use Rattle.lay_lex.specs.declared.gap.InBlock.TheVariants as comment
use Rattle.lay_lex.specs.declared.gap.State.{State}
use Rattle.lay_lex.specs.declared.gap.State.TheVariants as state

-- the states of the code, as states of the definitions
abbrev pub in_comment : InBlock → block.InBlock
in_comment (comment.Deep n) = block.Deep n
in_comment (comment.Star n) = block.Star n
in_comment (comment.Slash n) = block.Slash n

abbrev pub in_gap : State → InGap
in_gap state.Outside = Outside
in_gap state.Opening = Opening
in_gap state.Two = Two
in_gap state.Three = Three
in_gap state.Line = Line
in_gap state.Block = Block
in_gap state.BlockStar = BlockStar
in_gap (state.Within b) = Within (in_comment b)
in_gap state.Spoilt = Spoilt

-- how many comments are open around the innermost one
abbrev pub open_around : InBlock → ℕ
open_around (comment.Deep n) = n
open_around (comment.Star n) = n
open_around (comment.Slash n) = n

abbrev pub depth : State → ℕ
depth (state.Within b) = open_around b
depth _ = 0

-- The rest after the last place where the gap is closed; `closed` is that rest so far. None where
-- the text may end within the gap.
abbrev pub rest_of : InGap → List ℕ → List ℕ → Option (List ℕ)
rest_of s closed [] = cond (is_closed_or_line s) None (Some closed)
rest_of s closed (c ∷ cs) = let t = gap_step s c in rest_of t (cond (is_closed t) cs closed) cs
