-- Gaps: the white space and the plain comments between pieces (Rust Reference, "Whitespace",
-- "Comments"). An automaton reads the characters of a gap. It needs no lookahead.
use Rattle.std.specs.Prelude.{ℕ, Bool, true, false, cond, ◌==◌, List, [], ◌∷◌}
use Rattle.lay_piece.specs.Characters as char
use Rattle.lay_piece.specs.Chars.{is_white}
use Rattle.lay_piece.specs.Scan.{Next, Go, End, Bad}
use Rattle.lay_piece.specs.Quoted.{InBlock, Deep, Star, block_step}

pub data InGap : Type 0 where
  -- between comments
  Outside : InGap
  -- after /
  Opening : InGap
  -- after //
  Two : InGap
  -- after ///
  Three : InGap
  -- in a plain line comment
  Line : InGap
  -- after /*
  Block : InGap
  -- after /**
  BlockStar : InGap
  -- in a plain block comment
  Within : InBlock → InGap
  -- no gap
  Spoilt : InGap

abbrev pub in_block : Next InBlock → InGap
in_block (Go b) = Within b
in_block End = Outside
in_block Bad = Spoilt

-- Neither /// (save ////) nor //! begins a plain comment, nor /** (save /*** and /**/) nor /*!.
unfoldable pub gap_step : InGap → ℕ → InGap
gap_step Outside c = cond (is_white c) Outside (cond (c == char.slash) Opening Spoilt)
gap_step Opening c = cond (c == char.slash) Two (cond (c == char.star) Block Spoilt)
gap_step Two c = cond (c == char.line_feed) Outside (cond (c == char.slash) Three (cond (c == char.bang) Spoilt Line))
gap_step Three c = cond (c == char.slash) Line Spoilt
gap_step Line c = cond (c == char.line_feed) Outside Line
gap_step Block c = cond (c == char.bang) Spoilt (cond (c == char.star) BlockStar (in_block (block_step (Deep 0) c)))
gap_step BlockStar c = cond (c == char.star) (Within (Star 0)) (cond (c == char.slash) Outside Spoilt)
gap_step (Within b) c = in_block (block_step b c)
gap_step Spoilt c = Spoilt

-- the state after these characters
abbrev pub gap_end : InGap → List ℕ → InGap
gap_end s [] = s
gap_end s (c ∷ cs) = gap_end (gap_step s c) cs

abbrev pub is_closed : InGap → Bool
is_closed Outside = true
is_closed _ = false

-- A gap at the end of the whole text may end within a line comment.
abbrev pub is_closed_or_line : InGap → Bool
is_closed_or_line Outside = true
is_closed_or_line Two = true
is_closed_or_line Line = true
is_closed_or_line _ = false

abbrev pub is_gap : List ℕ → Bool
is_gap cs = is_closed (gap_end Outside cs)

abbrev pub is_last_gap : List ℕ → Bool
is_last_gap cs = is_closed_or_line (gap_end Outside cs)
