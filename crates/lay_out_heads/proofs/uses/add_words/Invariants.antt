use Rattle.std.proofs.Common.{[], map, take}
use Rattle.lay_out_types.specs.Calls.{Adds}
use Rattle.lay_out_types.specs.Rows.{row}
use Rattle.lay_out_heads.specs.HeadRows.{word_colons}
use Rattle.lay_out_heads.proofs.uses.add_words.Given as goal

-- the words so far are put
abbrev pub invariant-loop-word : goal.invariant-loop-word
invariant-loop-word g l =
    Adds g.E.Emit.meanings l.fn.before l.fn.out (row [] [] (map word_colons (take l.word-index l.words))) l.done l.out
