use Rattle.std.proofs.Common.{List, [], map, ◌∙◌}
use Rattle.lay_node.specs.declared.token.Word.{Word}
use Rattle.lay_out_types.specs.Rows.{row}
use Rattle.lay_out_types.proofs.Adding.{adds, adds_on}
use Rattle.lay_out_types.proofs.RowLemmas.{all_turns, nothing_before, turn}
use Rattle.lay_out_heads.specs.HeadRows.{word_colons}
use Rattle.lay_out_heads.proofs.UseLemmas.{word_is_put, words_are}
use Rattle.lay_out_heads.proofs.uses.add_words.Goals as goal

pub loop-word-preserved : goal.loop-word-preserved
loop-word-preserved g c =
    adds (adds_on c.loop-word.invariant (adds_on c.add_word-done.ensures c.add_text-done.ensures))
    (turn word_colons [] [] c.args.words.now _ _ c.loop-word-test.true c.word-item.is _
    (word_is_put _ ∙ nothing_before _ _))

pub returns : goal.returns
returns g c =
    adds c.loop-word.invariant
    (all_turns (λ (ws : List Word). row [] [] (map word_colons ws)) c.args.words.now _ c.loop-word-test.false
    ∙ words_are c.args.words.now)
