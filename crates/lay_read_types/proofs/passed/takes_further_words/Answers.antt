use Rattle.std.proofs.Common.{[], ◌∷◌, ◌++◌, sym}
use Rattle.lay_node.specs.reader.Loops.{repeat}
use Rattle.lay_node.specs.reader.SimplePath.{begins_colons, further_word}
use Rattle.lay_read_tokens.proofs.Left.{further_word_left, shorter}
use Rattle.lay_read_tokens.proofs.Turns.{repeat-start, repeat-end, repeat-none, repeat-step}
use Rattle.lay_read_types.proofs.passed.takes_further_words.Goals as goal

pub loop-at-init : goal.loop-at-init
loop-at-init c = ([], repeat-start begins_colons further_word c.args.at.now)

pub returns-then-not-takes_further_word : goal.returns-then-not-takes_further_word
returns-then-not-takes_further_word c =
    let found = c.loop-at.invariant in
    repeat-none begins_colons further_word (repeat begins_colons further_word c.args.at.now) found.0 c.loop-at.at found.1
    (sym c.loop-at-test.ensures) c.if-not-takes_further_word.ensures

pub loop-at-smaller : goal.loop-at-smaller
loop-at-smaller c =
    let ts = c.loop-at.at in
    let word = c.if-not-takes_further_word.ensures in
    shorter ts (further_word ts) word.0 c.takes_further_word.new.at (further_word_left ts) word.1

pub loop-at-preserved : goal.loop-at-preserved
loop-at-preserved c =
    let ts = c.loop-at.at in
    let found = c.loop-at.invariant in
    let word = c.if-not-takes_further_word.ensures in
    let left = c.takes_further_word.new.at in
    let less = shorter ts (further_word ts) word.0 left (further_word_left ts) word.1 in (
      found.0 ++ word.0 ∷ [],
      repeat-step begins_colons further_word (repeat begins_colons further_word c.args.at.now) found.0 ts found.1 word.0 left
          (sym c.loop-at-test.ensures) word.1 less,
    )

pub returns : goal.returns
returns c =
    let found = c.loop-at.invariant in (
      found.0,
      repeat-end begins_colons further_word (repeat begins_colons further_word c.args.at.now) found.0 c.loop-at.at found.1
          (sym c.loop-at-test.ensures),
    )
