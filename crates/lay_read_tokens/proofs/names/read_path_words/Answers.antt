use Rattle.std.proofs.Common.{sym}
use Rattle.std.proofs.lemmas.Result.{err_from_is_err_and}
use Rattle.lay_node.specs.reader.Words.{begins_path_word, path_word, path_words}
use Rattle.lay_read_tokens.proofs.Left.{path_word_left, shorter}
use Rattle.lay_read_tokens.proofs.Steps.{lost}
use Rattle.lay_read_tokens.proofs.Turns.{repeat-start, repeat-end, repeat-none, repeat-step}
use Rattle.lay_read_tokens.proofs.names.read_path_words.Goals as goal

pub loop-alloc-init : goal.loop-alloc-init
unfolding path_words
loop-alloc-init c = rw c.new-words.ensures (repeat-start begins_path_word path_word c.args.at.now)

pub returns-in_err-word : goal.returns-in_err-word
returns-in_err-word c =
    let p = err_from_is_err_and c.from_residual.result c.from_residual.ensures.1 in
    rw (p.1, p.2) (lost (path_word c.loop-alloc.at) (path_words c.args.at.now) c.in_err-word.field-0.0
    c.in_err-word.ensures
    (repeat-none begins_path_word path_word (path_words c.args.at.now) c.loop-alloc.words c.loop-alloc.at
    c.loop-alloc.invariant (sym c.loop-alloc-test.ensures)))

pub loop-alloc-smaller : goal.loop-alloc-smaller
loop-alloc-smaller c =
    let ts = c.loop-alloc.at in
    shorter ts (path_word ts) c.in_ok-word.word c.read_path_word.new.at (path_word_left ts) c.in_ok-word.ensures

pub loop-alloc-preserved : goal.loop-alloc-preserved
loop-alloc-preserved c =
    let ts = c.loop-alloc.at in
    let less = shorter ts (path_word ts) c.in_ok-word.word c.read_path_word.new.at (path_word_left ts)
    c.in_ok-word.ensures in
    rw c.in_ok-keep.ensures.ok (repeat-step begins_path_word path_word (path_words c.args.at.now) c.loop-alloc.words
    ts c.loop-alloc.invariant
    c.in_ok-word.word c.read_path_word.new.at (sym c.loop-alloc-test.ensures) c.in_ok-word.ensures less)

pub returns : goal.returns
returns c =
    repeat-end begins_path_word path_word (path_words c.args.at.now) c.loop-alloc.words c.loop-alloc.at
    c.loop-alloc.invariant (sym c.loop-alloc-test.ensures)
