use Rattle.std.proofs.Common.{List, [], ◌∷◌, ◌++◌, sym, ap, ◌∙◌}
use Rattle.std.proofs.lemmas.Result.{err_from_is_err_and}
use Rattle.lay_node.specs.reader.Loops.{repeat}
use Rattle.lay_node.specs.reader.SimplePath.{begins_colons, further_word}
use Rattle.lay_node.specs.declared.token.Word.{Word}
use Rattle.lay_read_tokens.proofs.Left.{further_word_left, shorter}
use Rattle.lay_read_tokens.proofs.Steps.{lost}
use Rattle.lay_read_tokens.proofs.Turns.{repeat-start, repeat-end, repeat-none, repeat-step}
use Rattle.lay_read_tokens.proofs.simple_paths.read_words.Goals as goal

pub loop-alloc-init : goal.loop-alloc-init
loop-alloc-init c = record {
  found = [];
  turn = repeat-start begins_colons further_word c.args.at.now;
  holds = c.in_ok-keep.ensures.ok ∙ ap (λ (s : List Word). s ++ c.args.first ∷ []) c.new-words.ensures;
}

pub returns-in_err-word : goal.returns-in_err-word
returns-in_err-word c =
    let whole = repeat begins_colons further_word c.args.at.now in
    let held = c.loop-alloc.invariant in
    let p = err_from_is_err_and c.from_residual-in_err-word.result c.from_residual-in_err-word.ensures.1 in
    rw (p.1, p.2) (lost (further_word c.loop-alloc.at) whole c.in_err-word.field-0.0 c.in_err-word.ensures
    (repeat-none begins_colons further_word whole held.found c.loop-alloc.at held.turn
    (sym c.loop-alloc-test.ensures)))

pub loop-alloc-smaller : goal.loop-alloc-smaller
loop-alloc-smaller c =
    let ts = c.loop-alloc.at in
    shorter ts (further_word ts) c.in_ok-word.word c.read_further_word.new.at (further_word_left ts)
    c.in_ok-word.ensures

pub loop-alloc-preserved : goal.loop-alloc-preserved
loop-alloc-preserved c =
    let ts = c.loop-alloc.at in
    let held = c.loop-alloc.invariant in
    let less = shorter ts (further_word ts) c.in_ok-word.word c.read_further_word.new.at
    (further_word_left ts) c.in_ok-word.ensures in
    record {
      found = held.found ++ c.in_ok-word.word ∷ [];
      turn = repeat-step begins_colons further_word (repeat begins_colons further_word c.args.at.now)
          held.found ts held.turn
          c.in_ok-word.word c.read_further_word.new.at (sym c.loop-alloc-test.ensures)
          c.in_ok-word.ensures less;
      holds = c.in_ok-keep-2.ensures.ok ∙ ap (λ (s : List Word). s ++ c.in_ok-word.word ∷ []) held.holds;
    }

pub returns : goal.returns
returns c =
    let held = c.loop-alloc.invariant in (
      held.found,
      repeat-end begins_colons further_word (repeat begins_colons further_word c.args.at.now)
          held.found c.loop-alloc.at held.turn (sym c.loop-alloc-test.ensures),
      held.holds,
    )
