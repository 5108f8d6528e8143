-- A byte, and what more of its word it skips.
use Rattle.std.proofs.Common.{rules, ◌≡◌, ℕ, List, ◌∷◌, sym, ap, ◌∙◌}
use Rattle.lay_map.specs.Marking.{words_of}
use Rattle.lay_map.proofs.PushLemmas.{skipped}
use Rattle.lay_map.proofs.marking.Marking.words.Goals as goal

pub loop-byte-preserved : goal.loop-byte-preserved
loop-byte-preserved c =
    let e : c.loop-byte.rest.now ≡ c.in-Some.byte.now ∷ c.in-Some.behind.now = search rules in
    c.loop-byte.invariant
    ∙ ap (λ (x : List ℕ). words_of 0 x c.loop-byte.self) e
    ∙ c.in_ok-length.ensures c.in-Some.behind.now
    ∙ skipped c.in_ok-length.length c.in-Some.behind.now c.begin_word.new.self
    ∙ ap (λ (x : List ℕ). words_of 0 x c.begin_word.new.self) (sym c.skip-rest.ensures)
