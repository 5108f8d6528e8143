-- One step of a reader, from what the readers within it give.
use Rattle.std.proofs.Common.{◌≡◌, true, codes, None, sym, ap, ◌∙◌}
use Rattle.lay_node.specs.Ahead.{Tokens, first, tail, is_mark}
use Rattle.lay_node.specs.reader.Generics.{generics, one_param}
use Rattle.lay_node.specs.reader.Loops.{elements}
use Rattle.lay_node.specs.reader.Types.{Within}
use Rattle.lay_read_parts.specs.Answers.{gathered}
use Rattle.lay_read_parts.proofs.Steps.{gathered_lost}

pub generics_lost : (w : Within) (ts mid : Tokens) → first (is_mark (codes "<")) ts ≡ true → mid ≡ tail ts
    → gathered (elements (is_mark (codes ">")) (one_param w) mid) ≡ None → generics w ts ≡ None
unfolding generics
generics_lost w ts mid h e n =
    let here : gathered (elements (is_mark (codes ">")) (one_param w) (tail ts)) ≡ None =
    ap (λ us. gathered (elements (is_mark (codes ">")) (one_param w) us)) (sym e) ∙ n in
    rw h (gathered_lost (elements (is_mark (codes ">")) (one_param w) (tail ts)) _ here)
