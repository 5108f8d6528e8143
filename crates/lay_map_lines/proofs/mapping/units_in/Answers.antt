use Rattle.std.proofs.Common.{List, ℕ, sym, subst}
use Rattle.std.specs.Str.{IsCharBoundary}
use Rattle.std.proofs.lemmas.Result.{IfOk-weaker}
use Rattle.lay_token.specs.Lexes.{Lexes}
use Rattle.lay_lex.specs.Source.{seen}
use Rattle.lay_map_lines.proofs.MapLemmas.{CanBeRead, lexes_read, read_from}
use Rattle.lay_map_lines.proofs.mapping.units_in.Goals as goal

pub units_of_text-requires-clause-border : goal.units_of_text-requires-clause-border
units_of_text-requires-clause-border c =
    subst (λ (text : List ℕ). IsCharBoundary text c.in-Ok.source.start) (sym c.as_str.ensures) c.in-Ok.ensures.ready.1

pub units_of_text-requires-clause-read : goal.units_of_text-requires-clause-read
units_of_text-requires-clause-read c =
    let from = seen c.in-Ok.source in
    subst (λ (text : List ℕ). CanBeRead c.args.file.now text from.start) (sym c.as_str.ensures)
    (read_from c.args.bytes.now c.args.file.now from c.in-Ok.ensures.answer c.requires)

pub returns : goal.returns
returns c =
    let from = seen c.in-Ok.source in
    IfOk-weaker c.units_of_text.result _ _
    (λ places are r.
    let read = lexes_read c.args.bytes.now c.args.file.now from c.in-Ok.ensures.answer r in
    are r.tokens (subst (λ (text : List ℕ). Lexes text from.start r.tokens) (sym c.as_str.ensures) read) r.spells.1)
    c.units_of_text.ensures
