use Rattle.std.proofs.Common.{rules, ◌≡◌, ◌++◌, [], List, ℕ, refl, sym, ap, ◌∙◌, subst, option_to_list}
use Rattle.std.specs.Str.{chars, encode_utf8_all}
use Rattle.std.proofs.lemmas.List.{append-nil}
use Rattle.lay_piece.specs.Chars.{after, front}
use Rattle.lay_piece.specs.Quoted.{Plain, Turned}
use Rattle.lay_piece.specs.Value.{string_value}
use Rattle.lay_cook.specs.Steps.{Closes, Reads, is_unmarked}
use Rattle.lay_cook.proofs.StepLemmas.{plain_run, pushed, closed, turned}
use Rattle.lay_cook.proofs.strings.push_value.Goals as goal

-- the run, and what follows it
ran : (cs mark said : List ℕ) → Closes Plain cs → said ≡ front is_unmarked cs → mark ≡ after is_unmarked cs
    → Reads Plain cs said mark
ran cs mark said h e f =
    subst (λ m. Reads Plain cs said m) (sym f) (subst (λ s. Reads Plain cs s (after is_unmarked cs)) (sym e) (plain_run cs h))

pub returns-in-None : goal.returns-in-None
returns-in-None c =
    let cs = chars c.runs.rest.now in
    let mark = chars c.run.result.1.now in
    let said = front is_unmarked cs in
    let run = ran cs mark said c.runs.invariant.closes refl c.run.ensures.rest in
    let none : string_value Plain mark ≡ [] = closed cs mark c.run.ensures.rest c.in-None.ensures.rest in
    let new : c.push_bytes.new.self ≡ c.runs.value ++ encode_utf8_all said =
    c.in_ok-push_bytes.ensures.ok ∙ ap (λ l. c.runs.value ++ l) c.run.ensures.run in
    new ∙ sym (append-nil (c.runs.value ++ encode_utf8_all said))
    ∙ ap (λ l. (c.runs.value ++ encode_utf8_all said) ++ encode_utf8_all l) (sym none)
    ∙ pushed Plain c.runs.value said cs mark _ c.runs.invariant.value run

pub escape-escaped-requires : goal.escape-escaped-requires
escape-escaped-requires c =
    let cs = chars c.runs.rest.now in
    let mark = chars c.run.result.1.now in
    let run = ran cs mark (front is_unmarked cs) c.runs.invariant.closes refl c.run.ensures.rest in
    (turned (chars c.in-Some.turned.now) (subst (Closes Plain) c.in-Some.ensures.rest run.closes)).closes

pub runs-preserved : goal.runs-preserved
runs-preserved c =
    let cs = chars c.runs.rest.now in
    let mark = chars c.run.result.1.now in
    let said = front is_unmarked cs in
    let behind = chars c.in-Some.turned.now in
    let run = ran cs mark said c.runs.invariant.closes refl c.run.ensures.rest in
    let turn = turned behind (subst (Closes Plain) c.in-Some.ensures.rest run.closes) in
    let same : string_value Plain mark ≡ string_value Turned behind = ap (string_value Plain) c.in-Some.ensures.rest ∙ turn.value in
    let new : c.push_bytes.new.self ≡ c.runs.value ++ encode_utf8_all said =
    c.in_ok-push_bytes.ensures.ok ∙ ap (λ l. c.runs.value ++ l) c.run.ensures.run in
    let far = ap (λ l. c.push_bytes.new.self ++ encode_utf8_all l) (sym same)
    ∙ ap (λ l. l ++ encode_utf8_all (string_value Plain mark)) new
    ∙ pushed Plain c.runs.value said cs mark _ c.runs.invariant.value run in
    let rest = chars c.escape-escaped.result.1.now in
    record {
      text = search rules;
      closes = c.escape-escaped.ensures.value.closes;
      value = ap (λ l. l ++ encode_utf8_all (string_value Plain rest)) c.in_ok-push_escaped-in-Some.ensures
          ∙ pushed Turned c.push_bytes.new.self (option_to_list c.escape-escaped.result.0) behind rest _ far
          c.escape-escaped.ensures.value;
    }
