use Rattle.std.proofs.Common.{rules, ◌≡◌, ◌∷◌, sym, ap, ◌∙◌, subst}
use Rattle.std.specs.Str.{chars}
use Rattle.lay_piece.specs.Quoted.{Turned, Escape, Hex, Open, Skip}
use Rattle.lay_cook.specs.Steps.{Closes, Reads}
use Rattle.lay_cook.proofs.StepLemmas.{not_empty, behind_line, behind_x, behind_u, behind_short, is_short, silent, skipped, last}
use Rattle.lay_cook.proofs.strings.escape.Goals as goal

pub next-c-requires : goal.next-c-requires
next-c-requires c = not_empty Turned (chars c.args.s.now) c.requires

pub byte_value-value-requires : goal.byte_value-value-requires
byte_value-value-requires c =
    let cs = chars c.next-c.result.1.now in
    (behind_x cs (subst (Closes Turned) (c.next-c.ensures.parts ∙ ap (λ v. v ∷ cs) c.in-x.is) c.requires)).closes

pub char_value-value-requires : goal.char_value-value-requires
char_value-value-requires c =
    let cs = chars c.next-c.result.1.now in
    (behind_u cs (subst (Closes Turned) (c.next-c.ensures.parts ∙ ap (λ v. v ∷ cs) c.in-u.is) c.requires)).closes

pub short_escape-requires : goal.short_escape-requires
short_escape-requires c =
    is_short c.next-c.result.0 (chars c.next-c.result.1.now) (search rules) (search rules) (search rules)
    (subst (Closes Turned) c.next-c.ensures.parts c.requires)

pub returns-in-10-clause-value : goal.returns-in-10-clause-value
returns-in-10-clause-value c =
    let cs = chars c.next-c.result.1.now in
    let e : chars c.args.s.now ≡ 10 ∷ cs = c.next-c.ensures.parts ∙ ap (λ v. v ∷ cs) c.in-10.is in
    let g = behind_line cs (subst (Closes Turned) e c.requires) in
    silent Turned Skip 10 _ cs _ _ e g (skipped cs (chars c.after.result.now) g.closes c.after.ensures.run)

pub returns-in-x-clause-value : goal.returns-in-x-clause-value
returns-in-x-clause-value c =
    let cs = chars c.next-c.result.1.now in
    let e : chars c.args.s.now ≡ 120 ∷ cs = c.next-c.ensures.parts ∙ ap (λ v. v ∷ cs) c.in-x.is in
    silent Turned (Escape Hex) 120 _ cs _ _ e (behind_x cs (subst (Closes Turned) e c.requires)) c.byte_value-value.ensures.value

pub returns-in-u-clause-value : goal.returns-in-u-clause-value
returns-in-u-clause-value c =
    let cs = chars c.next-c.result.1.now in
    let e : chars c.args.s.now ≡ 117 ∷ cs = c.next-c.ensures.parts ∙ ap (λ v. v ∷ cs) c.in-u.is in
    silent Turned (Escape Open) 117 _ cs _ _ e (behind_u cs (subst (Closes Turned) e c.requires)) c.char_value-value.ensures.value

pub returns-in_default-clause-value : goal.returns-in_default-clause-value
returns-in_default-clause-value c =
    let cs = chars c.next-c.result.1.now in
    let e = c.next-c.ensures.parts in
    let g = behind_short c.next-c.result.0 cs (search rules) (search rules) (search rules)
    (subst (Closes Turned) e c.requires) in
    subst (λ said. Reads Turned (chars c.args.s.now) said cs) (sym c.short_escape.ensures) (last Turned _ _ cs _ e g)
