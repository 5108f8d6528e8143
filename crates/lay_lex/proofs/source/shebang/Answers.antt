use Rattle.std.proofs.Common.{rules, ◌≡◌, ℕ, List, [], ◌∷◌, true, false, cond, not, codes, Some, None, inl, inr, refl, sym, ap, ◌∙◌}
use Rattle.std.specs.Prelude.{◌==◌}
use Rattle.std.specs.Str.{chars, encode_utf8_all}
use Rattle.std.proofs.lemmas.Bool.{cases_Bool, cond-true}
use Rattle.lay_piece.specs.Chars.{after, behind, front, is_white, without_end}
use Rattle.lay_token.specs.Source.{is_in_line, is_no_command, is_shebang, line_size}
use Rattle.lay_lex.proofs.Lines.{line_sizes}
use Rattle.lay_lex.proofs.source.shebang.Goals as goal
use Rattle.lay_lex.proofs.source.shebang.Goals.{then-line-text, else-line-text}

pub returns : goal.returns
returns c =
    let line = front is_in_line (chars c.args.text.now) in
    let is : is_shebang line ≡ true = ap is_shebang (sym c.first_line-line.ensures) ∙ sym c.is_shebang.ensures
    ∙ (search rules) in
    let sizes = line_sizes c.args.text.now c.first_line-line.result.now c.utf8.text c.first_line-line.utf8 c.first_line-line.ensures in
    let start : c.if-line-text.start ≡ line_size (chars c.args.text.now) = elim c.if-line-text.branch [
      | then-line-text w ↦ w.start-is ∙ sym (sizes.0 w.if-line-text.true)
      | else-line-text w ↦ w.start-is ∙ sym (sizes.1 w.if-line-text.false)
    ] in
    let text : c.in_ok-shebang.shebang ≡ encode_utf8_all (without_end 13 line) =
    c.in_ok-shebang.ensures.ok ∙ c.without_end.ensures
    ∙ ap (λ l. encode_utf8_all (without_end 13 l)) c.first_line-line.ensures in (
      ap (λ l. Some l) text ∙ sym (cond-true (is_shebang line) (Some (encode_utf8_all (without_end 13 line))) None is),
      start ∙ sym (cond-true (is_shebang line) (line_size (chars c.args.text.now)) 0 is),
    )

-- where the text doesn't begin with #!, its first line is no shebang line
second : (cs : List ℕ) → behind false (codes "!") (λ _. true) cs ≡ false
    → behind false (codes "!") (λ ds. not (is_no_command (after is_white ds))) (front is_in_line cs) ≡ false
second [] h = refl
second (d ∷ ds) h = elim (cases_Bool (is_in_line d)) [
  | inl e ↦ elim (cases_Bool (33 == d)) [
    | inl f ↦ absurd (let no : true ≡ false = sym (ap (λ b. cond b true false) f) ∙ h in cc)
    | inr f ↦ rw (e, f) refl
  ]
  | inr e ↦ rw e refl
]

no_shebang : (cs : List ℕ) → behind false (codes "#!") (λ _. true) cs ≡ false → is_shebang (front is_in_line cs) ≡ false
no_shebang [] h = refl
no_shebang (c ∷ cs) h = elim (cases_Bool (is_in_line c)) [
  | inl e ↦ elim (cases_Bool (35 == c)) [
    | inl f ↦ rw (e, f) (second cs (sym (ap (λ b. cond b (behind false (codes "!") (λ _. true) cs) false) f) ∙ h))
    | inr f ↦ rw (e, f) refl
  ]
  | inr e ↦ rw e refl
]

pub returns-then-not-begins_shebang : goal.returns-then-not-begins_shebang
returns-then-not-begins_shebang c =
    let text = chars c.args.text.now in
    let none = no_shebang text (sym c.begins_shebang.ensures ∙ (search rules)) in (
      sym (ap (λ b. cond b (Some (encode_utf8_all (without_end 13 (front is_in_line text)))) None) none),
      sym (ap (λ b. cond b (line_size text) 0) none),
    )
