use Rattle.std.proofs.Common.{◌≡◌, ℕ, List, Bool, true, false, sym, ap, ◌∙◌, subst}
use Rattle.std.specs.Prelude.{◌==◌}
use Rattle.std.specs.List.{list_any}
use Rattle.std.specs.Str.{chars, encode_utf8_all}
use Rattle.std.proofs.lemmas.Bool.{cond-true, cond-false}
use Rattle.std.proofs.lemmas.Str.{encodes-chars}
use Rattle.lay_token.specs.Lexes.{doc_text}
use Rattle.lay_piece.specs.Chars.{without_end}
use Rattle.lay_lex.specs.Added.{within}
use Rattle.lay_lex.proofs.tokens.doc_text.Goals as goal

-- what documentation says, of which this stands within its marks
doc_lines : (block : Bool) (cs text : List ℕ) → text ≡ within block cs → list_any (λ c. c == 10) text ≡ true
    → doc_text block cs ≡ text
doc_lines block cs text e h =
    let g = subst (λ (l : List ℕ). list_any (λ c. c == 10) l ≡ true) e h in
    cond-true _ (within block cs) (without_end 32 (within block cs)) g ∙ sym e

doc_line : (block : Bool) (cs text : List ℕ) → text ≡ within block cs → list_any (λ c. c == 10) text ≡ false
    → doc_text block cs ≡ without_end 32 text
doc_line block cs text e h =
    let g = subst (λ (l : List ℕ). list_any (λ c. c == 10) l ≡ false) e h in
    cond-false _ (within block cs) (without_end 32 (within block cs)) g ∙ ap (without_end 32) (sym e)

pub returns-then-has_line_feed : goal.returns-then-has_line_feed
returns-then-has_line_feed c =
    c.as_bytes.ensures.value ∙ sym (encodes-chars c.within-text.result.now c.within-text.utf8)
    ∙ ap encode_utf8_all (sym (doc_lines c.args.block (chars c.args.piece.now) (chars c.within-text.result.now) c.within-text.ensures
    (sym c.has_line_feed.ensures ∙ c.if-has_line_feed.true)))

pub returns-else-has_line_feed : goal.returns-else-has_line_feed
returns-else-has_line_feed c =
    c.without_end.ensures
    ∙ ap encode_utf8_all (sym (doc_line c.args.block (chars c.args.piece.now) (chars c.within-text.result.now) c.within-text.ensures
    (sym c.has_line_feed.ensures ∙ c.if-has_line_feed.false)))
