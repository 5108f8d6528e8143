use Rattle.std.proofs.Common.{◌∙◌, false, [], IsUtf8, sym, ap, subst}
use Rattle.std.specs.Str.{chars}
use Rattle.std.proofs.lemmas.List.{append-nil}
use Rattle.lay_piece.specs.Forms.{Had}
use Rattle.lay_piece.specs.declared.kind.Kind.{Kind}
use Rattle.lay_piece.specs.declared.kind.Kind.TheVariants.{Ident}
use Rattle.lay_form.specs.Pieces.{is_text_of}
use Rattle.lay_build_types.proofs.IdentifierLemmas.{clash, is_by_length, no_identifier, not_utf8}
use Rattle.lay_build_types.proofs.names.is_identifier.Goals as goal

pub returns-then-is_ident : goal.returns-then-is_ident
returns-then-is_ident c =
    let text = c.in-Ok.text.now in
    let same = c.in-Ok.ensures.cases.0 in
    let found = c.in-Some.ensures.found in
    let ident = c.is_ident.ensures.0 c.if-is_ident.true in
    is_by_length text (subst IsUtf8 (sym same) c.in-Ok.ensures.cases.1) found.0 found.1 c.in-Some.piece.len found.2
    (subst (λ (k : Kind). Had k found.0 found.1 false) ident found.3) found.4
    (λ h. (c.in-Some.ensures.only Ident (chars text) [] (sym (append-nil (chars text))) h).1)
    ∙ ap (is_text_of Ident) same

pub returns-else-is_ident : goal.returns-else-is_ident
returns-else-is_ident c =
    let text = c.in-Ok.text.now in
    let same = c.in-Ok.ensures.cases.0 in
    c.if-is_ident.false
    ∙ no_identifier text (subst IsUtf8 (sym same) c.in-Ok.ensures.cases.1) (λ h.
    clash (sym c.if-is_ident.false ∙ c.is_ident.ensures.1 (c.in-Some.ensures.only Ident (chars text) [] (sym (append-nil (chars text))) h).0))
    ∙ ap (is_text_of Ident) same

pub returns-in-None : goal.returns-in-None
returns-in-None c =
    let text = c.in-Ok.text.now in
    let same = c.in-Ok.ensures.cases.0 in
    no_identifier text (subst IsUtf8 (sym same) c.in-Ok.ensures.cases.1) (λ h.
    c.in-None.ensures.only Ident (chars text) [] (sym (append-nil (chars text))) h)
    ∙ ap (is_text_of Ident) same

pub returns-in-Err : goal.returns-in-Err
returns-in-Err c = not_utf8 c.args.text.now c.in-Err.ensures.cases.0
