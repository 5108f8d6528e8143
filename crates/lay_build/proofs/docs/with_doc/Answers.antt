use Rattle.std.proofs.Common.{◌∙◌, ℕ, sym, ap, subst}
use Rattle.std.specs.Str.{is_utf8}
use Rattle.lay_code.specs.declared.item.Item.{Item}
use Rattle.lay_build_types.specs.Kinds.{IsItem, form_of_item}
use Rattle.lay_build_types.proofs.AnswerLemmas.{Is, part_of}
use Rattle.lay_build.specs.Nodes as node
use Rattle.lay_build.proofs.DocLemmas.{doc_got, doc_made, doc_need}
use Rattle.lay_build.proofs.PartLemmas.{both_is}
use Rattle.lay_build.proofs.docs.with_doc.Goals as goal

pub kept-requires : goal.kept-requires
kept-requires c =
    let one = c.args.item in
    let text = c.args.text.now in
    let parts = c.into_parts.ensures in
    let split = c.into_parts.result in
    let attr = c.in_ok-attr.attr in
    let item = c.in_ok-attr.item in
    let got = doc_got one text c.checked_doc.result split (is_utf8 text) attr item c.checked_doc.ensures c.in_ok-attr.ensures in
    let whole = got.1.1 ∙ parts.parts in
    let same =
    ap (λ (p : Item × ℕ). node.with_attr p.0 attr) whole ∙ ap (node.with_attr one) got.1.0 in
    part_of form_of_item IsItem (node.with_doc one text) item.1 c.both-2.result
    (subst (λ (i : Item). Is i item.1 c.both-2.result) same
    (both_is (node.with_attr item.0 attr) item.1 c.with_attr.result c.both-2.result c.with_attr.ensures c.both-2.ensures))
    (ap (λ (p : Item × ℕ). p.1) whole ∙ sym (doc_need one text))
    (doc_made text got.0 one parts.kept)
