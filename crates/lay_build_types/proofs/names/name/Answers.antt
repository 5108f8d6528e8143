use Rattle.std.proofs.Common.{◌∙◌, not, sym, ap, subst}
use Rattle.std.proofs.lemmas.Bool.{and_from}
use Rattle.lay_piece.specs.Word.{is_path_word}
use Rattle.lay_piece.specs.declared.kind.Kind.TheVariants.{Ident}
use Rattle.lay_form.specs.Form.{Done}
use Rattle.lay_form.specs.Pieces.{is_text_of}
use Rattle.lay_depth.proofs.nodes_lemmas.Forms.{leaf_is}
use Rattle.lay_build_types.specs.Answers.{IsMade}
use Rattle.lay_build_types.specs.Kinds.{IsName, form_of_name}
use Rattle.lay_build_types.specs.Nodes as node
use Rattle.lay_build_types.proofs.NameLemmas.{name_made, same_name}
use Rattle.lay_build_types.proofs.names.name.Goals as goal

pub kept-requires : goal.kept-requires
kept-requires c =
    let text = c.args.text.now in
    let good =
    and_from (is_text_of Ident text) (not (is_path_word text)) (sym c.is_identifier.ensures ∙ c.if-not-is_identifier.false)
    (ap not (sym c.is_path_word.ensures ∙ c.if-is_path_word.false)) in
    let same = same_name c.is_raw-raw.result c.in-Ok.text text (c.is_raw-raw.ensures ∙ ap node.is_raw c.word_class.ensures) c.in-Ok.ensures.ok in
    record {
      made = subst (IsMade form_of_name IsName) (sym same) (name_made text good);
      need = sym (leaf_is c.is_raw-raw.result c.in-Ok.text Done);
    }
