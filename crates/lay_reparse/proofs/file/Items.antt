-- Files pass, since their items do.
use Rattle.std.proofs.Common.{◌≡◌, List, [], ◌∷◌, ◌++◌, true, refl, map}
use Rattle.std.specs.List.{list_all}
use Rattle.std.proofs.lemmas.Bool.{and_parts}
use Rattle.lay_form.specs.Pieces.{are_pieces}
use Rattle.lay_node.specs.nodes.Attr.{are_attrs, attr_form}
use Rattle.lay_node.specs.nodes.Facts.{forms, all_good}
use Rattle.lay_node.specs.declared.heads.Site.TheVariants as site
use Rattle.lay_code.specs.nodes.Code.{about_item}
use Rattle.lay_code.specs.nodes.File.{form_of_file, is_normal}
use Rattle.lay_code.specs.declared.file.File.{File}
use Rattle.lay_code.specs.declared.item.Item.{Item}
use Rattle.lay_reparse.proofs.forms.Passes.{plain}
use Rattle.lay_reparse.proofs.forms.Rules.{From, All, lined}
use Rattle.lay_reparse.proofs.file.Nodes.{ends_line, lines_pieces, both_pieces, both_all, attrs_pass}
use Rattle.lay_reparse.proofs.file.Code.{item_passes}

items_pass : (items : List Item) → all_good (map (about_item site.Module) items) ≡ true
    → list_all are_pieces (forms (map (about_item site.Module) items)) ≡ true
    → All plain (forms (map (about_item site.Module) items)) ends_line
items_pass [] g w = tt
items_pass (i ∷ items) g w =
    let n = and_parts (about_item site.Module i).good (all_good (map (about_item site.Module) items)) g in
    let p = and_parts (are_pieces (about_item site.Module i).form)
    (list_all are_pieces (forms (map (about_item site.Module) items))) w in
    ((item_passes i).go site.Module n.0 p.0, items_pass items n.1 p.1)

pub file_passes : (file : File) → is_normal file ≡ true → are_pieces (form_of_file file) ≡ true
    → From plain (form_of_file file) plain
file_passes file g w =
    let n = and_parts (are_attrs true file.attrs) (all_good (map (about_item site.Module) file.items)) g in
    let attrs = map attr_form file.attrs in
    let items = forms (map (about_item site.Module) file.items) in
    let p = both_pieces attrs items (lines_pieces (attrs ++ items) w) in
    lined (attrs ++ items) ends_line refl (both_all plain ends_line attrs items (attrs_pass true file.attrs n.0 p.0)
    (items_pass file.items n.1 p.1))
