-- Files tell their units.
use Rattle.std.proofs.Common.{◌≡◌, List, [], ◌∷◌, true, ◌++◌, map}
use Rattle.std.proofs.lemmas.Bool.{and_parts}
use Rattle.lay_form.specs.Pieces.{are_pieces}
use Rattle.lay_node.specs.nodes.Attr.{are_attrs, attr_form}
use Rattle.lay_node.specs.nodes.Facts.{all_good, forms}
use Rattle.lay_node.specs.declared.heads.Site.TheVariants.{Module}
use Rattle.lay_code.specs.nodes.Code.{about_item}
use Rattle.lay_code.specs.nodes.File.{form_of_file, is_normal}
use Rattle.lay_code.specs.declared.file.File.{File}
use Rattle.lay_code.specs.declared.item.Item.{Item}
use Rattle.lay_map.proofs.BodyRules.{Lined, lined}
use Rattle.lay_map.proofs.RowRules.{FileTells, lined_rows, lines_tell}
use Rattle.lay_map.proofs.Rules.{All, Any}
use Rattle.lay_map.proofs.nodes.Attrs.{attrs_lined}
use Rattle.lay_map.proofs.nodes.Code.{each_item}
use Rattle.lay_map.proofs.nodes.ExprParts.{both_all}

items_lined : (items : List Item) → all_good (map (about_item Module) items) ≡ true → All Lined (forms (map (about_item Module) items))
items_lined [] g = tt
items_lined (x ∷ xs) g =
    let p = and_parts (about_item Module x).good (all_good (map (about_item Module) xs)) g in
    (lined ((each_item x).go Module p.0).tells, items_lined xs p.1)

pub file_tells : (file : File) → is_normal file ≡ true → are_pieces (form_of_file file) ≡ true → FileTells (form_of_file file)
file_tells file g w =
    let p = and_parts (are_attrs true file.attrs) (all_good (map (about_item Module) file.items)) g in
    let attrs = map attr_form file.attrs in
    let items = forms (map (about_item Module) file.items) in
    lines_tell (attrs ++ items) (lined_rows Any (attrs ++ items) (both_all Lined attrs items (attrs_lined true file.attrs p.0) (items_lined file.items p.1))) w
