-- Files of items that are built can be written.
use Rattle.std.proofs.Common.{◌≡◌, ◌∙◌, ◌≤◌, true, List, [], ◌∷◌, map, None, refl, ap, arith}
use Rattle.std.specs.List.{AllByRecursion}
use Rattle.std.proofs.lemmas.Bool.{and_from}
use Rattle.lay_form.specs.Depth.{least_depth}
use Rattle.lay_form.specs.Notation.{lines}
use Rattle.lay_form.specs.Pieces.{are_pieces}
use Rattle.lay_node.specs.nodes.Facts.{all_good, forms}
use Rattle.lay_node.specs.declared.attr.Attr.{Attr}
use Rattle.lay_node.specs.declared.heads.Site.TheVariants.{Module}
use Rattle.lay_code.specs.Reading.{top}
use Rattle.lay_code.specs.Written.{Written}
use Rattle.lay_code.specs.nodes.Code.{about_item}
use Rattle.lay_code.specs.nodes.File.{form_of_file}
use Rattle.lay_code.specs.declared.file.File.{File}
use Rattle.lay_code.specs.declared.item.Item.{Item}
use Rattle.lay_depth.specs.nodes.Depths.{greatest}
use Rattle.lay_depth.proofs.ItemLemmas.{file_is}
use Rattle.lay_build_types.specs.Answers.{IsKept}
use Rattle.lay_build_types.specs.Kinds.{IsItem, form_of_item}
use Rattle.lay_build.specs.Nodes as node
use Rattle.lay_build_types.proofs.PieceLemmas.{Pieces}

abbrev KeptItems : List Item → Type 0
KeptItems is = AllByRecursion (IsKept form_of_item IsItem) is

items_pieces : (is : List Item) → KeptItems is → Pieces (lines (forms (map (about_item Module) is)))
items_pieces [] all = refl
items_pieces (i ∷ is) all =
    and_from (are_pieces (form_of_item i)) (are_pieces (lines (forms (map (about_item Module) is)))) all.0.made.pieces (items_pieces is all.1)

items_good : (is : List Item) → KeptItems is → all_good (map (about_item Module) is) ≡ true
items_good [] all = refl
items_good (i ∷ is) all =
    and_from (about_item Module i).good (all_good (map (about_item Module) is)) all.0.made.holding (items_good is all.1)

pub file_written : (is : List Item) → KeptItems is → Written (node.file is)
file_written is all = record { shebang = refl; normal = items_good is all; pieces = items_pieces is all }

-- No item is deeper than files may be.
deepest : (is : List Item) → KeptItems is → greatest (map form_of_item is) ≤ top
deepest [] all = omega arith
deepest (i ∷ is) all = let more = deepest is all.1 in omega (arith, all.0.within, more)

pub file_within : (is : List Item) → KeptItems is → least_depth (form_of_file (node.file is)) ≤ top
file_within is all = let h = file_is (node.file is) in let d = deepest is all in omega (arith, h, d)

-- the file of these inner attributes and items
abbrev file_of : List Attr → List Item → File
file_of attrs items = record { shebang = None; attrs = attrs; items = items }

pub same_file : (attrs : List Attr) (given items : List Item) → attrs ≡ [] → given ≡ items → file_of attrs given ≡ node.file items
same_file attrs given items none same = ap (λ (inner : List Attr). file_of inner given) none ∙ ap node.file same
