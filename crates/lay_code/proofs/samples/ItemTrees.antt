-- Small items that samples are about, and the facts about them.
use Rattle.std.proofs.Common.{◌≡◌, true, List, [], codes, ap, ◌∙◌}
use Rattle.lay_node.specs.nodes.Facts.{Facts}
use Rattle.lay_node.specs.declared.attr.Attr.{Attr}
use Rattle.lay_node.specs.declared.attr.Attr.TheVariants as attr
use Rattle.lay_node.specs.declared.fields.Fields.TheVariants as fields
use Rattle.lay_node.specs.declared.generics.Generics.{Generics}
use Rattle.lay_node.specs.declared.generics.Wheres.{Wheres}
use Rattle.lay_node.specs.declared.heads.Site.TheVariants.{Module}
use Rattle.lay_node.specs.declared.heads.Struct.{Struct}
use Rattle.lay_node.specs.declared.token.Name.{Name}
use Rattle.lay_node.specs.declared.use_tree.UseTree.{UseTree}
use Rattle.lay_node.specs.declared.vis.Vis.TheVariants as vis
use Rattle.lay_node.proofs.samples.Trees.{named, a}
use Rattle.lay_code.specs.nodes.Code.{about_item, told_of_item, told_of_kind}
use Rattle.lay_code.specs.nodes.CodeFacts.{ItemFacts, KindFacts}
use Rattle.lay_code.specs.nodes.Item.{kind_facts, item_facts}
use Rattle.lay_code.specs.declared.item.Item.{Item}
use Rattle.lay_code.specs.declared.item.ItemKind.{ItemKind}
use Rattle.lay_code.specs.declared.blocks.Stmt.TheOpen.{ItemKind-F}
use Rattle.lay_code.specs.declared.item.ItemKind.TheVariants as item
use Rattle.lay_code.proofs.nodes.ItemLaws as items

-- ---- trees

abbrev pub A : Name
A = named (codes "A")

abbrev pub x_doc : Attr
x_doc = attr.Doc true (codes " x")

abbrev pub item_of : List Attr → ItemKind → Item
item_of attrs kind = record { attrs = attrs; vis = vis.Inherited; kind = kind }

abbrev pub no_generics : Generics
no_generics = record { params = [] }

abbrev pub no_wheres : Wheres
no_wheres = record { predicates = [] }

-- without fields
abbrev pub unit : Name → Struct
unit name = record { name = name; generics = no_generics; fields = fields.Unit; wheres = no_wheres }

abbrev pub structure : List Attr → Name → Item
structure attrs name = item_of attrs (item.Struct (unit name))

abbrev pub module_of : List Attr → List Item → Item
module_of attrs items = item_of [] (item.Module (named a) attrs items)

abbrev pub import_of : UseTree → Item
import_of tree = item_of [] (item.Import tree)

-- ---- the facts about them

abbrev pub item_facts_of : List Attr → KindFacts → ItemFacts
item_facts_of attrs kind = item_facts (record { attrs = attrs; vis = vis.Inherited; kind = kind })

abbrev pub struct_facts : List Attr → Name → ItemFacts
struct_facts attrs name = item_facts_of attrs (kind_facts (ItemKind-F.ItemKind::Struct (unit name)))

pub kind_is : (attrs : List Attr) (kind : ItemKind) (F : KindFacts) → told_of_kind kind ≡ F
    → told_of_item (item_of attrs kind) ≡ item_facts_of attrs F
kind_is attrs kind F e = items.item_is (item_of attrs kind) ∙ ap (item_facts_of attrs) e

pub struct_is : (attrs : List Attr) (name : Name) → told_of_item (structure attrs name) ≡ struct_facts attrs name
struct_is attrs name = kind_is attrs _ _ (items.struct_is (unit name))

-- the facts about an item in a module
abbrev pub about : Item → Facts
about x = about_item Module x
