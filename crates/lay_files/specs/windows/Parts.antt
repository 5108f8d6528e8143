-- What it means that tokens are parsed as parts of a file or of a module.
use Rattle.std.specs.Prelude.{ℕ, ◌≡◌, Bool, true, false, List, [], ◌∷◌, ◌++◌, map, Option, Some, None, Result, Ok, Err, IsTrue}
use Rattle.lay_token.specs.declared.token.Token.{Token}
use Rattle.lay_form.specs.Form.{Form, Done, Part, Deeper}
use Rattle.lay_form.specs.Notation.{lines, behind_attrs}
use Rattle.lay_form.specs.Spelled.{Spells}
use Rattle.lay_node.specs.Words.{is_name}
use Rattle.lay_node.specs.nodes.Attr.{about_attr, are_attrs, attr_form}
use Rattle.lay_node.specs.nodes.Facts.{forms}
use Rattle.lay_node.specs.nodes.Vis.{is_vis, vis_form}
use Rattle.lay_node.specs.declared.attr.Attr.{Attr}
use Rattle.lay_node.specs.declared.heads.Site.TheVariants.{Module}
use Rattle.lay_node.specs.declared.token.Name.{Name}
use Rattle.lay_node.proofs.Parts.{GoodAt, Rows}
use Rattle.lay_code.specs.nodes.Code.{about_item}
use Rattle.lay_code.specs.nodes.File.{is_normal}
use Rattle.lay_code.specs.nodes.Item.{module_head}
use Rattle.lay_code.specs.declared.file.File.{File}
use Rattle.lay_code.specs.declared.item.Item.{Item}
use Rattle.lay_code.specs.declared.item.ItemKind.TheVariants as item
use Rattle.lay_read_tokens.specs.Answers.{AreLexed}
use Rattle.lay_read_tokens.specs.declared.stop.ReadNone.{ReadNone}
use Rattle.lay_files.specs.declared.windows.heads.Head.{Head}

-- ---- attributes and items

-- Attributes come next, one after another, and were added.
pub record AddsAttrs (inner : Bool) (old new : List Attr) (ahead left : List Token) : Type 0 where
  pub read : List Attr
  pub added : new ≡ old ++ read
  pub rows : Rows (GoodAt (about_attr inner) 0) read ahead left
  pub lexed : AreLexed left

-- The same for inner attributes, where they may stand. Elsewhere none is added.
abbrev pub AddsInner : Bool → List Attr → List Attr → List Token → List Token → Type 0
AddsInner true old new ahead left = AddsAttrs true old new ahead left
AddsInner false old new ahead left = (new ≡ old) × (left ≡ ahead)

pub record AddsItems (depth : ℕ) (old new : List Item) (ahead left : List Token) : Type 0 where
  pub read : List Item
  pub added : new ≡ old ++ read
  pub rows : Rows (GoodAt (about_item Module) depth) read ahead left
  pub lexed : AreLexed left

-- ---- heads of modules

abbrev pub IsModuleName : Name → List Token → Type 0
IsModuleName name tokens = Spells (module_head name) 0 tokens [] × IsTrue (is_name name.raw name.text)

abbrev pub head_form : Head → Form
head_form head = behind_attrs (map attr_form head.attrs) (Part (vis_form head.vis) (module_head head.name))

-- The tokens spell the head.
pub record IsHead (head : Head) (tokens : List Token) : Type 0 where
  pub spelled : Spells (head_form head) 0 tokens []
  pub attrs : are_attrs false head.attrs ≡ true
  pub vis : is_vis head.vis ≡ true
  pub name : is_name head.name.raw head.name.text ≡ true

-- the module with this head and this body
abbrev pub module_of : Head → File → Item
module_of head body = record { attrs = head.attrs; vis = head.vis; kind = item.Module head.name body.attrs body.items }

-- ---- parts of a file, or of a module

-- the forms of the attributes and the items of a file
abbrev pub parts_of : File → List Form
parts_of file = map attr_form file.attrs ++ forms (map (about_item Module) file.items)

-- Parts come next and were added, and what leads comes after them.
pub record Adds (depth : ℕ) (tokens : List Token) (old new : File) (lead : List Form) : Type 0 where
  pub read : List Form
  pub added : parts_of new ≡ parts_of old ++ read
  pub normal : is_normal old ≡ true → is_normal new ≡ true
  pub shebang : new.shebang ≡ old.shebang
  pub spelled : Spells (lines (read ++ lead)) depth tokens []

abbrev pub PartsAs : ℕ → List Token → File → File → Result (Option Head) ReadNone → Type 0
PartsAs depth tokens old new (Ok None) = Adds depth tokens old new []
PartsAs depth tokens old new (Ok (Some head)) = Adds depth tokens old new (Deeper (head_form head) Done ∷ [])
    × (are_attrs false head.attrs ≡ true) × (is_vis head.vis ≡ true) × (is_name head.name.raw head.name.text ≡ true)
PartsAs depth tokens old new (Err none) = Unit {0}
