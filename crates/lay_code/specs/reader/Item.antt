-- Parsing items, given the functions that parse one level deeper.
use Rattle.std.specs.Prelude.{ℕ, suc, max, ◌||◌, Bool, true, false, if◌then◌else◌, List, drop, codes, Some, None, is_some, Option}
use Rattle.lay_token.specs.Operators.{is_op}
use Rattle.lay_piece.specs.declared.kind.Delim.TheVariants.{Brace}
use Rattle.lay_node.specs.Ahead.{Tokens, first, tail, is_keyword, is_mark, opens, closes, more_items}
use Rattle.lay_node.specs.reader.Attr.{attributes}
use Rattle.lay_node.specs.reader.Call.{call, behind_end}
use Rattle.lay_node.specs.reader.Functions.{fn_head}
use Rattle.lay_node.specs.reader.Heads.{alias, enum, extern_crate, impl_head, semicolon, struct, trait_head, union, unsafe_flag, value_head}
use Rattle.lay_node.specs.reader.Loops.{Got, Read, ◌>>=◌, passed, nodes, deepest, repeat}
use Rattle.lay_node.specs.reader.Patterns.{PatWithin}
use Rattle.lay_node.specs.reader.Tokens.{group}
use Rattle.lay_node.specs.reader.Types.{if_there, is_string_token, literal, if_read}
use Rattle.lay_node.specs.reader.Vis.{visibility}
use Rattle.lay_node.specs.reader.Where.{wheres}
use Rattle.lay_node.specs.reader.Words.{name}
use Rattle.lay_node.specs.declared.attr.Attr.{Attr}
use Rattle.lay_node.specs.declared.heads.Site.{Site}
use Rattle.lay_node.specs.declared.heads.Site.TheVariants as site
use Rattle.lay_node.specs.declared.use_tree.UseTree.{UseTree}
use Rattle.lay_code.specs.nodes.Code.{told_of_kind}
use Rattle.lay_code.specs.nodes.Item.{in_module, is_inherited, may_be_bodied, may_be_valued}
use Rattle.lay_code.specs.nodes.Places.{FREE}
use Rattle.lay_code.specs.reader.Blocks.{block_by}
use Rattle.lay_code.specs.reader.ItemLeads.{ItemLead, OfExternCrate, OfImport, OfModule, OfFunction, OfAlias, OfStruct, OfUnion, OfEnum, OfValue, OfTrait, OfImpl, OfForeign, OfRules, OfCall, item_lead}
use Rattle.lay_code.specs.reader.Within.{ExprWithin}
use Rattle.lay_code.specs.declared.blocks.Block.{Block}
use Rattle.lay_code.specs.declared.item.Item.{Item}
use Rattle.lay_code.specs.declared.item.ItemKind.{ItemKind}
use Rattle.lay_code.specs.declared.item.ItemKind.TheVariants as item

-- all items up to the end of the body or of the tokens
unfoldable pub items_by : (Tokens → Read Item) → Tokens → Got (List (Item × ℕ))
items_by one ts = repeat more_items one ts

-- The parsers of what stands within an item: items at a site one level deeper, use trees, what
-- stands within heads, and code.
pub record ItemWithin : Type 0 where
  pub items : Site → Tokens → Read Item
  pub trees : Tokens → Read UseTree
  pub heads : PatWithin
  pub code : ExprWithin

-- inner attributes and items at a site, in braces
unfoldable pub item_body : ItemWithin → Site → Tokens → Read (List Attr × List Item)
item_body within site ts = do
  inside ← passed (opens Brace) ts
  attrs ← attributes true inside
  items ← items_by (within.items site) attrs.1
  rest ← passed (closes Brace) items.1
  Some (((attrs.0, nodes items.0), deepest items.0), rest)

-- ---- each kind

unfoldable pub module_by : ItemWithin → Tokens → Read ItemKind
module_by within ts = do
  behind ← passed (is_keyword (codes "mod")) ts
  n ← name behind
  if first (is_mark (codes ";")) n.1 then Some ((item.FileModule n.0, 0), tail n.1)
      else (do b ← item_body within site.Module n.1; Some ((item.Module n.0 b.0.0.0 b.0.0.1, b.0.1), b.1))

unfoldable pub import_by : ItemWithin → Tokens → Read ItemKind
import_by within ts = do
  behind ← passed (is_keyword (codes "use")) ts
  t ← within.trees behind
  rest ← semicolon t.1
  Some ((item.Import t.0.0, t.0.1), rest)

-- the body of a function, or the `;` where it has none
abbrev pub fn_body : ExprWithin → Tokens → Read (Option Block)
fn_body within ts =
    if first (opens Brace) ts then (do b ← block_by within ts; Some ((Some b.0.0, b.0.1), b.1)) else (do rest ← semicolon ts; Some ((None, 0), rest))

unfoldable pub function_by : Site → ItemWithin → Tokens → Read ItemKind
function_by at within ts = do
  h ← fn_head at within.heads ts
  w ← wheres within.heads.kinds h.1
  b ← fn_body within.code w.1
  if may_be_bodied at (is_some b.0.0) then Some ((item.Function h.0.0 w.0.0.0 b.0.0, max h.0.1 (max w.0.1 b.0.1)), b.1) else None

unfoldable pub value_by : Site → ItemWithin → Tokens → Read ItemKind
value_by at within ts = do
  h ← value_head within.heads.kinds ts
  v ← if_read (is_op (codes "=") h.1) (λ us. within.code.exprs FREE (drop 1 us)) h.1
  rest ← semicolon v.1
  if may_be_valued at h.0.0 (is_some v.0.0) then Some ((item.Value h.0.0 v.0.0, max h.0.1 v.0.1), rest) else None

unfoldable pub trait_by : ItemWithin → Tokens → Read ItemKind
trait_by within ts = do
  h ← trait_head within.heads.kinds ts
  w ← wheres within.heads.kinds h.1
  b ← item_body within site.TraitMember w.1
  Some ((item.Trait h.0.0.0 w.0.0.0 b.0.0.0 b.0.0.1, max h.0.1 (max w.0.1 b.0.1)), b.1)

unfoldable pub impl_by : ItemWithin → Tokens → Read ItemKind
impl_by within ts = do
  h ← impl_head within.heads.kinds ts
  w ← wheres within.heads.kinds h.1
  b ← item_body within site.Member w.1
  Some ((item.Impl h.0.0 w.0.0.0 b.0.0.0 b.0.0.1, max h.0.1 (max w.0.1 b.0.1)), b.1)

unfoldable pub foreign_by : ItemWithin → Tokens → Read ItemKind
foreign_by within ts = do
  behind ← passed (is_keyword (codes "extern")) (unsafe_flag ts).1
  l ← if_there (first is_string_token behind) (literal is_string_token) behind
  b ← item_body within site.Foreign l.1
  Some ((item.Foreign (unsafe_flag ts).0 l.0 b.0.0.0 b.0.0.1, b.0.1), b.1)

unfoldable pub rules_item : Tokens → Read ItemKind
rules_item ts = do
  n ← name (drop 2 ts)
  g ← group n.1
  rest ← behind_end g.0.delim g.1
  Some ((item.MacroRules n.0 g.0, 0), rest)

unfoldable pub call_item : Tokens → Read ItemKind
call_item ts = do c ← call ts; rest ← behind_end c.0.tokens.delim c.1; Some ((item.Call c.0, 0), rest)

-- An item with this lead may stand at the site, as far as the lead tells. For functions, aliases
-- and values, what follows the lead decides.
abbrev pub may_stand : Site → ItemLead → Bool
may_stand at OfFunction = true
may_stand at OfAlias = true
may_stand at OfValue = true
may_stand at OfCall = true
may_stand at _ = in_module at

abbrev pub kind_by : Site → ItemWithin → ItemLead → Tokens → Read ItemKind
kind_by at within OfExternCrate ts = do x ← extern_crate ts; Some ((item.ExternCrate x.0, 0), x.1)
kind_by at within OfImport ts = import_by within ts
kind_by at within OfModule ts = module_by within ts
kind_by at within OfFunction ts = function_by at within ts
kind_by at within OfAlias ts = do x ← alias at within.heads.kinds ts; Some ((item.Alias x.0.0, x.0.1), x.1)
kind_by at within OfStruct ts = do x ← struct within.heads.kinds ts; Some ((item.Struct x.0.0, x.0.1), x.1)
kind_by at within OfUnion ts = do x ← union within.heads.kinds ts; Some ((item.Union x.0.0, x.0.1), x.1)
kind_by at within OfEnum ts = do x ← enum within.heads.kinds ts; Some ((item.Enum x.0.0, x.0.1), x.1)
kind_by at within OfValue ts = value_by at within ts
kind_by at within OfTrait ts = trait_by within ts
kind_by at within OfImpl ts = impl_by within ts
kind_by at within OfForeign ts = foreign_by within ts
kind_by at within OfRules ts = rules_item ts
kind_by at within OfCall ts = call_item ts

unfoldable pub kind_at : Site → ItemWithin → Tokens → Read ItemKind
kind_at at within ts = if may_stand at (item_lead ts) then kind_by at within (item_lead ts) ts else None

-- ---- with its attributes and its visibility

-- An item with its attributes and its visibility. Macro calls and declarations of macros have no
-- visibility.
unfoldable pub item_by : Site → ItemWithin → Tokens → Read Item
item_by at within ts = do
  attrs ← attributes false ts
  v ← visibility attrs.1
  kind ← kind_at at within v.1
  if is_some (told_of_kind kind.0.0).head || is_inherited v.0
      then Some ((record { attrs = attrs.0; vis = v.0; kind = kind.0.0 }, suc kind.0.1), kind.1)
      else None
