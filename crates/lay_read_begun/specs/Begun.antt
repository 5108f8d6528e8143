-- Parsing an item in two steps: first up to its body, and then the item that it becomes with its
-- body.
use Rattle.std.specs.Prelude.{ℕ, ◌≡◌, max, Bool, if◌then◌else◌, List, [], codes, drop, Option, Some, None, is_some, Result, Ok, Err}
use Rattle.lay_token.specs.Operators.{is_op}
use Rattle.lay_node.specs.Ahead.{Tokens, first, tail, is_keyword, is_mark}
use Rattle.lay_node.specs.reader.Call.{behind_end, call}
use Rattle.lay_node.specs.reader.Exact.{needless}
use Rattle.lay_node.specs.reader.Functions.{fn_head, insides}
use Rattle.lay_node.specs.reader.Heads.{alias, enum, extern_crate, impl_head, semicolon, struct, trait_head, union, unsafe_flag, value_head}
use Rattle.lay_node.specs.reader.Loops.{Read, ◌>>=◌, passed}
use Rattle.lay_node.specs.reader.Tokens.{group}
use Rattle.lay_node.specs.reader.Types.{Within, if_read, if_there, is_string_token, literal}
use Rattle.lay_node.specs.reader.Use.{use_at}
use Rattle.lay_node.specs.reader.Where.{wheres}
use Rattle.lay_node.specs.reader.Words.{name}
use Rattle.lay_node.specs.declared.attr.Attr.{Attr}
use Rattle.lay_node.specs.declared.heads.Site.{Site}
use Rattle.lay_node.specs.declared.heads.Site.TheVariants as site
use Rattle.lay_code.specs.nodes.Places.{FREE}
use Rattle.lay_code.specs.nodes.Item.{may_be_bodied, may_be_valued}
use Rattle.lay_code.specs.reader.Code.{item_at}
use Rattle.lay_code.specs.reader.Item as reader
use Rattle.lay_code.specs.reader.Item.{ItemWithin}
use Rattle.lay_code.specs.reader.ItemLeads.{ItemLead, OfAlias, OfCall, OfEnum, OfExternCrate, OfForeign, OfFunction, OfImpl, OfImport, OfModule, OfRules, OfStruct, OfTrait, OfUnion, OfValue, item_lead}
use Rattle.lay_code.specs.declared.blocks.Block.{Block}
use Rattle.lay_code.specs.declared.exprs.Expr.{Expr}
use Rattle.lay_code.specs.declared.item.Item.{Item}
use Rattle.lay_code.specs.declared.item.ItemKind.{ItemKind}
use Rattle.lay_code.specs.declared.item.ItemKind.TheVariants as item
use Rattle.lay_read_begun.specs.declared.begun.Begun.{Begun}
use Rattle.lay_read_begun.specs.declared.begun.Begun.TheVariants as begun
use Rattle.lay_read_begun.specs.declared.begun.Whole.{Whole}
use Rattle.lay_read_begun.specs.declared.begun.Whole.TheVariants as whole
use Rattle.lay_read_begun.specs.declared.bodies.Body.{Body}
use Rattle.lay_read_begun.specs.declared.bodies.Body.TheVariants as body
use Rattle.lay_read_tokens.specs.declared.found.Found.{Found}
use Rattle.lay_read_tokens.specs.declared.stop.ReadNone.{ReadNone}
use Rattle.lay_read_tokens.specs.declared.stop.ReadNone.TheVariants.{NoReading, NoMemory}
use Rattle.lay_read_shared.specs.Code.{code_within}

-- the parsers of what stands within an item, at most this deep
abbrev pub deeper : ℕ → ItemWithin
deeper depth = record { items = λ s ts. item_at s depth ts; trees = use_at depth; heads = insides depth; code = code_within depth }

-- ---- items up to their bodies

-- an item that is this node and has no body
abbrev pub node_alone : {A : Type 0} → (A → Whole) → Read A → Read Begun
node_alone make read = do x ← read; Some ((begun.Whole (make x.0.0), x.0.1), x.1)

abbrev pub import_begun : ItemWithin → Tokens → Read Begun
import_begun within ts = do
  behind ← passed (is_keyword (codes "use")) ts
  t ← within.trees behind
  rest ← semicolon t.1
  Some ((begun.Whole (whole.Import t.0.0), t.0.1), rest)

-- a declaration of a macro
abbrev pub rules_begun : Tokens → Read Begun
rules_begun ts = do
  n ← name (drop 2 ts)
  g ← group n.1
  rest ← behind_end g.0.delim g.1
  Some ((begun.Whole (whole.MacroRules n.0 g.0), 0), rest)

abbrev pub call_begun : Tokens → Read Begun
call_begun ts = do c ← call ts; rest ← behind_end c.0.tokens.delim c.1; Some ((begun.Whole (whole.Call c.0), 0), rest)

-- a module without a body, or the head of a module with one
abbrev pub module_begun : Tokens → Read Begun
module_begun ts = do
  behind ← passed (is_keyword (codes "mod")) ts
  n ← name behind
  if first (is_mark (codes ";")) n.1 then Some ((begun.Whole (whole.FileModule n.0), 0), tail n.1) else Some ((begun.Module n.0, 0), n.1)

abbrev pub trait_begun : Within → Tokens → Read Begun
trait_begun within ts = do
  h ← trait_head within ts
  w ← wheres within h.1
  Some ((begun.Trait h.0.0.0 w.0.0.0, max h.0.1 w.0.1), w.1)

abbrev pub impl_begun : Within → Tokens → Read Begun
impl_begun within ts = do
  h ← impl_head within ts
  w ← wheres within h.1
  Some ((begun.Impl h.0.0 w.0.0.0, max h.0.1 w.0.1), w.1)

abbrev pub foreign_begun : Tokens → Read Begun
foreign_begun ts = do
  behind ← passed (is_keyword (codes "extern")) (unsafe_flag ts).1
  l ← if_there (first is_string_token behind) (literal is_string_token) behind
  Some ((begun.Foreign (unsafe_flag ts).0 l.0, 0), l.1)

abbrev pub function_begun : Site → ItemWithin → Tokens → Read Begun
function_begun at within ts = do
  h ← fn_head at within.heads ts
  w ← wheres within.heads.kinds h.1
  Some ((begun.Function h.0.0 w.0.0.0, max h.0.1 w.0.1), w.1)

abbrev pub value_begun : ItemWithin → Tokens → Read Begun
value_begun within ts = do h ← value_head within.heads.kinds ts; Some ((begun.Value h.0.0, h.0.1), h.1)

abbrev pub begun_by : Site → ItemWithin → ItemLead → Tokens → Read Begun
begun_by at within OfExternCrate ts = node_alone whole.ExternCrate (needless extern_crate 0 ts)
begun_by at within OfImport ts = import_begun within ts
begun_by at within OfModule ts = module_begun ts
begun_by at within OfFunction ts = function_begun at within ts
begun_by at within OfAlias ts = node_alone whole.Alias (alias at within.heads.kinds ts)
begun_by at within OfStruct ts = node_alone whole.Struct (struct within.heads.kinds ts)
begun_by at within OfUnion ts = node_alone whole.Union (union within.heads.kinds ts)
begun_by at within OfEnum ts = node_alone whole.Enum (enum within.heads.kinds ts)
begun_by at within OfValue ts = value_begun within ts
begun_by at within OfTrait ts = trait_begun within.heads.kinds ts
begun_by at within OfImpl ts = impl_begun within.heads.kinds ts
begun_by at within OfForeign ts = foreign_begun ts
begun_by at within OfRules ts = rules_begun ts
begun_by at within OfCall ts = call_begun ts

unfoldable pub begun_at : Site → ItemWithin → Tokens → Read Begun
begun_at at within ts = if reader.may_stand at (item_lead ts) then begun_by at within (item_lead ts) ts else None

-- ---- bodies

-- the body that the item goes on with
abbrev pub body_of : Begun → Body
body_of (begun.Whole x) = body.None
body_of (begun.Module name) = body.Items site.Module
body_of (begun.Trait head wheres) = body.Items site.TraitMember
body_of (begun.Impl head wheres) = body.Items site.Member
body_of (begun.Foreign is_unsafe abi) = body.Items site.Foreign
body_of (begun.Function head wheres) = body.Block
body_of (begun.Value head) = body.Value

-- the item that a node without a body is
abbrev pub kind_of : Whole → ItemKind
kind_of (whole.ExternCrate x) = item.ExternCrate x
kind_of (whole.Import tree) = item.Import tree
kind_of (whole.FileModule name) = item.FileModule name
kind_of (whole.Alias x) = item.Alias x
kind_of (whole.Struct x) = item.Struct x
kind_of (whole.Union x) = item.Union x
kind_of (whole.Enum x) = item.Enum x
kind_of (whole.MacroRules name rules) = item.MacroRules name rules
kind_of (whole.Call call) = item.Call call

-- the item with the attributes and the items of its body, if it has one
abbrev pub with_items : Begun → List Attr → List Item → ItemKind
with_items (begun.Whole x) attrs items = kind_of x
with_items (begun.Module name) attrs items = item.Module name attrs items
with_items (begun.Trait head wheres) attrs items = item.Trait head wheres attrs items
with_items (begun.Impl head wheres) attrs items = item.Impl head wheres attrs items
with_items (begun.Foreign is_unsafe abi) attrs items = item.Foreign is_unsafe abi attrs items
with_items (begun.Function head wheres) attrs items = item.Function head wheres None
with_items (begun.Value head) attrs items = item.Value head None

abbrev pub kept : {A : Type 0} → Bool → A → ℕ → Result (Found A) ReadNone
kept keeps node need = if keeps then Ok (record { node = node; need = need }) else Err NoReading

-- a function with its body or without one, if that may stand at the site
abbrev pub with_block : Begun × ℕ → Site → Option Block × ℕ → Result (Found ItemKind) ReadNone
with_block (begun.Function head wheres, need) at b = kept (may_be_bodied at (is_some b.0)) (item.Function head wheres b.0) (max need b.1)
with_block _ at b = Err NoReading

-- a constant or a static with its value or without one, if that may stand at the site
abbrev pub with_value : Begun × ℕ → Site → Option Expr × ℕ → Result (Found ItemKind) ReadNone
with_value (begun.Value head, need) at v = kept (may_be_valued at head (is_some v.0)) (item.Value head v.0) (max need v.1)
with_value _ at v = Err NoReading

-- ---- an item of what it begins with and of what was read of its body

-- the item with what was parsed in its braces
abbrev pub items_kind : Found Begun → Result (Found (List Attr × List Item)) ReadNone → Result (Found ItemKind) ReadNone
items_kind begun (Ok body) = Ok (record { node = with_items begun.node body.node.0 body.node.1; need = max begun.need body.need })
items_kind begun (Err none) = Err none

-- the function with what was parsed as its body
abbrev pub block_kind : Found Begun → Site → Result (Found (Option Block)) ReadNone → Result (Found ItemKind) ReadNone
block_kind begun at (Ok body) = with_block (begun.node, begun.need) at (body.node, body.need)
block_kind begun at (Err none) = Err none

-- the constant or the static with what was parsed as its value
abbrev pub value_kind : Found Begun → Site → Result (Found (Option Expr)) ReadNone → Result (Found ItemKind) ReadNone
value_kind begun at (Ok value) = with_value (begun.node, begun.need) at (value.node, value.need)
value_kind begun at (Err none) = Err none

-- The result was put into a box, unless memory ran out.
abbrev pub IsBoxed : Result (Found ItemKind) ReadNone → Result (Found ItemKind) ReadNone → Type 0
IsBoxed (Ok kind) (Ok found) = found ≡ kind
IsBoxed (Ok kind) (Err none) = none ≡ NoMemory
IsBoxed (Err none) (Ok found) = ⊥
IsBoxed (Err none) (Err other) = other ≡ none

-- a value, if the item has one, and then the `;`
abbrev pub value_end : ItemWithin → Tokens → Read (Option Expr)
value_end within ts = do
  v ← if_read (is_op (codes "=") ts) (λ us. within.code.exprs FREE (drop 1 us)) ts
  rest ← semicolon v.1
  Some (v.0, rest)

-- the result and the tokens that are left, or nothing
abbrev pub made : Result (Found ItemKind) ReadNone → Tokens → Read ItemKind
made (Ok found) ts = Some ((found.node, found.need), ts)
made (Err none) ts = None

abbrev pub finished_by : ItemWithin → Site → Body → Begun × ℕ → Tokens → Read ItemKind
finished_by within at body.None x ts = Some ((with_items x.0 [] [], x.1), ts)
finished_by within at (body.Items inner) x ts = do
  b ← reader.item_body within inner ts
  Some ((with_items x.0 b.0.0.0 b.0.0.1, max x.1 b.0.1), b.1)
finished_by within at body.Block x ts = do b ← reader.fn_body within.code ts; made (with_block x at b.0) b.1
finished_by within at body.Value x ts = do v ← value_end within ts; made (with_value x at v.0) v.1

abbrev pub finished : ItemWithin → Site → Begun × ℕ → Tokens → Read ItemKind
finished within at x ts = finished_by within at (body_of x.0) x ts
