-- What reading of items leaves: the tokens after those that are read.
use Rattle.std.proofs.Common.{ℕ, ◌||◌, true, false, None, drop, codes, is_some, arith}
use Rattle.lay_piece.specs.declared.kind.Delim.TheVariants.{Brace}
use Rattle.lay_node.specs.Ahead.{Tokens, first, tail, is_keyword, is_mark, opens, closes, more_items}
use Rattle.lay_node.specs.reader.Attr.{attributes}
use Rattle.lay_node.specs.reader.Call.{call, behind_end}
use Rattle.lay_node.specs.reader.Functions.{fn_head, insides}
use Rattle.lay_node.specs.reader.Heads as heads
use Rattle.lay_node.specs.reader.Loops.{passed}
use Rattle.lay_node.specs.reader.Tokens.{group}
use Rattle.lay_node.specs.reader.Types.{if_there, is_string_token, literal, within, if_read}
use Rattle.lay_node.specs.reader.Use.{use_at}
use Rattle.lay_node.specs.reader.Vis.{visibility}
use Rattle.lay_node.specs.reader.Where.{wheres}
use Rattle.lay_node.specs.reader.Words.{name}
use Rattle.lay_node.specs.declared.heads.Site.{Site}
use Rattle.lay_node.specs.declared.heads.Site.TheVariants as site
use Rattle.lay_code.specs.nodes.Code.{told_of_kind}
use Rattle.lay_code.specs.nodes.Item.{is_inherited, may_be_bodied, may_be_valued}
use Rattle.lay_code.specs.nodes.Places.{FREE}
use Rattle.lay_code.specs.reader.Blocks.{block_by}
use Rattle.lay_code.specs.reader.Code.{code_in, item_at}
use Rattle.lay_code.specs.reader.Item as item
use Rattle.lay_code.specs.reader.Item.{ItemWithin}
use Rattle.lay_code.specs.reader.ItemLeads.{ItemLead, item_lead, OfAlias, OfCall, OfEnum, OfExternCrate, OfForeign, OfFunction, OfImpl, OfImport, OfModule, OfRules, OfStruct, OfTrait, OfUnion, OfValue}
use Rattle.lay_read_tokens.proofs.Left.{Leaves, unread, dropped, joined, further, chain, chain_passed, choice, first_read, passed_left, repeat_left, name_left, group_left, call_left, end_left, attributes_left}
use Rattle.lay_read_parts.proofs.Left.{flag_left, literal_left, there_left, weaker, read_left}
use Rattle.lay_read_shared.proofs.HeadPartsLeft.{vis_left}
use Rattle.lay_read_generics.proofs.Left.{wheres_left}
use Rattle.lay_read_shared.proofs.HeadsLeft.{alias_left, enum_left, extern_crate_left, fn_head_left, impl_head_left, struct_left, trait_head_left, union_left, value_head_left}
use Rattle.lay_read_shared.proofs.BlocksLeft.{LeftCode, block_left}
use Rattle.lay_read_shared.proofs.UseLeft.{use_left}
use Rattle.lay_token.specs.Operators.{is_op}

-- how what is one level deeper is read within a depth
abbrev pub deeper : ℕ → ItemWithin
deeper depth = record { items = (code_in depth).items; trees = use_at depth; heads = insides depth; code = code_in depth }

-- ---- items

import_left : (depth : ℕ) (ts : Tokens) → Leaves 1 ts (item.import_by (deeper depth) ts)
unfolding item.import_by
import_left depth ts = chain_passed 1 1 0 ts (passed (is_keyword (codes "use")) ts) _ (omega arith) (passed_left (is_keyword (codes "use")) ts)
    (λ behind. chain 0 1 0 behind (use_at depth behind) _ (omega arith) (use_left depth behind)
    (λ t. chain_passed 0 1 0 t.1 (heads.semicolon t.1) _ (omega arith) (passed_left (is_mark (codes ";")) t.1) unread))

rules_left : (ts : Tokens) → Leaves 1 ts (item.rules_item ts)
unfolding item.rules_item
rules_left ts = further 1 0 1 ts (drop 2 ts) _ (omega arith) (dropped 2 ts)
    (chain 1 1 0 (drop 2 ts) (name (drop 2 ts)) _ (omega arith) (name_left (drop 2 ts))
    (λ n. chain 0 1 0 n.1 (group n.1) _ (omega arith) (group_left n.1)
    (λ g. chain_passed 0 0 0 g.1 (behind_end g.0.delim g.1) _ (omega arith) (end_left g.0.delim g.1) unread)))

call_item_left : (ts : Tokens) → Leaves 1 ts (item.call_item ts)
unfolding item.call_item
call_item_left ts = chain 1 1 0 ts (call ts) _ (omega arith) (call_left ts)
    (λ c. chain_passed 0 0 0 c.1 (behind_end c.0.tokens.delim c.1) _ (omega arith) (end_left c.0.tokens.delim c.1)
    unread)

module _ (depth : ℕ) (l : LeftCode (code_in depth)) where
  items_left : (at : Site) (ts : Tokens) → Leaves 1 ts (item_at at depth ts)
  items_left at ts = l.items at ts

  fn_body_left : (ts : Tokens) → Leaves 0 ts (item.fn_body (code_in depth) ts)
  fn_body_left ts = choice 0 ts (first (opens Brace) ts) _ _
      (λ h. chain 0 1 0 ts (block_by (code_in depth) ts) _ (omega arith) (block_left (code_in depth) l ts) (λ b. unread b.1))
      (chain_passed 0 1 0 ts (heads.semicolon ts) _ (omega arith) (passed_left (is_mark (codes ";")) ts) unread)

  function_left : (at : Site) (ts : Tokens) → Leaves 1 ts (item.function_by at (deeper depth) ts)
  unfolding item.function_by
  function_left at ts = chain 1 1 0 ts (fn_head at (insides depth) ts) _ (omega arith) (fn_head_left depth at ts)
      (λ h. chain 0 0 0 h.1 (wheres (within depth) h.1) _ (omega arith) (wheres_left depth h.1)
      (λ w. chain 0 0 0 w.1 (item.fn_body (code_in depth) w.1) _ (omega arith) (fn_body_left w.1)
      (λ b. choice 0 b.1 (may_be_bodied at (is_some b.0.0)) _ None (λ e. unread b.1) tt)))

  value_if_left : (ts : Tokens) → Leaves 0 ts (if_read (is_op (codes "=") ts) (λ us. (code_in depth).exprs FREE (drop 1 us)) ts)
  value_if_left ts =
      read_left (is_op (codes "=") ts) (λ us. (code_in depth).exprs FREE (drop 1 us)) ts
      (further 0 0 1 ts (drop 1 ts) ((code_in depth).exprs FREE (drop 1 ts)) (omega arith) (dropped 1 ts) (l.exprs FREE (drop 1 ts)))

  value_left : (at : Site) (ts : Tokens) → Leaves 1 ts (item.value_by at (deeper depth) ts)
  unfolding item.value_by
  value_left at ts = chain 1 1 0 ts (heads.value_head (within depth) ts) _ (omega arith) (value_head_left depth ts)
      (λ h. chain 0 0 0 h.1 (if_read (is_op (codes "=") h.1) (λ us. (code_in depth).exprs FREE (drop 1 us)) h.1) _ (omega arith) (value_if_left h.1)
      (λ v. chain_passed 0 1 0 v.1 (heads.semicolon v.1) _ (omega arith) (passed_left (is_mark (codes ";")) v.1)
      (λ rest. choice 0 rest (may_be_valued at h.0.0 (is_some v.0.0)) _ None (λ e. unread rest) tt)))

  body_left : (at : Site) (ts : Tokens) → Leaves 0 ts (item.item_body (deeper depth) at ts)
  unfolding item.item_body item.items_by
  body_left at ts = chain_passed 0 1 0 ts (passed (opens Brace) ts) _ (omega arith) (passed_left (opens Brace) ts)
      (λ inside. chain 0 0 0 inside (attributes true inside) _ (omega arith) (attributes_left true inside)
      (λ attrs. chain 0 0 0 attrs.1 (item.items_by (item_at at depth) attrs.1) _ (omega arith)
      (repeat_left (item_at at depth) (items_left at) more_items attrs.1)
      (λ items. chain_passed 0 1 0 items.1 (passed (closes Brace) items.1) _ (omega arith)
      (passed_left (closes Brace) items.1) unread)))

  module_left : (ts : Tokens) → Leaves 1 ts (item.module_by (deeper depth) ts)
  unfolding item.module_by
  module_left ts = chain_passed 1 1 0 ts (passed (is_keyword (codes "mod")) ts) _ (omega arith) (passed_left (is_keyword (codes "mod")) ts)
      (λ behind. chain 0 1 0 behind (name behind) _ (omega arith) (name_left behind)
      (λ n. choice 0 n.1 (first (is_mark (codes ";")) n.1) _ _
      (λ h. joined 0 1 0 n.1 (tail n.1) (tail n.1) (omega arith) (first_read (is_mark (codes ";")) n.1 h) (unread (tail n.1)))
      (chain 0 0 0 n.1 (item.item_body (deeper depth) site.Module n.1) _ (omega arith) (body_left site.Module n.1) (λ b. unread b.1))))

  trait_left : (ts : Tokens) → Leaves 1 ts (item.trait_by (deeper depth) ts)
  unfolding item.trait_by
  trait_left ts = chain 1 1 0 ts (heads.trait_head (within depth) ts) _ (omega arith) (trait_head_left depth ts)
      (λ h. chain 0 0 0 h.1 (wheres (within depth) h.1) _ (omega arith) (wheres_left depth h.1)
      (λ w. chain 0 0 0 w.1 (item.item_body (deeper depth) site.TraitMember w.1) _ (omega arith) (body_left site.TraitMember w.1)
      (λ b. unread b.1)))

  impl_left : (ts : Tokens) → Leaves 1 ts (item.impl_by (deeper depth) ts)
  unfolding item.impl_by
  impl_left ts = chain 1 1 0 ts (heads.impl_head (within depth) ts) _ (omega arith) (impl_head_left depth ts)
      (λ h. chain 0 0 0 h.1 (wheres (within depth) h.1) _ (omega arith) (wheres_left depth h.1)
      (λ w. chain 0 0 0 w.1 (item.item_body (deeper depth) site.Member w.1) _ (omega arith) (body_left site.Member w.1)
      (λ b. unread b.1)))

  foreign_left : (ts : Tokens) → Leaves 1 ts (item.foreign_by (deeper depth) ts)
  unfolding item.foreign_by
  foreign_left ts =
      let mid = (heads.unsafe_flag ts).1 in
      further 1 0 1 ts mid _ (omega arith) (flag_left (is_keyword (codes "unsafe")) ts)
      (chain_passed 1 1 0 mid (passed (is_keyword (codes "extern")) mid) _ (omega arith) (passed_left (is_keyword (codes "extern")) mid)
      (λ behind. chain 0 0 0 behind (if_there (first is_string_token behind) (literal is_string_token) behind) _ (omega arith)
      (there_left (first is_string_token behind) (literal is_string_token) behind (weaker behind _ (literal_left is_string_token behind)))
      (λ l. chain 0 0 0 l.1 (item.item_body (deeper depth) site.Foreign l.1) _ (omega arith) (body_left site.Foreign l.1)
      (λ b. unread b.1))))

  by_lead_left : (at : Site) (lead : ItemLead) (ts : Tokens) → Leaves 1 ts (item.kind_by at (deeper depth) lead ts)
  by_lead_left at OfExternCrate ts = chain 1 1 0 ts (heads.extern_crate ts) _ (omega arith) (extern_crate_left ts) (λ x. unread x.1)
  by_lead_left at OfImport ts = import_left depth ts
  by_lead_left at OfModule ts = module_left ts
  by_lead_left at OfFunction ts = function_left at ts
  by_lead_left at OfAlias ts = chain 1 1 0 ts (heads.alias at (within depth) ts) _ (omega arith) (alias_left depth at ts) (λ x. unread x.1)
  by_lead_left at OfStruct ts = chain 1 1 0 ts (heads.struct (within depth) ts) _ (omega arith) (struct_left depth ts) (λ x. unread x.1)
  by_lead_left at OfUnion ts = chain 1 1 0 ts (heads.union (within depth) ts) _ (omega arith) (union_left depth ts) (λ x. unread x.1)
  by_lead_left at OfEnum ts = chain 1 1 0 ts (heads.enum (within depth) ts) _ (omega arith) (enum_left depth ts) (λ x. unread x.1)
  by_lead_left at OfValue ts = value_left at ts
  by_lead_left at OfTrait ts = trait_left ts
  by_lead_left at OfImpl ts = impl_left ts
  by_lead_left at OfForeign ts = foreign_left ts
  by_lead_left at OfRules ts = rules_left ts
  by_lead_left at OfCall ts = call_item_left ts

  kind_left : (at : Site) (ts : Tokens) → Leaves 1 ts (item.kind_at at (deeper depth) ts)
  unfolding item.kind_at
  kind_left at ts = choice 1 ts (item.may_stand at (item_lead ts)) _ None (λ h. by_lead_left at (item_lead ts) ts) tt

  pub item_by_left : (at : Site) (ts : Tokens) → Leaves 1 ts (item.item_by at (deeper depth) ts)
  unfolding item.item_by
  item_by_left at ts = chain 1 0 1 ts (attributes false ts) _ (omega arith) (attributes_left false ts)
      (λ attrs. chain 1 0 1 attrs.1 (visibility attrs.1) _ (omega arith) (vis_left attrs.1)
      (λ v. chain 1 1 0 v.1 (item.kind_at at (deeper depth) v.1) _ (omega arith) (kind_left at v.1)
      (λ kind. choice 0 kind.1 (is_some (told_of_kind kind.0.0).head || is_inherited v.0) _ None (λ h. unread kind.1) tt)))
