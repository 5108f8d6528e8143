-- One step of a reader, from what the readers within it give.
use Rattle.std.proofs.Common.{◌≡◌, ℕ, zero, ◌+◌, ◌-◌, ◌<◌, ◌||◌, add-one, Bool, true, false, List, Some, None, Result, Ok, Err, refl, sym, subst, ◌∙◌, ap, if◌then◌else◌, is_some, suc, arith}
use Rattle.lay_node.specs.Ahead.{Tokens}
use Rattle.lay_node.specs.reader.Attr.{attributes}
use Rattle.lay_node.specs.declared.attr.Attr.{Attr}
use Rattle.lay_node.specs.reader.Vis.{visibility}
use Rattle.lay_node.specs.declared.heads.Site.{Site}
use Rattle.lay_node.specs.declared.vis.Vis.{Vis}
use Rattle.lay_code.specs.reader.Code.{code_in, deeper_block, expr_at, item_at}
use Rattle.lay_code.specs.reader.Exprs.{expr_by}
use Rattle.lay_code.specs.reader.Item.{item_by, kind_at}
use Rattle.lay_code.specs.nodes.Code.{told_of_kind}
use Rattle.lay_code.specs.nodes.Item.{is_inherited}
use Rattle.lay_code.proofs.nodes.ItemLaws as laws
use Rattle.lay_code.proofs.nodes.ItemLaws.{KindView, IsExternCrate, IsImport, IsFileModule, IsModule, IsFunction, IsAlias, IsStruct, IsUnion, IsEnum, IsValue, IsTrait, IsImpl, IsForeign, IsRules, IsCall}
use Rattle.lay_code.specs.declared.blocks.Block.{Block}
use Rattle.lay_code.specs.declared.exprs.Place.{Place}
use Rattle.lay_code.specs.declared.item.Item.{Item}
use Rattle.lay_code.specs.declared.item.ItemKind.{ItemKind}
use Rattle.lay_read_tokens.specs.Answers.{IsFound}
use Rattle.lay_read_tokens.specs.declared.found.Found.{Found}
use Rattle.lay_read_tokens.specs.declared.stop.ReadNone.{ReadNone}
use Rattle.lay_read_tokens.specs.declared.stop.ReadNone.TheVariants.{NoReading}
use Rattle.lay_read_code.specs.Answers.{has_head}
use Rattle.lay_read_begun.specs.Begun.{deeper as within_depth}
use Rattle.lay_read_head_rules.proofs.UseSteps.{deeper}
use Rattle.lay_read_types.proofs.Steps.{above_zero}
use Rattle.lay_node.specs.reader.Functions.{insides}
use Rattle.lay_node.specs.reader.Use.{use_at}
use Rattle.lay_read_shared.specs.alone.ArmFronts.{alone_arm}
use Rattle.lay_read_shared.specs.alone.Fronts.{alone, stmt_alone}
use Rattle.lay_code.specs.reader.Blocks.{block_by}
use Rattle.lay_read_shared.specs.Code.{code_within}
use Rattle.lay_read_blocks.specs.Answers.{deeper_arm, deeper_stmt}
use Rattle.lay_read_shared.proofs.Left.{code_is}

-- ---- items

-- A kind has a head where it is no macro.
pub headed_is : (kind : ItemKind) → has_head kind ≡ is_some (told_of_kind kind).head
headed_is kind = by kind (laws.kind_view kind)
  where
    by : (k : ItemKind) → KindView k → has_head k ≡ is_some (told_of_kind k).head
    by _ (IsExternCrate x) = rw (laws.extern_crate_is x) refl
    by _ (IsImport tree) = rw (laws.import_is tree) refl
    by _ (IsFileModule name) = rw (laws.file_module_is name) refl
    by _ (IsModule name attrs items) = rw (laws.module_is name attrs items) refl
    by _ (IsFunction head wheres body) = rw (laws.function_is head wheres body) refl
    by _ (IsAlias x) = rw (laws.alias_is x) refl
    by _ (IsStruct x) = rw (laws.struct_is x) refl
    by _ (IsUnion x) = rw (laws.union_is x) refl
    by _ (IsEnum x) = rw (laws.enum_is x) refl
    by _ (IsValue head value) = rw (laws.value_is head value) refl
    by _ (IsTrait head wheres attrs items) = rw (laws.trait_is head wheres attrs items) refl
    by _ (IsImpl head wheres attrs items) = rw (laws.impl_is head wheres attrs items) refl
    by _ (IsForeign is_unsafe abi attrs items) = rw (laws.foreign_is is_unsafe abi attrs items) refl
    by _ (IsRules name rules) = rw (laws.rules_is name rules) refl
    by _ (IsCall call) = rw (laws.call_is call) refl

module _ (at : Site) (depth : ℕ) (ts : Tokens) where
  pub item_nowhere : depth ≡ 0 → item_at at depth ts ≡ None
  unfolding code_in
  item_nowhere e = ap (λ n. item_at at n ts) e

  module _ (some : 0 < depth) where
    item_step : item_at at depth ts ≡ item_by at (within_depth (depth - 1)) ts
    unfolding code_in
    item_step = deeper (λ n. item_at at n ts) depth some
        ∙ ap (λ w. item_by at (record { items = (code_in (depth - 1)).items; trees = use_at (depth - 1); heads = insides (depth - 1); code = w }) ts)
        (code_is (depth - 1))

    pub item_no_attrs : attributes false ts ≡ None → item_at at depth ts ≡ None
    unfolding item_by
    item_no_attrs a = item_step ∙ rw a refl

    module _ (attrs : List Attr) (mid : Tokens) (a : attributes false ts ≡ Some (attrs, mid)) where
      pub item_no_vis : visibility mid ≡ None → item_at at depth ts ≡ None
      unfolding item_by
      item_no_vis v = item_step ∙ rw (a, v) refl

      module _ (vis : Vis) (behind : Tokens) (v : visibility mid ≡ Some (vis, behind)) where
        pub item_no_kind : kind_at at (within_depth (depth - 1)) behind ≡ None → item_at at depth ts ≡ None
        unfolding item_by
        item_no_kind k = item_step ∙ rw (a, v, k) refl

        module _ (kind : ItemKind) (need : ℕ) (rest : Tokens) (k : kind_at at (within_depth (depth - 1)) behind ≡ Some ((kind, need), rest)) where
          abbrev Made : Found Item
          Made = record { node = record { attrs = attrs; vis = vis; kind = kind }; need = need + 1 }

          kept_by : (keeps : Bool) → keeps ≡ (is_some (told_of_kind kind).head || is_inherited vis)
              → IsFound (item_at at depth ts) (let r : Result (Found Item) ReadNone = if keeps then Ok Made else Err NoReading in r) rest
          unfolding item_by
          kept_by true e = item_step ∙ rw (a, v, k, sym e, add-one) refl
          kept_by false e = item_step ∙ rw (a, v, k, sym e) refl

          pub item_kept : (keeps : Bool) → keeps ≡ (has_head kind || is_inherited vis) → (r : Result (Found Item) ReadNone)
              → r ≡ (if keeps then Ok Made else Err NoReading) → IsFound (item_at at depth ts) r rest
          item_kept keeps e r h =
              subst (λ x. IsFound (item_at at depth ts) x rest) (sym h) (kept_by keeps (e ∙ ap (λ b. b || is_inherited vis) (headed_is kind)))

-- ---- expressions

pub expr_nowhere : (place : Place) (n : ℕ) (ts : Tokens) → n ≡ 0 → expr_at place n ts ≡ None
unfolding code_in
expr_nowhere place n ts e = ap (λ (k : ℕ). expr_at place k ts) e

pub block_nowhere : (n : ℕ) (ts : Tokens) → n ≡ 0 → (code_in n).blocks ts ≡ None
unfolding code_in
block_nowhere n ts e = ap (λ (k : ℕ). (code_in k).blocks ts) e

-- An expression within a depth that is no zero is read by the rules of the level.
pub expr_deeper : (place : Place) (n : ℕ) (ts : Tokens) → 0 < n
    → expr_at place n ts ≡ expr_by (code_within (n - 1)) (n - 1 + 1) place ts
unfolding code_in
expr_deeper place n ts some =
    let e : n - 1 + 1 ≡ suc (n - 1) = omega arith in
    above_zero (λ (k : ℕ). expr_at place k ts) n some ∙ ap (λ w. expr_by w (suc (n - 1)) place ts) (code_is (n - 1))
    ∙ ap (λ (k : ℕ). expr_by (code_within (n - 1)) k place ts) (sym e)

-- A block within a depth that is no zero is read by the rules of the level, one level deeper.
block_deeper : (n : ℕ) (ts : Tokens) → 0 < n → (code_in n).blocks ts ≡ deeper_block (code_within (n - 1)) ts
unfolding code_in
block_deeper n ts some =
    above_zero (λ (k : ℕ). (code_in k).blocks ts) n some ∙ ap (λ w. deeper_block w ts) (code_is (n - 1))

pub block_found : (n : ℕ) (ts : Tokens) (r : Result (Found Block) ReadNone) (left : Tokens) → 0 < n
    → IsFound (deeper_block (code_within (n - 1)) ts) r left → IsFound ((code_in n).blocks ts) r left
block_found n ts r left some h = rw (block_deeper n ts some) h

-- ---- blocks, statements and arms by themselves

pub blocks_alone : (depth : ℕ) (ts : Tokens) → (code_in depth).blocks ts ≡ alone block_by depth ts
unfolding code_in
blocks_alone zero ts = refl
blocks_alone (suc depth) ts = refl

pub stmt_alone_is : (depth : ℕ) (ts : Tokens) → 0 < depth → alone stmt_alone depth ts ≡ deeper_stmt (code_within (depth - 1)) ts
stmt_alone_is depth ts some =
    let e : depth ≡ suc (depth - 1) = omega arith in
    ap (λ d. alone stmt_alone d ts) e ∙ ap (λ within. deeper_stmt within ts) (code_is (depth - 1))

pub arm_alone_is : (depth : ℕ) (ts : Tokens) → 0 < depth → alone_arm depth ts ≡ deeper_arm (code_within (depth - 1)) (depth - 1) ts
arm_alone_is depth ts some =
    let e : depth ≡ suc (depth - 1) = omega arith in
    ap (λ d. alone_arm d ts) e ∙ ap (λ within. deeper_arm within (depth - 1) ts) (code_is (depth - 1))
