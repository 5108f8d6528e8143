-- Expressions, blocks after an `else` and items that are spelled are read, at each budget from their depth on: all of them at once,
-- since each is within the others.
use Rattle.std.proofs.Common.{◌≡◌, ℕ, zero, suc, ◌≤◌, true, refl, subst, arith}
use Rattle.lay_form.specs.Form.{Done, Deeper}
use Rattle.lay_form.specs.Spelled.{Spells}
use Rattle.lay_node.specs.Ahead.{Tokens}
use Rattle.lay_node.specs.reader.Functions.{insides}
use Rattle.lay_node.specs.reader.Use.{use_at}
use Rattle.lay_node.specs.declared.heads.Site.{Site}
use Rattle.lay_node.proofs.reader.AliasComplete.{aliases_complete}
use Rattle.lay_node.proofs.reader.Exact.{Complete, IsRead}
use Rattle.lay_node.proofs.reader.FunctionsBegins.{fn_head_begins}
use Rattle.lay_node.proofs.reader.FunctionsComplete.{fn_head_complete}
use Rattle.lay_node.proofs.reader.HeadsLevel.{insides_reads}
use Rattle.lay_node.proofs.reader.ImplHeadsComplete.{impl_heads_complete}
use Rattle.lay_node.proofs.reader.OutsideExact.{extern_crate_complete}
use Rattle.lay_node.proofs.reader.StructsComplete.{enum_complete, struct_complete, union_complete}
use Rattle.lay_node.proofs.reader.TraitHeads.{trait_there}
use Rattle.lay_node.proofs.reader.TypesCompleteKinds.{within_reads}
use Rattle.lay_node.proofs.reader.Use.{use_complete}
use Rattle.lay_node.proofs.reader.ValueHeads.{value_heads_complete}
use Rattle.lay_code.specs.nodes.Code.{about_block, about_expr, about_item}
use Rattle.lay_code.specs.nodes.Exprs.{Followed, placed}
use Rattle.lay_code.specs.reader.Code.{code_in, deeper_block, expr_at, item_at}
use Rattle.lay_code.specs.reader.Within.{ExprWithin}
use Rattle.lay_code.specs.declared.blocks.Block.{Block}
use Rattle.lay_code.specs.declared.exprs.Expr.{Expr}
use Rattle.lay_code.specs.declared.exprs.Place.{Place}
use Rattle.lay_code.proofs.reader.BlockReads.{Fronts}
use Rattle.lay_code.proofs.reader.BlocksComplete.{block_form_read}
use Rattle.lay_code.proofs.reader.ConditionsReached.{whole_read}
use Rattle.lay_code.proofs.reader.ExprComplete.{read_one}
use Rattle.lay_code.proofs.reader.ExprFronts.{no_depth}
use Rattle.lay_code.proofs.reader.ExprReads.{ExprReads, ReadsExprs}
use Rattle.lay_code.proofs.reader.ItemKinds.{item_none}
use Rattle.lay_code.proofs.reader.ItemRead.{item_by_complete}
use Rattle.lay_code.proofs.reader.ItemReads.{HeadsComplete}

pub heads_complete : HeadsComplete
heads_complete = record {
  extern_crates = λ x depth ts rest s g. extern_crate_complete x depth ts rest s g refl;
  aliases = aliases_complete;
  structs = struct_complete;
  unions = union_complete;
  enums = enum_complete;
  values = value_heads_complete;
  functions = fn_head_complete;
  function_begins = fn_head_begins;
  impls = impl_heads_complete;
  traits = λ depth inner reads. trait_there depth inner.kinds reads.kinds;
}

module _ (fronts : Fronts) where
  -- a block one level deeper
  deeper_read : (depth : ℕ) (within : ExprWithin) → ExprReads depth within → (b : Block) (ts rest : Tokens)
      → Spells (Deeper ((about_block b).form true) Done) (suc depth) ts rest → (about_block b).good ≡ true → IsRead (suc depth) (deeper_block within) b ts rest
  deeper_read depth within reads b ts rest s g =
      let here = subst (λ us. Spells ((about_block b).form true) depth ts us) s.2 s.1 in
      let r = block_form_read fronts depth within reads b true ts rest here g in
      (suc r.0, omega (arith, r.1), rw r.2 refl)

  -- Within a budget expressions that are spelled at no greater a depth are read, where what is within them is.
  exprs_read : (budget : ℕ) → ((depth : ℕ) → depth ≤ budget → ExprReads depth (code_in budget)) → (depth : ℕ) → depth ≤ suc budget
      → ReadsExprs depth (code_in (suc budget))
  unfolding code_in
  exprs_read budget reads zero le = λ place x ts rest s w f. absurd (no_depth x ts rest s)
  exprs_read budget reads (suc depth) le =
      λ place x ts rest s w f. read_one fronts budget (code_in budget) reads place depth (omega (arith, le)) x ts rest s w f

  -- Within a budget, all that is spelled at no greater a depth is read.
  pub code_reads : (budget depth : ℕ) → depth ≤ budget → ExprReads depth (code_in budget)
  unfolding code_in
  code_reads zero zero h = record {
    exprs = λ place x ts rest s w f. absurd (no_depth x ts rest s);
    conditions = λ x ts rest s w f. absurd (no_depth x ts rest s);
    kinds = within_reads zero zero h;
    pats = (insides_reads zero zero h).pats;
    blocks = λ b ts rest s g. absurd s;
    items = λ at x ts rest s. absurd (item_none at x ts rest s.0);
  }
  code_reads zero (suc depth) h = absurd (omega (arith, h))
  code_reads (suc budget) zero h = record {
    exprs = λ place x ts rest s w f. absurd (no_depth x ts rest s);
    conditions = λ x ts rest s w f. absurd (no_depth x ts rest s);
    kinds = within_reads zero (suc budget) h;
    pats = (insides_reads zero (suc budget) h).pats;
    blocks = λ b ts rest s g. absurd s;
    items = λ at x ts rest s. absurd (item_none at x ts rest s.0);
  }
  code_reads (suc budget) (suc depth) h =
      let le : depth ≤ budget = omega (arith, h) in
      record {
        exprs = exprs_read budget (code_reads budget) (suc depth) h;
        conditions = λ x ts rest s w f.
            whole_read budget (code_in budget) (code_reads budget) (code_in (suc budget)) (exprs_read budget (code_reads budget)) (λ lhs us. refl)
            (suc depth) h x ts rest s w f;
        kinds = within_reads (suc depth) (suc budget) h;
        pats = (insides_reads (suc depth) (suc budget) h).pats;
        blocks = λ b ts rest s g. deeper_read depth (code_in budget) (code_reads budget depth le) b ts rest s g;
        items = λ at x ts rest s.
            item_by_complete fronts heads_complete at depth
            (record { items = (code_in budget).items; trees = use_at budget; heads = insides budget; code = code_in budget })
            (insides_reads depth budget le) (code_reads budget depth le).items (use_complete depth budget le) (code_reads budget depth le) x ts rest s;
      }

  -- An expression that stands there is read.
  pub expr_read : (place : Place) (x : Expr) (depth budget : ℕ) (ts rest : Tokens) → depth ≤ budget → Spells (about_expr x).form depth ts rest
      → placed (about_expr x) place ≡ true → Followed (about_expr x) place depth ts rest → IsRead depth (expr_at place budget) x ts rest
  expr_read place x depth budget ts rest h s w f = (code_reads budget depth h).exprs place x ts rest s w f

  -- So is an item.
  pub item_complete : (at : Site) (depth budget : ℕ) → depth ≤ budget → Complete (about_item at) depth (item_at at budget)
  item_complete at depth budget h = (code_reads budget depth h).items at
