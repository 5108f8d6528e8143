-- What begins an expression is parsed where it is spelled: what is held of each kind that does.
-- What operators go on with isn't.
use Rattle.std.proofs.Common.{◌≡◌, ℕ, suc, Bool, true, not, ◌&&◌, nat_le, Some, ap, subst, ◌∙◌}
use Rattle.lay_form.specs.Spelled.{Spells}
use Rattle.lay_node.specs.Ahead.{Tokens}
use Rattle.lay_node.specs.nodes.Types.{deeper}
use Rattle.lay_node.proofs.reader.Exact.{IsRead}
use Rattle.lay_code.specs.Operands.{expr_lead_at}
use Rattle.lay_code.specs.Operators.{strength}
use Rattle.lay_code.specs.nodes.Code.{about_expr}
use Rattle.lay_code.specs.nodes.Exprs.{ExprFacts, inside as inside_of, level_of, lead_of, tail_of, is_struct_literal, within_of, expr_facts, ExprLayer}
use Rattle.lay_code.specs.reader.Exprs.{head_by}
use Rattle.lay_code.specs.reader.Within.{ExprWithin}
use Rattle.lay_code.specs.declared.exprs.Expr.{Expr}
use Rattle.lay_code.proofs.reader.ExprFronts.{expr_begins}
use Rattle.lay_code.proofs.reader.Followed.{Ended, node_parts}
use Rattle.lay_code.proofs.reader.ExprReads.{HeadRead}

-- It is spelled, and what is within it stands in its places; what is left may follow what it ends in, or it ends within braces
-- that aren't in the tree; and what is left goes on with it no more strongly than its level allows. The flags say that no struct
-- literal may stand there, and that it begins a statement.
pub record Headed (depth : ℕ) (x : Expr) (no_struct first : Bool) (ts rest : Tokens) : Type 0 where
  pub spelled : Spells (about_expr x).form (suc depth) ts rest
  pub inside : (about_expr x).within no_struct first ≡ true
  pub struct_free : not (no_struct && (about_expr x).is_struct) ≡ true
  pub tail : Ended (about_expr x).tail (about_expr x).form no_struct (suc depth) ts rest
  pub weak : nat_le (strength rest) (about_expr x).level ≡ true

-- Where that holds, it is read as what begins an expression.
abbrev pub IsHead : ℕ → ExprWithin → Expr → Type 0
IsHead depth within x = (no_struct first : Bool)
    (ts rest : Tokens) → Headed depth x no_struct first ts rest → HeadRead depth within no_struct x ts rest

-- ---- by the layer of a kind

-- the same of what an expression is made of
pub record HeadedBy (depth : ℕ) (F : ExprLayer) (no_struct first : Bool) (ts rest : Tokens) : Type 0 where
  pub spelled : Spells (inside_of F) depth ts rest
  pub inside : within_of F no_struct first ≡ true
  pub struct_free : not (no_struct && is_struct_literal F) ≡ true
  pub tail : Ended (tail_of F) (inside_of F) no_struct depth ts rest
  pub weak : nat_le (strength rest) (level_of F) ≡ true

-- What begins with a lead is read as what the lead begins.
pub head_of : (depth : ℕ) (within : ExprWithin) (x : Expr) (F : ExprLayer) → about_expr x ≡ expr_facts F
    → ((no_struct first : Bool) (ts rest : Tokens) → HeadedBy depth F no_struct first ts rest
    → IsRead (suc depth) (head_by within no_struct (Some (lead_of F))) x ts rest) → IsHead depth within x
head_of depth within x F e read no_struct first ts rest h =
    let begun = (expr_begins x no_struct first (suc depth) ts rest h.spelled h.inside).lead in
    let lead : expr_lead_at ts ≡ Some (lead_of F) = begun ∙ ap (λ (G : ExprFacts). Some G.lead) e in
    let spelled : Spells (deeper (inside_of F)) (suc depth) ts rest =
    subst (λ (G : ExprFacts). Spells G.form (suc depth) ts rest) e h.spelled in
    let tail : Ended (tail_of F) (deeper (inside_of F)) no_struct (suc depth) ts rest =
    subst (λ (G : ExprFacts). Ended G.tail G.form no_struct (suc depth) ts rest) e h.tail in
    let parts = node_parts (tail_of F) no_struct depth (inside_of F) ts rest (spelled, tail) in
    let r =
    read no_struct first ts rest (record {
      spelled = parts.0;
      inside = subst (λ (G : ExprFacts). G.within no_struct first ≡ true) e h.inside;
      struct_free = subst (λ (G : ExprFacts). not (no_struct && G.is_struct) ≡ true) e h.struct_free;
      tail = parts.1;
      weak = subst (λ (G : ExprFacts). nat_le (strength rest) G.level ≡ true) e h.weak;
    }) in
    record { lead = begun; read = (r.0, r.1, rw lead r.2) }
