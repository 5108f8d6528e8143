-- What reading of generic parameters and where clauses leaves: the tokens after those that are read.
use Rattle.std.proofs.Common.{ℕ, false, List, drop, codes, arith}
use Rattle.lay_token.specs.Operators.{is_op}
use Rattle.lay_node.specs.Ahead.{Tokens, first, tail, is_keyword, is_lifetime, is_mark}
use Rattle.lay_node.specs.Begins.{begins_bound, begins_predicate}
use Rattle.lay_node.specs.reader.Attr.{attributes}
use Rattle.lay_node.specs.reader.Generics as g
use Rattle.lay_node.specs.reader.Loops.{open_elements}
use Rattle.lay_node.specs.reader.Types as r
use Rattle.lay_node.specs.reader.Types.{Within, within}
use Rattle.lay_node.specs.reader.Where as w
use Rattle.lay_node.specs.reader.Words.{name}
use Rattle.lay_node.specs.declared.attr.Attr.{Attr}
use Rattle.lay_node.specs.declared.types.TypePlace.TheVariants.{Bounds}
use Rattle.lay_read_tokens.proofs.Left.{Leaves, unread, dropped, further, chain, chain_passed, choice, first_read, name_left, attributes_left}
use Rattle.lay_read_parts.proofs.Left.{angled_left, behind_left, binder_if_left, const_left, lifetime_left, lifetimes_left, open_left, operator_left, read_left, there_left, weaker}
use Rattle.lay_read_types.proofs.Left.{LeftWithin, all_bounds_left, left_within}

const_default_left : (ts : Tokens) → Leaves 1 ts (g.const_default_at ts)
const_default_left ts = choice 1 ts (r.begins_const ts) _ _
    (λ h. chain 1 1 0 ts (r.const ts) _ (omega arith) (const_left ts) (λ c. unread c.1))
    (chain 1 1 0 ts (name ts) _ (omega arith) (name_left ts) (λ n. unread n.1))

module _ (deeper : Within) (l : LeftWithin deeper) where
  met_left : (ts : Tokens) → Leaves 0 ts (g.met deeper ts)
  met_left ts = choice 0 ts (begins_bound ts) _ _ (λ h. weaker ts _ (all_bounds_left deeper l ts)) (unread ts)

  pub met_if_left : (ts : Tokens) → Leaves 0 ts (g.met_if deeper ts)
  met_if_left ts = choice 0 ts (is_op (codes ":") ts) _ _
      (λ h. further 0 0 0 ts (drop 1 ts) _ (omega arith) (dropped 1 ts) (met_left (drop 1 ts))) (unread ts)

  type_param_left : (attrs : List Attr) (ts : Tokens) → Leaves 1 ts (g.type_param deeper attrs ts)
  unfolding g.type_param
  type_param_left attrs ts = chain 1 1 0 ts (name ts) _ (omega arith) (name_left ts)
      (λ n. chain 0 0 0 n.1 (g.met_if deeper n.1) _ (omega arith) (met_if_left n.1)
      (λ bounds. chain 0 0 0 bounds.1 (r.if_read (is_op (codes "=") bounds.1)
      (λ us. deeper.types Bounds (drop 1 us)) bounds.1) _ (omega arith)
      (read_left (is_op (codes "=") bounds.1) (λ us. deeper.types Bounds (drop 1 us)) bounds.1
      (further 0 0 1 bounds.1 (drop 1 bounds.1) _ (omega arith) (dropped 1 bounds.1)
      (l.types Bounds (drop 1 bounds.1)))) (λ d. unread d.1)))

  const_param_left : (attrs : List Attr) (ts : Tokens) → Leaves 1 ts (g.const_param deeper attrs ts)
  unfolding g.const_param
  const_param_left attrs ts = chain 1 1 0 ts (name ts) _ (omega arith) (name_left ts)
      (λ n. chain_passed 0 0 0 n.1 (r.operator (codes ":") n.1) _ (omega arith) (operator_left (codes ":") n.1)
      (λ at. chain 0 1 0 at (deeper.types Bounds at) _ (omega arith) (l.types Bounds at)
      (λ x. chain 0 0 0 x.1 (r.if_there (is_op (codes "=") x.1) (λ us. g.const_default_at (drop 1 us)) x.1) _
      (omega arith)
      (there_left (is_op (codes "=") x.1) (λ us. g.const_default_at (drop 1 us)) x.1
      (further 0 0 1 x.1 (drop 1 x.1) _ (omega arith) (dropped 1 x.1) (const_default_left (drop 1 x.1))))
      (λ d. unread d.1))))

  pub one_param_left : (ts : Tokens) → Leaves 1 ts (g.one_param deeper ts)
  unfolding g.one_param
  one_param_left ts = chain 1 0 1 ts (attributes false ts) _ (omega arith) (attributes_left false ts)
      (λ attrs. choice 1 attrs.1 (first is_lifetime attrs.1) _ _
      (λ h. chain 1 1 0 attrs.1 (r.lifetime_behind attrs.0 attrs.1) _ (omega arith) (behind_left attrs.0 attrs.1)
      (λ x. unread x.1))
      (choice 1 attrs.1 (first (is_keyword (codes "const")) attrs.1) _ _
      (λ h. further 1 1 1 attrs.1 (tail attrs.1) _ (omega arith) (first_read (is_keyword (codes "const")) attrs.1 h)
      (const_param_left attrs.0 (tail attrs.1))) (type_param_left attrs.0 attrs.1)))

  pub one_predicate_left : (ts : Tokens) → Leaves 1 ts (w.one_predicate deeper ts)
  unfolding w.lifetime_predicate w.type_predicate
  one_predicate_left ts = choice 1 ts (first is_lifetime ts) _ _
      (λ h. chain 1 1 0 ts (w.lifetime_predicate ts) _ (omega arith)
      (chain 1 1 0 ts (r.lifetime ts) _ (omega arith) (lifetime_left ts)
      (λ x. chain_passed 0 0 0 x.1 (r.operator (codes ":") x.1) _ (omega arith) (operator_left (codes ":") x.1)
      (λ at. chain 0 0 0 at (r.lifetimes at) _ (omega arith) (lifetimes_left at) (λ bounds. unread bounds.1))))
      (λ p. unread p.1))
      (chain 1 0 1 ts (r.binder_if ts) _ (omega arith) (binder_if_left ts)
      (λ b. chain 1 1 0 b.1 (deeper.types Bounds b.1) _ (omega arith) (l.types Bounds b.1)
      (λ x. chain_passed 0 0 0 x.1 (r.operator (codes ":") x.1) _ (omega arith) (operator_left (codes ":") x.1)
      (λ at. chain 0 0 0 at (g.met deeper at) _ (omega arith) (met_left at) (λ bounds. unread bounds.1)))))

-- ---- parts, as the loops ask for them

pub one_param_leaves : (depth : ℕ) (ts : Tokens) → Leaves 1 ts (g.one_param (within depth) ts)
one_param_leaves depth ts = one_param_left (within depth) (left_within depth) ts

pub predicate_leaves : (depth : ℕ) (ts : Tokens) → Leaves 1 ts (w.one_predicate (within depth) ts)
predicate_leaves depth ts = one_predicate_left (within depth) (left_within depth) ts

-- ---- generic parameters and where clauses

module _ (depth : ℕ) where
  pub generics_left : (ts : Tokens) → Leaves 0 ts (g.generics (within depth) ts)
  unfolding g.generics
  generics_left ts = choice 0 ts (first (is_mark (codes "<")) ts) _ _
      (λ h. chain 0 1 0 ts (r.angled (g.one_param (within depth)) ts) _ (omega arith)
      (angled_left (g.one_param (within depth)) (one_param_leaves depth) ts) (λ ps. unread ps.1))
      (unread ts)

  pub wheres_left : (ts : Tokens) → Leaves 0 ts (w.wheres (within depth) ts)
  unfolding w.wheres
  wheres_left ts = choice 0 ts (first (is_keyword (codes "where")) ts) _ _
      (λ h. further 0 1 0 ts (tail ts) _ (omega arith) (first_read (is_keyword (codes "where")) ts h)
      (chain 0 0 0 (tail ts) (open_elements begins_predicate (w.one_predicate (within depth)) (tail ts)) _ (omega arith)
      (open_left (w.one_predicate (within depth)) (predicate_leaves depth) begins_predicate (tail ts)) (λ ps. unread ps.1)))
      (unread ts)
