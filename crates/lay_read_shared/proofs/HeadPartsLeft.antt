-- What reading of the parts of heads leaves: the tokens after those that are read.
use Rattle.std.proofs.Common.{◌≡◌, ℕ, ◌&&◌, Bool, [], ◌∷◌, refl, true, false, drop, codes, None, arith}
use Rattle.lay_token.specs.Operators.{is_op}
use Rattle.lay_piece.specs.declared.kind.Delim.TheVariants.{Paren, Brace}
use Rattle.lay_node.specs.Ahead.{Tokens, first, tail, is_keyword, is_lifetime, is_mark, opens, closes}
use Rattle.lay_node.specs.nodes.Attr.{is_empty}
use Rattle.lay_node.specs.nodes.Vis.{restricts_in, restricts_to}
use Rattle.lay_node.specs.reader.Attr.{attributes}
use Rattle.lay_node.specs.reader.Fields as fields
use Rattle.lay_node.specs.reader.Functions as functions
use Rattle.lay_node.specs.reader.Functions.{insides}
use Rattle.lay_node.specs.reader.Loops.{passed, elements}
use Rattle.lay_node.specs.reader.Patterns.{pat_at}
use Rattle.lay_node.specs.reader.SimplePath.{simple_path}
use Rattle.lay_node.specs.reader.Tokens.{tokens_before_comma}
use Rattle.lay_node.specs.reader.Types as r
use Rattle.lay_node.specs.reader.Types.{flag, within}
use Rattle.lay_node.specs.reader.Vis as vis
use Rattle.lay_node.specs.reader.Words.{name}
use Rattle.lay_node.specs.declared.patterns.Pat.{Pat}
use Rattle.lay_node.specs.declared.patterns.PatPlace.TheVariants.{Single}
use Rattle.lay_node.specs.declared.types.TypePlace.TheVariants.{Bounds}
use Rattle.lay_read_tokens.proofs.Left.{Left, Leaves, unread, dropped, joined, further, chain, chain_passed, choice, first_read, passed_left, elements_left, name_left, op_read, simple_path_left, list_left, attributes_left}
use Rattle.lay_read_parts.proofs.Left.{operator_left, flag_left, weaker, there_left, read_left, lifetime_left}
use Rattle.lay_read_types.proofs.Left.{types_leave}
use Rattle.lay_read_pats.proofs.Left.{pats_leave}

-- ---- visibilities

vis_path_left : (ts : Tokens) → Leaves 0 ts (vis.vis_path ts)
vis_path_left ts = chain 0 1 0 ts (simple_path ts) _ (omega arith) (simple_path_left ts)
    (λ p. chain_passed 0 1 0 p.1 (passed (closes Paren) p.1) _ (omega arith) (passed_left (closes Paren) p.1) unread)

vis_behind_left : (ts : Tokens) → Leaves 0 ts (vis.vis_behind ts)
vis_behind_left ts = choice 0 ts (restricts_to (codes "crate") ts) _ _ (λ h. dropped 3 ts)
    (choice 0 ts (restricts_to (codes "self") ts) _ _ (λ h. dropped 3 ts)
    (choice 0 ts (restricts_to (codes "super") ts) _ _ (λ h. dropped 3 ts)
    (choice 0 ts (restricts_in ts) _ _
    (λ h. further 0 0 0 ts (drop 2 ts) _ (omega arith) (dropped 2 ts) (vis_path_left (drop 2 ts))) (unread ts))))

pub vis_left : (ts : Tokens) → Leaves 0 ts (vis.visibility ts)
unfolding vis.visibility
vis_left ts = choice 0 ts (first (is_keyword (codes "pub")) ts) _ _
    (λ h. further 0 1 0 ts (tail ts) _ (omega arith) (first_read (is_keyword (codes "pub")) ts h) (vis_behind_left (tail ts)))
    (unread ts)

-- ---- small parts

and_first : (a b : Bool) → (a && b) ≡ true → a ≡ true
and_first true b h = refl
and_first false b h = absurd (cc)

pub tail_left : (ts : Tokens) → Left 0 ts (tail ts)
tail_left [] = unread []
tail_left (t ∷ ts) = dropped 1 (t ∷ ts)

-- ---- fields

module _ (depth : ℕ) where
  pub tuple_field_leaves : (ts : Tokens) → Leaves 1 ts (fields.tuple_field (within depth) ts)
  unfolding fields.tuple_field
  tuple_field_leaves ts = chain 1 0 1 ts (attributes false ts) _ (omega arith) (attributes_left false ts)
      (λ attrs. chain 1 0 1 attrs.1 (vis.visibility attrs.1) _ (omega arith) (vis_left attrs.1)
      (λ v. chain 1 1 0 v.1 (r.type_at Bounds depth v.1) _ (omega arith) (types_leave depth Bounds v.1) (λ x. unread x.1)))

  pub field_leaves : (ts : Tokens) → Leaves 1 ts (fields.field (within depth) ts)
  unfolding fields.field
  field_leaves ts = chain 1 0 1 ts (attributes false ts) _ (omega arith) (attributes_left false ts)
      (λ attrs. chain 1 0 1 attrs.1 (vis.visibility attrs.1) _ (omega arith) (vis_left attrs.1)
      (λ v. chain 1 1 0 v.1 (name v.1) _ (omega arith) (name_left v.1)
      (λ n. chain_passed 0 0 0 n.1 (r.operator (codes ":") n.1) _ (omega arith) (operator_left (codes ":") n.1)
      (λ at. chain 0 1 0 at (r.type_at Bounds depth at) _ (omega arith) (types_leave depth Bounds at) (λ x. unread x.1)))))

  pub tuple_fields_left : (ts : Tokens) → Leaves 0 ts (fields.tuple_fields (within depth) ts)
  unfolding fields.tuple_fields
  tuple_fields_left ts = chain_passed 0 1 0 ts (passed (opens Paren) ts) _ (omega arith) (passed_left (opens Paren) ts)
      (λ inside. chain 0 1 0 inside (elements (closes Paren) (fields.tuple_field (within depth)) inside) _ (omega arith)
      (elements_left (fields.tuple_field (within depth)) tuple_field_leaves (closes Paren) inside) (λ xs. unread xs.1))

  pub named_fields_left : (ts : Tokens) → Leaves 0 ts (fields.named_fields (within depth) ts)
  unfolding fields.named_fields
  named_fields_left ts = chain_passed 0 1 0 ts (passed (opens Brace) ts) _ (omega arith) (passed_left (opens Brace) ts)
      (λ inside. chain 0 1 0 inside (elements (closes Brace) (fields.field (within depth)) inside) _ (omega arith)
      (elements_left (fields.field (within depth)) field_leaves (closes Brace) inside) (λ xs. unread xs.1))

  variant_fields_left : (ts : Tokens) → Leaves 0 ts (fields.variant_fields (within depth) ts)
  unfolding fields.variant_fields
  variant_fields_left ts = choice 0 ts (first (opens Paren) ts) _ _
      (λ h. chain 0 0 0 ts (fields.tuple_fields (within depth) ts) _ (omega arith) (tuple_fields_left ts) (λ fs. unread fs.1))
      (choice 0 ts (first (opens Brace) ts) _ _
      (λ h. chain 0 0 0 ts (fields.named_fields (within depth) ts) _ (omega arith) (named_fields_left ts) (λ fs. unread fs.1))
      (unread ts))

  discriminant_left : (ts : Tokens) → Leaves 0 ts (fields.discriminant ts)
  unfolding fields.discriminant
  discriminant_left ts = chain 0 0 0 ts (tokens_before_comma ts) _ (omega arith) (list_left true ts)
      (λ us. choice 0 us.1 (is_empty us.0) None _ (λ h. tt) (unread us.1))

  pub variant_leaves : (ts : Tokens) → Leaves 1 ts (fields.variant (within depth) ts)
  unfolding fields.variant
  variant_leaves ts = chain 1 0 1 ts (attributes false ts) _ (omega arith) (attributes_left false ts)
      (λ attrs. chain 1 0 1 attrs.1 (vis.visibility attrs.1) _ (omega arith) (vis_left attrs.1)
      (λ v. chain 1 1 0 v.1 (name v.1) _ (omega arith) (name_left v.1)
      (λ n. chain 0 0 0 n.1 (fields.variant_fields (within depth) n.1) _ (omega arith) (variant_fields_left n.1)
      (λ fs. chain 0 0 0 fs.1 (r.if_there (is_op (codes "=") fs.1) (λ us. fields.discriminant (drop 1 us)) fs.1) _ (omega arith)
      (there_left (is_op (codes "=") fs.1) (λ us. fields.discriminant (drop 1 us)) fs.1
      (further 0 0 0 fs.1 (drop 1 fs.1) _ (omega arith) (dropped 1 fs.1) (discriminant_left (drop 1 fs.1))))
      (λ d. unread d.1)))))

  -- ---- parameters

  ref_self_left : (ts : Tokens) → Leaves 0 ts (functions.ref_self ts)
  unfolding functions.ref_self
  ref_self_left ts =
      chain 0 0 0 ts (r.if_there (first is_lifetime ts) r.lifetime ts) _ (omega arith)
      (there_left (first is_lifetime ts) r.lifetime ts (weaker ts _ (lifetime_left ts)))
      (λ l. joined 0 0 0 l.1 (functions.mut_flag l.1).1 (tail (functions.mut_flag l.1).1) (omega arith)
      (flag_left (is_keyword (codes "mut")) l.1) (tail_left (functions.mut_flag l.1).1))

  own_self_left : (ts : Tokens) → functions.begins_own_self ts ≡ true → Leaves 1 ts (functions.own_self (within depth) ts)
  unfolding functions.own_self
  own_self_left ts h =
      let mid = (functions.mut_flag ts).1 in
      let behind = tail mid in
      further 1 0 1 ts mid _ (omega arith) (flag_left (is_keyword (codes "mut")) ts)
      (further 1 1 0 mid behind _ (omega arith) (first_read (is_keyword (codes "self")) mid (and_first _ _ h))
      (chain 0 0 0 behind (r.if_read (is_op (codes ":") behind) (λ us. r.type_at Bounds depth (drop 1 us)) behind) _ (omega arith)
      (read_left (is_op (codes ":") behind) (λ us. r.type_at Bounds depth (drop 1 us)) behind
      (further 0 0 1 behind (drop 1 behind) _ (omega arith) (dropped 1 behind) (types_leave depth Bounds (drop 1 behind))))
      (λ x. unread x.1)))

  typed_by_left : (p : Pat × ℕ) (ts : Tokens) → Leaves 0 ts (functions.typed_by (within depth) p ts)
  typed_by_left p ts = choice 0 ts (is_op (codes "...") ts) _ _ (λ h. dropped 3 ts)
      (chain 0 1 0 ts (r.type_at Bounds depth ts) _ (omega arith) (types_leave depth Bounds ts) (λ x. unread x.1))

  typed_left : (ts : Tokens) → Leaves 1 ts (functions.typed (insides depth) ts)
  unfolding functions.typed
  typed_left ts = chain 1 1 0 ts (pat_at Single depth ts) _ (omega arith) (pats_leave depth Single ts)
      (λ p. chain_passed 0 0 0 p.1 (r.operator (codes ":") p.1) _ (omega arith) (operator_left (codes ":") p.1)
      (λ at. typed_by_left p.0 at))

  param_kind_left : (ts : Tokens) → Leaves 1 ts (functions.param_kind (insides depth) ts)
  unfolding functions.param_kind
  param_kind_left ts = choice 1 ts (functions.begins_ref_self ts) _ _
      (λ h. further 1 1 0 ts (tail ts) _ (omega arith) (first_read (is_mark (codes "&")) ts (and_first _ _ h))
      (chain 0 0 0 (tail ts) (functions.ref_self (tail ts)) _ (omega arith) (ref_self_left (tail ts)) (λ k. unread k.1)))
      (choice 1 ts (functions.begins_own_self ts) _ _ (own_self_left ts)
      (choice 1 ts (is_op (codes "...") ts) _ _ (λ h. op_read (codes "...") 2 ts h) (typed_left ts)))

  pub fn_param_leaves : (ts : Tokens) → Leaves 1 ts (functions.fn_param (insides depth) ts)
  unfolding functions.fn_param
  fn_param_leaves ts = chain 1 0 1 ts (attributes false ts) _ (omega arith) (attributes_left false ts)
      (λ attrs. chain 1 1 0 attrs.1 (functions.param_kind (insides depth) attrs.1) _ (omega arith) (param_kind_left attrs.1)
      (λ k. unread k.1))
