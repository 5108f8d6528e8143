-- What reading of heads leaves: the tokens after those that are read.
use Rattle.std.proofs.Common.{ℕ, ◌&&◌, ◌||◌, not, Bool, true, false, List, drop, codes, Option, Some, None, if◌then◌else◌, arith}
use Rattle.lay_token.specs.Operators.{is_op}
use Rattle.lay_piece.specs.declared.kind.Delim.TheVariants.{Paren, Brace}
use Rattle.lay_node.specs.Ahead.{Tokens, first, tail, is_keyword, is_mark, opens, closes}
use Rattle.lay_node.specs.nodes.Functions.{may_say}
use Rattle.lay_node.specs.nodes.Heads.{ends_head, is_crate_word, may_be_given}
use Rattle.lay_node.specs.nodes.Types.{is_there}
use Rattle.lay_node.specs.reader.Fields as fields
use Rattle.lay_node.specs.reader.Functions as functions
use Rattle.lay_node.specs.reader.Functions.{insides}
use Rattle.lay_node.specs.reader.Generics as g
use Rattle.lay_node.specs.reader.Heads as heads
use Rattle.lay_node.specs.reader.Loops.{Got, passed, nodes, elements, open_elements}
use Rattle.lay_node.specs.reader.Types as r
use Rattle.lay_node.specs.reader.Types.{within}
use Rattle.lay_node.specs.reader.Use.{renamed}
use Rattle.lay_node.specs.reader.Where as w
use Rattle.lay_node.specs.reader.Words.{given_name, name, word}
use Rattle.lay_node.specs.declared.functions.Safety.{Safety}
use Rattle.lay_node.specs.declared.functions.Safety.TheVariants as safety
use Rattle.lay_node.specs.declared.generics.Generics.{Generics}
use Rattle.lay_node.specs.declared.heads.Site.{Site}
use Rattle.lay_node.specs.declared.token.Name.{Name}
use Rattle.lay_node.specs.declared.types.Path.{Path}
use Rattle.lay_node.specs.declared.types.PathStyle.TheVariants.{Kind as InKind}
use Rattle.lay_node.specs.declared.types.TypePlace.TheVariants.{Bounds}
use Rattle.lay_read_tokens.proofs.Left.{Left, Leaves, unread, dropped, joined, further, chain, chain_passed, choice, first_read, passed_left, elements_left, name_left, given_name_left, word_left}
use Rattle.lay_read_parts.proofs.Left.{abi_left, flag_left, open_left, operator_left, read_left, there_left, weaker}
use Rattle.lay_read_types.proofs.Left.{left_within, path_left, types_leave}
use Rattle.lay_read_generics.proofs.Left.{generics_left, met_if_left, wheres_left}
use Rattle.lay_read_shared.proofs.HeadPartsLeft.{fn_param_leaves, named_fields_left, tail_left, tuple_fields_left, variant_leaves}

-- ---- what is outside

pub renamed_left : (ts : Tokens) → Leaves 0 ts (renamed ts)
unfolding renamed
renamed_left ts = choice 0 ts (first (is_keyword (codes "as")) ts) _ _
    (λ h. further 0 1 1 ts (tail ts) _ (omega arith) (first_read (is_keyword (codes "as")) ts h)
    (chain 1 1 0 (tail ts) (given_name (tail ts)) _ (omega arith) (given_name_left (tail ts)) (λ n. unread n.1)))
    (unread ts)

pub extern_crate_left : (ts : Tokens) → Leaves 1 ts (heads.extern_crate ts)
unfolding heads.extern_crate
extern_crate_left ts = chain_passed 1 1 0 ts (passed (is_keyword (codes "extern")) ts) _ (omega arith)
    (passed_left (is_keyword (codes "extern")) ts)
    (λ behind. chain_passed 0 1 0 behind (passed (is_keyword (codes "crate")) behind) _ (omega arith)
    (passed_left (is_keyword (codes "crate")) behind)
    (λ at. chain 0 1 0 at (word at) _ (omega arith) (word_left at)
    (λ x. chain 0 0 0 x.1 (renamed x.1) _ (omega arith) (renamed_left x.1)
    (λ n. chain_passed 0 1 0 n.1 (heads.semicolon n.1) _ (omega arith) (passed_left (is_mark (codes ";")) n.1)
    (λ rest. choice 0 rest (is_crate_word x.0) _ None (λ h. unread rest) tt)))))

-- ---- what is said of types

module _ (depth : ℕ) where
  given_left : (ts : Tokens) → Leaves 0 ts (heads.given (within depth) ts)
  given_left ts = read_left (is_op (codes "=") ts) (λ us. r.type_at Bounds depth (drop 1 us)) ts
      (further 0 0 1 ts (drop 1 ts) _ (omega arith) (dropped 1 ts) (types_leave depth Bounds (drop 1 ts)))

  -- ---- types with a name

  called_left : (keyword : List ℕ) (ts : Tokens) → Leaves 1 ts (heads.called (within depth) keyword ts)
  called_left keyword ts = chain_passed 1 1 0 ts (passed (is_keyword keyword) ts) _ (omega arith) (passed_left (is_keyword keyword) ts)
      (λ behind. chain 0 1 0 behind (name behind) _ (omega arith) (name_left behind)
      (λ n. chain 0 0 0 n.1 (g.generics (within depth) n.1) _ (omega arith) (generics_left depth n.1) (λ ps. unread ps.1)))

  pub alias_left : (site : Site) (ts : Tokens) → Leaves 1 ts (heads.alias site (within depth) ts)
  unfolding heads.alias
  alias_left site ts = chain 1 1 0 ts (heads.called (within depth) (codes "type") ts) _ (omega arith) (called_left (codes "type") ts)
      (λ c. chain 0 0 0 c.1 (g.met_if (within depth) c.1) _ (omega arith) (met_if_left (within depth) (left_within depth) c.1)
      (λ b. chain 0 0 0 b.1 (heads.given (within depth) b.1) _ (omega arith) (given_left b.1)
      (λ x. chain 0 0 0 x.1 (w.wheres (within depth) x.1) _ (omega arith) (wheres_left depth x.1)
      (λ v. chain_passed 0 1 0 v.1 (heads.semicolon v.1) _ (omega arith) (passed_left (is_mark (codes ";")) v.1)
      (λ rest. choice 0 rest (may_be_given site x.0.0) _ None (λ h. unread rest) tt)))))

  -- ---- structs, unions and enumerations

  tuple_struct_left : (c : (Name × Generics) × ℕ) (ts : Tokens) → Leaves 0 ts (heads.tuple_struct (within depth) c ts)
  tuple_struct_left c ts = chain 0 0 0 ts (fields.tuple_fields (within depth) ts) _ (omega arith) (tuple_fields_left depth ts)
      (λ fs. chain 0 0 0 fs.1 (w.wheres (within depth) fs.1) _ (omega arith) (wheres_left depth fs.1)
      (λ v. chain_passed 0 1 0 v.1 (heads.semicolon v.1) _ (omega arith) (passed_left (is_mark (codes ";")) v.1) unread))

  other_struct_left : (c : (Name × Generics) × ℕ) (ts : Tokens) → Leaves 0 ts (heads.other_struct (within depth) c ts)
  other_struct_left c ts = chain 0 0 0 ts (w.wheres (within depth) ts) _ (omega arith) (wheres_left depth ts)
      (λ v. choice 0 v.1 (first (opens Brace) v.1) _ _
      (λ h. chain 0 0 0 v.1 (fields.named_fields (within depth) v.1) _ (omega arith) (named_fields_left depth v.1) (λ fs. unread fs.1))
      (chain_passed 0 1 0 v.1 (heads.semicolon v.1) _ (omega arith) (passed_left (is_mark (codes ";")) v.1) unread))

  pub struct_left : (ts : Tokens) → Leaves 1 ts (heads.struct (within depth) ts)
  unfolding heads.struct
  struct_left ts = chain 1 1 0 ts (heads.called (within depth) (codes "struct") ts) _ (omega arith) (called_left (codes "struct") ts)
      (λ c. choice 0 c.1 (first (opens Paren) c.1) _ _ (λ h. tuple_struct_left c.0 c.1) (other_struct_left c.0 c.1))

  pub union_left : (ts : Tokens) → Leaves 1 ts (heads.union (within depth) ts)
  unfolding heads.union
  union_left ts = chain 1 1 0 ts (heads.called (within depth) (codes "union") ts) _ (omega arith) (called_left (codes "union") ts)
      (λ c. chain 0 0 0 c.1 (w.wheres (within depth) c.1) _ (omega arith) (wheres_left depth c.1)
      (λ v. chain 0 0 0 v.1 (fields.named_fields (within depth) v.1) _ (omega arith) (named_fields_left depth v.1) (λ fs. unread fs.1)))

  variants_left : (ts : Tokens) → Leaves 0 ts (fields.variants (within depth) ts)
  unfolding fields.variants
  variants_left ts = chain_passed 0 1 0 ts (passed (opens Brace) ts) _ (omega arith) (passed_left (opens Brace) ts)
      (λ inside. chain 0 1 0 inside (elements (closes Brace) (fields.variant (within depth)) inside) _ (omega arith)
      (elements_left (fields.variant (within depth)) (variant_leaves depth) (closes Brace) inside) (λ xs. unread xs.1))

  pub enum_left : (ts : Tokens) → Leaves 1 ts (heads.enum (within depth) ts)
  unfolding heads.enum
  enum_left ts = chain 1 1 0 ts (heads.called (within depth) (codes "enum") ts) _ (omega arith) (called_left (codes "enum") ts)
      (λ c. chain 0 0 0 c.1 (w.wheres (within depth) c.1) _ (omega arith) (wheres_left depth c.1)
      (λ v. chain 0 0 0 v.1 (fields.variants (within depth) v.1) _ (omega arith) (variants_left v.1) (λ vs. unread vs.1)))

  -- ---- constants and statics

  of_type_left : (ts : Tokens) → Leaves 0 ts (heads.of_type (within depth) ts)
  of_type_left ts = chain_passed 0 0 0 ts (r.operator (codes ":") ts) _ (omega arith) (operator_left (codes ":") ts)
      (λ at. weaker at _ (types_leave depth Bounds at))

  const_head_left : (ts : Tokens) → Leaves 0 ts (heads.const_head (within depth) ts)
  const_head_left ts = chain 0 1 0 ts (given_name ts) _ (omega arith) (given_name_left ts)
      (λ n. chain 0 0 0 n.1 (heads.of_type (within depth) n.1) _ (omega arith) (of_type_left n.1) (λ x. unread x.1))

  static_head_left : (ts : Tokens) → Leaves 0 ts (heads.static_head (within depth) ts)
  static_head_left ts =
      let mid = (r.flag (is_keyword (codes "mut")) ts).1 in
      further 0 0 0 ts mid _ (omega arith) (flag_left (is_keyword (codes "mut")) ts)
      (chain 0 1 0 mid (name mid) _ (omega arith) (name_left mid)
      (λ n. chain 0 0 0 n.1 (heads.of_type (within depth) n.1) _ (omega arith) (of_type_left n.1) (λ x. unread x.1)))

  pub value_head_left : (ts : Tokens) → Leaves 1 ts (heads.value_head (within depth) ts)
  unfolding heads.value_head
  value_head_left ts = choice 1 ts (first (is_keyword (codes "const")) ts) _ _
      (λ h. further 1 1 0 ts (tail ts) _ (omega arith) (first_read (is_keyword (codes "const")) ts h) (const_head_left (tail ts)))
      (chain_passed 1 1 0 ts (passed (is_keyword (codes "static")) ts) _ (omega arith) (passed_left (is_keyword (codes "static")) ts)
      (λ behind. static_head_left behind))

  -- ---- traits and implementations

  pub trait_head_left : (ts : Tokens) → Leaves 1 ts (heads.trait_head (within depth) ts)
  unfolding heads.trait_head
  trait_head_left ts =
      let mid = (heads.unsafe_flag ts).1 in
      further 1 0 1 ts mid _ (omega arith) (flag_left (is_keyword (codes "unsafe")) ts)
      (chain_passed 1 1 0 mid (passed (is_keyword (codes "trait")) mid) _ (omega arith) (passed_left (is_keyword (codes "trait")) mid)
      (λ behind. chain 0 1 0 behind (name behind) _ (omega arith) (name_left behind)
      (λ n. chain 0 0 0 n.1 (g.generics (within depth) n.1) _ (omega arith) (generics_left depth n.1)
      (λ ps. chain 0 0 0 ps.1 (g.met_if (within depth) ps.1) _ (omega arith) (met_if_left (within depth) (left_within depth) ps.1) (λ b. unread b.1)))))

  trait_ref_left : (ts : Tokens) → Leaves 0 ts (heads.trait_ref (within depth) ts)
  unfolding heads.trait_ref
  trait_ref_left ts =
      found (r.flag (is_mark (codes "!")) ts).0 (r.path (within depth) InKind mid) (path_left (within depth) (left_within depth) InKind mid)
    where
      mid : Tokens
      mid = (r.flag (is_mark (codes "!")) ts).1

      found : (negative : Bool) (o : Got (Path × ℕ)) → Leaves 1 mid o → Leaves 0 ts (heads.trait_found negative ts o)
      found negative None h = unread ts
      found negative (Some p) h = choice 0 ts (first (is_keyword (codes "for")) p.1) _ _
          (λ e. joined 0 0 1 ts mid (tail p.1) (omega arith) (flag_left (is_mark (codes "!")) ts)
          (joined 1 1 1 mid p.1 (tail p.1) (omega arith) h (first_read (is_keyword (codes "for")) p.1 e)))
          (unread ts)

  pub impl_head_left : (ts : Tokens) → Leaves 1 ts (heads.impl_head (within depth) ts)
  unfolding heads.impl_head
  impl_head_left ts =
      let mid = (heads.unsafe_flag ts).1 in
      further 1 0 1 ts mid _ (omega arith) (flag_left (is_keyword (codes "unsafe")) ts)
      (chain_passed 1 1 0 mid (passed (is_keyword (codes "impl")) mid) _ (omega arith) (passed_left (is_keyword (codes "impl")) mid)
      (λ behind. chain 0 0 0 behind (g.generics (within depth) behind) _ (omega arith) (generics_left depth behind)
      (λ ps. chain 0 0 0 ps.1 (heads.trait_ref (within depth) ps.1) _ (omega arith) (trait_ref_left ps.1)
      (λ t. chain 0 1 0 t.1 (r.type_at Bounds depth t.1) _ (omega arith) (types_leave depth Bounds t.1)
      (λ x. choice 0 x.1 ((is_there ps.0.0.0.params || not (first (is_mark (codes "<")) ps.1)) && ends_head x.1) _ None
      (λ h. unread x.1) tt)))))

  -- ---- functions

  fn_params_left : (ts : Tokens) → Leaves 0 ts (functions.fn_params (insides depth) ts)
  unfolding functions.fn_params
  fn_params_left ts = chain_passed 0 1 0 ts (passed (opens Paren) ts) _ (omega arith) (passed_left (opens Paren) ts)
      (λ inside. chain 0 0 0 inside (open_elements functions.begins_fn_param (functions.fn_param (insides depth)) inside) _ (omega arith)
      (open_left (functions.fn_param (insides depth)) (fn_param_leaves depth) functions.begins_fn_param inside)
      (λ ps. chain_passed 0 1 0 ps.1 (passed (closes Paren) ps.1) _ (omega arith) (passed_left (closes Paren) ps.1)
      (λ rest. choice 0 rest (functions.are_in_order (nodes ps.0.0) ps.0.1) _ None (λ h. unread rest) tt)))

  output_left : (ts : Tokens) → Leaves 0 ts (functions.head_output (within depth) ts)
  output_left ts = read_left (is_op (codes "->") ts) (λ us. r.type_at Bounds depth (drop 2 us)) ts
      (further 0 0 1 ts (drop 2 ts) _ (omega arith) (dropped 2 ts) (types_leave depth Bounds (drop 2 ts)))

  safety_left : (ts : Tokens) → Left 0 ts (functions.safety_at ts).1
  safety_left ts = by (first (is_keyword (codes "unsafe")) ts) (first (is_keyword (codes "safe")) ts)
    where
      by : (a b : Bool) → (let pair : Option Safety × Tokens =
          if a then (Some safety.Unsafe, tail ts) else (if b then (Some safety.Safe, tail ts) else (None, ts)) in Left 0 ts pair.1)
      by true b = tail_left ts
      by false true = tail_left ts
      by false false = unread ts

  pub fn_head_left : (site : Site) (ts : Tokens) → Leaves 1 ts (functions.fn_head site (insides depth) ts)
  unfolding functions.fn_head
  fn_head_left site ts =
      let c = (functions.const_flag ts).1 in
      let a = (functions.async_flag c).1 in
      let s = (functions.safety_at a).1 in
      further 1 0 1 ts c _ (omega arith) (flag_left (is_keyword (codes "const")) ts)
      (further 1 0 1 c a _ (omega arith) (flag_left (is_keyword (codes "async")) c)
      (further 1 0 1 a s _ (omega arith) (safety_left a)
      (chain 1 0 1 s (r.if_there (first (is_keyword (codes "extern")) s) r.abi s) _ (omega arith)
      (there_left (first (is_keyword (codes "extern")) s) r.abi s (weaker s _ (abi_left s)))
      (λ b. chain_passed 1 1 0 b.1 (passed (is_keyword (codes "fn")) b.1) _ (omega arith) (passed_left (is_keyword (codes "fn")) b.1)
      (λ behind. chain 0 1 0 behind (name behind) _ (omega arith) (name_left behind)
      (λ n. chain 0 0 0 n.1 (g.generics (within depth) n.1) _ (omega arith) (generics_left depth n.1)
      (λ ps. chain 0 0 0 ps.1 (functions.fn_params (insides depth) ps.1) _ (omega arith) (fn_params_left ps.1)
      (λ xs. chain 0 0 0 xs.1 (functions.head_output (within depth) xs.1) _ (omega arith) (output_left xs.1)
      (λ o. choice 0 o.1 (may_say site (functions.safety_behind ts).0) _ None (λ h. unread o.1) tt)))))))))
