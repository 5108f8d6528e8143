-- What reading of types, paths, arguments and bounds leaves: the tokens after those that are read.
use Rattle.std.proofs.Common.{ℕ, zero, suc, ◌&&◌, Bool, true, false, List, [], ◌∷◌, drop, codes, Option, Some, None, if◌then◌else◌, arith}
use Rattle.lay_token.specs.Operators.{is_op}
use Rattle.lay_piece.specs.declared.kind.Delim.TheVariants.{Paren, Bracket}
use Rattle.lay_token.specs.declared.token.Token.{Token}
use Rattle.lay_node.specs.Ahead.{Tokens, first, tail, is_keyword, is_mark, is_lifetime, opens, closes, opens_args, opens_args_late}
use Rattle.lay_node.specs.Begins.{Lead, OfPath, OfParen, OfNever, OfInfer, OfPointer, OfReference, OfBracket, OfImpl, OfDyn, OfFunc, lead_at}
use Rattle.lay_node.specs.Follow.{begins_there, OfBang}
use Rattle.lay_node.specs.nodes.Attr.{is_empty}
use Rattle.lay_node.specs.reader.Attr.{attributes}
use Rattle.lay_node.specs.reader.Call.{call}
use Rattle.lay_node.specs.reader.Loops.{Got, ◌>>=◌, passed, nodes, elements, open_elements}
use Rattle.lay_node.specs.reader.Tokens.{tokens}
use Rattle.lay_node.specs.reader.Types as r
use Rattle.lay_node.specs.reader.Types.{Within, within}
use Rattle.lay_node.specs.reader.Words.{word, given_name}
use Rattle.lay_node.specs.declared.token.Word.{Word}
use Rattle.lay_node.specs.declared.types.Args.{Args}
use Rattle.lay_node.specs.declared.types.PathStart.{PathStart}
use Rattle.lay_node.specs.declared.types.PathStyle.{PathStyle}
use Rattle.lay_node.specs.declared.types.PathStyle.TheVariants.{Code, Kind as InKind}
use Rattle.lay_node.specs.declared.types.Ty.{Ty}
use Rattle.lay_node.specs.declared.types.TypePlace.{TypePlace}
use Rattle.lay_node.specs.declared.types.TypePlace.TheVariants.{Bounds, NoBounds}
use Rattle.lay_read_tokens.proofs.Left.{Left, Leaves, unread, dropped, one_read, joined, further, chain, chain_passed, choice, first_read, passed_left, elements_left, given_name_left, word_left, tokens_left, call_left, attributes_left}
use Rattle.lay_read_parts.proofs.Left.{abi_left, angled_left, binder_if_left, captured_left, chain_left, const_left, flag_left, lifetime_left, open_left, operator_left, read_left, there_left, weaker}

-- ---- small parts

is_mutable_left : (ts : Tokens) → Leaves 0 ts (r.is_mutable ts)
is_mutable_left ts = choice 0 ts (first (is_keyword (codes "mut")) ts) _ _ (λ h. joined 0 1 0 ts (tail ts) (tail ts)
    (omega arith) (first_read (is_keyword (codes "mut")) ts h) (unread (tail ts)))
    (choice 0 ts (first (is_keyword (codes "const")) ts) _ None (λ h. joined 0 1 0 ts (tail ts) (tail ts)
    (omega arith) (first_read (is_keyword (codes "const")) ts h) (unread (tail ts))) tt)

param_name_left : (ts : Tokens) → Leaves 0 ts (r.param_name ts)
param_name_left ts = chain 0 1 0 ts (given_name ts) _ (omega arith) (given_name_left ts) (λ n. dropped 1 n.1)

-- ---- over what is one level deeper

-- Each reader of what is one level deeper passes a token at least.
pub record LeftWithin (deeper : Within) : Type 0 where
  pub types : (place : TypePlace) (ts : Tokens) → Leaves 1 ts (deeper.types place ts)
  pub constraints : (ts : Tokens) → Leaves 1 ts (deeper.constraints ts)

-- a part that needs no token
option_left : {A B : Type 0} (n : ℕ) (ts : Tokens) (o : Option A) (f : A → Got B) → ((a : A) → Leaves n ts (f a))
    → Leaves n ts (o >>= f)
option_left n ts None f h = tt
option_left n ts (Some a) f h = h a

module _ (deeper : Within) (l : LeftWithin deeper) where
  arg_by_left : (x : Ty × ℕ) (ts : Tokens) → Leaves 0 ts (r.arg_by deeper x ts)
  arg_by_left x ts = choice 0 ts (r.begins_constraint ts) _ _
      (λ h. option_left 0 ts (r.named_type x.0) _
      (λ n. chain 0 1 0 ts (deeper.constraints ts) _ (omega arith) (l.constraints ts) (λ c. unread c.1)))
      (unread ts)

  pub one_arg_left : (ts : Tokens) → Leaves 1 ts (r.one_arg deeper ts)
  unfolding r.one_arg
  one_arg_left ts = choice 1 ts (first is_lifetime ts) _ _
      (λ h. chain 1 1 0 ts (r.lifetime ts) _ (omega arith) (lifetime_left ts) (λ x. unread x.1))
      (choice 1 ts (r.begins_const ts) _ _
      (λ h. chain 1 1 0 ts (r.const ts) _ (omega arith) (const_left ts) (λ x. unread x.1))
      (chain 1 1 0 ts (deeper.types Bounds ts) _ (omega arith) (l.types Bounds ts) (λ x. arg_by_left x.0 x.1)))

  angle_left : (ts : Tokens) → Leaves 1 ts (r.angle deeper ts)
  unfolding r.angle
  angle_left ts = chain 1 1 0 ts (r.angled (r.one_arg deeper) ts) _ (omega arith)
      (angled_left (r.one_arg deeper) one_arg_left ts) (λ xs. unread xs.1)

  output_left : (ts : Tokens) → Leaves 0 ts (r.output deeper ts)
  output_left ts = read_left (is_op (codes "->") ts) (λ us. deeper.types NoBounds (drop 2 us)) ts
      (further 0 0 1 ts (drop 2 ts) _ (omega arith) (dropped 2 ts) (l.types NoBounds (drop 2 ts)))

  round_left : (ts : Tokens) → Leaves 1 ts (r.round deeper ts)
  unfolding r.round
  round_left ts = chain_passed 1 1 0 ts (passed (opens Paren) ts) _ (omega arith) (passed_left (opens Paren) ts)
      (λ inside. chain 0 1 0 inside (elements (closes Paren) (deeper.types Bounds) inside) _ (omega arith)
      (elements_left (deeper.types Bounds) (l.types Bounds) (closes Paren) inside)
      (λ xs. chain 0 0 0 xs.1 (r.output deeper xs.1) _ (omega arith) (output_left xs.1) (λ o. unread o.1)))

  late_left : (ts : Tokens) → Leaves 0 ts (r.angle deeper (drop 2 ts))
  late_left ts = further 0 0 1 ts (drop 2 ts) _ (omega arith) (dropped 2 ts) (angle_left (drop 2 ts))

  args_left : (style : PathStyle) (ts : Tokens) → Leaves 0 ts (r.args_by deeper style ts)
  unfolding r.args_by
  args_left Code ts = choice 0 ts (opens_args_late ts) _ _ (λ h. late_left ts) (unread ts)
  args_left InKind ts = choice 0 ts (opens_args ts) _ _ (λ h. weaker ts _ (angle_left ts))
      (choice 0 ts (opens_args_late ts) _ _ (λ h. late_left ts)
      (choice 0 ts (first (opens Paren) ts) _ _ (λ h. weaker ts _ (round_left ts)) (unread ts)))

  pub segment_left : (style : PathStyle) (ts : Tokens) → Leaves 1 ts (r.segment deeper style ts)
  unfolding r.segment
  segment_left style ts = chain 1 1 0 ts (word ts) _ (omega arith) (word_left ts)
      (λ x. chain 0 0 0 x.1 (r.args_by deeper style x.1) _ (omega arith) (args_left style x.1) (λ a. unread a.1))

  trait_left : (ts : Tokens) → Leaves 1 ts (r.trait_path deeper ts)
  trait_left ts = chain 1 1 0 ts (deeper.types NoBounds ts) _ (omega arith) (l.types NoBounds ts)
      (λ x. option_left 0 x.1 (r.as_path x.0.0) _ (λ p. unread x.1))

  qualified_left : (ts : Tokens) → Leaves 1 ts (r.qualified deeper ts)
  unfolding r.qualified
  qualified_left ts = chain_passed 1 1 0 ts (passed (is_mark (codes "<")) ts) _ (omega arith)
      (passed_left (is_mark (codes "<")) ts)
      (λ inside. chain 0 1 0 inside (deeper.types Bounds inside) _ (omega arith) (l.types Bounds inside)
      (λ x. chain 0 0 0 x.1 (r.if_read (first (is_keyword (codes "as")) x.1) (λ us. r.trait_path deeper (tail us)) x.1)
      _ (omega arith)
      (as_left x.1)
      (λ p. chain_passed 0 1 0 p.1 (passed (is_mark (codes ">")) p.1) _ (omega arith)
      (passed_left (is_mark (codes ">")) p.1)
      (λ behind. chain_passed 0 0 0 behind (r.operator (codes "::") behind) _ (omega arith)
      (operator_left (codes "::") behind) unread))))
    where
      as_left : (us : Tokens) → Leaves 0 us (r.if_read (first (is_keyword (codes "as")) us)
          (λ vs. r.trait_path deeper (tail vs)) us)
      as_left [] = unread []
      as_left (t ∷ us) = read_left (is_keyword (codes "as") t) (λ vs. r.trait_path deeper (tail vs)) (t ∷ us)
          (further 0 1 1 (t ∷ us) us _ (omega arith) (one_read t us) (trait_left us))

  path_start_left : (ts : Tokens) → Leaves 0 ts (r.path_start deeper ts)
  path_start_left ts = choice 0 ts (first (is_mark (codes "<")) ts) _ _ (λ h. weaker ts _ (qualified_left ts))
      (choice 0 ts (is_op (codes "::") ts) _ _ (λ h. dropped 2 ts) (unread ts))

  path_of_left : (begun : PathStart) (need : ℕ) (segments : List (Word × Args)) (ts : Tokens)
      → Leaves 0 ts (r.path_of begun need segments ts)
  path_of_left begun need segments ts = choice 0 ts (r.returns_last segments) _ None (λ h. unread ts) tt

  pub path_left : (style : PathStyle) (ts : Tokens) → Leaves 1 ts (r.path deeper style ts)
  unfolding r.path
  path_left style ts = chain 1 0 1 ts (r.path_start deeper ts) _ (omega arith) (path_start_left ts)
      (λ begun. chain 1 1 0 begun.1 (r.chain (codes "::") (r.segment deeper style) begun.1) _ (omega arith)
      (chain_left (r.segment deeper style) (segment_left style) (codes "::") begun.1)
      (λ ss. path_of_left begun.0.0 _ (nodes ss.0) ss.1))

  -- ---- bounds

  meets_left : (parens : Bool) (ts : Tokens) → Leaves 1 ts (r.meets deeper parens ts)
  unfolding r.meets
  meets_left parens ts =
      let mid = (r.flag (is_mark (codes "?")) ts).1 in
      further 1 0 1 ts mid _ (omega arith) (flag_left (is_mark (codes "?")) ts)
      (chain 1 0 1 mid (r.binder_if mid) _ (omega arith) (binder_if_left mid)
      (λ b. chain 1 1 0 b.1 (r.path deeper InKind b.1) _ (omega arith) (path_left InKind b.1) (λ p. unread p.1)))

  pub one_bound_left : (ts : Tokens) → Leaves 1 ts (r.one_bound deeper ts)
  unfolding r.one_bound
  one_bound_left ts = choice 1 ts (first is_lifetime ts) _ _
      (λ h. chain 1 1 0 ts (r.lifetime ts) _ (omega arith) (lifetime_left ts) (λ x. unread x.1))
      (choice 1 ts (first (is_keyword (codes "use")) ts) _ _
      (λ h. further 1 1 1 ts (tail ts) _ (omega arith) (first_read (is_keyword (codes "use")) ts h)
      (chain 1 1 0 (tail ts) (r.angled r.one_capture (tail ts)) _ (omega arith) (captured_left (tail ts))
      (λ x. unread x.1)))
      (choice 1 ts (first (opens Paren) ts) _ _
      (λ h. further 1 1 1 ts (tail ts) _ (omega arith) (first_read (opens Paren) ts h)
      (chain 1 1 1 (tail ts) (r.meets deeper true (tail ts)) _ (omega arith) (meets_left true (tail ts))
      (λ x. chain_passed 1 1 0 x.1 (passed (closes Paren) x.1) _ (omega arith) (passed_left (closes Paren) x.1)
      unread)))
      (meets_left false ts)))

  pub all_bounds_left : (ts : Tokens) → Leaves 1 ts (r.all_bounds deeper ts)
  all_bounds_left ts = chain 1 1 0 ts (r.chain (codes "+") (r.one_bound deeper) ts) _ (omega arith)
      (chain_left (r.one_bound deeper) one_bound_left (codes "+") ts) (λ xs. unread xs.1)

  bounds_by_left : (place : TypePlace) (ts : Tokens) → Leaves 1 ts (r.bounds_by deeper place ts)
  unfolding r.bounds_by
  bounds_by_left Bounds ts = all_bounds_left ts
  bounds_by_left NoBounds ts = chain 1 1 0 ts (r.one_bound deeper ts) _ (omega arith) (one_bound_left ts)
      (λ x. unread x.1)

  equal_left : (ts : Tokens) → Leaves 1 ts (r.equal deeper ts)
  equal_left ts = choice 1 ts (r.begins_const ts) _ _
      (λ h. chain 1 1 0 ts (r.const ts) _ (omega arith) (const_left ts) (λ c. unread c.1))
      (chain 1 1 0 ts (deeper.types Bounds ts) _ (omega arith) (l.types Bounds ts) (λ x. unread x.1))

  constraint_left : (ts : Tokens) → Leaves 1 ts (r.constraint_by deeper ts)
  unfolding r.constraint_by
  constraint_left ts = choice 1 ts (is_op (codes ":") ts) _ _
      (λ h. further 1 0 1 ts (drop 1 ts) _ (omega arith) (dropped 1 ts)
      (chain 1 1 0 (drop 1 ts) (r.all_bounds deeper (drop 1 ts)) _ (omega arith) (all_bounds_left (drop 1 ts))
      (λ bs. unread bs.1)))
      (chain_passed 1 0 1 ts (r.operator (codes "=") ts) _ (omega arith) (operator_left (codes "=") ts) equal_left)

  -- ---- types

  path_type_left : (ts : Tokens) → Leaves 1 ts (r.path_type deeper ts)
  unfolding r.path_type
  path_type_left ts = chain 1 1 0 ts (r.path deeper InKind ts) _ (omega arith) (path_left InKind ts)
      (λ p. choice 0 p.1 (begins_there OfBang p.1) None _ (λ h. tt) (unread p.1))

  paren_left : (ts : Tokens) → Leaves 0 ts (r.paren_type deeper ts)
  unfolding r.paren_type
  paren_left ts = choice 0 ts (first (closes Paren) ts) _ _
      (λ h. joined 0 1 0 ts (tail ts) (tail ts) (omega arith) (first_read (closes Paren) ts h) (unread (tail ts)))
      (chain 0 1 0 ts (deeper.types Bounds ts) _ (omega arith) (l.types Bounds ts) (λ x. by x.0 x.1))
    where
      by : (x : Ty × ℕ) (us : Tokens) → Leaves 0 us (r.paren_by deeper x us)
      by x us = choice 0 us (first (closes Paren) us) _ _
          (λ h. joined 0 1 0 us (tail us) (tail us) (omega arith) (first_read (closes Paren) us h) (unread (tail us)))
          (chain_passed 0 1 0 us (passed (is_mark (codes ",")) us) _ (omega arith)
          (passed_left (is_mark (codes ",")) us)
          (λ behind. chain 0 1 0 behind (elements (closes Paren) (deeper.types Bounds) behind) _ (omega arith)
          (elements_left (deeper.types Bounds) (l.types Bounds) (closes Paren) behind) (λ more. unread more.1)))

  array_left : (x : Ty × ℕ) (us : Tokens) → Leaves 0 us (r.array_by x us)
  array_left x us = chain 0 0 0 us (tokens us) _ (omega arith) (tokens_left us)
      (λ n. chain_passed 0 1 0 n.1 (passed (closes Bracket) n.1) _ (omega arith) (passed_left (closes Bracket) n.1)
      (λ rest. choice 0 rest (is_empty n.0) None _ (λ h. tt) (unread rest)))

  bracket_left : (ts : Tokens) → Leaves 0 ts (r.bracket_type deeper ts)
  unfolding r.bracket_type
  bracket_left ts = chain 0 1 0 ts (deeper.types Bounds ts) _ (omega arith) (l.types Bounds ts)
      (λ x. choice 0 x.1 (first (is_mark (codes ";")) x.1) _ _
      (λ h. further 0 1 0 x.1 (tail x.1) _ (omega arith) (first_read (is_mark (codes ";")) x.1 h)
      (array_left x.0 (tail x.1)))
      (chain_passed 0 1 0 x.1 (passed (closes Bracket) x.1) _ (omega arith) (passed_left (closes Bracket) x.1) unread))

  reference_left : (ts : Tokens) → Leaves 0 ts (r.reference_type deeper ts)
  unfolding r.reference_type
  reference_left ts = chain 0 0 0 ts (r.if_there (first is_lifetime ts) r.lifetime ts) _ (omega arith)
      (there_left (first is_lifetime ts) r.lifetime ts (weaker ts _ (lifetime_left ts)))
      (λ x. further 0 0 0 x.1 (r.flag (is_keyword (codes "mut")) x.1).1 _ (omega arith)
      (flag_left (is_keyword (codes "mut")) x.1)
      (chain 0 1 0 (r.flag (is_keyword (codes "mut")) x.1).1 (deeper.types NoBounds _) _ (omega arith)
      (l.types NoBounds (r.flag (is_keyword (codes "mut")) x.1).1) (λ y. unread y.1)))

  pointer_left : (ts : Tokens) → Leaves 0 ts (r.pointer_type deeper ts)
  unfolding r.pointer_type
  pointer_left ts = chain 0 0 0 ts (r.is_mutable ts) _ (omega arith) (is_mutable_left ts)
      (λ m. chain 0 1 0 m.1 (deeper.types NoBounds m.1) _ (omega arith) (l.types NoBounds m.1) (λ x. unread x.1))

  bounds_type_left : (dynamic : Bool) (place : TypePlace) (ts : Tokens) → Leaves 0 ts (r.bounds_type deeper dynamic place ts)
  unfolding r.bounds_type
  bounds_type_left dynamic place ts = chain 0 1 0 ts (r.bounds_by deeper place ts) _ (omega arith)
      (bounds_by_left place ts) (λ bs. unread bs.1)

  pub func_param_left : (ts : Tokens) → Leaves 1 ts (r.func_param deeper ts)
  unfolding r.func_param
  func_param_left ts = chain 1 0 1 ts (attributes false ts) _ (omega arith) (attributes_left false ts)
      (λ attrs. chain 1 0 1 attrs.1 (r.if_there (r.begins_given attrs.1) r.param_name attrs.1) _ (omega arith)
      (there_left (r.begins_given attrs.1) r.param_name attrs.1 (param_name_left attrs.1))
      (λ n. chain 1 1 0 n.1 (deeper.types Bounds n.1) _ (omega arith) (l.types Bounds n.1) (λ x. unread x.1)))

  dots_left : (b : Bool) (ts : Tokens) → Left 0 ts (if b then drop 3 ts else ts)
  dots_left true ts = dropped 3 ts
  dots_left false ts = unread ts

  func_params_left : (ts : Tokens) → Leaves 1 ts (r.func_params deeper ts)
  unfolding r.func_params
  func_params_left ts = chain_passed 1 1 0 ts (passed (opens Paren) ts) _ (omega arith) (passed_left (opens Paren) ts)
      (λ inside. chain 0 0 0 inside (open_elements r.begins_param (r.func_param deeper) inside) _ (omega arith)
      (open_left (r.func_param deeper) func_param_left r.begins_param inside)
      (λ ps. let us : Tokens = if ps.0.1 && is_op (codes "...") ps.1 then drop 3 ps.1 else ps.1 in
      further 0 0 0 ps.1 us _ (omega arith)
      (dots_left (ps.0.1 && is_op (codes "...") ps.1) ps.1)
      (chain_passed 0 1 0 us (passed (closes Paren) us) _ (omega arith) (passed_left (closes Paren) us) unread)))

  func_left : (ts : Tokens) → Leaves 1 ts (r.func_type deeper ts)
  unfolding r.func_type
  func_left ts = chain 1 0 1 ts (r.binder_if ts) _ (omega arith) (binder_if_left ts)
      (λ b. let mid = (r.flag (is_keyword (codes "unsafe")) b.1).1 in
      further 1 0 1 b.1 mid _ (omega arith) (flag_left (is_keyword (codes "unsafe")) b.1)
      (chain 1 0 1 mid (r.if_there (first (is_keyword (codes "extern")) mid) r.abi mid) _ (omega arith)
      (there_left (first (is_keyword (codes "extern")) mid) r.abi mid (weaker mid _ (abi_left mid)))
      (λ a. chain_passed 1 1 0 a.1 (passed (is_keyword (codes "fn")) a.1) _ (omega arith)
      (passed_left (is_keyword (codes "fn")) a.1)
      (λ behind. chain 0 1 0 behind (r.func_params deeper behind) _ (omega arith) (func_params_left behind)
      (λ ps. chain 0 0 0 ps.1 (r.output deeper ps.1) _ (omega arith) (output_left ps.1) (λ o. unread o.1))))))

  call_type_left : (ts : Tokens) → Leaves 1 ts (r.call_type ts)
  call_type_left ts = chain 1 1 0 ts (call ts) _ (omega arith) (call_left ts) (λ c. unread c.1)

  behind_one : {A : Type 0} (t : Token) (ts : Tokens) (o : Got A) → Leaves 0 ts o → Leaves 1 (t ∷ ts) o
  behind_one t ts o h = further 1 1 0 (t ∷ ts) ts o (omega arith) (one_read t ts) h

  type_by_left : (place : TypePlace) (lead : Option Lead) (t : Token) (ts : Tokens)
      → Leaves 1 (t ∷ ts) (r.type_by deeper place lead (t ∷ ts))
  type_by_left place None t ts = tt
  type_by_left place (Some OfPath) t ts = choice 1 (t ∷ ts) (r.begins_call (t ∷ ts)) _ _
      (λ h. call_type_left (t ∷ ts)) (path_type_left (t ∷ ts))
  type_by_left place (Some OfParen) t ts = behind_one t ts _ (paren_left ts)
  type_by_left place (Some OfNever) t ts = one_read t ts
  type_by_left place (Some OfInfer) t ts = one_read t ts
  type_by_left place (Some OfPointer) t ts = behind_one t ts _ (pointer_left ts)
  type_by_left place (Some OfReference) t ts = behind_one t ts _ (reference_left ts)
  type_by_left place (Some OfBracket) t ts = behind_one t ts _ (bracket_left ts)
  type_by_left place (Some OfImpl) t ts = behind_one t ts _ (bounds_type_left false place ts)
  type_by_left place (Some OfDyn) t ts = behind_one t ts _ (bounds_type_left true place ts)
  type_by_left place (Some OfFunc) t ts = func_left (t ∷ ts)

  type_left : (place : TypePlace) (ts : Tokens) → Leaves 1 ts (r.type_by deeper place (lead_at ts) ts)
  unfolding lead_at
  type_left place [] = tt
  type_left place (t ∷ ts) = type_by_left place (lead_at (t ∷ ts)) t ts

-- ---- within a depth

pub left_within : (depth : ℕ) → LeftWithin (within depth)
unfolding within
left_within zero = record { types = λ place ts. tt; constraints = λ ts. tt }
left_within (suc depth) = record {
  types = λ place ts. type_left (within depth) (left_within depth) place ts;
  constraints = λ ts. constraint_left (within depth) (left_within depth) ts;
}

-- ---- parts, as the loops ask for them

pub types_leave : (depth : ℕ) (place : TypePlace) (ts : Tokens) → Leaves 1 ts ((within depth).types place ts)
types_leave depth place ts = (left_within depth).types place ts

pub bound_leaves : (depth : ℕ) (ts : Tokens) → Leaves 1 ts (r.one_bound (within depth) ts)
bound_leaves depth ts = one_bound_left (within depth) (left_within depth) ts

pub arg_leaves : (depth : ℕ) (ts : Tokens) → Leaves 1 ts (r.one_arg (within depth) ts)
arg_leaves depth ts = one_arg_left (within depth) (left_within depth) ts

pub segment_leaves : (depth : ℕ) (style : PathStyle) (ts : Tokens) → Leaves 1 ts (r.segment (within depth) style ts)
segment_leaves depth style ts = segment_left (within depth) (left_within depth) style ts

pub param_leaves : (depth : ℕ) (ts : Tokens) → Leaves 1 ts (r.func_param (within depth) ts)
param_leaves depth ts = func_param_left (within depth) (left_within depth) ts
