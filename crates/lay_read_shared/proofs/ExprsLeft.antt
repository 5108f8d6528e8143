-- What reading of expressions leaves: the tokens after those that are read.
use Rattle.std.proofs.Common.{ℕ, zero, suc, ◌==◌, nat_le, ◌&&◌, not, Bool, true, false, List, [], ◌∷◌, drop, length, codes, Option, Some, None, is_some, refl, arith}
use Rattle.std.proofs.lemmas.List.{length-drop}
use Rattle.lay_piece.specs.declared.kind.Delim.TheVariants.{Paren, Bracket, Brace}
use Rattle.lay_token.specs.Operators.{is_op}
use Rattle.lay_token.specs.declared.token.Token.{Token}
use Rattle.lay_node.specs.Ahead.{Tokens, first, tail, is_keyword, is_lifetime, is_mark, opens, closes, opens_args_late}
use Rattle.lay_node.specs.Begins.{is_literal_token}
use Rattle.lay_node.specs.nodes.Attr.{is_empty}
use Rattle.lay_node.specs.reader.Attr.{attributes}
use Rattle.lay_node.specs.reader.Call.{call}
use Rattle.lay_node.specs.reader.Loops.{Got, ◌>>=◌, passed, nodes, deepest, repeat, elements, open_elements}
use Rattle.lay_node.specs.reader.Patterns.{begins_field, index}
use Rattle.lay_node.specs.reader.Tokens.{tokens}
use Rattle.lay_node.specs.reader.Types.{angled, begins_call, if_there, lifetime, literal, one_arg, path}
use Rattle.lay_node.specs.reader.Words.{name}
use Rattle.lay_node.specs.declared.attr.Attr.{Attr}
use Rattle.lay_node.specs.declared.token.Name.{Name}
use Rattle.lay_node.specs.declared.types.Arg.{Arg}
use Rattle.lay_node.specs.declared.types.Path.{Path}
use Rattle.lay_node.specs.declared.types.PathStyle.TheVariants.{Code}
use Rattle.lay_node.specs.declared.types.TypePlace.TheVariants.{NoBounds}
use Rattle.lay_code.specs.Operands.{ExprLead, ByLiteral, ByPath, ByUnderscore, ByParen, ByBracket, ByPrefix, ByRange, ByContinue, ByBreak, ByReturn, ByLabel, ByBrace, ByBlockWord, ByClosure, expr_lead_at, begins_operand}
use Rattle.lay_code.specs.Operators.{op_text, binary, prefix, prefix_length, begins_step, strength}
use Rattle.lay_code.specs.nodes.Code.{about_expr}
use Rattle.lay_code.specs.nodes.Exprs.{stands, root_follows}
use Rattle.lay_code.specs.nodes.Places.{plain, FREE}
use Rattle.lay_code.specs.reader.Code.{climbed_on}
use Rattle.lay_code.specs.reader.Exprs as r
use Rattle.lay_code.specs.reader.Within.{ExprWithin}
use Rattle.lay_code.specs.declared.exprs.Expr.{Expr}
use Rattle.lay_code.specs.declared.exprs.Place.{Place}
use Rattle.lay_code.specs.declared.operators.Prefix.{Prefix}
use Rattle.lay_code.specs.declared.operators.Prefix.TheVariants as before
use Rattle.lay_read_tokens.proofs.Left.{Left, Leaves, unread, dropped, one_read, further, chain, chain_passed, choice, first_read, passed_left, op_read, repeat_left, elements_left, name_left, tokens_left, call_left, attributes_left}
use Rattle.lay_read_parts.proofs.Left.{weaker, there_left, read_left, lifetime_left, literal_left, angled_left, open_left}
use Rattle.lay_read_types.proofs.Left.{one_arg_left, path_left}
use Rattle.lay_read_pats.proofs.Left.{index_left}
use Rattle.lay_read_shared.proofs.BlocksLeft.{LeftCode, block_word_left, closure_left, label_left, labelled_left}
use Rattle.lay_read_shared.proofs.HeadPartsLeft.{tail_left}

-- ---- small parts

-- after some tokens, where there is one
behind_left : (n : ℕ) (t : Token) (ts : Tokens) → Left 1 (t ∷ ts) (drop (suc n) (t ∷ ts))
behind_left n t ts = record { count = suc n; dropped = refl; fewer = omega (arith, length-drop n ts) }

-- a part that needs no token
option_left : {A B : Type 0} (n : ℕ) (ts : Tokens) (o : Option A) (f : A → Got B) → ((a : A) → Leaves n ts (f a))
    → Leaves n ts (o >>= f)
option_left n ts None f h = tt
option_left n ts (Some a) f h = h a

jump_label_left : (ts : Tokens) → Leaves 0 ts (if_there (first is_lifetime ts) lifetime ts)
jump_label_left ts = there_left (first is_lifetime ts) lifetime ts (weaker ts (lifetime ts) (lifetime_left ts))

prefix_behind : (p : Prefix) (t : Token) (ts : Tokens) → Left 1 (t ∷ ts) (drop (prefix_length p) (t ∷ ts))
prefix_behind before.AmpMut t ts = behind_left 1 t ts
prefix_behind before.RawConst t ts = behind_left 2 t ts
prefix_behind before.RawMut t ts = behind_left 2 t ts
prefix_behind _ t ts = behind_left 0 t ts

pub prefix_left : (ts : Tokens) → Leaves 1 ts (r.one_prefix ts)
unfolding prefix
prefix_left [] = tt
prefix_left (t ∷ ts) = option_left 1 (t ∷ ts) (prefix (t ∷ ts)) _ (λ p. prefix_behind p t ts)

call_expr_left : (ts : Tokens) → Leaves 1 ts (r.call_expr ts)
call_expr_left ts = chain 1 1 0 ts (call ts) _ (omega arith) (call_left ts) (λ c. unread c.1)

literal_expr_left : (ts : Tokens) → Leaves 1 ts (r.literal_expr ts)
literal_expr_left ts = chain 1 1 0 ts (literal is_literal_token ts) _ (omega arith) (literal_left is_literal_token ts)
    (λ l. unread l.1)

continue_left : (ts : Tokens) → Leaves 0 ts (r.continue_expr ts)
unfolding r.continue_expr
continue_left ts = chain 0 0 0 ts (if_there (first is_lifetime ts) lifetime ts) _ (omega arith) (jump_label_left ts)
    (λ l. unread l.1)

-- ---- over what is one level deeper

module _ (deeper : ExprWithin) (l : LeftCode deeper) where
  -- expressions, of which nothing is asked after them
  free_left : (closing : Token → Bool) (ts : Tokens) → Leaves 1 ts (r.free_elements deeper closing ts)
  free_left closing ts = chain 1 1 0 ts (elements closing (deeper.exprs FREE) ts) _ (omega arith)
      (elements_left (deeper.exprs FREE) (l.exprs FREE) closing ts) (λ xs. unread xs.1)

  -- ---- what begins with a path

  named_left : (attrs : List Attr) (n : Name) (ts : Tokens) → Leaves 0 ts (r.named_field deeper attrs n ts)
  named_left attrs n ts = choice 0 ts (is_op (codes ":") ts) _ _
      (λ h. further 0 0 1 ts (drop 1 ts) _ (omega arith) (dropped 1 ts)
      (chain 1 1 0 (drop 1 ts) (deeper.exprs FREE (drop 1 ts)) _ (omega arith) (l.exprs FREE (drop 1 ts)) (λ x. unread x.1)))
      (unread ts)

  field_by_left : (attrs : List Attr) (got : Got (List ℕ)) (ts : Tokens) → Leaves 0 ts got
      → Leaves 1 ts (r.field_by deeper attrs got ts)
  field_by_left attrs None ts a = chain 1 1 0 ts (name ts) _ (omega arith) (name_left ts) (λ n. named_left attrs n.0 n.1)
  field_by_left attrs (Some i) ts a = chain 1 1 0 ts (deeper.exprs FREE i.1) _ (omega arith)
      (further 1 0 1 ts i.1 _ (omega arith) a (l.exprs FREE i.1)) (λ x. unread x.1)

  pub one_field_left : (ts : Tokens) → Leaves 1 ts (r.one_field deeper ts)
  unfolding r.one_field
  one_field_left ts = chain 1 0 1 ts (attributes false ts) _ (omega arith) (attributes_left false ts)
      (λ attrs. field_by_left attrs.0 (index attrs.1) attrs.1 (index_left attrs.1))

  base_by_left : (ts : Tokens) → Leaves 0 ts (r.base_by deeper ts)
  base_by_left ts = choice 0 ts (first (closes Brace) ts) _ _ (λ h. unread ts)
      (chain 0 1 0 ts (deeper.exprs FREE ts) _ (omega arith) (l.exprs FREE ts) (λ x. unread x.1))

  base_left : (ended : Bool) (ts : Tokens) → Leaves 0 ts (r.base deeper ended ts)
  unfolding r.base
  base_left ended ts = choice 0 ts (ended && is_op (codes "..") ts) _ _
      (λ h. further 0 0 0 ts (drop 2 ts) _ (omega arith) (dropped 2 ts) (base_by_left (drop 2 ts)))
      (unread ts)

  struct_left : (p : Path × ℕ) (ts : Tokens) → Leaves 0 ts (r.struct_expr deeper p ts)
  unfolding r.struct_expr
  struct_left p ts = chain 0 0 0 ts (open_elements begins_field (r.one_field deeper) ts) _ (omega arith)
      (open_left (r.one_field deeper) one_field_left begins_field ts)
      (λ fs. chain 0 0 0 fs.1 (r.base deeper fs.0.1 fs.1) _ (omega arith) (base_left fs.0.1 fs.1)
      (λ b. chain_passed 0 1 0 b.1 (passed (closes Brace) b.1) _ (omega arith) (passed_left (closes Brace) b.1) unread))

  path_by_left : (no_struct : Bool) (p : Path × ℕ) (ts : Tokens) → Leaves 0 ts (r.path_by deeper no_struct p ts)
  path_by_left no_struct p ts = choice 0 ts (not no_struct && first (opens Brace) ts) _ _
      (λ h. further 0 0 0 ts (tail ts) _ (omega arith) (tail_left ts) (struct_left p (tail ts)))
      (choice 0 ts (is_op (codes "!") ts) None _ (λ h. tt) (unread ts))

  path_expr_left : (no_struct : Bool) (ts : Tokens) → Leaves 1 ts (r.path_expr deeper no_struct ts)
  unfolding r.path_expr
  path_expr_left no_struct ts = chain 1 1 0 ts (path deeper.kinds Code ts) _ (omega arith)
      (path_left deeper.kinds l.kinds Code ts) (λ p. path_by_left no_struct p.0 p.1)

  -- ---- in delimiters

  paren_by_left : (x : Expr × ℕ) (ts : Tokens) → Leaves 0 ts (r.paren_by deeper x ts)
  paren_by_left x ts = choice 0 ts (first (closes Paren) ts) _ _ (λ h. tail_left ts)
      (chain_passed 0 1 0 ts (passed (is_mark (codes ",")) ts) _ (omega arith) (passed_left (is_mark (codes ",")) ts)
      (λ behind. chain 0 1 0 behind (r.free_elements deeper (closes Paren) behind) _ (omega arith)
      (free_left (closes Paren) behind) (λ more. unread more.1)))

  paren_left : (ts : Tokens) → Leaves 0 ts (r.paren_expr deeper ts)
  unfolding r.paren_expr
  paren_left ts = choice 0 ts (first (closes Paren) ts) _ _ (λ h. tail_left ts)
      (chain 0 1 0 ts (deeper.exprs FREE ts) _ (omega arith) (l.exprs FREE ts) (λ x. paren_by_left x.0 x.1))

  repeat_by_left : (x : Expr × ℕ) (ts : Tokens) → Leaves 0 ts (r.repeat_by x ts)
  repeat_by_left x ts = chain 0 0 0 ts (tokens ts) _ (omega arith) (tokens_left ts)
      (λ us. chain_passed 0 1 0 us.1 (passed (closes Bracket) us.1) _ (omega arith) (passed_left (closes Bracket) us.1)
      (λ rest. choice 0 rest (is_empty us.0) None _ (λ h. tt) (unread rest)))

  bracket_by_left : (x : Expr × ℕ) (ts : Tokens) → Leaves 0 ts (r.bracket_by deeper x ts)
  bracket_by_left x ts = choice 0 ts (first (is_mark (codes ";")) ts) _ _
      (λ h. further 0 0 0 ts (tail ts) _ (omega arith) (tail_left ts) (repeat_by_left x (tail ts)))
      (choice 0 ts (first (closes Bracket) ts) _ _ (λ h. tail_left ts)
      (chain_passed 0 1 0 ts (passed (is_mark (codes ",")) ts) _ (omega arith) (passed_left (is_mark (codes ",")) ts)
      (λ behind. chain 0 1 0 behind (r.free_elements deeper (closes Bracket) behind) _ (omega arith)
      (free_left (closes Bracket) behind) (λ more. unread more.1))))

  bracket_left : (ts : Tokens) → Leaves 0 ts (r.bracket_expr deeper ts)
  unfolding r.bracket_expr
  bracket_left ts = choice 0 ts (first (closes Bracket) ts) _ _ (λ h. tail_left ts)
      (chain 0 1 0 ts (deeper.exprs FREE ts) _ (omega arith) (l.exprs FREE ts) (λ x. bracket_by_left x.0 x.1))

  -- ---- after a word or an operator

  operand_if_left : (level : ℕ) (no_struct : Bool) (ts : Tokens) → Leaves 0 ts (r.operand_if deeper level no_struct ts)
  operand_if_left level no_struct ts = read_left (begins_operand no_struct ts) (deeper.exprs (plain level no_struct)) ts
      (weaker ts _ (l.exprs (plain level no_struct) ts))

  return_left : (no_struct : Bool) (ts : Tokens) → Leaves 0 ts (r.return_expr deeper no_struct ts)
  unfolding r.return_expr
  return_left no_struct ts = chain 0 0 0 ts (r.operand_if deeper 0 no_struct ts) _ (omega arith)
      (operand_if_left 0 no_struct ts) (λ x. unread x.1)

  break_left : (no_struct : Bool) (ts : Tokens) → Leaves 0 ts (r.break_expr deeper no_struct ts)
  unfolding r.break_expr
  break_left no_struct ts = chain 0 0 0 ts (if_there (first is_lifetime ts) lifetime ts) _ (omega arith) (jump_label_left ts)
      (λ a. chain 0 0 0 a.1 (r.operand_if deeper 0 no_struct a.1) _ (omega arith) (operand_if_left 0 no_struct a.1)
      (λ x. unread x.1))

  unary_left : (no_struct : Bool) (ts : Tokens) → Leaves 1 ts (r.unary_expr deeper no_struct ts)
  unfolding r.unary_expr
  unary_left no_struct ts = chain 1 0 1 ts (repeat (λ us. is_some (prefix us)) r.one_prefix ts) _ (omega arith)
      (repeat_left r.one_prefix prefix_left (λ us. is_some (prefix us)) ts)
      (λ ps. chain 1 1 0 ps.1 (deeper.exprs (plain 12 no_struct) ps.1) _ (omega arith) (l.exprs (plain 12 no_struct) ps.1)
      (λ x. unread x.1))

  range_by_left : (no_struct : Bool) (start : Option Expr) (need : ℕ) (inclusive : Bool) (ts : Tokens)
      → Leaves 0 ts (r.range_by deeper no_struct start need inclusive ts)
  range_by_left no_struct start need inclusive ts = chain 0 0 0 ts (r.operand_if deeper 2 no_struct ts) _ (omega arith)
      (operand_if_left 2 no_struct ts)
      (λ x. choice 0 x.1 (inclusive && not (is_some x.0.0)) None _ (λ h. tt) (unread x.1))

  range_left : (k : ℕ) (no_struct : Bool) (start : Option Expr) (need : ℕ) (ts : Tokens)
      → ((n : ℕ) → Left k ts (drop (suc n) ts)) → Leaves k ts (r.range_expr deeper no_struct start need ts)
  unfolding r.range_expr
  range_left k no_struct start need ts behind = choice k ts (is_op (codes "..=") ts) _ _
      (λ h. further k k 0 ts (drop 3 ts) _ (omega arith) (behind 2) (range_by_left no_struct start need true (drop 3 ts)))
      (further k k 0 ts (drop 2 ts) _ (omega arith) (behind 1) (range_by_left no_struct start need false (drop 2 ts)))

  -- ---- what begins an expression

  -- after the token that begins it
  led : {A : Type 0} (t : Token) (ts : Tokens) (o : Got A) → Leaves 0 ts o → Leaves 1 (t ∷ ts) o
  led t ts o a = further 1 1 0 (t ∷ ts) ts o (omega arith) (one_read t ts) a

  lead_left : (no_struct : Bool) (lead : Option ExprLead) (t : Token) (ts : Tokens)
      → Leaves 1 (t ∷ ts) (r.head_by deeper no_struct lead (t ∷ ts))
  lead_left no_struct (Some ByLiteral) t ts = literal_expr_left (t ∷ ts)
  lead_left no_struct (Some ByPath) t ts = choice 1 (t ∷ ts) (begins_call (t ∷ ts)) _ _ (λ h. call_expr_left (t ∷ ts))
      (path_expr_left no_struct (t ∷ ts))
  lead_left no_struct (Some ByUnderscore) t ts = one_read t ts
  lead_left no_struct (Some ByParen) t ts = led t ts _ (paren_left ts)
  lead_left no_struct (Some ByBracket) t ts = led t ts _ (bracket_left ts)
  lead_left no_struct (Some ByPrefix) t ts = unary_left no_struct (t ∷ ts)
  lead_left no_struct (Some ByRange) t ts = range_left 1 no_struct None 0 (t ∷ ts) (λ n. behind_left n t ts)
  lead_left no_struct (Some ByContinue) t ts = led t ts _ (continue_left ts)
  lead_left no_struct (Some ByBreak) t ts = led t ts _ (break_left no_struct ts)
  lead_left no_struct (Some ByReturn) t ts = led t ts _ (return_left no_struct ts)
  lead_left no_struct (Some ByLabel) t ts = label_left deeper l (t ∷ ts)
  lead_left no_struct (Some ByBrace) t ts = labelled_left deeper l None (t ∷ ts)
  lead_left no_struct (Some ByBlockWord) t ts = block_word_left deeper l (t ∷ ts)
  lead_left no_struct (Some ByClosure) t ts = closure_left deeper l no_struct (t ∷ ts)
  lead_left no_struct None t ts = tt

  head_left : (no_struct : Bool) (ts : Tokens) → Leaves 1 ts (r.head_by deeper no_struct (expr_lead_at ts) ts)
  unfolding expr_lead_at
  head_left no_struct [] = tt
  head_left no_struct (t ∷ ts) = lead_left no_struct (expr_lead_at (t ∷ ts)) t ts

  -- ---- steps

  method_left : (n : Name) (generics : Option (List Arg)) (need : ℕ) (ts : Tokens)
      → Leaves 1 ts (r.method_by deeper n generics need ts)
  method_left n generics need ts = chain_passed 1 1 0 ts (passed (opens Paren) ts) _ (omega arith)
      (passed_left (opens Paren) ts)
      (λ behind. chain 0 1 0 behind (r.free_elements deeper (closes Paren) behind) _ (omega arith)
      (free_left (closes Paren) behind) (λ xs. unread xs.1))

  generics_left : (n : Name) (ts : Tokens) → Leaves 1 ts (r.generics_by deeper n ts)
  generics_left n ts = chain 1 1 0 ts (angled (one_arg deeper.kinds) ts) _ (omega arith)
      (angled_left (one_arg deeper.kinds) (one_arg_left deeper.kinds l.kinds) ts)
      (λ args. weaker args.1 _ (method_left n (Some (nodes args.0)) (deepest args.0) args.1))

  member_left : (n : Name) (ts : Tokens) → Leaves 0 ts (r.member_by deeper n ts)
  member_left n ts = choice 0 ts (first (opens Paren) ts) _ _ (λ h. weaker ts _ (method_left n None 0 ts))
      (choice 0 ts (opens_args_late ts) _ _
      (λ h. further 0 0 1 ts (drop 2 ts) _ (omega arith) (dropped 2 ts) (generics_left n (drop 2 ts)))
      (choice 0 ts (is_op (codes "::") ts) None _ (λ h. tt) (unread ts)))

  dot_left : (ts : Tokens) → Leaves 1 ts (r.dot_step deeper ts)
  unfolding r.dot_step
  dot_left ts = choice 1 ts (first (is_keyword (codes "await")) ts) _ _ (λ h. first_read (is_keyword (codes "await")) ts h)
      (choice 1 ts (first r.is_index_token ts) _ _
      (λ h. chain 1 1 0 ts (literal r.is_index_token ts) _ (omega arith) (literal_left r.is_index_token ts) (λ i. unread i.1))
      (chain 1 1 0 ts (name ts) _ (omega arith) (name_left ts) (λ n. member_left n.0 n.1)))

  index_step_left : (ts : Tokens) → Leaves 1 ts (r.index_step deeper ts)
  index_step_left ts = chain 1 1 0 ts (deeper.exprs FREE ts) _ (omega arith) (l.exprs FREE ts)
      (λ x. chain_passed 0 1 0 x.1 (passed (closes Bracket) x.1) _ (omega arith) (passed_left (closes Bracket) x.1) unread)

  pub step_left : (ts : Tokens) → Leaves 1 ts (r.one_step deeper ts)
  unfolding r.one_step
  step_left ts = choice 1 ts (is_op (codes ".") ts) _ _
      (λ h. further 1 0 1 ts (drop 1 ts) _ (omega arith) (dropped 1 ts) (dot_left (drop 1 ts)))
      (choice 1 ts (is_op (codes "?") ts) _ _ (λ h. op_read (codes "?") 0 ts h)
      (choice 1 ts (first (opens Paren) ts) _ _
      (λ h. further 1 1 0 ts (tail ts) _ (omega arith) (first_read (opens Paren) ts h)
      (chain 0 1 0 (tail ts) (r.free_elements deeper (closes Paren) (tail ts)) _ (omega arith)
      (free_left (closes Paren) (tail ts)) (λ xs. unread xs.1)))
      (chain_passed 1 1 0 ts (passed (opens Bracket) ts) _ (omega arith) (passed_left (opens Bracket) ts)
      (λ behind. weaker behind _ (index_step_left behind)))))

  postfix_left : (x : Expr × ℕ) (ts : Tokens) → Leaves 0 ts (r.postfix_expr deeper x ts)
  unfolding r.postfix_expr
  postfix_left x ts = choice 0 ts ((about_expr x.0).is_number && r.begins_tuple_index ts) None _ (λ h. tt)
      (chain 0 0 0 ts (repeat begins_step (r.one_step deeper) ts) _ (omega arith)
      (repeat_left (r.one_step deeper) step_left begins_step ts) (λ steps. unread steps.1))

  -- ---- operators after an operand

  pub operand_left : (level : ℕ) (no_struct : Bool) (ts : Tokens) → Leaves 1 ts (r.operand deeper level no_struct ts)
  unfolding r.operand
  operand_left level no_struct ts = option_left 1 ts (binary ts) _
      (λ o. let mid = drop (length (op_text o)) ts in
      further 1 0 1 ts mid _ (omega arith) (dropped (length (op_text o)) ts)
      (chain 1 1 0 mid (deeper.exprs (plain (suc level) no_struct) mid) _ (omega arith)
      (l.exprs (plain (suc level) no_struct) mid)
      (λ x. choice 0 x.1 (r.operand_ends level no_struct (about_expr x.0.0) x.1) _ None (λ h. unread x.1) tt)))

  operands_left : (level : ℕ) (no_struct : Bool) (ts : Tokens) → Leaves 0 ts (r.operands deeper level no_struct ts)
  unfolding r.operands
  operands_left level no_struct ts = repeat_left (r.operand deeper level no_struct) (operand_left level no_struct)
      (λ us. strength us == suc level) ts

  chain_expr_left : (level : ℕ) (no_struct : Bool) (x : Expr × ℕ) (ts : Tokens)
      → Leaves 0 ts (r.chain_expr deeper level no_struct x ts)
  unfolding r.chain_expr
  chain_expr_left level no_struct x ts = chain 0 0 0 ts (r.operands deeper level no_struct ts) _ (omega arith)
      (operands_left level no_struct ts) (λ more. unread more.1)

  assign_left : (no_struct : Bool) (x : Expr × ℕ) (ts : Tokens) → Leaves 0 ts (r.assign_expr deeper no_struct x ts)
  unfolding r.assign_expr
  assign_left no_struct x ts = chain 0 0 0 ts (r.operands deeper 0 no_struct ts) _ (omega arith)
      (operands_left 0 no_struct ts) (λ more. unread more.1)

  pub type_left : (ts : Tokens) → Leaves 1 ts (r.one_type deeper ts)
  unfolding r.one_type
  type_left ts = chain_passed 1 1 0 ts (passed (is_keyword (codes "as")) ts) _ (omega arith)
      (passed_left (is_keyword (codes "as")) ts) (λ behind. weaker behind _ (l.kinds.types NoBounds behind))

  cast_left : (x : Expr × ℕ) (ts : Tokens) → Leaves 0 ts (r.cast_expr deeper x ts)
  unfolding r.cast_expr
  cast_left x ts = chain 0 0 0 ts (repeat (first (is_keyword (codes "as"))) (r.one_type deeper) ts) _ (omega arith)
      (repeat_left (r.one_type deeper) type_left (first (is_keyword (codes "as"))) ts) (λ types. unread types.1)

  stage_left : (level : ℕ) (no_struct : Bool) (x : Expr × ℕ) (ts : Tokens)
      → Leaves 0 ts (r.stage deeper level no_struct x ts)
  stage_left zero no_struct x ts = assign_left no_struct x ts
  stage_left (suc zero) no_struct x ts = range_left 0 no_struct (Some x.0) x.1 ts (λ n. dropped (suc n) ts)
  stage_left (suc (suc level)) no_struct x ts = choice 0 ts (suc (suc level) == 11) _ _ (λ h. cast_left x ts)
      (choice 0 ts (suc (suc level) == 13) _ _ (λ h. postfix_left x ts) (chain_expr_left (suc (suc level)) no_struct x ts))

  climb_left : (place : Place) (level : ℕ) (x : Expr × ℕ) (ts : Tokens) → Leaves 0 ts (r.climb deeper place level x ts)
  unfolding r.climb
  climb_left place zero x ts = unread ts
  climb_left place (suc level) x ts = choice 0 ts (nat_le place.level level && strength ts == suc level) _ _
      (λ h. choice 0 ts (stands (about_expr x.0) (r.left_place place level ts)) _ None
      (λ g. chain 0 0 0 ts (r.stage deeper level place.no_struct x ts) _ (omega arith)
      (stage_left level place.no_struct x ts) (λ y. climb_left place level y.0 y.1)) tt)
      (climb_left place level x ts)

  -- ---- within a depth

  accepted_left : (budget : ℕ) (place : Place) (x : Expr × ℕ) (ts : Tokens) → Leaves 0 ts (r.accepted budget place x ts)
  accepted_left budget place x ts = choice 0 ts
      (stands (about_expr x.0) place && root_follows (about_expr x.0) place ts && nat_le x.1 budget) _ None (λ e. unread ts) tt

  pub expr_by_left : (budget : ℕ) (place : Place) (ts : Tokens) → Leaves 1 ts (r.expr_by deeper budget place ts)
  unfolding r.expr_by
  expr_by_left budget place ts = chain 1 1 0 ts (r.head_by deeper place.no_struct (expr_lead_at ts) ts) _ (omega arith)
      (head_left place.no_struct ts)
      (λ h. chain 0 0 0 h.1 (r.climb_by deeper place h.0 h.1) _ (omega arith)
      (choice 0 h.1 (r.is_ended place (about_expr h.0.0) h.1) _ _ (λ e. unread h.1) (climb_left place 14 h.0 h.1))
      (λ x. accepted_left budget place x.0 x.1))

  pub climbed_on_left : (budget : ℕ) (x : Expr × ℕ) (ts : Tokens) → Leaves 0 ts (climbed_on deeper budget x ts)
  climbed_on_left budget x ts = chain 0 0 0 ts (r.climb deeper (plain 0 true) 3 x ts) _ (omega arith)
      (climb_left (plain 0 true) 3 x ts) (λ y. accepted_left budget (plain 0 true) y.0 y.1)
