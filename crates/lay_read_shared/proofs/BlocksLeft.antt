-- What reading of blocks, statements, arms and closures leaves: the tokens after those that are read.
use Rattle.std.proofs.Common.{ℕ, suc, ◌||◌, Bool, true, false, List, [], ◌∷◌, drop, codes, Option, Some, None, is_some, if◌then◌else◌, arith}
use Rattle.lay_piece.specs.declared.kind.Delim.TheVariants.{Brace}
use Rattle.lay_token.specs.Operators.{is_op}
use Rattle.lay_token.specs.declared.token.Token.{Token}
use Rattle.lay_node.specs.Ahead.{Tokens, first, tail, is_keyword, is_mark, opens, closes, more_items}
use Rattle.lay_node.specs.Follow.{begins_dots}
use Rattle.lay_node.specs.reader.Attr.{attributes}
use Rattle.lay_node.specs.reader.Heads.{semicolon}
use Rattle.lay_node.specs.reader.Loops.{Got, ◌>>=◌, passed, nodes, deepest, repeat, elements}
use Rattle.lay_node.specs.reader.Types.{if_read, lifetime}
use Rattle.lay_node.specs.declared.attr.Attr.{Attr}
use Rattle.lay_node.specs.declared.heads.Site.{Site}
use Rattle.lay_node.specs.declared.heads.Site.TheVariants.{Module}
use Rattle.lay_node.specs.declared.patterns.PatPlace.{PatPlace}
use Rattle.lay_node.specs.declared.patterns.PatPlace.TheVariants.{Alternatives, Single}
use Rattle.lay_node.specs.declared.token.Lifetime.{Lifetime}
use Rattle.lay_node.specs.declared.types.TypePlace.TheVariants.{Bounds, NoBounds}
use Rattle.lay_code.specs.nodes.Blocks.{is_free}
use Rattle.lay_code.specs.nodes.Code.{about_expr, about_stmt, told_of_item}
use Rattle.lay_code.specs.nodes.Places.{FREE, plain, statement}
use Rattle.lay_code.specs.reader.Blocks as b
use Rattle.lay_code.specs.reader.Conditions as c
use Rattle.lay_code.specs.reader.Exprs as r
use Rattle.lay_code.specs.reader.Within.{ExprWithin}
use Rattle.lay_code.specs.declared.blocks.Block.{Block}
use Rattle.lay_code.specs.declared.exprs.ClosureParam.{ClosureParam}
use Rattle.lay_code.specs.declared.exprs.Expr.{Expr}
use Rattle.lay_code.specs.declared.exprs.Expr.TheVariants as expr
use Rattle.lay_code.specs.declared.exprs.Place.{Place}
use Rattle.lay_read_tokens.proofs.Left.{Left, Leaves, Passes, unread, dropped, one_read, joined, further, chain, chain_passed, choice, passed_left, repeat_left, elements_left, attributes_left}
use Rattle.lay_read_parts.proofs.Left.{weaker, read_left, lifetime_left}
use Rattle.lay_read_types.proofs.Left.{LeftWithin}
use Rattle.lay_read_shared.proofs.HeadPartsLeft.{tail_left}

-- Each reader of what is one level deeper passes a token at least, and what goes on with a condition may pass none.
pub record LeftCode (deeper : ExprWithin) : Type 0 where
  pub exprs : (place : Place) (ts : Tokens) → Leaves 1 ts (deeper.exprs place ts)
  pub kinds : LeftWithin deeper.kinds
  pub pats : (place : PatPlace) (ts : Tokens) → Leaves 1 ts (deeper.pats place ts)
  pub blocks : (ts : Tokens) → Leaves 1 ts (deeper.blocks ts)
  pub items : (at : Site) (ts : Tokens) → Leaves 1 ts (deeper.items at ts)
  pub goes_on : (x : Expr × ℕ) (ts : Tokens) → Leaves 0 ts (deeper.goes_on x ts)

semicolons_by : (t : Token) (ts : Tokens) (marked : Bool) → Left 0 ts (b.behind_semicolons ts)
    → Left 0 (t ∷ ts) (if marked then b.behind_semicolons ts else t ∷ ts)
semicolons_by t ts true l = joined 0 1 0 (t ∷ ts) ts (b.behind_semicolons ts) (omega arith) (one_read t ts) l
semicolons_by t ts false l = unread (t ∷ ts)

pub semicolons_left : (ts : Tokens) → Left 0 ts (b.behind_semicolons ts)
semicolons_left [] = unread []
semicolons_left (t ∷ ts) = semicolons_by t ts (is_mark (codes ";") t) (semicolons_left ts)

arm_end_left : (free : Bool) (ts : Tokens) → Passes 0 ts (b.arm_end free ts)
arm_end_left free ts = by (first (is_mark (codes ",")) ts) (free || first (closes Brace) ts)
  where
    by : (marked ends : Bool) → Passes 0 ts (let o : Option Tokens = if marked then Some (tail ts) else (if ends then Some ts else None) in o)
    by true ends = tail_left ts
    by false true = unread ts
    by false false = tt

module _ (deeper : ExprWithin) (l : LeftCode deeper) where
  -- ---- statements

  -- a value after its `=`
  value_left : (ts : Tokens) → Leaves 0 ts (if_read (is_op (codes "=") ts) (λ us. deeper.exprs FREE (drop 1 us)) ts)
  value_left ts = read_left (is_op (codes "=") ts) (λ us. deeper.exprs FREE (drop 1 us)) ts
      (further 0 0 1 ts (drop 1 ts) (deeper.exprs FREE (drop 1 ts)) (omega arith) (dropped 1 ts) (l.exprs FREE (drop 1 ts)))

  -- a type after its `:`
  typed_left : (ts : Tokens) → Leaves 0 ts (if_read (is_op (codes ":") ts) (λ us. deeper.kinds.types Bounds (drop 1 us)) ts)
  typed_left ts = read_left (is_op (codes ":") ts) (λ us. deeper.kinds.types Bounds (drop 1 us)) ts
      (further 0 0 1 ts (drop 1 ts) (deeper.kinds.types Bounds (drop 1 ts)) (omega arith) (dropped 1 ts) (l.kinds.types Bounds (drop 1 ts)))

  else_left : (ts : Tokens) → Leaves 0 ts (if_read (first (is_keyword (codes "else")) ts) (λ us. deeper.blocks (tail us)) ts)
  else_left ts = read_left (first (is_keyword (codes "else")) ts) (λ us. deeper.blocks (tail us)) ts
      (further 0 0 1 ts (tail ts) (deeper.blocks (tail ts)) (omega arith) (tail_left ts) (l.blocks (tail ts)))

  let_left : (attrs : List Attr) (ts : Tokens) → Leaves 1 ts (b.let_stmt deeper attrs ts)
  unfolding b.let_stmt
  let_left attrs ts = chain 1 1 0 ts (deeper.pats Single ts) _ (omega arith) (l.pats Single ts)
      (λ p. chain 0 0 0 p.1 (if_read (is_op (codes ":") p.1) (λ us. deeper.kinds.types Bounds (drop 1 us)) p.1) _ (omega arith) (typed_left p.1)
      (λ t. chain 0 0 0 t.1 (if_read (is_op (codes "=") t.1) (λ us. deeper.exprs FREE (drop 1 us)) t.1) _ (omega arith) (value_left t.1)
      (λ x. chain 0 0 0 x.1 (if_read (first (is_keyword (codes "else")) x.1) (λ us. deeper.blocks (tail us)) x.1) _ (omega arith) (else_left x.1)
      (λ o. chain_passed 0 1 0 o.1 (semicolon o.1) _ (omega arith) (passed_left (is_mark (codes ";")) o.1)
      (λ rest. choice 0 rest (b.else_stands x.0.0 (is_some o.0.0)) _ None (λ h. unread rest) tt)))))

  item_stmt_left : (ts : Tokens) → Leaves 1 ts (b.item_stmt deeper ts)
  item_stmt_left ts = chain 1 1 0 ts (deeper.items Module ts) _ (omega arith) (l.items Module ts)
      (λ i. choice 0 i.1 (told_of_item i.0.0).call None _ (λ h. tt) (unread i.1))

  expr_stmt_left : (attrs : List Attr) (ts : Tokens) → Leaves 1 ts (b.expr_stmt deeper attrs ts)
  unfolding b.expr_stmt
  expr_stmt_left attrs ts = chain 1 1 0 ts (deeper.exprs statement ts) _ (omega arith) (l.exprs statement ts)
      (λ x. choice 0 x.1 (first (is_mark (codes ";")) x.1) _ _ (λ h. tail_left x.1) (unread x.1))

  stmt_left : (ts : Tokens) → Leaves 1 ts (b.stmt_by deeper ts)
  unfolding b.stmt_by
  stmt_left ts = by (attributes false ts) (attributes_left false ts)
    where
      by : (o : Got (List Attr)) → Leaves 0 ts o → Leaves 1 ts (o >>= (λ attrs. b.stmt_behind deeper attrs.0 ts attrs.1))
      by None a = tt
      by (Some x) a = choice 1 ts (first (is_keyword (codes "let")) x.1) _ _
          (λ h. further 1 0 1 ts (tail x.1) _ (omega arith) (joined 0 0 0 ts x.1 (tail x.1) (omega arith) a (tail_left x.1)) (let_left x.0 (tail x.1)))
          (choice 1 ts (b.begins_item x.1) _ _ (λ h. item_stmt_left ts)
          (further 1 0 1 ts x.1 _ (omega arith) a (expr_stmt_left x.0 x.1)))

  pub in_block_left : (ts : Tokens) → Leaves 1 ts (b.stmt_in_block deeper ts)
  in_block_left ts = chain 1 1 0 ts (b.stmt_by deeper ts) _ (omega arith) (stmt_left ts)
      (λ s. choice 0 s.1 ((about_stmt s.0.0).ends || first (closes Brace) s.1) _ None (λ h. semicolons_left s.1) tt)

  -- ---- blocks

  pub block_left : (ts : Tokens) → Leaves 1 ts (b.block_by deeper ts)
  unfolding b.block_by
  block_left ts = chain_passed 1 1 0 ts (passed (opens Brace) ts) _ (omega arith) (passed_left (opens Brace) ts)
      (λ inside. chain 0 0 0 inside (attributes true inside) _ (omega arith) (attributes_left true inside)
      (λ attrs. let mid = b.behind_semicolons attrs.1 in
      further 0 0 0 attrs.1 mid _ (omega arith) (semicolons_left attrs.1)
      (chain 0 0 0 mid (repeat more_items (b.stmt_in_block deeper) mid) _ (omega arith)
      (repeat_left (b.stmt_in_block deeper) in_block_left more_items mid)
      (λ stmts. chain_passed 0 1 0 stmts.1 (passed (closes Brace) stmts.1) _ (omega arith) (passed_left (closes Brace) stmts.1) unread))))

  pub deeper_left : (ts : Tokens) → Leaves {A = Block × ℕ} 1 ts (b.block_by deeper ts >>= (λ x. Some ((x.0.0, suc x.0.1), x.1)))
  deeper_left ts = chain 1 1 0 ts (b.block_by deeper ts) _ (omega arith) (block_left ts) (λ x. unread x.1)

  -- ---- branches

  let_link_left : (ts : Tokens) → Leaves 1 ts (c.let_link deeper ts)
  unfolding c.let_link
  let_link_left ts = chain 1 1 0 ts (deeper.pats Alternatives ts) _ (omega arith) (l.pats Alternatives ts)
      (λ p. chain 0 0 0 p.1 _ _ (omega arith)
      (choice 0 p.1 (is_op (codes "=") p.1) (deeper.exprs (plain 4 true) (drop 1 p.1)) None
      (λ e. further 0 0 1 p.1 (drop 1 p.1) _ (omega arith) (dropped 1 p.1) (l.exprs (plain 4 true) (drop 1 p.1))) tt)
      (λ x. unread x.1))

  link_left : (ts : Tokens) → Leaves 1 ts (c.link_by deeper ts)
  link_left ts = choice 1 ts (first (is_keyword (codes "let")) ts) _ _
      (λ h. further 1 0 1 ts (tail ts) _ (omega arith) (tail_left ts) (let_link_left (tail ts)))
      (chain 1 1 0 ts (deeper.exprs (plain 4 true) ts) _ (omega arith) (l.exprs (plain 4 true) ts) (λ x. unread x.1))

  one_link_left : (ts : Tokens) → Leaves 1 ts (c.one_link deeper ts)
  unfolding c.one_link
  one_link_left ts = chain 1 1 0 ts (c.link_by deeper ts) _ (omega arith) (link_left ts)
      (λ x. choice 0 x.1 (c.link_ends x.0.0 x.1) _ None (λ h. unread x.1) tt)

  pub further_link_left : (ts : Tokens) → Leaves 1 ts (c.one_link deeper (drop 2 ts))
  further_link_left ts = further 1 0 1 ts (drop 2 ts) _ (omega arith) (dropped 2 ts) (one_link_left (drop 2 ts))

  further_links_left : (ts : Tokens) → Leaves 0 ts (c.further_links deeper ts)
  unfolding c.further_links
  further_links_left ts = repeat_left (λ us. c.one_link deeper (drop 2 us)) further_link_left c.begins_link ts

  condition_of_left : (x : c.ReadLink × ℕ) (more : List (c.ReadLink × ℕ)) (ts : Tokens) → Leaves 0 ts (c.condition_of deeper x more ts)
  unfolding c.condition_of
  condition_of_left x more ts = choice 0 ts (c.any_let x more) _ _ (λ h. unread ts)
      (chain 0 0 0 ts (deeper.goes_on (c.chain_of x more) ts) _ (omega arith) (l.goes_on (c.chain_of x more) ts) (λ y. unread y.1))

  condition_left : (ts : Tokens) → Leaves 1 ts (c.condition_by deeper ts)
  unfolding c.condition_by
  condition_left ts = choice 1 ts (begins_dots ts) _ _
      (λ h. chain 1 1 0 ts (deeper.exprs (plain 0 true) ts) _ (omega arith) (l.exprs (plain 0 true) ts) (λ x. unread x.1))
      (chain 1 1 0 ts (c.one_link deeper ts) _ (omega arith) (one_link_left ts)
      (λ x. chain 0 0 0 x.1 (c.further_links deeper x.1) _ (omega arith) (further_links_left x.1)
      (λ more. condition_of_left x.0 more.0 more.1)))

  pub branch_left : (ts : Tokens) → Leaves 1 ts (b.branch_by deeper ts)
  unfolding b.branch_by
  branch_left ts = chain 1 1 0 ts (c.condition_by deeper ts) _ (omega arith) (condition_left ts)
      (λ x. chain 0 1 0 x.1 (b.block_by deeper x.1) _ (omega arith) (block_left x.1) (λ y. unread y.1))

  pub else_if_left : (ts : Tokens) → Leaves 1 ts (b.branch_by deeper (drop 2 ts))
  else_if_left ts = further 1 0 1 ts (drop 2 ts) _ (omega arith) (dropped 2 ts) (branch_left (drop 2 ts))

  -- ---- arms

  arm_body_left : (ts : Tokens) → Leaves 1 ts (b.arm_body deeper ts)
  arm_body_left ts = chain 1 1 0 ts (deeper.exprs statement ts) _ (omega arith) (l.exprs statement ts)
      (λ x. chain_passed 0 0 0 x.1 (b.arm_end (is_free (about_expr x.0.0)) x.1) _ (omega arith)
      (arm_end_left (is_free (about_expr x.0.0)) x.1) unread)

  guard_left : (ts : Tokens) → Leaves 0 ts (if_read (first (is_keyword (codes "if")) ts) (λ us. deeper.exprs FREE (tail us)) ts)
  guard_left ts = read_left (first (is_keyword (codes "if")) ts) (λ us. deeper.exprs FREE (tail us)) ts
      (further 0 0 1 ts (tail ts) (deeper.exprs FREE (tail ts)) (omega arith) (tail_left ts) (l.exprs FREE (tail ts)))

  pub arm_left : (ts : Tokens) → Leaves 1 ts (b.arm_by deeper ts)
  unfolding b.arm_by
  arm_left ts = chain 1 0 1 ts (attributes false ts) _ (omega arith) (attributes_left false ts)
      (λ attrs. chain 1 1 0 attrs.1 (deeper.pats Alternatives attrs.1) _ (omega arith) (l.pats Alternatives attrs.1)
      (λ p. chain 0 0 0 p.1 (if_read (first (is_keyword (codes "if")) p.1) (λ us. deeper.exprs FREE (tail us)) p.1) _ (omega arith) (guard_left p.1)
      (λ g. chain 0 0 0 g.1 _ _ (omega arith)
      (choice 0 g.1 (is_op (codes "=>") g.1) (b.arm_body deeper (drop 2 g.1)) None
      (λ e. further 0 0 1 g.1 (drop 2 g.1) _ (omega arith) (dropped 2 g.1) (arm_body_left (drop 2 g.1))) tt)
      (λ x. unread x.1))))

  -- ---- expressions that hold blocks

  with_block_left : (make : Block → Expr) (ts : Tokens) → Leaves 1 ts (r.block_expr deeper make ts)
  with_block_left make ts = chain 1 1 0 ts (b.block_by deeper ts) _ (omega arith) (block_left ts) (λ x. unread x.1)

  -- the same after a word
  worded_left : {A : Type 0} (ts : Tokens) (o : Got A) → Leaves 1 (tail ts) o → Leaves 1 ts o
  worded_left ts o a = further 1 0 1 ts (tail ts) o (omega arith) (tail_left ts) a

  async_left : (ts : Tokens) → Leaves 1 ts (r.async_expr deeper ts)
  async_left ts = choice 1 ts (first (is_keyword (codes "move")) ts) _ _
      (λ h. worded_left ts _ (with_block_left (λ x. expr.Async true x) (tail ts))) (with_block_left (λ x. expr.Async false x) ts)

  if_left : (ts : Tokens) → Leaves 1 ts (r.if_expr deeper ts)
  unfolding r.if_expr
  if_left ts = chain 1 1 0 ts (b.branch_by deeper ts) _ (omega arith) (branch_left ts)
      (λ x. chain 0 0 0 x.1 (repeat r.begins_else_if (λ us. b.branch_by deeper (drop 2 us)) x.1) _ (omega arith)
      (repeat_left (λ us. b.branch_by deeper (drop 2 us)) else_if_left r.begins_else_if x.1)
      (λ more. chain 0 0 0 more.1 (if_read (first (is_keyword (codes "else")) more.1) (λ us. b.block_by deeper (tail us)) more.1) _ (omega arith)
      (read_left (first (is_keyword (codes "else")) more.1) (λ us. b.block_by deeper (tail us)) more.1
      (further 0 0 1 more.1 (tail more.1) (b.block_by deeper (tail more.1)) (omega arith) (tail_left more.1) (block_left (tail more.1))))
      (λ o. unread o.1)))

  match_left : (ts : Tokens) → Leaves 1 ts (r.match_expr deeper ts)
  unfolding r.match_expr
  match_left ts = chain 1 1 0 ts (deeper.exprs (plain 0 true) ts) _ (omega arith) (l.exprs (plain 0 true) ts)
      (λ x. chain_passed 0 1 0 x.1 (passed (opens Brace) x.1) _ (omega arith) (passed_left (opens Brace) x.1)
      (λ inside. chain 0 0 0 inside (attributes true inside) _ (omega arith) (attributes_left true inside)
      (λ attrs. chain 0 0 0 attrs.1 (repeat more_items (b.arm_by deeper) attrs.1) _ (omega arith)
      (repeat_left (b.arm_by deeper) arm_left more_items attrs.1)
      (λ arms. chain_passed 0 1 0 arms.1 (passed (closes Brace) arms.1) _ (omega arith) (passed_left (closes Brace) arms.1) unread))))

  while_left : (label : Option Lifetime) (ts : Tokens) → Leaves 1 ts (r.while_expr deeper label ts)
  unfolding r.while_expr
  while_left label ts = chain 1 1 0 ts (c.condition_by deeper ts) _ (omega arith) (condition_left ts)
      (λ x. chain 0 1 0 x.1 (b.block_by deeper x.1) _ (omega arith) (block_left x.1) (λ y. unread y.1))

  for_left : (label : Option Lifetime) (ts : Tokens) → Leaves 1 ts (r.for_expr deeper label ts)
  unfolding r.for_expr
  for_left label ts = chain 1 1 0 ts (deeper.pats Alternatives ts) _ (omega arith) (l.pats Alternatives ts)
      (λ p. chain_passed 0 1 0 p.1 (passed (is_keyword (codes "in")) p.1) _ (omega arith) (passed_left (is_keyword (codes "in")) p.1)
      (λ behind. chain 0 1 0 behind (deeper.exprs (plain 0 true) behind) _ (omega arith) (l.exprs (plain 0 true) behind)
      (λ x. chain 0 1 0 x.1 (b.block_by deeper x.1) _ (omega arith) (block_left x.1) (λ y. unread y.1))))

  pub labelled_left : (label : Option Lifetime) (ts : Tokens) → Leaves 1 ts (r.labelled_expr deeper label ts)
  labelled_left label ts = choice 1 ts (first (opens Brace) ts) _ _ (λ h. with_block_left (expr.Block label) ts)
      (choice 1 ts (first (is_keyword (codes "loop")) ts) _ _ (λ h. worded_left ts _ (with_block_left (expr.Loop label) (tail ts)))
      (choice 1 ts (first (is_keyword (codes "while")) ts) _ _ (λ h. worded_left ts _ (while_left label (tail ts)))
      (chain_passed 1 1 0 ts (passed (is_keyword (codes "for")) ts) _ (omega arith) (passed_left (is_keyword (codes "for")) ts)
      (λ behind. weaker behind _ (for_left label behind)))))

  pub label_left : (ts : Tokens) → Leaves 1 ts (r.label_expr deeper ts)
  unfolding r.label_expr
  label_left ts = chain 1 1 0 ts (lifetime ts) _ (omega arith) (lifetime_left ts)
      (λ x. choice 0 x.1 (is_op (codes ":") x.1) _ None
      (λ h. further 0 0 1 x.1 (drop 1 x.1) _ (omega arith) (dropped 1 x.1) (labelled_left (Some x.0) (drop 1 x.1))) tt)

  pub block_word_left : (ts : Tokens) → Leaves 1 ts (r.block_word_expr deeper ts)
  unfolding r.block_word_expr
  block_word_left ts = choice 1 ts (first (is_keyword (codes "unsafe")) ts) _ _ (λ h. worded_left ts _ (with_block_left expr.Unsafe (tail ts)))
      (choice 1 ts (first (is_keyword (codes "const")) ts) _ _ (λ h. worded_left ts _ (with_block_left expr.ConstBlock (tail ts)))
      (choice 1 ts (first (is_keyword (codes "async")) ts) _ _ (λ h. worded_left ts _ (async_left (tail ts)))
      (choice 1 ts (first (is_keyword (codes "if")) ts) _ _ (λ h. worded_left ts _ (if_left (tail ts)))
      (choice 1 ts (first (is_keyword (codes "match")) ts) _ _ (λ h. worded_left ts _ (match_left (tail ts))) (labelled_left None ts)))))

  -- ---- closures

  pub closure_param_left : (ts : Tokens) → Leaves 1 ts (r.closure_param deeper ts)
  unfolding r.closure_param
  closure_param_left ts = chain 1 0 1 ts (attributes false ts) _ (omega arith) (attributes_left false ts)
      (λ attrs. chain 1 1 0 attrs.1 (deeper.pats Single attrs.1) _ (omega arith) (l.pats Single attrs.1)
      (λ p. chain 0 0 0 p.1 (if_read (is_op (codes ":") p.1) (λ us. deeper.kinds.types Bounds (drop 1 us)) p.1) _ (omega arith) (typed_left p.1)
      (λ t. unread t.1)))

  closure_body_left : (no_struct is_async moves : Bool) (params : List ClosureParam) (need : ℕ) (ts : Tokens)
      → Leaves 0 ts (r.closure_body deeper no_struct is_async moves params need ts)
  closure_body_left no_struct is_async moves params need ts = choice 0 ts (is_op (codes "->") ts) _ _
      (λ h. further 0 0 0 ts (drop 2 ts) _ (omega arith) (dropped 2 ts)
      (chain 0 1 0 (drop 2 ts) (deeper.kinds.types NoBounds (drop 2 ts)) _ (omega arith) (l.kinds.types NoBounds (drop 2 ts))
      (λ t. chain 0 1 0 t.1 (b.block_by deeper t.1) _ (omega arith) (block_left t.1) (λ x. unread x.1))))
      (chain 0 1 0 ts (deeper.exprs (plain 0 no_struct) ts) _ (omega arith) (l.exprs (plain 0 no_struct) ts) (λ x. unread x.1))

  behind_word : (there : Bool) (ts : Tokens) → Left 0 ts (if there then tail ts else ts)
  behind_word true ts = tail_left ts
  behind_word false ts = unread ts

  closure_behind_left : (no_struct is_async : Bool) (ts : Tokens) → Leaves 1 ts (r.closure_behind deeper no_struct is_async ts)
  closure_behind_left no_struct is_async ts =
      let moves = first (is_keyword (codes "move")) ts in
      let mid = if moves then tail ts else ts in
      further 1 0 1 ts mid _ (omega arith) (behind_word moves ts)
      (chain_passed 1 1 0 mid (passed (is_mark (codes "|")) mid) _ (omega arith) (passed_left (is_mark (codes "|")) mid)
      (λ behind. chain 0 1 0 behind (elements (is_mark (codes "|")) (r.closure_param deeper) behind) _ (omega arith)
      (elements_left (r.closure_param deeper) closure_param_left (is_mark (codes "|")) behind)
      (λ ps. closure_body_left no_struct is_async moves (nodes ps.0) (deepest ps.0) ps.1)))

  pub closure_left : (no_struct : Bool) (ts : Tokens) → Leaves 1 ts (r.closure_expr deeper no_struct ts)
  unfolding r.closure_expr
  closure_left no_struct ts =
      let is_async = first (is_keyword (codes "async")) ts in
      let mid = if is_async then tail ts else ts in
      further 1 0 1 ts mid _ (omega arith) (behind_word is_async ts) (closure_behind_left no_struct is_async mid)
