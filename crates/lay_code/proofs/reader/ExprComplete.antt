-- Every expression is parsed where it is spelled, in its place, where what is within it is read.
use Rattle.std.proofs.Common.{◌≡◌, ℕ, zero, suc, ◌≤◌, Bool, true, false, not, ◌&&◌, nat_le, [], ◌∷◌, map, option_map, Some, None, refl, sym, ap, subst, ◌∙◌, arith, le-leb, leb-true}
use Rattle.std.proofs.lemmas.Bool.{and_parts}
use Rattle.lay_form.specs.Spelled.{Spells}
use Rattle.lay_node.specs.Ahead.{Tokens}
use Rattle.lay_node.proofs.reader.Exact.{IsRead}
use Rattle.lay_code.specs.Operators.{is_dot_or_try, strength}
use Rattle.lay_code.specs.nodes.Code.{about_arm, about_block, about_branch, about_condition, about_expr, about_field_expr, about_step}
use Rattle.lay_code.specs.nodes.Exprs.{ExprFacts, Followed, stands, placed, root_follows, level_of, level_of_chain, is_block_like, expr_facts, ExprLayer}
use Rattle.lay_code.specs.nodes.Places.{begins, is_whole}
use Rattle.lay_code.specs.reader.Exprs.{climb, is_ended, accepted, expr_by}
use Rattle.lay_code.specs.reader.Within.{ExprWithin}
use Rattle.lay_code.specs.declared.exprs.Expr.{Expr}
use Rattle.lay_code.specs.declared.blocks.Stmt.TheOpen.{Expr-F}
use Rattle.lay_code.specs.declared.exprs.Expr.TheVariants as expr
use Rattle.lay_code.specs.declared.exprs.Place.{Place}
use Rattle.lay_code.proofs.nodes.ExprsLaws.{ExprView, IsLit, IsPath, IsUnderscore, IsCall, IsParen, IsContinue, IsTuple, IsArray, IsRepeat, IsStruct, IsChain, IsCast, IsUnary, IsRange, IsAssign, IsPostfix, IsReturn, IsBreak, IsBlock, IsUnsafe, IsConstBlock, IsAsync, IsIf, IsMatch, IsLoop, IsWhile, IsFor, IsClosure, IsTypedClosure, expr_view, behind_op, before_op as target_of, expr_lit_is, expr_path_is, expr_underscore_is, expr_call_is, expr_paren_is, expr_continue_is, expr_tuple_is, expr_array_is, expr_repeat_is, expr_struct_is, expr_chain_is, expr_cast_is, expr_unary_is, expr_range_is, expr_assign_is, expr_postfix_is, expr_return_is, expr_break_is, expr_block_is, expr_unsafe_is, expr_const_block_is, expr_async_is, expr_if_is, expr_match_is, expr_loop_is, expr_while_is, expr_for_is, expr_closure_is, expr_typed_closure_is}
use Rattle.lay_code.proofs.reader.BlockReads.{Fronts}
use Rattle.lay_code.proofs.reader.ExprClimb.{AtHead, Reach, Known, Reaches, climb_ends, headed}
use Rattle.lay_code.proofs.reader.ExprClimbKinds.{chain_reached, cast_reached, range_reached, assign_reached, postfix_reached}
use Rattle.lay_code.proofs.reader.ExprFronts.{no_depth}
use Rattle.lay_code.proofs.reader.ExprHeads.{Headed, IsHead}
use Rattle.lay_code.proofs.reader.ExprHeadsBlocks.{async_head, block_head, const_head, for_head, loop_head, unsafe_head, while_head}
use Rattle.lay_code.proofs.reader.ExprHeadsBranches.{if_head, match_head}
use Rattle.lay_code.proofs.reader.ExprHeadsClosures.{closure_head_read, typed_closure_head_read}
use Rattle.lay_code.proofs.reader.ExprHeadsJumps.{return_head, break_head, range_head}
use Rattle.lay_code.proofs.reader.ExprHeadsLists.{paren_head, tuple_head, array_head, repeat_head}
use Rattle.lay_code.proofs.reader.ExprHeadsStruct.{struct_head}
use Rattle.lay_code.proofs.reader.ExprHeadsUnary.{unary_head}
use Rattle.lay_code.proofs.reader.ExprHeadsWords.{lit_head, underscore_head, call_head, path_head, continue_head}
use Rattle.lay_code.proofs.reader.ExprOperators.{strength_most}
use Rattle.lay_code.proofs.reader.ExprOperatorsTails.{stands_parts}
use Rattle.lay_code.proofs.reader.ExprReads.{ExprReads, head_at}
use Rattle.lay_code.proofs.reader.ExprSoundLevel.{layer_of}
use Rattle.lay_code.proofs.reader.ExprSoundOperators.{op_low}
use Rattle.lay_code.proofs.reader.Followed.{Ended, ended_of, root_of}

-- The levels are 14 at most.
level_most : (x : Expr) → (about_expr x).level ≤ 14
level_most x = let k = layer_of x in subst (λ (F : ExprFacts). F.level ≤ 14) (sym k.1) (by k.0)
  where
    by : (F : ExprLayer) → level_of F ≤ 14
    by (Expr-F.Chain x []) = omega arith
    by (Expr-F.Chain x (y ∷ more)) = omega (arith, op_low y.0)
    by _ = omega arith

-- What stands in its place, within the budget, is accepted.
pub accept : (budget : ℕ) (place : Place) (x : Expr) (n : ℕ) (rest : Tokens) → stands (about_expr x) place ≡ true
    → root_follows (about_expr x) place rest ≡ true → n ≤ budget
    → accepted budget place (x, n) rest ≡ Some ((x, n), rest)
accept budget place x n rest m r le = rw (m, r, le-leb n budget le) refl

module _ (fronts : Fronts) (most : ℕ) (within : ExprWithin) (reads : (depth : ℕ) → depth ≤ most → ExprReads depth within) (place : Place) where
  -- ---- every expression is reached

  module _ (depth : ℕ) (le : depth ≤ most) (reaches : Reaches within place 14 (AtHead within place) depth) where
    -- an expression is reached, one level deeper
    abbrev Reached : Expr → Type 0
    Reached x =
        (level : ℕ) (first : Bool) (ts mid : Tokens) → Known within place level (suc depth) (about_expr x) first ts mid
        → Reach within place 14 (AtHead within place) level (suc depth) x ts mid

    -- what begins an expression, by itself
    alone : (x : Expr) (F : ExprLayer) → about_expr x ≡ expr_facts F → nat_le (level_of F) 14 ≡ true
        → IsHead depth within x → Reached x
    alone x F e top h level first ts mid k =
        headed within place x level depth first ts mid h (subst (λ (G : ExprFacts). nat_le G.level 14 ≡ true) (sym e) top) k

    -- what is within it is read
    here : ExprReads depth within
    here = reads depth le

    lower : (least : ℕ) → least ≤ depth → ExprReads least within
    lower least l = reads least (omega (arith, l, le))

    -- kind by kind
    reached : (x : Expr) → ExprView x → Reached x
    reached _ (IsLit l) = alone (expr.Lit l) (Expr-F.Lit l) (expr_lit_is l) refl (lit_head depth within here l)
    reached _ (IsPath path) = alone (expr.Path path) (Expr-F.Path path) (expr_path_is path) refl (path_head depth within here path)
    reached _ IsUnderscore = alone expr.Underscore Expr-F.Underscore expr_underscore_is refl (underscore_head depth within here)
    reached _ (IsCall call) = alone (expr.Call call) (Expr-F.Expr::Call call) (expr_call_is call) refl (call_head depth within here call)
    reached _ (IsParen x) = alone (expr.Paren x) (Expr-F.Paren (about_expr x)) (expr_paren_is x) refl (paren_head depth within here x)
    reached _ (IsContinue label) =
        alone (expr.Continue label) (Expr-F.Continue label) (expr_continue_is label) refl (continue_head depth within here label)
    reached _ (IsTuple xs) =
        alone (expr.Tuple xs) (Expr-F.Tuple (map about_expr xs)) (expr_tuple_is xs) refl (tuple_head depth within here xs)
    reached _ (IsArray xs) =
        alone (expr.Array xs) (Expr-F.Array (map about_expr xs)) (expr_array_is xs) refl (array_head depth within here xs)
    reached _ (IsRepeat x us) =
        alone (expr.Repeat x us) (Expr-F.Repeat (about_expr x) us) (expr_repeat_is x us) refl (repeat_head depth within here x us)
    reached _ (IsStruct path fields base) =
        alone (expr.Struct path fields base) (Expr-F.Expr::Struct path (map about_field_expr fields) (option_map (option_map about_expr) base))
        (expr_struct_is path fields base) refl (struct_head depth within here path fields base)
    reached _ (IsChain x more) =
        chain_reached within place 14 (AtHead within place) depth here reaches x more
        (λ c.
        let level = level_of_chain (map behind_op more) in
        let least = leb-true level 10 (and_parts (nat_le 2 level) (nat_le level 10) c).1 in omega (arith, least))
    reached _ (IsCast x types) = cast_reached within place 14 (AtHead within place) depth here reaches (omega arith) x types
    reached _ (IsUnary ps x) =
        alone (expr.Unary ps x) (Expr-F.Unary ps (about_expr x)) (expr_unary_is ps x) refl (unary_head depth within here ps x)
    reached _ (IsRange None inclusive end) =
        alone (expr.Range None inclusive end) (Expr-F.Range None inclusive (option_map about_expr end))
        (expr_range_is None inclusive end) refl
        (range_head depth within here inclusive end)
    reached _ (IsRange (Some x) inclusive end) =
        range_reached within place 14 (AtHead within place) depth here reaches (omega arith) x inclusive end
    reached _ (IsAssign targets x) = assign_reached within place 14 (AtHead within place) depth here reaches (omega arith) targets x
    reached _ (IsPostfix x steps) = postfix_reached within place 14 (AtHead within place) depth here reaches (omega arith) x steps
    reached _ (IsReturn x) =
        alone (expr.Return x) (Expr-F.Return (option_map about_expr x)) (expr_return_is x) refl (return_head depth within here x)
    reached _ (IsBreak label x) =
        alone (expr.Break label x) (Expr-F.Break label (option_map about_expr x)) (expr_break_is label x) refl
        (break_head depth within here label x)
    reached _ (IsBlock label b) =
        alone (expr.Block label b) (Expr-F.Block label (about_block b)) (expr_block_is label b) refl (block_head fronts depth within here label b)
    reached _ (IsUnsafe b) = alone (expr.Unsafe b) (Expr-F.Unsafe (about_block b)) (expr_unsafe_is b) refl (unsafe_head fronts depth within here b)
    reached _ (IsConstBlock b) =
        alone (expr.ConstBlock b) (Expr-F.ConstBlock (about_block b)) (expr_const_block_is b) refl (const_head fronts depth within here b)
    reached _ (IsAsync moves b) =
        alone (expr.Async moves b) (Expr-F.Async moves (about_block b)) (expr_async_is moves b) refl (async_head fronts depth within here moves b)
    reached _ (IsIf branches o) =
        alone (expr.If branches o) (Expr-F.If (map about_branch branches) (option_map about_block o)) (expr_if_is branches o) refl
        (if_head fronts depth within here branches o)
    reached _ (IsMatch x attrs arms) =
        alone (expr.Match x attrs arms) (Expr-F.Match (about_expr x) attrs (map about_arm arms)) (expr_match_is x attrs arms) refl
        (match_head fronts depth within lower x attrs arms)
    reached _ (IsLoop label b) =
        alone (expr.Loop label b) (Expr-F.Loop label (about_block b)) (expr_loop_is label b) refl (loop_head fronts depth within here label b)
    reached _ (IsWhile label c b) =
        alone (expr.While label c b) (Expr-F.While label (about_condition c) (about_block b)) (expr_while_is label c b) refl
        (while_head fronts depth within here label c b)
    reached _ (IsFor label pat x b) =
        alone (expr.For label pat x b) (Expr-F.For label pat (about_expr x) (about_block b)) (expr_for_is label pat x b) refl
        (for_head fronts depth within here label pat x b)
    reached _ (IsClosure is_async moves params x) =
        alone (expr.Closure is_async moves params x) (Expr-F.Closure is_async moves params (about_expr x)) (expr_closure_is is_async moves params x) refl
        (closure_head_read fronts depth within lower is_async moves params x)
    reached _ (IsTypedClosure is_async moves params output b) =
        alone (expr.TypedClosure is_async moves params output b) (Expr-F.TypedClosure is_async moves params output (about_block b))
        (expr_typed_closure_is is_async moves params output b) refl
        (typed_closure_head_read fronts depth within here is_async moves params output b)

    -- What is block-like is what begins an expression, of the highest level.
    abbrev BlockLike : Expr → Type 0
    BlockLike x = (about_expr x).block_like ≡ true → IsHead depth within x × (nat_le 14 (about_expr x).level ≡ true)

    -- a kind that isn't block-like
    other : (x : Expr) (F : ExprLayer) → about_expr x ≡ expr_facts F → is_block_like F ≡ false → BlockLike x
    other x F e n b = let f = sym n ∙ sym (ap (λ (G : ExprFacts). G.block_like) e) ∙ b in absurd (cc)

    -- a kind that is
    whole : (x : Expr) (F : ExprLayer) → about_expr x ≡ expr_facts F → nat_le 14 (level_of F) ≡ true → IsHead depth within x → BlockLike x
    whole x F e top h b = (h, subst (λ (G : ExprFacts). nat_le 14 G.level ≡ true) (sym e) top)

    -- kind by kind
    block_like : (x : Expr) → ExprView x → BlockLike x
    block_like _ (IsBlock label b) =
        whole (expr.Block label b) (Expr-F.Block label (about_block b)) (expr_block_is label b) refl (block_head fronts depth within here label b)
    block_like _ (IsUnsafe b) = whole (expr.Unsafe b) (Expr-F.Unsafe (about_block b)) (expr_unsafe_is b) refl (unsafe_head fronts depth within here b)
    block_like _ (IsConstBlock b) =
        whole (expr.ConstBlock b) (Expr-F.ConstBlock (about_block b)) (expr_const_block_is b) refl (const_head fronts depth within here b)
    block_like _ (IsIf branches o) =
        whole (expr.If branches o) (Expr-F.If (map about_branch branches) (option_map about_block o)) (expr_if_is branches o) refl
        (if_head fronts depth within here branches o)
    block_like _ (IsMatch x attrs arms) =
        whole (expr.Match x attrs arms) (Expr-F.Match (about_expr x) attrs (map about_arm arms)) (expr_match_is x attrs arms) refl
        (match_head fronts depth within lower x attrs arms)
    block_like _ (IsLoop label b) =
        whole (expr.Loop label b) (Expr-F.Loop label (about_block b)) (expr_loop_is label b) refl (loop_head fronts depth within here label b)
    block_like _ (IsWhile label c b) =
        whole (expr.While label c b) (Expr-F.While label (about_condition c) (about_block b)) (expr_while_is label c b) refl
        (while_head fronts depth within here label c b)
    block_like _ (IsFor label pat x b) =
        whole (expr.For label pat x b) (Expr-F.For label pat (about_expr x) (about_block b)) (expr_for_is label pat x b) refl
        (for_head fronts depth within here label pat x b)
    block_like _ (IsAsync moves b) = other (expr.Async moves b) (Expr-F.Async moves (about_block b)) (expr_async_is moves b) refl
    block_like _ (IsClosure is_async moves params x) =
        other (expr.Closure is_async moves params x) (Expr-F.Closure is_async moves params (about_expr x)) (expr_closure_is is_async moves params x) refl
    block_like _ (IsTypedClosure is_async moves params output b) =
        other (expr.TypedClosure is_async moves params output b) (Expr-F.TypedClosure is_async moves params output (about_block b))
        (expr_typed_closure_is is_async moves params output b) refl
    block_like _ (IsCall call) =
        λ b. (call_head depth within here call, subst (λ (G : ExprFacts). nat_le 14 G.level ≡ true) (sym (expr_call_is call)) refl)
    block_like _ (IsLit l) = other (expr.Lit l) (Expr-F.Lit l) (expr_lit_is l) refl
    block_like _ (IsPath path) = other (expr.Path path) (Expr-F.Path path) (expr_path_is path) refl
    block_like _ IsUnderscore = other expr.Underscore Expr-F.Underscore expr_underscore_is refl
    block_like _ (IsParen x) = other (expr.Paren x) (Expr-F.Paren (about_expr x)) (expr_paren_is x) refl
    block_like _ (IsContinue label) = other (expr.Continue label) (Expr-F.Continue label) (expr_continue_is label) refl
    block_like _ (IsTuple xs) = other (expr.Tuple xs) (Expr-F.Tuple (map about_expr xs)) (expr_tuple_is xs) refl
    block_like _ (IsArray xs) = other (expr.Array xs) (Expr-F.Array (map about_expr xs)) (expr_array_is xs) refl
    block_like _ (IsRepeat x us) = other (expr.Repeat x us) (Expr-F.Repeat (about_expr x) us) (expr_repeat_is x us) refl
    block_like _ (IsStruct path fields base) =
        other (expr.Struct path fields base) (Expr-F.Expr::Struct path (map about_field_expr fields) (option_map (option_map about_expr) base))
        (expr_struct_is path fields base) refl
    block_like _ (IsChain x more) = other (expr.Chain x more) (Expr-F.Chain (about_expr x) (map behind_op more)) (expr_chain_is x more) refl
    block_like _ (IsCast x types) = other (expr.Cast x types) (Expr-F.Cast (about_expr x) types) (expr_cast_is x types) refl
    block_like _ (IsUnary ps x) = other (expr.Unary ps x) (Expr-F.Unary ps (about_expr x)) (expr_unary_is ps x) refl
    block_like _ (IsRange start inclusive end) =
        other (expr.Range start inclusive end) (Expr-F.Range (option_map about_expr start) inclusive (option_map about_expr end))
        (expr_range_is start inclusive end) refl
    block_like _ (IsAssign targets x) =
        other (expr.Assign targets x) (Expr-F.Assign (map target_of targets) (about_expr x)) (expr_assign_is targets x) refl
    block_like _ (IsPostfix x steps) =
        other (expr.Postfix x steps) (Expr-F.Postfix (about_expr x) (map about_step steps)) (expr_postfix_is x steps) refl
    block_like _ (IsReturn x) = other (expr.Return x) (Expr-F.Return (option_map about_expr x)) (expr_return_is x) refl
    block_like _ (IsBreak label x) = other (expr.Break label x) (Expr-F.Break label (option_map about_expr x)) (expr_break_is label x) refl

  -- So all expressions are reached.
  all_reached : (depth : ℕ) → depth ≤ suc most → Reaches within place 14 (AtHead within place) depth
  all_reached zero le x level first ts mid below k = absurd (no_depth x ts mid k.spelled)
  all_reached (suc depth) le x level first ts mid below k =
      reached depth (omega (arith, le)) (all_reached depth (omega (arith, le))) x (expr_view x) level first ts mid k

  -- ---- the whole

  -- reading that ends with what begins the expression
  ended_read : (budget : ℕ) (x : Expr) (n : ℕ) (ts rest : Tokens) → head_at within place.no_struct ts ≡ Some ((x, n), rest)
      → is_ended place (about_expr x) rest ≡ true → accepted budget place (x, n) rest ≡ Some ((x, n), rest)
      → expr_by within budget place ts ≡ Some ((x, n), rest)
  unfolding expr_by
  ended_read budget x n ts rest h i a = rw (h, i, a) refl

  -- reading that climbs from there
  climbed_read : (budget : ℕ) (h : Expr × ℕ) (x : Expr) (n : ℕ) (ts at rest : Tokens) → head_at within place.no_struct ts ≡ Some (h, at)
      → is_ended place (about_expr h.0) at ≡ false → climb within place 14 h at ≡ Some ((x, n), rest)
      → accepted budget place (x, n) rest ≡ Some ((x, n), rest) → expr_by within budget place ts ≡ Some ((x, n), rest)
  unfolding expr_by
  climbed_read budget h x n ts at rest g i k a = rw (g, i, k, a) refl

  -- an expression with what is within it read at every lower depth
  pub read_one : (depth : ℕ) → depth ≤ most → (x : Expr) (ts rest : Tokens) → Spells (about_expr x).form (suc depth) ts rest
      → placed (about_expr x) place ≡ true
      → Followed (about_expr x) place (suc depth) ts rest → IsRead (suc depth) (expr_by within (suc most) place) x ts rest
  read_one depth le x ts rest s w f =
      let F = about_expr x in
      let p = and_parts (stands F place) (F.within place.no_struct (begins place.start)) w in
      by (is_whole place.start && F.block_like) refl p.0 p.1 (root_of F place (suc depth) ts rest f) (ended_of F place (suc depth) ts rest f)
    where
      by : (b : Bool) → (is_whole place.start && (about_expr x).block_like) ≡ b → stands (about_expr x) place ≡ true
          → (about_expr x).within place.no_struct (begins place.start) ≡ true → root_follows (about_expr x) place rest ≡ true
          → Ended (about_expr x).tail (about_expr x).form place.no_struct (suc depth) ts rest
          → IsRead (suc depth) (expr_by within (suc most) place) x ts rest
      by true b m v r t =
          let parts = and_parts (is_whole place.start) (about_expr x).block_like b in
          let no_dot : not (is_dot_or_try rest) ≡ true = sym (rw b refl) ∙ r in
          let h = block_like depth le (all_reached depth (omega (arith, le))) x (expr_view x) parts.1 in
          let top = leb-true 14 (about_expr x).level h.1 in
          let here : Headed depth x place.no_struct (begins place.start) ts rest = record {
            spelled = s;
            inside = v;
            struct_free = (stands_parts (about_expr x) place m).struct_free;
            tail = t;
            weak = le-leb (strength rest) (about_expr x).level (omega (arith, strength_most rest, top));
          } in
          let n = (h.0 place.no_struct (begins place.start) ts rest here).read in
          let ended : is_ended place (about_expr x) rest ≡ true = rw (b, no_dot) refl in
          (n.0, n.1, ended_read (suc most) x n.0 ts rest n.2 ended (accept (suc most) place x n.0 rest m r (omega (arith, n.1, le))))
      by false b m v r t =
          let weak : nat_le (strength rest) place.level ≡ true = sym (rw b refl) ∙ r in
          let known : Known within place place.level (suc depth) (about_expr x) (begins place.start) ts rest = record {
            allowed = omega arith;
            high = (stands_parts (about_expr x) place m).level;
            starts = λ e. refl;
            goes_on = rw b refl;
            spelled = s;
            inside = v;
            weak = leb-true (strength rest) place.level weak;
            tail = t;
            struct_free = (stands_parts (about_expr x) place m).struct_free;
          } in
          let high = leb-true place.level (about_expr x).level known.high in
          let below : place.level ≤ 14 = omega (arith, high, level_most x) in
          let h = all_reached (suc depth) (omega (arith, le)) x place.level (begins place.start) ts rest below known in
          let begun = h.begun in
          let climbs = h.climbs ∙ climb_ends within place place.level (x, h.need) rest (omega arith) in (
            h.need,
            h.least,
            climbed_read (suc most) h.head x h.need ts h.behind rest begun.read begun.goes_on climbs
                (accept (suc most) place x h.need rest m r (omega (arith, h.least, le))),
          )
