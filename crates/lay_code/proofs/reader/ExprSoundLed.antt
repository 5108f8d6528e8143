-- What is read as an expression with blocks, or as a closure, begins with the lead that the tokens begin with.
use Rattle.std.proofs.Common.{◌≡◌, ℕ, suc, max, Bool, true, false, ◌∷◌, drop, length, inl, inr, codes, Option, Some, None, if◌then◌else◌, sym, ap, subst}
use Rattle.lay_token.specs.Operators.{is_op}
use Rattle.lay_piece.specs.declared.kind.Delim.TheVariants.{Brace}
use Rattle.lay_node.specs.Ahead.{Tokens, first, tail, closes, is_keyword, is_mark, more_items, opens}
use Rattle.lay_node.specs.reader.Attr.{attributes}
use Rattle.lay_node.specs.reader.Loops.{deepest, elements, nodes, passed, repeat}
use Rattle.lay_node.specs.reader.Types.{if_read, lifetime}
use Rattle.lay_node.specs.declared.patterns.PatPlace.TheVariants.{Alternatives}
use Rattle.lay_node.specs.declared.token.Lifetime.{Lifetime}
use Rattle.lay_node.specs.declared.types.TypePlace.TheVariants.{NoBounds}
use Rattle.lay_node.proofs.Steps.{same_some, chosen, bind_some}
use Rattle.lay_code.specs.Operands.{ExprLead, ByLabel, ByBrace, ByBlockWord, ByClosure}
use Rattle.lay_code.specs.nodes.Bodies.{sheds}
use Rattle.lay_code.specs.nodes.Code.{about_expr}
use Rattle.lay_code.specs.nodes.Exprs.{ExprFacts, label_or}
use Rattle.lay_code.specs.nodes.Places.{plain}
use Rattle.lay_code.specs.reader.Blocks.{arm_by, block_by, body_need, branch_by}
use Rattle.lay_code.specs.reader.Conditions.{condition_by}
use Rattle.lay_code.specs.reader.Exprs.{async_expr, begins_else_if, block_expr, block_word_expr, closure_behind, closure_expr, closure_param, for_expr, if_expr, label_expr, labelled_expr, match_expr, shed, while_expr}
use Rattle.lay_code.specs.reader.Within.{ExprWithin}
use Rattle.lay_code.specs.declared.blocks.Block.{Block}
use Rattle.lay_code.specs.declared.exprs.Expr.{Expr}
use Rattle.lay_code.specs.declared.exprs.Expr.TheVariants as expr
use Rattle.lay_code.proofs.nodes.ExprsLaws.{expr_async_is, expr_block_is, expr_closure_is, expr_const_block_is, expr_for_is, expr_if_is, expr_loop_is, expr_match_is, expr_typed_closure_is, expr_unsafe_is, expr_while_is}

-- What was read has this lead.
abbrev pub Led : ExprLead → (Expr × ℕ) × Tokens → Type 0
Led lead r = (about_expr r.0.0).lead ≡ lead

pub led : {X F : ExprFacts} → X ≡ F → X.lead ≡ F.lead
led e = ap (λ (z : ExprFacts). z.lead) e

module _ (within : ExprWithin) where
  block_led : (lead : ExprLead) (make : Block → Expr) → ((b : Block) → (about_expr (make b)).lead ≡ lead) → (ts : Tokens)
      (r : (Expr × ℕ) × Tokens) → block_expr within make ts ≡ Some r → Led lead r
  block_led lead make is ts r h =
      let b = bind_some (block_by within ts) _ _ h in
      same_some (Led lead) ((make b.0.0.0, suc b.0.0.1), b.0.1) r b.2 (is b.0.0.0)

  -- What may have a label begins with its label, with a `{`, or with the word of a loop.
  pub labelled_led : (label : Option Lifetime) (ts : Tokens) (r : (Expr × ℕ) × Tokens) → labelled_expr within label ts ≡ Some r
      → Led (label_or (if first (opens Brace) ts then ByBrace else ByBlockWord) label) r
  unfolding while_expr for_expr
  labelled_led label ts r h =
      let L : Bool → Type 0 = λ b. Led (label_or (if b then ByBrace else ByBlockWord) label) r in
      let word : first (opens Brace) ts ≡ false → Led (label_or ByBlockWord label) r → L (first (opens Brace) ts) =
      λ e l. subst L (sym e) l in
      elim (chosen (first (opens Brace) ts) _ _ _ h) [
        | inl g ↦
            subst L (sym g.0)
            (block_led (label_or ByBrace label) (expr.Block label) (λ b. led (expr_block_is label b)) ts r g.1)
        | inr g ↦ elim (chosen (first (is_keyword (codes "loop")) ts) _ _ _ g.1) [
          | inl f ↦
              word g.0 (block_led (label_or ByBlockWord label) (expr.Loop label) (λ b. led (expr_loop_is label b)) (tail ts) r f.1)
          | inr f ↦ elim (chosen (first (is_keyword (codes "while")) ts) _ _ _ f.1) [
            | inl e ↦
                let c = bind_some (condition_by within (tail ts)) _ _ e.1 in
                let b = bind_some (block_by within c.0.1) _ _ c.2 in
                let made = expr.While label c.0.0.0 b.0.0.0 in
                word g.0 (same_some (Led (label_or ByBlockWord label)) ((made, suc (max c.0.0.1 b.0.0.1)), b.0.1) r b.2
                (led (expr_while_is label c.0.0.0 b.0.0.0)))
            | inr e ↦
                let k = bind_some (passed (is_keyword (codes "for")) ts) _ _ e.1 in
                let p = bind_some (within.pats Alternatives k.0) _ _ k.2 in
                let i = bind_some (passed (is_keyword (codes "in")) p.0.1) _ _ p.2 in
                let x = bind_some (within.exprs (plain 0 true) i.0) _ _ i.2 in
                let b = bind_some (block_by within x.0.1) _ _ x.2 in
                let made = expr.For label p.0.0.0 x.0.0.0 b.0.0.0 in
                word g.0 (same_some (Led (label_or ByBlockWord label))
                ((made, suc (max p.0.0.1 (max x.0.0.1 b.0.0.1))), b.0.1) r b.2
                (led (expr_for_is label p.0.0.0 x.0.0.0 b.0.0.0)))
          ]
        ]
      ]

  pub label_led : (ts : Tokens) (r : (Expr × ℕ) × Tokens) → label_expr within ts ≡ Some r → Led ByLabel r
  unfolding label_expr
  label_led ts r h =
      let l = bind_some (lifetime ts) _ _ h in
      elim (chosen (is_op (codes ":") l.0.1) _ _ _ l.2) [
        | inl g ↦ labelled_led (Some l.0.0) (drop 1 l.0.1) r g.1
        | inr g ↦ absurd (cc g.1)
      ]

  async_led : (ts : Tokens) (r : (Expr × ℕ) × Tokens) → async_expr within ts ≡ Some r → Led ByBlockWord r
  async_led ts r h = elim (chosen (first (is_keyword (codes "move")) ts) _ _ _ h) [
    | inl g ↦ block_led ByBlockWord (λ b. expr.Async true b) (λ b. led (expr_async_is true b)) (tail ts) r g.1
    | inr g ↦ block_led ByBlockWord (λ b. expr.Async false b) (λ b. led (expr_async_is false b)) ts r g.1
  ]

  if_led : (ts : Tokens) (r : (Expr × ℕ) × Tokens) → if_expr within ts ≡ Some r → Led ByBlockWord r
  unfolding if_expr
  if_led ts r h =
      let b = bind_some (branch_by within ts) _ _ h in
      let more = bind_some (repeat begins_else_if (λ us. branch_by within (drop 2 us)) b.0.1) _ _ b.2 in
      let o = bind_some (if_read (first (is_keyword (codes "else")) more.0.1) (λ us. block_by within (tail us)) more.0.1) _ _ more.2 in
      let all = b.0.0.0 ∷ nodes more.0.0 in
      same_some (Led ByBlockWord) ((expr.If all o.0.0.0, suc (max b.0.0.1 (max (deepest more.0.0) o.0.0.1))), o.0.1) r o.2
      (led (expr_if_is all o.0.0.0))

  match_led : (ts : Tokens) (r : (Expr × ℕ) × Tokens) → match_expr within ts ≡ Some r → Led ByBlockWord r
  unfolding match_expr
  match_led ts r h =
      let x = bind_some (within.exprs (plain 0 true) ts) _ _ h in
      let i = bind_some (passed (opens Brace) x.0.1) _ _ x.2 in
      let a = bind_some (attributes true i.0) _ _ i.2 in
      let arms = bind_some (repeat more_items (arm_by within) a.0.1) _ _ a.2 in
      let c = bind_some (passed (closes Brace) arms.0.1) _ _ arms.2 in
      let all = nodes arms.0.0 in
      same_some (Led ByBlockWord) ((expr.Match x.0.0.0 a.0.0 all, suc (max x.0.0.1 (deepest arms.0.0))), c.0) r c.2
      (led (expr_match_is x.0.0.0 a.0.0 all))

  -- A word begins it, where no `{` stands there.
  pub word_led : (ts : Tokens) → first (opens Brace) ts ≡ false → (r : (Expr × ℕ) × Tokens) → block_word_expr within ts ≡ Some r
      → Led ByBlockWord r
  unfolding block_word_expr
  word_led ts n r h = elim (chosen (first (is_keyword (codes "unsafe")) ts) _ _ _ h) [
    | inl g ↦ block_led ByBlockWord expr.Unsafe (λ b. led (expr_unsafe_is b)) (tail ts) r g.1
    | inr g ↦ elim (chosen (first (is_keyword (codes "const")) ts) _ _ _ g.1) [
      | inl f ↦ block_led ByBlockWord expr.ConstBlock (λ b. led (expr_const_block_is b)) (tail ts) r f.1
      | inr f ↦ elim (chosen (first (is_keyword (codes "async")) ts) _ _ _ f.1) [
        | inl e ↦ async_led (tail ts) r e.1
        | inr e ↦ elim (chosen (first (is_keyword (codes "if")) ts) _ _ _ e.1) [
          | inl d ↦ if_led (tail ts) r d.1
          | inr d ↦ elim (chosen (first (is_keyword (codes "match")) ts) _ _ _ d.1) [
            | inl c ↦ match_led (tail ts) r c.1
            | inr c ↦
                let l = labelled_led None ts r c.1 in
                subst (λ (b : Bool). Led (if b then ByBrace else ByBlockWord) r) n l
          ]
        ]
      ]
    ]
  ]

  behind_led : (no_struct is_async : Bool) (ts : Tokens) (r : (Expr × ℕ) × Tokens) → closure_behind within no_struct is_async ts ≡ Some r
      → Led ByClosure r
  behind_led no_struct is_async ts r h =
      let moves = first (is_keyword (codes "move")) ts in
      let k = bind_some (passed (is_mark (codes "|")) (if moves then tail ts else ts)) _ _ h in
      let ps = bind_some (elements (is_mark (codes "|")) (closure_param within) k.0) _ _ k.2 in
      let all = nodes ps.0.0 in
      let need = deepest ps.0.0 in
      elim (chosen (is_op (codes "->") ps.0.1) _ _ _ ps.2) [
        | inl g ↦
            let t = bind_some (within.kinds.types NoBounds (drop 2 ps.0.1)) _ _ g.1 in
            let b = bind_some (block_by within t.0.1) _ _ t.2 in
            let made = expr.TypedClosure is_async moves all t.0.0.0 b.0.0.0 in
            same_some (Led ByClosure) ((made, suc (max need (max t.0.0.1 b.0.0.1))), b.0.1) r b.2
            (led (expr_typed_closure_is is_async moves all t.0.0.0 b.0.0.0))
        | inr g ↦
            let x = bind_some (within.exprs (plain 0 no_struct) ps.0.1) _ _ g.1 in
            let body = shed no_struct (length ps.0.1) x.0.0.0 in
            let deep = body_need (sheds (about_expr x.0.0.0).kind no_struct) x.0.0.1 in
            same_some (Led ByClosure) ((expr.Closure is_async moves all body, suc (max need deep)), x.0.1) r x.2
            (led (expr_closure_is is_async moves all body))
      ]

  pub closure_led : (no_struct : Bool) (ts : Tokens) (r : (Expr × ℕ) × Tokens) → closure_expr within no_struct ts ≡ Some r
      → Led ByClosure r
  unfolding closure_expr
  closure_led no_struct ts r h =
      let is_async = first (is_keyword (codes "async")) ts in behind_led no_struct is_async (if is_async then tail ts else ts) r h
