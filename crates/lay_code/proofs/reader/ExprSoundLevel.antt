-- Expressions at their places: what is held of those that are read, one level deeper, and of those that operators may still
-- go on with.
use Rattle.std.proofs.Common.{◌≡◌, ℕ, suc, ◌≤◌, Bool, true, false, not, ◌&&◌, ◌||◌, List, [], ◌∷◌, map, option_map, Some, inl, refl, sym, ap, subst}
use Rattle.std.specs.List.{list_all}
use Rattle.std.specs.Prelude.{◌==◌}
use Rattle.std.proofs.lemmas.Bool.{and_parts, eq-eqb}
use Rattle.std.proofs.lemmas.List.Folds.{list_all-map}
use Rattle.lay_form.specs.Form.{Deeper, Done}
use Rattle.lay_form.specs.Spelled.{Spells}
use Rattle.lay_node.specs.Ahead.{Tokens}
use Rattle.lay_node.specs.reader.Exact.{InText}
use Rattle.lay_node.specs.declared.heads.Site.{Site}
use Rattle.lay_node.specs.declared.patterns.PatPlace.{PatPlace}
use Rattle.lay_node.proofs.reader.Loops.{SoundStep}
use Rattle.lay_node.proofs.reader.PatternsSoundLevel.{PatHeld}
use Rattle.lay_node.proofs.reader.TypesSoundLevel.{SoundWithin}
use Rattle.lay_node.proofs.reader.TypesSoundNeeds.{Held}
use Rattle.lay_node.proofs.reader.TypesSoundParts.{Out}
use Rattle.lay_code.specs.Operands.{begins_operand}
use Rattle.lay_code.specs.Operators.{strength}
use Rattle.lay_code.specs.nodes.Code.{about_arm, about_block, about_branch, about_condition, about_expr, about_field_expr, about_item, about_step}
use Rattle.lay_code.specs.nodes.Exprs.{ExprFacts, Tail, all_free, begins_pointer, expr_facts, expr_forms, Followed, inside, lacks_operand, placed, root_follows, stands, tail_follows, tail_of, within_of, ExprLayer}
use Rattle.lay_code.specs.nodes.Places.{FREE, begins, plain}
use Rattle.lay_code.specs.reader.Within.{ExprWithin}
use Rattle.lay_code.specs.declared.blocks.Block.{Block}
use Rattle.lay_code.specs.declared.exprs.Expr.{Expr}
use Rattle.lay_code.specs.declared.blocks.Stmt.TheOpen.{Expr-F}
use Rattle.lay_code.specs.declared.exprs.Place.{Place}
use Rattle.lay_code.proofs.nodes.ExprsLaws.{behind_op, before_op, ExprView, IsLit, IsPath, IsUnderscore, IsCall, IsParen, IsContinue, IsTuple, IsArray, IsRepeat, IsStruct, IsChain, IsCast, IsUnary, IsRange, IsAssign, IsPostfix, IsBlock, IsUnsafe, IsConstBlock, IsAsync, IsIf, IsMatch, IsLoop, IsWhile, IsFor, IsClosure, IsTypedClosure, IsReturn, IsBreak, expr_view, expr_lit_is, expr_path_is, expr_underscore_is, expr_call_is, expr_paren_is, expr_continue_is, expr_tuple_is, expr_array_is, expr_repeat_is, expr_struct_is, expr_chain_is, expr_cast_is, expr_unary_is, expr_range_is, expr_assign_is, expr_postfix_is, expr_block_is, expr_unsafe_is, expr_const_block_is, expr_async_is, expr_if_is, expr_match_is, expr_loop_is, expr_while_is, expr_for_is, expr_closure_is, expr_typed_closure_is, expr_return_is, expr_break_is}
use Rattle.lay_code.proofs.reader.Followed.{Ended, SpelledBefore, ended_of, node_made, root_of}

-- An expression with these facts stands at the place, at this depth, which is within the budget.
abbrev pub IsExpr : Place → ℕ → ExprFacts → ℕ → Tokens → Tokens → Type 0
IsExpr place budget x n ts rest = (n ≤ budget) × Spells x.form n ts rest × (placed x place ≡ true) × Followed x place n ts rest

abbrev pub ExprHeld : Place → ℕ → Expr × ℕ → Tokens → Tokens → Type 0
ExprHeld place budget x ts rest = IsExpr place budget (about_expr x.0) x.1 ts rest

-- A block one level deeper stands there, and is well formed.
abbrev pub DeepBlock : ℕ → Block × ℕ → Tokens → Tokens → Type 0
DeepBlock budget x ts rest =
    (x.1 ≤ budget) × Spells (Deeper ((about_block x.0).form true) Done) x.1 ts rest × ((about_block x.0).good ≡ true)

-- An expression with these facts stands there, and operators may still go on with it. The flags say that no struct
-- literal may stand there, and that it begins a statement.
abbrev pub IsLeft : Bool → Bool → ExprFacts → ℕ → Tokens → Tokens → Type 0
IsLeft no_struct first x n ts rest =
    Spells x.form n ts rest × (x.within no_struct first ≡ true) × Ended x.tail x.form no_struct n ts rest

abbrev pub LeftHeld : Bool → Bool → Expr × ℕ → Tokens → Tokens → Type 0
LeftHeld no_struct first x ts rest = IsLeft no_struct first (about_expr x.0) x.1 ts rest

-- What is read one level deeper stands there within the budget.
pub record SoundExprWithin (budget : ℕ) (within : ExprWithin) : Type 0 where
  pub exprs : (place : Place) → SoundStep (within.exprs place) (ExprHeld place budget)
  pub kinds : SoundWithin budget within.kinds
  pub pats : (place : PatPlace) → SoundStep (within.pats place) (PatHeld place budget)
  pub blocks : SoundStep within.blocks (DeepBlock budget)
  pub items : (at : Site) → SoundStep (within.items at) (Held (about_item at) budget)
  -- So does what begins with the first operands of a condition, which stand there.
  pub goes_on : (lhs : Expr × ℕ) (begun ts : Tokens) → LeftHeld true false lhs begun ts → InText ts → (x : Expr × ℕ) (rest : Tokens)
      → within.goes_on lhs ts ≡ Some (x, rest) → Out (ExprHeld (plain 0 true) budget) begun (x, rest)

-- ---- parts of what is held

-- what is held of what follows its root, of what follows what it ends in, and of what is within it
pub root_held : (place : Place) (budget : ℕ) (x : ExprFacts) (n : ℕ) (ts rest : Tokens) → IsExpr place budget x n ts rest
    → root_follows x place rest ≡ true
root_held place budget x n ts rest s = root_of x place n ts rest s.3

pub tail_held : (place : Place) (budget : ℕ) (x : ExprFacts) (n : ℕ) (ts rest : Tokens) → IsExpr place budget x n ts rest
    → SpelledBefore x.tail x.form place.no_struct n ts rest
tail_held place budget x n ts rest s = (s.1, ended_of x place n ts rest s.3)

pub within_held : (x : ExprFacts) (place : Place) → placed x place ≡ true → x.within place.no_struct (begins place.start) ≡ true
within_held x place h = (and_parts (stands x place) (x.within place.no_struct (begins place.start)) h).1

-- the forms of expressions within delimiters, and the test of all of them
pub expr_list : (xs : List Expr)
    → (expr_forms (map about_expr xs) ≡ map (λ x. (about_expr x).form) xs)
    × (all_free (map about_expr xs) ≡ list_all (λ x. placed (about_expr x) FREE) xs)
expr_list xs = (forms_are xs, list_all-map (λ (x : ExprFacts). placed x FREE) about_expr xs)
  where
    forms_are : (xs : List Expr) → expr_forms (map about_expr xs) ≡ map (λ x. (about_expr x).form) xs
    forms_are [] = refl
    forms_are (x ∷ xs) = ap (λ fs. (about_expr x).form ∷ fs) (forms_are xs)

-- ---- an expression, one level above what is within it

-- An expression of a kind stands there, where what is within it does, and it ends in what the kind ends in.
pub made_before : (no_struct first : Bool) (X : ExprFacts) (k : ExprLayer) (n : ℕ) (ts rest : Tokens)
    → X ≡ expr_facts k → SpelledBefore (tail_of k) (inside k) no_struct n ts rest → within_of k no_struct first ≡ true
    → IsLeft no_struct first X (suc n) ts rest
made_before no_struct first X k n ts rest e s w =
    let b = node_made (tail_of k) no_struct n (inside k) ts rest s in
    let there : IsLeft no_struct first (expr_facts k) (suc n) ts rest = (b.0, w, b.1) in
    subst (λ (z : ExprFacts). IsLeft no_struct first z (suc n) ts rest) (sym e) there

-- The same, where what follows is told of what it ends in.
pub made : (no_struct first : Bool) (X : ExprFacts) (k : ExprLayer) (n : ℕ) (ts rest : Tokens)
    → X ≡ expr_facts k → Spells (inside k) n ts rest → within_of k no_struct first ≡ true
    → tail_follows (tail_of k) no_struct rest ≡ true → IsLeft no_struct first X (suc n) ts rest
made no_struct first X k n ts rest e s w t = made_before no_struct first X k n ts rest e (s, inl t) w

-- ---- what may follow

other_first : (a b c d e f g z : Bool) → z ≡ true → (a && b && c && d && e && f && g) ≡ true
    → (z && b && c && d && e && f && g) ≡ true
other_first true b c d e f g true p h = h
other_first false b c d e f g true p h = absurd (cc h)
other_first a b c d e f g false p h = absurd (cc p)

-- After an operand that takes all operators none follows.
pub all_taken : (t : Tail) (no_struct : Bool) (ts : Tokens) → strength ts ≡ 0 → tail_follows t no_struct ts ≡ true
    → tail_follows (record t { takes_all = true }) no_struct ts ≡ true
all_taken t no_struct ts z h = other_first _ _ _ _ _ _ _ (not true || strength ts == 0) (eq-eqb (strength ts) 0 z) h

-- Where an operand is left out none begins.
pub bare_follows : (no_struct : Bool) (ts : Tokens) → begins_operand no_struct ts ≡ false
    → tail_follows lacks_operand no_struct ts ≡ true
bare_follows no_struct ts h = by (begins_operand no_struct ts) h
  where
    by : (b : Bool) → b ≡ false → (not b && true && true && true && true && true) ≡ true
    by false h = refl
    by true h = absurd (cc h)

other_fifth : (m e l f z : Bool) → z ≡ true → (m && e && l && f) ≡ true → (m && z && l && f) ≡ true
other_fifth true true l f true p h = h
other_fifth true false l f true p h = absurd (cc h)
other_fifth false e l f true p h = absurd (cc h)
other_fifth m e l f false p h = absurd (cc p)

-- After an operand where a `&` may stand before the path `raw` no `const` and no `mut` follows.
pub amp_follows : (t : Tail) (amp no_struct : Bool) (ts : Tokens) → (amp ≡ true → begins_pointer ts ≡ false)
    → tail_follows t no_struct ts ≡ true → tail_follows (record t { raw = t.raw || amp }) no_struct ts ≡ true
amp_follows t amp no_struct ts f h =
    other_fifth _ _ _ _ (not ((t.raw || amp) && begins_pointer ts)) (by t.raw amp (begins_pointer ts) (fifth _ _ _ _ h) f) h
  where
    fifth : (m e l f : Bool) → (m && e && l && f) ≡ true → e ≡ true
    fifth true true l f h = refl
    fifth true false l f h = absurd (cc h)
    fifth false e l f h = absurd (cc h)

    by : (raw amp pointer : Bool) → not (raw && pointer) ≡ true → (amp ≡ true → pointer ≡ false)
        → not ((raw || amp) && pointer) ≡ true
    by true amp pointer h f = h
    by false true pointer h f = rw (f refl) refl
    by false false pointer h f = refl

-- ---- which kind it is

-- What is told of an expression is told of a kind.
pub layer_of : (x : Expr) → (k : ExprLayer) × (about_expr x ≡ expr_facts k)
layer_of x = by x (expr_view x)
  where
    by : (x : Expr) → ExprView x → (k : ExprLayer) × (about_expr x ≡ expr_facts k)
    by _ (IsLit l) = (Expr-F.Lit l, expr_lit_is l)
    by _ (IsPath p) = (Expr-F.Path p, expr_path_is p)
    by _ IsUnderscore = (Expr-F.Underscore, expr_underscore_is)
    by _ (IsCall c) = (Expr-F.Expr::Call c, expr_call_is c)
    by _ (IsParen x) = (Expr-F.Paren (about_expr x), expr_paren_is x)
    by _ (IsContinue l) = (Expr-F.Continue l, expr_continue_is l)
    by _ (IsTuple xs) = (Expr-F.Tuple (map about_expr xs), expr_tuple_is xs)
    by _ (IsArray xs) = (Expr-F.Array (map about_expr xs), expr_array_is xs)
    by _ (IsRepeat x us) = (Expr-F.Repeat (about_expr x) us, expr_repeat_is x us)
    by _ (IsStruct p fs b) = (Expr-F.Expr::Struct p (map about_field_expr fs) (option_map (option_map about_expr) b), expr_struct_is p fs b)
    by _ (IsChain x more) = (Expr-F.Chain (about_expr x) (map behind_op more), expr_chain_is x more)
    by _ (IsCast x types) = (Expr-F.Cast (about_expr x) types, expr_cast_is x types)
    by _ (IsUnary ps x) = (Expr-F.Unary ps (about_expr x), expr_unary_is ps x)
    by _ (IsRange a inclusive b) = (Expr-F.Range (option_map about_expr a) inclusive (option_map about_expr b), expr_range_is a inclusive b)
    by _ (IsAssign ts x) = (Expr-F.Assign (map before_op ts) (about_expr x), expr_assign_is ts x)
    by _ (IsPostfix x steps) = (Expr-F.Postfix (about_expr x) (map about_step steps), expr_postfix_is x steps)
    by _ (IsBlock l b) = (Expr-F.Block l (about_block b), expr_block_is l b)
    by _ (IsUnsafe b) = (Expr-F.Unsafe (about_block b), expr_unsafe_is b)
    by _ (IsConstBlock b) = (Expr-F.ConstBlock (about_block b), expr_const_block_is b)
    by _ (IsAsync moves b) = (Expr-F.Async moves (about_block b), expr_async_is moves b)
    by _ (IsIf bs o) = (Expr-F.If (map about_branch bs) (option_map about_block o), expr_if_is bs o)
    by _ (IsMatch x attrs arms) = (Expr-F.Match (about_expr x) attrs (map about_arm arms), expr_match_is x attrs arms)
    by _ (IsLoop l b) = (Expr-F.Loop l (about_block b), expr_loop_is l b)
    by _ (IsWhile l c b) = (Expr-F.While l (about_condition c) (about_block b), expr_while_is l c b)
    by _ (IsFor l p x b) = (Expr-F.For l p (about_expr x) (about_block b), expr_for_is l p x b)
    by _ (IsClosure is_async moves ps x) = (Expr-F.Closure is_async moves ps (about_expr x), expr_closure_is is_async moves ps x)
    by _ (IsTypedClosure is_async moves ps t b) = (Expr-F.TypedClosure is_async moves ps t (about_block b), expr_typed_closure_is is_async moves ps t b)
    by _ (IsReturn x) = (Expr-F.Return (option_map about_expr x), expr_return_is x)
    by _ (IsBreak l x) = (Expr-F.Break l (option_map about_expr x), expr_break_is l x)
