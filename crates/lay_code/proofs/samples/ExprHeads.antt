-- Samples of expressions: what is read.
use Rattle.std.proofs.Common.{◌≡◌, ℕ, Bool, true, false, List, [], ◌∷◌, Some, None, codes, refl, ap, ◌∙◌}
use Rattle.std.specs.Str.{chars}
use Rattle.lay_piece.specs.declared.kind.Delim.TheVariants.{Paren, Bracket, Brace}
use Rattle.lay_piece.specs.declared.kind.Kind.{Kind}
use Rattle.lay_token.specs.Operators.{op_at}
use Rattle.lay_token.specs.declared.token.Token.{Token}
use Rattle.lay_node.specs.Begins.{lead_at}
use Rattle.lay_node.specs.reader.Attr.{attributes}
use Rattle.lay_node.specs.reader.Call.{call}
use Rattle.lay_node.specs.reader.Loops.{repeat_from, repeat, elements_from, elements, open_elements_from, open_elements}
use Rattle.lay_node.specs.reader.Patterns.{pat_at}
use Rattle.lay_node.specs.reader.SimplePath.{simple_path}
use Rattle.lay_node.specs.reader.Tokens.{run, tokens_of, group}
use Rattle.lay_node.specs.reader.Types.{within, path_type, path, chain, segment, args_by, angle, qualified, bracket_type, lifetime, literal, one_arg}
use Rattle.lay_node.specs.reader.Words.{name as name_reading, word as word_reading}
use Rattle.lay_node.proofs.samples.Trees.{named, a, b, c, token, word, mark, opens, closes}
use Rattle.lay_node.proofs.samples.Types.{local}
use Rattle.lay_node.specs.Ahead.{Tokens}
use Rattle.lay_node.specs.declared.types.Ty.TheVariants as ty
use Rattle.lay_node.proofs.nodes.TypesLaws as types
use Rattle.lay_node.proofs.samples.Tokens as list
use Rattle.lay_code.specs.Operands.{expr_lead_at}
use Rattle.lay_code.specs.Operators.{binary, prefix, strength, op_text}
use Rattle.lay_code.specs.nodes.Code.{about_expr}
use Rattle.lay_code.specs.nodes.Exprs.{ExprFacts, stands, root_follows}
use Rattle.std.specs.Prelude.{zero, suc, nat_le, ◌&&◌, ◌==◌, drop, length}
use Rattle.lay_code.specs.nodes.Places.{FREE, plain, statement}
use Rattle.lay_code.specs.reader.Code.{expr_at, code_in}
use Rattle.lay_code.specs.reader.Exprs.{assign_expr, base, bracket_expr, break_expr, cast_expr, chain_expr, climb, continue_expr, dot_step, is_ended, expr_by, one_field, one_step, one_type, operand, operands, paren_expr, path_expr, postfix_expr, range_expr, return_expr, struct_expr, unary_expr, head_by, climb_by, left_place, stage, operand_ends}
use Rattle.lay_code.specs.reader.Within.{ExprWithin}
use Rattle.lay_code.specs.declared.exprs.Place.{Place}
use Rattle.lay_piece.specs.declared.kind.Kind.TheVariants as kind
use Rattle.lay_code.proofs.samples.Exprs.{called, float, float_is, int, int_is, method, name, name_is, named_type, tick_a}
use Rattle.lay_code.specs.declared.exprs.Expr.{Expr}
use Rattle.lay_code.specs.declared.operators.Op.{Op}
use Rattle.lay_code.specs.declared.exprs.Expr.TheVariants as expr
use Rattle.lay_code.specs.declared.exprs.FieldExpr.TheVariants as field
use Rattle.lay_code.specs.declared.exprs.Start.TheVariants as start
use Rattle.lay_code.specs.declared.exprs.Step.TheVariants as step
use Rattle.lay_code.specs.declared.operators.Op.TheVariants as op
use Rattle.lay_code.specs.declared.operators.Prefix.TheVariants as before
use Rattle.lay_code.proofs.nodes.ExprsLaws as exprs

abbrev digits : List ℕ → Token
digits text = token kind.Int text false

abbrev number_token : Kind → List ℕ → Token
number_token kind text = token kind text false

abbrev joint : List ℕ → Token
joint text = token kind.Punct text true

abbrev tick : List ℕ → Token
tick text = token kind.Lifetime text false

abbrev underscore : Token
underscore = token kind.Underscore (codes "_") false

abbrev beginning_part : Place
beginning_part = record { level = 0; no_struct = false; start = start.Part; op_after = false; lt_after = false }

-- ---- one step of reading at a time

abbrev pub at_level : ℕ → ExprWithin
at_level n = record {
  exprs = λ place ts. expr_at place n ts;
  kinds = within n;
  pats = λ place ts. pat_at place n ts;
  blocks = λ ts. (code_in n).blocks ts;
  items = λ at ts. (code_in n).items at ts;
  goes_on = λ lhs ts. (code_in n).goes_on lhs ts;
}

pub level_is : (n : ℕ) → code_in n ≡ at_level n
unfolding code_in
level_is zero = refl
level_is (suc n) = refl

-- what is read at a place is read so of what is one level deeper
pub expr_there : (n : ℕ) (place : Place) (ts : Tokens) → expr_at place (suc n) ts ≡ expr_by (at_level n) (suc n) place ts
unfolding code_in
expr_there n place ts = ap (λ (w : ExprWithin). expr_by w (suc n) place ts) (level_is n)

read_so : (n : ℕ) (place : Place) (ts : Tokens) (h x : Expr × ℕ) (us rest : Tokens) (F : ExprFacts)
    → head_by (at_level n) place.no_struct (expr_lead_at ts) ts ≡ Some (h, us)
    → climb_by (at_level n) place h us ≡ Some (x, rest) → about_expr x.0 ≡ F
    → (stands F place && root_follows F place rest && nat_le x.1 (suc n)) ≡ true → expr_by (at_level n) (suc n) place ts ≡ Some (x, rest)
unfolding expr_by
read_so n place ts h x us rest F began climbed e fits = rw (began, climbed, e, fits) refl

refused_so : (n : ℕ) (place : Place) (ts : Tokens) (h : Expr × ℕ) (us : Tokens)
    → head_by (at_level n) place.no_struct (expr_lead_at ts) ts ≡ Some (h, us) → climb_by (at_level n) place h us ≡ None
    → expr_by (at_level n) (suc n) place ts ≡ None
unfolding expr_by
refused_so n place ts h us began climbed = rw (began, climbed) refl

lost_so : (n : ℕ) (place : Place) (ts : Tokens) (h x : Expr × ℕ) (us rest : Tokens) (F : ExprFacts)
    → head_by (at_level n) place.no_struct (expr_lead_at ts) ts ≡ Some (h, us)
    → climb_by (at_level n) place h us ≡ Some (x, rest) → about_expr x.0 ≡ F
    → (stands F place && root_follows F place rest && nat_le x.1 (suc n)) ≡ false → expr_by (at_level n) (suc n) place ts ≡ None
unfolding expr_by
lost_so n place ts h x us rest F began climbed e fits = rw (began, climbed, e, fits) refl

-- what begins an expression, what goes on with it, and what it is then, of which is told that it stands in its place
pub reads : (n : ℕ) (place : Place) (ts : Tokens) (h x : Expr × ℕ) (us rest : Tokens) (F : ExprFacts)
    → head_by (at_level n) place.no_struct (expr_lead_at ts) ts ≡ Some (h, us)
    → climb_by (at_level n) place h us ≡ Some (x, rest) → about_expr x.0 ≡ F
    → (stands F place && root_follows F place rest && nat_le x.1 (suc n)) ≡ true → expr_at place (suc n) ts ≡ Some (x, rest)
reads n place ts h x us rest F began climbed e fits = expr_there n place ts ∙ read_so n place ts h x us rest F began climbed e fits

-- What begins it is read, and what goes on with it isn't.
pub refuses : (n : ℕ) (place : Place) (ts : Tokens) (h : Expr × ℕ) (us : Tokens)
    → head_by (at_level n) place.no_struct (expr_lead_at ts) ts ≡ Some (h, us) → climb_by (at_level n) place h us ≡ None
    → expr_at place (suc n) ts ≡ None
refuses n place ts h us began climbed = expr_there n place ts ∙ refused_so n place ts h us began climbed

-- an operator of this level after what was read
pub climbs : (n : ℕ) (place : Place) (level : ℕ) (lhs x : Expr × ℕ) (ts us : Tokens) (F : ExprFacts)
    → (nat_le place.level level && strength ts == suc level) ≡ true → about_expr lhs.0 ≡ F
    → stands F (left_place place level ts) ≡ true → stage (at_level n) level place.no_struct lhs ts ≡ Some (x, us)
    → climb (at_level n) place (suc level) lhs ts ≡ climb (at_level n) place level x us
unfolding climb
climbs n place level lhs x ts us F there e stood staged = rw (there, e, stood, staged) refl

-- one after which nothing is read that it takes
pub falls : (n : ℕ) (place : Place) (level : ℕ) (lhs : Expr × ℕ) (ts : Tokens) (F : ExprFacts)
    → (nat_le place.level level && strength ts == suc level) ≡ true → about_expr lhs.0 ≡ F
    → stands F (left_place place level ts) ≡ true → stage (at_level n) level place.no_struct lhs ts ≡ None
    → climb (at_level n) place (suc level) lhs ts ≡ None
unfolding climb
falls n place level lhs ts F there e stood staged = rw (there, e, stood, staged) refl

-- one before which what was read doesn't stand
pub stops : (n : ℕ) (place : Place) (level : ℕ) (lhs : Expr × ℕ) (ts : Tokens) (F : ExprFacts)
    → (nat_le place.level level && strength ts == suc level) ≡ true → about_expr lhs.0 ≡ F
    → stands F (left_place place level ts) ≡ false → climb (at_level n) place (suc level) lhs ts ≡ None
unfolding climb
stops n place level lhs ts F there e stood = rw (there, e, stood) refl

-- an operator and its operand, which may stand before what follows, or not
pub operand_read : (n level : ℕ) (no_struct : Bool) (o : Op) (y : Expr × ℕ) (ts us : Tokens) (F : ExprFacts) → binary ts ≡ Some o
    → expr_at (plain (suc level) no_struct) n (drop (length (op_text o)) ts) ≡ Some (y, us) → about_expr y.0 ≡ F
    → operand_ends level no_struct F us ≡ true → operand (at_level n) level no_struct ts ≡ Some (((o, y.0), y.1), us)
unfolding operand
operand_read n level no_struct o y ts us F which read e ends = rw (which, read, e, ends) refl

pub operand_refused : (n level : ℕ) (no_struct : Bool) (o : Op) (y : Expr × ℕ) (ts us : Tokens) (F : ExprFacts) → binary ts ≡ Some o
    → expr_at (plain (suc level) no_struct) n (drop (length (op_text o)) ts) ≡ Some (y, us) → about_expr y.0 ≡ F
    → operand_ends level no_struct F us ≡ false → operand (at_level n) level no_struct ts ≡ None
unfolding operand
operand_refused n level no_struct o y ts us F which read e ends = rw (which, read, e, ends) refl

-- What was read isn't what was asked for, by what follows it.
pub not_there : (n : ℕ) (place : Place) (ts : Tokens) (h x : Expr × ℕ) (us rest : Tokens) (F : ExprFacts)
    → head_by (at_level n) place.no_struct (expr_lead_at ts) ts ≡ Some (h, us)
    → climb_by (at_level n) place h us ≡ Some (x, rest) → about_expr x.0 ≡ F
    → (stands F place && root_follows F place rest && nat_le x.1 (suc n)) ≡ false → expr_at place (suc n) ts ≡ None
not_there n place ts h x us rest F began climbed e fits = expr_there n place ts ∙ lost_so n place ts h x us rest F began climbed e fits

-- What was read doesn't end the statement that it begins.
pub goes_on : (n : ℕ) (place : Place) (h : Expr × ℕ) (us : Tokens) (F : ExprFacts) → about_expr h.0 ≡ F → is_ended place F us ≡ false
    → climb_by (at_level n) place h us ≡ climb (at_level n) place 14 h us
goes_on n place h us F e more = rw (e, more) refl

-- ---- what is read: operators

read_sum_begun : head_by (at_level 1) false (expr_lead_at (word a ∷ mark (codes "+") ∷ word b ∷ mark (codes "-") ∷ word c ∷ []))
    (word a ∷ mark (codes "+") ∷ word b ∷ mark (codes "-") ∷ word c ∷ [])
    ≡ Some ((name a, 1), mark (codes "+") ∷ word b ∷ mark (codes "-") ∷ word c ∷ [])
unfolding expr_lead_at op_at path_expr simple_path path chain segment args_by repeat repeat_from word_reading
read_sum_begun = refl

read_sum_staged_operand_1 : expr_at (plain 10 false) 1 (word b ∷ mark (codes "-") ∷ word c ∷ [])
    ≡ Some ((name b, 1), mark (codes "-") ∷ word c ∷ [])
unfolding code_in expr_by expr_lead_at binary strength climb op_at path_expr simple_path path chain segment args_by repeat repeat_from word_reading
read_sum_staged_operand_1 = rw (name_is b) refl

read_sum_staged_with_operator_1 : operand (at_level 1) 9 false (mark (codes "+") ∷ word b ∷ mark (codes "-") ∷ word c ∷ [])
    ≡ Some (((op.Add, name b), 1), mark (codes "-") ∷ word c ∷ [])
unfolding binary op_at strength
read_sum_staged_with_operator_1 = operand_read 1 9 false op.Add (name b, 1) (mark (codes "+") ∷ word b ∷ mark (codes "-") ∷ word c ∷
    []) (mark (codes "-") ∷ word c ∷ []) _ refl read_sum_staged_operand_1 (name_is b) refl

read_sum_staged_operand_2 : expr_at (plain 10 false) 1 (word c ∷ []) ≡ Some ((name c, 1), [])
unfolding code_in expr_by expr_lead_at binary strength climb op_at path_expr simple_path path chain segment args_by repeat repeat_from word_reading
read_sum_staged_operand_2 = rw (name_is c) refl

read_sum_staged_with_operator_2 : operand (at_level 1) 9 false (mark (codes "-") ∷ word c ∷ []) ≡ Some (((op.Sub, name c), 1), [])
unfolding binary op_at strength
read_sum_staged_with_operator_2 = operand_read 1 9 false op.Sub (name c, 1) (mark (codes "-") ∷ word c ∷ []) [] _ refl
    read_sum_staged_operand_2 (name_is c) refl

read_sum_staged : stage (at_level 1) 9 false (name a, 1) (mark (codes "+") ∷ word b ∷ mark (codes "-") ∷ word c ∷ [])
    ≡ Some ((expr.Chain (name a) ((op.Add, name b) ∷ (op.Sub, name c) ∷ []), 2), [])
unfolding chain_expr operands repeat repeat_from binary op_at strength
read_sum_staged = rw (read_sum_staged_with_operator_1, read_sum_staged_with_operator_2) refl

read_sum : expr_at FREE 2 (word a ∷ mark (codes "+") ∷ word b ∷ mark (codes "-") ∷ word c ∷ [])
    ≡ Some ((expr.Chain (name a) ((op.Add, name b) ∷ (op.Sub, name c) ∷ []), 2), [])
unfolding binary strength climb op_at
read_sum = reads 1 FREE (word a ∷ mark (codes "+") ∷ word b ∷ mark (codes "-") ∷ word c ∷ []) (name a, 1) (
  expr.Chain (name a)
      ((op.Add, name b) ∷ (op.Sub, name c) ∷ []),
  2,
) (mark (codes "+") ∷ word b ∷ mark (codes "-") ∷ word c ∷ []) [] _ read_sum_begun
    (climbs 1 FREE 9 (name a, 1) (expr.Chain (name a) ((op.Add, name b) ∷ (op.Sub, name c) ∷ []), 2) (mark (codes "+") ∷ word b ∷
    mark (codes "-") ∷ word c ∷ []) [] _ refl (name_is a) refl read_sum_staged) (exprs.expr_chain_is (name a) ((op.Add, name b) ∷
    (op.Sub, name c) ∷ [])) refl

read_product_in_sum_begun : head_by (at_level 2) false (expr_lead_at (word a ∷ mark (codes "+") ∷ word b ∷ mark (codes "*") ∷ word
    c ∷ [])) (word a ∷ mark (codes "+") ∷ word b ∷ mark (codes "*") ∷ word c ∷ [])
    ≡ Some ((name a, 1), mark (codes "+") ∷ word b ∷ mark (codes "*") ∷ word c ∷ [])
unfolding expr_lead_at op_at path_expr simple_path path chain segment args_by repeat repeat_from word_reading
read_product_in_sum_begun = refl

read_product_in_sum_staged_operand_begun : head_by (at_level 1) false (expr_lead_at (word b ∷ mark (codes "*") ∷ word c ∷ []))
    (word b ∷ mark (codes "*") ∷ word c ∷ [])
    ≡ Some ((name b, 1), mark (codes "*") ∷ word c ∷ [])
unfolding expr_lead_at op_at path_expr simple_path path chain segment args_by repeat repeat_from word_reading
read_product_in_sum_staged_operand_begun = refl

read_product_in_sum_staged_operand_staged_operand : expr_at (plain 11 false) 1 (word c ∷ []) ≡ Some ((name c, 1), [])
unfolding code_in expr_by expr_lead_at binary strength climb op_at path_expr simple_path path chain segment args_by repeat repeat_from word_reading
read_product_in_sum_staged_operand_staged_operand = rw (name_is c) refl

read_product_in_sum_staged_operand_staged_with_operator : operand (at_level 1) 10 false (mark (codes "*") ∷ word c ∷ [])
    ≡ Some (((op.Mul, name c), 1), [])
unfolding binary op_at strength
read_product_in_sum_staged_operand_staged_with_operator = operand_read 1 10 false op.Mul (name c, 1) (mark (codes "*") ∷ word c ∷ [])
    [] _ refl read_product_in_sum_staged_operand_staged_operand (name_is c) refl

read_product_in_sum_staged_operand_staged : stage (at_level 1) 10 false (name b, 1) (mark (codes "*") ∷ word c ∷ [])
    ≡ Some ((expr.Chain (name b) ((op.Mul, name c) ∷ []), 2), [])
unfolding chain_expr operands repeat repeat_from binary op_at strength
read_product_in_sum_staged_operand_staged = rw (read_product_in_sum_staged_operand_staged_with_operator) refl

read_product_in_sum_staged_operand : expr_at (plain 10 false) 2 (word b ∷ mark (codes "*") ∷ word c ∷ [])
    ≡ Some ((expr.Chain (name b) ((op.Mul, name c) ∷ []), 2), [])
unfolding binary strength climb op_at
read_product_in_sum_staged_operand = reads 1 (plain 10 false) (word b ∷ mark (codes "*") ∷ word c ∷ []) (name b, 1) (
  expr.Chain (name
      b) ((op.Mul, name c) ∷ []),
  2,
) (mark (codes "*") ∷ word c ∷ []) [] _ read_product_in_sum_staged_operand_begun (climbs 1 (plain 10
    false) 10 (name b, 1) (expr.Chain (name b) ((op.Mul, name c) ∷ []), 2) (mark (codes "*") ∷ word c ∷ []) [] _ refl (name_is b)
    refl read_product_in_sum_staged_operand_staged) (exprs.expr_chain_is (name b) ((op.Mul, name c) ∷ [])) refl

read_product_in_sum_staged_with_operator : operand (at_level 2) 9 false (mark (codes "+") ∷ word b ∷ mark (codes "*") ∷ word c ∷ [])
    ≡ Some (((op.Add, expr.Chain (name b) ((op.Mul, name c) ∷ [])), 2), [])
unfolding binary op_at strength
read_product_in_sum_staged_with_operator = operand_read 2 9 false op.Add (expr.Chain (name b) ((op.Mul, name c) ∷ []), 2) (mark
    (codes "+") ∷ word b ∷ mark (codes "*") ∷ word c ∷ []) [] _ refl read_product_in_sum_staged_operand (exprs.expr_chain_is (name b)
    ((op.Mul, name c) ∷ [])) refl

read_product_in_sum_staged : stage (at_level 2) 9 false (name a, 1) (mark (codes "+") ∷ word b ∷ mark (codes "*") ∷ word c ∷ [])
    ≡ Some ((expr.Chain (name a) ((op.Add, expr.Chain (name b) ((op.Mul, name c) ∷ [])) ∷ []), 3), [])
unfolding chain_expr operands repeat repeat_from binary op_at strength
read_product_in_sum_staged = rw (read_product_in_sum_staged_with_operator) refl

read_product_in_sum : expr_at FREE 3 (word a ∷ mark (codes "+") ∷ word b ∷ mark (codes "*") ∷ word c ∷ [])
    ≡ Some ((expr.Chain (name a) ((op.Add, expr.Chain (name b) ((op.Mul, name c) ∷ [])) ∷ []), 3), [])
unfolding binary strength climb op_at
read_product_in_sum = reads 2 FREE (word a ∷ mark (codes "+") ∷ word b ∷ mark (codes "*") ∷ word c ∷ []) (name a, 1) (
  expr.Chain
      (name a) ((op.Add, expr.Chain (name b) ((op.Mul, name c) ∷ [])) ∷ []),
  3,
) (mark (codes "+") ∷ word b ∷ mark (codes "*") ∷ word c
    ∷ []) [] _ read_product_in_sum_begun (climbs 2 FREE 9 (name a, 1) (
      expr.Chain (name a) ((
        op.Add,
        expr.Chain (name b) ((
          op.Mul,
          name c,
        ) ∷ []),
      ) ∷ []),
      3,
    ) (mark (codes "+") ∷ word b ∷ mark (codes "*") ∷ word c ∷ []) [] _ refl (name_is a) refl
    read_product_in_sum_staged) (exprs.expr_chain_is (name a) ((op.Add, expr.Chain (name b) ((op.Mul, name c) ∷ [])) ∷ [])) refl

read_negative_operand_begun : head_by (at_level 2) false (expr_lead_at (word a ∷ mark (codes "-") ∷ mark (codes "-") ∷ word b ∷
    [])) (word a ∷ mark (codes "-") ∷ mark (codes "-") ∷ word b ∷ [])
    ≡ Some ((name a, 1), mark (codes "-") ∷ mark (codes "-") ∷ word b ∷ [])
unfolding expr_lead_at op_at path_expr simple_path path chain segment args_by repeat repeat_from word_reading
read_negative_operand_begun = refl

read_negative_operand_staged_operand_begun_inside : expr_at (plain 12 false) 1 (word b ∷ []) ≡ Some ((name b, 1), [])
unfolding code_in expr_by expr_lead_at binary strength climb op_at path_expr simple_path path chain segment args_by repeat repeat_from word_reading
read_negative_operand_staged_operand_begun_inside = rw (name_is b) refl

read_negative_operand_staged_operand_begun : head_by (at_level 1) false (expr_lead_at (mark (codes "-") ∷ word b ∷ [])) (mark
    (codes "-") ∷ word b ∷ [])
    ≡ Some ((expr.Unary (before.Neg ∷ []) (name b), 2), [])
unfolding expr_lead_at op_at unary_expr prefix repeat repeat_from
read_negative_operand_staged_operand_begun = rw (read_negative_operand_staged_operand_begun_inside) refl

read_negative_operand_staged_operand : expr_at (plain 10 false) 2 (mark (codes "-") ∷ word b ∷ [])
    ≡ Some ((expr.Unary (before.Neg ∷ []) (name b), 2), [])
unfolding binary strength climb op_at
read_negative_operand_staged_operand = reads 1 (plain 10 false) (mark (codes "-") ∷ word b ∷ []) (
  expr.Unary (before.Neg ∷ []) (name
      b),
  2,
) (expr.Unary (before.Neg ∷ []) (name b), 2) [] [] _ read_negative_operand_staged_operand_begun refl (exprs.expr_unary_is
    (before.Neg ∷ []) (name b)) refl

read_negative_operand_staged_with_operator : operand (at_level 2) 9 false (mark (codes "-") ∷ mark (codes "-") ∷ word b ∷ [])
    ≡ Some (((op.Sub, expr.Unary (before.Neg ∷ []) (name b)), 2), [])
unfolding binary op_at strength
read_negative_operand_staged_with_operator = operand_read 2 9 false op.Sub (expr.Unary (before.Neg ∷ []) (name b), 2) (mark (codes
    "-") ∷ mark (codes "-") ∷ word b ∷ []) [] _ refl read_negative_operand_staged_operand (exprs.expr_unary_is (before.Neg ∷ [])
    (name b)) refl

read_negative_operand_staged : stage (at_level 2) 9 false (name a, 1) (mark (codes "-") ∷ mark (codes "-") ∷ word b ∷ [])
    ≡ Some ((expr.Chain (name a) ((op.Sub, expr.Unary (before.Neg ∷ []) (name b)) ∷ []), 3), [])
unfolding chain_expr operands repeat repeat_from binary op_at strength
read_negative_operand_staged = rw (read_negative_operand_staged_with_operator) refl

read_negative_operand : expr_at FREE 3 (word a ∷ mark (codes "-") ∷ mark (codes "-") ∷ word b ∷ [])
    ≡ Some ((expr.Chain (name a) ((op.Sub, expr.Unary (before.Neg ∷ []) (name b)) ∷ []), 3), [])
unfolding binary strength climb op_at
read_negative_operand = reads 2 FREE (word a ∷ mark (codes "-") ∷ mark (codes "-") ∷ word b ∷ []) (name a, 1) (
  expr.Chain (name a)
      ((op.Sub, expr.Unary (before.Neg ∷ []) (name b)) ∷ []),
  3,
) (mark (codes "-") ∷ mark (codes "-") ∷ word b ∷ []) [] _
    read_negative_operand_begun (climbs 2 FREE 9 (name a, 1) (
      expr.Chain (name a) ((op.Sub, expr.Unary (before.Neg ∷ []) (name b)) ∷
          []),
      3,
    ) (mark (codes "-") ∷ mark (codes "-") ∷ word b ∷ []) [] _ refl (name_is a) refl read_negative_operand_staged)
    (exprs.expr_chain_is (name a) ((op.Sub, expr.Unary (before.Neg ∷ []) (name b)) ∷ [])) refl

read_less_begun : head_by (at_level 1) false (expr_lead_at (word a ∷ mark (codes "<") ∷ word b ∷ [])) (word a ∷ mark (codes "<") ∷
    word b ∷ [])
    ≡ Some ((name a, 1), mark (codes "<") ∷ word b ∷ [])
unfolding expr_lead_at op_at path_expr simple_path path chain segment args_by repeat repeat_from word_reading
read_less_begun = refl

read_less_staged_operand : expr_at (plain 5 false) 1 (word b ∷ []) ≡ Some ((name b, 1), [])
unfolding code_in expr_by expr_lead_at binary strength climb op_at path_expr simple_path path chain segment args_by repeat repeat_from word_reading
read_less_staged_operand = rw (name_is b) refl

read_less_staged_with_operator : operand (at_level 1) 4 false (mark (codes "<") ∷ word b ∷ []) ≡ Some (((op.Less, name b), 1), [])
unfolding binary op_at strength
read_less_staged_with_operator = operand_read 1 4 false op.Less (name b, 1) (mark (codes "<") ∷ word b ∷ []) [] _ refl
    read_less_staged_operand (name_is b) refl

read_less_staged : stage (at_level 1) 4 false (name a, 1) (mark (codes "<") ∷ word b ∷ [])
    ≡ Some ((expr.Chain (name a) ((op.Less, name b) ∷ []), 2), [])
unfolding chain_expr operands repeat repeat_from binary op_at strength
read_less_staged = rw (read_less_staged_with_operator) refl

read_less : expr_at FREE 2 (word a ∷ mark (codes "<") ∷ word b ∷ []) ≡ Some ((expr.Chain (name a) ((op.Less, name b) ∷ []), 2), [])
unfolding binary strength climb op_at
read_less = reads 1 FREE (word a ∷ mark (codes "<") ∷ word b ∷ []) (name a, 1) (expr.Chain (name a) ((op.Less, name b) ∷ []), 2)
    (mark (codes "<") ∷ word b ∷ []) [] _ read_less_begun (climbs 1 FREE 4 (name a, 1) (
      expr.Chain (name a) ((op.Less, name b) ∷ []),
      2,
    ) (mark (codes "<") ∷ word b ∷ []) [] _ refl (name_is a) refl read_less_staged) (exprs.expr_chain_is (name a) ((op.Less, name b)
    ∷ [])) refl

read_and_begun : head_by (at_level 1) false (expr_lead_at (word a ∷ joint (codes "&") ∷ mark (codes "&") ∷ word b ∷ [])) (word a ∷
    joint (codes "&") ∷ mark (codes "&") ∷ word b ∷ [])
    ≡ Some ((name a, 1), joint (codes "&") ∷ mark (codes "&") ∷ word b ∷ [])
unfolding expr_lead_at op_at path_expr simple_path path chain segment args_by repeat repeat_from word_reading
read_and_begun = refl

read_and_staged_operand : expr_at (plain 4 false) 1 (word b ∷ []) ≡ Some ((name b, 1), [])
unfolding code_in expr_by expr_lead_at binary strength climb op_at path_expr simple_path path chain segment args_by repeat repeat_from word_reading
read_and_staged_operand = rw (name_is b) refl

read_and_staged_with_operator : operand (at_level 1) 3 false (joint (codes "&") ∷ mark (codes "&") ∷ word b ∷ [])
    ≡ Some (((op.AndAnd, name b), 1), [])
unfolding binary op_at strength
read_and_staged_with_operator = operand_read 1 3 false op.AndAnd (name b, 1) (joint (codes "&") ∷ mark (codes "&") ∷ word b ∷ []) []
    _ refl read_and_staged_operand (name_is b) refl

read_and_staged : stage (at_level 1) 3 false (name a, 1) (joint (codes "&") ∷ mark (codes "&") ∷ word b ∷ [])
    ≡ Some ((expr.Chain (name a) ((op.AndAnd, name b) ∷ []), 2), [])
unfolding chain_expr operands repeat repeat_from binary op_at strength
read_and_staged = rw (read_and_staged_with_operator) refl

read_and : expr_at FREE 2 (word a ∷ joint (codes "&") ∷ mark (codes "&") ∷ word b ∷ [])
    ≡ Some ((expr.Chain (name a) ((op.AndAnd, name b) ∷ []), 2), [])
unfolding binary strength climb op_at
read_and = reads 1 FREE (word a ∷ joint (codes "&") ∷ mark (codes "&") ∷ word b ∷ []) (name a, 1) (
  expr.Chain (name a) ((
    op.AndAnd,
    name b,
  ) ∷ []),
  2,
) (joint (codes "&") ∷ mark (codes "&") ∷ word b ∷ []) [] _ read_and_begun (climbs 1 FREE 3 (name a, 1)
    (expr.Chain (name a) ((op.AndAnd, name b) ∷ []), 2) (joint (codes "&") ∷ mark (codes "&") ∷ word b ∷ []) [] _ refl (name_is a)
    refl read_and_staged) (exprs.expr_chain_is (name a) ((op.AndAnd, name b) ∷ [])) refl

read_assignments_begun : head_by (at_level 1) false (expr_lead_at (word a ∷ mark (codes "=") ∷ word b ∷ mark (codes "=") ∷ word c ∷
    [])) (word a ∷ mark (codes "=") ∷ word b ∷ mark (codes "=") ∷ word c ∷ [])
    ≡ Some ((name a, 1), mark (codes "=") ∷ word b ∷ mark (codes "=") ∷ word c ∷ [])
unfolding expr_lead_at op_at path_expr simple_path path chain segment args_by repeat repeat_from word_reading
read_assignments_begun = refl

read_assignments_staged_operand_1 : expr_at (plain 1 false) 1 (word b ∷ mark (codes "=") ∷ word c ∷ [])
    ≡ Some ((name b, 1), mark (codes "=") ∷ word c ∷ [])
unfolding code_in expr_by expr_lead_at binary strength climb op_at path_expr simple_path path chain segment args_by repeat repeat_from word_reading
read_assignments_staged_operand_1 = rw (name_is b) refl

read_assignments_staged_with_operator_1 : operand (at_level 1) 0 false (mark (codes "=") ∷ word b ∷ mark (codes "=") ∷ word c ∷ [])
    ≡ Some (((op.Set, name b), 1), mark (codes "=") ∷ word c ∷ [])
unfolding binary op_at strength
read_assignments_staged_with_operator_1 = operand_read 1 0 false op.Set (name b, 1) (mark (codes "=") ∷ word b ∷ mark (codes "=") ∷
    word c ∷ []) (mark (codes "=") ∷ word c ∷ []) _ refl read_assignments_staged_operand_1 (name_is b) refl

read_assignments_staged_operand_2 : expr_at (plain 1 false) 1 (word c ∷ []) ≡ Some ((name c, 1), [])
unfolding code_in expr_by expr_lead_at binary strength climb op_at path_expr simple_path path chain segment args_by repeat repeat_from word_reading
read_assignments_staged_operand_2 = rw (name_is c) refl

read_assignments_staged_with_operator_2 : operand (at_level 1) 0 false (mark (codes "=") ∷ word c ∷ [])
    ≡ Some (((op.Set, name c), 1), [])
unfolding binary op_at strength
read_assignments_staged_with_operator_2 = operand_read 1 0 false op.Set (name c, 1) (mark (codes "=") ∷ word c ∷ []) [] _ refl
    read_assignments_staged_operand_2 (name_is c) refl

read_assignments_staged : stage (at_level 1) 0 false (name a, 1) (mark (codes "=") ∷ word b ∷ mark (codes "=") ∷ word c ∷ [])
    ≡ Some ((expr.Assign ((name a, op.Set) ∷ (name b, op.Set) ∷ []) (name c), 2), [])
unfolding assign_expr operands repeat repeat_from binary op_at strength
read_assignments_staged = rw (read_assignments_staged_with_operator_1, read_assignments_staged_with_operator_2) refl

read_assignments : expr_at FREE 2 (word a ∷ mark (codes "=") ∷ word b ∷ mark (codes "=") ∷ word c ∷ [])
    ≡ Some ((expr.Assign ((name a, op.Set) ∷ (name b, op.Set) ∷ []) (name c), 2), [])
unfolding binary strength climb op_at
read_assignments = reads 1 FREE (word a ∷ mark (codes "=") ∷ word b ∷ mark (codes "=") ∷ word c ∷ []) (name a, 1) (
  expr.Assign ((
    name
        a,
    op.Set,
  ) ∷ (name b, op.Set) ∷ []) (name c),
  2,
) (mark (codes "=") ∷ word b ∷ mark (codes "=") ∷ word c ∷ []) [] _
    read_assignments_begun (climbs 1 FREE 0 (name a, 1) (expr.Assign ((name a, op.Set) ∷ (name b, op.Set) ∷ []) (name c), 2) (mark
    (codes "=") ∷ word b ∷ mark (codes "=") ∷ word c ∷ []) [] _ refl (name_is a) refl read_assignments_staged) (exprs.expr_assign_is
    ((name a, op.Set) ∷ (name b, op.Set) ∷ []) (name c)) refl

-- ---- what is read: casts

read_casts_begun : head_by (at_level 1) false (expr_lead_at (word a ∷ word (codes "as") ∷ word (codes "u8") ∷ word (codes "as") ∷
    word (codes "u8") ∷ [])) (word a ∷ word (codes "as") ∷ word (codes "u8") ∷ word (codes "as") ∷ word (codes "u8") ∷ [])
    ≡ Some ((name a, 1), word (codes "as") ∷ word (codes "u8") ∷ word (codes "as") ∷ word (codes "u8") ∷ [])
unfolding expr_lead_at op_at path_expr simple_path path chain segment args_by repeat repeat_from word_reading
read_casts_begun = refl

read_casts_staged : stage (at_level 1) 11 false (name a, 1) (word (codes "as") ∷ word (codes "u8") ∷ word (codes "as") ∷ word
    (codes "u8") ∷ [])
    ≡ Some ((expr.Cast (name a) (named_type (codes "u8") ∷ named_type (codes "u8") ∷ []), 2), [])
unfolding cast_expr one_type repeat repeat_from within lead_at path_type simple_path path chain segment args_by word_reading op_at
read_casts_staged = refl

read_casts : expr_at FREE 2 (word a ∷ word (codes "as") ∷ word (codes "u8") ∷ word (codes "as") ∷ word (codes "u8") ∷ [])
    ≡ Some ((expr.Cast (name a) (named_type (codes "u8") ∷ named_type (codes "u8") ∷ []), 2), [])
unfolding binary strength climb op_at
read_casts = reads 1 FREE (word a ∷ word (codes "as") ∷ word (codes "u8") ∷ word (codes "as") ∷ word (codes "u8") ∷ []) (name a, 1)
    (expr.Cast (name a) (named_type (codes "u8") ∷ named_type (codes "u8") ∷ []), 2) (word (codes "as") ∷ word (codes "u8") ∷ word
    (codes "as") ∷ word (codes "u8") ∷ []) [] _ read_casts_begun (climbs 1 FREE 11 (name a, 1) (
      expr.Cast (name a) (named_type (codes
          "u8") ∷ named_type (codes "u8") ∷ []),
      2,
    ) (word (codes "as") ∷ word (codes "u8") ∷ word (codes "as") ∷ word (codes "u8") ∷ []) []
    _ refl (name_is a) refl read_casts_staged) (exprs.expr_cast_is (name a) (named_type (codes "u8") ∷ named_type (codes "u8") ∷ [])) refl

read_cast_before_plus_begun : head_by (at_level 2) false (expr_lead_at (word a ∷ word (codes "as") ∷ word (codes "u8") ∷ mark
    (codes "+") ∷ word b ∷ [])) (word a ∷ word (codes "as") ∷ word (codes "u8") ∷ mark (codes "+") ∷ word b ∷ [])
    ≡ Some ((name a, 1), word (codes "as") ∷ word (codes "u8") ∷ mark (codes "+") ∷ word b ∷ [])
unfolding expr_lead_at op_at path_expr simple_path path chain segment args_by repeat repeat_from word_reading
read_cast_before_plus_begun = refl

read_cast_before_plus_staged_1 : stage (at_level 2) 11 false (name a, 1) (word (codes "as") ∷ word (codes "u8") ∷ mark (codes "+")
    ∷ word b ∷ [])
    ≡ Some ((expr.Cast (name a) (named_type (codes "u8") ∷ []), 2), mark (codes "+") ∷ word b ∷ [])
unfolding cast_expr one_type repeat repeat_from within lead_at path_type simple_path path chain segment args_by word_reading op_at
read_cast_before_plus_staged_1 = refl

read_cast_before_plus_staged_2_operand : expr_at (plain 10 false) 2 (word b ∷ []) ≡ Some ((name b, 1), [])
unfolding code_in expr_by expr_lead_at binary strength climb op_at path_expr simple_path path chain segment args_by repeat repeat_from word_reading
read_cast_before_plus_staged_2_operand = rw (name_is b) refl

read_cast_before_plus_staged_2_with_operator : operand (at_level 2) 9 false (mark (codes "+") ∷ word b ∷ [])
    ≡ Some (((op.Add, name b), 1), [])
unfolding binary op_at strength
read_cast_before_plus_staged_2_with_operator = operand_read 2 9 false op.Add (name b, 1) (mark (codes "+") ∷ word b ∷ []) [] _ refl
    read_cast_before_plus_staged_2_operand (name_is b) refl

read_cast_before_plus_staged_2 : stage (at_level 2) 9 false (expr.Cast (name a) (named_type (codes "u8") ∷ []), 2) (mark (codes
    "+") ∷ word b ∷ [])
    ≡ Some ((expr.Chain (expr.Cast (name a) (named_type (codes "u8") ∷ [])) ((op.Add, name b) ∷ []), 3), [])
unfolding chain_expr operands repeat repeat_from binary op_at strength
read_cast_before_plus_staged_2 = rw (read_cast_before_plus_staged_2_with_operator) refl

read_cast_before_plus : expr_at FREE 3 (word a ∷ word (codes "as") ∷ word (codes "u8") ∷ mark (codes "+") ∷ word b ∷ [])
    ≡ Some ((expr.Chain (expr.Cast (name a) (named_type (codes "u8") ∷ [])) ((op.Add, name b) ∷ []), 3), [])
unfolding binary strength climb op_at
read_cast_before_plus = reads 2 FREE (word a ∷ word (codes "as") ∷ word (codes "u8") ∷ mark (codes "+") ∷ word b ∷ []) (name a, 1)
    (expr.Chain (expr.Cast (name a) (named_type (codes "u8") ∷ [])) ((op.Add, name b) ∷ []), 3) (word (codes "as") ∷ word (codes
    "u8") ∷ mark (codes "+") ∷ word b ∷ []) [] _ read_cast_before_plus_begun (climbs 2 FREE 11 (name a, 1) (
      expr.Cast (name a)
          (named_type (codes "u8") ∷ []),
      2,
    ) (word (codes "as") ∷ word (codes "u8") ∷ mark (codes "+") ∷ word b ∷ []) (mark (codes "+") ∷
    word b ∷ []) _ refl (name_is a) refl read_cast_before_plus_staged_1 ∙ climbs 2 FREE 9 (
      expr.Cast (name a) (named_type (codes
          "u8") ∷ []),
      2,
    ) (expr.Chain (expr.Cast (name a) (named_type (codes "u8") ∷ [])) ((op.Add, name b) ∷ []), 3) (mark (codes "+") ∷
    word b ∷ []) [] _ refl (exprs.expr_cast_is (name a) (named_type (codes "u8") ∷ [])) refl read_cast_before_plus_staged_2)
    (exprs.expr_chain_is (expr.Cast (name a) (named_type (codes "u8") ∷ [])) ((op.Add, name b) ∷ [])) refl

read_paren_before_less_begun_inside_begun : head_by (at_level 2) false (expr_lead_at (word a ∷ word (codes "as") ∷ word (codes
    "u8") ∷ closes Paren ∷ mark (codes "<") ∷ word b ∷ [])) (word a ∷ word (codes "as") ∷ word (codes "u8") ∷ closes Paren ∷ mark
    (codes "<") ∷ word b ∷ [])
    ≡ Some ((name a, 1), word (codes "as") ∷ word (codes "u8") ∷ closes Paren ∷ mark (codes "<") ∷ word b ∷ [])
unfolding expr_lead_at op_at path_expr simple_path path chain segment args_by repeat repeat_from word_reading
read_paren_before_less_begun_inside_begun = refl

read_paren_before_less_begun_inside_staged : stage (at_level 2) 11 false (name a, 1) (word (codes "as") ∷ word (codes "u8") ∷
    closes Paren ∷ mark (codes "<") ∷ word b ∷ [])
    ≡ Some ((expr.Cast (name a) (named_type (codes "u8") ∷ []), 2), closes Paren ∷ mark (codes "<") ∷ word b ∷ [])
unfolding cast_expr one_type repeat repeat_from within lead_at path_type simple_path path chain segment args_by word_reading op_at
read_paren_before_less_begun_inside_staged = refl

read_paren_before_less_begun_inside : expr_at FREE 3 (word a ∷ word (codes "as") ∷ word (codes "u8") ∷ closes Paren ∷ mark (codes
    "<") ∷ word b ∷ [])
    ≡ Some ((expr.Cast (name a) (named_type (codes "u8") ∷ []), 2), closes Paren ∷ mark (codes "<") ∷ word b ∷ [])
unfolding binary strength climb op_at
read_paren_before_less_begun_inside = reads 2 FREE (word a ∷ word (codes "as") ∷ word (codes "u8") ∷ closes Paren ∷ mark (codes "<")
    ∷ word b ∷ []) (name a, 1) (expr.Cast (name a) (named_type (codes "u8") ∷ []), 2) (word (codes "as") ∷ word (codes "u8") ∷ closes
    Paren ∷ mark (codes "<") ∷ word b ∷ []) (closes Paren ∷ mark (codes "<") ∷ word b ∷ []) _
    read_paren_before_less_begun_inside_begun (climbs 2 FREE 11 (name a, 1) (expr.Cast (name a) (named_type (codes "u8") ∷ []), 2)
    (word (codes "as") ∷ word (codes "u8") ∷ closes Paren ∷ mark (codes "<") ∷ word b ∷ []) (closes Paren ∷ mark (codes "<") ∷ word b
    ∷ []) _ refl (name_is a) refl read_paren_before_less_begun_inside_staged) (exprs.expr_cast_is (name a) (named_type (codes "u8") ∷
    [])) refl

read_paren_before_less_begun : head_by (at_level 3) false (expr_lead_at (opens Paren ∷ word a ∷ word (codes "as") ∷ word (codes
    "u8") ∷ closes Paren ∷ mark (codes "<") ∷ word b ∷ [])) (opens Paren ∷ word a ∷ word (codes "as") ∷ word (codes "u8") ∷ closes
    Paren ∷ mark (codes "<") ∷ word b ∷ [])
    ≡ Some ((expr.Paren (expr.Cast (name a) (named_type (codes "u8") ∷ [])), 3), mark (codes "<") ∷ word b ∷ [])
unfolding expr_lead_at op_at paren_expr
read_paren_before_less_begun = rw (read_paren_before_less_begun_inside) refl

read_paren_before_less_staged_operand : expr_at (plain 5 false) 3 (word b ∷ []) ≡ Some ((name b, 1), [])
unfolding code_in expr_by expr_lead_at binary strength climb op_at path_expr simple_path path chain segment args_by repeat repeat_from word_reading
read_paren_before_less_staged_operand = rw (name_is b) refl

read_paren_before_less_staged_with_operator : operand (at_level 3) 4 false (mark (codes "<") ∷ word b ∷ [])
    ≡ Some (((op.Less, name b), 1), [])
unfolding binary op_at strength
read_paren_before_less_staged_with_operator = operand_read 3 4 false op.Less (name b, 1) (mark (codes "<") ∷ word b ∷ []) [] _ refl
    read_paren_before_less_staged_operand (name_is b) refl

read_paren_before_less_staged : stage (at_level 3) 4 false (expr.Paren (expr.Cast (name a) (named_type (codes "u8") ∷ [])), 3)
    (mark (codes "<") ∷ word b ∷ [])
    ≡ Some ((expr.Chain (expr.Paren (expr.Cast (name a) (named_type (codes "u8") ∷ []))) ((op.Less, name b) ∷ []), 4), [])
unfolding chain_expr operands repeat repeat_from binary op_at strength
read_paren_before_less_staged = rw (read_paren_before_less_staged_with_operator) refl

read_paren_before_less : expr_at FREE 4 (opens Paren ∷ word a ∷ word (codes "as") ∷ word (codes "u8") ∷ closes Paren ∷ mark (codes
    "<") ∷ word b ∷ [])
    ≡ Some ((expr.Chain (expr.Paren (expr.Cast (name a) (named_type (codes "u8") ∷ []))) ((op.Less, name b) ∷ []), 4), [])
unfolding binary strength climb op_at
read_paren_before_less = reads 3 FREE (opens Paren ∷ word a ∷ word (codes "as") ∷ word (codes "u8") ∷ closes Paren ∷ mark (codes "<")
    ∷ word b ∷ []) (expr.Paren (expr.Cast (name a) (named_type (codes "u8") ∷ [])), 3) (
      expr.Chain (expr.Paren (expr.Cast (name a)
          (named_type (codes "u8") ∷ []))) ((op.Less, name b) ∷ []),
      4,
    ) (mark (codes "<") ∷ word b ∷ []) [] _ read_paren_before_less_begun
    (climbs 3 FREE 4 (expr.Paren (expr.Cast (name a) (named_type (codes "u8") ∷ [])), 3) (
      expr.Chain (expr.Paren (expr.Cast (name a)
          (named_type (codes "u8") ∷ []))) ((op.Less, name b) ∷ []),
      4,
    ) (mark (codes "<") ∷ word b ∷ []) [] _ refl (exprs.expr_paren_is
    (expr.Cast (name a) (named_type (codes "u8") ∷ []))) refl read_paren_before_less_staged) (exprs.expr_chain_is (expr.Paren
    (expr.Cast (name a) (named_type (codes "u8") ∷ []))) ((op.Less, name b) ∷ [])) refl

read_array_before_less_begun : head_by (at_level 3) false (expr_lead_at (word a ∷ word (codes "as") ∷ opens Bracket ∷ word (codes
    "u8") ∷ mark (codes ";") ∷ digits (codes "1") ∷ closes Bracket ∷ mark (codes "<") ∷ word b ∷ [])) (word a ∷ word (codes "as") ∷
    opens Bracket ∷ word (codes "u8") ∷ mark (codes ";") ∷ digits (codes "1") ∷ closes Bracket ∷ mark (codes "<") ∷ word b ∷ [])
    ≡ Some ((name a, 1), word (codes "as") ∷ opens Bracket ∷ word (codes "u8") ∷ mark (codes ";") ∷ digits (codes "1") ∷ closes Bracket ∷ mark (codes "<") ∷ word b ∷ [])
unfolding expr_lead_at op_at path_expr simple_path path chain segment args_by repeat repeat_from word_reading
read_array_before_less_begun = refl

read_array_before_less_staged_1 : stage (at_level 3) 11 false (name a, 1) (word (codes "as") ∷ opens Bracket ∷ word (codes "u8") ∷
    mark (codes ";") ∷ digits (codes "1") ∷ closes Bracket ∷ mark (codes "<") ∷ word b ∷ [])
    ≡ Some ((expr.Cast (name a) (ty.Array (named_type (codes "u8")) (list.number (codes "1") ∷ []) ∷ []), 3), mark (codes "<") ∷ word b ∷ [])
unfolding cast_expr one_type repeat repeat_from within lead_at path_type simple_path path chain segment args_by word_reading op_at bracket_type tokens_of run
read_array_before_less_staged_1 = refl

read_array_before_less_staged_2_operand : expr_at (plain 5 false) 3 (word b ∷ []) ≡ Some ((name b, 1), [])
unfolding code_in expr_by expr_lead_at binary strength climb op_at path_expr simple_path path chain segment args_by repeat repeat_from word_reading
read_array_before_less_staged_2_operand = rw (name_is b) refl

read_array_before_less_staged_2_with_operator : operand (at_level 3) 4 false (mark (codes "<") ∷ word b ∷ [])
    ≡ Some (((op.Less, name b), 1), [])
unfolding binary op_at strength
read_array_before_less_staged_2_with_operator = operand_read 3 4 false op.Less (name b, 1) (mark (codes "<") ∷ word b ∷ []) [] _ refl
    read_array_before_less_staged_2_operand (name_is b) refl

read_array_before_less_staged_2 : stage (at_level 3) 4 false (
  expr.Cast (name a) (ty.Array (named_type (codes "u8")) (list.number
      (codes "1") ∷ []) ∷ []),
  3,
) (mark (codes "<") ∷ word b ∷ [])
    ≡ Some ((expr.Chain (expr.Cast (name a) (ty.Array (named_type (codes "u8")) (list.number (codes "1") ∷ []) ∷ [])) ((op.Less, name b) ∷ []), 4), [])
unfolding chain_expr operands repeat repeat_from binary op_at strength
read_array_before_less_staged_2 = rw (read_array_before_less_staged_2_with_operator) refl

read_array_before_less : expr_at FREE 4 (word a ∷ word (codes "as") ∷ opens Bracket ∷ word (codes "u8") ∷ mark (codes ";") ∷ digits
    (codes "1") ∷ closes Bracket ∷ mark (codes "<") ∷ word b ∷ [])
    ≡ Some ((expr.Chain (expr.Cast (name a) (ty.Array (named_type (codes "u8")) (list.number (codes "1") ∷ []) ∷ [])) ((op.Less, name b) ∷ []), 4), [])
unfolding binary strength climb op_at
read_array_before_less = reads 3 FREE (word a ∷ word (codes "as") ∷ opens Bracket ∷ word (codes "u8") ∷ mark (codes ";") ∷ digits
    (codes "1") ∷ closes Bracket ∷ mark (codes "<") ∷ word b ∷ []) (name a, 1) (
      expr.Chain (expr.Cast (name a) (ty.Array (named_type
          (codes "u8")) (list.number (codes "1") ∷ []) ∷ [])) ((op.Less, name b) ∷ []),
      4,
    ) (word (codes "as") ∷ opens Bracket ∷ word (codes
    "u8") ∷ mark (codes ";") ∷ digits (codes "1") ∷ closes Bracket ∷ mark (codes "<") ∷ word b ∷ []) [] _
    read_array_before_less_begun (climbs 3 FREE 11 (name a, 1) (
      expr.Cast (name a) (ty.Array (named_type (codes "u8")) (list.number
          (codes "1") ∷ []) ∷ []),
      3,
    ) (word (codes "as") ∷ opens Bracket ∷ word (codes "u8") ∷ mark (codes ";") ∷ digits (codes "1") ∷
    closes Bracket ∷ mark (codes "<") ∷ word b ∷ []) (mark (codes "<") ∷ word b ∷ []) _ refl (name_is a) refl
    read_array_before_less_staged_1 ∙ climbs 3 FREE 4 (
      expr.Cast (name a) (ty.Array (named_type (codes "u8")) (list.number (codes
          "1") ∷ []) ∷ []),
      3,
    ) (
      expr.Chain (expr.Cast (name a) (ty.Array (named_type (codes "u8")) (list.number (codes "1") ∷ []) ∷ []))
          ((op.Less, name b) ∷ []),
      4,
    ) (mark (codes "<") ∷ word b ∷ []) [] _ refl (exprs.expr_cast_is (name a) (ty.Array (named_type (codes
    "u8")) (list.number (codes "1") ∷ []) ∷ [])) (rw (types.type_array_is (named_type (codes "u8")) (list.number (codes "1") ∷ []))
    refl) read_array_before_less_staged_2) (exprs.expr_chain_is (expr.Cast (name a) (ty.Array (named_type (codes "u8")) (list.number
    (codes "1") ∷ []) ∷ [])) ((op.Less, name b) ∷ [])) refl

not_less_twice_begun : head_by (at_level 3) false (expr_lead_at (word a ∷ mark (codes "<") ∷ word b ∷ mark (codes "<") ∷ word c ∷
    [])) (word a ∷ mark (codes "<") ∷ word b ∷ mark (codes "<") ∷ word c ∷ [])
    ≡ Some ((name a, 1), mark (codes "<") ∷ word b ∷ mark (codes "<") ∷ word c ∷ [])
unfolding expr_lead_at op_at path_expr simple_path path chain segment args_by repeat repeat_from word_reading
not_less_twice_begun = refl

not_less_twice_operand : expr_at (plain 5 false) 3 (word b ∷ mark (codes "<") ∷ word c ∷ [])
    ≡ Some ((name b, 1), mark (codes "<") ∷ word c ∷ [])
unfolding code_in expr_by expr_lead_at binary strength climb op_at path_expr simple_path path chain segment args_by repeat repeat_from word_reading
not_less_twice_operand = rw (name_is b) refl

not_less_twice_with_operator : operand (at_level 3) 4 false (mark (codes "<") ∷ word b ∷ mark (codes "<") ∷ word c ∷ []) ≡ None
unfolding binary op_at strength
not_less_twice_with_operator = operand_refused 3 4 false op.Less (name b, 1) (mark (codes "<") ∷ word b ∷ mark (codes "<") ∷ word c ∷
    []) (mark (codes "<") ∷ word c ∷ []) _ refl not_less_twice_operand (name_is b) refl

not_less_twice_fallen : stage (at_level 3) 4 false (name a, 1) (mark (codes "<") ∷ word b ∷ mark (codes "<") ∷ word c ∷ []) ≡ None
unfolding chain_expr operands repeat repeat_from binary op_at strength
not_less_twice_fallen = rw (not_less_twice_with_operator) refl

-- Comparisons don't follow each other.
not_less_twice : expr_at FREE 4 (word a ∷ mark (codes "<") ∷ word b ∷ mark (codes "<") ∷ word c ∷ []) ≡ None
unfolding binary strength climb op_at
not_less_twice = refuses 3 FREE (word a ∷ mark (codes "<") ∷ word b ∷ mark (codes "<") ∷ word c ∷ []) (name a, 1) (mark (codes "<") ∷
    word b ∷ mark (codes "<") ∷ word c ∷ []) not_less_twice_begun (falls 3 FREE 4 (name a, 1) (mark (codes "<") ∷ word b ∷ mark
    (codes "<") ∷ word c ∷ []) _ refl (name_is a) refl not_less_twice_fallen)

not_cast_before_less_begun : head_by (at_level 3) false (expr_lead_at (word a ∷ word (codes "as") ∷ word (codes "u8") ∷ mark (codes
    "<") ∷ word b ∷ [])) (word a ∷ word (codes "as") ∷ word (codes "u8") ∷ mark (codes "<") ∷ word b ∷ [])
    ≡ Some ((name a, 1), word (codes "as") ∷ word (codes "u8") ∷ mark (codes "<") ∷ word b ∷ [])
unfolding expr_lead_at op_at path_expr simple_path path chain segment args_by repeat repeat_from word_reading
not_cast_before_less_begun = refl

not_cast_before_less_fallen : stage (at_level 3) 11 false (name a, 1) (word (codes "as") ∷ word (codes "u8") ∷ mark (codes "<") ∷
    word b ∷ [])
    ≡ None
unfolding cast_expr one_type repeat repeat_from within lead_at path_type simple_path path chain segment args_by word_reading op_at angle elements elements_from one_arg
not_cast_before_less_fallen = refl

-- After a type that is open at its end a `<` opens generic arguments,
not_cast_before_less : expr_at FREE 4 (word a ∷ word (codes "as") ∷ word (codes "u8") ∷ mark (codes "<") ∷ word b ∷ []) ≡ None
unfolding binary strength climb op_at
not_cast_before_less = refuses 3 FREE (word a ∷ word (codes "as") ∷ word (codes "u8") ∷ mark (codes "<") ∷ word b ∷ []) (name a, 1)
    (word (codes "as") ∷ word (codes "u8") ∷ mark (codes "<") ∷ word b ∷ []) not_cast_before_less_begun (falls 3 FREE 11 (name a, 1)
    (word (codes "as") ∷ word (codes "u8") ∷ mark (codes "<") ∷ word b ∷ []) _ refl (name_is a) refl not_cast_before_less_fallen)

not_cast_before_shift_begun : head_by (at_level 3) false (expr_lead_at (word a ∷ word (codes "as") ∷ word (codes "usize") ∷ joint
    (codes "<") ∷ mark (codes "<") ∷ word b ∷ [])) (word a ∷ word (codes "as") ∷ word (codes "usize") ∷ joint (codes "<") ∷ mark
    (codes "<") ∷ word b ∷ [])
    ≡ Some ((name a, 1), word (codes "as") ∷ word (codes "usize") ∷ joint (codes "<") ∷ mark (codes "<") ∷ word b ∷ [])
unfolding expr_lead_at op_at path_expr simple_path path chain segment args_by repeat repeat_from word_reading
not_cast_before_shift_begun = refl

not_cast_before_shift_fallen : stage (at_level 3) 11 false (name a, 1) (word (codes "as") ∷ word (codes "usize") ∷ joint (codes
    "<") ∷ mark (codes "<") ∷ word b ∷ [])
    ≡ None
unfolding cast_expr one_type repeat repeat_from within lead_at path_type simple_path path chain segment args_by word_reading op_at angle elements elements_from one_arg qualified
not_cast_before_shift_fallen = refl

-- and so does a `<<`.
not_cast_before_shift : expr_at FREE 4 (word a ∷ word (codes "as") ∷ word (codes "usize") ∷ joint (codes "<") ∷ mark (codes "<") ∷
    word b ∷ [])
    ≡ None
unfolding binary strength climb op_at
not_cast_before_shift = refuses 3 FREE (word a ∷ word (codes "as") ∷ word (codes "usize") ∷ joint (codes "<") ∷ mark (codes "<") ∷
    word b ∷ []) (name a, 1) (word (codes "as") ∷ word (codes "usize") ∷ joint (codes "<") ∷ mark (codes "<") ∷ word b ∷ [])
    not_cast_before_shift_begun (falls 3 FREE 11 (name a, 1) (word (codes "as") ∷ word (codes "usize") ∷ joint (codes "<") ∷ mark
    (codes "<") ∷ word b ∷ []) _ refl (name_is a) refl not_cast_before_shift_fallen)

-- ---- what is read: jumps

read_return_of_sum_begun_inside_begun : head_by (at_level 1) false (expr_lead_at (word a ∷ mark (codes "+") ∷ word b ∷ [])) (word a
    ∷ mark (codes "+") ∷ word b ∷ [])
    ≡ Some ((name a, 1), mark (codes "+") ∷ word b ∷ [])
unfolding expr_lead_at op_at path_expr simple_path path chain segment args_by repeat repeat_from word_reading
read_return_of_sum_begun_inside_begun = refl

read_return_of_sum_begun_inside_staged_operand : expr_at (plain 10 false) 1 (word b ∷ []) ≡ Some ((name b, 1), [])
unfolding code_in expr_by expr_lead_at binary strength climb op_at path_expr simple_path path chain segment args_by repeat repeat_from word_reading
read_return_of_sum_begun_inside_staged_operand = rw (name_is b) refl

read_return_of_sum_begun_inside_staged_with_operator : operand (at_level 1) 9 false (mark (codes "+") ∷ word b ∷ [])
    ≡ Some (((op.Add, name b), 1), [])
unfolding binary op_at strength
read_return_of_sum_begun_inside_staged_with_operator = operand_read 1 9 false op.Add (name b, 1) (mark (codes "+") ∷ word b ∷ []) []
    _ refl read_return_of_sum_begun_inside_staged_operand (name_is b) refl

read_return_of_sum_begun_inside_staged : stage (at_level 1) 9 false (name a, 1) (mark (codes "+") ∷ word b ∷ [])
    ≡ Some ((expr.Chain (name a) ((op.Add, name b) ∷ []), 2), [])
unfolding chain_expr operands repeat repeat_from binary op_at strength
read_return_of_sum_begun_inside_staged = rw (read_return_of_sum_begun_inside_staged_with_operator) refl

read_return_of_sum_begun_inside : expr_at (plain 0 false) 2 (word a ∷ mark (codes "+") ∷ word b ∷ [])
    ≡ Some ((expr.Chain (name a) ((op.Add, name b) ∷ []), 2), [])
unfolding binary strength climb op_at
read_return_of_sum_begun_inside = reads 1 (plain 0 false) (word a ∷ mark (codes "+") ∷ word b ∷ []) (name a, 1) (
  expr.Chain (name a)
      ((op.Add, name b) ∷ []),
  2,
) (mark (codes "+") ∷ word b ∷ []) [] _ read_return_of_sum_begun_inside_begun (climbs 1 (plain 0 false)
    9 (name a, 1) (expr.Chain (name a) ((op.Add, name b) ∷ []), 2) (mark (codes "+") ∷ word b ∷ []) [] _ refl (name_is a) refl
    read_return_of_sum_begun_inside_staged) (exprs.expr_chain_is (name a) ((op.Add, name b) ∷ [])) refl

read_return_of_sum_begun : head_by (at_level 2) false (expr_lead_at (word (codes "return") ∷ word a ∷ mark (codes "+") ∷ word b ∷
    [])) (word (codes "return") ∷ word a ∷ mark (codes "+") ∷ word b ∷ [])
    ≡ Some ((expr.Return (Some (expr.Chain (name a) ((op.Add, name b) ∷ []))), 3), [])
unfolding expr_lead_at op_at return_expr
read_return_of_sum_begun = rw (read_return_of_sum_begun_inside) refl

-- All operators are the operand's.
read_return_of_sum : expr_at FREE 3 (word (codes "return") ∷ word a ∷ mark (codes "+") ∷ word b ∷ [])
    ≡ Some ((expr.Return (Some (expr.Chain (name a) ((op.Add, name b) ∷ []))), 3), [])
unfolding binary strength climb op_at
read_return_of_sum = reads 2 FREE (word (codes "return") ∷ word a ∷ mark (codes "+") ∷ word b ∷ []) (
  expr.Return (Some (expr.Chain
      (name a) ((op.Add, name b) ∷ []))),
  3,
) (expr.Return (Some (expr.Chain (name a) ((op.Add, name b) ∷ []))), 3) [] [] _
    read_return_of_sum_begun refl (exprs.expr_return_is (Some (expr.Chain (name a) ((op.Add, name b) ∷ [])))) refl

read_return_in_sum_begun : head_by (at_level 1) false (expr_lead_at (word a ∷ mark (codes "+") ∷ word (codes "return") ∷ [])) (word
    a ∷ mark (codes "+") ∷ word (codes "return") ∷ [])
    ≡ Some ((name a, 1), mark (codes "+") ∷ word (codes "return") ∷ [])
unfolding expr_lead_at op_at path_expr simple_path path chain segment args_by repeat repeat_from word_reading
read_return_in_sum_begun = refl

read_return_in_sum_staged_operand : expr_at (plain 10 false) 1 (word (codes "return") ∷ []) ≡ Some ((expr.Return None, 1), [])
unfolding code_in expr_by expr_lead_at binary strength climb op_at return_expr
read_return_in_sum_staged_operand = rw (exprs.expr_return_is None) refl

read_return_in_sum_staged_with_operator : operand (at_level 1) 9 false (mark (codes "+") ∷ word (codes "return") ∷ [])
    ≡ Some (((op.Add, expr.Return None), 1), [])
unfolding binary op_at strength
read_return_in_sum_staged_with_operator = operand_read 1 9 false op.Add (expr.Return None, 1) (mark (codes "+") ∷ word (codes
    "return") ∷ []) [] _ refl read_return_in_sum_staged_operand (exprs.expr_return_is None) refl

read_return_in_sum_staged : stage (at_level 1) 9 false (name a, 1) (mark (codes "+") ∷ word (codes "return") ∷ [])
    ≡ Some ((expr.Chain (name a) ((op.Add, expr.Return None) ∷ []), 2), [])
unfolding chain_expr operands repeat repeat_from binary op_at strength
read_return_in_sum_staged = rw (read_return_in_sum_staged_with_operator) refl

-- Without an operand it may stand last,
read_return_in_sum : expr_at FREE 2 (word a ∷ mark (codes "+") ∷ word (codes "return") ∷ [])
    ≡ Some ((expr.Chain (name a) ((op.Add, expr.Return None) ∷ []), 2), [])
unfolding binary strength climb op_at
read_return_in_sum = reads 1 FREE (word a ∷ mark (codes "+") ∷ word (codes "return") ∷ []) (name a, 1) (
  expr.Chain (name a) ((
    op.Add,
    expr.Return None,
  ) ∷ []),
  2,
) (mark (codes "+") ∷ word (codes "return") ∷ []) [] _ read_return_in_sum_begun (climbs 1 FREE 9 (
  name
      a,
  1,
) (expr.Chain (name a) ((op.Add, expr.Return None) ∷ []), 2) (mark (codes "+") ∷ word (codes "return") ∷ []) [] _ refl
    (name_is a) refl read_return_in_sum_staged) (exprs.expr_chain_is (name a) ((op.Add, expr.Return None) ∷ [])) refl

not_return_in_sum_begun : head_by (at_level 3) false (expr_lead_at (word a ∷ mark (codes "+") ∷ word (codes "return") ∷ mark (codes
    "+") ∷ word b ∷ [])) (word a ∷ mark (codes "+") ∷ word (codes "return") ∷ mark (codes "+") ∷ word b ∷ [])
    ≡ Some ((name a, 1), mark (codes "+") ∷ word (codes "return") ∷ mark (codes "+") ∷ word b ∷ [])
unfolding expr_lead_at op_at path_expr simple_path path chain segment args_by repeat repeat_from word_reading
not_return_in_sum_begun = refl

not_return_in_sum_operand : expr_at (plain 10 false) 3 (word (codes "return") ∷ mark (codes "+") ∷ word b ∷ [])
    ≡ Some ((expr.Return None, 1), mark (codes "+") ∷ word b ∷ [])
unfolding code_in expr_by expr_lead_at binary strength climb op_at return_expr
not_return_in_sum_operand = rw (exprs.expr_return_is None) refl

not_return_in_sum_with_operator : operand (at_level 3) 9 false (mark (codes "+") ∷ word (codes "return") ∷ mark (codes "+") ∷ word
    b ∷ [])
    ≡ None
unfolding binary op_at strength
not_return_in_sum_with_operator = operand_refused 3 9 false op.Add (expr.Return None, 1) (mark (codes "+") ∷ word (codes "return") ∷
    mark (codes "+") ∷ word b ∷ []) (mark (codes "+") ∷ word b ∷ []) _ refl not_return_in_sum_operand (exprs.expr_return_is None) refl

not_return_in_sum_fallen : stage (at_level 3) 9 false (name a, 1) (mark (codes "+") ∷ word (codes "return") ∷ mark (codes "+") ∷
    word b ∷ [])
    ≡ None
unfolding chain_expr operands repeat repeat_from binary op_at strength
not_return_in_sum_fallen = rw (not_return_in_sum_with_operator) refl

-- and before no operator,
not_return_in_sum : expr_at FREE 4 (word a ∷ mark (codes "+") ∷ word (codes "return") ∷ mark (codes "+") ∷ word b ∷ []) ≡ None
unfolding binary strength climb op_at
not_return_in_sum = refuses 3 FREE (word a ∷ mark (codes "+") ∷ word (codes "return") ∷ mark (codes "+") ∷ word b ∷ []) (name a, 1)
    (mark (codes "+") ∷ word (codes "return") ∷ mark (codes "+") ∷ word b ∷ []) not_return_in_sum_begun (falls 3 FREE 9 (name a, 1)
    (mark (codes "+") ∷ word (codes "return") ∷ mark (codes "+") ∷ word b ∷ []) _ refl (name_is a) refl not_return_in_sum_fallen)

not_return_before_plus_begun : head_by (at_level 3) false (expr_lead_at (word (codes "return") ∷ mark (codes "+") ∷ word b ∷ []))
    (word (codes "return") ∷ mark (codes "+") ∷ word b ∷ [])
    ≡ Some ((expr.Return None, 1), mark (codes "+") ∷ word b ∷ [])
unfolding expr_lead_at op_at return_expr
not_return_before_plus_begun = refl

-- whether it is an operand or not.
not_return_before_plus : expr_at FREE 4 (word (codes "return") ∷ mark (codes "+") ∷ word b ∷ []) ≡ None
unfolding binary strength climb op_at
not_return_before_plus = refuses 3 FREE (word (codes "return") ∷ mark (codes "+") ∷ word b ∷ []) (expr.Return None, 1) (mark (codes
    "+") ∷ word b ∷ []) not_return_before_plus_begun (stops 3 FREE 9 (expr.Return None, 1) (mark (codes "+") ∷ word b ∷ []) _ refl
    (exprs.expr_return_is None) refl)

read_return_behind_or_begun : head_by (at_level 2) false (expr_lead_at (word a ∷ joint (codes "|") ∷ mark (codes "|") ∷ word (codes
    "return") ∷ word b ∷ [])) (word a ∷ joint (codes "|") ∷ mark (codes "|") ∷ word (codes "return") ∷ word b ∷ [])
    ≡ Some ((name a, 1), joint (codes "|") ∷ mark (codes "|") ∷ word (codes "return") ∷ word b ∷ [])
unfolding expr_lead_at op_at path_expr simple_path path chain segment args_by repeat repeat_from word_reading
read_return_behind_or_begun = refl

read_return_behind_or_staged_operand_begun_inside : expr_at (plain 0 false) 1 (word b ∷ []) ≡ Some ((name b, 1), [])
unfolding code_in expr_by expr_lead_at binary strength climb op_at path_expr simple_path path chain segment args_by repeat repeat_from word_reading
read_return_behind_or_staged_operand_begun_inside = rw (name_is b) refl

read_return_behind_or_staged_operand_begun : head_by (at_level 1) false (expr_lead_at (word (codes "return") ∷ word b ∷ [])) (word
    (codes "return") ∷ word b ∷ [])
    ≡ Some ((expr.Return (Some (name b)), 2), [])
unfolding expr_lead_at op_at return_expr
read_return_behind_or_staged_operand_begun = rw (read_return_behind_or_staged_operand_begun_inside) refl

read_return_behind_or_staged_operand : expr_at (plain 3 false) 2 (word (codes "return") ∷ word b ∷ [])
    ≡ Some ((expr.Return (Some (name b)), 2), [])
unfolding binary strength climb op_at
read_return_behind_or_staged_operand = reads 1 (plain 3 false) (word (codes "return") ∷ word b ∷ []) (expr.Return (Some (name b)), 2)
    (expr.Return (Some (name b)), 2) [] [] _ read_return_behind_or_staged_operand_begun refl (exprs.expr_return_is (Some (name b))) refl

read_return_behind_or_staged_with_operator : operand (at_level 2) 2 false (joint (codes "|") ∷ mark (codes "|") ∷ word (codes
    "return") ∷ word b ∷ [])
    ≡ Some (((op.OrOr, expr.Return (Some (name b))), 2), [])
unfolding binary op_at strength
read_return_behind_or_staged_with_operator = operand_read 2 2 false op.OrOr (expr.Return (Some (name b)), 2) (joint (codes "|") ∷
    mark (codes "|") ∷ word (codes "return") ∷ word b ∷ []) [] _ refl read_return_behind_or_staged_operand (exprs.expr_return_is
    (Some (name b))) refl

read_return_behind_or_staged : stage (at_level 2) 2 false (name a, 1) (joint (codes "|") ∷ mark (codes "|") ∷ word (codes "return")
    ∷ word b ∷ [])
    ≡ Some ((expr.Chain (name a) ((op.OrOr, expr.Return (Some (name b))) ∷ []), 3), [])
unfolding chain_expr operands repeat repeat_from binary op_at strength
read_return_behind_or_staged = rw (read_return_behind_or_staged_with_operator) refl

read_return_behind_or : expr_at FREE 3 (word a ∷ joint (codes "|") ∷ mark (codes "|") ∷ word (codes "return") ∷ word b ∷ [])
    ≡ Some ((expr.Chain (name a) ((op.OrOr, expr.Return (Some (name b))) ∷ []), 3), [])
unfolding binary strength climb op_at
read_return_behind_or = reads 2 FREE (word a ∷ joint (codes "|") ∷ mark (codes "|") ∷ word (codes "return") ∷ word b ∷ []) (
  name a,
  1,
) (expr.Chain (name a) ((op.OrOr, expr.Return (Some (name b))) ∷ []), 3) (joint (codes "|") ∷ mark (codes "|") ∷ word (codes
    "return") ∷ word b ∷ []) [] _ read_return_behind_or_begun (climbs 2 FREE 2 (name a, 1) (
      expr.Chain (name a) ((
        op.OrOr,
        expr.Return (Some (name b)),
      ) ∷ []),
      3,
    ) (joint (codes "|") ∷ mark (codes "|") ∷ word (codes "return") ∷ word b ∷ []) [] _ refl
    (name_is a) refl read_return_behind_or_staged) (exprs.expr_chain_is (name a) ((op.OrOr, expr.Return (Some (name b))) ∷ [])) refl

read_negative_return_begun_inside : expr_at (plain 12 false) 1 (word (codes "return") ∷ []) ≡ Some ((expr.Return None, 1), [])
unfolding code_in expr_by expr_lead_at binary strength climb op_at return_expr
read_negative_return_begun_inside = rw (exprs.expr_return_is None) refl

read_negative_return_begun : head_by (at_level 1) false (expr_lead_at (mark (codes "-") ∷ word (codes "return") ∷ [])) (mark (codes
    "-") ∷ word (codes "return") ∷ [])
    ≡ Some ((expr.Unary (before.Neg ∷ []) (expr.Return None), 2), [])
unfolding expr_lead_at op_at unary_expr prefix repeat repeat_from
read_negative_return_begun = rw (read_negative_return_begun_inside) refl

read_negative_return : expr_at FREE 2 (mark (codes "-") ∷ word (codes "return") ∷ [])
    ≡ Some ((expr.Unary (before.Neg ∷ []) (expr.Return None), 2), [])
unfolding binary strength climb op_at
read_negative_return = reads 1 FREE (mark (codes "-") ∷ word (codes "return") ∷ []) (
  expr.Unary (before.Neg ∷ []) (expr.Return None),
  2,
) (expr.Unary (before.Neg ∷ []) (expr.Return None), 2) [] [] _ read_negative_return_begun refl (exprs.expr_unary_is (before.Neg
    ∷ []) (expr.Return None)) refl

-- ---- what is read: ranges

read_range_begun : head_by (at_level 1) false (expr_lead_at (word a ∷ joint (codes ".") ∷ mark (codes ".") ∷ word b ∷ [])) (word a
    ∷ joint (codes ".") ∷ mark (codes ".") ∷ word b ∷ [])
    ≡ Some ((name a, 1), joint (codes ".") ∷ mark (codes ".") ∷ word b ∷ [])
unfolding expr_lead_at op_at path_expr simple_path path chain segment args_by repeat repeat_from word_reading
read_range_begun = refl

read_range_staged_inside : expr_at (plain 2 false) 1 (word b ∷ []) ≡ Some ((name b, 1), [])
unfolding code_in expr_by expr_lead_at binary strength climb op_at path_expr simple_path path chain segment args_by repeat repeat_from word_reading
read_range_staged_inside = rw (name_is b) refl

read_range_staged : stage (at_level 1) 1 false (name a, 1) (joint (codes ".") ∷ mark (codes ".") ∷ word b ∷ [])
    ≡ Some ((expr.Range (Some (name a)) false (Some (name b)), 2), [])
unfolding range_expr expr_lead_at op_at
read_range_staged = rw (read_range_staged_inside) refl

read_range : expr_at FREE 2 (word a ∷ joint (codes ".") ∷ mark (codes ".") ∷ word b ∷ [])
    ≡ Some ((expr.Range (Some (name a)) false (Some (name b)), 2), [])
unfolding binary strength climb op_at
read_range = reads 1 FREE (word a ∷ joint (codes ".") ∷ mark (codes ".") ∷ word b ∷ []) (name a, 1) (
  expr.Range (Some (name a)) false
      (Some (name b)),
  2,
) (joint (codes ".") ∷ mark (codes ".") ∷ word b ∷ []) [] _ read_range_begun (climbs 1 FREE 1 (name a, 1)
    (expr.Range (Some (name a)) false (Some (name b)), 2) (joint (codes ".") ∷ mark (codes ".") ∷ word b ∷ []) [] _ refl (name_is a)
    refl read_range_staged) (exprs.expr_range_is (Some (name a)) false (Some (name b))) refl

read_endless_begun : head_by (at_level 1) false (expr_lead_at (word a ∷ joint (codes ".") ∷ mark (codes ".") ∷ closes Paren ∷ []))
    (word a ∷ joint (codes ".") ∷ mark (codes ".") ∷ closes Paren ∷ [])
    ≡ Some ((name a, 1), joint (codes ".") ∷ mark (codes ".") ∷ closes Paren ∷ [])
unfolding expr_lead_at op_at path_expr simple_path path chain segment args_by repeat repeat_from word_reading
read_endless_begun = refl

read_endless_staged : stage (at_level 1) 1 false (name a, 1) (joint (codes ".") ∷ mark (codes ".") ∷ closes Paren ∷ [])
    ≡ Some ((expr.Range (Some (name a)) false None, 2), closes Paren ∷ [])
unfolding range_expr expr_lead_at op_at
read_endless_staged = refl

read_endless : expr_at FREE 2 (word a ∷ joint (codes ".") ∷ mark (codes ".") ∷ closes Paren ∷ [])
    ≡ Some ((expr.Range (Some (name a)) false None, 2), closes Paren ∷ [])
unfolding binary strength climb op_at
read_endless = reads 1 FREE (word a ∷ joint (codes ".") ∷ mark (codes ".") ∷ closes Paren ∷ []) (name a, 1) (
  expr.Range (Some (name
      a)) false None,
  2,
) (joint (codes ".") ∷ mark (codes ".") ∷ closes Paren ∷ []) (closes Paren ∷ []) _ read_endless_begun (climbs 1
    FREE 1 (name a, 1) (expr.Range (Some (name a)) false None, 2) (joint (codes ".") ∷ mark (codes ".") ∷ closes Paren ∷ []) (closes
    Paren ∷ []) _ refl (name_is a) refl read_endless_staged) (exprs.expr_range_is (Some (name a)) false None) refl

read_range_to_begun_inside : expr_at (plain 2 false) 1 (word b ∷ []) ≡ Some ((name b, 1), [])
unfolding code_in expr_by expr_lead_at binary strength climb op_at path_expr simple_path path chain segment args_by repeat repeat_from word_reading
read_range_to_begun_inside = rw (name_is b) refl

read_range_to_begun : head_by (at_level 1) false (expr_lead_at (joint (codes ".") ∷ joint (codes ".") ∷ mark (codes "=") ∷ word b ∷
    [])) (joint (codes ".") ∷ joint (codes ".") ∷ mark (codes "=") ∷ word b ∷ [])
    ≡ Some ((expr.Range None true (Some (name b)), 2), [])
unfolding expr_lead_at op_at range_expr
read_range_to_begun = rw (read_range_to_begun_inside) refl

read_range_to : expr_at FREE 2 (joint (codes ".") ∷ joint (codes ".") ∷ mark (codes "=") ∷ word b ∷ [])
    ≡ Some ((expr.Range None true (Some (name b)), 2), [])
unfolding binary strength climb op_at
read_range_to = reads 1 FREE (joint (codes ".") ∷ joint (codes ".") ∷ mark (codes "=") ∷ word b ∷ []) (
  expr.Range None true (Some
      (name b)),
  2,
) (expr.Range None true (Some (name b)), 2) [] [] _ read_range_to_begun refl (exprs.expr_range_is None true (Some
    (name b))) refl

read_full_range : expr_at FREE 1 (joint (codes ".") ∷ mark (codes ".") ∷ closes Paren ∷ [])
    ≡ Some ((expr.Range None false None, 1), closes Paren ∷ [])
unfolding code_in expr_by expr_lead_at binary strength climb op_at range_expr
read_full_range = rw (exprs.expr_range_is None false None) refl

not_endless_before_plus_begun : head_by (at_level 3) false (expr_lead_at (word a ∷ joint (codes ".") ∷ mark (codes ".") ∷ mark
    (codes "+") ∷ word b ∷ [])) (word a ∷ joint (codes ".") ∷ mark (codes ".") ∷ mark (codes "+") ∷ word b ∷ [])
    ≡ Some ((name a, 1), joint (codes ".") ∷ mark (codes ".") ∷ mark (codes "+") ∷ word b ∷ [])
unfolding expr_lead_at op_at path_expr simple_path path chain segment args_by repeat repeat_from word_reading
not_endless_before_plus_begun = refl

not_endless_before_plus_staged : stage (at_level 3) 1 false (name a, 1) (joint (codes ".") ∷ mark (codes ".") ∷ mark (codes "+") ∷
    word b ∷ [])
    ≡ Some ((expr.Range (Some (name a)) false None, 2), mark (codes "+") ∷ word b ∷ [])
unfolding range_expr expr_lead_at op_at
not_endless_before_plus_staged = refl

-- No operator follows a range,
not_endless_before_plus : expr_at FREE 4 (word a ∷ joint (codes ".") ∷ mark (codes ".") ∷ mark (codes "+") ∷ word b ∷ []) ≡ None
unfolding binary strength climb op_at
not_endless_before_plus = not_there 3 FREE (word a ∷ joint (codes ".") ∷ mark (codes ".") ∷ mark (codes "+") ∷ word b ∷ []) (
  name a,
  1,
) (expr.Range (Some (name a)) false None, 2) (joint (codes ".") ∷ mark (codes ".") ∷ mark (codes "+") ∷ word b ∷ []) (mark
    (codes "+") ∷ word b ∷ []) _ not_endless_before_plus_begun (climbs 3 FREE 1 (name a, 1) (
      expr.Range (Some (name a)) false None,
      2,
    ) (joint (codes ".") ∷ mark (codes ".") ∷ mark (codes "+") ∷ word b ∷ []) (mark (codes "+") ∷ word b ∷ []) _ refl (name_is a)
    refl not_endless_before_plus_staged) (exprs.expr_range_is (Some (name a)) false None) refl

not_range_of_range_begun : head_by (at_level 3) false (expr_lead_at (word a ∷ joint (codes ".") ∷ mark (codes ".") ∷ word b ∷ joint
    (codes ".") ∷ mark (codes ".") ∷ word c ∷ [])) (word a ∷ joint (codes ".") ∷ mark (codes ".") ∷ word b ∷ joint (codes ".") ∷
    mark (codes ".") ∷ word c ∷ [])
    ≡ Some ((name a, 1), joint (codes ".") ∷ mark (codes ".") ∷ word b ∷ joint (codes ".") ∷ mark (codes ".") ∷ word c ∷ [])
unfolding expr_lead_at op_at path_expr simple_path path chain segment args_by repeat repeat_from word_reading
not_range_of_range_begun = refl

not_range_of_range_staged_inside : expr_at (plain 2 false) 3 (word b ∷ joint (codes ".") ∷ mark (codes ".") ∷ word c ∷ [])
    ≡ Some ((name b, 1), joint (codes ".") ∷ mark (codes ".") ∷ word c ∷ [])
unfolding code_in expr_by expr_lead_at binary strength climb op_at path_expr simple_path path chain segment args_by repeat repeat_from word_reading
not_range_of_range_staged_inside = rw (name_is b) refl

not_range_of_range_staged : stage (at_level 3) 1 false (name a, 1) (joint (codes ".") ∷ mark (codes ".") ∷ word b ∷ joint (codes
    ".") ∷ mark (codes ".") ∷ word c ∷ [])
    ≡ Some ((expr.Range (Some (name a)) false (Some (name b)), 2), joint (codes ".") ∷ mark (codes ".") ∷ word c ∷ [])
unfolding range_expr expr_lead_at op_at
not_range_of_range_staged = rw (not_range_of_range_staged_inside) refl

-- and none of its own level either.
not_range_of_range : expr_at FREE 4 (word a ∷ joint (codes ".") ∷ mark (codes ".") ∷ word b ∷ joint (codes ".") ∷ mark (codes ".")
    ∷ word c ∷ [])
    ≡ None
unfolding binary strength climb op_at
not_range_of_range = not_there 3 FREE (word a ∷ joint (codes ".") ∷ mark (codes ".") ∷ word b ∷ joint (codes ".") ∷ mark (codes ".")
    ∷ word c ∷ []) (name a, 1) (expr.Range (Some (name a)) false (Some (name b)), 2) (joint (codes ".") ∷ mark (codes ".") ∷ word b ∷
    joint (codes ".") ∷ mark (codes ".") ∷ word c ∷ []) (joint (codes ".") ∷ mark (codes ".") ∷ word c ∷ []) _
    not_range_of_range_begun (climbs 3 FREE 1 (name a, 1) (expr.Range (Some (name a)) false (Some (name b)), 2) (joint (codes ".") ∷
    mark (codes ".") ∷ word b ∷ joint (codes ".") ∷ mark (codes ".") ∷ word c ∷ []) (joint (codes ".") ∷ mark (codes ".") ∷ word c ∷
    []) _ refl (name_is a) refl not_range_of_range_staged) (exprs.expr_range_is (Some (name a)) false (Some (name b))) refl

not_without_end_begun : head_by (at_level 3) false (expr_lead_at (word a ∷ joint (codes ".") ∷ joint (codes ".") ∷ mark (codes "=")
    ∷ [])) (word a ∷ joint (codes ".") ∷ joint (codes ".") ∷ mark (codes "=") ∷ [])
    ≡ Some ((name a, 1), joint (codes ".") ∷ joint (codes ".") ∷ mark (codes "=") ∷ [])
unfolding expr_lead_at op_at path_expr simple_path path chain segment args_by repeat repeat_from word_reading
not_without_end_begun = refl

not_without_end_fallen : stage (at_level 3) 1 false (name a, 1) (joint (codes ".") ∷ joint (codes ".") ∷ mark (codes "=") ∷ []) ≡ None
unfolding range_expr expr_lead_at op_at
not_without_end_fallen = refl

-- After `..=` an end stands.
not_without_end : expr_at FREE 4 (word a ∷ joint (codes ".") ∷ joint (codes ".") ∷ mark (codes "=") ∷ []) ≡ None
unfolding binary strength climb op_at
not_without_end = refuses 3 FREE (word a ∷ joint (codes ".") ∷ joint (codes ".") ∷ mark (codes "=") ∷ []) (name a, 1) (joint (codes
    ".") ∷ joint (codes ".") ∷ mark (codes "=") ∷ []) not_without_end_begun (falls 3 FREE 1 (name a, 1) (joint (codes ".") ∷ joint
    (codes ".") ∷ mark (codes "=") ∷ []) _ refl (name_is a) refl not_without_end_fallen)

-- ---- what is read: steps

read_method_begun : head_by (at_level 1) false (expr_lead_at (word a ∷ mark (codes ".") ∷ word b ∷ opens Paren ∷ word c ∷ closes
    Paren ∷ [])) (word a ∷ mark (codes ".") ∷ word b ∷ opens Paren ∷ word c ∷ closes Paren ∷ [])
    ≡ Some ((name a, 1), mark (codes ".") ∷ word b ∷ opens Paren ∷ word c ∷ closes Paren ∷ [])
unfolding expr_lead_at op_at path_expr simple_path path chain segment args_by repeat repeat_from word_reading
read_method_begun = refl

read_method_staged_inside : expr_at FREE 1 (word c ∷ closes Paren ∷ []) ≡ Some ((name c, 1), closes Paren ∷ [])
unfolding code_in expr_by expr_lead_at binary strength climb op_at path_expr simple_path path chain segment args_by repeat repeat_from word_reading
read_method_staged_inside = rw (name_is c) refl

read_method_staged : stage (at_level 1) 13 false (name a, 1) (mark (codes ".") ∷ word b ∷ opens Paren ∷ word c ∷ closes Paren ∷ [])
    ≡ Some ((expr.Postfix (name a) (method b (name c ∷ []) ∷ []), 2), [])
unfolding postfix_expr one_step dot_step name_reading literal elements elements_from repeat repeat_from op_at
read_method_staged = rw (name_is a, read_method_staged_inside) refl

-- A name after a point is a method where a `(` follows,
read_method : expr_at FREE 2 (word a ∷ mark (codes ".") ∷ word b ∷ opens Paren ∷ word c ∷ closes Paren ∷ [])
    ≡ Some ((expr.Postfix (name a) (method b (name c ∷ []) ∷ []), 2), [])
unfolding binary strength climb op_at
read_method = reads 1 FREE (word a ∷ mark (codes ".") ∷ word b ∷ opens Paren ∷ word c ∷ closes Paren ∷ []) (name a, 1) (
  expr.Postfix
      (name a) (method b (name c ∷ []) ∷ []),
  2,
) (mark (codes ".") ∷ word b ∷ opens Paren ∷ word c ∷ closes Paren ∷ []) [] _
    read_method_begun (climbs 1 FREE 13 (name a, 1) (expr.Postfix (name a) (method b (name c ∷ []) ∷ []), 2) (mark (codes ".") ∷ word
    b ∷ opens Paren ∷ word c ∷ closes Paren ∷ []) [] _ refl (name_is a) refl read_method_staged) (exprs.expr_postfix_is (name a)
    (method b (name c ∷ []) ∷ [])) refl

read_call_of_field_begun_inside_begun : head_by (at_level 2) false (expr_lead_at (word a ∷ mark (codes ".") ∷ word b ∷ closes Paren
    ∷ opens Paren ∷ word c ∷ closes Paren ∷ [])) (word a ∷ mark (codes ".") ∷ word b ∷ closes Paren ∷ opens Paren ∷ word c ∷ closes
    Paren ∷ [])
    ≡ Some ((name a, 1), mark (codes ".") ∷ word b ∷ closes Paren ∷ opens Paren ∷ word c ∷ closes Paren ∷ [])
unfolding expr_lead_at op_at path_expr simple_path path chain segment args_by repeat repeat_from word_reading
read_call_of_field_begun_inside_begun = refl

read_call_of_field_begun_inside_staged : stage (at_level 2) 13 false (name a, 1) (mark (codes ".") ∷ word b ∷ closes Paren ∷ opens
    Paren ∷ word c ∷ closes Paren ∷ [])
    ≡ Some ((expr.Postfix (name a) (step.Field (named b) ∷ []), 2), closes Paren ∷ opens Paren ∷ word c ∷ closes Paren ∷ [])
unfolding postfix_expr one_step dot_step name_reading literal elements elements_from repeat repeat_from op_at
read_call_of_field_begun_inside_staged = rw (name_is a) refl

read_call_of_field_begun_inside : expr_at FREE 3 (word a ∷ mark (codes ".") ∷ word b ∷ closes Paren ∷ opens Paren ∷ word c ∷ closes
    Paren ∷ [])
    ≡ Some ((expr.Postfix (name a) (step.Field (named b) ∷ []), 2), closes Paren ∷ opens Paren ∷ word c ∷ closes Paren ∷ [])
unfolding binary strength climb op_at
read_call_of_field_begun_inside = reads 2 FREE (word a ∷ mark (codes ".") ∷ word b ∷ closes Paren ∷ opens Paren ∷ word c ∷ closes
    Paren ∷ []) (name a, 1) (expr.Postfix (name a) (step.Field (named b) ∷ []), 2) (mark (codes ".") ∷ word b ∷ closes Paren ∷ opens
    Paren ∷ word c ∷ closes Paren ∷ []) (closes Paren ∷ opens Paren ∷ word c ∷ closes Paren ∷ []) _
    read_call_of_field_begun_inside_begun (climbs 2 FREE 13 (name a, 1) (expr.Postfix (name a) (step.Field (named b) ∷ []), 2) (mark
    (codes ".") ∷ word b ∷ closes Paren ∷ opens Paren ∷ word c ∷ closes Paren ∷ []) (closes Paren ∷ opens Paren ∷ word c ∷ closes
    Paren ∷ []) _ refl (name_is a) refl read_call_of_field_begun_inside_staged) (exprs.expr_postfix_is (name a) (step.Field (named b)
    ∷ [])) refl

read_call_of_field_begun : head_by (at_level 3) false (expr_lead_at (opens Paren ∷ word a ∷ mark (codes ".") ∷ word b ∷ closes
    Paren ∷ opens Paren ∷ word c ∷ closes Paren ∷ [])) (opens Paren ∷ word a ∷ mark (codes ".") ∷ word b ∷ closes Paren ∷ opens
    Paren ∷ word c ∷ closes Paren ∷ [])
    ≡ Some ((expr.Paren (expr.Postfix (name a) (step.Field (named b) ∷ [])), 3), opens Paren ∷ word c ∷ closes Paren ∷ [])
unfolding expr_lead_at op_at paren_expr
read_call_of_field_begun = rw (read_call_of_field_begun_inside) refl

read_call_of_field_staged_inside : expr_at FREE 3 (word c ∷ closes Paren ∷ []) ≡ Some ((name c, 1), closes Paren ∷ [])
unfolding code_in expr_by expr_lead_at binary strength climb op_at path_expr simple_path path chain segment args_by repeat repeat_from word_reading
read_call_of_field_staged_inside = rw (name_is c) refl

read_call_of_field_staged : stage (at_level 3) 13 false (expr.Paren (expr.Postfix (name a) (step.Field (named b) ∷ [])), 3) (opens
    Paren ∷ word c ∷ closes Paren ∷ [])
    ≡ Some ((expr.Postfix (expr.Paren (expr.Postfix (name a) (step.Field (named b) ∷ []))) (step.Apply (name c ∷ []) ∷ []), 4), [])
unfolding postfix_expr one_step dot_step name_reading literal elements elements_from repeat repeat_from op_at
read_call_of_field_staged = rw (
  exprs.expr_paren_is (expr.Postfix (name a) (step.Field (named b) ∷ [])),
  read_call_of_field_staged_inside,
) refl

-- and a field in parentheses is called.
read_call_of_field : expr_at FREE 4 (opens Paren ∷ word a ∷ mark (codes ".") ∷ word b ∷ closes Paren ∷ opens Paren ∷ word c ∷
    closes Paren ∷ [])
    ≡ Some ((expr.Postfix (expr.Paren (expr.Postfix (name a) (step.Field (named b) ∷ []))) (step.Apply (name c ∷ []) ∷ []), 4), [])
unfolding binary strength climb op_at
read_call_of_field = reads 3 FREE (opens Paren ∷ word a ∷ mark (codes ".") ∷ word b ∷ closes Paren ∷ opens Paren ∷ word c ∷ closes
    Paren ∷ []) (expr.Paren (expr.Postfix (name a) (step.Field (named b) ∷ [])), 3) (
      expr.Postfix (expr.Paren (expr.Postfix (name a)
          (step.Field (named b) ∷ []))) (step.Apply (name c ∷ []) ∷ []),
      4,
    ) (opens Paren ∷ word c ∷ closes Paren ∷ []) [] _
    read_call_of_field_begun (climbs 3 FREE 13 (expr.Paren (expr.Postfix (name a) (step.Field (named b) ∷ [])), 3) (
      expr.Postfix
          (expr.Paren (expr.Postfix (name a) (step.Field (named b) ∷ []))) (step.Apply (name c ∷ []) ∷ []),
      4,
    ) (opens Paren ∷ word c ∷
    closes Paren ∷ []) [] _ refl (exprs.expr_paren_is (expr.Postfix (name a) (step.Field (named b) ∷ []))) refl
    read_call_of_field_staged) (exprs.expr_postfix_is (expr.Paren (expr.Postfix (name a) (step.Field (named b) ∷ []))) (step.Apply
    (name c ∷ []) ∷ [])) refl

read_index_of_paren_begun_inside : expr_at FREE 2 (digits (codes "1") ∷ closes Paren ∷ mark (codes ".") ∷ digits (codes "0") ∷ [])
    ≡ Some ((int (codes "1"), 1), closes Paren ∷ mark (codes ".") ∷ digits (codes "0") ∷ [])
unfolding code_in expr_by expr_lead_at binary strength climb op_at literal
read_index_of_paren_begun_inside = rw (int_is (codes "1")) refl

read_index_of_paren_begun : head_by (at_level 2) false (expr_lead_at (opens Paren ∷ digits (codes "1") ∷ closes Paren ∷ mark (codes
    ".") ∷ digits (codes "0") ∷ [])) (opens Paren ∷ digits (codes "1") ∷ closes Paren ∷ mark (codes ".") ∷ digits (codes "0") ∷ [])
    ≡ Some ((expr.Paren (int (codes "1")), 2), mark (codes ".") ∷ digits (codes "0") ∷ [])
unfolding expr_lead_at op_at paren_expr
read_index_of_paren_begun = rw (read_index_of_paren_begun_inside) refl

read_index_of_paren_staged : stage (at_level 2) 13 false (expr.Paren (int (codes "1")), 2) (mark (codes ".") ∷ digits (codes "0") ∷
    [])
    ≡ Some ((expr.Postfix (expr.Paren (int (codes "1"))) (step.TupleIndex (codes "0") ∷ []), 3), [])
unfolding postfix_expr one_step dot_step name_reading literal elements elements_from repeat repeat_from op_at chars
read_index_of_paren_staged = rw (exprs.expr_paren_is (int (codes "1"))) refl

read_index_of_paren : expr_at FREE 3 (opens Paren ∷ digits (codes "1") ∷ closes Paren ∷ mark (codes ".") ∷ digits (codes "0") ∷ [])
    ≡ Some ((expr.Postfix (expr.Paren (int (codes "1"))) (step.TupleIndex (codes "0") ∷ []), 3), [])
unfolding binary strength climb op_at
read_index_of_paren = reads 2 FREE (opens Paren ∷ digits (codes "1") ∷ closes Paren ∷ mark (codes ".") ∷ digits (codes "0") ∷ [])
    (expr.Paren (int (codes "1")), 2) (expr.Postfix (expr.Paren (int (codes "1"))) (step.TupleIndex (codes "0") ∷ []), 3) (mark
    (codes ".") ∷ digits (codes "0") ∷ []) [] _ read_index_of_paren_begun (climbs 2 FREE 13 (expr.Paren (int (codes "1")), 2)
    (expr.Postfix (expr.Paren (int (codes "1"))) (step.TupleIndex (codes "0") ∷ []), 3) (mark (codes ".") ∷ digits (codes "0") ∷ [])
    [] _ refl (exprs.expr_paren_is (int (codes "1"))) refl read_index_of_paren_staged) (exprs.expr_postfix_is (expr.Paren (int (codes
    "1"))) (step.TupleIndex (codes "0") ∷ [])) refl

not_index_of_number_begun : head_by (at_level 3) false (expr_lead_at (digits (codes "1") ∷ mark (codes ".") ∷ digits (codes "0") ∷
    [])) (digits (codes "1") ∷ mark (codes ".") ∷ digits (codes "0") ∷ [])
    ≡ Some ((int (codes "1"), 1), mark (codes ".") ∷ digits (codes "0") ∷ [])
unfolding expr_lead_at op_at literal
not_index_of_number_begun = refl

not_index_of_number_fallen : stage (at_level 3) 13 false (int (codes "1"), 1) (mark (codes ".") ∷ digits (codes "0") ∷ []) ≡ None
unfolding postfix_expr one_step dot_step name_reading literal elements elements_from repeat repeat_from op_at chars
not_index_of_number_fallen = rw (int_is (codes "1")) refl

-- A number without suffix isn't directly followed by an index,
not_index_of_number : expr_at FREE 4 (digits (codes "1") ∷ mark (codes ".") ∷ digits (codes "0") ∷ []) ≡ None
unfolding binary strength climb op_at
not_index_of_number = refuses 3 FREE (digits (codes "1") ∷ mark (codes ".") ∷ digits (codes "0") ∷ []) (int (codes "1"), 1) (mark
    (codes ".") ∷ digits (codes "0") ∷ []) not_index_of_number_begun (falls 3 FREE 13 (int (codes "1"), 1) (mark (codes ".") ∷ digits
    (codes "0") ∷ []) _ refl (int_is (codes "1")) refl not_index_of_number_fallen)

not_index_of_float_begun : head_by (at_level 3) false (expr_lead_at (number_token kind.Float (codes "1.0") ∷ mark (codes ".") ∷
    digits (codes "0") ∷ [])) (number_token kind.Float (codes "1.0") ∷ mark (codes ".") ∷ digits (codes "0") ∷ [])
    ≡ Some ((float (codes "1.0"), 1), mark (codes ".") ∷ digits (codes "0") ∷ [])
unfolding expr_lead_at op_at literal
not_index_of_float_begun = refl

not_index_of_float_fallen : stage (at_level 3) 13 false (float (codes "1.0"), 1) (mark (codes ".") ∷ digits (codes "0") ∷ []) ≡ None
unfolding postfix_expr one_step dot_step name_reading literal elements elements_from repeat repeat_from op_at chars
not_index_of_float_fallen = rw (float_is (codes "1.0")) refl

not_index_of_float : expr_at FREE 4 (number_token kind.Float (codes "1.0") ∷ mark (codes ".") ∷ digits (codes "0") ∷ []) ≡ None
unfolding binary strength climb op_at
not_index_of_float = refuses 3 FREE (number_token kind.Float (codes "1.0") ∷ mark (codes ".") ∷ digits (codes "0") ∷ []) (
  float
      (codes "1.0"),
  1,
) (mark (codes ".") ∷ digits (codes "0") ∷ []) not_index_of_float_begun (falls 3 FREE 13 (float (codes "1.0"), 1)
    (mark (codes ".") ∷ digits (codes "0") ∷ []) _ refl (float_is (codes "1.0")) refl not_index_of_float_fallen)

read_index_of_suffixed_begun : head_by (at_level 1) false (expr_lead_at (digits (codes "1u8") ∷ mark (codes ".") ∷ digits (codes
    "0") ∷ [])) (digits (codes "1u8") ∷ mark (codes ".") ∷ digits (codes "0") ∷ [])
    ≡ Some ((int (codes "1u8"), 1), mark (codes ".") ∷ digits (codes "0") ∷ [])
unfolding expr_lead_at op_at literal
read_index_of_suffixed_begun = refl

read_index_of_suffixed_staged : stage (at_level 1) 13 false (int (codes "1u8"), 1) (mark (codes ".") ∷ digits (codes "0") ∷ [])
    ≡ Some ((expr.Postfix (int (codes "1u8")) (step.TupleIndex (codes "0") ∷ []), 2), [])
unfolding postfix_expr one_step dot_step name_reading literal elements elements_from repeat repeat_from op_at chars
read_index_of_suffixed_staged = rw (int_is (codes "1u8")) refl

-- but one with a suffix is.
read_index_of_suffixed : expr_at FREE 2 (digits (codes "1u8") ∷ mark (codes ".") ∷ digits (codes "0") ∷ [])
    ≡ Some ((expr.Postfix (int (codes "1u8")) (step.TupleIndex (codes "0") ∷ []), 2), [])
unfolding binary strength climb op_at
read_index_of_suffixed = reads 1 FREE (digits (codes "1u8") ∷ mark (codes ".") ∷ digits (codes "0") ∷ []) (int (codes "1u8"), 1)
    (expr.Postfix (int (codes "1u8")) (step.TupleIndex (codes "0") ∷ []), 2) (mark (codes ".") ∷ digits (codes "0") ∷ []) [] _
    read_index_of_suffixed_begun (climbs 1 FREE 13 (int (codes "1u8"), 1) (
      expr.Postfix (int (codes "1u8")) (step.TupleIndex (codes
          "0") ∷ []),
      2,
    ) (mark (codes ".") ∷ digits (codes "0") ∷ []) [] _ refl (int_is (codes "1u8")) refl read_index_of_suffixed_staged)
    (exprs.expr_postfix_is (int (codes "1u8")) (step.TupleIndex (codes "0") ∷ [])) refl

not_field_before_colons_begun : head_by (at_level 3) false (expr_lead_at (word a ∷ mark (codes ".") ∷ word b ∷ joint (codes ":") ∷
    mark (codes ":") ∷ word c ∷ [])) (word a ∷ mark (codes ".") ∷ word b ∷ joint (codes ":") ∷ mark (codes ":") ∷ word c ∷ [])
    ≡ Some ((name a, 1), mark (codes ".") ∷ word b ∷ joint (codes ":") ∷ mark (codes ":") ∷ word c ∷ [])
unfolding expr_lead_at op_at path_expr simple_path path chain segment args_by repeat repeat_from word_reading
not_field_before_colons_begun = refl

not_field_before_colons_fallen : stage (at_level 3) 13 false (name a, 1) (mark (codes ".") ∷ word b ∷ joint (codes ":") ∷ mark
    (codes ":") ∷ word c ∷ [])
    ≡ None
unfolding postfix_expr one_step dot_step name_reading literal elements elements_from repeat repeat_from op_at
not_field_before_colons_fallen = rw (name_is a) refl

-- A field isn't followed by `::`.
not_field_before_colons : expr_at FREE 4 (word a ∷ mark (codes ".") ∷ word b ∷ joint (codes ":") ∷ mark (codes ":") ∷ word c ∷ [])
    ≡ None
unfolding binary strength climb op_at
not_field_before_colons = refuses 3 FREE (word a ∷ mark (codes ".") ∷ word b ∷ joint (codes ":") ∷ mark (codes ":") ∷ word c ∷ [])
    (name a, 1) (mark (codes ".") ∷ word b ∷ joint (codes ":") ∷ mark (codes ":") ∷ word c ∷ []) not_field_before_colons_begun (falls
    3 FREE 13 (name a, 1) (mark (codes ".") ∷ word b ∷ joint (codes ":") ∷ mark (codes ":") ∷ word c ∷ []) _ refl (name_is a) refl
    not_field_before_colons_fallen)

-- ---- what is read: words and literals

read_name : expr_at FREE 1 (word a ∷ []) ≡ Some ((name a, 1), [])
unfolding code_in expr_by expr_lead_at binary strength climb op_at path_expr simple_path path chain segment args_by repeat repeat_from word_reading
read_name = rw (name_is a) refl

read_underscore : expr_at FREE 1 (underscore ∷ []) ≡ Some ((expr.Underscore, 1), [])
unfolding code_in expr_by expr_lead_at binary strength climb op_at
read_underscore = rw (exprs.expr_underscore_is) refl

-- A path isn't followed by `!`,
not_before_bang : expr_at FREE 1 (word a ∷ mark (codes "!") ∷ []) ≡ None
unfolding code_in expr_by expr_lead_at binary strength climb op_at path_expr simple_path path chain segment args_by repeat repeat_from word_reading call group
not_before_bang = refl

read_before_not_equal_begun : head_by (at_level 1) false (expr_lead_at (word a ∷ joint (codes "!") ∷ mark (codes "=") ∷ word b ∷
    [])) (word a ∷ joint (codes "!") ∷ mark (codes "=") ∷ word b ∷ [])
    ≡ Some ((name a, 1), joint (codes "!") ∷ mark (codes "=") ∷ word b ∷ [])
unfolding expr_lead_at op_at path_expr simple_path path chain segment args_by repeat repeat_from word_reading
read_before_not_equal_begun = refl

read_before_not_equal_staged_operand : expr_at (plain 5 false) 1 (word b ∷ []) ≡ Some ((name b, 1), [])
unfolding code_in expr_by expr_lead_at binary strength climb op_at path_expr simple_path path chain segment args_by repeat repeat_from word_reading
read_before_not_equal_staged_operand = rw (name_is b) refl

read_before_not_equal_staged_with_operator : operand (at_level 1) 4 false (joint (codes "!") ∷ mark (codes "=") ∷ word b ∷ [])
    ≡ Some (((op.Differ, name b), 1), [])
unfolding binary op_at strength
read_before_not_equal_staged_with_operator = operand_read 1 4 false op.Differ (name b, 1) (joint (codes "!") ∷ mark (codes "=") ∷
    word b ∷ []) [] _ refl read_before_not_equal_staged_operand (name_is b) refl

read_before_not_equal_staged : stage (at_level 1) 4 false (name a, 1) (joint (codes "!") ∷ mark (codes "=") ∷ word b ∷ [])
    ≡ Some ((expr.Chain (name a) ((op.Differ, name b) ∷ []), 2), [])
unfolding chain_expr operands repeat repeat_from binary op_at strength
read_before_not_equal_staged = rw (read_before_not_equal_staged_with_operator) refl

-- but it is by `!=`.
read_before_not_equal : expr_at FREE 2 (word a ∷ joint (codes "!") ∷ mark (codes "=") ∷ word b ∷ [])
    ≡ Some ((expr.Chain (name a) ((op.Differ, name b) ∷ []), 2), [])
unfolding binary strength climb op_at
read_before_not_equal = reads 1 FREE (word a ∷ joint (codes "!") ∷ mark (codes "=") ∷ word b ∷ []) (name a, 1) (
  expr.Chain (name a)
      ((op.Differ, name b) ∷ []),
  2,
) (joint (codes "!") ∷ mark (codes "=") ∷ word b ∷ []) [] _ read_before_not_equal_begun (climbs 1
    FREE 4 (name a, 1) (expr.Chain (name a) ((op.Differ, name b) ∷ []), 2) (joint (codes "!") ∷ mark (codes "=") ∷ word b ∷ []) [] _
    refl (name_is a) refl read_before_not_equal_staged) (exprs.expr_chain_is (name a) ((op.Differ, name b) ∷ [])) refl

-- `<-` is an operator of no level.
read_before_arrow : expr_at FREE 1 (word a ∷ joint (codes "<") ∷ mark (codes "-") ∷ word b ∷ [])
    ≡ Some ((name a, 1), joint (codes "<") ∷ mark (codes "-") ∷ word b ∷ [])
unfolding code_in expr_by expr_lead_at binary strength climb op_at path_expr simple_path path chain segment args_by repeat repeat_from word_reading
read_before_arrow = rw (name_is a) refl

not_at_zero : expr_at FREE 0 (word a ∷ []) ≡ None
unfolding code_in
not_at_zero = refl

read_break : expr_at FREE 1 (word (codes "break") ∷ tick (codes "'a") ∷ []) ≡ Some ((expr.Break (Some tick_a) None, 1), [])
unfolding code_in expr_by expr_lead_at binary strength climb op_at break_expr lifetime
read_break = rw (exprs.expr_break_is (Some tick_a) None) refl

read_break_value_begun_inside : expr_at (plain 0 false) 1 (word b ∷ []) ≡ Some ((name b, 1), [])
unfolding code_in expr_by expr_lead_at binary strength climb op_at path_expr simple_path path chain segment args_by repeat repeat_from word_reading
read_break_value_begun_inside = rw (name_is b) refl

read_break_value_begun : head_by (at_level 1) false (expr_lead_at (word (codes "break") ∷ tick (codes "'a") ∷ word b ∷ [])) (word
    (codes "break") ∷ tick (codes "'a") ∷ word b ∷ [])
    ≡ Some ((expr.Break (Some tick_a) (Some (name b)), 2), [])
unfolding expr_lead_at op_at break_expr lifetime
read_break_value_begun = rw (read_break_value_begun_inside) refl

read_break_value : expr_at FREE 2 (word (codes "break") ∷ tick (codes "'a") ∷ word b ∷ [])
    ≡ Some ((expr.Break (Some tick_a) (Some (name b)), 2), [])
unfolding binary strength climb op_at
read_break_value = reads 1 FREE (word (codes "break") ∷ tick (codes "'a") ∷ word b ∷ []) (
  expr.Break (Some tick_a) (Some (name b)),
  2,
) (expr.Break (Some tick_a) (Some (name b)), 2) [] [] _ read_break_value_begun refl (exprs.expr_break_is (Some tick_a) (Some
    (name b))) refl

read_continue : expr_at FREE 1 (word (codes "continue") ∷ tick (codes "'a") ∷ []) ≡ Some ((expr.Continue (Some tick_a), 1), [])
unfolding code_in expr_by expr_lead_at binary strength climb op_at continue_expr lifetime
read_continue = rw (exprs.expr_continue_is (Some tick_a)) refl

-- Where no struct literal may stand, no `{` begins an operand,
read_return_before_brace : expr_at (plain 0 true) 1 (word (codes "return") ∷ opens Brace ∷ [])
    ≡ Some ((expr.Return None, 1), opens Brace ∷ [])
unfolding code_in expr_by expr_lead_at binary strength climb op_at return_expr
read_return_before_brace = rw (exprs.expr_return_is None) refl

-- ---- what is read: struct literals

-- and a path ends before it.
read_path_before_brace : expr_at (plain 0 true) 1 (word (codes "A") ∷ opens Brace ∷ word b ∷ mark (codes ":") ∷ word c ∷ closes
    Brace ∷ [])
    ≡ Some ((name (codes "A"), 1), opens Brace ∷ word b ∷ mark (codes ":") ∷ word c ∷ closes Brace ∷ [])
unfolding code_in expr_by expr_lead_at binary strength climb op_at path_expr simple_path path chain segment args_by repeat repeat_from word_reading
read_path_before_brace = rw (name_is (codes "A")) refl

read_struct_begun_inside : expr_at FREE 1 (word c ∷ closes Brace ∷ []) ≡ Some ((name c, 1), closes Brace ∷ [])
unfolding code_in expr_by expr_lead_at binary strength climb op_at path_expr simple_path path chain segment args_by repeat repeat_from word_reading
read_struct_begun_inside = rw (name_is c) refl

read_struct_begun : head_by (at_level 1) false (expr_lead_at (word (codes "A") ∷ opens Brace ∷ word b ∷ mark (codes ":") ∷ word c ∷
    closes Brace ∷ [])) (word (codes "A") ∷ opens Brace ∷ word b ∷ mark (codes ":") ∷ word c ∷ closes Brace ∷ [])
    ≡ Some ((expr.Struct (local (codes "A")) (field.Named [] (named b) (name c) ∷ []) None, 2), [])
unfolding expr_lead_at op_at path_expr simple_path path chain segment args_by repeat repeat_from word_reading struct_expr one_field base open_elements open_elements_from attributes name_reading
read_struct_begun = rw (read_struct_begun_inside) refl

read_struct : expr_at FREE 2 (word (codes "A") ∷ opens Brace ∷ word b ∷ mark (codes ":") ∷ word c ∷ closes Brace ∷ [])
    ≡ Some ((expr.Struct (local (codes "A")) (field.Named [] (named b) (name c) ∷ []) None, 2), [])
unfolding binary strength climb op_at
read_struct = reads 1 FREE (word (codes "A") ∷ opens Brace ∷ word b ∷ mark (codes ":") ∷ word c ∷ closes Brace ∷ []) (
  expr.Struct
      (local (codes "A")) (field.Named [] (named b) (name c) ∷ []) None,
  2,
) (
  expr.Struct (local (codes "A")) (field.Named [] (named b)
      (name c) ∷ []) None,
  2,
) [] [] _ read_struct_begun refl (exprs.expr_struct_is (local (codes "A")) (field.Named [] (named b) (name
    c) ∷ []) None) refl

read_struct_with_base_begun_inside : expr_at FREE 1 (word c ∷ closes Brace ∷ []) ≡ Some ((name c, 1), closes Brace ∷ [])
unfolding code_in expr_by expr_lead_at binary strength climb op_at path_expr simple_path path chain segment args_by repeat repeat_from word_reading
read_struct_with_base_begun_inside = rw (name_is c) refl

read_struct_with_base_begun : head_by (at_level 1) false (expr_lead_at (word (codes "A") ∷ opens Brace ∷ word b ∷ mark (codes ",")
    ∷ joint (codes ".") ∷ mark (codes ".") ∷ word c ∷ closes Brace ∷ [])) (word (codes "A") ∷ opens Brace ∷ word b ∷ mark (codes
    ",") ∷ joint (codes ".") ∷ mark (codes ".") ∷ word c ∷ closes Brace ∷ [])
    ≡ Some ((expr.Struct (local (codes "A")) (field.Short [] (named b) ∷ []) (Some (Some (name c))), 2), [])
unfolding expr_lead_at op_at path_expr simple_path path chain segment args_by repeat repeat_from word_reading struct_expr one_field base open_elements open_elements_from attributes name_reading
read_struct_with_base_begun = rw (read_struct_with_base_begun_inside) refl

read_struct_with_base : expr_at FREE 2 (word (codes "A") ∷ opens Brace ∷ word b ∷ mark (codes ",") ∷ joint (codes ".") ∷ mark
    (codes ".") ∷ word c ∷ closes Brace ∷ [])
    ≡ Some ((expr.Struct (local (codes "A")) (field.Short [] (named b) ∷ []) (Some (Some (name c))), 2), [])
unfolding binary strength climb op_at
read_struct_with_base = reads 1 FREE (word (codes "A") ∷ opens Brace ∷ word b ∷ mark (codes ",") ∷ joint (codes ".") ∷ mark (codes
    ".") ∷ word c ∷ closes Brace ∷ []) (expr.Struct (local (codes "A")) (field.Short [] (named b) ∷ []) (Some (Some (name c))), 2)
    (expr.Struct (local (codes "A")) (field.Short [] (named b) ∷ []) (Some (Some (name c))), 2) [] [] _ read_struct_with_base_begun
    refl (exprs.expr_struct_is (local (codes "A")) (field.Short [] (named b) ∷ []) (Some (Some (name c)))) refl

read_rest_of_fields_begun : head_by (at_level 0) false (expr_lead_at (word (codes "A") ∷ opens Brace ∷ joint (codes ".") ∷ mark
    (codes ".") ∷ closes Brace ∷ [])) (word (codes "A") ∷ opens Brace ∷ joint (codes ".") ∷ mark (codes ".") ∷ closes Brace ∷ [])
    ≡ Some ((expr.Struct (local (codes "A")) [] (Some None), 1), [])
unfolding expr_lead_at op_at path_expr simple_path path chain segment args_by repeat repeat_from word_reading struct_expr one_field base open_elements open_elements_from attributes name_reading
read_rest_of_fields_begun = refl

read_rest_of_fields : expr_at FREE 1 (word (codes "A") ∷ opens Brace ∷ joint (codes ".") ∷ mark (codes ".") ∷ closes Brace ∷ [])
    ≡ Some ((expr.Struct (local (codes "A")) [] (Some None), 1), [])
unfolding binary strength climb op_at
read_rest_of_fields = reads 0 FREE (word (codes "A") ∷ opens Brace ∷ joint (codes ".") ∷ mark (codes ".") ∷ closes Brace ∷ [])
    (expr.Struct (local (codes "A")) [] (Some None), 1) (expr.Struct (local (codes "A")) [] (Some None), 1) [] [] _
    read_rest_of_fields_begun refl (exprs.expr_struct_is (local (codes "A")) [] (Some None)) refl

-- ---- what is read: prefixes

read_two_references_begun_inside : expr_at (plain 12 false) 1 (word a ∷ []) ≡ Some ((name a, 1), [])
unfolding code_in expr_by expr_lead_at binary strength climb op_at path_expr simple_path path chain segment args_by repeat repeat_from word_reading
read_two_references_begun_inside = rw (name_is a) refl

read_two_references_begun : head_by (at_level 1) false (expr_lead_at (joint (codes "&") ∷ mark (codes "&") ∷ word a ∷ [])) (joint
    (codes "&") ∷ mark (codes "&") ∷ word a ∷ [])
    ≡ Some ((expr.Unary (before.Amp ∷ before.Amp ∷ []) (name a), 2), [])
unfolding expr_lead_at op_at unary_expr prefix repeat repeat_from
read_two_references_begun = rw (read_two_references_begun_inside) refl

-- `&&` are two prefixes.
read_two_references : expr_at FREE 2 (joint (codes "&") ∷ mark (codes "&") ∷ word a ∷ [])
    ≡ Some ((expr.Unary (before.Amp ∷ before.Amp ∷ []) (name a), 2), [])
unfolding binary strength climb op_at
read_two_references = reads 1 FREE (joint (codes "&") ∷ mark (codes "&") ∷ word a ∷ []) (
  expr.Unary (before.Amp ∷ before.Amp ∷ [])
      (name a),
  2,
) (expr.Unary (before.Amp ∷ before.Amp ∷ []) (name a), 2) [] [] _ read_two_references_begun refl (exprs.expr_unary_is
    (before.Amp ∷ before.Amp ∷ []) (name a)) refl

read_raw_borrow_begun_inside : expr_at (plain 12 false) 1 (word a ∷ []) ≡ Some ((name a, 1), [])
unfolding code_in expr_by expr_lead_at binary strength climb op_at path_expr simple_path path chain segment args_by repeat repeat_from word_reading
read_raw_borrow_begun_inside = rw (name_is a) refl

read_raw_borrow_begun : head_by (at_level 1) false (expr_lead_at (mark (codes "&") ∷ word (codes "raw") ∷ word (codes "const") ∷
    word a ∷ [])) (mark (codes "&") ∷ word (codes "raw") ∷ word (codes "const") ∷ word a ∷ [])
    ≡ Some ((expr.Unary (before.RawConst ∷ []) (name a), 2), [])
unfolding expr_lead_at op_at unary_expr prefix repeat repeat_from
read_raw_borrow_begun = rw (read_raw_borrow_begun_inside) refl

read_raw_borrow : expr_at FREE 2 (mark (codes "&") ∷ word (codes "raw") ∷ word (codes "const") ∷ word a ∷ [])
    ≡ Some ((expr.Unary (before.RawConst ∷ []) (name a), 2), [])
unfolding binary strength climb op_at
read_raw_borrow = reads 1 FREE (mark (codes "&") ∷ word (codes "raw") ∷ word (codes "const") ∷ word a ∷ []) (
  expr.Unary
      (before.RawConst ∷ []) (name a),
  2,
) (expr.Unary (before.RawConst ∷ []) (name a), 2) [] [] _ read_raw_borrow_begun refl
    (exprs.expr_unary_is (before.RawConst ∷ []) (name a)) refl

read_mutable_reference_begun_inside : expr_at (plain 12 false) 1 (word a ∷ []) ≡ Some ((name a, 1), [])
unfolding code_in expr_by expr_lead_at binary strength climb op_at path_expr simple_path path chain segment args_by repeat repeat_from word_reading
read_mutable_reference_begun_inside = rw (name_is a) refl

read_mutable_reference_begun : head_by (at_level 1) false (expr_lead_at (mark (codes "&") ∷ word (codes "mut") ∷ word a ∷ []))
    (mark (codes "&") ∷ word (codes "mut") ∷ word a ∷ [])
    ≡ Some ((expr.Unary (before.AmpMut ∷ []) (name a), 2), [])
unfolding expr_lead_at op_at unary_expr prefix repeat repeat_from
read_mutable_reference_begun = rw (read_mutable_reference_begun_inside) refl

read_mutable_reference : expr_at FREE 2 (mark (codes "&") ∷ word (codes "mut") ∷ word a ∷ [])
    ≡ Some ((expr.Unary (before.AmpMut ∷ []) (name a), 2), [])
unfolding binary strength climb op_at
read_mutable_reference = reads 1 FREE (mark (codes "&") ∷ word (codes "mut") ∷ word a ∷ []) (
  expr.Unary (before.AmpMut ∷ []) (name
      a),
  2,
) (expr.Unary (before.AmpMut ∷ []) (name a), 2) [] [] _ read_mutable_reference_begun refl (exprs.expr_unary_is
    (before.AmpMut ∷ []) (name a)) refl

read_reference_to_raw_begun_inside : expr_at (plain 12 false) 1 (word (codes "raw") ∷ mark (codes ";") ∷ [])
    ≡ Some ((name (codes "raw"), 1), mark (codes ";") ∷ [])
unfolding code_in expr_by expr_lead_at binary strength climb op_at path_expr simple_path path chain segment args_by repeat repeat_from word_reading
read_reference_to_raw_begun_inside = rw (name_is (codes "raw")) refl

read_reference_to_raw_begun : head_by (at_level 1) false (expr_lead_at (mark (codes "&") ∷ word (codes "raw") ∷ mark (codes ";") ∷
    [])) (mark (codes "&") ∷ word (codes "raw") ∷ mark (codes ";") ∷ [])
    ≡ Some ((expr.Unary (before.Amp ∷ []) (name (codes "raw")), 2), mark (codes ";") ∷ [])
unfolding expr_lead_at op_at unary_expr prefix repeat repeat_from
read_reference_to_raw_begun = rw (read_reference_to_raw_begun_inside) refl

-- `raw` is a name where neither `const` nor `mut` stands after it.
read_reference_to_raw : expr_at FREE 2 (mark (codes "&") ∷ word (codes "raw") ∷ mark (codes ";") ∷ [])
    ≡ Some ((expr.Unary (before.Amp ∷ []) (name (codes "raw")), 2), mark (codes ";") ∷ [])
unfolding binary strength climb op_at
read_reference_to_raw = reads 1 FREE (mark (codes "&") ∷ word (codes "raw") ∷ mark (codes ";") ∷ []) (
  expr.Unary (before.Amp ∷ [])
      (name (codes "raw")),
  2,
) (expr.Unary (before.Amp ∷ []) (name (codes "raw")), 2) (mark (codes ";") ∷ []) (mark (codes ";") ∷ []) _
    read_reference_to_raw_begun refl (exprs.expr_unary_is (before.Amp ∷ []) (name (codes "raw"))) refl

-- ---- what is read: delimiters

read_parens_begun_inside_begun_inside : expr_at FREE 1 (word a ∷ closes Paren ∷ closes Paren ∷ [])
    ≡ Some ((name a, 1), closes Paren ∷ closes Paren ∷ [])
unfolding code_in expr_by expr_lead_at binary strength climb op_at path_expr simple_path path chain segment args_by repeat repeat_from word_reading
read_parens_begun_inside_begun_inside = rw (name_is a) refl

read_parens_begun_inside_begun : head_by (at_level 1) false (expr_lead_at (opens Paren ∷ word a ∷ closes Paren ∷ closes Paren ∷
    [])) (opens Paren ∷ word a ∷ closes Paren ∷ closes Paren ∷ [])
    ≡ Some ((expr.Paren (name a), 2), closes Paren ∷ [])
unfolding expr_lead_at op_at paren_expr
read_parens_begun_inside_begun = rw (read_parens_begun_inside_begun_inside) refl

read_parens_begun_inside : expr_at FREE 2 (opens Paren ∷ word a ∷ closes Paren ∷ closes Paren ∷ [])
    ≡ Some ((expr.Paren (name a), 2), closes Paren ∷ [])
unfolding binary strength climb op_at
read_parens_begun_inside = reads 1 FREE (opens Paren ∷ word a ∷ closes Paren ∷ closes Paren ∷ []) (expr.Paren (name a), 2)
    (expr.Paren (name a), 2) (closes Paren ∷ []) (closes Paren ∷ []) _ read_parens_begun_inside_begun refl (exprs.expr_paren_is (name
    a)) refl

read_parens_begun : head_by (at_level 2) false (expr_lead_at (opens Paren ∷ opens Paren ∷ word a ∷ closes Paren ∷ closes Paren ∷
    [])) (opens Paren ∷ opens Paren ∷ word a ∷ closes Paren ∷ closes Paren ∷ [])
    ≡ Some ((expr.Paren (expr.Paren (name a)), 3), [])
unfolding expr_lead_at op_at paren_expr
read_parens_begun = rw (read_parens_begun_inside) refl

read_parens : expr_at FREE 3 (opens Paren ∷ opens Paren ∷ word a ∷ closes Paren ∷ closes Paren ∷ [])
    ≡ Some ((expr.Paren (expr.Paren (name a)), 3), [])
unfolding binary strength climb op_at
read_parens = reads 2 FREE (opens Paren ∷ opens Paren ∷ word a ∷ closes Paren ∷ closes Paren ∷ []) (
  expr.Paren (expr.Paren (name a)),
  3,
) (expr.Paren (expr.Paren (name a)), 3) [] [] _ read_parens_begun refl (exprs.expr_paren_is (expr.Paren (name a))) refl

not_parens_within_two : expr_at FREE 2 (opens Paren ∷ opens Paren ∷ word a ∷ closes Paren ∷ closes Paren ∷ []) ≡ None
unfolding code_in expr_by expr_lead_at binary strength climb op_at path_expr simple_path path chain segment args_by repeat repeat_from word_reading paren_expr
not_parens_within_two = refl

read_no_tuple : expr_at FREE 1 (opens Paren ∷ closes Paren ∷ []) ≡ Some ((expr.Tuple [], 1), [])
unfolding code_in expr_by expr_lead_at binary strength climb op_at paren_expr
read_no_tuple = rw (exprs.expr_tuple_is []) refl

read_tuple_of_one_begun_inside : expr_at FREE 1 (word a ∷ mark (codes ",") ∷ closes Paren ∷ [])
    ≡ Some ((name a, 1), mark (codes ",") ∷ closes Paren ∷ [])
unfolding code_in expr_by expr_lead_at binary strength climb op_at path_expr simple_path path chain segment args_by repeat repeat_from word_reading
read_tuple_of_one_begun_inside = rw (name_is a) refl

read_tuple_of_one_begun : head_by (at_level 1) false (expr_lead_at (opens Paren ∷ word a ∷ mark (codes ",") ∷ closes Paren ∷ []))
    (opens Paren ∷ word a ∷ mark (codes ",") ∷ closes Paren ∷ [])
    ≡ Some ((expr.Tuple (name a ∷ []), 2), [])
unfolding expr_lead_at op_at paren_expr elements elements_from
read_tuple_of_one_begun = rw (read_tuple_of_one_begun_inside) refl

read_tuple_of_one : expr_at FREE 2 (opens Paren ∷ word a ∷ mark (codes ",") ∷ closes Paren ∷ [])
    ≡ Some ((expr.Tuple (name a ∷ []), 2), [])
unfolding binary strength climb op_at
read_tuple_of_one = reads 1 FREE (opens Paren ∷ word a ∷ mark (codes ",") ∷ closes Paren ∷ []) (expr.Tuple (name a ∷ []), 2)
    (expr.Tuple (name a ∷ []), 2) [] [] _ read_tuple_of_one_begun refl (exprs.expr_tuple_is (name a ∷ [])) refl

read_repeat_begun_inside : expr_at FREE 1 (word a ∷ mark (codes ";") ∷ digits (codes "1") ∷ closes Bracket ∷ [])
    ≡ Some ((name a, 1), mark (codes ";") ∷ digits (codes "1") ∷ closes Bracket ∷ [])
unfolding code_in expr_by expr_lead_at binary strength climb op_at path_expr simple_path path chain segment args_by repeat repeat_from word_reading
read_repeat_begun_inside = rw (name_is a) refl

read_repeat_begun : head_by (at_level 1) false (expr_lead_at (opens Bracket ∷ word a ∷ mark (codes ";") ∷ digits (codes "1") ∷
    closes Bracket ∷ [])) (opens Bracket ∷ word a ∷ mark (codes ";") ∷ digits (codes "1") ∷ closes Bracket ∷ [])
    ≡ Some ((expr.Repeat (name a) (list.number (codes "1") ∷ []), 2), [])
unfolding expr_lead_at op_at bracket_expr tokens_of run
read_repeat_begun = rw (read_repeat_begun_inside) refl

read_repeat : expr_at FREE 2 (opens Bracket ∷ word a ∷ mark (codes ";") ∷ digits (codes "1") ∷ closes Bracket ∷ [])
    ≡ Some ((expr.Repeat (name a) (list.number (codes "1") ∷ []), 2), [])
unfolding binary strength climb op_at
read_repeat = reads 1 FREE (opens Bracket ∷ word a ∷ mark (codes ";") ∷ digits (codes "1") ∷ closes Bracket ∷ []) (
  expr.Repeat (name
      a) (list.number (codes "1") ∷ []),
  2,
) (expr.Repeat (name a) (list.number (codes "1") ∷ []), 2) [] [] _ read_repeat_begun refl
    (exprs.expr_repeat_is (name a) (list.number (codes "1") ∷ [])) refl

repeat_in_parens_inside : expr_at FREE 1 (word a ∷ mark (codes ";") ∷ digits (codes "1") ∷ closes Bracket ∷ [])
    ≡ Some ((name a, 1), mark (codes ";") ∷ digits (codes "1") ∷ closes Bracket ∷ [])
unfolding code_in expr_by expr_lead_at binary strength climb op_at path_expr simple_path path chain segment args_by repeat repeat_from word_reading
repeat_in_parens_inside = rw (name_is a) refl

not_repeat_in_parens : expr_at FREE 2 (opens Paren ∷ word a ∷ mark (codes ";") ∷ digits (codes "1") ∷ closes Bracket ∷ []) ≡ None
unfolding code_in expr_by expr_lead_at paren_expr
not_repeat_in_parens = rw (repeat_in_parens_inside) refl

-- ---- what is read: macro calls

-- At the start of a statement a call in braces is the whole of it,
read_call_that_ends : expr_at statement 1 (word (codes "m") ∷ mark (codes "!") ∷ opens Brace ∷ closes Brace ∷ mark (codes "+") ∷
    word a ∷ [])
    ≡ Some ((expr.Call called, 1), mark (codes "+") ∷ word a ∷ [])
unfolding code_in expr_by expr_lead_at binary strength climb op_at simple_path call group tokens_of run repeat repeat_from word_reading
read_call_that_ends = rw (exprs.expr_call_is called, exprs.expr_call_is called) refl

-- and begins no part of one.
not_part : expr_at beginning_part 1 (word (codes "m") ∷ mark (codes "!") ∷ opens Brace ∷ closes Brace ∷ []) ≡ None
unfolding code_in expr_by expr_lead_at binary strength climb op_at simple_path call group tokens_of run repeat repeat_from word_reading
not_part = rw (exprs.expr_call_is called) refl

read_call_in_sum_begun : head_by (at_level 1) false (expr_lead_at (word (codes "m") ∷ mark (codes "!") ∷ opens Brace ∷ closes Brace
    ∷ mark (codes "+") ∷ word a ∷ [])) (word (codes "m") ∷ mark (codes "!") ∷ opens Brace ∷ closes Brace ∷ mark (codes "+") ∷ word
    a ∷ [])
    ≡ Some ((expr.Call called, 1), mark (codes "+") ∷ word a ∷ [])
unfolding expr_lead_at op_at simple_path call group tokens_of run repeat repeat_from word_reading
read_call_in_sum_begun = refl

read_call_in_sum_staged_operand : expr_at (plain 10 false) 1 (word a ∷ []) ≡ Some ((name a, 1), [])
unfolding code_in expr_by expr_lead_at binary strength climb op_at path_expr simple_path path chain segment args_by repeat repeat_from word_reading
read_call_in_sum_staged_operand = rw (name_is a) refl

read_call_in_sum_staged_with_operator : operand (at_level 1) 9 false (mark (codes "+") ∷ word a ∷ []) ≡ Some (((op.Add, name a), 1), [])
unfolding binary op_at strength
read_call_in_sum_staged_with_operator = operand_read 1 9 false op.Add (name a, 1) (mark (codes "+") ∷ word a ∷ []) [] _ refl
    read_call_in_sum_staged_operand (name_is a) refl

read_call_in_sum_staged : stage (at_level 1) 9 false (expr.Call called, 1) (mark (codes "+") ∷ word a ∷ [])
    ≡ Some ((expr.Chain (expr.Call called) ((op.Add, name a) ∷ []), 2), [])
unfolding chain_expr operands repeat repeat_from binary op_at strength
read_call_in_sum_staged = rw (read_call_in_sum_staged_with_operator) refl

-- Elsewhere it is an operand as others are.
read_call_in_sum : expr_at FREE 2 (word (codes "m") ∷ mark (codes "!") ∷ opens Brace ∷ closes Brace ∷ mark (codes "+") ∷ word a ∷ [])
    ≡ Some ((expr.Chain (expr.Call called) ((op.Add, name a) ∷ []), 2), [])
unfolding binary strength climb op_at
read_call_in_sum = reads 1 FREE (word (codes "m") ∷ mark (codes "!") ∷ opens Brace ∷ closes Brace ∷ mark (codes "+") ∷ word a ∷ [])
    (expr.Call called, 1) (expr.Chain (expr.Call called) ((op.Add, name a) ∷ []), 2) (mark (codes "+") ∷ word a ∷ []) [] _
    read_call_in_sum_begun (climbs 1 FREE 9 (expr.Call called, 1) (expr.Chain (expr.Call called) ((op.Add, name a) ∷ []), 2) (mark
    (codes "+") ∷ word a ∷ []) [] _ refl (exprs.expr_call_is called) refl read_call_in_sum_staged) (exprs.expr_chain_is (expr.Call
    called) ((op.Add, name a) ∷ [])) refl

read_step_of_call_begun : head_by (at_level 1) false (expr_lead_at (word (codes "m") ∷ mark (codes "!") ∷ opens Brace ∷ closes
    Brace ∷ mark (codes ".") ∷ word b ∷ [])) (word (codes "m") ∷ mark (codes "!") ∷ opens Brace ∷ closes Brace ∷ mark (codes ".") ∷
    word b ∷ [])
    ≡ Some ((expr.Call called, 1), mark (codes ".") ∷ word b ∷ [])
unfolding expr_lead_at op_at simple_path call group tokens_of run repeat repeat_from word_reading
read_step_of_call_begun = refl

read_step_of_call_staged : stage (at_level 1) 13 false (expr.Call called, 1) (mark (codes ".") ∷ word b ∷ [])
    ≡ Some ((expr.Postfix (expr.Call called) (step.Field (named b) ∷ []), 2), [])
unfolding postfix_expr one_step dot_step name_reading literal elements elements_from repeat repeat_from op_at
read_step_of_call_staged = rw (exprs.expr_call_is called) refl

-- Only a `.` or a `?` goes on with it.
read_step_of_call : expr_at statement 2 (word (codes "m") ∷ mark (codes "!") ∷ opens Brace ∷ closes Brace ∷ mark (codes ".") ∷ word
    b ∷ [])
    ≡ Some ((expr.Postfix (expr.Call called) (step.Field (named b) ∷ []), 2), [])
unfolding binary strength climb op_at
read_step_of_call = reads 1 statement (word (codes "m") ∷ mark (codes "!") ∷ opens Brace ∷ closes Brace ∷ mark (codes ".") ∷ word b ∷
    []) (expr.Call called, 1) (expr.Postfix (expr.Call called) (step.Field (named b) ∷ []), 2) (mark (codes ".") ∷ word b ∷ []) [] _
    read_step_of_call_begun (goes_on 1 statement (expr.Call called, 1) (mark (codes ".") ∷ word b ∷ []) _ (exprs.expr_call_is called)
    refl ∙ climbs 1 statement 13 (expr.Call called, 1) (expr.Postfix (expr.Call called) (step.Field (named b) ∷ []), 2) (mark (codes
    ".") ∷ word b ∷ []) [] _ refl (exprs.expr_call_is called) refl read_step_of_call_staged) (exprs.expr_postfix_is (expr.Call
    called) (step.Field (named b) ∷ [])) refl
