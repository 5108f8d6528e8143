-- Samples of expressions: how they are laid out.
use Rattle.std.proofs.Common.{◌≡◌, ℕ, true, false, List, [], ◌∷◌, ◌++◌, Some, None, codes, ap, ◌∙◌, refl}
use Rattle.std.specs.Prelude.{map, replicate}
use Rattle.lay_piece.specs.declared.kind.Delim.TheVariants.{Brace}
use Rattle.lay_piece.specs.declared.kind.Kind.{Kind}
use Rattle.lay_piece.specs.declared.kind.Kind.TheVariants as kind
use Rattle.lay_node.specs.Follow.{OfBang}
use Rattle.lay_node.specs.nodes.Types.{PathFacts, deeper, lone_word}
use Rattle.lay_node.specs.declared.token.Lifetime.{Lifetime}
use Rattle.lay_node.specs.declared.token.Literal.{Literal}
use Rattle.lay_node.specs.declared.tokens.MacroCall.{MacroCall}
use Rattle.lay_node.specs.declared.types.Arg.TheVariants as arg
use Rattle.lay_node.specs.declared.types.Path.{Path}
use Rattle.lay_node.specs.declared.types.PathStyle.TheVariants.{Code}
use Rattle.lay_node.specs.declared.types.Ty.{Ty}
use Rattle.lay_node.specs.declared.types.Ty.TheVariants as ty
use Rattle.lay_node.proofs.nodes.TypesLaws as types
use Rattle.lay_node.proofs.samples.Tokens as list
use Rattle.lay_node.proofs.samples.Trees.{named, plain, a, b, c, laid}
use Rattle.lay_node.proofs.samples.Types.{C, local, local_facts, local_is, named_is}
use Rattle.lay_code.specs.Operands.{ByPath}
use Rattle.lay_code.specs.nodes.Code.{about_expr, about_step}
use Rattle.lay_code.specs.nodes.Bodies.{OtherBody}
use Rattle.lay_code.specs.nodes.Exprs.{ExprFacts, expr_facts, step_facts, is_raw_word, shut_by}
use Rattle.lay_code.specs.declared.exprs.Expr.{Expr}
use Rattle.lay_code.specs.declared.blocks.Stmt.TheOpen.{Expr-F, Step-F}
use Rattle.lay_code.specs.declared.exprs.Expr.TheVariants as expr
use Rattle.lay_code.specs.declared.exprs.FieldExpr.{FieldExpr}
use Rattle.lay_code.specs.declared.exprs.FieldExpr.TheVariants as field
use Rattle.lay_code.specs.declared.exprs.Step.{Step}
use Rattle.lay_code.specs.declared.exprs.Step.TheVariants as step
use Rattle.lay_code.specs.declared.operators.Op.TheVariants as op
use Rattle.lay_code.specs.declared.operators.Prefix.TheVariants as before
use Rattle.lay_code.proofs.nodes.ExprsLaws as exprs

-- ---- trees

-- a path of one word
abbrev pub name : List ℕ → Expr
name text = expr.Path (local text)

abbrev pub number : Kind → List ℕ → Literal
number kind text = record { kind = kind; text = text }

abbrev pub int : List ℕ → Expr
int text = expr.Lit (number kind.Int text)

abbrev pub float : List ℕ → Expr
float text = expr.Lit (number kind.Float text)

abbrev pub method : List ℕ → List Expr → Step
method text args = step.Method (named text) None args

abbrev pub tick_a : Lifetime
tick_a = record { text = codes "'a" }

abbrev pub named_type : List ℕ → Ty
named_type text = ty.Path (local text)

-- `m! {}`
abbrev pub called : MacroCall
called = record {
  path = record { global = false; words = plain (codes "m") ∷ [] };
  tokens = record { delim = Brace; tokens = [] };
}

abbrev S : Path
S = local (codes "S")

-- `a: 1, b`
abbrev fields_of : List ℕ → List FieldExpr
fields_of text = field.Named [] (named a) (int (codes "1")) ∷ field.Short [] (named text) ∷ []

-- `-(a as u8)`
abbrev negative_cast : Expr
negative_cast = expr.Unary (before.Neg ∷ []) (expr.Paren (expr.Cast (name a) (named_type (codes "u8") ∷ [])))

-- `x.0.1`, `a.b`, and `1. .max(2.)`
abbrev x_0_1 : Expr
x_0_1 = expr.Postfix (name (codes "x")) (step.TupleIndex (codes "0") ∷ step.TupleIndex (codes "1") ∷ [])

abbrev pub a_dot_b : Expr
a_dot_b = expr.Postfix (name a) (step.Field (named b) ∷ [])

abbrev one_max_two : Expr
one_max_two = expr.Postfix (float (codes "1.")) (method (codes "max") (float (codes "2.") ∷ []) ∷ [])

-- `[0; 3]`
abbrev three_zeros : Expr
three_zeros = expr.Repeat (int (codes "0")) (list.number (codes "3") ∷ [])

-- `.b(c).d(e)`, and `.b(c).f.d().e()?`
abbrev two_methods : List Step
two_methods = method b (name c ∷ []) ∷ method (codes "d") (name (codes "e") ∷ []) ∷ []

abbrev three_methods : List Step
three_methods = method b (name c ∷ []) ∷ step.Field (named (codes "f")) ∷ method (codes "d") [] ∷ method (codes "e") [] ∷ step.Try ∷ []

-- ---- the facts about them

-- what is told of a path, where this is told of it as a path
abbrev path_facts : Path → PathFacts → ExprFacts
path_facts path p = record {
  form = deeper (p Code).form;
  level = 14;
  lead = ByPath;
  tail = record (shut_by (OfBang ∷ (p Code).refuses)) { path = true };
  jumps = false;
  endless = false;
  typed = false;
  is_struct = false;
  block_like = false;
  kind = OtherBody;
  is_raw = is_raw_word (lone_word path);
  is_number = false;
  starts = true;
  tight = true;
  structless = true;
  within = λ no_struct first. (p Code).good;
}

abbrev pub name_facts : List ℕ → ExprFacts
name_facts text = path_facts (local text) (local_facts text)

pub name_is : (text : List ℕ) → about_expr (name text) ≡ name_facts text
name_is text = exprs.expr_path_is (local text) ∙ ap (path_facts (local text)) (local_is text)

pub int_is : (text : List ℕ) → about_expr (int text) ≡ expr_facts (Expr-F.Lit (number kind.Int text))
int_is text = exprs.expr_lit_is (number kind.Int text)

pub float_is : (text : List ℕ) → about_expr (float text) ≡ expr_facts (Expr-F.Lit (number kind.Float text))
float_is text = exprs.expr_lit_is (number kind.Float text)

pub method_is : (text : List ℕ) (args : List Expr)
    → about_step (method text args) ≡ step_facts (Step-F.Method (named text) None (map about_expr args))
method_is text args = exprs.step_method_is (named text) None args

-- ---- how they are laid out

abbrev laid_expr : Expr → List ℕ
laid_expr x = laid (record { form = (about_expr x).form; good = true; refuses = [] })

-- ---- layouts: words, literals and delimiters

laid_name : laid_expr (name a) ≡ codes "a"
laid_name = rw (name_is a) refl

laid_underscore : laid_expr expr.Underscore ≡ codes "_"
laid_underscore = rw (exprs.expr_underscore_is) refl

laid_call : laid_expr (expr.Call called) ≡ codes "m! {}"
laid_call = rw (exprs.expr_call_is called) refl

laid_no_tuple : laid_expr (expr.Tuple []) ≡ codes "()"
laid_no_tuple = rw (exprs.expr_tuple_is []) refl

laid_tuple_of_one : laid_expr (expr.Tuple (name a ∷ [])) ≡ codes "(a,)"
laid_tuple_of_one = rw (exprs.expr_tuple_is (name a ∷ []), name_is a) refl

laid_tuple : laid_expr (expr.Tuple (name a ∷ name b ∷ [])) ≡ codes "(a, b)"
laid_tuple = rw (exprs.expr_tuple_is (name a ∷ name b ∷ []), name_is a, name_is b) refl

laid_paren : laid_expr (expr.Paren (name a)) ≡ codes "(a)"
laid_paren = rw (exprs.expr_paren_is (name a), name_is a) refl

laid_no_array : laid_expr (expr.Array []) ≡ codes "[]"
laid_no_array = rw (exprs.expr_array_is []) refl

laid_array_of_one : laid_expr (expr.Array (name a ∷ [])) ≡ codes "[a]"
laid_array_of_one = rw (exprs.expr_array_is (name a ∷ []), name_is a) refl

-- lines of 89 columns, and what would be lines of 90
laid_tuple_of_89 : laid_expr (expr.Tuple (name (replicate 42 97) ∷ name (replicate 43 98) ∷ []))
    ≡ codes "(" ++ (replicate 42 97 ++ (codes ", " ++ (replicate 43 98 ++ codes ")")))
laid_tuple_of_89 =
    rw (
      exprs.expr_tuple_is (name (replicate 42 97) ∷ name (replicate 43 98) ∷ []),
      name_is (replicate 42 97),
      name_is (replicate 43 98),
    )
    refl

laid_tuple_of_90 : laid_expr (expr.Tuple (name (replicate 42 97) ∷ name (replicate 44 98) ∷ []))
    ≡ codes "(\n    " ++ (replicate 42 97 ++ (codes ",\n    " ++ (replicate 44 98 ++ codes ",\n)")))
laid_tuple_of_90 =
    rw (
      exprs.expr_tuple_is (name (replicate 42 97) ∷ name (replicate 44 98) ∷ []),
      name_is (replicate 42 97),
      name_is (replicate 44 98),
    )
    refl

-- A tuple of one has no break of its own.
laid_tuple_of_one_90 : laid_expr (expr.Tuple (name (replicate 87 97) ∷ []))
    ≡ codes "(" ++ (replicate 87 97 ++ codes ",)")
laid_tuple_of_one_90 = rw (exprs.expr_tuple_is (name (replicate 87 97) ∷ []), name_is (replicate 87 97)) refl

-- ---- layouts: struct literals

laid_struct : laid_expr (expr.Struct S (fields_of b) (Some (Some (name c)))) ≡ codes "S { a: 1, b, ..c }"
laid_struct =
    rw (
      exprs.expr_struct_is S (fields_of b) (Some (Some (name c))),
      exprs.field_expr_named_is [] (named a) (int (codes "1")),
      int_is (codes "1"),
      exprs.field_expr_short_is [] (named b),
      name_is c,
      local_is (codes "S"),
    )
    refl

laid_numbered : laid_expr (expr.Struct S (field.Numbered [] (codes "0") (name a) ∷ []) None) ≡ codes "S { 0: a }"
laid_numbered =
    rw (
      exprs.expr_struct_is S (field.Numbered [] (codes "0") (name a) ∷ []) None,
      exprs.field_expr_numbered_is [] (codes "0") (name a),
      name_is a,
      local_is (codes "S"),
    )
    refl

laid_rest_of_fields : laid_expr (expr.Struct S [] (Some None)) ≡ codes "S { .. }"
laid_rest_of_fields = rw (exprs.expr_struct_is S [] (Some None), local_is (codes "S")) refl

laid_no_fields : laid_expr (expr.Struct S [] None) ≡ codes "S {}"
laid_no_fields = rw (exprs.expr_struct_is S [] None, local_is (codes "S")) refl

laid_struct_of_89 : laid_expr (expr.Struct S (fields_of (replicate 72 98)) (Some (Some (name c))))
    ≡ codes "S { a: 1, " ++ (replicate 72 98 ++ codes ", ..c }")
laid_struct_of_89 =
    rw (
      exprs.expr_struct_is S (fields_of (replicate 72 98)) (Some (Some (name c))),
      exprs.field_expr_named_is [] (named a) (int (codes "1")),
      int_is (codes "1"),
      exprs.field_expr_short_is [] (named (replicate 72 98)),
      name_is c,
      local_is (codes "S"),
    )
    refl

-- No comma stands after the base,
laid_struct_of_90 : laid_expr (expr.Struct S (fields_of (replicate 73 98)) (Some (Some (name c))))
    ≡ codes "S {\n    a: 1,\n    " ++ (replicate 73 98 ++ codes ",\n    ..c\n}")
laid_struct_of_90 =
    rw (
      exprs.expr_struct_is S (fields_of (replicate 73 98)) (Some (Some (name c))),
      exprs.field_expr_named_is [] (named a) (int (codes "1")),
      int_is (codes "1"),
      exprs.field_expr_short_is [] (named (replicate 73 98)),
      name_is c,
      local_is (codes "S"),
    )
    refl

-- but one after the last field.
laid_fields_of_90 : laid_expr (expr.Struct S (fields_of (replicate 78 98)) None)
    ≡ codes "S {\n    a: 1,\n    " ++ (replicate 78 98 ++ codes ",\n}")
laid_fields_of_90 =
    rw (
      exprs.expr_struct_is S (fields_of (replicate 78 98)) None,
      exprs.field_expr_named_is [] (named a) (int (codes "1")),
      int_is (codes "1"),
      exprs.field_expr_short_is [] (named (replicate 78 98)),
      local_is (codes "S"),
    )
    refl

-- A base that begins with `.` has a blank before it.
laid_base_of_range : laid_expr (expr.Struct S [] (Some (Some (expr.Range None false (Some (name a))))))
    ≡ codes "S { .. ..a }"
laid_base_of_range =
    rw (
      exprs.expr_struct_is S [] (Some (Some (expr.Range None false (Some (name a))))),
      exprs.expr_range_is None false (Some (name a)),
      name_is a,
      local_is (codes "S"),
    )
    refl

-- ---- layouts: operators

laid_reference_of_operand : laid_expr (expr.Chain (name a) ((op.BitAnd, expr.Unary (before.Amp ∷ []) (name b)) ∷ []))
    ≡ codes "a & &b"
laid_reference_of_operand =
    rw (
      exprs.expr_chain_is (name a) ((op.BitAnd, expr.Unary (before.Amp ∷ []) (name b)) ∷ []),
      name_is a,
      exprs.expr_unary_is (before.Amp ∷ []) (name b),
      name_is b,
    )
    refl

laid_chain_of_89 : laid_expr (expr.Chain (name (replicate 40 97)) ((op.Add, name (replicate 46 98)) ∷ []))
    ≡ replicate 40 97 ++ (codes " + " ++ replicate 46 98)
laid_chain_of_89 =
    rw (
      exprs.expr_chain_is (name (replicate 40 97)) ((op.Add, name (replicate 46 98)) ∷ []),
      name_is (replicate 40 97),
      name_is (replicate 46 98),
    )
    refl

laid_chain_of_90 : laid_expr (expr.Chain (name (replicate 40 97)) ((op.Add, name (replicate 47 98)) ∷ []))
    ≡ replicate 40 97 ++ (codes "\n    + " ++ replicate 47 98)
laid_chain_of_90 =
    rw (
      exprs.expr_chain_is (name (replicate 40 97)) ((op.Add, name (replicate 47 98)) ∷ []),
      name_is (replicate 40 97),
      name_is (replicate 47 98),
    )
    refl

-- Only the break before what passes the margin is a newline.
laid_last_operand_of_90 : laid_expr (expr.Chain (name (replicate 40 97)) ((op.Add, name (replicate 43 98)) ∷ (op.Sub, name c) ∷ []))
    ≡ replicate 40 97 ++ (codes " + " ++ (replicate 43 98 ++ codes "\n    - c"))
laid_last_operand_of_90 =
    rw (
      exprs.expr_chain_is (name (replicate 40 97)) ((op.Add, name (replicate 43 98)) ∷ (op.Sub, name c) ∷ []),
      name_is (replicate 40 97),
      name_is (replicate 43 98),
      name_is c,
    )
    refl

laid_casts : laid_expr (expr.Cast (name a) (named_type (codes "u8") ∷ named_type (codes "u16") ∷ []))
    ≡ codes "a as u8 as u16"
laid_casts =
    rw (
      exprs.expr_cast_is (name a) (named_type (codes "u8") ∷ named_type (codes "u16") ∷ []),
      name_is a,
      named_is (codes "u8"),
      named_is (codes "u16"),
    )
    refl

laid_prefixes : laid_expr (expr.Unary (before.Neg ∷ before.Deref ∷ before.Bang ∷ before.Amp ∷ before.AmpMut ∷ []) (name a))
    ≡ codes "-*!&&mut a"
laid_prefixes =
    rw (
      exprs.expr_unary_is (before.Neg ∷ before.Deref ∷ before.Bang ∷ before.Amp ∷ before.AmpMut ∷ []) (name a),
      name_is a,
    )
    refl

laid_raw_borrow : laid_expr (expr.Unary (before.RawConst ∷ []) (name a)) ≡ codes "&raw const a"
laid_raw_borrow = rw (exprs.expr_unary_is (before.RawConst ∷ []) (name a), name_is a) refl

laid_mutable_raw_borrow : laid_expr (expr.Unary (before.RawMut ∷ []) (name a)) ≡ codes "&raw mut a"
laid_mutable_raw_borrow = rw (exprs.expr_unary_is (before.RawMut ∷ []) (name a), name_is a) refl

laid_endless_range : laid_expr (expr.Range (Some negative_cast) false None) ≡ codes "-(a as u8).."
laid_endless_range =
    rw (
      exprs.expr_range_is (Some negative_cast) false None,
      exprs.expr_unary_is (before.Neg ∷ []) (expr.Paren (expr.Cast (name a) (named_type (codes "u8") ∷ []))),
      exprs.expr_paren_is (expr.Cast (name a) (named_type (codes "u8") ∷ [])),
      exprs.expr_cast_is (name a) (named_type (codes "u8") ∷ []),
      name_is a,
      named_is (codes "u8"),
    )
    refl

laid_range : laid_expr (expr.Range (Some (name a)) false (Some (name b))) ≡ codes "a..b"
laid_range = rw (exprs.expr_range_is (Some (name a)) false (Some (name b)), name_is a, name_is b) refl

laid_range_to : laid_expr (expr.Range None true (Some (name b))) ≡ codes "..=b"
laid_range_to = rw (exprs.expr_range_is None true (Some (name b)), name_is b) refl

laid_full_range : laid_expr (expr.Range None false None) ≡ codes ".."
laid_full_range = rw (exprs.expr_range_is None false None) refl

-- A `..` that stands directly after the point of a number has a blank before it.
laid_range_behind_point : laid_expr (expr.Range (Some (float (codes "1."))) false (Some (float (codes "2."))))
    ≡ codes "1. ..2."
laid_range_behind_point =
    rw (
      exprs.expr_range_is (Some (float (codes "1."))) false (Some (float (codes "2."))),
      float_is (codes "1."),
      float_is (codes "2."),
    )
    refl

laid_assignments : laid_expr (expr.Assign ((name a, op.Set) ∷ (name b, op.AddSet) ∷ []) (name c)) ≡ codes "a = b += c"
laid_assignments =
    rw (
      exprs.expr_assign_is ((name a, op.Set) ∷ (name b, op.AddSet) ∷ []) (name c),
      name_is a,
      name_is b,
      name_is c,
    )
    refl

-- Nothing is broken after `=`.
laid_assignment_of_90 : laid_expr (expr.Assign ((name (replicate 40 97), op.Set) ∷ []) (name (replicate 47 98)))
    ≡ replicate 40 97 ++ (codes " = " ++ replicate 47 98)
laid_assignment_of_90 =
    rw (
      exprs.expr_assign_is ((name (replicate 40 97), op.Set) ∷ []) (name (replicate 47 98)),
      name_is (replicate 40 97),
      name_is (replicate 47 98),
    )
    refl

-- ---- layouts: jumps

laid_return : laid_expr (expr.Return None) ≡ codes "return"
laid_return = rw (exprs.expr_return_is None) refl

laid_return_value : laid_expr (expr.Return (Some (name a))) ≡ codes "return a"
laid_return_value = rw (exprs.expr_return_is (Some (name a)), name_is a) refl

laid_break : laid_expr (expr.Break None None) ≡ codes "break"
laid_break = rw (exprs.expr_break_is None None) refl

laid_break_value : laid_expr (expr.Break (Some tick_a) (Some (name b))) ≡ codes "break 'a b"
laid_break_value = rw (exprs.expr_break_is (Some tick_a) (Some (name b)), name_is b) refl

laid_continue : laid_expr (expr.Continue (Some tick_a)) ≡ codes "continue 'a"
laid_continue = rw (exprs.expr_continue_is (Some tick_a)) refl

-- ---- layouts: steps

laid_steps : laid_expr (expr.Postfix three_zeros (step.Index (int (codes "1")) ∷ step.Try ∷ step.Await ∷ []))
    ≡ codes "[0; 3][1]?.await"
laid_steps =
    rw (
      exprs.expr_postfix_is three_zeros (step.Index (int (codes "1")) ∷ step.Try ∷ step.Await ∷ []),
      exprs.expr_repeat_is (int (codes "0")) (list.number (codes "3") ∷ []),
      int_is (codes "0"),
      exprs.step_index_is (int (codes "1")),
      int_is (codes "1"),
      exprs.step_try_is,
      exprs.step_await_is,
    )
    refl

-- A `.` that stands directly after the point of a number has a blank before it.
laid_method_behind_point : laid_expr (expr.Chain x_0_1 ((op.Add, one_max_two) ∷ [])) ≡ codes "x.0.1 + 1. .max(2.)"
laid_method_behind_point =
    rw (
      exprs.expr_chain_is x_0_1 ((op.Add, one_max_two) ∷ []),
      exprs.expr_postfix_is (name (codes "x")) (step.TupleIndex (codes "0") ∷ step.TupleIndex (codes "1") ∷ []),
      name_is (codes "x"),
      exprs.step_tuple_index_is (codes "0"),
      exprs.step_tuple_index_is (codes "1"),
      exprs.expr_postfix_is (float (codes "1.")) (method (codes "max") (float (codes "2.") ∷ []) ∷ []),
      float_is (codes "1."),
      method_is (codes "max") (float (codes "2.") ∷ []),
      float_is (codes "2."),
    )
    refl

laid_call_of_field : laid_expr (expr.Postfix (expr.Paren a_dot_b) (step.Apply (name c ∷ []) ∷ [])) ≡ codes "(a.b)(c)"
laid_call_of_field =
    rw (
      exprs.expr_postfix_is (expr.Paren a_dot_b) (step.Apply (name c ∷ []) ∷ []),
      exprs.expr_paren_is a_dot_b,
      exprs.expr_postfix_is (name a) (step.Field (named b) ∷ []),
      name_is a,
      exprs.step_field_is (named b),
      exprs.step_apply_is (name c ∷ []),
      name_is c,
    )
    refl

laid_generic_method : laid_expr (expr.Postfix (name a) (step.Method (named b) (Some (arg.Plain C ∷ [])) (name c ∷ []) ∷ []))
    ≡ codes "a.b::<C>(c)"
laid_generic_method =
    rw (
      exprs.expr_postfix_is (name a) (step.Method (named b) (Some (arg.Plain C ∷ [])) (name c ∷ []) ∷ []),
      name_is a,
      exprs.step_method_is (named b) (Some (arg.Plain C ∷ [])) (name c ∷ []),
      types.arg_plain_is C,
      named_is (codes "C"),
      name_is c,
    )
    refl

laid_methods : laid_expr (expr.Postfix (name a) two_methods) ≡ codes "a.b(c).d(e)"
laid_methods =
    rw (
      exprs.expr_postfix_is (name a) two_methods,
      name_is a,
      method_is b (name c ∷ []),
      name_is c,
      method_is (codes "d") (name (codes "e") ∷ []),
      name_is (codes "e"),
    )
    refl

laid_methods_of_89 : laid_expr (expr.Postfix (name (replicate 79 97)) two_methods)
    ≡ replicate 79 97 ++ codes ".b(c).d(e)"
laid_methods_of_89 =
    rw (
      exprs.expr_postfix_is (name (replicate 79 97)) two_methods,
      name_is (replicate 79 97),
      method_is b (name c ∷ []),
      name_is c,
      method_is (codes "d") (name (codes "e") ∷ []),
      name_is (codes "e"),
    )
    refl

-- A break stands before each method but the first,
laid_methods_of_90 : laid_expr (expr.Postfix (name (replicate 80 97)) two_methods)
    ≡ replicate 80 97 ++ codes ".b(c)\n    .d(e)"
laid_methods_of_90 =
    rw (
      exprs.expr_postfix_is (name (replicate 80 97)) two_methods,
      name_is (replicate 80 97),
      method_is b (name c ∷ []),
      name_is c,
      method_is (codes "d") (name (codes "e") ∷ []),
      name_is (codes "e"),
    )
    refl

-- and before nothing else.
laid_three_methods_of_90 : laid_expr (expr.Postfix (name (replicate 76 97)) three_methods)
    ≡ replicate 76 97 ++ codes ".b(c).f\n    .d()\n    .e()?"
laid_three_methods_of_90 =
    rw (
      exprs.expr_postfix_is (name (replicate 76 97)) three_methods,
      name_is (replicate 76 97),
      method_is b (name c ∷ []),
      name_is c,
      exprs.step_field_is (named (codes "f")),
      method_is (codes "d") [],
      method_is (codes "e") [],
      exprs.step_try_is,
    )
    refl

-- One method alone is in no group.
laid_method_of_90 : laid_expr (expr.Postfix (name (replicate 85 97)) (method b (name c ∷ []) ∷ []))
    ≡ replicate 85 97 ++ codes ".b(\n    c,\n)"
laid_method_of_90 =
    rw (
      exprs.expr_postfix_is (name (replicate 85 97)) (method b (name c ∷ []) ∷ []),
      name_is (replicate 85 97),
      method_is b (name c ∷ []),
      name_is c,
    )
    refl

laid_index_of_89 : laid_expr (expr.Postfix (name a) (step.Index (name (replicate 86 98)) ∷ []))
    ≡ codes "a[" ++ (replicate 86 98 ++ codes "]")
laid_index_of_89 =
    rw (
      exprs.expr_postfix_is (name a) (step.Index (name (replicate 86 98)) ∷ []),
      name_is a,
      exprs.step_index_is (name (replicate 86 98)),
      name_is (replicate 86 98),
    )
    refl

laid_index_of_90 : laid_expr (expr.Postfix (name a) (step.Index (name (replicate 87 98)) ∷ []))
    ≡ codes "a[\n    " ++ (replicate 87 98 ++ codes "\n]")
laid_index_of_90 =
    rw (
      exprs.expr_postfix_is (name a) (step.Index (name (replicate 87 98)) ∷ []),
      name_is a,
      exprs.step_index_is (name (replicate 87 98)),
      name_is (replicate 87 98),
    )
    refl
