-- The streams of expressions, kind by kind.
use Rattle.std.proofs.Common.{◌≡◌, ◌==◌, ◌≤◌, ◌<◌, ◌&&◌, Bool, true, false, not, List, [], ◌∷◌, ◌++◌, map, length, get_or, codes, pos, Option, option_map, Some, None, refl, sym, ap, ◌∙◌, append_assoc, arith}
use Rattle.lay_layout.specs.declared.layout.Tok.{Tok}
use Rattle.lay_layout.specs.declared.layout.Tok.TheVariants as tok
use Rattle.lay_piece.specs.Characters as char
use Rattle.lay_piece.specs.declared.kind.Delim.{Delim}
use Rattle.lay_piece.specs.declared.kind.Delim.TheVariants.{Paren, Bracket, Brace}
use Rattle.lay_form.specs.Form.{Form, Blank, Done, Piece, Part, punct, opener, closer, semicolon}
use Rattle.lay_form.specs.Layout.{ends_behind_point, led, text_of_bits}
use Rattle.lay_form.specs.Notation.{comma_list, piece, when}
use Rattle.lay_form.specs.Stream.{fed, stream_of}
use Rattle.lay_node.specs.Words.{colons, leaf_of}
use Rattle.lay_node.specs.nodes.Call.{bang, call_form}
use Rattle.lay_node.specs.nodes.Patterns.{dots}
use Rattle.lay_node.specs.nodes.SimplePath.{simple_words_form}
use Rattle.lay_node.specs.nodes.Types.{TypeFacts, about_path, about_type, literal_form}
use Rattle.lay_node.specs.tokens.Lists.{group_form, token_list}
use Rattle.lay_node.specs.declared.token.Lifetime.{Lifetime}
use Rattle.lay_node.specs.declared.token.Listed.{Listed}
use Rattle.lay_node.specs.declared.token.Literal.{Literal}
use Rattle.lay_node.specs.declared.token.Word.{Word}
use Rattle.lay_node.specs.declared.tokens.MacroCall.{MacroCall}
use Rattle.lay_node.specs.declared.types.Path.{Path}
use Rattle.lay_node.specs.declared.types.PathStyle.TheVariants.{Code}
use Rattle.lay_node.specs.declared.types.Ty.{Ty}
use Rattle.lay_code.specs.nodes.Code.{about_expr}
use Rattle.lay_code.specs.nodes.Exprs.{ExprFacts, args_form, end_form, expr_forms, label_form, operand_form, operands_form, tuple_form, types_form}
use Rattle.lay_code.specs.declared.exprs.Expr.{Expr}
use Rattle.lay_code.specs.declared.exprs.Expr.TheVariants as expr
use Rattle.lay_code.specs.declared.operators.Op.{Op}
use Rattle.lay_code.specs.declared.operators.Prefix.{Prefix}
use Rattle.lay_code.proofs.nodes.ExprsLaws.{expr_array_is, expr_break_is, expr_call_is, expr_cast_is, expr_chain_is, expr_continue_is, expr_lit_is, expr_paren_is, expr_path_is, expr_range_is, expr_repeat_is, expr_return_is, expr_tuple_is, expr_unary_is, expr_underscore_is}
use Rattle.lay_out_tokens.proofs.StreamParts.{fed_more}
use Rattle.lay_out_types.specs.Rows.{comma_between, list_closed, list_opened, row}
use Rattle.lay_out_types.proofs.FormRows.{list_is, none_is}
use Rattle.lay_out_pats.proofs.PathEnds.{path_any}
use Rattle.lay_out_exprs.specs.Parts.{behind_op, expr_told, prefix_texts}
use Rattle.lay_out_exprs.proofs.Feeds.{Any, both, dots_fed, label_more, part_at, prefixes_fed, within}

-- the stream of an expression, after a point or not
abbrev pub told : Bool → Expr → List Tok
told q x = fed q (expr_told x) []

-- it is of this kind
pub told_is : (q : Bool) (x y : Expr) (facts : ExprFacts) → x ≡ y → about_expr y ≡ facts → fed q facts.form [] ≡ told q x
told_is q x y facts is e = sym (ap (told q) is ∙ ap (λ (z : ExprFacts). fed q z.form []) e)

-- it is of a kind that is fed alike after a point
told_any : (q : Bool) (x y : Expr) (facts : ExprFacts) → x ≡ y → about_expr y ≡ facts → Any facts.form
    → stream_of facts.form ≡ told q x
told_any q x y facts is e any = sym (any.at q) ∙ told_is q x y facts is e

-- ---- leaves

-- a literal
pub lit_expr : (q : Bool) (x : Expr) (l : Literal) → x ≡ expr.Lit l → stream_of (literal_form l Done) ≡ told q x
lit_expr q x l is = told_any q x (expr.Lit l) _ is (expr_lit_is l) (record { at = λ r. refl })

-- a path
pub path_expr : (q : Bool) (x : Expr) (p : Path) → x ≡ expr.Path p → stream_of (about_path p Code).form ≡ told q x
path_expr q x p is = told_any q x (expr.Path p) _ is (expr_path_is p) (record { at = path_any p })

-- `_`
pub underscore_expr : (q : Bool) (x : Expr) → x ≡ expr.Underscore → tok.Text (codes "_") ∷ [] ≡ told q x
underscore_expr q x is = told_any q x expr.Underscore _ is expr_underscore_is (both refl)

-- The `!` of a macro call is fed alike after a point.
bang_any : (d : Delim) (f : Form) → Any (Piece (bang d) f)
bang_any Paren f = both refl
bang_any Bracket f = both refl
bang_any Brace f = both refl

-- So are words in a row, and what follows them.
words_any : (ws : List Word) (f : Form) → Any f → Any (Part (simple_words_form ws Done) f)
words_any [] f any = record { at = any.at }
words_any (w ∷ []) f any = record { at = by w.raw }
  where
    by : (raw q : Bool) → fed q (Part (leaf_of raw w.text Done) f) [] ≡ stream_of (Part (leaf_of raw w.text Done) f)
    by true q = refl
    by false q = refl
words_any (w ∷ v ∷ ws) f any = record { at = by w.raw }
  where
    by : (raw q : Bool) → fed q (Part (leaf_of raw w.text (Piece colons (simple_words_form (v ∷ ws) Done))) f) []
        ≡ stream_of (Part (leaf_of raw w.text (Piece colons (simple_words_form (v ∷ ws) Done))) f)
    by true q = refl
    by false q = refl

-- So are they after the `::` of a global path.
call_by : (global : Bool) (ws : List Word) (f : Form) → Any f → Any (Part (when global colons (simple_words_form ws Done)) f)
call_by true ws f any = both refl
call_by false ws f any = words_any ws f any

-- So is a macro call.
call_any : (call : MacroCall) → Any (call_form call)
call_any call = call_by call.path.global call.path.words (Piece (bang call.tokens.delim) (group_form call.tokens Done))
    (bang_any call.tokens.delim (group_form call.tokens Done))

-- a macro call
pub call_expr : (q : Bool) (x : Expr) (call : MacroCall) → x ≡ expr.Call call → stream_of (call_form call) ≡ told q x
call_expr q x call is = told_any q x (expr.Call call) _ is (expr_call_is call) (within (call_any call))

-- `continue`
pub continue_expr : (q : Bool) (x : Expr) (label : Option Lifetime) → x ≡ expr.Continue label
    → tok.Text (codes "continue") ∷ stream_of (label_form label Done) ≡ told q x
continue_expr q x label is = told_any q x (expr.Continue label) _ is (expr_continue_is label) (both refl)

-- ---- expressions in brackets

-- an expression in parentheses
pub paren_expr : (q : Bool) (x inner put : Expr) → x ≡ expr.Paren inner → put ≡ inner
    → tok.Text (codes "(") ∷ (told false put ++ (tok.Text (codes ")") ∷ [])) ≡ told q x
paren_expr q x inner put is e =
    rw e (ap (λ (s : List Tok). tok.Text (codes "(") ∷ s) (part_at false (expr_told inner) (piece (closer Paren ∷ [])) (both refl))
    ∙ told_any q x (expr.Paren inner) _ is (expr_paren_is inner) (both refl))

-- the facts about each, and then its form
forms_are : (xs : List Expr) → map expr_told xs ≡ expr_forms (map about_expr xs)
forms_are [] = refl
forms_are (x ∷ xs) = ap (λ (es : List Form). expr_told x ∷ es) (forms_are xs)

-- what closes brackets is one text, after a point or not
closes : (d : Delim) (q : Bool) (more : List Tok)
    → fed q (piece (closer d ∷ [])) more ≡ tok.Text (text_of_bits (closer d ∷ [])) ∷ more
closes Paren true more = refl
closes Paren false more = refl
closes Bracket true more = refl
closes Bracket false more = refl
closes Brace true more = refl
closes Brace false more = refl

-- expressions in parentheses
pub round_are : (xs : List Expr)
    → row (list_opened (codes "(")) comma_between (map expr_told xs)
    ++ list_closed true (length xs == 0) (codes "()") (codes ")") ≡ stream_of (args_form (map about_expr xs))
round_are xs =
    list_is true (opener Paren) (closer Paren) (codes "(") (codes "()") (codes ")") (λ f more. refl) (closes Paren) refl
    (map expr_told xs) (length xs == 0) (none_is expr_told xs _ refl)
    ∙ ap (λ (es : List Form). stream_of (comma_list true (opener Paren) (closer Paren) es)) (forms_are xs)

-- expressions in brackets
square_are : (xs : List Expr)
    → row (list_opened (codes "[")) comma_between (map expr_told xs)
    ++ list_closed true (length xs == 0) (codes "[]") (codes "]")
    ≡ stream_of (comma_list true (opener Bracket) (closer Bracket) (expr_forms (map about_expr xs)))
square_are xs =
    list_is true (opener Bracket) (closer Bracket) (codes "[") (codes "[]") (codes "]") (λ f more. refl) (closes Bracket) refl
    (map expr_told xs) (length xs == 0) (none_is expr_told xs _ refl)
    ∙ ap (λ (es : List Form). stream_of (comma_list true (opener Bracket) (closer Bracket) es)) (forms_are xs)

-- Expressions in parentheses are fed alike after a point.
pub round_any : (es : List Form) → Any (comma_list true (opener Paren) (closer Paren) es)
round_any [] = both refl
round_any (e ∷ es) = both refl

-- So are expressions in brackets.
square_any : (es : List Form) → Any (comma_list true (opener Bracket) (closer Bracket) es)
square_any [] = both refl
square_any (e ∷ es) = both refl

-- an array
pub array_expr : (q : Bool) (x : Expr) (xs put : List Expr) → x ≡ expr.Array xs → put ≡ xs
    → row (list_opened (codes "[")) comma_between (map expr_told put)
    ++ list_closed true (length put == 0) (codes "[]") (codes "]") ≡ told q x
array_expr q x xs put is e =
    square_are put
    ∙ told_any q x (expr.Array put) _ (is ∙ ap expr.Array (sym e)) (expr_array_is put)
    (within (square_any (expr_forms (map about_expr put))))

-- A tuple is fed alike after a point.
tuple_any : (xs : List ExprFacts) → Any (tuple_form xs)
tuple_any [] = both refl
tuple_any (x ∷ []) = both refl
tuple_any (x ∷ y ∷ xs) = both refl

-- a tuple
pub tuple_expr : (q : Bool) (x : Expr) (xs put : List Expr) → x ≡ expr.Tuple xs → put ≡ xs
    → stream_of (tuple_form (map about_expr put)) ≡ told q x
tuple_expr q x xs put is e =
    told_any q x (expr.Tuple put) _ (is ∙ ap expr.Tuple (sym e)) (expr_tuple_is put)
    (within (tuple_any (map about_expr put)))

-- a tuple of none, of one, and of more
pub no_tuple : (xs : List Expr) → length xs < 1 → tok.Text (codes "()") ∷ [] ≡ stream_of (tuple_form (map about_expr xs))
no_tuple [] none = refl
no_tuple (x ∷ xs) none = absurd (omega arith)

pub one_tuple : (xs : List Expr) (only : Expr) → 1 ≤ length xs → length xs < 2 → only ≡ get_or xs 0 only
    → tok.Text (codes "(") ∷ (told false only ++ (tok.Text (codes ",)") ∷ [])) ≡ stream_of (tuple_form (map about_expr xs))
one_tuple [] only some one is = absurd (omega arith)
one_tuple (x ∷ []) only some one is =
    rw is (ap (λ (s : List Tok). tok.Text (codes "(") ∷ s)
    (part_at false (expr_told x) (piece (punct char.comma ∷ closer Paren ∷ [])) (both refl)))
one_tuple (x ∷ y ∷ xs) only some one is = absurd (omega arith)

pub long_tuple : (xs : List Expr) → 2 ≤ length xs
    → row (list_opened (codes "(")) comma_between (map expr_told xs)
    ++ list_closed true (length xs == 0) (codes "()") (codes ")") ≡ stream_of (tuple_form (map about_expr xs))
long_tuple [] many = absurd (omega arith)
long_tuple (x ∷ []) many = absurd (omega arith)
long_tuple (x ∷ y ∷ xs) many = round_are (x ∷ y ∷ xs)

-- an array of one element again and again
pub repeat_expr : (q : Bool) (x inner put : Expr) (size : List Listed) → x ≡ expr.Repeat inner size → put ≡ inner
    → tok.Text (codes "[") ∷ (told false put ++ (tok.Text (codes "; ") ∷ (stream_of (token_list size)
    ++ (tok.Text (codes "]") ∷ [])))) ≡ told q x
repeat_expr q x inner put size is e =
    let f = Piece (semicolon ++ Blank ∷ []) (Part (token_list size) (piece (closer Bracket ∷ []))) in
    rw e (ap (λ (s : List Tok). tok.Text (codes "[") ∷ s)
    (ap (λ (s : List Tok). told false inner ++ (tok.Text (codes "; ") ∷ s))
    (part_at false (token_list size) (piece (closer Bracket ∷ [])) (both refl))
    ∙ part_at false (expr_told inner) f (both refl))
    ∙ told_any q x (expr.Repeat inner size) _ is (expr_repeat_is inner size) (both refl))

-- ---- operators

-- Operands after their operators are fed alike after a point.
pub operands_any : (xs : List (Op × ExprFacts)) → Any (operands_form xs)
operands_any [] = both refl
operands_any (x ∷ xs) = both refl

-- a chain of operators of one level
pub chain_expr : (q : Bool) (x first put : Expr) (rest more : List (Op × Expr)) → x ≡ expr.Chain first rest → put ≡ first
    → more ≡ rest
    → tok.Begin false (pos 4) ∷ (told q put ++ (stream_of (operands_form (map behind_op more)) ++ (tok.End ∷ []))) ≡ told q x
chain_expr q x first put rest more is e f =
    let ops = operands_form (map behind_op rest) in
    rw (e, f) (ap (λ (s : List Tok). tok.Begin false (pos 4) ∷ s)
    (sym (append_assoc (told q first) (stream_of ops) (tok.End ∷ []))
    ∙ ap (λ (s : List Tok). s ++ (tok.End ∷ [])) (part_at q (expr_told first) ops (operands_any (map behind_op rest)))
    ∙ sym (fed_more q (Part (expr_told first) ops) (tok.End ∷ [])))
    ∙ told_is q x (expr.Chain first rest) _ is (expr_chain_is first rest))

-- Types after their `as` are fed alike after a point.
pub types_any : (xs : List TypeFacts) → Any (types_form xs)
types_any [] = both refl
types_any (x ∷ xs) = both refl

-- a cast
pub cast_expr : (q : Bool) (x operand put : Expr) (types more : List Ty) → x ≡ expr.Cast operand types → put ≡ operand
    → more ≡ types → told q put ++ stream_of (types_form (map about_type more)) ≡ told q x
cast_expr q x operand put types more is e f =
    rw (e, f) (part_at q (expr_told operand) (types_form (map about_type types)) (types_any (map about_type types))
    ∙ told_is q x (expr.Cast operand types) _ is (expr_cast_is operand types))

-- an operand after its operators
pub unary_expr : (q r : Bool) (x operand put : Expr) (prefixes ps : List Prefix) → x ≡ expr.Unary prefixes operand
    → ps ≡ prefixes → put ≡ operand → r ≡ (q && (length ps == 0)) → prefix_texts ps ++ told r put ≡ told q x
unary_expr q r x operand put prefixes ps is e f p =
    rw (p, e, f) (prefixes_fed q prefixes (Part (expr_told operand) Done)
    ∙ told_is q x (expr.Unary prefixes operand) _ is (expr_unary_is prefixes operand))

-- the start of a range, its dots, and what follows them
range_parts : (q i : Bool) (start : Option ExprFacts) (f : Form)
    → fed q (end_form start Done) [] ++ (tok.Text (text_of_bits (led (ends_behind_point q (end_form start Done)) (dots i)))
    ∷ fed (not i) f []) ≡ fed q (end_form start (Piece (dots i) f)) []
range_parts q i None f = dots_fed q i f
range_parts q i (Some x) f =
    ap (λ (s : List Tok). fed q x.form [] ++ s) (dots_fed (ends_behind_point q x.form) i f)
    ∙ sym (fed_more q x.form (fed (ends_behind_point q x.form) (Piece (dots i) f) []))

-- a range
pub range_expr : (q : Bool) (x : Expr) (start : Option Expr) (i : Bool) (end : Option Expr) (point : Bool)
    → x ≡ expr.Range start i end → point ≡ ends_behind_point q (end_form (option_map about_expr start) Done)
    → fed q (end_form (option_map about_expr start) Done) [] ++ (tok.Text (text_of_bits (led point (dots i)))
    ∷ fed (not i) (end_form (option_map about_expr end) Done) []) ≡ told q x
range_expr q x start i end point is e =
    rw e (range_parts q i (option_map about_expr start) (end_form (option_map about_expr end) Done)
    ∙ told_is q x (expr.Range start i end) _ is (expr_range_is start i end))

-- ---- jumps

-- an operand that is there
pub some_operand : (operand : Option Expr) (x put : Expr) → operand ≡ Some x → put ≡ x
    → tok.Text (codes " ") ∷ told false put ≡ stream_of (operand_form (option_map about_expr operand))
some_operand operand x put is e = rw (is, e) refl

-- the same without a blank before it
pub some_optional : (q : Bool) (operand : Option Expr) (x put : Expr) → operand ≡ Some x → put ≡ x
    → told q put ≡ fed q (end_form (option_map about_expr operand) Done) []
some_optional q operand x put is e = rw (is, e) refl

-- and one that is left out
pub no_optional : (q : Bool) (operand : Option Expr) → operand ≡ None → [] ≡ fed q (end_form (option_map about_expr operand) Done) []
no_optional q operand is = rw is refl

-- `return`
pub return_expr : (q : Bool) (x : Expr) (operand : Option Expr) → x ≡ expr.Return operand
    → tok.Text (codes "return") ∷ stream_of (operand_form (option_map about_expr operand)) ≡ told q x
return_expr q x operand is = told_any q x (expr.Return operand) _ is (expr_return_is operand) (both refl)

-- `break`
pub break_expr : (q : Bool) (x : Expr) (label : Option Lifetime) (operand : Option Expr) → x ≡ expr.Break label operand
    → tok.Text (codes "break") ∷ (stream_of (label_form label Done) ++ stream_of (operand_form (option_map about_expr operand)))
    ≡ told q x
break_expr q x label operand is =
    ap (λ (s : List Tok). tok.Text (codes "break") ∷ s) (label_more label (operand_form (option_map about_expr operand)))
    ∙ told_any q x (expr.Break label operand) _ is (expr_break_is label operand) (both refl)
