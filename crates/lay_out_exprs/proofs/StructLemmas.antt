-- The streams of struct literals and of their fields.
use Rattle.std.proofs.Common.{◌≡◌, ℕ, ◌==◌, Bool, true, false, not, cond, List, [], ◌∷◌, ◌++◌, map, length, codes, is_some, Option, option_map, Some, None, refl, sym, ap, subst, ◌∙◌, append_assoc, append-nil, OnOk, Result}
use Rattle.lay_layout.specs.Machine.{IsNested}
use Rattle.lay_layout.specs.declared.layout.Tok.{Tok}
use Rattle.lay_layout.specs.declared.layout.Tok.TheVariants as tok
use Rattle.lay_piece.specs.declared.kind.Kind.TheVariants as kind
use Rattle.lay_stream.specs.Fed.{Meanings}
use Rattle.lay_form.specs.Form.{Form, Operator, Done, Leaf, Part, Piece}
use Rattle.lay_form.specs.Notation.{behind_attrs, braces}
use Rattle.lay_form.specs.Stream.{fed, stream_of}
use Rattle.lay_node.specs.Words.{leaf_of}
use Rattle.lay_node.specs.nodes.Attr.{attr_form}
use Rattle.lay_node.specs.nodes.Facts.{Facts}
use Rattle.lay_node.specs.nodes.Types.{about_path, colon}
use Rattle.lay_node.specs.declared.attr.Attr.{Attr}
use Rattle.lay_node.specs.declared.token.Name.{Name}
use Rattle.lay_node.specs.declared.types.Path.{Path}
use Rattle.lay_node.specs.declared.types.PathStyle.TheVariants.{Code}
use Rattle.lay_code.specs.nodes.Code.{about_expr, about_field_expr}
use Rattle.lay_code.specs.nodes.Exprs.{base_form, end_form}
use Rattle.lay_code.specs.declared.exprs.Expr.{Expr}
use Rattle.lay_code.specs.declared.exprs.Expr.TheVariants as expr
use Rattle.lay_code.specs.declared.exprs.FieldExpr.{FieldExpr}
use Rattle.lay_code.specs.declared.exprs.FieldExpr.TheVariants as field
use Rattle.lay_code.proofs.nodes.ExprsLaws.{expr_struct_is, field_expr_named_is, field_expr_numbered_is, field_expr_short_is}
use Rattle.lay_out_tokens.proofs.StreamParts.{leaf_more}
use Rattle.lay_out_types.specs.Calls.{Adds}
use Rattle.lay_out_pats.specs.PatternRows.{braces_closed, braces_opened}
use Rattle.lay_out_types.specs.Rows.{comma_between, row}
use Rattle.lay_out_pats.proofs.FieldLemmas.{braces_are, lines_more, may_close_braces}
use Rattle.lay_out_types.proofs.FormRows.{none_is, one_there, row_end}
use Rattle.lay_out_pats.proofs.PathEnds.{path_any}
use Rattle.lay_out_exprs.specs.Parts.{base_facts, base_told, expr_told, field_told, fields_form}
use Rattle.lay_out_exprs.proofs.Feeds.{Any, both, part_at}
use Rattle.lay_out_exprs.proofs.ExprLemmas.{told, told_is}

-- ---- fields

-- it is of this kind
field_is : (x y : FieldExpr) (facts : Facts) → x ≡ y → about_field_expr y ≡ facts
    → stream_of facts.form ≡ stream_of (field_told x)
field_is x y facts is e =
    sym (ap (λ (z : FieldExpr). stream_of (field_told z)) is ∙ ap (λ (z : Facts). stream_of z.form) e)

-- a field with a name, with a number, and one that has the name of its value
pub named_field : (x : FieldExpr) (attrs put : List Attr) (name : Name) (value : Expr) → x ≡ field.Named attrs name value
    → put ≡ attrs
    → stream_of (behind_attrs (map attr_form put) Done)
    ++ (stream_of (leaf_of name.raw name.text Done) ++ (tok.Text (codes ": ") ∷ told false value)) ≡ stream_of (field_told x)
named_field x attrs put name value is e =
    let f = Piece colon (Part (expr_told value) Done) in
    rw e (ap (λ (s : List Tok). stream_of (behind_attrs (map attr_form attrs) Done) ++ s) (leaf_more name.raw name.text f)
    ∙ lines_more (map attr_form attrs) (leaf_of name.raw name.text f)
    ∙ field_is x (field.Named attrs name value) _ is (field_expr_named_is attrs name value))

pub numbered_field : (x : FieldExpr) (attrs put : List Attr) (index text : List ℕ) (value : Expr)
    → x ≡ field.Numbered attrs index value → put ≡ attrs → text ≡ index
    → stream_of (behind_attrs (map attr_form put) Done) ++ (tok.Text text ∷ tok.Text (codes ": ") ∷ told false value)
    ≡ stream_of (field_told x)
numbered_field x attrs put index text value is e same =
    rw (e, same) (lines_more (map attr_form attrs) (Leaf kind.Int index (Piece colon (Part (expr_told value) Done)))
    ∙ field_is x (field.Numbered attrs index value) _ is (field_expr_numbered_is attrs index value))

pub short_field : (x : FieldExpr) (attrs put : List Attr) (name : Name) → x ≡ field.Short attrs name → put ≡ attrs
    → stream_of (behind_attrs (map attr_form put) Done) ++ stream_of (leaf_of name.raw name.text Done)
    ≡ stream_of (field_told x)
short_field x attrs put name is e =
    rw e (lines_more (map attr_form attrs) (leaf_of name.raw name.text Done)
    ∙ field_is x (field.Short attrs name) _ is (field_expr_short_is attrs name))

-- ---- braces

-- the `..` after fields, and its base
abbrev base_of : Option Expr → Form
base_of x = Piece (Operator (codes "..") ∷ []) (end_form (option_map about_expr x) Done)

-- the base is the last of what stands in the braces
one_base : (x : Option Expr) → base_of x ∷ [] ≡ base_form (Some (option_map about_expr x))
one_base None = refl
one_base (Some x) = refl

-- fields without a base after them
no_base : (fields : List FieldExpr) (bare : Bool) (base : Option (Option Expr)) → bare ≡ (length fields == 0) → base ≡ None
    → row braces_opened comma_between (map field_told fields) ++ braces_closed true bare ≡ stream_of (fields_form fields base)
no_base fields bare base none is =
    let es = map field_told fields in
    rw is (braces_are true es bare (none_is field_told fields bare none)
    ∙ ap (λ (fs : List Form). stream_of (braces true fs)) (sym (append-nil es)))

-- fields with a base
with_base : (fields : List FieldExpr) (bare : Bool) (base : Option (Option Expr)) (x : Option Expr)
    → bare ≡ (length fields == 0) → base ≡ Some x
    → row braces_opened comma_between (map field_told fields) ++ (cond bare braces_opened comma_between
    ++ (tok.Text (codes "..") ∷ (base_told x ++ braces_closed false false)))
    ≡ stream_of (fields_form fields base)
with_base fields bare base x none is =
    let es = map field_told fields in
    let f = base_of x in
    rw is (ap (λ (s : List Tok). row braces_opened comma_between es ++ s)
    (sym (append_assoc (cond bare braces_opened comma_between) (stream_of f) (braces_closed false false)))
    ∙ sym (append_assoc (row braces_opened comma_between es) (cond bare braces_opened comma_between ++ stream_of f)
    (braces_closed false false))
    ∙ ap (λ (s : List Tok). s ++ braces_closed false false)
    (row_end braces_opened comma_between es f bare (none_is field_told fields bare none))
    ∙ braces_are false (es ++ f ∷ []) false (one_there es f)
    ∙ ap (λ (fs : List Form). stream_of (braces false (es ++ fs))) (one_base x))

-- Braces may be closed after the base.
pub may_close_base : {S F T : Type 0} {m : Meanings S F} {a b : S} {p q : Result T F} (fields : List FieldExpr) (bare : Bool)
    (x : Option Expr) → bare ≡ (length fields == 0)
    → Adds m p a (row braces_opened comma_between (map field_told fields) ++ (cond bare braces_opened comma_between
    ++ (tok.Text (codes "..") ∷ base_told x))) q b
    → OnOk q (IsNested (m.groups b) (braces_closed false false))
may_close_base {m} {a} {b} {p} {q} fields bare x none h =
    let es = map field_told fields in
    let f = base_of x in
    may_close_braces false (es ++ f ∷ []) false (one_there es f)
    (subst (λ (s : List Tok). Adds m p a s q b) (row_end braces_opened comma_between es f bare (none_is field_told fields bare none)) h)

-- ---- struct literals

-- the facts about each, and then its form
forms_are : (xs : List FieldExpr) → map field_told xs ≡ map (λ (x : Facts). x.form) (map about_field_expr xs)
forms_are [] = refl
forms_are (x ∷ xs) = ap (λ (es : List Form). field_told x ∷ es) (forms_are xs)

-- Braces are fed alike after a point.
braces_any : (may : Bool) (es : List Form) → Any (braces may es)
braces_any may [] = both refl
braces_any may (e ∷ es) = both refl

-- a path and its fields
struct_is : (q : Bool) (x : Expr) (path : Path) (fields put : List FieldExpr) (base : Option (Option Expr))
    → x ≡ expr.Struct path fields base → put ≡ fields
    → stream_of (about_path path Code).form ++ stream_of (fields_form put base) ≡ told q x
struct_is q x path fields put base is same =
    let may = not (is_some (base_facts base)) in
    let es = map field_told put ++ base_form (base_facts base) in
    ap (λ (s : List Tok). s ++ stream_of (fields_form put base)) (sym (path_any path q))
    ∙ part_at q (about_path path Code).form (braces may es) (braces_any may es)
    ∙ ap (λ (fs : List Form). fed q (Part (about_path path Code).form (braces may (fs ++ base_form (base_facts base)))) [])
    (forms_are put)
    ∙ told_is q x (expr.Struct path put base) _ (is ∙ ap (λ (fs : List FieldExpr). expr.Struct path fs base) (sym same))
    (expr_struct_is path put base)

-- a struct literal without a base, and with one
pub bare_struct : (q : Bool) (x : Expr) (path : Path) (fields put : List FieldExpr) (base : Option (Option Expr)) (bare : Bool)
    → x ≡ expr.Struct path fields base → put ≡ fields → bare ≡ (length put == 0) → base ≡ None
    → stream_of (about_path path Code).form ++ (row braces_opened comma_between (map field_told put) ++ braces_closed true bare)
    ≡ told q x
bare_struct q x path fields put base bare is same none e =
    ap (λ (s : List Tok). stream_of (about_path path Code).form ++ s) (no_base put bare base none e)
    ∙ struct_is q x path fields put base is same

pub based_struct : (q : Bool) (x : Expr) (path : Path) (fields put : List FieldExpr) (base : Option (Option Expr)) (bare : Bool)
    (y : Option Expr) → x ≡ expr.Struct path fields base → put ≡ fields → bare ≡ (length put == 0) → base ≡ Some y
    → stream_of (about_path path Code).form ++ (row braces_opened comma_between (map field_told put)
    ++ ((cond bare braces_opened comma_between ++ (tok.Text (codes "..") ∷ base_told y)) ++ braces_closed false false)) ≡ told q x
based_struct q x path fields put base bare y is same none e =
    ap (λ (s : List Tok). stream_of (about_path path Code).form ++ (row braces_opened comma_between (map field_told put) ++ s))
    (append_assoc (cond bare braces_opened comma_between) (tok.Text (codes "..") ∷ base_told y) (braces_closed false false))
    ∙ ap (λ (s : List Tok). stream_of (about_path path Code).form ++ s) (with_base put bare base y none e)
    ∙ struct_is q x path fields put base is same
