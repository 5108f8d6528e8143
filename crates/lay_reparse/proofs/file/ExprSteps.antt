-- Steps after the base of a postfix expression pass, and fields of struct literals, given that the expressions within
-- them pass.
use Rattle.std.proofs.Common.{◌≡◌, ℕ, List, [], ◌∷◌, Bool, true, false, not, ◌&&◌, ◌||◌, refl, map, Option, Some, None}
use Rattle.std.proofs.lemmas.Bool.{and_parts, and_from}
use Rattle.lay_piece.specs.declared.kind.Kind.TheVariants as kind
use Rattle.lay_form.specs.Form as form
use Rattle.lay_form.specs.Form.{Form, Done, Piece, Leaf, opener, closer}
use Rattle.lay_form.specs.Pieces.{is_text_of, are_pieces}
use Rattle.lay_node.specs.Words.{is_name, leaf_of}
use Rattle.lay_node.specs.nodes.Attr.{are_attrs, attr_form}
use Rattle.lay_node.specs.nodes.Facts.{forms}
use Rattle.lay_node.specs.nodes.Types.{less, greater, angle_form, about_arg, colon}
use Rattle.lay_node.specs.declared.attr.Attr.{Attr}
use Rattle.lay_node.specs.declared.token.Name.{Name}
use Rattle.lay_node.specs.declared.types.Arg.{Arg}
use Rattle.lay_code.specs.nodes.Exprs.{ExprFacts, placed, all_free, StepKind, StepFacts, is_field, is_tuple_index, is_method, is_call, generics_form, are_generics, args_form, step_facts, are_steps, first_step, break_if, steps_form, field_facts}
use Rattle.lay_code.specs.nodes.Places.{FREE}
use Rattle.lay_code.specs.declared.blocks.Stmt.TheOpen.{FieldExpr-F, Step-F}
use Rattle.lay_reparse.proofs.borders.Border.{Border, Point, At}
use Rattle.lay_reparse.proofs.borders.Move.{under}
use Rattle.lay_reparse.proofs.forms.Passes.{plain, fits}
use Rattle.lay_reparse.proofs.forms.Rules.{tables, From, ends, fixed, dotted, tree_token, breaks, within, part, with_outer, list_fits, list}
use Rattle.lay_reparse.proofs.texts.Laid.{raw}
use Rattle.lay_reparse.proofs.texts.LaidTokens.{text_laid}
use Rattle.lay_reparse.proofs.file.Nodes.{behind_word, behind_raw, start_path, ends_line, word, rest_pieces, list_pieces, outer_pieces, attrs_pass}
use Rattle.lay_reparse.proofs.file.TypeParts.{ends_type, ends_arg, int_passes}
use Rattle.lay_reparse.proofs.file.TypeArgs.{Each, Passing, all_pass}
use Rattle.lay_reparse.proofs.file.Types.{arg_passes}
use Rattle.lay_reparse.proofs.file.ExprParts.{ends_base, ends_operand, ends_expr, ends_by}
use Rattle.lay_reparse.proofs.file.ExprPlaces.{ExprPasses, free_expr, args_passes}

-- ---- the facts about a step

-- where it may begin: a tuple index not after a number without suffix
abbrev pub step_start : StepKind → Border
step_start k = ends_by false (is_tuple_index k)

pub record StepPasses (s : StepFacts) : Type 0 where
  pub go : s.good ≡ true → are_pieces s.form ≡ true → From (step_start s.kind) s.form ends_base

-- ---- kinds of steps

-- a field
pub field_step_pass : (name : Name) → StepPasses (step_facts (Step-F.Field name))
unfolding tables
field_step_pass name = record {
  go = λ g w.
      dotted refl (word name.raw name.text refl w (ends refl) (ends refl))
      (word name.raw name.text refl w (ends refl) (ends refl));
}

-- a tuple index, after whose point a number is an index
pub tuple_index_pass : (index : List ℕ) → StepPasses (step_facts (Step-F.TupleIndex index))
unfolding tables
tuple_index_pass index = record {
  go = λ g w.
      let laid = (text_laid kind.Int index refl (and_parts (is_text_of kind.Int index) true w).0).1 in
      let f = and_from (fits (At Point) kind.Int (raw kind.Int index)) _ g laid in
      dotted refl (tree_token refl f (ends refl)) (tree_token refl f (ends refl));
}

generics_fit : list_fits true less greater start_path plain ends_arg ends_type ≡ true
unfolding tables
generics_fit = refl

each_arg : (args : List Arg) → Each (Passing plain ends_arg) (map about_arg args)
each_arg [] = tt
each_arg (x ∷ xs) = (arg_passes x, each_arg xs)

-- after the name of a method: its generic arguments, if there are any, and its arguments
generics_pass : (generics : Option (List Arg)) {f : Form} → are_generics generics ≡ true
    → are_pieces (generics_form generics (form.Part f Done)) ≡ true → From ends_operand f ends_base
    → From behind_word (generics_form generics (form.Part f Done)) ends_base
    × From behind_raw (generics_form generics (form.Part f Done)) ends_base
unfolding tables
generics_pass None g w k = (part ends_operand ends_base refl k (ends refl), part ends_operand ends_base refl k (ends refl))
generics_pass (Some args) {f} g w k =
    let es = forms (map about_arg args) in
    let p = and_parts (are_pieces (angle_form (map about_arg args))) _ w in
    let z = part start_path ends_type refl
    (list true less greater es plain ends_arg generics_fit
    (all_pass plain ends_arg (map about_arg args) (each_arg args) g (list_pieces true less greater es p.0)))
    (part ends_operand ends_base refl k (ends refl)) in
    (fixed refl z, fixed refl z)

-- the arguments after them are made of pieces
generics_pieces : (generics : Option (List Arg)) (f : Form) → are_pieces (generics_form generics (form.Part f Done)) ≡ true
    → are_pieces f ≡ true
generics_pieces None f w = (and_parts (are_pieces f) true w).0
generics_pieces (Some args) f w =
    (and_parts (are_pieces f) true (and_parts (are_pieces (angle_form (map about_arg args))) _ w).1).0

pub method_pass : (name : Name) (generics : Option (List Arg)) (args : List ExprFacts) → Each ExprPasses args
    → StepPasses (step_facts (Step-F.Method name generics args))
unfolding tables
method_pass name generics args k = record {
  go = λ g w.
      let f = args_form args in
      let n1 = and_parts (is_name name.raw name.text && are_generics generics) (all_free args) g in
      let n2 = and_parts (is_name name.raw name.text) (are_generics generics) n1.0 in
      let q = rest_pieces name.raw name.text (generics_form generics (form.Part f Done)) w in
      let a = args_passes args k n1.1 (generics_pieces generics f q) in
      let z = generics_pass generics n2.1 q a in
      dotted refl (word name.raw name.text refl w z.0 z.1) (word name.raw name.text refl w z.0 z.1);
}

pub apply_pass : (args : List ExprFacts) → Each ExprPasses args → StepPasses (step_facts (Step-F.Apply args))
apply_pass args k = record { go = λ g w. args_passes args k g w }

pub index_step_pass : (x : ExprFacts) → ExprPasses x → StepPasses (step_facts (Step-F.Index x))
unfolding tables
index_step_pass x k = record {
  go = λ g w.
      let p = and_parts (are_pieces x.form) true (and_parts (are_pieces x.form && true) true w).0 in
      within ends_operand ends_base refl
      (fixed refl (breaks refl (part plain ends_expr refl (free_expr x k g p.0)
      (breaks refl (fixed refl (ends refl))))))
      (ends refl);
}

pub try_pass : StepPasses (step_facts Step-F.Try)
unfolding tables
try_pass = record { go = λ g w. fixed refl (ends refl) }

pub await_pass : StepPasses (step_facts Step-F.Await)
unfolding tables
await_pass = record { go = λ g w. dotted refl (ends refl) (ends refl) }

-- ---- steps one after the other

-- The first is good, and so are those after it.
step_parts : (s : StepFacts) (more : List StepFacts) → are_steps (s ∷ more) ≡ true
    → (s.good ≡ true) × (are_steps more ≡ true)
step_parts s [] g = (g, refl)
step_parts s (t ∷ more) g =
    let q = and_parts (s.good && not (is_field s.kind && is_call t.kind)) _ g in
    ((and_parts s.good _ q.0).0, q.1)

-- a break that may stand before a step
broken : (base is_broken : Bool) {f : Form} {c : Border} → From (ends_by false base) f c
    → From (ends_by false base) (break_if is_broken f) c
broken base false k = k
broken true true k = breaks refl k
broken false true k = breaks refl k

broken_pieces : (is_broken : Bool) (f : Form) → are_pieces (break_if is_broken f) ≡ true → are_pieces f ≡ true
broken_pieces true f w = w
broken_pieces false f w = w

-- A step begins after a base, where it isn't a tuple index after a number without suffix.
starts : (base index : Bool) → base || not index ≡ true → under (ends_by false base) (ends_by false index) ≡ true
starts true true h = refl
starts true false h = refl
starts false true h = cc
starts false false h = refl

-- The flag says that a tuple index may be the first.
pub steps_pass : (several behind base : Bool) (steps : List StepFacts) → Each StepPasses steps → are_steps steps ≡ true
    → base || not (first_step is_tuple_index steps) ≡ true → are_pieces (steps_form several behind steps) ≡ true
    → From (ends_by false base) (steps_form several behind steps) ends_operand
steps_pass several behind true [] k g h w = ends refl
steps_pass several behind false [] k g h w = ends refl
steps_pass several behind base (s ∷ more) k g h w =
    let n = step_parts s more g in
    let before = several && (behind && is_method s.kind) in
    let p = and_parts (are_pieces s.form) _
    (broken_pieces before (form.Part s.form (steps_form several (behind || is_method s.kind) more)) w) in
    broken base before (part (step_start s.kind) ends_base (starts base (is_tuple_index s.kind) h)
    (k.0.go n.0 p.0) (steps_pass several (behind || is_method s.kind) true more k.1 n.1 refl p.1))

-- ---- fields

pub named_pass : (attrs : List Attr) (name : Name) (x : ExprFacts) → ExprPasses x
    → Passing plain ends_expr (field_facts (FieldExpr-F.Named attrs name x))
unfolding tables
named_pass attrs name x k = record {
  go = λ g w.
      let e = Piece colon (form.Part x.form Done) in
      let es = map attr_form attrs in
      let n1 = and_parts (are_attrs false attrs && is_name name.raw name.text) (placed x FREE) g in
      let n2 = and_parts (are_attrs false attrs) (is_name name.raw name.text) n1.0 in
      let q = outer_pieces es (leaf_of name.raw name.text e) w in
      let p = (and_parts (are_pieces x.form) true (rest_pieces name.raw name.text e q.1)).0 in
      let z = part plain ends_expr refl (free_expr x k n1.1 p) (ends refl) in
      with_outer es ends_line refl (attrs_pass false attrs n2.0 q.0)
      (word name.raw name.text refl q.1 (fixed refl z) (fixed refl z));
}

pub numbered_pass : (attrs : List Attr) (index : List ℕ) (x : ExprFacts) → ExprPasses x
    → Passing plain ends_expr (field_facts (FieldExpr-F.Numbered attrs index x))
unfolding tables
numbered_pass attrs index x k = record {
  go = λ g w.
      let e = Piece colon (form.Part x.form Done) in
      let es = map attr_form attrs in
      let n = and_parts (are_attrs false attrs) (placed x FREE) g in
      let q = outer_pieces es (Leaf kind.Int index e) w in
      let r = and_parts (is_text_of kind.Int index) _ q.1 in
      let z = part plain ends_expr refl (free_expr x k n.1 (and_parts (are_pieces x.form) true r.1).0) (ends refl) in
      with_outer es ends_line refl (attrs_pass false attrs n.0 q.0) (int_passes index r.0 (fixed refl z) (fixed refl z));
}

pub short_pass : (attrs : List Attr) (name : Name) → Passing plain ends_expr (field_facts (FieldExpr-F.Short attrs name))
unfolding tables
short_pass attrs name = record {
  go = λ g w.
      let es = map attr_form attrs in
      let n = and_parts (are_attrs false attrs) (is_name name.raw name.text) g in
      let q = outer_pieces es (leaf_of name.raw name.text Done) w in
      with_outer es ends_line refl (attrs_pass false attrs n.0 q.0)
      (word name.raw name.text refl q.1 (ends refl) (ends refl));
}
