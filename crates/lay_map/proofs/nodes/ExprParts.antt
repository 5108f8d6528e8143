-- The facts about expressions and about the steps and fields within them, whose forms tell their units.
use Rattle.std.proofs.Common.{◌≡◌, ℕ, Bool, true, false, not, ◌&&◌, ◌||◌, List, [], ◌∷◌, ◌++◌, codes, refl, map, Option, Some, None}
use Rattle.std.proofs.lemmas.Bool.{and_parts}
use Rattle.lay_piece.specs.declared.kind.Delim.TheVariants.{Paren, Bracket}
use Rattle.lay_piece.specs.declared.kind.Kind.TheVariants as kind
use Rattle.lay_form.specs.Form.{Bit, Soft, Operator, Form, Piece, keyword, opener, closer}
use Rattle.lay_form.specs.Notation.{comma_list}
use Rattle.lay_node.specs.Words.{colons, is_name}
use Rattle.lay_node.specs.nodes.Attr.{are_attrs, attr_form}
use Rattle.lay_node.specs.nodes.Facts.{Facts}
use Rattle.lay_node.specs.nodes.Types.{colon, deeper}
use Rattle.lay_node.specs.declared.attr.Attr.{Attr}
use Rattle.lay_node.specs.declared.token.Name.{Name}
use Rattle.lay_node.specs.declared.types.Arg.{Arg}
use Rattle.lay_code.specs.nodes.Exprs.{ExprFacts, StepFacts, all_free, are_generics, are_steps, args_form, break_if, expr_forms, field_facts, generics_form, is_call, is_field, is_method, placed, stands, step_facts, steps_form}
use Rattle.lay_code.specs.nodes.Places.{FREE, begins}
use Rattle.lay_code.specs.declared.blocks.Stmt.TheOpen.{FieldExpr-F, Step-F}
use Rattle.lay_code.specs.declared.exprs.Place.{Place}
use Rattle.lay_map.specs.spelling.Choice.{firm_bits}
use Rattle.lay_map.specs.spelling.Units.{Word}
use Rattle.lay_map.proofs.Rules.{All, Firm, Plain, Tells, brk, deep, ends, firm_deep, firm_fixed, firm_group, firm_leaf, fixed, group, leaf, list, part}
use Rattle.lay_map.proofs.nodes.Attrs.{attrs_firm, attrs_firm_then, attrs_lined, attrs_then, firm_word, word}
use Rattle.lay_map.proofs.nodes.TypeArgs.{Each}
use Rattle.lay_map.proofs.nodes.Types.{angle_args_tell}

-- ---- both of two lists

pub both_all : (P : Form → Type 0) (xs ys : List Form) → All P xs → All P ys → All P (xs ++ ys)
both_all P [] ys a b = b
both_all P (x ∷ xs) ys a b = (a.0, both_all P xs ys a.1 b)

-- ---- what is told

-- The form tells its units whatever follows, and begins with a token that isn't dropped.
pub record Sound (f : Form) : Type 0 where
  pub tells : Plain f
  pub firm_is : Firm f

pub deeper_sound : {f : Form} → Sound f → Sound (deeper f)
deeper_sound s = record { tells = deep s.tells ends; firm_is = firm_deep s.firm_is }

-- an expression within which all stands in its places
pub record ExprTells (x : ExprFacts) : Type 0 where
  pub go : (no_struct first : Bool) → x.within no_struct first ≡ true → Sound x.form

pub record FieldTells (x : Facts) : Type 0 where
  pub go : x.good ≡ true → Sound x.form

pub record StepTells (x : StepFacts) : Type 0 where
  pub go : x.good ≡ true → Plain x.form

-- in its place
pub at_place : (x : ExprFacts) → ExprTells x → (p : Place) → placed x p ≡ true → Sound x.form
at_place x k p g = k.go p.no_struct (begins p.start) (and_parts (stands x p) _ g).1

pub frees_tell : (xs : List ExprFacts) → Each ExprTells xs → all_free xs ≡ true → All Plain (expr_forms xs)
frees_tell [] k g = tt
frees_tell (x ∷ xs) k g =
    let p = and_parts (placed x FREE) (all_free xs) g in
    ((at_place x k.0 FREE p.0).tells, frees_tell xs k.1 p.1)

-- ---- lists in parentheses

pub list_firm : (may : Bool) (opening closing : Bit) (es : List Form) → firm_bits (opening ∷ closing ∷ []) false ≡ true → firm_bits (opening ∷ []) false ≡ true
    → Firm (comma_list may opening closing es)
list_firm may opening closing [] h k = firm_fixed (opening ∷ closing ∷ []) h
list_firm may opening closing (e ∷ es) h k = firm_group true 4 (firm_fixed (opening ∷ []) k)

pub args_tell : {Next : List Word → Type 0} (xs : List ExprFacts) → Each ExprTells xs → all_free xs ≡ true → Tells Next (args_form xs)
args_tell xs k g = list true (opener Paren) (closer Paren) (expr_forms xs) refl refl refl (λ ws. refl) (frees_tell xs k g)

-- ---- steps

dotted : {Next : List Word → Type 0} {f : Form} → Tells Next f → Tells Next (Piece (Operator (codes ".") ∷ []) f)
dotted t = fixed (Operator (codes ".") ∷ []) refl t

generics_tell : {Next : List Word → Type 0} {f : Form} (generics : Option (List Arg)) → are_generics generics ≡ true → Tells Next f
    → Tells Next (generics_form generics f)
generics_tell None g t = t
generics_tell (Some args) g t = fixed colons refl (part (angle_args_tell args g) t)

pub field_step_tells : (name : Name) → StepTells (step_facts (Step-F.Field name))
field_step_tells name = record { go = λ g. dotted (word name.raw name.text ends) }

pub tuple_index_tells : (index : List ℕ) → StepTells (step_facts (Step-F.TupleIndex index))
tuple_index_tells index = record { go = λ g. dotted (leaf kind.Int index refl ends) }

pub method_tells : (name : Name) (generics : Option (List Arg)) (args : List ExprFacts) → Each ExprTells args
    → StepTells (step_facts (Step-F.Method name generics args))
method_tells name generics args k = record {
  go = λ g.
      let n = and_parts (is_name name.raw name.text && are_generics generics) (all_free args) g in
      let m = and_parts (is_name name.raw name.text) (are_generics generics) n.0 in
      dotted (word name.raw name.text (generics_tell generics m.1 (part (args_tell args k n.1) ends)));
}

pub apply_tells : (args : List ExprFacts) → Each ExprTells args → StepTells (step_facts (Step-F.Apply args))
apply_tells args k = record { go = λ g. args_tell args k g }

pub index_step_tells : (x : ExprFacts) → ExprTells x → StepTells (step_facts (Step-F.Index x))
index_step_tells x k = record {
  go = λ g.
      group true 4 (fixed (opener Bracket ∷ []) refl (brk (Soft false 0) (part (at_place x k FREE g).tells
      (brk (Soft true 0) (fixed (closer Bracket ∷ []) refl ends))))) ends;
}

pub try_tells : StepTells (step_facts Step-F.Try)
try_tells = record { go = λ g. fixed (Operator (codes "?") ∷ []) refl ends }

pub await_tells : StepTells (step_facts Step-F.Await)
await_tells = record { go = λ g. fixed (Operator (codes ".") ∷ keyword (codes "await") ∷ []) refl ends }

-- ---- steps one after the other

broken : {f : Form} (b : Bool) → Plain f → Plain (break_if b f)
broken true t = brk (Soft false 0) t
broken false t = t

-- The first is good, and so are those after it.
step_parts : (s : StepFacts) (more : List StepFacts) → are_steps (s ∷ more) ≡ true → (s.good ≡ true) × (are_steps more ≡ true)
step_parts s [] g = (g, refl)
step_parts s (t ∷ more) g =
    let q = and_parts (s.good && not (is_field s.kind && is_call t.kind)) (are_steps (t ∷ more)) g in
    ((and_parts s.good (not (is_field s.kind && is_call t.kind)) q.0).0, q.1)

pub steps_tell : (several behind : Bool) (steps : List StepFacts) → Each StepTells steps → are_steps steps ≡ true
    → Plain (steps_form several behind steps)
steps_tell several behind [] k g = ends
steps_tell several behind (s ∷ more) k g =
    let n = step_parts s more g in
    broken (several && (behind && is_method s.kind)) (part (k.0.go n.0) (steps_tell several (behind || is_method s.kind) more k.1 n.1))

-- ---- fields

pub named_tells : (attrs : List Attr) (name : Name) (x : ExprFacts) → ExprTells x → FieldTells (field_facts (FieldExpr-F.Named attrs name x))
named_tells attrs name x k = record {
  go = λ g.
      let n = and_parts (are_attrs false attrs && is_name name.raw name.text) (placed x FREE) g in
      let m = and_parts (are_attrs false attrs) (is_name name.raw name.text) n.0 in
      record {
        tells = attrs_then (map attr_form attrs) (attrs_lined false attrs m.0)
            (word name.raw name.text (fixed colon refl (part (at_place x k FREE n.1).tells ends)));
        firm_is = attrs_firm_then (map attr_form attrs) (attrs_firm attrs) (firm_word _ name.raw name.text);
      };
}

pub numbered_tells : (attrs : List Attr) (index : List ℕ) (x : ExprFacts) → ExprTells x → FieldTells (field_facts (FieldExpr-F.Numbered attrs index x))
numbered_tells attrs index x k = record {
  go = λ g.
      let n = and_parts (are_attrs false attrs) (placed x FREE) g in
      record {
        tells = attrs_then (map attr_form attrs) (attrs_lined false attrs n.0)
            (leaf kind.Int index refl (fixed colon refl (part (at_place x k FREE n.1).tells ends)));
        firm_is = attrs_firm_then (map attr_form attrs) (attrs_firm attrs) (firm_leaf kind.Int index refl);
      };
}

pub short_tells : (attrs : List Attr) (name : Name) → FieldTells (field_facts (FieldExpr-F.Short attrs name))
short_tells attrs name = record {
  go = λ g.
      let n = and_parts (are_attrs false attrs) (is_name name.raw name.text) g in
      record {
        tells = attrs_then (map attr_form attrs) (attrs_lined false attrs n.0) (word name.raw name.text ends);
        firm_is = attrs_firm_then (map attr_form attrs) (attrs_firm attrs) (firm_word _ name.raw name.text);
      };
}
