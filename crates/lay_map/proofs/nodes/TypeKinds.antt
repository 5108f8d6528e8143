-- Types tell their units, kind by kind, given the facts about them, where what is within them does.
use Rattle.std.proofs.Common.{◌≡◌, ℕ, Bool, true, false, not, ◌&&◌, List, [], ◌∷◌, ◌++◌, codes, refl, Option, Some, None}
use Rattle.std.proofs.lemmas.Bool.{and_parts}
use Rattle.lay_piece.specs.Characters as char
use Rattle.lay_piece.specs.declared.kind.Delim.TheVariants.{Paren, Bracket}
use Rattle.lay_piece.specs.declared.kind.Kind.TheVariants as kind
use Rattle.lay_form.specs.Form.{Blank, Fixed, Operator, Form, Piece, keyword, opener, closer, punct, semicolon}
use Rattle.lay_form.specs.Notation.{when}
use Rattle.lay_node.specs.nodes.Attr.{are_attrs, is_empty}
use Rattle.lay_node.specs.nodes.Facts.{Facts, all_good, forms}
use Rattle.lay_node.specs.nodes.Types.{ArgsFacts, PathFacts, TypeFacts, all_types_good, bounds_word, deeper, dots, func_param_facts, is_abi, is_binder, is_param_name, output_good, params_form, pointer_word, ref_lifetime, tuple_form, ty_facts, type_forms}
use Rattle.lay_node.specs.tokens.Lexed.{is_token_list}
use Rattle.lay_node.specs.declared.token.Lifetime.{Lifetime}
use Rattle.lay_node.specs.declared.token.Listed.{Listed}
use Rattle.lay_node.specs.declared.tokens.MacroCall.{MacroCall}
use Rattle.lay_node.specs.declared.types.Abi.{Abi}
use Rattle.lay_node.specs.declared.types.Arg.TheOpen.{FuncParam-F, Ty-F}
use Rattle.lay_node.specs.declared.types.Binder.{Binder}
use Rattle.lay_node.specs.declared.types.PathStyle.TheVariants as style
use Rattle.lay_map.specs.spelling.Units.{Word}
use Rattle.lay_map.proofs.Rules.{All, Closing, Plain, Tells, deep, ends, fixed, list, part}
use Rattle.lay_map.proofs.nodes.Attrs.{call_tells, whenever}
use Rattle.lay_map.proofs.nodes.Tokens.{tokens_tell}
use Rattle.lay_map.proofs.nodes.TypeArgs.{Each, Given, NodeTells, PathTells, TypeTells, all_tell, bounds_tell, output_tells, types_tell}
use Rattle.lay_map.proofs.nodes.TypeParts.{abi_tells, binder_tells, lifetime_tells, param_attrs_tell, param_name_tells}

-- one level deeper
pub deeper_tells : {Next : List Word → Type 0} {f : Form} → Plain f → Tells Next (deeper f)
deeper_tells t = deep t ends

pub path_type : (path : PathFacts) → PathTells path → TypeTells (ty_facts (Ty-F.Path path))
path_type path k = record { go = λ g. deeper_tells ((k.go style.Kind).go g) }

pub call_type : (call : MacroCall) → TypeTells (ty_facts (Ty-F.Call call))
call_type call = record { go = λ g. deeper_tells (call_tells call g) }

-- a type in brackets
pub paren_type : (x : TypeFacts) → TypeTells x → TypeTells (ty_facts (Ty-F.Paren x))
paren_type x k = record { go = λ g. deeper_tells (fixed (opener Paren ∷ []) refl (part (k.go g) (fixed (closer Paren ∷ []) refl ends))) }

pub slice_type : (x : TypeFacts) → TypeTells x → TypeTells (ty_facts (Ty-F.Slice x))
slice_type x k = record { go = λ g. deeper_tells (fixed (opener Bracket ∷ []) refl (part (k.go g) (fixed (closer Bracket ∷ []) refl ends))) }

pub array_type : (x : TypeFacts) (length : List Listed) → TypeTells x → TypeTells (ty_facts (Ty-F.Array x length))
array_type x length k = record {
  go = λ g.
      let n1 = and_parts (x.told.good && not (is_empty length)) (is_token_list length) g in
      let n2 = and_parts x.told.good (not (is_empty length)) n1.0 in
      deeper_tells (fixed (opener Bracket ∷ []) refl
      (part (k.go n2.0) (fixed (semicolon ++ Blank ∷ []) refl (part (tokens_tell length n1.1) (fixed (closer Bracket ∷ []) refl ends)))));
}

-- ---- tuples

tuple_tells : (xs : List TypeFacts) → Each TypeTells xs → all_types_good xs ≡ true → Plain (tuple_form xs)
tuple_tells [] k g = fixed (opener Paren ∷ closer Paren ∷ []) refl ends
tuple_tells (x ∷ []) k g =
    fixed (opener Paren ∷ []) refl
    (part (k.0.go (and_parts x.told.good true g).0) (fixed (punct char.comma ∷ closer Paren ∷ []) refl ends))
tuple_tells (x ∷ y ∷ xs) k g =
    list true (opener Paren) (closer Paren) (type_forms (x ∷ y ∷ xs)) refl refl refl (λ ws. refl) (types_tell (x ∷ y ∷ xs) k g)

pub tuple_type : (xs : List TypeFacts) → Each TypeTells xs → TypeTells (ty_facts (Ty-F.Tuple xs))
tuple_type xs k = record { go = λ g. deeper_tells (tuple_tells xs k g) }

-- ---- single tokens

pub never_type : TypeTells (ty_facts Ty-F.Never)
never_type = record { go = λ g. deeper_tells (fixed (punct char.bang ∷ []) refl ends) }

pub infer_type : TypeTells (ty_facts Ty-F.Infer)
infer_type = record { go = λ g. deeper_tells (fixed (Fixed kind.Underscore (codes "_") ∷ []) refl ends) }

-- ---- pointers and references

pointer_tells : {Next : List Word → Type 0} {f : Form} (mutable : Bool) → Tells Next f
    → Tells Next (Piece (punct char.star ∷ pointer_word mutable ∷ Blank ∷ []) f)
pointer_tells true t = fixed (punct char.star ∷ pointer_word true ∷ Blank ∷ []) refl t
pointer_tells false t = fixed (punct char.star ∷ pointer_word false ∷ Blank ∷ []) refl t

pub pointer_type : (mutable : Bool) (x : TypeFacts) → TypeTells x → TypeTells (ty_facts (Ty-F.Ptr mutable x))
pointer_type mutable x k = record {
  go = λ g. deeper_tells (pointer_tells mutable (part (k.go (and_parts x.told.good (not x.several) g).0) ends));
}

pub borrow_tells : {Next : List Word → Type 0} {n : ℕ} {f : Form} (lifetime : Option Lifetime) → Closing Next n f → Closing Next n (ref_lifetime lifetime f)
borrow_tells None t = t
borrow_tells (Some l) t = part (lifetime_tells l) (fixed (Blank ∷ []) refl t)

pub mutable_tells : {Next : List Word → Type 0} {n : ℕ} {f : Form} (mutable : Bool) → Closing Next n f
    → Closing Next n (when mutable (keyword (codes "mut") ∷ Blank ∷ []) f)
mutable_tells mutable t = whenever mutable (keyword (codes "mut") ∷ Blank ∷ []) refl t

pub reference_type : (lifetime : Option Lifetime) (mutable : Bool) (x : TypeFacts) → TypeTells x
    → TypeTells (ty_facts (Ty-F.Ref lifetime mutable x))
reference_type lifetime mutable x k = record {
  go = λ g.
      deeper_tells (fixed (Fixed kind.Punct (codes "&") ∷ []) refl
      (borrow_tells lifetime (mutable_tells mutable (part (k.go (and_parts x.told.good (not x.several) g).0) ends))));
}

-- ---- bounds

pub bounds_type : (dynamic : Bool) (xs : List Facts) → Each NodeTells xs → TypeTells (ty_facts (Ty-F.Bounds dynamic xs))
bounds_type true xs k = record { go = λ g. deeper_tells (fixed (bounds_word true ∷ Blank ∷ []) refl (part (bounds_tell xs k g) ends)) }
bounds_type false xs k = record { go = λ g. deeper_tells (fixed (bounds_word false ∷ Blank ∷ []) refl (part (bounds_tell xs k g) ends)) }

-- ---- function types

pub func_param : (p : FuncParam-F Facts ArgsFacts Facts Facts Facts TypeFacts Facts PathFacts) → TypeTells p.ty → NodeTells (func_param_facts p)
func_param p k = record {
  go = λ g.
      let n1 = and_parts (are_attrs false p.attrs && is_param_name p.name) p.ty.told.good g in
      let n2 = and_parts (are_attrs false p.attrs) (is_param_name p.name) n1.0 in
      param_attrs_tell p.attrs n2.0 (param_name_tells p.name (part (k.go n1.1) ends));
}

with_dots : (es : List Form) (variadic : Bool) → All Plain es → All Plain (es ++ dots variadic)
with_dots [] true t = (fixed (Operator (codes "...") ∷ []) refl ends, tt)
with_dots [] false t = tt
with_dots (e ∷ es) variadic t = (t.0, with_dots es variadic t.1)

params_tell : (params : List Facts) (variadic : Bool) → Each NodeTells params → all_good params ≡ true → Plain (params_form params variadic)
params_tell params variadic k g =
    list (not variadic) (opener Paren) (closer Paren) (forms params ++ dots variadic) refl refl refl (λ ws. refl)
    (with_dots (forms params) variadic (all_tell params k g))

pub func_type : (binder : Option Binder) (is_unsafe : Bool) (abi : Option Abi) (params : List Facts) (variadic : Bool) (output : Option TypeFacts)
    → Each NodeTells params → Given TypeTells output → TypeTells (ty_facts (Ty-F.Func binder is_unsafe abi params variadic output))
func_type binder is_unsafe abi params variadic output k l = record {
  go = λ g.
      let n1 = and_parts (is_binder binder && is_abi abi && all_good params) (output_good output) g in
      let n2 = and_parts (is_binder binder && is_abi abi) (all_good params) n1.0 in
      let n3 = and_parts (is_binder binder) (is_abi abi) n2.0 in
      deeper_tells (binder_tells binder n3.0 (whenever is_unsafe (keyword (codes "unsafe") ∷ Blank ∷ []) refl
      (abi_tells abi n3.1 (fixed (keyword (codes "fn") ∷ []) refl
      (part (params_tell params variadic k n2.1) (output_tells output l n1.1))))));
}
