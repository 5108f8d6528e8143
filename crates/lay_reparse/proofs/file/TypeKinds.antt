-- Types pass, kind by kind, given the facts about them and that what is within them passes.
use Rattle.std.proofs.Common.{◌≡◌, List, [], ◌∷◌, ◌++◌, Bool, true, false, not, ◌&&◌, refl, codes, Option, Some, None}
use Rattle.std.proofs.lemmas.Bool.{and_parts}
use Rattle.lay_piece.specs.Characters as char
use Rattle.lay_piece.specs.declared.kind.Delim.TheVariants.{Paren, Bracket}
use Rattle.lay_form.specs.Form as form
use Rattle.lay_form.specs.Form.{Blank, Form, Done, Piece, keyword, opener, closer}
use Rattle.lay_form.specs.Notation.{piece, when}
use Rattle.lay_form.specs.Pieces.{are_pieces}
use Rattle.lay_node.specs.nodes.Attr.{are_attrs, is_empty}
use Rattle.lay_node.specs.nodes.Call.{about_call}
use Rattle.lay_node.specs.nodes.Facts.{Facts, forms, all_good}
use Rattle.lay_node.specs.nodes.Types.{TypeFacts, pointer_word, type_forms, all_types_good, ArgsFacts, PathFacts, output_form, output_good, bounds_form, deeper, tuple_form, ref_lifetime, param_name, is_param_name, func_param_facts, dots, params_form, ty_facts, lifetime_form, binder_form, is_binder, abi_form, is_abi}
use Rattle.lay_node.specs.tokens.Lexed.{is_token_list}
use Rattle.lay_node.specs.tokens.Lists.{ends_in_line}
use Rattle.lay_node.specs.declared.token.Lifetime.{Lifetime}
use Rattle.lay_node.specs.declared.token.Listed.{Listed}
use Rattle.lay_node.specs.declared.types.Abi.{Abi}
use Rattle.lay_node.specs.declared.types.Arg.TheOpen.{Ty-F, FuncParam-F}
use Rattle.lay_node.specs.declared.types.Binder.{Binder}
use Rattle.lay_node.specs.declared.types.PathStyle.TheVariants as style
use Rattle.lay_node.specs.declared.tokens.MacroCall.{MacroCall}
use Rattle.lay_reparse.proofs.borders.Need as need
use Rattle.lay_reparse.proofs.borders.Need.{RawWord, Grow}
use Rattle.lay_reparse.proofs.borders.Border.{Border, Clear}
use Rattle.lay_reparse.proofs.borders.Move.{under}
use Rattle.lay_reparse.proofs.forms.Passes.{plain}
use Rattle.lay_reparse.proofs.forms.Rules.{same_whenever, tables, On, From, All, ends, fixed, dotted, part, level, list_fits, list}
use Rattle.lay_reparse.proofs.tokens.Rows.{list_end}
use Rattle.lay_reparse.proofs.tokens.Within.{listed}
use Rattle.lay_reparse.proofs.file.Nodes.{behind_word, list_pieces, both_pieces, both_all, call_passes, when_pieces}
use Rattle.lay_reparse.proofs.file.TypeParts.{ends_lifetime, ends_type, lifetime_passes, param_attrs_pass, param_attrs_pieces, binder_passes, binder_pieces, abi_passes, abi_pieces, param_name_passes, param_name_pieces}
use Rattle.lay_reparse.proofs.file.TypeArgs.{Any, Each, Passing, PathPasses, TypePasses, all_pass, bounds_pass, output_passes, types_pass}

-- ---- types

-- one level deeper
deep : {f : Form} {c : Border} → under ends_type c ≡ true → From plain f ends_type → From plain (deeper f) c
deep u k = level plain ends_type refl k (ends u)

pub deep_pieces : (f : Form) → are_pieces (deeper f) ≡ true → are_pieces f ≡ true
deep_pieces f w = (and_parts (are_pieces f) true w).0

pub path_type_pass : (path : PathFacts) → PathPasses path → TypePasses (ty_facts (Ty-F.Path path))
path_type_pass path k = record {
  go = λ g w. deep refl ((k.go style.Kind).go g (deep_pieces (path style.Kind).form w));
}

pub call_pass : (call : MacroCall) → TypePasses (ty_facts (Ty-F.Call call))
call_pass call = record {
  go = λ g w. level plain plain refl (call_passes call g (deep_pieces (about_call call).form w)) (ends refl);
}

pub paren_pass : (x : TypeFacts) → TypePasses x → TypePasses (ty_facts (Ty-F.Paren x))
unfolding tables
paren_pass x k = record {
  go = λ g w.
      let p = and_parts (are_pieces x.told.form) _ (and_parts _ true w).0 in
      deep refl (fixed refl (part plain ends_type refl (k.go g p.0) (fixed refl (ends refl))));
}

pub slice_pass : (x : TypeFacts) → TypePasses x → TypePasses (ty_facts (Ty-F.Slice x))
unfolding tables
slice_pass x k = record {
  go = λ g w.
      let p = and_parts (are_pieces x.told.form) _ (and_parts _ true w).0 in
      deep refl (fixed refl (part plain ends_type refl (k.go g p.0) (fixed refl (ends refl))));
}

-- a token list may have ended, and a `]` ends the array
pub ends_array : (line : Bool) → On (Some (Bracket ∷ [])) (list_end line) (piece (closer Bracket ∷ [])) ends_type
unfolding tables
ends_array true = fixed refl (ends refl)
ends_array false = fixed refl (ends refl)

pub array_pass : (x : TypeFacts) (length : List Listed) → TypePasses x → TypePasses (ty_facts (Ty-F.Array x length))
unfolding tables
array_pass x length k = record {
  go = λ g w.
      let n = and_parts (x.told.good && not (is_empty length)) (is_token_list length) g in
      let p = and_parts (are_pieces x.told.form) _ (and_parts _ true w).0 in
      deep refl (fixed refl (part plain ends_type refl (k.go (and_parts x.told.good _ n.0).0 p.0)
      (listed length n.1 refl (λ v. refl) refl (ends_array (ends_in_line length)))));
}

tuple_fits : list_fits true (opener Paren) (closer Paren) plain plain ends_type ends_type ≡ true
unfolding tables
tuple_fits = refl

tuple_passes : (xs : List TypeFacts) → Each TypePasses xs → all_types_good xs ≡ true
    → are_pieces (tuple_form xs) ≡ true → From plain (tuple_form xs) ends_type
unfolding tables
tuple_passes [] k g w = list true (opener Paren) (closer Paren) [] plain ends_type tuple_fits tt
tuple_passes (x ∷ []) k g w =
    fixed refl (part plain ends_type refl
    (k.0.go (and_parts x.told.good true g).0 (and_parts (are_pieces x.told.form) _ w).0) (fixed refl (ends refl)))
tuple_passes (x ∷ y ∷ xs) k g w =
    let es = type_forms (x ∷ y ∷ xs) in
    list true (opener Paren) (closer Paren) es plain ends_type tuple_fits
    (types_pass (x ∷ y ∷ xs) k g (list_pieces true (opener Paren) (closer Paren) es w))

pub tuple_pass : (xs : List TypeFacts) → Each TypePasses xs → TypePasses (ty_facts (Ty-F.Tuple xs))
tuple_pass xs k = record { go = λ g w. deep refl (tuple_passes xs k g (deep_pieces (tuple_form xs) w)) }

pub never_pass : TypePasses (ty_facts Ty-F.Never)
unfolding tables
never_pass = record { go = λ g w. deep refl (fixed refl (ends refl)) }

pub infer_pass : TypePasses (ty_facts Ty-F.Infer)
unfolding tables
infer_pass = record { go = λ g w. deep refl (fixed refl (ends refl)) }

pointer_passes : (mutable : Bool) {f : Form} → From plain f ends_type
    → From plain (Piece (form.punct char.star ∷ pointer_word mutable ∷ Blank ∷ []) f) ends_type
unfolding tables
pointer_passes true k = fixed refl k
pointer_passes false k = fixed refl k

pub pointer_pass : (mutable : Bool) (x : TypeFacts) → TypePasses x → TypePasses (ty_facts (Ty-F.Ptr mutable x))
pointer_pass mutable x k = record {
  go = λ g w.
      let p = (and_parts (are_pieces x.told.form) true (and_parts _ true w).0).0 in
      deep refl (pointer_passes mutable
      (part plain ends_type refl (k.go (and_parts x.told.good _ g).0 p) (ends refl)));
}

pub borrow_passes : (lifetime : Option Lifetime) {f : Form} {c : Border} → are_pieces (ref_lifetime lifetime f) ≡ true
    → From plain f c → From plain (ref_lifetime lifetime f) c
unfolding tables
borrow_passes None w k = k
borrow_passes (Some l) w k =
    part plain ends_lifetime refl (lifetime_passes l (and_parts (are_pieces (lifetime_form l)) _ w).0) (fixed refl k)

pub borrow_pieces : (lifetime : Option Lifetime) (f : Form) → are_pieces (ref_lifetime lifetime f) ≡ true
    → are_pieces f ≡ true
borrow_pieces None f w = w
borrow_pieces (Some l) f w = (and_parts (are_pieces (lifetime_form l)) (are_pieces f) w).1

pub reference_pass : (lifetime : Option Lifetime) (mutable : Bool) (x : TypeFacts) → TypePasses x
    → TypePasses (ty_facts (Ty-F.Ref lifetime mutable x))
unfolding tables
reference_pass lifetime mutable x k = record {
  go = λ g w.
      let e = form.Part x.told.form Done in
      let f = when mutable (keyword (codes "mut") ∷ Blank ∷ []) e in
      let p = (and_parts (are_pieces (ref_lifetime lifetime f)) true w).0 in
      let q = when_pieces mutable (keyword (codes "mut") ∷ Blank ∷ []) e (borrow_pieces lifetime f p) in
      deep refl (fixed refl (borrow_passes lifetime p (same_whenever mutable (keyword (codes "mut") ∷ Blank ∷ []) refl refl refl
      (part plain ends_type refl
      (k.go (and_parts x.told.good _ g).0 (and_parts (are_pieces x.told.form) true q).0) (ends refl)))));
}

pub bounds_type_pass : (dynamic : Bool) (xs : List Facts) → Each (Passing plain ends_type) xs
    → TypePasses (ty_facts (Ty-F.Bounds dynamic xs))
unfolding tables
bounds_type_pass true xs k = record {
  go = λ g w.
      let p = (and_parts (are_pieces (bounds_form xs)) true (and_parts _ true w).0).0 in
      deep refl (fixed refl (part plain ends_type refl (bounds_pass xs k g p) (ends refl)));
}
bounds_type_pass false xs k = record {
  go = λ g w.
      let p = (and_parts (are_pieces (bounds_form xs)) true (and_parts _ true w).0).0 in
      deep refl (fixed refl (part plain ends_type refl (bounds_pass xs k g p) (ends refl)));
}

-- ---- function types

-- a parameter of a function type, or the `...` after them, may have ended
abbrev pub ends_param : Border
ends_param = record { needs = need.Word ∷ RawWord ∷ need.Life ∷ Grow (codes "...") ∷ []; spot = Clear }

pub func_param_pass : (p : FuncParam-F Facts ArgsFacts Facts Facts Facts TypeFacts Facts PathFacts) → TypePasses p.ty
    → Passing plain ends_param (func_param_facts p)
unfolding tables
func_param_pass p k = record {
  go = λ g w.
      let n = and_parts (are_attrs false p.attrs && is_param_name p.name) _ g in
      let e = form.Part p.ty.told.form Done in
      let f = param_name p.name e in
      let q = param_attrs_pieces p.attrs f w in
      let r = param_name_pieces p.name e q in
      param_attrs_pass p.attrs (and_parts (are_attrs false p.attrs) _ n.0).0 w (param_name_passes p.name q
      (part plain ends_type refl (k.go n.1 (and_parts (are_pieces p.ty.told.form) true r).0) (ends refl)));
}

dots_pass : (variadic : Bool) → All plain (dots variadic) ends_param
unfolding tables
dots_pass true = (dotted refl (ends refl) (ends refl), tt)
dots_pass false = tt

pub params_fit : (variadic : Bool)
    → list_fits (not variadic) (opener Paren) (closer Paren) behind_word plain ends_param plain ≡ true
unfolding tables
params_fit true = refl
params_fit false = refl

pub params_pass : (params : List Facts) (variadic : Bool) → Each (Passing plain ends_param) params
    → all_good params ≡ true → are_pieces (params_form params variadic) ≡ true
    → From behind_word (params_form params variadic) plain
params_pass params variadic k g w =
    let es = forms params ++ dots variadic in
    let p = both_pieces (forms params) (dots variadic)
    (list_pieces (not variadic) (opener Paren) (closer Paren) es w) in
    list (not variadic) (opener Paren) (closer Paren) es plain ends_param (params_fit variadic)
    (both_all plain ends_param (forms params) (dots variadic) (all_pass plain ends_param params k g p.0)
    (dots_pass variadic))

pub func_pass : (binder : Option Binder) (is_unsafe : Bool) (abi : Option Abi) (params : List Facts) (variadic : Bool)
    (output : Option TypeFacts) → Each (Passing plain ends_param) params → Any TypePasses output
    → TypePasses (ty_facts (Ty-F.Func binder is_unsafe abi params variadic output))
unfolding tables
func_pass binder is_unsafe abi params variadic output k l = record {
  go = λ g w.
      let n1 = and_parts (is_binder binder && is_abi abi && all_good params) (output_good output) g in
      let n2 = and_parts (is_binder binder && is_abi abi) (all_good params) n1.0 in
      let n3 = and_parts (is_binder binder) (is_abi abi) n2.0 in
      let e = Piece (keyword (codes "fn") ∷ []) (form.Part (params_form params variadic) (output_form output)) in
      let f = abi_form abi e in
      let h = when is_unsafe (keyword (codes "unsafe") ∷ Blank ∷ []) f in
      let w1 = (and_parts (are_pieces (binder_form binder h)) true w).0 in
      let w2 = when_pieces is_unsafe (keyword (codes "unsafe") ∷ Blank ∷ []) f (binder_pieces binder h w1) in
      let w3 = and_parts (are_pieces (params_form params variadic)) (are_pieces (output_form output))
      (abi_pieces abi e w2) in
      deep refl (binder_passes binder n3.0 w1 (same_whenever is_unsafe (keyword (codes "unsafe") ∷ Blank ∷ []) refl refl refl (abi_passes abi n3.1 w2
      (fixed refl (part behind_word plain refl (params_pass params variadic k n2.1 w3.0)
      (output_passes output l n1.1 w3.1))))));
}
