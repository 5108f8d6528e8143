-- The heads of functions tell their units.
use Rattle.std.proofs.Common.{◌≡◌, Bool, true, false, not, ◌&&◌, List, [], ◌∷◌, ◌++◌, codes, map, refl, Option, Some, None}
use Rattle.std.specs.List.{list_all}
use Rattle.std.proofs.lemmas.Bool.{and_parts}
use Rattle.lay_piece.specs.declared.kind.Delim.TheVariants.{Paren}
use Rattle.lay_piece.specs.declared.kind.Kind.TheVariants as kind
use Rattle.lay_form.specs.Form.{Blank, Fixed, Operator, Form, Done, Part, keyword, opener, closer}
use Rattle.lay_form.specs.Notation.{comma_list}
use Rattle.lay_node.specs.Words.{is_name}
use Rattle.lay_node.specs.nodes.Attr.{are_attrs}
use Rattle.lay_node.specs.nodes.Functions.{are_fn_params, ends_variadic, fn_head_form, fn_param_form, fn_params_form, head_output, is_fn_head, is_fn_param, is_param_kind, may_be_type, may_say, mut_word, param_kind_form, receives_first, safety_form, safety_word, self_type, self_word, varies_last}
use Rattle.lay_node.specs.nodes.Generics.{is_generics}
use Rattle.lay_node.specs.nodes.Patterns.{about_pat, pat_good}
use Rattle.lay_node.specs.nodes.Types.{about_type, abi_form, colon, good_at, is_abi}
use Rattle.lay_node.specs.declared.functions.FnHead.{FnHead}
use Rattle.lay_node.specs.declared.functions.Param.{Param}
use Rattle.lay_node.specs.declared.functions.ParamKind.{ParamKind}
use Rattle.lay_node.specs.declared.functions.ParamKind.TheVariants as param
use Rattle.lay_node.specs.declared.functions.Safety.{Safety}
use Rattle.lay_node.specs.declared.functions.Safety.TheVariants as safety
use Rattle.lay_node.specs.declared.heads.Site.{Site}
use Rattle.lay_node.specs.declared.patterns.PatPlace.TheVariants.{Single}
use Rattle.lay_node.specs.declared.types.Abi.{Abi}
use Rattle.lay_node.specs.declared.types.Ty.{Ty}
use Rattle.lay_node.specs.declared.types.TypePlace.TheVariants.{Bounds}
use Rattle.lay_map.specs.spelling.Units.{Word, words}
use Rattle.lay_map.proofs.Rules.{Any, Firm, Plain, Tells, each_of, ends, firm_fixed, fixed, list, part, part_to}
use Rattle.lay_map.proofs.nodes.Attrs.{firm_when, whenever, word}
use Rattle.lay_map.proofs.nodes.Generics.{NoAngles, generics_tell}
use Rattle.lay_map.proofs.nodes.Patterns.{pat_tells}
use Rattle.lay_map.proofs.nodes.TypeKinds.{borrow_tells}
use Rattle.lay_map.proofs.nodes.TypeParts.{abi_tells, param_attrs_tell}
use Rattle.lay_map.proofs.nodes.Types.{type_tells}

-- ---- parameters

pub self_type_tells : {Next : List Word → Type 0} (x : Option Ty) → may_be_type x ≡ true → Tells Next (self_type x)
self_type_tells None g = ends
self_type_tells (Some x) g = fixed colon refl (part (type_tells x g) ends)

param_kind_tells : {Next : List Word → Type 0} (p : ParamKind) → is_param_kind p ≡ true → Tells Next (param_kind_form p)
param_kind_tells (param.RefSelf lifetime mutable) g =
    fixed (Fixed kind.Punct (codes "&") ∷ []) refl (borrow_tells lifetime (whenever mutable mut_word refl (fixed self_word refl ends)))
param_kind_tells (param.OwnSelf mutable x) g = whenever mutable mut_word refl (fixed self_word refl (self_type_tells x g))
param_kind_tells (param.Typed p x) g =
    let n = and_parts (pat_good Single (about_pat p)) (good_at Bounds (about_type x)) g in
    part (pat_tells Single p n.0) (fixed colon refl (part (type_tells x n.1) ends))
param_kind_tells param.Variadic g = fixed (Operator (codes "...") ∷ []) refl ends
param_kind_tells (param.NamedVariadic p) g =
    part (pat_tells Single p g) (fixed (Operator (codes ":") ∷ Blank ∷ Operator (codes "...") ∷ []) refl ends)

param_tells : {Next : List Word → Type 0} (p : Param) → is_fn_param p ≡ true → Tells Next (fn_param_form p)
param_tells p g =
    let n = and_parts (are_attrs false p.attrs) (is_param_kind p.kind) g in
    param_attrs_tell p.attrs n.0 (part (param_kind_tells p.kind n.1) ends)

params_tell : {Next : List Word → Type 0} (ps : List Param) → are_fn_params ps ≡ true → Tells Next (fn_params_form ps)
params_tell ps g =
    let n1 = and_parts (list_all is_fn_param ps && receives_first ps) (varies_last ps) g in
    let n2 = and_parts (list_all is_fn_param ps) (receives_first ps) n1.0 in
    list (not (ends_variadic ps)) (opener Paren) (closer Paren) (map fn_param_form ps) refl refl refl (λ ws. refl)
    (each_of Plain fn_param_form is_fn_param (λ p h. param_tells p h) ps n2.0)

-- ---- heads

safety_tells : {Next : List Word → Type 0} {f : Form} (s : Option Safety) → Tells Next f → Tells Next (safety_form s f)
safety_tells None t = t
safety_tells (Some safety.Unsafe) t = fixed (safety_word safety.Unsafe ∷ Blank ∷ []) refl t
safety_tells (Some safety.Safe) t = fixed (safety_word safety.Safe ∷ Blank ∷ []) refl t

output_tells : {Next : List Word → Type 0} (x : Option Ty) → may_be_type x ≡ true → Tells Next (head_output x)
output_tells None g = ends
output_tells (Some x) g = fixed (Blank ∷ Operator (codes "->") ∷ Blank ∷ []) refl (part (type_tells x g) ends)

-- Parameters begin with `(`.
before_params : (may : Bool) (es : List Form) (f : Form) (ws : List Word) → Any ws
    → NoAngles (words (Part (comma_list may (opener Paren) (closer Paren) es) f) ++ ws)
before_params may [] f ws n = refl
before_params may (e ∷ es) f ws n = refl

pub fn_head_tells : {Next : List Word → Type 0} (site : Site) (h : FnHead) → is_fn_head site h ≡ true → Tells Next (fn_head_form h)
fn_head_tells site h g =
    let n1 = and_parts (may_say site h.safety && is_abi h.abi && is_name h.name.raw h.name.text && is_generics h.generics && are_fn_params h.params)
    (may_be_type h.output) g in
    let n2 = and_parts (may_say site h.safety && is_abi h.abi && is_name h.name.raw h.name.text && is_generics h.generics) (are_fn_params h.params) n1.0 in
    let n3 = and_parts (may_say site h.safety && is_abi h.abi && is_name h.name.raw h.name.text) (is_generics h.generics) n2.0 in
    let n4 = and_parts (may_say site h.safety && is_abi h.abi) (is_name h.name.raw h.name.text) n3.0 in
    let n5 = and_parts (may_say site h.safety) (is_abi h.abi) n4.0 in
    whenever h.is_const (keyword (codes "const") ∷ Blank ∷ []) refl (whenever h.is_async (keyword (codes "async") ∷ Blank ∷ []) refl
    (safety_tells h.safety (abi_tells h.abi n5.1 (fixed (keyword (codes "fn") ∷ Blank ∷ []) refl
    (word h.name.raw h.name.text
    (part_to (λ ws n. before_params (not (ends_variadic h.params)) (map fn_param_form h.params) (Part (head_output h.output) Done) ws tt)
    (generics_tell h.generics n3.1)
    (part (params_tell h.params n2.1) (part (output_tells h.output n1.1) ends))))))))

safety_firm : {f : Form} (s : Option Safety) → Firm f → Firm (safety_form s f)
safety_firm None t = t
safety_firm (Some safety.Unsafe) t = firm_fixed (safety_word safety.Unsafe ∷ Blank ∷ []) refl
safety_firm (Some safety.Safe) t = firm_fixed (safety_word safety.Safe ∷ Blank ∷ []) refl

abi_firm : {f : Form} (abi : Option Abi) → Firm f → Firm (abi_form abi f)
abi_firm None t = t
abi_firm (Some a) t = firm_fixed (keyword (codes "extern") ∷ Blank ∷ []) refl

pub fn_head_firm : (h : FnHead) → Firm (fn_head_form h)
fn_head_firm h =
    firm_when h.is_const (keyword (codes "const") ∷ Blank ∷ []) refl (firm_when h.is_async (keyword (codes "async") ∷ Blank ∷ []) refl
    (safety_firm h.safety (abi_firm h.abi (firm_fixed (keyword (codes "fn") ∷ Blank ∷ []) refl))))
