-- The heads of functions pass: parameters, and all up to a where clause.
use Rattle.std.proofs.Common.{◌≡◌, ℕ, List, [], ◌∷◌, Bool, true, false, not, ◌&&◌, refl, codes, map, Option, Some, None}
use Rattle.std.specs.List.{list_all}
use Rattle.std.proofs.lemmas.Bool.{and_parts}
use Rattle.lay_piece.specs.declared.kind.Delim.TheVariants.{Paren}
use Rattle.lay_form.specs.Form as form
use Rattle.lay_form.specs.Form.{Blank, Form, Done, Piece, keyword, opener, closer}
use Rattle.lay_form.specs.Notation.{when}
use Rattle.lay_form.specs.Pieces.{are_pieces}
use Rattle.lay_node.specs.Words.{is_name, leaf_of}
use Rattle.lay_node.specs.nodes.Attr.{are_attrs}
use Rattle.lay_node.specs.nodes.Functions.{are_fn_params, ends_variadic, fn_head_form, fn_param_form, fn_params_form, head_output, is_fn_head, is_fn_param, is_param_kind, may_be_type, may_say, mut_word, param_kind_form, receives_first, safety_form, self_type, self_word, signature_form, varies_last}
use Rattle.lay_node.specs.nodes.Generics.{generics_form, is_generics}
use Rattle.lay_node.specs.nodes.Patterns.{about_pat, pat_form, pat_good}
use Rattle.lay_node.specs.nodes.Types.{abi_form, about_type, good_at, is_abi}
use Rattle.lay_node.specs.declared.functions.FnHead.{FnHead}
use Rattle.lay_node.specs.declared.functions.Param.{Param}
use Rattle.lay_node.specs.declared.functions.ParamKind.{ParamKind}
use Rattle.lay_node.specs.declared.functions.ParamKind.TheVariants as param
use Rattle.lay_node.specs.declared.functions.Safety.{Safety}
use Rattle.lay_node.specs.declared.functions.Safety.TheVariants as safety
use Rattle.lay_node.specs.declared.generics.Generics.{Generics}
use Rattle.lay_node.specs.declared.heads.Site.{Site}
use Rattle.lay_node.specs.declared.patterns.PatPlace.TheVariants.{Single}
use Rattle.lay_node.specs.declared.types.Ty.{Ty}
use Rattle.lay_node.specs.declared.types.TypePlace.TheVariants.{Bounds}
use Rattle.lay_reparse.proofs.borders.Border.{Border}
use Rattle.lay_reparse.proofs.forms.Passes.{plain}
use Rattle.lay_reparse.proofs.forms.Rules.{same_whenever, tables, From, wider, ends, fixed, dotted, part, list_fits, list}
use Rattle.lay_reparse.proofs.file.Nodes.{behind_word, ends_name, word, rest_pieces, when_pieces, list_pieces}
use Rattle.lay_reparse.proofs.file.TypeParts.{ends_type, param_attrs_pass, param_attrs_pieces, abi_passes, abi_pieces}
use Rattle.lay_reparse.proofs.file.TypeKinds.{ends_param, borrow_passes}
use Rattle.lay_reparse.proofs.file.Generics.{generics_pass}
use Rattle.lay_reparse.proofs.file.PatternParts.{ends_pat}
use Rattle.lay_reparse.proofs.file.Patterns.{pat_passes_at}
use Rattle.lay_reparse.proofs.forms.Fields.{all_of, type_ends}

-- ---- parameters

self_type_passes : (x : Option Ty) → may_be_type x ≡ true → are_pieces (self_type x) ≡ true
    → From behind_word (self_type x) ends_param
unfolding tables
self_type_passes None g w = ends refl
self_type_passes (Some x) g w = fixed refl (wider refl (type_ends x g w))

pub param_kind_passes : (k : ParamKind) → is_param_kind k ≡ true → are_pieces (param_kind_form k) ≡ true
    → From plain (param_kind_form k) ends_param
unfolding tables
param_kind_passes (param.RefSelf lifetime mutable) g w =
    fixed refl (borrow_passes lifetime w (same_whenever mutable mut_word refl refl refl (fixed refl (ends refl))))
param_kind_passes (param.OwnSelf mutable x) g w =
    let p = when_pieces mutable mut_word (Piece self_word (self_type x)) w in
    same_whenever mutable mut_word refl refl refl (fixed refl (self_type_passes x g p))
param_kind_passes (param.Typed p x) g w =
    let n = and_parts (pat_good Single (about_pat p)) (good_at Bounds (about_type x)) g in
    let q = and_parts (are_pieces (pat_form Single (about_pat p))) _ w in
    part plain ends_pat refl (pat_passes_at plain refl Single p n.0 q.0) (fixed refl (wider refl (type_ends x n.1 q.1)))
param_kind_passes param.Variadic g w = dotted refl (ends refl) (ends refl)
param_kind_passes (param.NamedVariadic p) g w =
    let q = (and_parts (are_pieces (pat_form Single (about_pat p))) true w).0 in
    part plain ends_pat refl (pat_passes_at plain refl Single p g q) (fixed refl (ends refl))

pub fn_param_passes : (p : Param) → is_fn_param p ≡ true → are_pieces (fn_param_form p) ≡ true
    → From plain (fn_param_form p) ends_param
fn_param_passes p g w =
    let n = and_parts (are_attrs false p.attrs) (is_param_kind p.kind) g in
    let q = param_attrs_pieces p.attrs (form.Part (param_kind_form p.kind) Done) w in
    let r = (and_parts (are_pieces (param_kind_form p.kind)) true q).0 in
    param_attrs_pass p.attrs n.0 w (part plain ends_param refl (param_kind_passes p.kind n.1 r) (ends refl))

fn_params_fit : (may : Bool) → list_fits may (opener Paren) (closer Paren) ends_name plain ends_param plain ≡ true
unfolding tables
fn_params_fit true = refl
fn_params_fit false = refl

pub fn_params_pass : (ps : List Param) → are_fn_params ps ≡ true → are_pieces (fn_params_form ps) ≡ true
    → From ends_name (fn_params_form ps) plain
fn_params_pass ps g w =
    let n = and_parts (list_all is_fn_param ps && receives_first ps) (varies_last ps) g in
    let es = map fn_param_form ps in
    let may = not (ends_variadic ps) in
    list may (opener Paren) (closer Paren) es plain ends_param (fn_params_fit may)
    (all_of fn_param_form is_fn_param fn_param_passes ps (and_parts (list_all is_fn_param ps) (receives_first ps) n.0).0
    (list_pieces may (opener Paren) (closer Paren) es w))

-- ---- heads

head_output_passes : (x : Option Ty) → may_be_type x ≡ true → are_pieces (head_output x) ≡ true
    → From plain (head_output x) ends_type
unfolding tables
head_output_passes None g w = ends refl
head_output_passes (Some x) g w = fixed refl (type_ends x g w)

-- a name with generic parameters, and what follows them
pub behind_name : (raw : Bool) (t : List ℕ) (generics : Generics) {f : Form} {c : Border}
    → is_generics generics ≡ true → are_pieces (leaf_of raw t (form.Part (generics_form generics) f)) ≡ true
    → (are_pieces f ≡ true → From ends_name f c) → From plain (leaf_of raw t (form.Part (generics_form generics) f)) c
behind_name raw t generics {f} g w k =
    let p = and_parts (are_pieces (generics_form generics)) (are_pieces f)
    (rest_pieces raw t (form.Part (generics_form generics) f) w) in
    let a = generics_pass generics g p.0 in
    word raw t refl w (part ends_name ends_name refl a (k p.1)) (part ends_name ends_name refl a (k p.1))

signature_passes : (h : FnHead) → is_generics h.generics ≡ true → are_fn_params h.params ≡ true
    → may_be_type h.output ≡ true → are_pieces (signature_form h) ≡ true → From plain (signature_form h) ends_type
signature_passes h g1 g2 g3 w = behind_name h.name.raw h.name.text h.generics g1 w (λ p.
    let q = and_parts (are_pieces (fn_params_form h.params)) _ p in
    let r = (and_parts (are_pieces (head_output h.output)) true q.1).0 in
    part ends_name plain refl (fn_params_pass h.params g2 q.0)
    (part plain ends_type refl (head_output_passes h.output g3 r) (ends refl)))

safety_passes : (s : Option Safety) {f : Form} {c : Border} → From plain f c → From plain (safety_form s f) c
unfolding tables
safety_passes None k = k
safety_passes (Some safety.Unsafe) k = fixed refl k
safety_passes (Some safety.Safe) k = fixed refl k

safety_pieces : (s : Option Safety) (f : Form) → are_pieces (safety_form s f) ≡ true → are_pieces f ≡ true
safety_pieces None f w = w
safety_pieces (Some s) f w = w

pub fn_head_passes : (site : Site) (h : FnHead) → is_fn_head site h ≡ true → are_pieces (fn_head_form h) ≡ true
    → From plain (fn_head_form h) ends_type
unfolding tables
fn_head_passes site h g w =
    let n1 = and_parts
    (may_say site h.safety && is_abi h.abi && is_name h.name.raw h.name.text && is_generics h.generics
    && are_fn_params h.params) (may_be_type h.output) g in
    let n2 = and_parts
    (may_say site h.safety && is_abi h.abi && is_name h.name.raw h.name.text && is_generics h.generics)
    (are_fn_params h.params) n1.0 in
    let n3 = and_parts (may_say site h.safety && is_abi h.abi && is_name h.name.raw h.name.text)
    (is_generics h.generics) n2.0 in
    let n4 = and_parts (may_say site h.safety && is_abi h.abi) (is_name h.name.raw h.name.text) n3.0 in
    let n5 = and_parts (may_say site h.safety) (is_abi h.abi) n4.0 in
    let e = Piece (keyword (codes "fn") ∷ Blank ∷ []) (signature_form h) in
    let a = abi_form h.abi e in
    let s = safety_form h.safety a in
    let i = when h.is_async (keyword (codes "async") ∷ Blank ∷ []) s in
    let w1 = when_pieces h.is_const (keyword (codes "const") ∷ Blank ∷ []) i w in
    let w2 = when_pieces h.is_async (keyword (codes "async") ∷ Blank ∷ []) s w1 in
    let w3 = safety_pieces h.safety a w2 in
    let w4 = abi_pieces h.abi e w3 in
    same_whenever h.is_const (keyword (codes "const") ∷ Blank ∷ []) refl refl refl
    (same_whenever h.is_async (keyword (codes "async") ∷ Blank ∷ []) refl refl refl (safety_passes h.safety (abi_passes h.abi n5.1 w3
    (fixed refl (signature_passes h n3.1 n2.1 n1.1 w4)))))
