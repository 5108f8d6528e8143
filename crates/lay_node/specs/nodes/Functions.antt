-- The heads of functions: when they are well formed, their forms, and what may follow (Rust
-- Reference, "Functions", "External blocks").
use Rattle.std.specs.Prelude.{◌&&◌, not, Bool, true, false, List, [], ◌∷◌, map, codes, Option, Some, None}
use Rattle.std.specs.List.{list_all}
use Rattle.lay_piece.specs.declared.kind.Delim.TheVariants.{Paren}
use Rattle.lay_piece.specs.declared.kind.Kind.TheVariants as kind
use Rattle.lay_token.specs.Operators.{is_op}
use Rattle.lay_form.specs.Form.{Bit, Blank, Fixed, Operator, Form, Done, Piece, Part, keyword, opener, closer}
use Rattle.lay_form.specs.Notation.{piece, when, comma_list}
use Rattle.lay_node.specs.Ahead.{Tokens}
use Rattle.lay_node.specs.Words.{is_name, leaf_of}
use Rattle.lay_node.specs.nodes.Attr.{are_attrs}
use Rattle.lay_node.specs.nodes.Facts.{Told}
use Rattle.lay_node.specs.nodes.Generics.{generics_form, is_generics}
use Rattle.lay_node.specs.nodes.Patterns.{about_pat, pat_form, pat_good}
use Rattle.lay_node.specs.nodes.Types.{about_type, abi_form, colon, good_at, is_abi, param_attrs, ref_lifetime, type_follows}
use Rattle.lay_node.specs.declared.functions.FnHead.{FnHead}
use Rattle.lay_node.specs.declared.functions.Param.{Param}
use Rattle.lay_node.specs.declared.functions.ParamKind.{ParamKind}
use Rattle.lay_node.specs.declared.functions.ParamKind.TheVariants as param
use Rattle.lay_node.specs.declared.functions.Safety.{Safety}
use Rattle.lay_node.specs.declared.functions.Safety.TheVariants as safety
use Rattle.lay_node.specs.declared.heads.Site.{Site}
use Rattle.lay_node.specs.declared.heads.Site.TheVariants as site
use Rattle.lay_node.specs.declared.patterns.PatPlace.TheVariants.{Single}
use Rattle.lay_node.specs.declared.types.Ty.{Ty}
use Rattle.lay_node.specs.declared.types.TypePlace.TheVariants.{Bounds}

-- ---- parameters

abbrev pub mut_word : List Bit
mut_word = keyword (codes "mut") ∷ Blank ∷ []

abbrev pub self_word : List Bit
self_word = keyword (codes "self") ∷ []

-- the type of a receiver, if it has one
abbrev pub self_type : Option Ty → Form
self_type None = Done
self_type (Some x) = Piece colon (Part (about_type x).told.form Done)

abbrev pub may_be_type : Option Ty → Bool
may_be_type None = true
may_be_type (Some x) = good_at Bounds (about_type x)

abbrev pub param_kind_form : ParamKind → Form
param_kind_form (param.RefSelf lifetime mutable) =
    Piece (Fixed kind.Punct (codes "&") ∷ []) (ref_lifetime lifetime (when mutable mut_word (piece self_word)))
param_kind_form (param.OwnSelf mutable x) = when mutable mut_word (Piece self_word (self_type x))
param_kind_form (param.Typed p x) = Part (pat_form Single (about_pat p)) (Piece colon (Part (about_type x).told.form Done))
param_kind_form param.Variadic = piece (Operator (codes "...") ∷ [])
param_kind_form (param.NamedVariadic p) =
    Part (pat_form Single (about_pat p)) (piece (Operator (codes ":") ∷ Blank ∷ Operator (codes "...") ∷ []))

abbrev pub is_param_kind : ParamKind → Bool
is_param_kind (param.RefSelf lifetime mutable) = true
is_param_kind (param.OwnSelf mutable x) = may_be_type x
is_param_kind (param.Typed p x) = pat_good Single (about_pat p) && good_at Bounds (about_type x)
is_param_kind param.Variadic = true
is_param_kind (param.NamedVariadic p) = pat_good Single (about_pat p)

abbrev pub fn_param_form : Param → Form
fn_param_form p = param_attrs p.attrs (Part (param_kind_form p.kind) Done)

abbrev pub is_fn_param : Param → Bool
is_fn_param p = are_attrs false p.attrs && is_param_kind p.kind

abbrev pub is_receiver : ParamKind → Bool
is_receiver (param.RefSelf lifetime mutable) = true
is_receiver (param.OwnSelf mutable x) = true
is_receiver _ = false

abbrev pub is_variadic : ParamKind → Bool
is_variadic param.Variadic = true
is_variadic (param.NamedVariadic p) = true
is_variadic _ = false

-- Only the first parameter may be a receiver.
abbrev pub receives_first : List Param → Bool
receives_first [] = true
receives_first (p ∷ ps) = list_all (λ (q : Param). not (is_receiver q.kind)) ps

-- The last parameter is variadic.
abbrev pub ends_variadic : List Param → Bool
ends_variadic [] = false
ends_variadic (p ∷ []) = is_variadic p.kind
ends_variadic (p ∷ q ∷ ps) = ends_variadic (q ∷ ps)

-- No parameter but the last one is variadic.
abbrev pub varies_last : List Param → Bool
varies_last [] = true
varies_last (p ∷ []) = true
varies_last (p ∷ q ∷ ps) = not (is_variadic p.kind) && varies_last (q ∷ ps)

-- After a variadic parameter no last comma may stand.
abbrev pub fn_params_form : List Param → Form
fn_params_form ps = comma_list (not (ends_variadic ps)) (opener Paren) (closer Paren) (map fn_param_form ps)

abbrev pub are_fn_params : List Param → Bool
are_fn_params ps = list_all is_fn_param ps && receives_first ps && varies_last ps

-- ---- heads

abbrev pub safety_word : Safety → Bit
safety_word safety.Unsafe = keyword (codes "unsafe")
safety_word safety.Safe = keyword (codes "safe")

abbrev pub safety_form : Option Safety → Form → Form
safety_form None f = f
safety_form (Some s) f = Piece (safety_word s ∷ Blank ∷ []) f

-- Only a function in a foreign block may be marked `safe`.
abbrev pub may_say : Site → Option Safety → Bool
may_say site.Foreign s = true
may_say _ (Some safety.Safe) = false
may_say _ _ = true

abbrev pub head_output : Option Ty → Form
head_output None = Done
head_output (Some x) = Piece (Blank ∷ Operator (codes "->") ∷ Blank ∷ []) (Part (about_type x).told.form Done)

-- what follows `fn`
abbrev pub signature_form : FnHead → Form
signature_form h = leaf_of h.name.raw h.name.text
    (Part (generics_form h.generics) (Part (fn_params_form h.params) (Part (head_output h.output) Done)))

abbrev pub fn_head_form : FnHead → Form
fn_head_form h = when h.is_const (keyword (codes "const") ∷ Blank ∷ []) (when h.is_async (keyword (codes "async") ∷ Blank ∷ [])
    (safety_form h.safety (abi_form h.abi (Piece (keyword (codes "fn") ∷ Blank ∷ []) (signature_form h)))))

abbrev pub is_fn_head : Site → FnHead → Bool
is_fn_head site h =
    may_say site h.safety && is_abi h.abi && is_name h.name.raw h.name.text && is_generics h.generics && are_fn_params h.params && may_be_type h.output

-- Where there is no return type, no `->` may follow.
abbrev pub output_follows : Option Ty → Tokens → Bool
output_follows None ts = not (is_op (codes "->") ts)
output_follows (Some x) ts = type_follows Bounds (about_type x) ts

abbrev pub about_fn_head : Site → FnHead → Told
about_fn_head site h = record { form = fn_head_form h; good = is_fn_head site h; follows = output_follows h.output }
