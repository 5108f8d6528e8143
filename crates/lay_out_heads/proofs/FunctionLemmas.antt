-- The streams of the heads of functions.
use Rattle.std.proofs.Common.{◌≡◌, ℕ, zero, suc, ◌+◌, ◌<◌, Bool, true, false, cond, List, [], ◌∷◌, ◌++◌, length, take, get_or, codes, Option, Some, None, refl, ap, ◌∙◌, add-one, arith}
use Rattle.lay_layout.specs.declared.layout.Tok.{Tok}
use Rattle.lay_layout.specs.declared.layout.Tok.TheVariants as tok
use Rattle.lay_piece.specs.declared.kind.Kind.TheVariants as kind
use Rattle.lay_form.specs.Form.{Form, Blank, Done, Fixed, Operator, Part, Piece, keyword}
use Rattle.lay_form.specs.Notation.{piece, when}
use Rattle.lay_form.specs.Stream.{stream_of}
use Rattle.lay_node.specs.Words.{leaf_of}
use Rattle.lay_node.specs.nodes.Functions.{ends_variadic, fn_head_form, fn_param_form, fn_params_form, head_output, is_variadic, mut_word, param_kind_form, safety_form, self_type, self_word, signature_form}
use Rattle.lay_node.specs.nodes.Generics.{generics_form}
use Rattle.lay_node.specs.nodes.Patterns.{about_pat}
use Rattle.lay_node.specs.nodes.Types.{abi_form, about_type, colon, param_attrs, ref_lifetime}
use Rattle.lay_node.specs.declared.attr.Attr.{Attr}
use Rattle.lay_node.specs.declared.functions.FnHead.{FnHead}
use Rattle.lay_node.specs.declared.functions.Param.{Param}
use Rattle.lay_node.specs.declared.functions.ParamKind.{ParamKind}
use Rattle.lay_node.specs.declared.functions.ParamKind.TheVariants as param
use Rattle.lay_node.specs.declared.functions.Safety.{Safety}
use Rattle.lay_node.specs.declared.functions.Safety.TheVariants as safety
use Rattle.lay_node.specs.declared.patterns.Pat.{Pat}
use Rattle.lay_node.specs.declared.token.Lifetime.{Lifetime}
use Rattle.lay_node.specs.declared.types.Ty.{Ty}
use Rattle.lay_out_tokens.proofs.StreamParts.{leaf_more}
use Rattle.lay_out_types.proofs.FormRows.{part_more}
use Rattle.lay_out_types.proofs.PartLemmas.{abi_more, attrs_more, reference_more}
use Rattle.lay_out_types.proofs.TypeLemmas.{when_more}
use Rattle.lay_out_heads.proofs.Steady.{Steady, steady_output, steady_parens, steady_part}

-- ---- whether further arguments are taken

next_ends : (ps : List Param) (i : ℕ) (p : Param) → i < length ps → p ≡ get_or ps i p
    → is_variadic p.kind ≡ ends_variadic (take (suc i) ps)
next_ends [] i p lt is = absurd (omega arith)
next_ends (x ∷ xs) zero p lt is = ap (λ (y : Param). is_variadic y.kind) is
next_ends (x ∷ []) (suc i) p lt is = absurd (omega arith)
next_ends (x ∷ y ∷ ys) (suc i) p lt is = next_ends (y ∷ ys) i p (omega arith) is

pub ends_next : (ps : List Param) (i : ℕ) (p : Param) → i < length ps → p ≡ get_or ps i p
    → is_variadic p.kind ≡ ends_variadic (take (i + 1) ps)
ends_next ps i p lt is = rw add-one (next_ends ps i p lt is)

-- ---- parameters

pub ref_self : (x : ParamKind) (lifetime : Option Lifetime) (mutable : Bool) → x ≡ param.RefSelf lifetime mutable
    → stream_of (Piece (Fixed kind.Punct (codes "&") ∷ []) (ref_lifetime lifetime Done))
    ++ (cond mutable (tok.Text (codes "mut ") ∷ []) [] ++ (tok.Text (codes "self") ∷ []))
    ≡ stream_of (param_kind_form x)
ref_self x lifetime mutable is =
    let rest = when mutable mut_word (piece self_word) in
    rw is (ap (λ (s : List Tok). stream_of (Piece (Fixed kind.Punct (codes "&") ∷ []) (ref_lifetime lifetime Done)) ++ s)
    (when_more mutable mut_word (codes "mut ") (piece self_word) (λ g. refl))
    ∙ reference_more lifetime rest)

pub own_self : (x : ParamKind) (mutable : Bool) (of : Option Ty) → x ≡ param.OwnSelf mutable of
    → cond mutable (tok.Text (codes "mut ") ∷ []) [] ++ (tok.Text (codes "self") ∷ stream_of (self_type of))
    ≡ stream_of (param_kind_form x)
own_self x mutable of is =
    rw is (when_more mutable mut_word (codes "mut ") (Piece self_word (self_type of)) (λ g. refl))

pub typed_param : (x : ParamKind) (p : Pat) (y : Ty) → x ≡ param.Typed p y
    → stream_of (about_pat p).told.form ++ (tok.Text (codes ": ") ∷ stream_of (about_type y).told.form)
    ≡ stream_of (param_kind_form x)
typed_param x p y is = rw is (part_more (about_pat p).told.form (Piece colon (Part (about_type y).told.form Done)) any)
  where
    any : Steady (Piece colon (Part (about_type y).told.form Done))
    any true = refl
    any false = refl

pub named_variadic : (x : ParamKind) (p : Pat) → x ≡ param.NamedVariadic p
    → stream_of (about_pat p).told.form ++ (tok.Text (codes ": ...") ∷ []) ≡ stream_of (param_kind_form x)
named_variadic x p is =
    rw is (part_more (about_pat p).told.form (piece (Operator (codes ":") ∷ Blank ∷ Operator (codes "...") ∷ [])) any)
  where
    any : Steady (piece (Operator (codes ":") ∷ Blank ∷ Operator (codes "...") ∷ []))
    any true = refl
    any false = refl

pub param_is : (x : Param) (put : List Attr) → put ≡ x.attrs
    → stream_of (param_attrs put Done) ++ stream_of (param_kind_form x.kind) ≡ stream_of (fn_param_form x)
param_is x put e = rw e (attrs_more x.attrs (Part (param_kind_form x.kind) Done))

pub some_self_type : (x : Option Ty) (y : Ty) → x ≡ Some y
    → tok.Text (codes ": ") ∷ stream_of (about_type y).told.form ≡ stream_of (self_type x)
some_self_type x y is = rw is refl

-- ---- heads

pub some_output : (x : Option Ty) (y : Ty) → x ≡ Some y
    → tok.Text (codes " -> ") ∷ stream_of (about_type y).told.form ≡ stream_of (head_output x)
some_output x y is = rw is refl

safety_more : (x : Option Safety) (f : Form)
    → stream_of (safety_form x Done) ++ stream_of f ≡ stream_of (safety_form x f)
safety_more None f = refl
safety_more (Some safety.Unsafe) f = refl
safety_more (Some safety.Safe) f = refl

pub signature_is : (h : FnHead) (put : List Param) → put ≡ h.params
    → stream_of (leaf_of h.name.raw h.name.text Done)
    ++ (stream_of (generics_form h.generics) ++ (stream_of (fn_params_form put) ++ stream_of (head_output h.output)))
    ≡ stream_of (signature_form h)
signature_is h put e =
    let output = Part (head_output h.output) Done in
    let params = fn_params_form h.params in
    let any = steady_part params output (steady_parens _ _) (steady_output h.output) in
    rw e (ap (λ (s : List Tok). stream_of (leaf_of h.name.raw h.name.text Done) ++ s)
    (ap (λ (s : List Tok). stream_of (generics_form h.generics) ++ s)
    (part_more params output (steady_output h.output))
    ∙ part_more (generics_form h.generics) (Part params output) any)
    ∙ leaf_more h.name.raw h.name.text (Part (generics_form h.generics) (Part params output)))

pub fn_head_is : (h : FnHead)
    → cond h.is_const (tok.Text (codes "const ") ∷ []) []
    ++ (cond h.is_async (tok.Text (codes "async ") ∷ []) []
    ++ (stream_of (safety_form h.safety Done)
    ++ (stream_of (abi_form h.abi Done) ++ (tok.Text (codes "fn ") ∷ stream_of (signature_form h)))))
    ≡ stream_of (fn_head_form h)
fn_head_is h =
    let f = Piece (keyword (codes "fn") ∷ Blank ∷ []) (signature_form h) in
    let abi = abi_form h.abi f in
    let safe = safety_form h.safety abi in
    let async = when h.is_async (keyword (codes "async") ∷ Blank ∷ []) safe in
    let if_const : List Tok = cond h.is_const (tok.Text (codes "const ") ∷ []) [] in
    let if_async : List Tok = cond h.is_async (tok.Text (codes "async ") ∷ []) [] in
    ap (λ (s : List Tok). if_const ++ (if_async ++ (stream_of (safety_form h.safety Done) ++ s))) (abi_more h.abi f)
    ∙ ap (λ (s : List Tok). if_const ++ (if_async ++ s)) (safety_more h.safety abi)
    ∙ ap (λ (s : List Tok). if_const ++ s)
    (when_more h.is_async (keyword (codes "async") ∷ Blank ∷ []) (codes "async ") safe (λ g. refl))
    ∙ when_more h.is_const (keyword (codes "const") ∷ Blank ∷ []) (codes "const ") async (λ g. refl)
