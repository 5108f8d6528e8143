-- The streams of what types are made of, with no type within it.
use Rattle.std.proofs.Common.{◌≡◌, ℕ, Bool, true, false, ◌||◌, cond, List, [], ◌∷◌, ◌++◌, map, codes, Option, Some}
use Rattle.std.proofs.Common.{None, refl, sym, ap, ◌∙◌, append_assoc}
use Rattle.lay_layout.specs.declared.layout.Tok.{Tok}
use Rattle.lay_layout.specs.declared.layout.Tok.TheVariants as tok
use Rattle.lay_piece.specs.declared.kind.Kind.TheVariants as kind
use Rattle.lay_piece.specs.declared.kind.Delim.{Delim}
use Rattle.lay_piece.specs.declared.kind.Delim.TheVariants.{Paren, Bracket, Brace}
use Rattle.lay_form.specs.Form.{Form, Blank, Fixed, Operator, Done, Part, Piece, closer}
use Rattle.lay_form.specs.Layout.{ends_behind_point}
use Rattle.lay_form.specs.Notation.{H, comma_list, each, piece}
use Rattle.lay_form.specs.Stream.{fed, stream_of}
use Rattle.lay_node.specs.nodes.Attr.{attr_form, attr_part, behind_attr, is_inner, is_line}
use Rattle.lay_node.specs.Words.{leaf_of}
use Rattle.lay_node.specs.nodes.Types.{abi_form, abi_name, binder_form, colon, const_form, greater, less, lifetime_form}
use Rattle.lay_node.specs.nodes.Types.{lifetime_param_form, literal_form, outlived_form, param_attrs, param_name}
use Rattle.lay_node.specs.nodes.Types.{ref_lifetime}
use Rattle.lay_node.specs.tokens.Lists.{enclosed_form}
use Rattle.lay_node.specs.tokens.Listing.{Grouping, NoMore, in_groups}
use Rattle.lay_node.specs.declared.attr.Attr.{Attr}
use Rattle.lay_node.specs.declared.attr.Attr.TheVariants as attr
use Rattle.lay_node.specs.declared.attr.MetaInput.TheVariants as input
use Rattle.lay_node.specs.declared.token.GivenName.{GivenName}
use Rattle.lay_node.specs.declared.token.GivenName.TheVariants as given
use Rattle.lay_node.specs.declared.token.Lifetime.{Lifetime}
use Rattle.lay_node.specs.declared.token.Literal.{Literal}
use Rattle.lay_node.specs.declared.token.Name.{Name}
use Rattle.lay_node.specs.declared.types.Abi.{Abi}
use Rattle.lay_node.specs.declared.types.Binder.{Binder}
use Rattle.lay_node.specs.declared.types.ConstArg.{ConstArg}
use Rattle.lay_node.specs.declared.types.ConstArg.TheVariants as const_arg
use Rattle.lay_node.specs.declared.types.LifetimeParam.{LifetimeParam}
use Rattle.lay_out_tokens.proofs.StreamParts.{fed_more, leaf_more}
use Rattle.lay_out_types.specs.Rows.{comma_between, further, list_closed, list_opened, row}
use Rattle.lay_out_types.proofs.FormRows.{are_none, list_is, part_more}

-- ---- lifetimes

more_lifetimes : (ls : List Lifetime)
    → further (tok.Text (codes " + ") ∷ []) (map lifetime_form ls)
    ≡ stream_of (each (λ f. Piece (Blank ∷ Operator (codes "+") ∷ Blank ∷ []) f) (map lifetime_form ls))
more_lifetimes [] = refl
more_lifetimes (l ∷ ls) =
    ap (λ (s : List Tok). tok.Text (codes " + ") ∷ tok.Text l.text ∷ s) (more_lifetimes ls)

pub outlived_are : (ls : List Lifetime)
    → row (tok.Text (codes ": ") ∷ []) (tok.Text (codes " + ") ∷ []) (map lifetime_form ls) ≡ stream_of
    (outlived_form ls)
outlived_are [] = refl
outlived_are (l ∷ ls) = ap (λ (s : List Tok). tok.Text (codes ": ") ∷ tok.Text l.text ∷ s) (more_lifetimes ls)

pub outlived_turn : (first : Bool) (text : List ℕ) (l : Lifetime) → text ≡ l.text
    → tok.Text (cond first (codes ": ") (codes " + ")) ∷ tok.Text text ∷ []
    ≡ cond first (tok.Text (codes ": ") ∷ []) (tok.Text (codes " + ") ∷ []) ++ stream_of (lifetime_form l)
outlived_turn true text l e = rw e refl
outlived_turn false text l e = rw e refl

-- ---- attributes of parameters

group_ends : (d : Delim) (i : Grouping) (line : Bool) (inner : Form) (q : Bool)
    → ends_behind_point q (enclosed_form d i line inner (piece (closer Bracket ∷ []))) ≡ false
group_ends Paren NoMore line inner q = refl
group_ends Bracket NoMore line inner q = refl
group_ends Brace NoMore line inner q = refl
group_ends Paren i line inner q = refl
group_ends Bracket i line inner q = refl
group_ends Brace i line inner q = refl

-- An attribute ends in no point.
attr_ends : (a : Attr) → ends_behind_point false (attr_form a) ≡ false
attr_ends (attr.Doc inner text) = refl
attr_ends (attr.Meta inner path input.Bare) = refl
attr_ends (attr.Meta inner path (input.Group g)) = group_ends g.delim (in_groups g.tokens) _ _ _
attr_ends (attr.Meta inner path (input.Value ts)) = refl

behind_more : (inner line : Bool) (f : Form)
    → stream_of (cond inner Done (cond line (H Done) (Piece (Blank ∷ []) Done))) ++ stream_of f
    ≡ stream_of (cond inner f (cond line (H f) (Piece (Blank ∷ []) f)))
behind_more true line f = refl
behind_more false true f = refl
behind_more false false f = refl

attr_by : (a : Attr) (f : Form)
    → stream_of (attr_part false a f) ≡ stream_of (attr_form a) ++ stream_of (behind_attr false a f)
attr_by a f =
    fed_more false (attr_form a) (fed (ends_behind_point false (attr_form a)) (behind_attr false a f) [])
    ∙ ap (λ (q : Bool). stream_of (attr_form a) ++ fed q (behind_attr false a f) []) (attr_ends a)

attr_more : (a : Attr) (f : Form)
    → stream_of (attr_part false a Done) ++ stream_of f ≡ stream_of (attr_part false a f)
attr_more a f =
    ap (λ (s : List Tok). s ++ stream_of f) (attr_by a Done)
    ∙ append_assoc (stream_of (attr_form a)) (stream_of (behind_attr false a Done)) (stream_of f)
    ∙ ap (λ (s : List Tok). stream_of (attr_form a) ++ s) (behind_more (is_inner a) (false || is_line a) f)
    ∙ sym (attr_by a f)

-- an attribute of a parameter by itself
abbrev pub attr_alone : Attr → Form
attr_alone a = attr_part false a Done

further_attrs : (attrs : List Attr) → further [] (map attr_alone attrs) ≡ stream_of (param_attrs attrs Done)
further_attrs [] = refl
further_attrs (a ∷ attrs) =
    ap (λ (s : List Tok). stream_of (attr_alone a) ++ s) (further_attrs attrs)
    ∙ attr_more a (param_attrs attrs Done)

pub attrs_are : (attrs : List Attr) → row [] [] (map attr_alone attrs) ≡ stream_of (param_attrs attrs Done)
attrs_are [] = refl
attrs_are (a ∷ attrs) = further_attrs (a ∷ attrs)

pub attrs_more : (attrs : List Attr) (f : Form)
    → stream_of (param_attrs attrs Done) ++ stream_of f ≡ stream_of (param_attrs attrs f)
attrs_more [] f = refl
attrs_more (a ∷ attrs) f =
    ap (λ (s : List Tok). s ++ stream_of f) (sym (attr_more a (param_attrs attrs Done)))
    ∙ append_assoc (stream_of (attr_alone a)) (stream_of (param_attrs attrs Done)) (stream_of f)
    ∙ ap (λ (s : List Tok). stream_of (attr_alone a) ++ s) (attrs_more attrs f)
    ∙ attr_more a (param_attrs attrs f)

pub lifetime_param_is : (p : LifetimeParam) (attrs : List Attr) (text : List ℕ) (bounds : List Lifetime)
    → attrs ≡ p.attrs
    → text ≡ p.lifetime.text → bounds ≡ p.bounds
    → stream_of (param_attrs attrs Done) ++ (tok.Text text ∷ stream_of (outlived_form bounds))
    ≡ stream_of (lifetime_param_form p)
lifetime_param_is p attrs text bounds e f g =
    rw (e, f, g) (attrs_more p.attrs (Part (lifetime_form p.lifetime) (outlived_form p.bounds)))

-- ---- lists in angles, and binders

pub angles_are : (es : List Form) (bare : Bool) → bare ≡ are_none es
    → row (list_opened (codes "<")) comma_between es ++ list_closed true bare (codes "<>") (codes ">")
    ≡ stream_of (comma_list true less greater es)
angles_are es bare is =
    list_is true less greater (codes "<") (codes "<>") (codes ">") (λ f more. refl) angle_closes refl es bare is
  where
    angle_closes : (q : Bool) (more : List Tok) → fed q (piece (greater ∷ [])) more ≡ tok.Text (codes ">") ∷ more
    angle_closes true more = refl
    angle_closes false more = refl

blank_any : (f : Form) (q : Bool) → fed q (Piece (Blank ∷ []) f) [] ≡ stream_of (Piece (Blank ∷ []) f)
blank_any f true = refl
blank_any f false = refl

pub binder_is : (x : Option Binder) (b : Binder) (put : List LifetimeParam) → x ≡ Some b → put ≡ b.params
    → tok.Text (codes "for") ∷
    (stream_of (comma_list true less greater (map lifetime_param_form put)) ++ (tok.Text (codes " ") ∷ []))
    ≡ stream_of (binder_form x Done)
binder_is x b put is same = rw (is, same) (ap (λ (s : List Tok). tok.Text (codes "for") ∷ s)
    (part_more (comma_list true less greater (map lifetime_param_form b.params)) (Piece (Blank ∷ []) Done)
    (blank_any Done)))

pub binder_more : (x : Option Binder) (f : Form)
    → stream_of (binder_form x Done) ++ stream_of f ≡ stream_of (binder_form x f)
binder_more None f = refl
binder_more (Some b) f =
    let list = comma_list true less greater (map lifetime_param_form b.params) in
    ap (λ (s : List Tok). s ++ stream_of f) (sym (binder_is (Some b) b b.params refl refl))
    ∙ ap (λ (s : List Tok). tok.Text (codes "for") ∷ s)
    (append_assoc (stream_of list) (tok.Text (codes " ") ∷ []) (stream_of f)
    ∙ part_more list (Piece (Blank ∷ []) f) (blank_any f))

-- ---- literals, ABIs and names

literal_more : (l : Literal) (f : Form) → ((q : Bool) → fed q f [] ≡ stream_of f)
    → stream_of (literal_form l Done) ++ stream_of f ≡ stream_of (literal_form l f)
literal_more l f any = part_more (literal_form l Done) f any

pub abi_name_is : (l : Literal) (f : Form)
    → stream_of (literal_form l Done) ++ (tok.Text (codes " ") ∷ stream_of f)
    ≡ stream_of (literal_form l (Piece (Blank ∷ []) f))
abi_name_is l f = literal_more l (Piece (Blank ∷ []) f) (blank_any f)

abi_name_more : (n : Option Literal) (f : Form) → stream_of (abi_name n Done) ++ stream_of f ≡ stream_of (abi_name n f)
abi_name_more None f = refl
abi_name_more (Some l) f =
    ap (λ (s : List Tok). s ++ stream_of f) (sym (abi_name_is l Done))
    ∙ append_assoc (stream_of (literal_form l Done)) (tok.Text (codes " ") ∷ []) (stream_of f)
    ∙ abi_name_is l f

pub abi_is : (x : Option Abi) (a : Abi) (n : Option Literal) (l : Literal) → x ≡ Some a → n ≡ a.name → n ≡ Some l
    → tok.Text (codes "extern ") ∷ (stream_of (literal_form l Done) ++ (tok.Text (codes " ") ∷ []))
    ≡ stream_of (abi_form x Done)
abi_is x a n l is same name = rw (is, sym same ∙ name)
    (ap (λ (s : List Tok). tok.Text (codes "extern ") ∷ s) (abi_name_is l Done))

pub abi_more : (x : Option Abi) (f : Form) → stream_of (abi_form x Done) ++ stream_of f ≡ stream_of (abi_form x f)
abi_more None f = refl
abi_more (Some a) f = ap (λ (s : List Tok). tok.Text (codes "extern ") ∷ s) (abi_name_more a.name f)

pub param_name_more : (x : Option GivenName) (f : Form)
    → stream_of (param_name x Done) ++ stream_of f ≡ stream_of (param_name x f)
param_name_more None f = refl
param_name_more (Some (given.Name name)) f =
    ap (λ (s : List Tok). s ++ stream_of f) (sym (leaf_more name.raw name.text (Piece colon Done)))
    ∙ append_assoc (stream_of (leaf_of name.raw name.text Done)) (tok.Text (codes ": ") ∷ []) (stream_of f)
    ∙ leaf_more name.raw name.text (Piece colon f)
param_name_more (Some given.Underscore) f = refl

pub reference_more : (x : Option Lifetime) (f : Form)
    → stream_of (Piece (Fixed kind.Punct (codes "&") ∷ []) (ref_lifetime x Done)) ++ stream_of f
    ≡ stream_of (Piece (Fixed kind.Punct (codes "&") ∷ []) (ref_lifetime x f))
reference_more None f = refl
reference_more (Some l) f = refl

pub reference_is : (x : Option Lifetime) (l : Lifetime) (text : List ℕ) → x ≡ Some l → text ≡ l.text
    → tok.Text (codes "&") ∷ tok.Text text ∷ tok.Text (codes " ") ∷ []
    ≡ stream_of (Piece (Fixed kind.Punct (codes "&") ∷ []) (ref_lifetime x Done))
reference_is x l text is e = rw (is, e) refl

pub negative_is : (x : ConstArg) (l : Literal) → x ≡ const_arg.Negative l
    → tok.Text (codes "-") ∷ stream_of (literal_form l Done) ≡ stream_of (const_form x)
negative_is x l is = rw is refl

pub no_name_is : (x : GivenName) → x ≡ given.Underscore
    → tok.Text (codes "_") ∷ tok.Text (codes ": ") ∷ [] ≡ stream_of (param_name (Some x) Done)
no_name_is x is = rw is refl

pub given_name_is : (x : GivenName) (name : Name) → x ≡ given.Name name
    → stream_of (leaf_of name.raw name.text Done) ++ (tok.Text (codes ": ") ∷ []) ≡ stream_of (param_name (Some x) Done)
given_name_is x name is = rw is (leaf_more name.raw name.text (Piece colon Done))
