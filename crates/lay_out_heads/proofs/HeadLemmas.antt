-- The streams of the heads of traits, of implementations, and of constants and statics.
use Rattle.std.proofs.Common.{◌≡◌, ℕ, Bool, true, false, cond, List, [], ◌∷◌, ◌++◌, codes, Option, Some, None, refl, sym, ap, ◌∙◌, append_assoc, append-nil}
use Rattle.lay_layout.specs.declared.layout.Tok.{Tok}
use Rattle.lay_layout.specs.declared.layout.Tok.TheVariants as tok
use Rattle.lay_piece.specs.declared.kind.Kind.TheVariants as kind
use Rattle.lay_form.specs.Form.{Form, Blank, Done, Fixed, Part, Piece, keyword}
use Rattle.lay_form.specs.Notation.{when}
use Rattle.lay_form.specs.Stream.{stream_of}
use Rattle.lay_node.specs.Words.{leaf_of}
use Rattle.lay_node.specs.nodes.Functions.{mut_word}
use Rattle.lay_node.specs.nodes.Generics.{bounded_form, generics_form}
use Rattle.lay_node.specs.nodes.Heads.{called, impl_head_form, trait_head_form, trait_ref_form, value_head_form}
use Rattle.lay_node.specs.nodes.Types.{about_path, about_type, colon, param_name}
use Rattle.lay_node.specs.declared.generics.Generics.{Generics}
use Rattle.lay_node.specs.declared.heads.ImplHead.{ImplHead}
use Rattle.lay_node.specs.declared.heads.TraitHead.{TraitHead}
use Rattle.lay_node.specs.declared.heads.TraitRef.{TraitRef}
use Rattle.lay_node.specs.declared.heads.ValueHead.{ValueHead}
use Rattle.lay_node.specs.declared.heads.ValueHead.TheVariants as value
use Rattle.lay_node.specs.declared.token.GivenName.{GivenName}
use Rattle.lay_node.specs.declared.token.Name.{Name}
use Rattle.lay_node.specs.declared.types.Bound.{Bound}
use Rattle.lay_node.specs.declared.types.PathStyle.TheVariants.{Kind}
use Rattle.lay_node.specs.declared.types.Ty.{Ty}
use Rattle.lay_out_tokens.proofs.StreamParts.{leaf_more}
use Rattle.lay_out_types.proofs.FormRows.{part_more}
use Rattle.lay_out_types.proofs.PartLemmas.{param_name_more}
use Rattle.lay_out_types.proofs.TypeLemmas.{when_more}
use Rattle.lay_out_heads.specs.HeadRows.{called_row}
use Rattle.lay_out_heads.proofs.Steady.{Steady, steady_bounds}

-- ---- a word, a name and generic parameters

-- The word and its blank are this text.
abbrev IsWord : List ℕ → List ℕ → Type 0
IsWord word text = (g : Form) → stream_of (Piece (keyword word ∷ Blank ∷ []) g) ≡ tok.Text text ∷ stream_of g

pub called_is : (word text : List ℕ) (name : Name) (generics : Generics) (f : Form) → IsWord word text → Steady f
    → called_row text name generics ++ stream_of f ≡ stream_of (called word name.raw name.text generics f)
called_is word text name generics f is any =
    let rest = Part (generics_form generics) f in
    ap (λ (s : List Tok). tok.Text text ∷ s)
    (append_assoc (stream_of (leaf_of name.raw name.text Done)) (stream_of (generics_form generics)) (stream_of f)
    ∙ ap (λ (s : List Tok). stream_of (leaf_of name.raw name.text Done) ++ s) (part_more (generics_form generics) f any)
    ∙ leaf_more name.raw name.text rest)
    ∙ sym (is (leaf_of name.raw name.text rest))

pub called_alone : (word text : List ℕ) (name : Name) (generics : Generics) → IsWord word text
    → called_row text name generics ≡ stream_of (called word name.raw name.text generics Done)
called_alone word text name generics is =
    sym (append-nil (called_row text name generics)) ∙ called_is word text name generics Done is (λ q. refl)

-- ---- traits and implementations

pub unsafe_word : (is_unsafe : Bool) (f : Form)
    → cond is_unsafe (tok.Text (codes "unsafe ") ∷ []) [] ++ stream_of f
    ≡ stream_of (when is_unsafe (keyword (codes "unsafe") ∷ Blank ∷ []) f)
unsafe_word is_unsafe f = when_more is_unsafe (keyword (codes "unsafe") ∷ Blank ∷ []) (codes "unsafe ") f (λ g. refl)

trait_head_by : (x : TraitHead)
    → cond x.is_unsafe (tok.Text (codes "unsafe ") ∷ []) []
    ++ (called_row (codes "trait ") x.name x.generics ++ stream_of (bounded_form x.bounds))
    ≡ stream_of (trait_head_form x)
trait_head_by x =
    let bounds = Part (bounded_form x.bounds) Done in
    ap (λ (s : List Tok). cond x.is_unsafe (tok.Text (codes "unsafe ") ∷ []) [] ++ s)
    (called_is (codes "trait") (codes "trait ") x.name x.generics bounds (λ g. refl) (steady_bounds x.bounds))
    ∙ unsafe_word x.is_unsafe (called (codes "trait") x.name.raw x.name.text x.generics bounds)

pub trait_head_is : (x : TraitHead) (put : List Bound) → put ≡ x.bounds
    → cond x.is_unsafe (tok.Text (codes "unsafe ") ∷ []) []
    ++ (called_row (codes "trait ") x.name x.generics ++ stream_of (bounded_form put))
    ≡ stream_of (trait_head_form x)
trait_head_is x put e = rw e (trait_head_by x)

abbrev for_word : Form → Form
for_word f = Piece (Blank ∷ keyword (codes "for") ∷ Blank ∷ []) f

trait_ref_by : (r : TraitRef) (f : Form)
    → cond r.negative (tok.Text (codes "!") ∷ []) []
    ++ (stream_of (about_path r.path Kind).form ++ (tok.Text (codes " for ") ∷ stream_of f))
    ≡ stream_of (trait_ref_form (Some r) f)
trait_ref_by r f =
    ap (λ (s : List Tok). cond r.negative (tok.Text (codes "!") ∷ []) [] ++ s)
    (part_more (about_path r.path Kind).form (for_word f) any)
    ∙ when_more r.negative (Fixed kind.Punct (codes "!") ∷ []) (codes "!") (Part (about_path r.path Kind).form (for_word f))
    (λ g. refl)
  where
    any : Steady (for_word f)
    any true = refl
    any false = refl

pub trait_ref_is : (x : Option TraitRef) (r : TraitRef) → x ≡ Some r
    → cond r.negative (tok.Text (codes "!") ∷ []) []
    ++ (stream_of (about_path r.path Kind).form ++ (tok.Text (codes " for ") ∷ []))
    ≡ stream_of (trait_ref_form x Done)
trait_ref_is x r is = rw is (trait_ref_by r Done)

trait_ref_more : (x : Option TraitRef) (f : Form)
    → stream_of (trait_ref_form x Done) ++ stream_of f ≡ stream_of (trait_ref_form x f)
trait_ref_more None f = refl
trait_ref_more (Some r) f =
    let mark : List Tok = cond r.negative (tok.Text (codes "!") ∷ []) [] in
    let path = stream_of (about_path r.path Kind).form in
    let word : List Tok = tok.Text (codes " for ") ∷ [] in
    ap (λ (s : List Tok). s ++ stream_of f) (sym (trait_ref_by r Done))
    ∙ append_assoc mark (path ++ word) (stream_of f)
    ∙ ap (λ (s : List Tok). mark ++ s) (append_assoc path word (stream_of f))
    ∙ trait_ref_by r f

pub impl_head_is : (x : ImplHead)
    → cond x.is_unsafe (tok.Text (codes "unsafe ") ∷ []) []
    ++ (tok.Text (codes "impl") ∷ (stream_of (generics_form x.generics)
    ++ (tok.Text (codes " ") ∷ (stream_of (trait_ref_form x.of Done) ++ stream_of (about_type x.ty).told.form))))
    ≡ stream_of (impl_head_form x)
impl_head_is x =
    let mark : List Tok = cond x.is_unsafe (tok.Text (codes "unsafe ") ∷ []) [] in
    let of = trait_ref_form x.of (Part (about_type x.ty).told.form Done) in
    let head = Piece (keyword (codes "impl") ∷ []) (Part (generics_form x.generics) (Piece (Blank ∷ []) of)) in
    ap (λ (s : List Tok). mark ++ (tok.Text (codes "impl") ∷ s))
    (ap (λ (s : List Tok). stream_of (generics_form x.generics) ++ (tok.Text (codes " ") ∷ s))
    (trait_ref_more x.of (Part (about_type x.ty).told.form Done))
    ∙ part_more (generics_form x.generics) (Piece (Blank ∷ []) of) any)
    ∙ unsafe_word x.is_unsafe head
  where
    any : Steady (Piece (Blank ∷ []) (trait_ref_form x.of (Part (about_type x.ty).told.form Done)))
    any true = refl
    any false = refl

-- ---- constants and statics

pub const_head : (x : ValueHead) (name : GivenName) (y : Ty) → x ≡ value.Const name y
    → tok.Text (codes "const ") ∷ (stream_of (param_name (Some name) Done) ++ stream_of (about_type y).told.form)
    ≡ stream_of (value_head_form x)
const_head x name y is = rw is (ap (λ (s : List Tok). tok.Text (codes "const ") ∷ s)
    (param_name_more (Some name) (Part (about_type y).told.form Done)))

pub static_head : (x : ValueHead) (mutable : Bool) (name : Name) (y : Ty) → x ≡ value.Static mutable name y
    → tok.Text (codes "static ") ∷ (cond mutable (tok.Text (codes "mut ") ∷ []) []
    ++ (stream_of (leaf_of name.raw name.text Done) ++ (tok.Text (codes ": ") ∷ stream_of (about_type y).told.form)))
    ≡ stream_of (value_head_form x)
static_head x mutable name y is =
    let of = Piece colon (Part (about_type y).told.form Done) in
    rw is (ap (λ (s : List Tok). tok.Text (codes "static ") ∷ s)
    (ap (λ (s : List Tok). cond mutable (tok.Text (codes "mut ") ∷ []) [] ++ s) (leaf_more name.raw name.text of)
    ∙ when_more mutable mut_word (codes "mut ") (leaf_of name.raw name.text of) (λ g. refl)))
