-- A head, and a visibility before one, begin with a word, so no text of theirs is taken for a byte order mark or a
-- shebang.
use Rattle.std.proofs.Common.{[], ◌∷◌, Bool, true, false, refl, codes, Option, Some, None}
use Rattle.lay_layout.specs.Document.{Document}
use Rattle.lay_form.specs.Form.{Blank, Form, Piece, keyword, Part}
use Rattle.lay_form.specs.Layout.{laid_out}
use Rattle.lay_form.specs.Notation.{when}
use Rattle.lay_node.specs.nodes.Functions.{fn_head_form, safety_form, signature_form}
use Rattle.lay_node.specs.nodes.Heads.{HeadFacts, seen, about_extern_crate, about_alias, about_struct, about_union, about_enum, value_head_form, unsafe_form, trait_head_form, impl_head_form}
use Rattle.lay_node.specs.nodes.Types.{abi_form}
use Rattle.lay_node.specs.declared.functions.FnHead.{FnHead}
use Rattle.lay_node.specs.declared.functions.Safety.{Safety}
use Rattle.lay_node.specs.declared.functions.Safety.TheVariants as safety
use Rattle.lay_node.specs.declared.heads.Alias.{Alias}
use Rattle.lay_node.specs.declared.heads.Enum.{Enum}
use Rattle.lay_node.specs.declared.heads.ExternCrate.{ExternCrate}
use Rattle.lay_node.specs.declared.heads.ImplHead.{ImplHead}
use Rattle.lay_node.specs.declared.heads.Site.{Site}
use Rattle.lay_node.specs.declared.heads.Struct.{Struct}
use Rattle.lay_node.specs.declared.heads.TraitHead.{TraitHead}
use Rattle.lay_node.specs.declared.heads.Union.{Union}
use Rattle.lay_node.specs.declared.heads.ValueHead.{ValueHead}
use Rattle.lay_node.specs.declared.heads.ValueHead.TheVariants as value
use Rattle.lay_node.specs.declared.types.Abi.{Abi}
use Rattle.lay_node.specs.declared.vis.Vis.{Vis}
use Rattle.lay_node.specs.declared.vis.Vis.TheVariants as vis
use Rattle.lay_reparse.proofs.file.FirstText.{Fair, first_text, low_fair}

-- The form begins fairly, whatever is laid out after it.
abbrev pub BeginsFair : Form → Type 0
BeginsFair f = (d : Document) → Fair (first_text (laid_out false f d))

-- ---- after a visibility

pub seen_fair : (v : Vis) (x : HeadFacts) → BeginsFair x.head → BeginsFair (seen v x)
seen_fair vis.Inherited x k d = k _
seen_fair vis.Public x k d = low_fair (codes "pub ") refl (λ r. refl) (λ r. refl)
seen_fair vis.Crate x k d = low_fair (codes "pub(crate) ") refl (λ r. refl) (λ r. refl)
seen_fair vis.Own x k d = low_fair (codes "pub(self) ") refl (λ r. refl) (λ r. refl)
seen_fair vis.Super x k d = low_fair (codes "pub(super) ") refl (λ r. refl) (λ r. refl)
seen_fair (vis.In path) x k d = low_fair (codes "pub(in ") refl (λ r. refl) (λ r. refl)

-- ---- items that are heads alone

pub extern_crate_fair : (x : ExternCrate) → BeginsFair (about_extern_crate x).head
extern_crate_fair x d = low_fair (codes "extern crate ") refl (λ r. refl) (λ r. refl)

pub alias_fair : (site : Site) (x : Alias) → BeginsFair (about_alias site x).head
alias_fair site x d = low_fair (codes "type ") refl (λ r. refl) (λ r. refl)

pub struct_fair : (x : Struct) → BeginsFair (about_struct x).head
struct_fair x d = low_fair (codes "struct ") refl (λ r. refl) (λ r. refl)

pub union_fair : (x : Union) → BeginsFair (about_union x).head
union_fair x d = low_fair (codes "union ") refl (λ r. refl) (λ r. refl)

pub enum_fair : (x : Enum) → BeginsFair (about_enum x).head
enum_fair x d = low_fair (codes "enum ") refl (λ r. refl) (λ r. refl)

-- ---- other heads

pub value_head_fair : (x : ValueHead) (behind : Form) → BeginsFair (Part (value_head_form x) behind)
value_head_fair (value.Const name x) behind d = low_fair (codes "const ") refl (λ r. refl) (λ r. refl)
value_head_fair (value.Static mutable name x) behind d = low_fair (codes "static ") refl (λ r. refl) (λ r. refl)

pub unsafe_fair : (is_unsafe : Bool) (f : Form) → BeginsFair f → BeginsFair (unsafe_form is_unsafe f)
unsafe_fair true f k d = low_fair (codes "unsafe ") refl (λ r. refl) (λ r. refl)
unsafe_fair false f k d = k d

pub trait_head_fair : (x : TraitHead) → BeginsFair (trait_head_form x)
trait_head_fair x = unsafe_fair x.is_unsafe _ (λ d. low_fair (codes "trait ") refl (λ r. refl) (λ r. refl))

pub impl_head_fair : (x : ImplHead) → BeginsFair (impl_head_form x)
impl_head_fair x = unsafe_fair x.is_unsafe _ (λ d. low_fair (codes "impl") refl (λ r. refl) (λ r. refl))

const_fair : (is_const : Bool) (f : Form) → BeginsFair f
    → BeginsFair (when is_const (keyword (codes "const") ∷ Blank ∷ []) f)
const_fair true f k d = low_fair (codes "const ") refl (λ r. refl) (λ r. refl)
const_fair false f k d = k d

async_fair : (is_async : Bool) (f : Form) → BeginsFair f
    → BeginsFair (when is_async (keyword (codes "async") ∷ Blank ∷ []) f)
async_fair true f k d = low_fair (codes "async ") refl (λ r. refl) (λ r. refl)
async_fair false f k d = k d

safety_fair : (s : Option Safety) (f : Form) → BeginsFair f → BeginsFair (safety_form s f)
safety_fair None f k d = k d
safety_fair (Some safety.Unsafe) f k d = low_fair (codes "unsafe ") refl (λ r. refl) (λ r. refl)
safety_fair (Some safety.Safe) f k d = low_fair (codes "safe ") refl (λ r. refl) (λ r. refl)

abi_fair : (abi : Option Abi) (f : Form) → BeginsFair f → BeginsFair (abi_form abi f)
abi_fair None f k d = k d
abi_fair (Some a) f k d = low_fair (codes "extern ") refl (λ r. refl) (λ r. refl)

pub fn_head_fair : (h : FnHead) → BeginsFair (fn_head_form h)
fn_head_fair h =
    let e = Piece (keyword (codes "fn") ∷ Blank ∷ []) (signature_form h) in
    let a = abi_form h.abi e in
    let s = safety_form h.safety a in
    let i = when h.is_async (keyword (codes "async") ∷ Blank ∷ []) s in
    const_fair h.is_const i (async_fair h.is_async s (safety_fair h.safety a (abi_fair h.abi e
    (λ d. low_fair (codes "fn ") refl (λ r. refl) (λ r. refl)))))
