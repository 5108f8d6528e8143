-- What paths and types begin with: a token that isn't dropped, and no `<` or `>` but where a path is qualified.
use Rattle.std.proofs.Common.{◌≡◌, Bool, true, false, List, [], ◌∷◌, codes, map, refl, sym, ap, ◌∙◌, subst, Option, Some, None}
use Rattle.std.proofs.lemmas.Bool.{and_parts}
use Rattle.lay_piece.specs.Characters as char
use Rattle.lay_piece.specs.declared.kind.Delim.TheVariants.{Paren, Bracket}
use Rattle.lay_piece.specs.declared.kind.Kind.TheVariants as kind
use Rattle.lay_piece.specs.declared.kind.Kind.TheVariants.{Punct}
use Rattle.lay_form.specs.Form.{Blank, Fixed, Form, Done, Piece, Part, keyword, opener, punct}
use Rattle.lay_node.specs.Words.{colons}
use Rattle.lay_node.specs.nodes.Call.{about_call}
use Rattle.lay_node.specs.nodes.Facts.{Facts}
use Rattle.lay_node.specs.nodes.Heads.{begins_qualified, path_opens_less, type_opens_less}
use Rattle.lay_node.specs.nodes.SimplePath.{are_simple_words, is_simple_path, simple_path_form, simple_words_form}
use Rattle.lay_node.specs.nodes.Types.{ArgsFacts, PathFacts, TypeFacts, abi_form, about_path, about_start, about_type, binder_form, bounds_word, less, pointer_word, segments_form, segments_good, tuple_form, type_forms}
use Rattle.lay_node.specs.declared.simple_path.SimplePath.{SimplePath}
use Rattle.lay_node.specs.declared.token.Word as node
use Rattle.lay_node.specs.declared.tokens.MacroCall.{MacroCall}
use Rattle.lay_node.specs.declared.types.Abi.{Abi}
use Rattle.lay_node.specs.declared.types.Arg.TheViews as views
use Rattle.lay_node.specs.declared.types.Binder.{Binder}
use Rattle.lay_node.specs.declared.types.Path.{Path}
use Rattle.lay_node.specs.declared.types.PathStart.{PathStart}
use Rattle.lay_node.specs.declared.types.PathStyle.{PathStyle}
use Rattle.lay_node.specs.declared.types.PathStyle.TheVariants as style
use Rattle.lay_node.specs.declared.types.Ty.{Ty}
use Rattle.lay_node.proofs.nodes.TypesLaws as laws
use Rattle.lay_node.proofs.nodes.TypesLaws.{about_segment}
use Rattle.lay_map.specs.spelling.Units.{Word, Told, punct_word}
use Rattle.lay_map.proofs.FrontRules.{Apart, Leads, Marks, angle_marks, angles, leads_behind, leads_deep, leads_fixed, leads_part, leads_when, leads_word, list_leads}
use Rattle.lay_map.proofs.Rules.{Firm, firm_behind, firm_fixed, firm_part}
use Rattle.lay_map.proofs.nodes.Attrs.{firm_word}

-- ---- paths

start_firm : (x : PathStart) (f : Form) → Firm f → Firm (Part (about_start x).form f)
start_firm x f t = by x (laws.start_view x)
  where
    by : (x : PathStart) → laws.PathStartView x → Firm (Part (about_start x).form f)
    by _ laws.IsLocal = subst (λ (s : Facts). Firm (Part s.form f)) (sym laws.start_local_is) (firm_behind t)
    by _ laws.IsGlobal = subst (λ (s : Facts). Firm (Part s.form f)) (sym laws.start_global_is) (firm_part (firm_fixed colons refl))
    by _ (laws.IsQualified y of) =
        subst (λ (s : Facts). Firm (Part s.form f)) (sym (laws.start_qualified_is y of)) (firm_part (firm_fixed (less ∷ []) refl))

segments_firm : (s : PathStyle) (xs : List (node.Word × ArgsFacts)) → segments_good s xs ≡ true → Firm (segments_form s xs)
segments_firm s [] g = absurd (cc g)
segments_firm s (x ∷ []) g = firm_word _ x.0.raw x.0.text
segments_firm s (x ∷ y ∷ more) g = firm_word _ x.0.raw x.0.text

-- the segments of a good path are so
good_segments : (s : PathStyle) (p : Path) → (about_path p s).good ≡ true → segments_good s (map about_segment p.segments) ≡ true
good_segments s p g =
    (and_parts (about_start p.start).good (segments_good s (map about_segment p.segments))
    (subst (λ (x : PathFacts). (x s).good ≡ true) (laws.path_is p) g)).1

pub path_firm : (s : PathStyle) (p : Path) → (about_path p s).good ≡ true → Firm (about_path p s).form
path_firm s p g =
    let xs = map about_segment p.segments in
    subst (λ (x : PathFacts). Firm (x s).form) (sym (laws.path_is p)) (start_firm p.start (segments_form s xs) (segments_firm s xs (good_segments s p g)))

-- The bits are no `:`, and they are no `<` where the path begins with one.
start_leads : {Next : List Word → Type 0} (x : PathStart) (f : Form) → ((ws : List Word) → Next (punct_word 58 ∷ ws))
    → (begins_qualified (views.out-PathStart x) ≡ true → (ws : List Word) → Next (Told Punct (codes "<") ∷ ws)) → Leads Next f
    → Leads Next (Part (about_start x).form f)
start_leads {Next} x f c k t = by x (laws.start_view x) k
  where
    by : (x : PathStart) → laws.PathStartView x → (begins_qualified (views.out-PathStart x) ≡ true → (ws : List Word) → Next (Told Punct (codes "<") ∷ ws))
        → Leads Next (Part (about_start x).form f)
    by _ laws.IsLocal k = subst (λ (s : Facts). Leads Next (Part s.form f)) (sym laws.start_local_is) (leads_behind t)
    by _ laws.IsGlobal k =
        subst (λ (s : Facts). Leads Next (Part s.form f)) (sym laws.start_global_is) (leads_part (leads_fixed colons (λ ws. c (punct_word 58 ∷ ws))))
    by _ (laws.IsQualified y of) k =
        subst (λ (s : Facts). Leads Next (Part s.form f)) (sym (laws.start_qualified_is y of))
        (leads_part (leads_fixed (less ∷ []) (k (ap begins_qualified (views.outs-Qualified y of)))))

segments_lead : {Next : List Word → Type 0} (s : PathStyle) (xs : List (node.Word × ArgsFacts)) → Marks Next → segments_good s xs ≡ true
    → Leads Next (segments_form s xs)
segments_lead s [] m g = absurd (cc g)
segments_lead s (x ∷ []) m g = leads_word _ x.0.raw x.0.text m
segments_lead s (x ∷ y ∷ more) m g = leads_word _ x.0.raw x.0.text m

pub path_leads : {Next : List Word → Type 0} (s : PathStyle) (p : Path) → Marks Next → ((ws : List Word) → Next (punct_word 58 ∷ ws))
    → (path_opens_less p ≡ true → (ws : List Word) → Next (Told Punct (codes "<") ∷ ws)) → (about_path p s).good ≡ true
    → Leads Next (about_path p s).form
path_leads {Next} s p m c k g =
    let xs = map about_segment p.segments in
    subst (λ (x : PathFacts). Leads Next (x s).form) (sym (laws.path_is p))
    (start_leads p.start (segments_form s xs) c k (segments_lead s xs m (good_segments s p g)))

-- A path that isn't qualified begins with neither `<` nor `>`.
pub open_path_apart : (s : PathStyle) (p : Path) → path_opens_less p ≡ false → (about_path p s).good ≡ true → Apart angles (about_path p s).form
open_path_apart s p h g = path_leads s p angle_marks (λ ws. refl) (λ e. absurd (let no : true ≡ false = sym e ∙ h in cc no)) g

-- ---- simple paths

simple_words_lead : {Next : List Word → Type 0} (ws : List node.Word) → Marks Next → are_simple_words ws ≡ true → Leads Next (simple_words_form ws Done)
simple_words_lead [] m h = absurd (cc h)
simple_words_lead (w ∷ []) m h = leads_word _ w.raw w.text m
simple_words_lead (w ∷ v ∷ more) m h = leads_word _ w.raw w.text m

simple_path_leads : {Next : List Word → Type 0} (path : SimplePath) → Marks Next → ((ws : List Word) → Next (punct_word 58 ∷ ws)) → is_simple_path path ≡ true
    → Leads Next (simple_path_form path)
simple_path_leads path m c h = leads_when path.global colons (λ ws. c (punct_word 58 ∷ ws)) (simple_words_lead path.words m h)

pub call_leads : {Next : List Word → Type 0} (call : MacroCall) → Marks Next → ((ws : List Word) → Next (punct_word 58 ∷ ws))
    → (about_call call).good ≡ true → Leads Next (about_call call).form
call_leads call m c h = leads_part (simple_path_leads call.path m c (and_parts (is_simple_path call.path) _ h).0)

-- ---- types

tuple_apart : (xs : List TypeFacts) → Apart angles (tuple_form xs)
tuple_apart [] = list_leads true Paren [] (λ ws. refl)
tuple_apart (x ∷ []) = leads_fixed (opener Paren ∷ []) (λ ws. refl)
tuple_apart (x ∷ y ∷ xs) = list_leads true Paren (type_forms (x ∷ y ∷ xs)) (λ ws. refl)

pointer_apart : {f : Form} (mutable : Bool) → Apart angles (Piece (punct char.star ∷ pointer_word mutable ∷ Blank ∷ []) f)
pointer_apart true = leads_fixed (punct char.star ∷ pointer_word true ∷ Blank ∷ []) (λ ws. refl)
pointer_apart false = leads_fixed (punct char.star ∷ pointer_word false ∷ Blank ∷ []) (λ ws. refl)

binder_apart : (binder : Option Binder) (f : Form) → Apart angles f → Apart angles (binder_form binder f)
binder_apart None f t = t
binder_apart (Some b) f t = leads_fixed (keyword (codes "for") ∷ []) (λ ws. refl)

abi_apart : (abi : Option Abi) (f : Form) → Apart angles f → Apart angles (abi_form abi f)
abi_apart None f t = t
abi_apart (Some a) f t = leads_fixed (keyword (codes "extern") ∷ Blank ∷ []) (λ ws. refl)

bounds_apart : {f : Form} (dynamic : Bool) → Apart angles (Piece (bounds_word dynamic ∷ Blank ∷ []) f)
bounds_apart true = leads_fixed (bounds_word true ∷ Blank ∷ []) (λ ws. refl)
bounds_apart false = leads_fixed (bounds_word false ∷ Blank ∷ []) (λ ws. refl)

abbrev ApartType : TypeFacts → Type 0
ApartType x = Apart angles x.told.form

-- a type that begins with no `<` of a path
pub type_apart : (x : Ty) → type_opens_less (views.out-Ty x) ≡ false → (about_type x).told.good ≡ true → Apart angles (about_type x).told.form
type_apart x h g = by x (laws.type_view x) h g
  where
    by : (x : Ty) → laws.TyView x → type_opens_less (views.out-Ty x) ≡ false → (about_type x).told.good ≡ true → ApartType (about_type x)
    by _ (laws.IsPath p) h g =
        subst ApartType (sym (laws.type_path_is p))
        (leads_deep (open_path_apart style.Kind p (sym (ap type_opens_less (views.outs-Path p)) ∙ h)
        (subst (λ (t : TypeFacts). t.told.good ≡ true) (laws.type_path_is p) g)))
    by _ (laws.IsCall c) h g =
        subst ApartType (sym (laws.type_call_is c))
        (leads_deep (call_leads c angle_marks (λ ws. refl) (subst (λ (t : TypeFacts). t.told.good ≡ true) (laws.type_call_is c) g)))
    by _ (laws.IsParen y) h g = subst ApartType (sym (laws.type_paren_is y)) (leads_deep (leads_fixed (opener Paren ∷ []) (λ ws. refl)))
    by _ (laws.IsTuple ys) h g = subst ApartType (sym (laws.type_tuple_is ys)) (leads_deep (tuple_apart (map about_type ys)))
    by _ laws.IsNever h g = subst ApartType (sym laws.type_never_is) (leads_deep (leads_fixed (punct char.bang ∷ []) (λ ws. refl)))
    by _ laws.IsInfer h g = subst ApartType (sym laws.type_infer_is) (leads_deep (leads_fixed (Fixed kind.Underscore (codes "_") ∷ []) (λ ws. refl)))
    by _ (laws.IsPtr mutable y) h g = subst ApartType (sym (laws.type_ptr_is mutable y)) (leads_deep (pointer_apart mutable))
    by _ (laws.IsRef lifetime mutable y) h g =
        subst ApartType (sym (laws.type_ref_is lifetime mutable y)) (leads_deep (leads_fixed (Fixed kind.Punct (codes "&") ∷ []) (λ ws. refl)))
    by _ (laws.IsSlice y) h g = subst ApartType (sym (laws.type_slice_is y)) (leads_deep (leads_fixed (opener Bracket ∷ []) (λ ws. refl)))
    by _ (laws.IsArray y length) h g = subst ApartType (sym (laws.type_array_is y length)) (leads_deep (leads_fixed (opener Bracket ∷ []) (λ ws. refl)))
    by _ (laws.IsFunc binder is_unsafe abi params variadic output) h g =
        subst ApartType (sym (laws.type_func_is binder is_unsafe abi params variadic output))
        (leads_deep (binder_apart binder _ (leads_when is_unsafe (keyword (codes "unsafe") ∷ Blank ∷ []) (λ ws. refl)
        (abi_apart abi _ (leads_fixed (keyword (codes "fn") ∷ []) (λ ws. refl))))))
    by _ (laws.IsBounds dynamic bounds) h g = subst ApartType (sym (laws.type_bounds_is dynamic bounds)) (leads_deep (bounds_apart dynamic))
