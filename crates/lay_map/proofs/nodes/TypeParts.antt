-- What types are made of without a type within tells its units: lifetimes, attributes of parameters, binders, literals, constants and
-- ABIs.
use Rattle.std.proofs.Common.{◌≡◌, ℕ, true, false, List, [], ◌∷◌, ◌++◌, codes, map, refl, Option, Some, None}
use Rattle.std.proofs.lemmas.Bool.{and_parts}
use Rattle.lay_piece.specs.Characters as char
use Rattle.lay_piece.specs.declared.kind.Delim.TheVariants.{Brace}
use Rattle.lay_piece.specs.declared.kind.Kind.{Kind}
use Rattle.lay_piece.specs.declared.kind.Kind.TheVariants as kind
use Rattle.lay_piece.specs.declared.kind.Kind.TheVariants.{Punct, Opener, Closer, Doc}
use Rattle.lay_form.specs.Form.{Blank, Operator, Soft, Form, Piece, Part, keyword, punct}
use Rattle.lay_form.specs.Notation.{each, comma_gap, comma_list, piece}
use Rattle.lay_node.specs.Words.{is_literal, is_number, is_string}
use Rattle.lay_node.specs.nodes.Attr.{are_attrs, is_attr}
use Rattle.lay_node.specs.nodes.Types.{abi_form, abi_name, binder_form, capture_form, captures_form, colon, const_form, given_form, greater, idle_colon, is_abi, is_abi_name, is_binder, is_const, is_lifetime_param, joined, less, lifetime_form, lifetime_param_form, lifetimes_form, literal_form, outlived_form, param_attrs, param_name}
use Rattle.lay_node.specs.declared.attr.Attr.{Attr}
use Rattle.lay_node.specs.declared.token.GivenName.{GivenName}
use Rattle.lay_node.specs.declared.token.GivenName.TheVariants as given
use Rattle.lay_node.specs.declared.token.Lifetime.{Lifetime}
use Rattle.lay_node.specs.declared.token.Literal.{Literal}
use Rattle.lay_node.specs.declared.types.Abi.{Abi}
use Rattle.lay_node.specs.declared.types.Binder.{Binder}
use Rattle.lay_node.specs.declared.types.Capture.{Capture}
use Rattle.lay_node.specs.declared.types.Capture.TheVariants as capture
use Rattle.lay_node.specs.declared.types.ConstArg.{ConstArg}
use Rattle.lay_node.specs.declared.types.ConstArg.TheVariants as const_arg
use Rattle.lay_node.specs.declared.types.LifetimeParam.{LifetimeParam}
use Rattle.lay_map.specs.spelling.Units.{Word, words}
use Rattle.lay_map.proofs.FrontRules.{Skipped, left_out}
use Rattle.lay_map.proofs.PieceLemmas.{is_bare}
use Rattle.lay_map.proofs.Rules.{All, Any, Closing, Firm, Plain, Tells, all_of, brk, each_by, each_of, ends, firm_leaf, fixed, gap, group, last, leaf, list, part, part_to}
use Rattle.lay_map.proofs.nodes.Attrs.{attr_then, word}
use Rattle.lay_map.proofs.nodes.Tokens.{group_tells}

-- ---- literals

pub literal_bare : (k : Kind) (text : List ℕ) → is_literal k text ≡ true → is_bare k ≡ true
literal_bare Punct text h = absurd (cc h)
literal_bare (Opener d) text h = absurd (cc h)
literal_bare (Closer d) text h = absurd (cc h)
literal_bare (Doc inner block) text h = absurd (cc h)
literal_bare _ text h = refl

number_bare : (k : Kind) → is_number k ≡ true → is_bare k ≡ true
number_bare kind.Int h = refl
number_bare kind.Float h = refl
number_bare _ h = absurd (cc h)

string_bare : (k : Kind) (text : List ℕ) → is_string k text ≡ true → is_bare k ≡ true
string_bare Punct text h = absurd (cc h)
string_bare (Opener d) text h = absurd (cc h)
string_bare (Closer d) text h = absurd (cc h)
string_bare (Doc inner block) text h = absurd (cc h)
string_bare _ text h = refl

pub literal_tells : {Next : List Word → Type 0} {n : ℕ} {f : Form} (l : Literal) → is_literal l.kind l.text ≡ true → Closing Next n f
    → Closing Next n (literal_form l f)
literal_tells l h t = leaf l.kind l.text (literal_bare l.kind l.text h) t

pub literal_firm : {f : Form} (l : Literal) → is_literal l.kind l.text ≡ true → Firm (literal_form l f)
literal_firm l h = firm_leaf l.kind l.text (literal_bare l.kind l.text h)

pub string_tells : {Next : List Word → Type 0} {n : ℕ} {f : Form} (l : Literal) → is_string l.kind l.text ≡ true → Closing Next n f
    → Closing Next n (literal_form l f)
string_tells l h t = leaf l.kind l.text (string_bare l.kind l.text h) t

-- ---- lifetimes

pub lifetime_tells : {Next : List Word → Type 0} (l : Lifetime) → Tells Next (lifetime_form l)
lifetime_tells l = leaf kind.Lifetime l.text refl ends

pub lifetime_firm : (l : Lifetime) → Firm (lifetime_form l)
lifetime_firm l = firm_leaf kind.Lifetime l.text refl

-- parts, and what leads to each further one
pub joined_by : {Next : List Word → Type 0} (lead : Form → Form) (es : List Form) → ((f : Form) → Tells Next f → Tells Next (lead f)) → All Plain es
    → Tells Next (joined lead es)
joined_by lead [] k t = ends
joined_by lead (e ∷ es) k t = part t.0 (each_by lead es k t.1)

pub lifetimes_tell : {Next : List Word → Type 0} (ls : List Lifetime) → Tells Next (lifetimes_form ls)
lifetimes_tell ls =
    joined_by (λ f. Piece (Blank ∷ Operator (codes "+") ∷ Blank ∷ []) f) (map lifetime_form ls)
    (λ f t. fixed (Blank ∷ Operator (codes "+") ∷ Blank ∷ []) refl t) (all_of Plain lifetime_form (λ l. lifetime_tells l) ls)

-- ---- parameters

-- The next word is no `:`.
abbrev pub NoColon : List Word → Type 0
NoColon ws = Skipped (Operator (codes ":") ∷ []) ws

-- a `:` that may be spelled before nothing
pub idle_tells : Tells NoColon idle_colon
idle_tells = left_out (Operator (codes ":") ∷ []) (λ w ws n. n) ends

pub param_attrs_tell : {Next : List Word → Type 0} {f : Form} (attrs : List Attr) → are_attrs false attrs ≡ true → Tells Next f
    → Tells Next (param_attrs attrs f)
param_attrs_tell [] h t = t
param_attrs_tell (a ∷ more) h t =
    let p = and_parts (is_attr false a) (are_attrs false more) h in
    attr_then false a p.0 (param_attrs_tell more p.1 t)

outlived_tells : (ls : List Lifetime) → Tells NoColon (outlived_form ls)
outlived_tells [] = idle_tells
outlived_tells (l ∷ ls) = fixed colon refl (lifetimes_tell (l ∷ ls))

pub lifetime_param_tells : (p : LifetimeParam) → is_lifetime_param p ≡ true → Tells NoColon (lifetime_param_form p)
lifetime_param_tells p h = param_attrs_tell p.attrs h (part (lifetime_tells p.lifetime) (outlived_tells p.bounds))

-- parameters after a `,` each
more_params : (es : List Form) → All (Tells NoColon) es → Tells NoColon (each comma_gap es)
more_params [] t = ends
more_params (e ∷ []) t = gap (part_to (λ ws n. n) t.0 ends)
more_params (e ∷ f ∷ es) t = gap (part_to (λ ws n. refl) t.0 (more_params (f ∷ es) t.1))

-- a list of parameters in `<` and `>`
pub angle_list : {Next : List Word → Type 0} (es : List Form) → All (Tells NoColon) es → Tells Next (comma_list true less greater es)
angle_list [] t = fixed (less ∷ greater ∷ []) refl ends
angle_list (e ∷ es) t =
    group true 4
    (fixed (less ∷ []) refl (brk (Soft false 0) (part_to (behind es) t.0
    (part_to (λ ws n. refl) (more_params es t.1) (last true 0 (λ ws n. refl) (fixed (greater ∷ []) refl ends))))))
    ends
  where
    behind : (es : List Form) (ws : List Word) → Any ws → NoColon (words (Part (each comma_gap es) (piece (greater ∷ []))) ++ ws)
    behind [] ws n = refl
    behind (f ∷ fs) ws n = refl

pub binder_tells : {Next : List Word → Type 0} {f : Form} (binder : Option Binder) → is_binder binder ≡ true → Tells Next f
    → Tells Next (binder_form binder f)
binder_tells None h t = t
binder_tells (Some b) h t =
    fixed (keyword (codes "for") ∷ []) refl
    (part (angle_list (map lifetime_param_form b.params) (each_of (Tells NoColon) lifetime_param_form is_lifetime_param lifetime_param_tells b.params h))
    (fixed (Blank ∷ []) refl t))

-- ---- what is captured

capture_tells : {Next : List Word → Type 0} (c : Capture) → Tells Next (capture_form c)
capture_tells (capture.Region l) = lifetime_tells l
capture_tells (capture.Word w) = word w.raw w.text ends

pub captures_tell : {Next : List Word → Type 0} (cs : List Capture) → Tells Next (captures_form cs)
captures_tell cs =
    fixed (keyword (codes "use") ∷ []) refl
    (part (list true less greater (map capture_form cs) refl refl refl (λ ws. refl) (all_of Plain capture_form (λ c. capture_tells c) cs)) ends)

-- ---- constants

pub const_tells : {Next : List Word → Type 0} (value : ConstArg) → is_const value ≡ true → Tells Next (const_form value)
const_tells (const_arg.Literal l) h = literal_tells l h ends
const_tells (const_arg.Negative l) h = fixed (punct char.minus ∷ []) refl (leaf l.kind l.text (number_bare l.kind h) ends)
const_tells (const_arg.Braces tokens) h = group_tells (record { delim = Brace; tokens = tokens }) h ends

-- ---- ABIs

pub abi_name_tells : {Next : List Word → Type 0} {n : ℕ} {f : Form} (name : Option Literal) → is_abi_name name ≡ true → Closing Next n f
    → Closing Next n (abi_name name f)
abi_name_tells None h t = t
abi_name_tells (Some l) h t = string_tells l h (fixed (Blank ∷ []) refl t)

pub abi_tells : {Next : List Word → Type 0} {n : ℕ} {f : Form} (abi : Option Abi) → is_abi abi ≡ true → Closing Next n f → Closing Next n (abi_form abi f)
abi_tells None h t = t
abi_tells (Some a) h t = fixed (keyword (codes "extern") ∷ Blank ∷ []) refl (abi_name_tells a.name h t)

-- ---- names

pub given_tells : {Next : List Word → Type 0} {n : ℕ} {f : Form} (name : GivenName) → Closing Next n f → Closing Next n (given_form name f)
given_tells (given.Name name) t = word name.raw name.text t
given_tells given.Underscore t = leaf kind.Underscore (codes "_") refl t

pub param_name_tells : {Next : List Word → Type 0} {n : ℕ} {f : Form} (name : Option GivenName) → Closing Next n f → Closing Next n (param_name name f)
param_name_tells None t = t
param_name_tells (Some name) t = given_tells name (fixed colon refl t)
