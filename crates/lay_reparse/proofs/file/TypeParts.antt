-- What types are made of without a type within: lifetimes, attributes of parameters, binders, literals, constants and
-- ABIs. Each passes from a border that asks for nothing to the one that is named.
use Rattle.std.proofs.Common.{◌≡◌, ℕ, List, [], ◌∷◌, Bool, true, false, cond, ◌||◌, not, refl, codes, map, Option, Some, None}
use Rattle.std.specs.List.{list_all}
use Rattle.std.specs.Str.{chars}
use Rattle.std.proofs.lemmas.Bool.{and_parts, and_from}
use Rattle.lay_piece.specs.Number.{is_bare_int}
use Rattle.lay_piece.specs.declared.kind.Delim.{Delim}
use Rattle.lay_piece.specs.declared.kind.Delim.TheVariants.{Brace}
use Rattle.lay_piece.specs.declared.kind.Kind.{Kind}
use Rattle.lay_piece.specs.declared.kind.Kind.TheVariants as kind
use Rattle.lay_form.specs.Form as form
use Rattle.lay_form.specs.Form.{Blank, Operator, Form, Done, Piece, Leaf}
use Rattle.lay_form.specs.Notation.{H, comma_list}
use Rattle.lay_form.specs.Pieces.{is_text_of, are_pieces}
use Rattle.lay_node.specs.Words.{is_literal, is_number, is_string}
use Rattle.lay_node.specs.nodes.Attr.{is_attr, are_attrs, attr_form, behind_attr, is_inner, is_line}
use Rattle.lay_node.specs.nodes.Types.{joined, less, greater, param_attrs, param_name, lifetime_form, lifetimes_form, outlived_form, lifetime_param_form, is_lifetime_param, binder_form, is_binder, capture_form, captures_form, const_form, is_const, abi_name, abi_form, is_abi_name, is_abi, colon}
use Rattle.lay_node.specs.declared.attr.Attr.{Attr}
use Rattle.lay_node.specs.declared.attr.Attr.TheVariants as attr
use Rattle.lay_node.specs.declared.token.GivenName.{GivenName}
use Rattle.lay_node.specs.declared.token.GivenName.TheVariants as given
use Rattle.lay_node.specs.declared.token.Lifetime.{Lifetime}
use Rattle.lay_node.specs.declared.token.Literal.{Literal}
use Rattle.lay_node.specs.declared.types.Abi.{Abi}
use Rattle.lay_node.specs.declared.types.Binder.{Binder}
use Rattle.lay_node.specs.declared.types.Capture.{Capture}
use Rattle.lay_node.specs.declared.types.Capture.TheVariants as capture
use Rattle.lay_node.specs.declared.types.ConstArg.{ConstArg}
use Rattle.lay_node.specs.declared.types.ConstArg.TheVariants as const_arg
use Rattle.lay_node.specs.declared.types.LifetimeParam.{LifetimeParam}
use Rattle.lay_reparse.proofs.borders.Need as need
use Rattle.lay_reparse.proofs.borders.Need.{RawWord, LineDoc}
use Rattle.lay_reparse.proofs.borders.Border.{Other, Border, At}
use Rattle.lay_reparse.proofs.borders.Move.{under}
use Rattle.lay_reparse.proofs.forms.Passes.{plain, behind_leaf}
use Rattle.lay_reparse.proofs.forms.Rules.{tables, On, From, All, Leads, each_part, under-refl, ends, fixed, tree_token, breaks, part, left_out, list_fits, list}
use Rattle.lay_reparse.proofs.texts.Laid.{as_block, is_leaf_kind}
use Rattle.lay_reparse.proofs.tokens.Within.{grouped}
use Rattle.lay_reparse.proofs.file.Nodes.{fits_known, behind_word, word, rest_pieces, each_pieces, list_pieces, attr_end, attr_passes_to}

-- ---- borders

-- a lifetime may have ended
abbrev pub ends_lifetime : Border
ends_lifetime = record { needs = need.Life ∷ []; spot = At Other }

-- a type may have ended: in a word, a lifetime, a delimiter, `>`, `!` or `_`
abbrev pub ends_type : Border
ends_type = record { needs = need.Word ∷ RawWord ∷ need.Life ∷ []; spot = At Other }

-- a generic argument may have ended: a type or a literal
abbrev pub ends_arg : Border
ends_arg = record {
  needs =
      need.Word ∷ RawWord ∷ need.Life ∷ need.Literal ∷ need.Number ∷ need.IntBare ∷ need.FloatWord ∷ [];
  spot = At Other;
}

-- ---- parts joined

pub joined_passes : {lead : Form → Form} {g h : Border} (es : List Form) → under g h ≡ true → Leads lead g h
    → All g es h → From g (joined lead es) h
joined_passes [] u k a = ends u
joined_passes {lead} {g} {h} (e ∷ es) u k a = part g h (under-refl g) a.0 (each_part es k a.1)

pub joined_pieces : (lead : Form → Form) → ((f : Form) → are_pieces (lead f) ≡ are_pieces f) → (es : List Form)
    → are_pieces (joined lead es) ≡ true → list_all are_pieces es ≡ true
joined_pieces lead same [] w = refl
joined_pieces lead same (e ∷ es) w =
    let p = and_parts (are_pieces e) _ w in and_from (are_pieces e) _ p.0 (each_pieces lead same es p.1)

-- ---- tokens

-- a token of the tree, where nothing is asked
pub leaf_passes : {o : Option (List Delim)} (k : Kind) (t : List ℕ) {f : Form} {c : Border} → is_leaf_kind k ≡ true
    → is_text_of k t ≡ true → On o (behind_leaf plain k t) f c → On o plain (Leaf k t f) c
leaf_passes k t l h k' = tree_token (and_from (is_leaf_kind k) true l refl) (fits_known k t l h) k'

-- an Int without suffix may have ended, and one with a suffix
abbrev pub behind_int : Border
behind_int = record { needs = need.IntBare ∷ []; spot = At Other }

abbrev pub behind_number : Border
behind_number = record { needs = need.Number ∷ []; spot = At Other }

pub int_passes : (t : List ℕ) {f : Form} {c : Border} → is_text_of kind.Int t ≡ true → From behind_int f c
    → From behind_number f c → From plain (Leaf kind.Int t f) c
int_passes t {f} {c} w k l = leaf_passes kind.Int t refl w (by (is_bare_int (chars t)))
  where
    by : (bare : Bool)
        → From (record { needs = cond bare (need.IntBare ∷ []) (need.Number ∷ []); spot = At Other }) f c
    by true = k
    by false = l

pub lifetime_passes : (l : Lifetime) → are_pieces (lifetime_form l) ≡ true → From plain (lifetime_form l) ends_lifetime
lifetime_passes l w =
    leaf_passes kind.Lifetime l.text refl (and_parts (is_text_of kind.Lifetime l.text) true w).0 (ends refl)

lifetimes_pass : (ls : List Lifetime) → list_all are_pieces (map lifetime_form ls) ≡ true
    → All plain (map lifetime_form ls) ends_lifetime
lifetimes_pass [] w = tt
lifetimes_pass (l ∷ ls) w =
    let p = and_parts (are_pieces (lifetime_form l)) _ w in (lifetime_passes l p.0, lifetimes_pass ls p.1)

plus_leads : Leads (λ f. Piece (Blank ∷ Operator (codes "+") ∷ Blank ∷ []) f) plain ends_lifetime
unfolding tables
plus_leads = record { to = λ e f k l. fixed refl (part plain ends_lifetime refl k l) }

-- lifetimes with `+` between them
pub outlived_passes : (ls : List Lifetime) → are_pieces (lifetimes_form ls) ≡ true
    → From plain (lifetimes_form ls) ends_lifetime
outlived_passes ls w =
    let es = map lifetime_form ls in
    joined_passes es refl plus_leads (lifetimes_pass ls
    (joined_pieces (λ f. Piece (Blank ∷ Operator (codes "+") ∷ Blank ∷ []) f) (λ f. refl) es w))

-- ---- attributes of a parameter

behind_one : (a : Attr) {f : Form} {c : Border} → is_attr false a ≡ true → From plain f c
    → From (attr_end a) (behind_attr false a f) c
unfolding tables
behind_one (attr.Doc true t) g k = cc
behind_one (attr.Doc false t) {f} {c} g k = at (as_block false t)
  where
    at : (b : Bool) → From (record { needs = cond b [] (LineDoc ∷ []); spot = At Other })
        (cond (not b) (H f) (Piece (Blank ∷ []) f)) c
    at true = fixed refl k
    at false = breaks refl k
behind_one (attr.Meta true path given) g k = cc
behind_one (attr.Meta false path given) g k = fixed refl k

behind_one_pieces : (a : Attr) (f : Form) → are_pieces (behind_attr false a f) ≡ true → are_pieces f ≡ true
behind_one_pieces a f w = at (is_inner a) (is_line a) w
  where
    at : (i l : Bool) → are_pieces (cond i f (cond (false || l) (H f) (Piece (Blank ∷ []) f))) ≡ true
        → are_pieces f ≡ true
    at true l w = w
    at false true w = w
    at false false w = w

pub param_attrs_pass : (attrs : List Attr) {f : Form} {c : Border} → are_attrs false attrs ≡ true
    → are_pieces (param_attrs attrs f) ≡ true → From plain f c → From plain (param_attrs attrs f) c
param_attrs_pass [] g w k = k
param_attrs_pass (a ∷ more) {f} g w k =
    let n = and_parts (is_attr false a) _ g in
    let p = and_parts (are_pieces (attr_form a)) _ w in
    part plain (attr_end a) refl (attr_passes_to false a (under-refl (attr_end a)) n.0 p.0)
    (behind_one a n.0 (param_attrs_pass more n.1 (behind_one_pieces a (param_attrs more f) p.1) k))

pub param_attrs_pieces : (attrs : List Attr) (f : Form) → are_pieces (param_attrs attrs f) ≡ true → are_pieces f ≡ true
param_attrs_pieces [] f w = w
param_attrs_pieces (a ∷ more) f w =
    param_attrs_pieces more f (behind_one_pieces a (param_attrs more f) (and_parts (are_pieces (attr_form a)) _ w).1)

-- ---- parameters that are lifetimes, and binders

limits_pass : (ls : List Lifetime) → are_pieces (outlived_form ls) ≡ true
    → From ends_lifetime (outlived_form ls) ends_lifetime
unfolding tables
limits_pass [] w = left_out refl refl (ends refl)
limits_pass (l ∷ ls) w = fixed refl (outlived_passes (l ∷ ls) w)

pub lifetime_param_passes : (p : LifetimeParam) → is_lifetime_param p ≡ true
    → are_pieces (lifetime_param_form p) ≡ true
    → From plain (lifetime_param_form p) ends_lifetime
lifetime_param_passes p g w =
    let f = form.Part (lifetime_form p.lifetime) (outlived_form p.bounds) in
    let q = and_parts (are_pieces (lifetime_form p.lifetime)) _ (param_attrs_pieces p.attrs f w) in
    param_attrs_pass p.attrs g w
    (part plain ends_lifetime refl (lifetime_passes p.lifetime q.0) (limits_pass p.bounds q.1))

params_pass : (ps : List LifetimeParam) → list_all is_lifetime_param ps ≡ true
    → list_all are_pieces (map lifetime_param_form ps) ≡ true
    → All plain (map lifetime_param_form ps) ends_lifetime
params_pass [] g w = tt
params_pass (p ∷ ps) g w =
    let n = and_parts (is_lifetime_param p) _ g in
    let q = and_parts (are_pieces (lifetime_param_form p)) _ w in
    (lifetime_param_passes p n.0 q.0, params_pass ps n.1 q.1)

binder_fits : list_fits true less greater behind_word plain ends_lifetime plain ≡ true
unfolding tables
binder_fits = refl

-- a binder, if there is one, and what follows it
pub binder_passes : (binder : Option Binder) {f : Form} {c : Border} → is_binder binder ≡ true
    → are_pieces (binder_form binder f) ≡ true → From plain f c → From plain (binder_form binder f) c
unfolding tables
binder_passes None g w k = k
binder_passes (Some b) {f} g w k =
    let es = map lifetime_param_form b.params in
    let p = and_parts (are_pieces (comma_list true less greater es)) (are_pieces f) w in
    fixed refl (part behind_word plain refl
    (list true less greater es plain ends_lifetime binder_fits
    (params_pass b.params g (list_pieces true less greater es p.0)))
    (fixed refl k))

pub binder_pieces : (binder : Option Binder) (f : Form) → are_pieces (binder_form binder f) ≡ true
    → are_pieces f ≡ true
binder_pieces None f w = w
binder_pieces (Some b) f w =
    (and_parts (are_pieces (comma_list true less greater (map lifetime_param_form b.params))) (are_pieces f) w).1

-- ---- what is captured

capture_passes : (c : Capture) → are_pieces (capture_form c) ≡ true → From plain (capture_form c) ends_type
unfolding tables
capture_passes (capture.Region l) w =
    leaf_passes kind.Lifetime l.text refl (and_parts (is_text_of kind.Lifetime l.text) true w).0 (ends refl)
capture_passes (capture.Word c) w = word c.raw c.text refl w (ends refl) (ends refl)

each_capture : (cs : List Capture) → list_all are_pieces (map capture_form cs) ≡ true
    → All plain (map capture_form cs) ends_type
each_capture [] w = tt
each_capture (c ∷ cs) w =
    let p = and_parts (are_pieces (capture_form c)) _ w in (capture_passes c p.0, each_capture cs p.1)

captures_fit : list_fits true less greater behind_word plain ends_type ends_type ≡ true
unfolding tables
captures_fit = refl

pub captures_form_passes : (cs : List Capture) → are_pieces (captures_form cs) ≡ true
    → From plain (captures_form cs) ends_type
unfolding tables
captures_form_passes cs w =
    let es = map capture_form cs in
    let p = and_parts (are_pieces (comma_list true less greater es)) true w in
    fixed refl (part behind_word ends_type refl
    (list true less greater es plain ends_type captures_fit (each_capture cs (list_pieces true less greater es p.0)))
    (ends refl))

-- ---- literals and constants

pub literal_passes : (k : Kind) (t : List ℕ) → is_literal k t ≡ true → is_text_of k t ≡ true
    → From plain (Leaf k t Done) ends_arg
literal_passes kind.Ident t h w = leaf_passes kind.Ident t refl w (ends refl)
literal_passes kind.Char t h w = leaf_passes kind.Char t refl w (ends refl)
literal_passes kind.Str t h w = leaf_passes kind.Str t refl w (ends refl)
literal_passes kind.RawStr t h w = leaf_passes kind.RawStr t refl w (ends refl)
literal_passes kind.Byte t h w = leaf_passes kind.Byte t refl w (ends refl)
literal_passes kind.ByteStr t h w = leaf_passes kind.ByteStr t refl w (ends refl)
literal_passes kind.RawByteStr t h w = leaf_passes kind.RawByteStr t refl w (ends refl)
literal_passes kind.CStr t h w = leaf_passes kind.CStr t refl w (ends refl)
literal_passes kind.RawCStr t h w = leaf_passes kind.RawCStr t refl w (ends refl)
literal_passes kind.Int t h w = int_passes t w (ends refl) (ends refl)
literal_passes kind.Float t h w = leaf_passes kind.Float t refl w (ends refl)
literal_passes _ t h w = cc

number_literal : (k : Kind) (t : List ℕ) → is_number k ≡ true → is_literal k t ≡ true
number_literal kind.Int t h = refl
number_literal kind.Float t h = refl
number_literal _ t h = cc

pub const_passes : (value : ConstArg) → is_const value ≡ true → are_pieces (const_form value) ≡ true
    → From plain (const_form value) ends_arg
unfolding tables
const_passes (const_arg.Literal l) g w = literal_passes l.kind l.text g (and_parts (is_text_of l.kind l.text) true w).0
const_passes (const_arg.Negative l) g w =
    fixed refl (literal_passes l.kind l.text (number_literal l.kind l.text g)
    (and_parts (is_text_of l.kind l.text) true w).0)
const_passes (const_arg.Braces tokens) g w =
    grouped (record { delim = Brace; tokens = tokens }) g (refl, refl) (ends refl)

-- ---- ABIs

-- a string, and a blank
string_passes : (k : Kind) (t : List ℕ) {f : Form} {c : Border} → is_string k t ≡ true → is_text_of k t ≡ true
    → From plain f c → From plain (Leaf k t (Piece (Blank ∷ []) f)) c
unfolding tables
string_passes kind.Str t h w k = leaf_passes kind.Str t refl w (fixed refl k)
string_passes kind.RawStr t h w k = leaf_passes kind.RawStr t refl w (fixed refl k)
string_passes _ t h w k = cc

-- the same without a blank, as a literal
pub string_literal_passes : (k : Kind) (t : List ℕ) → is_string k t ≡ true → is_text_of k t ≡ true
    → From plain (Leaf k t Done) ends_arg
string_literal_passes kind.Str t h w = literal_passes kind.Str t refl w
string_literal_passes kind.RawStr t h w = literal_passes kind.RawStr t refl w
string_literal_passes _ t h w = cc

abi_name_passes : (name : Option Literal) {f : Form} {c : Border} → is_abi_name name ≡ true
    → are_pieces (abi_name name f) ≡ true → From plain f c → From plain (abi_name name f) c
abi_name_passes None g w k = k
abi_name_passes (Some l) g w k = string_passes l.kind l.text g (and_parts (is_text_of l.kind l.text) _ w).0 k

pub abi_passes : (abi : Option Abi) {f : Form} {c : Border} → is_abi abi ≡ true → are_pieces (abi_form abi f) ≡ true
    → From plain f c → From plain (abi_form abi f) c
unfolding tables
abi_passes None g w k = k
abi_passes (Some a) g w k = fixed refl (abi_name_passes a.name g w k)

abi_name_pieces : (name : Option Literal) (f : Form) → are_pieces (abi_name name f) ≡ true → are_pieces f ≡ true
abi_name_pieces None f w = w
abi_name_pieces (Some l) f w = (and_parts (is_text_of l.kind l.text) (are_pieces f) w).1

pub abi_pieces : (abi : Option Abi) (f : Form) → are_pieces (abi_form abi f) ≡ true → are_pieces f ≡ true
abi_pieces None f w = w
abi_pieces (Some a) f w = abi_name_pieces a.name f w

-- ---- what a parameter of a function type is called

pub param_name_passes : (name : Option GivenName) {f : Form} {c : Border} → are_pieces (param_name name f) ≡ true
    → From plain f c → From plain (param_name name f) c
unfolding tables
param_name_passes None w k = k
param_name_passes (Some (given.Name n)) w k = word n.raw n.text refl w (fixed refl k) (fixed refl k)
param_name_passes (Some given.Underscore) w k =
    leaf_passes kind.Underscore (codes "_") refl (and_parts (is_text_of kind.Underscore (codes "_")) _ w).0
    (fixed refl k)

pub param_name_pieces : (name : Option GivenName) (f : Form) → are_pieces (param_name name f) ≡ true
    → are_pieces f ≡ true
param_name_pieces None f w = w
param_name_pieces (Some (given.Name n)) f w = rest_pieces n.raw n.text (Piece colon f) w
param_name_pieces (Some given.Underscore) f w = (and_parts (is_text_of kind.Underscore (codes "_")) (are_pieces f) w).1
