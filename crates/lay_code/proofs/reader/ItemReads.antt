-- What an item is: what is spelled, and well formed, is read, kind by kind.
use Rattle.std.proofs.Common.{◌≡◌, ℕ, Bool, true, false, ◌&&◌, List, [], ◌∷◌, drop, codes, Option, Some, None, refl, sym, subst, ◌∙◌}
use Rattle.std.specs.Prelude.{if◌then◌else◌, is_some}
use Rattle.std.specs.Str.{bytes_eq}
use Rattle.lay_piece.specs.Forms.{opening}
use Rattle.lay_piece.specs.Word.{class_of}
use Rattle.lay_piece.specs.declared.kind.Delim.TheVariants.{Brace}
use Rattle.lay_piece.specs.declared.kind.Kind.{Kind}
use Rattle.lay_piece.specs.declared.kind.Kind.TheVariants as kind
use Rattle.lay_piece.specs.declared.kind.Kind.TheVariants.{Ident, RawIdent, Punct, Opener, Closer}
use Rattle.lay_token.specs.Delimiters.{is_opener}
use Rattle.lay_token.specs.Operators.{is_op}
use Rattle.lay_form.specs.Form.{Form, Piece, keyword, Bit}
use Rattle.lay_form.specs.Spelled.{IsOne, IsOperator, Spells}
use Rattle.lay_node.specs.Ahead.{Tokens, first, is_keyword, tail}
use Rattle.lay_node.specs.Words.{is_path_class}
use Rattle.lay_node.specs.nodes.Functions.{about_fn_head, fn_head_form, is_fn_head}
use Rattle.lay_node.specs.nodes.Heads.{about_alias, about_enum, about_extern_crate, about_impl_head, about_struct, about_union, about_value_head, ends_head, headed, is_trait_head, trait_head_form, of_type, unsafe_form}
use Rattle.lay_node.specs.nodes.Types.{is_abi_name, is_given}
use Rattle.lay_node.specs.reader.Functions.{async_flag, behind_abi, behind_string, fn_head, safety_at}
use Rattle.lay_node.specs.reader.Heads.{alias, enum, extern_crate, impl_head, struct, trait_head, union, value_head}
use Rattle.lay_node.specs.reader.Loops.{Got, ◌>>=◌}
use Rattle.lay_node.specs.reader.Patterns.{PatWithin}
use Rattle.lay_node.specs.reader.Words.{name, name_by}
use Rattle.lay_node.specs.declared.functions.FnHead.{FnHead}
use Rattle.lay_node.specs.declared.heads.Alias.{Alias}
use Rattle.lay_node.specs.declared.heads.Enum.{Enum}
use Rattle.lay_node.specs.declared.heads.ExternCrate.{ExternCrate}
use Rattle.lay_node.specs.declared.heads.Site.{Site}
use Rattle.lay_node.specs.declared.heads.Struct.{Struct}
use Rattle.lay_node.specs.declared.heads.TraitHead.{TraitHead}
use Rattle.lay_node.specs.declared.heads.Union.{Union}
use Rattle.lay_node.specs.declared.token.Literal.{Literal}
use Rattle.lay_node.specs.declared.token.Name.{Name}
use Rattle.lay_node.specs.declared.tokens.MacroCall.{MacroCall}
use Rattle.lay_node.proofs.Fronts.{one_front, op_front, other_op}
use Rattle.lay_node.proofs.Parts.{word_kind, before_blank, behind_blank, bit_alone}
use Rattle.lay_node.proofs.reader.Call.{SpelledCall}
use Rattle.lay_node.proofs.reader.Exact.{IsRead}
use Rattle.lay_node.specs.declared.functions.Safety.{Safety}
use Rattle.lay_node.specs.declared.functions.Safety.TheVariants as safety
use Rattle.lay_node.proofs.reader.FunctionsBegins.{string_kind}
use Rattle.lay_node.proofs.reader.HeadsLevel.{CompleteHead}
use Rattle.lay_node.proofs.reader.PatternsCompletePaths.{PatReads}
use Rattle.lay_node.proofs.reader.SimplePath.{OfLead, OfOne, OfWord, SimplePathFront, simple_path_front, simple_path_no_keyword}
use Rattle.lay_node.proofs.reader.TypesCompleteParts.{one_left, colon_operator}
use Rattle.lay_node.proofs.reader.Words.{GoodName, name_complete}
use Rattle.lay_node.specs.declared.token.GivenName.{GivenName}
use Rattle.lay_node.specs.declared.types.Ty.{Ty}
use Rattle.lay_node.proofs.reader.Use.{RenameIs}
use Rattle.lay_node.proofs.reader.ValueHeads.{const_no_keyword, given_parts}
use Rattle.lay_node.specs.declared.token.GivenName.TheVariants as given
use Rattle.lay_node.specs.declared.heads.ValueHead.TheVariants as value
use Rattle.lay_code.specs.nodes.Item.{foreign_abi}
use Rattle.lay_code.specs.reader.ItemLeads.{ItemLead, OfAlias, OfCall, OfEnum, OfExternCrate, OfForeign, OfFunction, OfImpl, OfImport, OfModule, OfRules, OfStruct, OfTrait, OfUnion, OfValue, begins_function, begins_rules, begins_union, item_lead}

-- What is proved of the heads: what stands there is read.
pub record HeadsComplete : Type 0 where
  pub extern_crates : (x : ExternCrate) (depth : ℕ) (ts rest : Tokens) → Spells (headed (about_extern_crate x)).form depth ts rest
      → (about_extern_crate x).good ≡ true → extern_crate ts ≡ Some (x, rest)
  pub aliases : (at : Site) → CompleteHead (λ (x : Alias). headed (about_alias at x)) (λ w ts. alias at w.kinds ts)
  pub structs : CompleteHead (λ (x : Struct). headed (about_struct x)) (λ w ts. struct w.kinds ts)
  pub unions : CompleteHead (λ (x : Union). headed (about_union x)) (λ w ts. union w.kinds ts)
  pub enums : CompleteHead (λ (x : Enum). headed (about_enum x)) (λ w ts. enum w.kinds ts)
  pub values : CompleteHead about_value_head (λ w ts. value_head w.kinds ts)
  pub functions : (at : Site) → CompleteHead (about_fn_head at) (fn_head at)
  pub function_begins : (at : Site) (h : FnHead) (depth : ℕ) (ts rest : Tokens) → Spells (fn_head_form h) depth ts rest → is_fn_head at h ≡ true
      → begins_function ts ≡ true
  pub impls : CompleteHead about_impl_head (λ w ts. impl_head w.kinds ts)
  -- before a where clause or a body
  pub traits : (depth : ℕ) (inner : PatWithin) → PatReads depth inner → (x : TraitHead) (ts rest : Tokens) → Spells (trait_head_form x) depth ts rest
      → is_trait_head x ≡ true → ends_head rest ≡ true → (flags : Bool × Bool) × IsRead depth (trait_head inner.kinds) (x, flags) ts rest

-- ---- what an item is, by its first tokens

pub extern_crate_lead : (ts at mid : Tokens) → IsOne Ident (codes "extern") ts at → IsOne Ident (codes "crate") at mid → item_lead ts ≡ OfExternCrate
unfolding item_lead
extern_crate_lead ts at mid o p = rw ((one_front Ident (codes "extern") ts at o).1, (one_front Ident (codes "crate") at mid p).1) refl

pub import_lead : (ts mid : Tokens) → IsOne Ident (codes "use") ts mid → item_lead ts ≡ OfImport
unfolding item_lead
import_lead ts mid o = rw (one_front Ident (codes "use") ts mid o).1 refl

pub module_lead : (ts mid : Tokens) → IsOne Ident (codes "mod") ts mid → item_lead ts ≡ OfModule
unfolding item_lead
module_lead ts mid o = rw (one_front Ident (codes "mod") ts mid o).1 refl

pub function_lead : (ts : Tokens) → begins_function ts ≡ true → item_lead ts ≡ OfFunction
unfolding item_lead
function_lead ts h = rw h refl

pub alias_lead : (ts mid : Tokens) → IsOne Ident (codes "type") ts mid → item_lead ts ≡ OfAlias
unfolding item_lead
alias_lead ts mid o = rw (one_front Ident (codes "type") ts mid o).1 refl

pub struct_lead : (ts mid : Tokens) → IsOne Ident (codes "struct") ts mid → item_lead ts ≡ OfStruct
unfolding item_lead
struct_lead ts mid o = rw (one_front Ident (codes "struct") ts mid o).1 refl

pub enum_lead : (ts mid : Tokens) → IsOne Ident (codes "enum") ts mid → item_lead ts ≡ OfEnum
unfolding item_lead
enum_lead ts mid o = rw (one_front Ident (codes "enum") ts mid o).1 refl

pub union_lead : (n : Name) (ts mid rest : Tokens) → IsOne Ident (codes "union") ts mid → GoodName n mid rest → item_lead ts ≡ OfUnion
unfolding item_lead
union_lead n ts mid rest o g = rw ((one_front Ident (codes "union") ts mid o).1, name_complete n mid rest g) refl

pub static_lead : (ts mid : Tokens) → IsOne Ident (codes "static") ts mid → item_lead ts ≡ OfValue
unfolding item_lead
static_lead ts mid o = rw (one_front Ident (codes "static") ts mid o).1 refl

pub impl_lead : (ts mid : Tokens) → IsOne Ident (codes "impl") ts mid → item_lead ts ≡ OfImpl
unfolding item_lead
impl_lead ts mid o = rw (one_front Ident (codes "impl") ts mid o).1 refl

pub trait_lead : (ts mid : Tokens) → IsOne Ident (codes "trait") ts mid → item_lead ts ≡ OfTrait
unfolding item_lead
trait_lead ts mid o = rw (one_front Ident (codes "trait") ts mid o).1 refl

pub unsafe_impl_lead : (ts at mid : Tokens) → IsOne Ident (codes "unsafe") ts at → IsOne Ident (codes "impl") at mid → item_lead ts ≡ OfImpl
unfolding item_lead
unsafe_impl_lead ts at mid o p = rw ((one_front Ident (codes "unsafe") ts at o).1, (one_front Ident (codes "impl") at mid p).1) refl

pub unsafe_trait_lead : (ts at mid : Tokens) → IsOne Ident (codes "unsafe") ts at → IsOne Ident (codes "trait") at mid → item_lead ts ≡ OfTrait
unfolding item_lead
unsafe_trait_lead ts at mid o p = rw ((one_front Ident (codes "unsafe") ts at o).1, (one_front Ident (codes "trait") at mid p).1) refl

-- ---- macros

name_none : (ts : Tokens) → first (λ t. is_opener t.kind) ts ≡ true → name ts ≡ None
unfolding name
name_none [] h = refl
name_none (t ∷ ts) h = by t.kind h
  where
    by : (k : Kind) → is_opener k ≡ true → (name_by k t.text >>= (λ (n : Name). let found : Got Name = Some (n, ts) in found)) ≡ None
    by (Opener d) h = refl
    by _ h = absurd (cc)

-- A macro call begins no declaration of a macro: a group stands after its `!`.
no_rules : (c : MacroCall) (depth : ℕ) (ts rest : Tokens) → SpelledCall c depth ts rest → begins_rules ts ≡ false
no_rules c depth ts rest s = by (simple_path_front c.path depth ts s.mid s.good s.path)
  where
    no_mark : (a c : Bool) → a && false && c ≡ false
    no_mark true c = refl
    no_mark false c = refl

    no_name : (a b : Bool) → a && b && false ≡ false
    no_name true true = refl
    no_name true false = refl
    no_name false b = refl

    by : SimplePathFront ts s.mid → begins_rules ts ≡ false
    by (OfLead h) = rw (op_front (codes "::") ts h).2 refl
    by (OfWord true text at o h) = rw (one_front RawIdent text ts at o).1 refl
    by (OfWord false text at o h) =
        rw ((one_front Ident text ts at o).1, other_op (codes "::") (codes "!") refl at h) (no_mark (bytes_eq text (codes "macro_rules")) (is_some (name (drop 1 at))))
    by (OfOne true text o) = rw (one_front RawIdent text ts s.mid o).1 refl
    by (OfOne false text o) =
        rw ((one_front Ident text ts s.mid o).1, s.mark.1, name_none s.within s.group.begins) (no_name (bytes_eq text (codes "macro_rules")) (is_op (codes "!") s.mid))

-- No name stands at an operator.
op_no_name : (op : List ℕ) (ts : Tokens) → is_op op ts ≡ true → name ts ≡ None
unfolding name
op_no_name op ts h = rw (op_front op ts h).2 refl

-- Nor does a macro call begin a union, or a function.
no_union : (c : MacroCall) (depth : ℕ) (ts rest : Tokens) → SpelledCall c depth ts rest → begins_union ts ≡ false
no_union c depth ts rest s = by (simple_path_front c.path depth ts s.mid s.good s.path)
  where
    none : (b : Bool) → b && false ≡ false
    none true = refl
    none false = refl

    by : SimplePathFront ts s.mid → begins_union ts ≡ false
    by (OfLead h) = rw (op_front (codes "::") ts h).2 refl
    by (OfWord true text at o h) = rw (one_front RawIdent text ts at o).1 refl
    by (OfWord false text at o h) = rw ((one_front Ident text ts at o).1, op_no_name (codes "::") at h) (none (bytes_eq text (codes "union")))
    by (OfOne true text o) = rw (one_front RawIdent text ts s.mid o).1 refl
    by (OfOne false text o) = rw ((one_front Ident text ts s.mid o).1, op_no_name (codes "!") s.mid s.mark.0) (none (bytes_eq text (codes "union")))

op_no_fn : (op : List ℕ) (ts : Tokens) → is_op op ts ≡ true → first (is_keyword (codes "fn")) (behind_abi ts) ≡ false
op_no_fn op ts h = rw (op_front op ts h).2 refl

-- No function begins where neither its words stand nor `safe`, and none after a `safe` that an operator follows.
abbrev Clear : Tokens → Type 0
Clear ts = (word : List ℕ) → is_path_class (class_of word) ≡ false → first (is_keyword word) ts ≡ false

no_fn : (ts : Tokens) → Clear ts → ((b : Bool) → first (is_keyword (codes "safe")) ts ≡ b → b ≡ true → first (is_keyword (codes "fn")) (behind_abi (tail ts)) ≡ false)
    → first (is_keyword (codes "fn")) (behind_abi (safety_at (async_flag ts).1).1) ≡ false
no_fn ts clear safe =
    rw (clear (codes "async") refl, clear (codes "unsafe") refl) (by (first (is_keyword (codes "safe")) ts) refl)
  where
    whole : first (is_keyword (codes "fn")) (behind_abi ts) ≡ false
    whole = rw (clear (codes "extern") refl) (clear (codes "fn") refl)

    by : (b : Bool) → first (is_keyword (codes "safe")) ts ≡ b
        → (let told : Option Safety × Tokens = if b then (Some safety.Safe, tail ts) else (None, ts) in first (is_keyword (codes "fn")) (behind_abi told.1)) ≡ false
    by true e = safe true e refl
    by false e = whole

no_function : (c : MacroCall) (depth : ℕ) (ts rest : Tokens) → SpelledCall c depth ts rest → begins_function ts ≡ false
no_function c depth ts rest s =
    let clear : Clear ts = λ word n. simple_path_no_keyword word n c.path depth ts s.mid s.good s.path in
    rw (clear (codes "const") refl) (no_fn ts clear (λ b e t. by (simple_path_front c.path depth ts s.mid s.good s.path) (e ∙ t)))
  where
    by : SimplePathFront ts s.mid → first (is_keyword (codes "safe")) ts ≡ true → first (is_keyword (codes "fn")) (behind_abi (tail ts)) ≡ false
    by (OfLead h) e = absurd (lead_no_safe ts h e)
      where
        lead_no_safe : (us : Tokens) → is_op (codes "::") us ≡ true → first (is_keyword (codes "safe")) us ≡ true → ⊥
        lead_no_safe us h e = absurd (cc (subst (λ vs. first (is_keyword (codes "safe")) vs ≡ true) (op_front (codes "::") us h).2 e))
    by (OfWord raw text at o h) e = rw (one_left (word_kind raw) text ts at o) (op_no_fn (codes "::") at h)
    by (OfOne raw text o) e = rw (one_left (word_kind raw) text ts s.mid o) (op_no_fn (codes "!") s.mid s.mark.0)

pub call_lead : (c : MacroCall) (depth : ℕ) (ts rest : Tokens) → SpelledCall c depth ts rest → item_lead ts ≡ OfCall
unfolding item_lead
call_lead c depth ts rest s =
    let no : (word : List ℕ) → is_path_class (class_of word) ≡ false → first (is_keyword word) ts ≡ false =
    λ word n. simple_path_no_keyword word n c.path depth ts s.mid s.good s.path in
    rw (
      no_function c depth ts rest s,
      no (codes "use") refl,
      no (codes "mod") refl,
      no (codes "type") refl,
      no (codes "struct") refl,
      no (codes "enum") refl,
      no (codes "const") refl,
      no (codes "static") refl,
      no (codes "trait") refl,
      no (codes "impl") refl,
      no (codes "unsafe") refl,
      no (codes "extern") refl,
      no_union c depth ts rest s,
      no_rules c depth ts rest s,
    ) refl

pub rules_lead : (n : Name) (ts at mid rest : Tokens) → IsOne Ident (codes "macro_rules") ts at → IsOperator (codes "!") at mid → GoodName n mid rest
    → item_lead ts ≡ OfRules
unfolding item_lead
rules_lead n ts at mid rest o m g = rw ((one_front Ident (codes "macro_rules") ts at o).1, m.0, m.1, name_complete n mid rest g) refl

-- ---- what begins with `const`, `unsafe` or `extern`

-- After a constant's name a `:` stands, so `const` begins no function there.
pub const_lead : (g : GivenName) (x : Ty) (depth : ℕ) (ts rest : Tokens) → Spells (about_value_head (value.Const g x)).form depth ts rest → is_given g ≡ true
    → item_lead ts ≡ OfValue
unfolding item_lead
const_lead g x depth ts rest s good =
    let o : IsOne Ident (codes "const") ts s.0 = before_blank (keyword (codes "const")) ts s.0 s.1 in
    let n = given_parts g (of_type x) depth s.0 rest s.2 good in
    let m = colon_operator n.0 n.2.0 n.2.1 in
    let clear : (word : List ℕ) → is_path_class (class_of word) ≡ false → first (is_keyword word) s.0 ≡ false =
    λ word none. subst (λ us. first (is_keyword word) us ≡ false) (one_left Ident (codes "const") ts s.0 o) (const_no_keyword word none g x depth ts rest s good) in
    rw ((one_front Ident (codes "const") ts s.0 o).1, no_fn s.0 clear (λ b e t. behind g s.0 n.0 n.1 m.0)) refl
  where
    behind : (name : GivenName) (us vs : Tokens) → RenameIs name us vs → is_op (codes ":") vs ≡ true
        → first (is_keyword (codes "fn")) (behind_abi (tail us)) ≡ false
    behind (given.Name n) us vs i colon = rw (one_left (word_kind n.raw) n.text us vs i.0) (op_no_fn (codes ":") vs colon)
    behind given.Underscore us vs i colon = rw (one_left kind.Underscore (codes "_") us vs i) (op_no_fn (codes ":") vs colon)

-- A foreign block begins so: after `extern` a string or its `{` stands.
pub record ForeignFront (ts : Tokens) : Type 0 where
  pub fn : first (is_keyword (codes "fn")) (behind_string ts) ≡ false
  pub crate : first (is_keyword (codes "crate")) ts ≡ false

pub foreign_front : (abi : Option Literal) (depth : ℕ) (ts mid rest : Tokens) → Spells (foreign_abi abi) depth ts mid → is_abi_name abi ≡ true
    → IsOne (Opener Brace) (opening Brace ∷ []) mid rest → ForeignFront ts
foreign_front None depth ts mid rest s g o =
    let f = one_front (Opener Brace) (opening Brace ∷ []) ts rest (subst (λ us. IsOne (Opener Brace) (opening Brace ∷ []) us rest) (sym s) o) in
    record { fn = rw f.1 refl; crate = rw f.1 refl }
foreign_front (Some l) depth ts mid rest s g o =
    let bit : ts ≡ s.0 = behind_blank [] ts s.0 s.1 in
    let leaf : IsOne l.kind l.text s.0 mid = let t = s.2 in subst (IsOne l.kind l.text s.0) t.2 t.1 in
    let k = string_kind l.kind l.text g in
    let f = one_front l.kind l.text s.0 mid leaf in
    let e = one_front (Opener Brace) (opening Brace ∷ []) mid rest o in
    record { fn = rw (bit, f.1, k.0, e.1) refl; crate = rw (bit, f.1, k.1) refl }

pub foreign_lead : (is_unsafe : Bool) (f : Form) (depth : ℕ) (ts rest : Tokens) → Spells (unsafe_form is_unsafe (Piece (keyword (codes "extern") ∷ []) f)) depth ts rest
    → ((us : Tokens) → Spells f depth us rest → ForeignFront us) → item_lead ts ≡ OfForeign
unfolding item_lead
foreign_lead true f depth ts rest s of =
    let o : IsOne Ident (codes "unsafe") ts s.0 = before_blank (keyword (codes "unsafe")) ts s.0 s.1 in
    let inner = s.2 in
    let p : IsOne Ident (codes "extern") s.0 inner.0 = bit_alone (keyword (codes "extern")) s.0 inner.0 inner.1 in
    let e = of inner.0 inner.2 in
    rw ((one_front Ident (codes "unsafe") ts s.0 o).1, (one_front Ident (codes "extern") s.0 inner.0 p).1, e.fn) refl
foreign_lead false f depth ts rest s of =
    let p : IsOne Ident (codes "extern") ts s.0 = bit_alone (keyword (codes "extern")) ts s.0 s.1 in
    let e = of s.0 s.2 in
    rw ((one_front Ident (codes "extern") ts s.0 p).1, e.fn, e.crate) refl

-- what may be `unsafe`: a trait, or an implementation
pub unsafe_lead : (is_unsafe : Bool) (lead : ItemLead) (word : List ℕ) (bits : List Bit) (f : Form) (depth : ℕ) (ts rest : Tokens)
    → ((us mid : Tokens) → IsOne Ident word us mid → item_lead us ≡ lead)
    → ((us at mid : Tokens) → IsOne Ident (codes "unsafe") us at → IsOne Ident word at mid → item_lead us ≡ lead)
    → Spells (unsafe_form is_unsafe (Piece (keyword word ∷ bits) f)) depth ts rest → item_lead ts ≡ lead
unsafe_lead true lead word bits f depth ts rest bare marked s =
    let o : IsOne Ident (codes "unsafe") ts s.0 = before_blank (keyword (codes "unsafe")) ts s.0 s.1 in
    let inner = s.2 in
    let p = inner.1 in marked ts s.0 p.0 o p.1
unsafe_lead false lead word bits f depth ts rest bare marked s = let p = s.1 in bare ts p.0 p.1
