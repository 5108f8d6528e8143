-- What an item begins with: its first token, and what it is by it.
use Rattle.std.proofs.Common.{◌≡◌, ℕ, ◌<◌, ◌≤◌, Bool, true, false, List, [], ◌∷◌, length, map, codes, Option, option_map, Some, None, refl, ap, subst, arith}
use Rattle.std.specs.Str.{bytes_eq}
use Rattle.lay_piece.specs.declared.kind.Delim.TheVariants.{Paren}
use Rattle.lay_piece.specs.declared.kind.Kind.TheVariants.{Ident, RawIdent, Punct}
use Rattle.lay_token.specs.Lexes.{is_punct}
use Rattle.lay_token.specs.Operators.{is_op, op_at}
use Rattle.lay_token.proofs.Deciding.{punct_is}
use Rattle.lay_form.specs.Form.{Bit, Blank, Done, Form, Operator, Part, Piece, keyword, semicolon}
use Rattle.lay_form.specs.Notation.{I0, piece, when}
use Rattle.lay_node.specs.Words.{leaf_of}
use Rattle.lay_node.specs.nodes.Call.{before_rules, end_form}
use Rattle.lay_node.specs.nodes.Functions.{fn_head_form, mut_word, safety_form, signature_form}
use Rattle.lay_node.specs.nodes.Generics.{bounded_form, default_form, generics_form}
use Rattle.lay_node.specs.nodes.Heads.{about_enum, about_union, called, head_fields, impl_head_form, of_type, struct_tail, trait_head_form, trait_ref_form, unsafe_form, value_head_form}
use Rattle.lay_node.specs.nodes.Types.{abi_form, abi_name, about_type, given_form}
use Rattle.lay_node.specs.nodes.Use.{about_use, rename_form}
use Rattle.lay_node.specs.nodes.Where.{wheres_before_semicolon}
use Rattle.lay_node.specs.tokens.Lists.{group_form}
use Rattle.lay_node.specs.declared.functions.FnHead.{FnHead}
use Rattle.lay_node.specs.declared.functions.Safety.{Safety}
use Rattle.lay_node.specs.declared.functions.Safety.TheVariants as safety
use Rattle.lay_node.specs.declared.generics.Generics.{Generics}
use Rattle.lay_node.specs.declared.heads.Site.{Site}
use Rattle.lay_node.specs.declared.heads.ValueHead.{ValueHead}
use Rattle.lay_node.specs.declared.heads.ValueHead.TheVariants as value
use Rattle.lay_node.specs.declared.types.Abi.{Abi}
use Rattle.lay_node.specs.Ahead.{Tokens, first, is_keyword, opens}
use Rattle.lay_node.specs.nodes.SimplePath.{simple_path_form}
use Rattle.lay_node.specs.reader.Attr.{begins_attr}
use Rattle.lay_node.specs.declared.tokens.MacroCall.{MacroCall}
use Rattle.lay_node.proofs.Fronts.{end_shorter, one_front, one_shorter, op_shorter, op_test, op_text}
use Rattle.lay_node.proofs.Parts.{word_kind}
use Rattle.lay_form.specs.Spelled.{IsOne, Spells}
use Rattle.lay_form.proofs.FormLaws.{bits_end, shorter}
use Rattle.lay_node.proofs.reader.AttrRead.{BeginsItem}
use Rattle.lay_node.proofs.reader.Call.{SpelledCall, call_complete}
use Rattle.lay_node.proofs.reader.SimplePath.{OfLead, OfOne, OfWord, SimplePathFront, simple_path_front, simple_path_no_keyword}
use Rattle.lay_code.specs.nodes.Code.{about_block, about_expr, told_of_item, told_of_kind}
use Rattle.lay_code.specs.nodes.CodeFacts.{KindFacts}
use Rattle.lay_code.specs.nodes.Exprs.{value_form}
use Rattle.lay_code.specs.nodes.Item.{about_impl, about_trait, foreign_abi, function_tail, item_body}
use Rattle.lay_code.specs.declared.item.ItemKind.{ItemKind}
use Rattle.lay_code.specs.declared.item.ItemKind.TheVariants as item
use Rattle.lay_code.proofs.nodes.ItemLaws as laws
use Rattle.lay_code.proofs.nodes.ItemLaws.{KindView, IsExternCrate, IsImport, IsFileModule, IsModule, IsFunction, IsAlias, IsStruct, IsUnion, IsEnum, IsValue, IsTrait, IsImpl, IsForeign, IsRules, IsCall, kind_view}
use Rattle.lay_code.proofs.reader.ItemSound.{KindAt, alone}

-- ---- the first token

-- At the beginning of what an item is: an item begins, but no attribute, no visibility, and no parentheses; fewer tokens are
-- left.
pub record KindFront (ts rest : Tokens) : Type 0 where
  pub begins : BeginsItem ts
  pub attr : begins_attr false ts ≡ false
  pub vis : first (is_keyword (codes "pub")) ts ≡ false
  pub paren : first (opens Paren) ts ≡ false
  pub less : length rest < length ts

-- A word that isn't `pub` leads, and no more tokens are left than after it.
pub record Led (ts rest : Tokens) : Type 0 where
  pub word : List ℕ
  pub mid : Tokens
  pub one : IsOne Ident word ts mid
  pub other : bytes_eq word (codes "pub") ≡ false
  pub less : length rest ≤ length mid

pub led_front : (ts rest : Tokens) → Led ts rest → KindFront ts rest
led_front ts rest l =
    let f = one_front Ident l.word ts l.mid l.one in
    record {
      begins = (rw f.1 refl, rw f.1 refl);
      attr = rw f.1 refl;
      vis = rw f.1 l.other;
      paren = rw f.1 refl;
      less = omega (arith, one_shorter Ident l.word ts l.mid l.one, l.less);
    }

-- what begins with a word and other bits
pub piece_led : (word : List ℕ) (bits : List Bit) (f : Form) (depth : ℕ) (ts rest : Tokens) → bytes_eq word (codes "pub") ≡ false
    → Spells (Piece (keyword word ∷ bits) f) depth ts rest → Led ts rest
piece_led word bits f depth ts rest n s =
    let w = s.1 in
    record {
      word = word;
      mid = w.0;
      one = w.1;
      other = n;
      less = omega (arith, end_shorter w.0 s.0 (bits_end bits w.0 s.0 w.2), shorter f depth s.0 rest s.2);
    }

-- what stands before a tail
pub before_tail : (head behind : Form) (depth : ℕ) (ts rest : Tokens) → ((mid : Tokens) → Spells head depth ts mid → Led ts mid)
    → Spells (I0 head behind) depth ts rest → Led ts rest
before_tail head behind depth ts rest of s =
    let l = of s.0 s.1 in
    record { word = l.word; mid = l.mid; one = l.one; other = l.other; less = omega (arith, l.less, shorter behind depth s.0 rest s.2) }

-- ---- macro calls

colons_begin : (ts : Tokens) → is_op (codes "::") ts ≡ true → BeginsItem ts × (begins_attr false ts ≡ false) × (first (opens Paren) ts ≡ false)
unfolding op_at
colons_begin [] h = absurd (cc)
colons_begin (t ∷ ts) h =
    let k : t.kind ≡ Punct = punct_is t.kind (op_test is_punct (codes "::") (t ∷ ts) h) in
    let x = op_text 58 (codes ":") t ts h in
    ((rw k refl, rw (k, x.1) refl), rw (k, x.1) refl, rw k refl)

word_begins : (raw : Bool) (text : List ℕ) (ts rest : Tokens) → IsOne (word_kind raw) text ts rest
    → BeginsItem ts × (begins_attr false ts ≡ false) × (first (opens Paren) ts ≡ false)
word_begins true text ts rest o = let f = one_front RawIdent text ts rest o in ((rw f.1 refl, rw f.1 refl), rw f.1 refl, rw f.1 refl)
word_begins false text ts rest o = let f = one_front Ident text ts rest o in ((rw f.1 refl, rw f.1 refl), rw f.1 refl, rw f.1 refl)

pub call_front : (c : MacroCall) (depth : ℕ) (ts rest : Tokens) → SpelledCall c depth ts rest → KindFront ts rest
call_front c depth ts rest s =
    let b = by (simple_path_front c.path depth ts s.mid s.good s.path) in
    record {
      begins = b.0;
      attr = b.1;
      vis = simple_path_no_keyword (codes "pub") refl c.path depth ts s.mid s.good s.path;
      paren = b.2;
      less = omega (
        arith,
        shorter (simple_path_form c.path) depth ts s.mid s.path,
        op_shorter 33 [] s.mid s.within s.mark,
        s.group.less,
        ap length s.group.after,
      );
    }
  where
    by : SimplePathFront ts s.mid → BeginsItem ts × (begins_attr false ts ≡ false) × (first (opens Paren) ts ≡ false)
    by (OfLead h) = colons_begin ts h
    by (OfWord raw text at o h) = word_begins raw text ts at o
    by (OfOne raw text o) = word_begins raw text ts s.mid o

-- ---- heads

unsafe_led : (is_unsafe : Bool) (word : List ℕ) (bits : List Bit) (f : Form) (depth : ℕ) (ts rest : Tokens) → bytes_eq word (codes "pub") ≡ false
    → Spells (unsafe_form is_unsafe (Piece (keyword word ∷ bits) f)) depth ts rest → Led ts rest
unsafe_led true word bits f depth ts rest n s = piece_led (codes "unsafe") (Blank ∷ []) (Piece (keyword word ∷ bits) f) depth ts rest refl s
unsafe_led false word bits f depth ts rest n s = piece_led word bits f depth ts rest n s

value_led : (x : ValueHead) (depth : ℕ) (ts rest : Tokens) → Spells (value_head_form x) depth ts rest → Led ts rest
value_led (value.Const name x) depth ts rest s = piece_led (codes "const") (Blank ∷ []) (given_form name (of_type x)) depth ts rest refl s
value_led (value.Static mutable name x) depth ts rest s =
    piece_led (codes "static") (Blank ∷ []) (when mutable mut_word (leaf_of name.raw name.text (of_type x))) depth ts rest refl s

abi_led : (a : Option Abi) (f : Form) (depth : ℕ) (ts rest : Tokens) → Spells (abi_form a (Piece (keyword (codes "fn") ∷ Blank ∷ []) f)) depth ts rest → Led ts rest
abi_led None f depth ts rest s = piece_led (codes "fn") (Blank ∷ []) f depth ts rest refl s
abi_led (Some a) f depth ts rest s =
    piece_led (codes "extern") (Blank ∷ []) (abi_name a.name (Piece (keyword (codes "fn") ∷ Blank ∷ []) f)) depth ts rest refl s

-- `fn` and what follows it, and what may stand before it
abbrev behind_abi : FnHead → Form
behind_abi h = Piece (keyword (codes "fn") ∷ Blank ∷ []) (signature_form h)

abbrev behind_safety : FnHead → Form
behind_safety h = abi_form h.abi (behind_abi h)

abbrev behind_async : FnHead → Form
behind_async h = safety_form h.safety (behind_safety h)

abbrev behind_const : FnHead → Form
behind_const h = when h.is_async (keyword (codes "async") ∷ Blank ∷ []) (behind_async h)

safety_led : (h : FnHead) (x : Option Safety) (depth : ℕ) (ts rest : Tokens) → Spells (safety_form x (behind_safety h)) depth ts rest → Led ts rest
safety_led h None depth ts rest s = abi_led h.abi (signature_form h) depth ts rest s
safety_led h (Some safety.Unsafe) depth ts rest s = piece_led (codes "unsafe") (Blank ∷ []) (behind_safety h) depth ts rest refl s
safety_led h (Some safety.Safe) depth ts rest s = piece_led (codes "safe") (Blank ∷ []) (behind_safety h) depth ts rest refl s

async_led : (h : FnHead) (b : Bool) (depth : ℕ) (ts rest : Tokens) → Spells (when b (keyword (codes "async") ∷ Blank ∷ []) (behind_async h)) depth ts rest
    → Led ts rest
async_led h true depth ts rest s = piece_led (codes "async") (Blank ∷ []) (behind_async h) depth ts rest refl s
async_led h false depth ts rest s = safety_led h h.safety depth ts rest s

const_led : (h : FnHead) (b : Bool) (depth : ℕ) (ts rest : Tokens) → Spells (when b (keyword (codes "const") ∷ Blank ∷ []) (behind_const h)) depth ts rest
    → Led ts rest
const_led h true depth ts rest s = piece_led (codes "const") (Blank ∷ []) (behind_const h) depth ts rest refl s
const_led h false depth ts rest s = async_led h h.is_async depth ts rest s

fn_led : (h : FnHead) (depth : ℕ) (ts rest : Tokens) → Spells (fn_head_form h) depth ts rest → Led ts rest
fn_led h depth ts rest s = const_led h h.is_const depth ts rest s

-- ---- each kind

-- the spelling of what an item is, by the facts about it
pub spelled_as : (at : Site) (depth : ℕ) (k : ItemKind) (K : KindFacts) (ts rest : Tokens) → told_of_kind k ≡ K → KindAt at depth k ts rest
    → Spells (alone K) depth ts rest × (K.good at ≡ true)
spelled_as at depth k K ts rest e g = subst (λ (F : KindFacts). Spells (alone F) depth ts rest × (F.good at ≡ true)) e g

-- what begins with a word and is a head before a tail
headed_led : (word : List ℕ) (bits : List Bit) (f behind : Form) (depth : ℕ) (ts rest : Tokens) → bytes_eq word (codes "pub") ≡ false
    → Spells (I0 (Piece (keyword word ∷ bits) f) behind) depth ts rest → KindFront ts rest
headed_led word bits f behind depth ts rest n s =
    led_front ts rest (before_tail (Piece (keyword word ∷ bits) f) behind depth ts rest (λ mid t. piece_led word bits f depth ts mid n t) s)

called_led : (word : List ℕ) (raw : Bool) (text : List ℕ) (g : Generics) (f behind : Form) (depth : ℕ) (ts rest : Tokens) → bytes_eq word (codes "pub") ≡ false
    → Spells (I0 (called word raw text g f) behind) depth ts rest → KindFront ts rest
called_led word raw text g f behind depth ts rest n s = headed_led word (Blank ∷ []) (leaf_of raw text (Part (generics_form g) f)) behind depth ts rest n s

pub kind_front : (at : Site) (k : ItemKind) (depth : ℕ) (ts rest : Tokens) → KindAt at depth k ts rest → KindFront ts rest
kind_front at k depth ts rest g = by k (kind_view k) g
  where
    by : (k : ItemKind) → KindView k → KindAt at depth k ts rest → KindFront ts rest
    by _ (IsExternCrate x) g =
        headed_led (codes "extern") (Blank ∷ keyword (codes "crate") ∷ Blank ∷ []) (leaf_of x.word.raw x.word.text (rename_form x.renamed)) (piece semicolon)
        depth ts rest refl (spelled_as at depth (item.ExternCrate x) _ ts rest (laws.extern_crate_is x) g).0
    by _ (IsImport u) g =
        headed_led (codes "use") (Blank ∷ []) (Part (about_use u).form Done) (piece semicolon) depth ts rest refl
        (spelled_as at depth (item.Import u) _ ts rest (laws.import_is u) g).0
    by _ (IsFileModule n) g =
        headed_led (codes "mod") (Blank ∷ []) (leaf_of n.raw n.text Done) (piece semicolon) depth ts rest refl
        (spelled_as at depth (item.FileModule n) _ ts rest (laws.file_module_is n) g).0
    by _ (IsModule n attrs items) g =
        headed_led (codes "mod") (Blank ∷ []) (leaf_of n.raw n.text Done) (item_body true attrs (map told_of_item items)) depth ts rest refl
        (spelled_as at depth (item.Module n attrs items) _ ts rest (laws.module_is n attrs items) g).0
    by _ (IsFunction head wheres b) g =
        led_front ts rest (before_tail (fn_head_form head) (function_tail wheres (option_map about_block b)) depth ts rest
        (λ mid t. fn_led head depth ts mid t) (spelled_as at depth (item.Function head wheres b) _ ts rest (laws.function_is head wheres b) g).0)
    by _ (IsAlias x) g =
        called_led (codes "type") x.name.raw x.name.text x.generics (Part (bounded_form x.bounds) (Part (default_form x.ty) Done))
        (Part (wheres_before_semicolon x.wheres) (piece semicolon)) depth ts rest refl (spelled_as at depth (item.Alias x) _ ts rest (laws.alias_is x) g).0
    by _ (IsStruct x) g =
        called_led (codes "struct") x.name.raw x.name.text x.generics (Part (head_fields x.fields) Done) (struct_tail x.wheres x.fields)
        depth ts rest refl (spelled_as at depth (item.Struct x) _ ts rest (laws.struct_is x) g).0
    by _ (IsUnion x) g =
        called_led (codes "union") x.name.raw x.name.text x.generics Done (about_union x).tail depth ts rest refl
        (spelled_as at depth (item.Union x) _ ts rest (laws.union_is x) g).0
    by _ (IsEnum x) g =
        called_led (codes "enum") x.name.raw x.name.text x.generics Done (about_enum x).tail depth ts rest refl
        (spelled_as at depth (item.Enum x) _ ts rest (laws.enum_is x) g).0
    by _ (IsValue head value) g =
        led_front ts rest (before_tail (Part (value_head_form head) (value_form (option_map about_expr value))) (piece semicolon) depth ts rest
        (λ mid t. before_tail (value_head_form head) (value_form (option_map about_expr value)) depth ts mid (λ end u. value_led head depth ts end u) t)
        (spelled_as at depth (item.Value head value) _ ts rest (laws.value_is head value) g).0)
    by _ (IsTrait head wheres attrs items) g =
        led_front ts rest (before_tail (trait_head_form head) (about_trait head wheres attrs (map told_of_item items)).tail depth ts rest
        (λ mid t. unsafe_led head.is_unsafe (codes "trait") (Blank ∷ [])
        (leaf_of head.name.raw head.name.text (Part (generics_form head.generics) (Part (bounded_form head.bounds) Done))) depth ts mid refl t)
        (spelled_as at depth (item.Trait head wheres attrs items) _ ts rest (laws.trait_is head wheres attrs items) g).0)
    by _ (IsImpl head wheres attrs items) g =
        led_front ts rest (before_tail (impl_head_form head) (about_impl head wheres attrs (map told_of_item items)).tail depth ts rest
        (λ mid t. unsafe_led head.is_unsafe (codes "impl") []
        (Part (generics_form head.generics) (Piece (Blank ∷ []) (trait_ref_form head.of (Part (about_type head.ty).told.form Done)))) depth ts mid refl t)
        (spelled_as at depth (item.Impl head wheres attrs items) _ ts rest (laws.impl_is head wheres attrs items) g).0)
    by _ (IsForeign is_unsafe abi attrs items) g =
        led_front ts rest (before_tail (unsafe_form is_unsafe (Piece (keyword (codes "extern") ∷ []) (foreign_abi abi)))
        (item_body true attrs (map told_of_item items)) depth ts rest
        (λ mid t. unsafe_led is_unsafe (codes "extern") [] (foreign_abi abi) depth ts mid refl t)
        (spelled_as at depth (item.Foreign is_unsafe abi attrs items) _ ts rest (laws.foreign_is is_unsafe abi attrs items) g).0)
    by _ (IsRules n rules) g =
        led_front ts rest (piece_led (codes "macro_rules") (Operator (codes "!") ∷ Blank ∷ [])
        (leaf_of n.raw n.text (before_rules rules.delim (group_form rules (end_form rules.delim)))) depth ts rest refl
        (spelled_as at depth (item.MacroRules n rules) _ ts rest (laws.rules_is n rules) g).0)
    by _ (IsCall c) g =
        let s = spelled_as at depth (item.Call c) _ ts rest (laws.call_is c) g in
        let parts = s.0 in
        let b = call_front c depth ts parts.0 (call_complete c depth ts parts.0 (parts.1, s.1, refl)) in
        record {
          begins = b.begins;
          attr = b.attr;
          vis = b.vis;
          paren = b.paren;
          less = omega (arith, b.less, shorter (end_form c.tokens.delim) depth parts.0 rest parts.2);
        }
