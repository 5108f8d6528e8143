-- An item that is no macro call is distinguished from an expression by its first tokens, where statements stand.
use Rattle.std.proofs.Common.{◌≡◌, ℕ, suc, Bool, true, false, not, ◌&&◌, ◌||◌, List, [], ◌∷◌, map, drop, codes, Option, Some, None, is_some, inl, inr, refl, sym, ap, subst, ◌∙◌}
use Rattle.std.specs.List.{list_any}
use Rattle.std.specs.Str.{bytes_eq}
use Rattle.std.proofs.lemmas.Bool.{and_parts, false_from_ne_true}
use Rattle.lay_piece.specs.declared.kind.Delim.TheVariants.{Brace}
use Rattle.lay_piece.specs.declared.kind.Kind.TheVariants.{Ident, Underscore}
use Rattle.lay_token.specs.Operators.{is_op}
use Rattle.lay_form.specs.Form.{Bit, Blank, Done, Form, Operator, Part, Piece, keyword, semicolon}
use Rattle.lay_form.specs.Notation.{I0, piece, when}
use Rattle.lay_form.specs.Spelled.{IsOne, IsOperator, Spells}
use Rattle.lay_node.specs.Ahead.{Tokens, first, tail, is_keyword, opens}
use Rattle.lay_node.specs.Words.{is_name, leaf_of}
use Rattle.lay_node.specs.nodes.Attr.{about_attr}
use Rattle.lay_node.specs.nodes.Call.{before_rules, end_form, is_group}
use Rattle.lay_node.specs.nodes.Functions.{fn_head_form, is_fn_head, may_say, safety_form, signature_form}
use Rattle.lay_node.specs.nodes.Generics.{bounded_form, default_form, generics_form}
use Rattle.lay_node.specs.nodes.Heads.{about_enum, about_union, head_fields, of_type, struct_tail, trait_ref_form, unsafe_form, value_head_form}
use Rattle.lay_node.specs.nodes.Types.{abi_form, about_type, given_form}
use Rattle.lay_node.specs.nodes.Use.{about_use, rename_form}
use Rattle.lay_node.specs.nodes.Where.{wheres_before_semicolon}
use Rattle.lay_node.specs.reader.Attr.{begins_attr}
use Rattle.lay_node.specs.reader.Words.{name}
use Rattle.lay_node.specs.tokens.Lists.{group_form}
use Rattle.lay_node.specs.declared.functions.FnHead.{FnHead}
use Rattle.lay_node.specs.declared.functions.Safety.{Safety}
use Rattle.lay_node.specs.declared.functions.Safety.TheVariants as safety
use Rattle.lay_node.specs.declared.heads.Site.TheVariants.{Module}
use Rattle.lay_node.specs.declared.heads.ValueHead.{ValueHead}
use Rattle.lay_node.specs.declared.heads.ValueHead.TheVariants as value
use Rattle.lay_node.specs.declared.token.GivenName.{GivenName}
use Rattle.lay_node.specs.declared.token.GivenName.TheVariants as given
use Rattle.lay_node.specs.declared.token.Name.{Name}
use Rattle.lay_node.specs.declared.types.Abi.{Abi}
use Rattle.lay_node.proofs.Fronts.{keyword_one, one_front}
use Rattle.lay_node.proofs.Parts.{GoodAt, Rows, before_blank, leaf_parts, word_kind}
use Rattle.lay_node.proofs.reader.Vis.{vis_front}
use Rattle.lay_node.proofs.reader.Words.{name_complete}
use Rattle.lay_code.specs.nodes.Code.{about_item, told_of_item, told_of_kind}
use Rattle.lay_code.specs.nodes.CodeFacts.{ItemFacts, KindFacts}
use Rattle.lay_code.specs.nodes.Item.{foreign_abi, kind_facts}
use Rattle.lay_code.specs.nodes.Item as node
use Rattle.lay_code.specs.reader.Blocks.{begins_item, begins_with, item_words}
use Rattle.lay_code.specs.reader.ItemLeads.{begins_rules, begins_union}
use Rattle.lay_code.specs.declared.item.Item.{Item}
use Rattle.lay_code.specs.declared.item.ItemKind.{ItemKind}
use Rattle.lay_code.specs.declared.item.ItemKind.TheVariants as item
use Rattle.lay_code.proofs.nodes.ItemLaws as laws
use Rattle.lay_code.proofs.nodes.ItemLaws.{KindView, IsExternCrate, IsImport, IsFileModule, IsModule, IsFunction, IsAlias, IsStruct, IsUnion, IsEnum, IsValue, IsTrait, IsImpl, IsForeign, IsRules, IsCall, kind_view, item_is}
use Rattle.lay_code.proofs.reader.ExprFirst.{fn_words}
use Rattle.lay_code.proofs.reader.ItemKinds.{item_parts}
use Rattle.lay_code.proofs.reader.ItemLeads.{kind_front, spelled_as}
use Rattle.lay_code.proofs.reader.ItemSound.{KindAt}

-- ---- one of five

first_of : (a b c d e : Bool) → a ≡ true → (a || b || c || d || e) ≡ true
first_of true b c d e h = refl
first_of false b c d e h = absurd (cc)

second_of : (a b c d e : Bool) → b ≡ true → (a || b || c || d || e) ≡ true
second_of true b c d e h = refl
second_of false true c d e h = refl
second_of false false c d e h = absurd (cc)

third_of : (a b c d e : Bool) → c ≡ true → (a || b || c || d || e) ≡ true
third_of true b c d e h = refl
third_of false true c d e h = refl
third_of false false true d e h = refl
third_of false false false d e h = absurd (cc)

fourth_of : (a b c d e : Bool) → d ≡ true → (a || b || c || d || e) ≡ true
fourth_of true b c d e h = refl
fourth_of false true c d e h = refl
fourth_of false false true d e h = refl
fourth_of false false false true e h = refl
fourth_of false false false false e h = absurd (cc)

fifth_of : (a b c d e : Bool) → e ≡ true → (a || b || c || d || e) ≡ true
fifth_of true b c d e h = refl
fifth_of false true c d e h = refl
fifth_of false false true d e h = refl
fifth_of false false false true e h = refl
fifth_of false false false false true h = refl
fifth_of false false false false false h = absurd (cc)

-- ---- first words

abbrev pub before_brace : List (List ℕ)
before_brace = codes "const" ∷ codes "unsafe" ∷ []

abbrev pub is_before_brace : Tokens → Bool
is_before_brace ts = begins_with before_brace ts && not (first (opens Brace) (tail ts))

abbrev pub is_async_fn : Tokens → Bool
is_async_fn ts = first (is_keyword (codes "async")) ts && begins_with fn_words (tail ts)

abbrev is_word_of : List (List ℕ) → List ℕ → Bool
is_word_of words word = list_any (λ w. bytes_eq word w) words

word_item : (word : List ℕ) → is_word_of item_words word ≡ true → (ts mid : Tokens) → IsOne Ident word ts mid → begins_item ts ≡ true
word_item word is ts mid o =
    let h : begins_with item_words ts ≡ true = rw (one_front Ident word ts mid o).1 is in
    first_of (begins_with item_words ts) (is_before_brace ts) (is_async_fn ts) (begins_union ts) (begins_rules ts) h

-- `const` and `unsafe`
const_item : (word : List ℕ) → is_word_of before_brace word ≡ true → (ts mid : Tokens) → IsOne Ident word ts mid
    → first (opens Brace) mid ≡ false → begins_item ts ≡ true
const_item word is ts mid o n =
    let f = (one_front Ident word ts mid o).1 in
    let a : begins_with before_brace ts ≡ true = rw f is in
    let b : first (opens Brace) (tail ts) ≡ false = rw f n in
    let h : is_before_brace ts ≡ true = rw (a, b) refl in
    second_of (begins_with item_words ts) (is_before_brace ts) (is_async_fn ts) (begins_union ts) (begins_rules ts) h

async_item : (ts mid : Tokens) → IsOne Ident (codes "async") ts mid → begins_with fn_words mid ≡ true → begins_item ts ≡ true
async_item ts mid o n =
    let f = (one_front Ident (codes "async") ts mid o).1 in
    let a : first (is_keyword (codes "async")) ts ≡ true = rw f refl in
    let b : begins_with fn_words (tail ts) ≡ true = rw f n in
    let h : is_async_fn ts ≡ true = rw (a, b) refl in
    third_of (begins_with item_words ts) (is_before_brace ts) (is_async_fn ts) (begins_union ts) (begins_rules ts) h

union_item : (ts mid : Tokens) → IsOne Ident (codes "union") ts mid → is_some (name mid) ≡ true → begins_item ts ≡ true
union_item ts mid o n =
    let f = (one_front Ident (codes "union") ts mid o).1 in
    let a : first (is_keyword (codes "union")) ts ≡ true = rw f refl in
    let b : is_some (name (tail ts)) ≡ true = rw f n in
    let h : begins_union ts ≡ true = rw (a, b) refl in
    fourth_of (begins_with item_words ts) (is_before_brace ts) (is_async_fn ts) (begins_union ts) (begins_rules ts) h

rules_item : (ts mid : Tokens) → IsOne Ident (codes "macro_rules") ts mid → is_op (codes "!") mid ≡ true → is_some (name (drop 1 mid)) ≡ true
    → begins_item ts ≡ true
rules_item ts mid o m n =
    let f = (one_front Ident (codes "macro_rules") ts mid o).1 in
    let a : first (is_keyword (codes "macro_rules")) ts ≡ true = rw f refl in
    let b : is_op (codes "!") (tail ts) ≡ true = rw f m in
    let c : is_some (name (drop 1 (tail ts))) ≡ true = rw f n in
    let h : begins_rules ts ≡ true = rw (a, b, c) refl in
    fifth_of (begins_with item_words ts) (is_before_brace ts) (is_async_fn ts) (begins_union ts) (begins_rules ts) h

word_no_brace : (word : List ℕ) (ts mid : Tokens) → IsOne Ident word ts mid → first (opens Brace) ts ≡ false
word_no_brace word ts mid o = rw (one_front Ident word ts mid o).1 refl

-- a name at the beginning
name_there : (raw : Bool) (text : List ℕ) (f : Form) (depth : ℕ) (ts rest : Tokens) → is_name raw text ≡ true
    → Spells (leaf_of raw text f) depth ts rest → is_some (name ts) ≡ true
name_there raw text f depth ts rest g s =
    let l = leaf_parts raw text f depth ts rest s in
    let n : Name = record { raw = raw; text = text } in
    ap is_some (name_complete n ts l.0 (l.1, g))

-- ---- functions

-- a word of a function after `async`
record FnWord (ts : Tokens) : Type 0 where
  word : List ℕ
  mid : Tokens
  one : IsOne Ident word ts mid
  is : is_word_of fn_words word ≡ true

fn_word_begins : (ts : Tokens) → FnWord ts → begins_with fn_words ts ≡ true
fn_word_begins ts w = rw (one_front Ident w.word ts w.mid w.one).1 w.is

module _ (h : FnHead) (depth : ℕ) (rest : Tokens) where
  abbrev behind_abi : Form
  behind_abi = Piece (keyword (codes "fn") ∷ Blank ∷ []) (signature_form h)

  abbrev behind_safety : Form
  behind_safety = abi_form h.abi behind_abi

  abbrev behind_async : Form
  behind_async = safety_form h.safety behind_safety

  abbrev behind_const : Form
  behind_const = when h.is_async (keyword (codes "async") ∷ Blank ∷ []) behind_async

  abi_word : (a : Option Abi) (ts : Tokens) → Spells (abi_form a behind_abi) depth ts rest → FnWord ts
  abi_word None ts s = record { word = codes "fn"; mid = s.0; one = before_blank (keyword (codes "fn")) ts s.0 s.1; is = refl }
  abi_word (Some a) ts s = record { word = codes "extern"; mid = s.0; one = before_blank (keyword (codes "extern")) ts s.0 s.1; is = refl }

  abi_item : (a : Option Abi) (ts : Tokens) → Spells (abi_form a behind_abi) depth ts rest → begins_item ts ≡ true
  abi_item None ts s = word_item (codes "fn") refl ts s.0 (before_blank (keyword (codes "fn")) ts s.0 s.1)
  abi_item (Some a) ts s = word_item (codes "extern") refl ts s.0 (before_blank (keyword (codes "extern")) ts s.0 s.1)

  safety_word : (x : Option Safety) → may_say Module x ≡ true → (ts : Tokens) → Spells (safety_form x behind_safety) depth ts rest → FnWord ts
  safety_word None g ts s = abi_word h.abi ts s
  safety_word (Some safety.Unsafe) g ts s =
      record { word = codes "unsafe"; mid = s.0; one = before_blank (keyword (codes "unsafe")) ts s.0 s.1; is = refl }
  safety_word (Some safety.Safe) g ts s = absurd (cc)

  safety_item : (x : Option Safety) → may_say Module x ≡ true → (ts : Tokens) → Spells (safety_form x behind_safety) depth ts rest
      → begins_item ts ≡ true
  safety_item None g ts s = abi_item h.abi ts s
  safety_item (Some safety.Unsafe) g ts s =
      let w = abi_word h.abi s.0 s.2 in
      const_item (codes "unsafe") refl ts s.0 (before_blank (keyword (codes "unsafe")) ts s.0 s.1) (word_no_brace w.word s.0 w.mid w.one)
  safety_item (Some safety.Safe) g ts s = absurd (cc)

  async_then : (b : Bool) → may_say Module h.safety ≡ true → (ts : Tokens)
      → Spells (when b (keyword (codes "async") ∷ Blank ∷ []) behind_async) depth ts rest → begins_item ts ≡ true
  async_then true g ts s =
      async_item ts s.0 (before_blank (keyword (codes "async")) ts s.0 s.1) (fn_word_begins s.0 (safety_word h.safety g s.0 s.2))
  async_then false g ts s = safety_item h.safety g ts s

  async_no_brace : (b : Bool) → may_say Module h.safety ≡ true → (ts : Tokens)
      → Spells (when b (keyword (codes "async") ∷ Blank ∷ []) behind_async) depth ts rest → first (opens Brace) ts ≡ false
  async_no_brace true g ts s = word_no_brace (codes "async") ts s.0 (before_blank (keyword (codes "async")) ts s.0 s.1)
  async_no_brace false g ts s = let w = safety_word h.safety g ts s in word_no_brace w.word ts w.mid w.one

  const_then : (b : Bool) → may_say Module h.safety ≡ true → (ts : Tokens)
      → Spells (when b (keyword (codes "const") ∷ Blank ∷ []) behind_const) depth ts rest → begins_item ts ≡ true
  const_then true g ts s =
      const_item (codes "const") refl ts s.0 (before_blank (keyword (codes "const")) ts s.0 s.1) (async_no_brace h.is_async g s.0 s.2)
  const_then false g ts s = async_then h.is_async g ts s

  fn_item : may_say Module h.safety ≡ true → (ts : Tokens) → Spells (fn_head_form h) depth ts rest → begins_item ts ≡ true
  fn_item g ts s = const_then h.is_const g ts s

-- ---- other heads

unsafe_item : (is_unsafe : Bool) (word : List ℕ) (bits : List Bit) (f : Form) → is_word_of item_words word ≡ true → (depth : ℕ) (ts rest : Tokens)
    → Spells (unsafe_form is_unsafe (Piece (keyword word ∷ bits) f)) depth ts rest → begins_item ts ≡ true
unsafe_item true word bits f is depth ts rest s =
    let t = s.2 in
    const_item (codes "unsafe") refl ts s.0 (before_blank (keyword (codes "unsafe")) ts s.0 s.1) (word_no_brace word s.0 t.1.0 t.1.1)
unsafe_item false word bits f is depth ts rest s = word_item word is ts s.1.0 s.1.1

given_no_brace : (n : GivenName) (f : Form) (depth : ℕ) (ts rest : Tokens) → Spells (given_form n f) depth ts rest → first (opens Brace) ts ≡ false
given_no_brace given.Underscore f depth ts rest s = rw (one_front Underscore (codes "_") ts s.0 s.1).1 refl
given_no_brace (given.Name n) f depth ts rest s = by n.raw (leaf_parts n.raw n.text f depth ts rest s)
  where
    by : (raw : Bool) → (mid : Tokens) × IsOne (word_kind raw) n.text ts mid × Spells f depth mid rest → first (opens Brace) ts ≡ false
    by true l = rw (one_front (word_kind true) n.text ts l.0 l.1).1 refl
    by false l = rw (one_front (word_kind false) n.text ts l.0 l.1).1 refl

value_item : (x : ValueHead) (depth : ℕ) (ts rest : Tokens) → Spells (value_head_form x) depth ts rest → begins_item ts ≡ true
value_item (value.Const n x) depth ts rest s =
    const_item (codes "const") refl ts s.0 (before_blank (keyword (codes "const")) ts s.0 s.1) (given_no_brace n (of_type x) depth s.0 rest s.2)
value_item (value.Static mutable n x) depth ts rest s = word_item (codes "static") refl ts s.0 (before_blank (keyword (codes "static")) ts s.0 s.1)

headed_item : (word : List ℕ) (bits : List Bit) (f behind : Form) → is_word_of item_words word ≡ true → (depth : ℕ) (ts rest : Tokens)
    → Spells (I0 (Piece (keyword word ∷ bits) f) behind) depth ts rest → begins_item ts ≡ true
headed_item word bits f behind is depth ts rest s = let t = s.1 in word_item word is ts t.1.0 t.1.1

-- ---- each kind

module _ (depth : ℕ) (ts rest : Tokens) where
  abbrev At : ItemKind → Type 0
  At k = KindAt Module depth k ts rest

  by_kind : (k : ItemKind) → KindView k → At k → (told_of_kind k).call ≡ false → begins_item ts ≡ true
  by_kind _ (IsExternCrate x) g n =
      headed_item (codes "extern") (Blank ∷ keyword (codes "crate") ∷ Blank ∷ []) (leaf_of x.word.raw x.word.text (rename_form x.renamed)) (piece semicolon)
      refl depth ts rest (spelled_as Module depth (item.ExternCrate x) _ ts rest (laws.extern_crate_is x) g).0
  by_kind _ (IsImport u) g n =
      headed_item (codes "use") (Blank ∷ []) (Part (about_use u).form Done) (piece semicolon) refl depth ts rest
      (spelled_as Module depth (item.Import u) _ ts rest (laws.import_is u) g).0
  by_kind _ (IsFileModule m) g n =
      headed_item (codes "mod") (Blank ∷ []) (leaf_of m.raw m.text Done) (piece semicolon) refl depth ts rest
      (spelled_as Module depth (item.FileModule m) _ ts rest (laws.file_module_is m) g).0
  by_kind _ (IsModule m attrs items) g n =
      headed_item (codes "mod") (Blank ∷ []) (leaf_of m.raw m.text Done) (node.item_body true attrs (map told_of_item items)) refl depth ts rest
      (spelled_as Module depth (item.Module m attrs items) _ ts rest (laws.module_is m attrs items) g).0
  by_kind _ (IsFunction head wheres b) g n =
      let s = spelled_as Module depth (item.Function head wheres b) _ ts rest (laws.function_is head wheres b) g in
      let t = s.0 in
      let good = (and_parts (is_fn_head Module head && _ && _) _ s.1).0 in
      fn_item head depth t.0 (said head (and_parts (is_fn_head Module head) _ (and_parts (is_fn_head Module head && _) _ good).0).0) ts t.1
    where
      said : (h : FnHead) → is_fn_head Module h ≡ true → may_say Module h.safety ≡ true
      said h e = by (may_say Module h.safety) _ _ _ _ _ e
        where
          by : (a b c d e f : Bool) → (a && b && c && d && e && f) ≡ true → a ≡ true
          by true b c d e f k = refl
          by false b c d e f k = absurd (none b c d e f k)
            where
              none : (b c d e f : Bool) → (false && b && c && d && e && f) ≡ true → ⊥
              none b c d e f k = cc
  by_kind _ (IsAlias x) g n =
      headed_item (codes "type") (Blank ∷ [])
      (leaf_of x.name.raw x.name.text (Part (generics_form x.generics) (Part (bounded_form x.bounds) (Part (default_form x.ty) Done))))
      (Part (wheres_before_semicolon x.wheres) (piece semicolon)) refl depth ts rest
      (spelled_as Module depth (item.Alias x) _ ts rest (laws.alias_is x) g).0
  by_kind _ (IsStruct x) g n =
      headed_item (codes "struct") (Blank ∷ [])
      (leaf_of x.name.raw x.name.text (Part (generics_form x.generics) (Part (head_fields x.fields) Done))) (struct_tail x.wheres x.fields) refl depth ts rest
      (spelled_as Module depth (item.Struct x) _ ts rest (laws.struct_is x) g).0
  by_kind _ (IsUnion x) g n =
      let s = spelled_as Module depth (item.Union x) _ ts rest (laws.union_is x) g in
      let t = s.0 in
      let u = t.1 in
      let named = (and_parts _ _ (and_parts _ _ (and_parts _ _ (and_parts (about_union x).good _ s.1).0).0).0).0 in
      union_item ts u.0 (before_blank (keyword (codes "union")) ts u.0 u.1)
      (name_there x.name.raw x.name.text (Part (generics_form x.generics) Done) depth u.0 t.0 named u.2)
  by_kind _ (IsEnum x) g n =
      headed_item (codes "enum") (Blank ∷ []) (leaf_of x.name.raw x.name.text (Part (generics_form x.generics) Done)) (about_enum x).tail refl depth ts rest
      (spelled_as Module depth (item.Enum x) _ ts rest (laws.enum_is x) g).0
  by_kind _ (IsValue head v) g n =
      let s = spelled_as Module depth (item.Value head v) _ ts rest (laws.value_is head v) g in
      let t = s.0 in
      let u = t.1 in
      value_item head depth ts u.0 u.1
  by_kind _ (IsTrait head wheres attrs items) g n =
      let s = spelled_as Module depth (item.Trait head wheres attrs items) _ ts rest (laws.trait_is head wheres attrs items) g in
      let t = s.0 in
      unsafe_item head.is_unsafe (codes "trait") (Blank ∷ [])
      (leaf_of head.name.raw head.name.text (Part (generics_form head.generics) (Part (bounded_form head.bounds) Done))) refl depth ts t.0 t.1
  by_kind _ (IsImpl head wheres attrs items) g n =
      let s = spelled_as Module depth (item.Impl head wheres attrs items) _ ts rest (laws.impl_is head wheres attrs items) g in
      let t = s.0 in
      unsafe_item head.is_unsafe (codes "impl") []
      (Part (generics_form head.generics) (Piece (Blank ∷ []) (trait_ref_form head.of (Part (about_type head.ty).told.form Done)))) refl depth ts t.0 t.1
  by_kind _ (IsForeign is_unsafe abi attrs items) g n =
      let s = spelled_as Module depth (item.Foreign is_unsafe abi attrs items) _ ts rest (laws.foreign_is is_unsafe abi attrs items) g in
      let t = s.0 in
      unsafe_item is_unsafe (codes "extern") [] (foreign_abi abi) refl depth ts t.0 t.1
  by_kind _ (IsRules m rules) g n =
      let s = spelled_as Module depth (item.MacroRules m rules) _ ts rest (laws.rules_is m rules) g in
      let t = s.0 in
      let bits = t.1 in
      let o : IsOperator (codes "!") bits.0 t.0 = before_blank (Operator (codes "!")) bits.0 t.0 bits.2 in
      let named = (and_parts (is_name m.raw m.text) _ (and_parts (is_name m.raw m.text && is_group rules) _ s.1).0).0 in
      let there = name_there m.raw m.text (before_rules rules.delim (group_form rules (end_form rules.delim))) depth t.0 rest named t.2 in
      rules_item ts bits.0 bits.1 o.0 (rw o.1 there)
  by_kind _ (IsCall c) g n = let e = sym (ap (λ (K : KindFacts). K.call) (laws.call_is c)) ∙ n in absurd (cc)

-- ---- a statement that is an item

no_let : (ts : Tokens) → begins_item ts ≡ true → first (is_keyword (codes "let")) ts ≡ false
no_let ts h = false_from_ne_true (first (is_keyword (codes "let")) ts) (λ e.
    let f = one_front Ident (codes "let") ts (tail ts) (keyword_one (codes "let") ts e) in
    let n : begins_item ts ≡ false = rw f.1 refl in
    absurd (cc))

-- what follows its outer attributes: an item begins there, and no `let`
pub record ItemBegun (one : Item) (depth : ℕ) (ts : Tokens) : Type 0 where
  pub seen : Tokens
  pub attrs : Rows (GoodAt (about_attr false) depth) one.attrs ts seen
  pub attr : begins_attr false seen ≡ false
  pub begins : begins_item seen ≡ true
  pub other : first (is_keyword (codes "let")) seen ≡ false

pub item_begun : (one : Item) (depth : ℕ) (ts rest : Tokens) → GoodAt (about_item Module) (suc depth) one ts rest → (told_of_item one).call ≡ false
    → ItemBegun one depth ts
item_begun one depth ts rest g n =
    let p = item_parts Module one depth ts rest g in
    let k = kind_front Module one.kind depth p.mid rest p.kind in
    let call : (told_of_kind one.kind).call ≡ false = sym (ap (λ (F : ItemFacts). F.call) (item_is one)) ∙ n in
    let b = by_kind depth p.mid rest one.kind (kind_view one.kind) p.kind call in
    elim (vis_front one.vis depth p.seen p.mid p.vis) [
      | inl e ↦ record {
        seen = p.seen;
        attrs = p.attrs;
        attr = subst (λ us. begins_attr false us ≡ false) (sym e.1) k.attr;
        begins = subst (λ us. begins_item us ≡ true) (sym e.1) b;
        other = subst (λ us. first (is_keyword (codes "let")) us ≡ false) (sym e.1) (no_let p.mid b);
      }
      | inr o ↦ let f = one_front Ident (codes "pub") p.seen o.0 o.1 in record {
        seen = p.seen;
        attrs = p.attrs;
        attr = rw f.1 refl;
        begins = word_item (codes "pub") refl p.seen o.0 o.1;
        other = rw f.1 refl;
      }
    ]
