-- The words before the name of a function, and what its head begins with.
use Rattle.std.proofs.Common.{◌≡◌, ℕ, Bool, true, false, ◌&&◌, List, [], ◌∷◌, codes, Option, Some, None, refl, sym, subst, ◌∙◌}
use Rattle.std.specs.List.{list_any}
use Rattle.std.specs.Str.{bytes_eq}
use Rattle.std.proofs.lemmas.Bool.{and_parts, or_right, false_from_ne_true}
use Rattle.lay_piece.specs.declared.kind.Kind.TheVariants as kind
use Rattle.lay_piece.specs.declared.kind.Kind.TheVariants.{Ident}
use Rattle.lay_piece.specs.declared.kind.Kind.{Kind}
use Rattle.lay_token.proofs.Deciding.{bytes_self}
use Rattle.lay_form.specs.Form.{Blank, Form, Piece, keyword}
use Rattle.lay_form.specs.Notation.{when}
use Rattle.lay_form.specs.Spelled.{IsOne, Spells}
use Rattle.lay_node.specs.Ahead.{Tokens, first, is_ident, is_keyword, tail}
use Rattle.lay_node.specs.Words.{is_name, is_string}
use Rattle.lay_node.specs.nodes.Functions.{are_fn_params, fn_head_form, is_fn_head, may_be_type, may_say, safety_form, signature_form}
use Rattle.lay_node.specs.nodes.Generics.{is_generics}
use Rattle.lay_node.specs.nodes.Types as types
use Rattle.lay_node.specs.nodes.Types.{abi_form, is_abi}
use Rattle.lay_node.specs.reader.Functions.{async_flag, behind_abi, behind_qualifiers, behind_string, const_flag, is_string_kind, safety_at}
use Rattle.lay_node.specs.reader.Types.{abi, if_there, is_string_token}
use Rattle.lay_node.specs.declared.functions.FnHead.{FnHead}
use Rattle.lay_node.specs.declared.functions.Safety.TheVariants as safety
use Rattle.lay_node.specs.declared.functions.Safety.{Safety}
use Rattle.lay_node.specs.declared.heads.Site.{Site}
use Rattle.lay_node.specs.declared.token.Literal.{Literal}
use Rattle.lay_node.specs.declared.types.Abi.{Abi}
use Rattle.lay_node.proofs.Fronts.{keyword_one, one_front}
use Rattle.lay_node.proofs.Parts.{before_blank}
use Rattle.lay_node.proofs.reader.TypesCompleteKinds.{keyword_other}
use Rattle.lay_node.proofs.reader.TypesCompleteParts.{abi_complete, blank_left, flag_complete, keyword_there, one_left}

-- ---- one of several words

-- the words with which the head of a function may begin
abbrev pub fn_words : List (List ℕ)
fn_words = codes "const" ∷ codes "async" ∷ codes "unsafe" ∷ codes "safe" ∷ codes "extern" ∷ codes "fn" ∷ []

-- One of these words comes next.
abbrev pub WordFront : List (List ℕ) → Tokens → Type 0
WordFront words ts = (word : List ℕ) × (mid : Tokens) × (list_any (bytes_eq word) words ≡ true) × IsOne Ident word ts mid

-- No other word does.
pub front_no_word : (words : List (List ℕ)) (other : List ℕ) → list_any (bytes_eq other) words ≡ false → (ts : Tokens) → WordFront words ts
    → first (is_keyword other) ts ≡ false
front_no_word words other n ts f = false_from_ne_true (first (is_keyword other) ts) (λ e.
    let same = text_same ts (keyword_one other ts e) f.3 in
    let m = subst (λ w. list_any (bytes_eq w) words ≡ true) same f.2 in
    absurd (cc))
  where
    text_same : (us : Tokens) → IsOne Ident other us (tail us) → IsOne Ident f.0 us f.1 → f.0 ≡ other
    text_same [] a b = absurd a
    text_same (t ∷ us) a b = sym b.1 ∙ a.1

word_front : (word : List ℕ) (words : List (List ℕ)) (ts mid : Tokens) → IsOne Ident word ts mid → WordFront (word ∷ words) ts
word_front word words ts mid o = (word, mid, rw (bytes_self word) refl, o)

front_more : (word : List ℕ) (words : List (List ℕ)) (ts : Tokens) → WordFront words ts → WordFront (word ∷ words) ts
front_more word words ts f = (f.0, f.1, or_right (bytes_eq f.0 word) (list_any (bytes_eq f.0) words) f.2, f.3)

-- A string is decided by its kind, and is no word.
pub string_kind : (k : Kind) (text : List ℕ) → is_string k text ≡ true → (is_string_kind k ≡ true) × (is_ident k ≡ false)
string_kind kind.Str text h = (refl, refl)
string_kind kind.RawStr text h = (refl, refl)
string_kind _ text h = absurd (cc)

-- ---- the words before the name

-- what the head is after its safety
abbrev behind_safety_form : FnHead → Form
behind_safety_form h = abi_form h.abi (Piece (keyword (codes "fn") ∷ Blank ∷ []) (signature_form h))

abbrev behind_const_form : FnHead → Form
behind_const_form h = when h.is_async (keyword (codes "async") ∷ Blank ∷ []) (safety_form h.safety (behind_safety_form h))

module _ (h : FnHead) (depth : ℕ) (rest : Tokens) where
  fn_front : (ts : Tokens) → Spells (Piece (keyword (codes "fn") ∷ Blank ∷ []) (signature_form h)) depth ts rest → WordFront (codes "fn" ∷ []) ts
  fn_front ts s = word_front (codes "fn") [] ts s.0 (before_blank (keyword (codes "fn")) ts s.0 s.1)

  abi_front : (a : Option Abi) (ts : Tokens) → Spells (abi_form a (Piece (keyword (codes "fn") ∷ Blank ∷ []) (signature_form h))) depth ts rest
      → WordFront (codes "extern" ∷ codes "fn" ∷ []) ts
  abi_front None ts s = front_more (codes "extern") (codes "fn" ∷ []) ts (fn_front ts s)
  abi_front (Some a) ts s = word_front (codes "extern") (codes "fn" ∷ []) ts s.0 (before_blank (keyword (codes "extern")) ts s.0 s.1)

  abbrev behind_async_words : List (List ℕ)
  behind_async_words = codes "unsafe" ∷ codes "safe" ∷ codes "extern" ∷ codes "fn" ∷ []

  safety_front : (x : Option Safety) (ts : Tokens) → Spells (safety_form x (behind_safety_form h)) depth ts rest → WordFront behind_async_words ts
  safety_front None ts s =
      front_more (codes "unsafe") (codes "safe" ∷ codes "extern" ∷ codes "fn" ∷ []) ts
      (front_more (codes "safe") (codes "extern" ∷ codes "fn" ∷ []) ts (abi_front h.abi ts s))
  safety_front (Some safety.Unsafe) ts s =
      word_front (codes "unsafe") (codes "safe" ∷ codes "extern" ∷ codes "fn" ∷ []) ts s.0 (before_blank (keyword (codes "unsafe")) ts s.0 s.1)
  safety_front (Some safety.Safe) ts s =
      front_more (codes "unsafe") (codes "safe" ∷ codes "extern" ∷ codes "fn" ∷ []) ts
      (word_front (codes "safe") (codes "extern" ∷ codes "fn" ∷ []) ts s.0 (before_blank (keyword (codes "safe")) ts s.0 s.1))

  flag_front : (word : List ℕ) (words : List (List ℕ)) (f : Form) → ((us : Tokens) → Spells f depth us rest → WordFront words us)
      → (b : Bool) (ts : Tokens) → Spells (when b (keyword word ∷ Blank ∷ []) f) depth ts rest → WordFront (word ∷ words) ts
  flag_front word words f front true ts s = word_front word words ts s.0 (before_blank (keyword word) ts s.0 s.1)
  flag_front word words f front false ts s = front_more word words ts (front ts s)

  async_front : (ts : Tokens) → Spells (behind_const_form h) depth ts rest → WordFront (codes "async" ∷ behind_async_words) ts
  async_front = flag_front (codes "async") behind_async_words (safety_form h.safety (behind_safety_form h)) (safety_front h.safety) h.is_async

  -- The head of a function begins with one of its words.
  pub fn_head_front : (ts : Tokens) → Spells (fn_head_form h) depth ts rest → WordFront fn_words ts
  fn_head_front = flag_front (codes "const") (codes "async" ∷ behind_async_words) (behind_const_form h) async_front h.is_const

  -- what it says of its safety
  safety_parts : (x : Option Safety) (ts : Tokens) → Spells (safety_form x (behind_safety_form h)) depth ts rest
      → (mid : Tokens) × (safety_at ts ≡ (x, mid)) × Spells (behind_safety_form h) depth mid rest
  safety_parts None ts s =
      let f = abi_front h.abi ts s in
      let words = codes "extern" ∷ codes "fn" ∷ [] in
      (ts, rw (front_no_word words (codes "unsafe") refl ts f, front_no_word words (codes "safe") refl ts f) refl, s)
  safety_parts (Some safety.Unsafe) ts s =
      let o : IsOne Ident (codes "unsafe") ts s.0 = before_blank (keyword (codes "unsafe")) ts s.0 s.1 in
      (s.0, rw (keyword_there (codes "unsafe") ts s.0 o, one_left Ident (codes "unsafe") ts s.0 o) refl, s.2)
  safety_parts (Some safety.Safe) ts s =
      let o : IsOne Ident (codes "safe") ts s.0 = before_blank (keyword (codes "safe")) ts s.0 s.1 in
      let no = keyword_other (codes "safe") (codes "unsafe") refl ts s.0 o in
      (s.0, rw (no, keyword_there (codes "safe") ts s.0 o, one_left Ident (codes "safe") ts s.0 o) refl, s.2)

  -- the words before `fn`, and what follows it
  pub record FnParts (ts : Tokens) : Type 0 where
    pub behind_const : Tokens
    pub behind_async : Tokens
    pub behind_safety : Tokens
    pub at : Tokens
    pub behind : Tokens
    pub const : const_flag ts ≡ (h.is_const, behind_const)
    pub async : async_flag behind_const ≡ (h.is_async, behind_async)
    pub safe : safety_at behind_async ≡ (h.safety, behind_safety)
    pub extern : if_there (first (is_keyword (codes "extern")) behind_safety) abi behind_safety ≡ Some (h.abi, at)
    pub word : IsOne Ident (codes "fn") at behind
    pub signature : Spells (signature_form h) depth behind rest
    pub skipped : first (is_keyword (codes "fn")) (behind_qualifiers ts) ≡ true

  -- after `extern` and what it is for stands `fn`
  abi_skipped : (a : Option Abi) (ts : Tokens) → Spells (abi_form a (Piece (keyword (codes "fn") ∷ Blank ∷ []) (signature_form h))) depth ts rest
      → is_abi a ≡ true
      → first (is_keyword (codes "fn")) (behind_abi ts) ≡ true
  abi_skipped None ts s g =
      let o : IsOne Ident (codes "fn") ts s.0 = before_blank (keyword (codes "fn")) ts s.0 s.1 in
      rw (keyword_other (codes "fn") (codes "extern") refl ts s.0 o) (keyword_there (codes "fn") ts s.0 o)
  abi_skipped (Some a) ts s g =
      let o : IsOne Ident (codes "extern") ts s.0 = before_blank (keyword (codes "extern")) ts s.0 s.1 in
      let left = one_left Ident (codes "extern") ts s.0 o in
      rw (keyword_there (codes "extern") ts s.0 o, left) (by a.name s.0 s.2 g)
    where
      by : (n : Option Literal) (us : Tokens) → Spells (types.abi_name n (Piece (keyword (codes "fn") ∷ Blank ∷ []) (signature_form h))) depth us rest
          → types.is_abi_name n ≡ true → first (is_keyword (codes "fn")) (behind_string us) ≡ true
      by None us t e = rw (one_front Ident (codes "fn") us t.0 (before_blank (keyword (codes "fn")) us t.0 t.1)).1 refl
      by (Some l) us t e =
          let o : IsOne l.kind l.text us t.0 = t.1 in
          let more = t.2 in
          let fn_there = more.2 in
          let same = blank_left t.0 more.0 more.1 in
          let there = keyword_there (codes "fn") more.0 fn_there.0 (before_blank (keyword (codes "fn")) more.0 fn_there.0 fn_there.1) in
          rw ((one_front l.kind l.text us t.0 o).1, (string_kind l.kind l.text e).0, same) there

  pub fn_parts : (ts : Tokens) → Spells (fn_head_form h) depth ts rest → is_abi h.abi ≡ true → FnParts ts
  fn_parts ts s g =
      let async_words = codes "async" ∷ behind_async_words in
      let c = flag_complete (codes "const") h.is_const (behind_const_form h) depth ts rest s
      (λ us v. front_no_word async_words (codes "const") refl us (async_front us v)) in
      let a = flag_complete (codes "async") h.is_async (safety_form h.safety (behind_safety_form h)) depth c.0 rest c.2
      (λ us v. front_no_word behind_async_words (codes "async") refl us (safety_front h.safety us v)) in
      let f = safety_parts h.safety a.0 a.2 in
      let e = abi_complete h.abi (Piece (keyword (codes "fn") ∷ Blank ∷ []) (signature_form h)) depth f.0 rest f.2 g no_abi in
      let t = e.2 in
      record {
        behind_const = c.0;
        behind_async = a.0;
        behind_safety = f.0;
        at = e.0;
        behind = t.0;
        const = c.1;
        async = a.1;
        safe = f.1;
        extern = e.1;
        word = before_blank (keyword (codes "fn")) e.0 t.0 t.1;
        signature = t.2;
        skipped = rw (c.1, a.1, f.1) (abi_skipped h.abi f.0 f.2 g);
      }
    where
      no_abi : (us : Tokens) → Spells (Piece (keyword (codes "fn") ∷ Blank ∷ []) (signature_form h)) depth us rest
          → (first (is_keyword (codes "extern")) us ≡ false) × (first is_string_token us ≡ false)
      no_abi us v =
          let o : IsOne Ident (codes "fn") us v.0 = before_blank (keyword (codes "fn")) us v.0 v.1 in
          (keyword_other (codes "fn") (codes "extern") refl us v.0 o, rw (one_front Ident (codes "fn") us v.0 o).1 refl)

-- ---- what is good of a head

pub record GoodFnHead (site : Site) (h : FnHead) : Type 0 where
  pub say : may_say site h.safety ≡ true
  pub abi : is_abi h.abi ≡ true
  pub named : is_name h.name.raw h.name.text ≡ true
  pub generics : is_generics h.generics ≡ true
  pub params : are_fn_params h.params ≡ true
  pub output : may_be_type h.output ≡ true

pub good_fn_head : (site : Site) (h : FnHead) → is_fn_head site h ≡ true → GoodFnHead site h
good_fn_head site h g =
    let say = may_say site h.safety in
    let named = is_name h.name.raw h.name.text in
    let five = and_parts (say && is_abi h.abi && named && is_generics h.generics && are_fn_params h.params) (may_be_type h.output) g in
    let four = and_parts (say && is_abi h.abi && named && is_generics h.generics) (are_fn_params h.params) five.0 in
    let three = and_parts (say && is_abi h.abi && named) (is_generics h.generics) four.0 in
    let two = and_parts (say && is_abi h.abi) named three.0 in
    let one = and_parts say (is_abi h.abi) two.0 in
    record { say = one.0; abi = one.1; named = two.1; generics = three.1; params = four.1; output = five.1 }

-- After the words of a head that stand before it stands `fn`.
pub fn_head_begins : (site : Site) (h : FnHead) (depth : ℕ) (ts rest : Tokens) → Spells (fn_head_form h) depth ts rest → is_fn_head site h ≡ true
    → first (is_keyword (codes "fn")) (behind_qualifiers ts) ≡ true
fn_head_begins site h depth ts rest s g = (fn_parts h depth rest ts s (good_fn_head site h g).abi).skipped
