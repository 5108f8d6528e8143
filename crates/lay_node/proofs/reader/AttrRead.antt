-- Attributes: what is spelled, and well formed, is read.
use Rattle.std.proofs.Common.{◌≡◌, ℕ, ◌<◌, ◌≤◌, Bool, true, false, not, ◌&&◌, List, [], ◌∷◌, length, codes, ◌⊎◌, inl, inr, Option, Some, None, if◌then◌else◌, refl, ap, subst, ◌∙◌, arith}
use Rattle.std.specs.Prelude.{encode_utf8_all}
use Rattle.std.specs.Str.{chars}
use Rattle.std.proofs.lemmas.Bool.{and_parts, not-true}
use Rattle.lay_piece.specs.Forms.{opening, closing}
use Rattle.lay_token.specs.Delimiters as delimiters
use Rattle.lay_token.specs.Lexes.{is_punct}
use Rattle.lay_token.specs.Operators.{is_op}
use Rattle.lay_piece.specs.Value.{value_of}
use Rattle.lay_piece.specs.declared.kind.Delim.TheVariants.{Bracket, Brace}
use Rattle.lay_piece.specs.declared.kind.Kind.{Kind}
use Rattle.lay_piece.specs.declared.kind.Kind.TheVariants.{Ident, Str, RawStr, Punct, Opener, Closer, Doc}
use Rattle.lay_token.specs.declared.token.Token.{Token}
use Rattle.lay_form.specs.Form.{Blank, Operator, keyword, opener, closer}
use Rattle.lay_form.specs.Notation.{piece}
use Rattle.lay_form.specs.Spelled.{IsOne, IsOperator, IsComment, IsString, IsDocAttr, IsDoc, AreBits, attr_opening, Spells}
use Rattle.lay_form.proofs.FormLaws.{bits_end, shorter, string_end}
use Rattle.lay_node.specs.Ahead.{Tokens, first, is_closer, ends_items}
use Rattle.lay_node.specs.nodes.Attr.{string_of, is_empty, is_doc_value, is_doc_path, is_doc_input, is_meta_path, is_input, same_flag, meta_path_form, input_form, attr_form, about_attr}
use Rattle.lay_node.specs.nodes.Facts.{Front}
use Rattle.lay_node.specs.reader.Attr.{value, meta_name, meta_input, doc_or, made, behind_opening, meta_attr, is_doc_kind, doc_attr, attribute, begins_attr, attributes}
use Rattle.lay_node.specs.reader.Exact.{Exact, needless}
use Rattle.lay_node.specs.reader.Tokens.{tokens}
use Rattle.lay_node.specs.tokens.Lexed.{is_token_list}
use Rattle.lay_node.specs.tokens.Listing as listing
use Rattle.lay_node.specs.tokens.Listing.{is_doc_text, as_listed, listed_by, turned}
use Rattle.lay_node.specs.declared.attr.Attr.{Attr}
use Rattle.lay_node.specs.declared.attr.Attr.TheVariants as attr
use Rattle.lay_node.specs.declared.attr.MetaInput.{MetaInput}
use Rattle.lay_node.specs.declared.attr.MetaInput.TheVariants as input
use Rattle.lay_node.specs.declared.attr.MetaPath.{MetaPath}
use Rattle.lay_node.specs.declared.attr.MetaPath.TheVariants as meta_path
use Rattle.lay_node.specs.declared.token.Listed.{Listed}
use Rattle.lay_node.specs.declared.token.Listed.TheVariants as listed
use Rattle.lay_node.proofs.Fronts.{end_shorter, closer_passed, mark_passed, opener_passed, one_front, no_op, one_no_op, other_op, one_test, one_shorter}
use Rattle.lay_node.proofs.Parts.{Rows, rows_to, GoodAt, bits_parts, bit_alone, behind_blank, before_blank, piece_bit}
use Rattle.lay_node.proofs.reader.Attr.{flag_same, same_as_itself, attribute_sound}
use Rattle.lay_node.proofs.reader.Exact.{exact, needless_sound, needless_complete}
use Rattle.lay_node.proofs.reader.Loops.{Turn, repeat_complete}
use Rattle.lay_node.proofs.reader.SimplePath.{simple_path_no_keyword, simple_path_complete}
use Rattle.lay_node.proofs.reader.TokenLists.{EndsRun, list_there}
use Rattle.lay_node.proofs.reader.Tokens.{tokens_there, group_complete}
use Rattle.lay_node.proofs.token_lists.Balance.{balances_turned}

-- ---- what an attribute is called, and what it is given

meta_name_complete : (path : MetaPath) (depth : ℕ) (ts rest : Tokens) → Spells (meta_path_form path) depth ts rest → is_meta_path path ≡ true
    → is_op (codes "::") rest ≡ false → meta_name ts ≡ Some (path, rest)
unfolding meta_name
meta_name_complete (meta_path.Path path) depth ts rest s g h =
    rw (simple_path_no_keyword (codes "unsafe") refl path depth ts rest g s, simple_path_complete path depth ts rest (s, g, rw h refl)) refl
meta_name_complete meta_path.Unsafe depth ts rest s g h =
    rw (one_front Ident (codes "unsafe") ts rest (piece_bit (keyword (codes "unsafe")) depth ts rest s)).1 refl

abbrev Closes : Tokens → Tokens → Type 0
Closes = IsOne (Closer Bracket) (closing Bracket ∷ [])

value_complete : (us : List Listed) (ts mid rest : Tokens) → is_empty us ≡ false → IsOperator (codes "=") ts mid → tokens mid ≡ Some (us, rest)
    → meta_input ts ≡ Some (input.Value us, rest)
unfolding meta_input value
value_complete us ts mid rest n o r = rw (o.0, o.1, r, n) refl

opener_no_op : (op : List ℕ) (ts : Tokens) → first (λ t. delimiters.is_opener t.kind) ts ≡ true → is_op op ts ≡ false
opener_no_op op [] h = absurd (cc)
opener_no_op op (t ∷ ts) h = no_op op t ts (by t.kind h)
  where
    by : (k : Kind) → delimiters.is_opener k ≡ true → is_punct k ≡ false
    by (Opener d) h = refl
    by _ h = absurd (cc)

meta_input_complete : (given : MetaInput) (depth : ℕ) (ts rest : Tokens) → Spells (input_form given (piece (closer Bracket ∷ []))) depth ts rest
    → is_input given ≡ true → (mid : Tokens) × (meta_input ts ≡ Some (given, mid)) × Closes mid rest × (is_op (codes "::") ts ≡ false)
unfolding meta_input
meta_input_complete input.Bare depth ts rest s g =
    let c : Closes ts rest = piece_bit (closer Bracket) depth ts rest s in
    let no : (op : List ℕ) → is_op op ts ≡ false = λ op. one_no_op op (Closer Bracket) (closing Bracket ∷ []) ts rest refl c in
    (ts, rw (no (codes "="), one_test delimiters.is_opener (Closer Bracket) (closing Bracket ∷ []) ts rest c) refl, c, no (codes "::"))
meta_input_complete (input.Group g) depth ts rest s h =
    let r = group_complete g (piece (closer Bracket ∷ [])) depth ts rest s h in
    let no : (op : List ℕ) → is_op op ts ≡ false = λ op. opener_no_op op ts r.begins in
    (r.rest, rw (no (codes "="), r.begins, r.read) refl, piece_bit (closer Bracket) depth r.rest rest r.after, no (codes "::"))
meta_input_complete (input.Value us) depth ts rest s g =
    let o : IsOperator (codes "=") ts s.0 = before_blank (Operator (codes "=")) ts s.0 (behind_blank (Operator (codes "=") ∷ Blank ∷ []) ts s.0 s.1) in
    let goods = and_parts (not (is_empty us)) (is_token_list us) g in
    let inside = s.2 in
    let c : Closes inside.0 rest = piece_bit (closer Bracket) depth inside.0 rest inside.2 in
    let shuts : EndsRun false inside.0 = one_test delimiters.is_closer (Closer Bracket) (closing Bracket ∷ []) inside.0 rest c in
    let read = list_there false us depth s.0 inside.0 goods.1 tt inside.1 shuts in
    (inside.0, value_complete us ts s.0 inside.0 (not-true (is_empty us) goods.0) o read, c, other_op (codes "=") (codes "::") refl ts o.0)

-- ---- what `made` gives

doc_or_other : (inner : Bool) (value : Option (List ℕ)) (other : Attr) → is_doc_value inner value ≡ false → doc_or inner value other ≡ other
doc_or_other inner None other h = refl
doc_or_other inner (Some value) other h = rw h refl

chosen_other : (is_doc_name : Bool) (inner : Bool) (value : Option (List ℕ)) (other : Attr) → not (is_doc_name && is_doc_value inner value) ≡ true
    → (if is_doc_name then doc_or inner value other else other) ≡ other
chosen_other true inner value other h = doc_or_other inner value other (not-true (is_doc_value inner value) h)
chosen_other false inner value other h = refl

made_meta : (inner : Bool) (path : MetaPath) (given : MetaInput) → not (is_doc_path path && is_doc_input inner given) ≡ true
    → made inner path given ≡ attr.Meta inner path given
made_meta inner path input.Bare h = refl
made_meta inner path (input.Group g) h = refl
made_meta inner path (input.Value us) h =
    chosen_other (is_doc_path path) inner (string_of us) (attr.Meta inner path (input.Value us)) h

-- ---- what opens an attribute

opening_read : (inner : Bool) (ts rest : Tokens) → AreBits (attr_opening inner) ts rest → behind_opening inner ts ≡ Some rest
opening_read false ts rest s =
    rw (mark_passed (codes "#") ts s.0 s.1, opener_passed Bracket s.0 rest (bit_alone (opener Bracket) s.0 rest s.2)) refl
opening_read true ts rest s =
    let bang = s.2 in
    rw (
      mark_passed (codes "#") ts s.0 s.1,
      mark_passed (codes "!") s.0 bang.0 bang.1,
      opener_passed Bracket bang.0 rest (bit_alone (opener Bracket) bang.0 rest bang.2),
    ) refl

opening_hash : (inner : Bool) (ts rest : Tokens) → AreBits (attr_opening inner) ts rest → (mid : Tokens) × IsOne Punct (codes "#") ts mid
opening_hash false ts rest s = (s.0, s.1)
opening_hash true ts rest s = (s.0, s.1)

opening_begins : (inner : Bool) (ts rest : Tokens) → AreBits (attr_opening inner) ts rest → begins_attr inner ts ≡ true
opening_begins false ts rest s = rw (one_front Punct (codes "#") ts s.0 s.1).1 refl
opening_begins true ts rest s = rw ((one_front Punct (codes "#") ts s.0 s.1).1, (one_front Punct (codes "!") s.0 s.2.0 s.2.1).1) refl

-- An outer attribute begins no inner one.
opening_no_inner : (ts rest : Tokens) → AreBits (attr_opening false) ts rest → begins_attr true ts ≡ false
opening_no_inner ts rest s =
    rw (
      (one_front Punct (codes "#") ts s.0 s.1).1,
      (one_front (Opener Bracket) (opening Bracket ∷ []) s.0 rest (bit_alone (opener Bracket) s.0 rest s.2)).1,
    ) refl

opening_shorter : (inner : Bool) (ts rest : Tokens) → AreBits (attr_opening inner) ts rest → length rest < length ts
opening_shorter false ts rest s =
    omega (arith, one_shorter Punct (codes "#") ts s.0 s.1, end_shorter s.0 rest (bits_end (opener Bracket ∷ []) s.0 rest s.2))
opening_shorter true ts rest s =
    let bang = s.2 in
    omega (
      arith,
      one_shorter Punct (codes "#") ts s.0 s.1,
      one_shorter Punct (codes "!") s.0 bang.0 bang.1,
      end_shorter bang.0 rest (bits_end (opener Bracket ∷ []) bang.0 rest bang.2),
    )

-- ---- one attribute

-- what stands in the brackets of an attribute makes it
meta_attr_made : (inner : Bool) (path : MetaPath) (given : MetaInput) (ts inside behind end rest : Tokens) → AreBits (attr_opening inner) ts inside
    → meta_name inside ≡ Some (path, behind) → meta_input behind ≡ Some (given, end) → Closes end rest
    → meta_attr inner ts ≡ Some (made inner path given, rest)
unfolding meta_attr
meta_attr_made inner path given ts inside behind end rest o n i c = rw (opening_read inner ts inside o, n, i, closer_passed Bracket end rest c) refl

meta_complete : (inner : Bool) (path : MetaPath) (given : MetaInput) (depth : ℕ) (ts rest : Tokens) → Spells (attr_form (attr.Meta inner path given)) depth ts rest
    → is_meta_path path ≡ true → is_input given ≡ true → not (is_doc_path path && is_doc_input inner given) ≡ true
    → meta_attr inner ts ≡ Some (attr.Meta inner path given, rest)
meta_complete inner path given depth ts rest s p g h =
    let name = s.2 in
    let i = meta_input_complete given depth name.0 rest name.2 g in
    rw (← made_meta inner path given h)
    (meta_attr_made inner path given ts s.0 name.0 i.0 rest s.1 (meta_name_complete path depth s.0 name.0 name.1 p i.3) i.1 i.2)

comment_front : (inner : Bool) (value : List ℕ) (ts rest : Tokens) → IsComment inner value ts rest
    → (t : Token) × (block : Bool) × (ts ≡ record t { kind = Doc inner block; text = value } ∷ rest)
comment_front inner value [] rest c = absurd c
comment_front inner value (t ∷ ts) rest c = let f = one_front (Doc inner c.0) value (t ∷ ts) rest (c.1, c.2, c.3) in (f.0, c.0, f.1)

comment_complete : (inner : Bool) (value : List ℕ) (ts rest : Tokens) → IsComment inner value ts rest → is_doc_text inner value ≡ true
    → attribute inner ts ≡ Some (attr.Doc inner value, rest)
unfolding attribute doc_attr
comment_complete inner value ts rest c g = rw ((comment_front inner value ts rest c).2, same_as_itself inner, g) refl

-- A token that has a value is a string: no documentation, and no delimiter.
string_kind : (kind : Kind) (piece value : List ℕ) → value_of kind piece ≡ Some value
    → (listing.is_doc_kind kind ≡ false) × (turned kind [] ≡ Some []) × (is_punct kind ≡ false)
string_kind Str piece value h = (refl, refl, refl)
string_kind RawStr piece value h = (refl, refl, refl)
string_kind _ piece value h = absurd (cc)

plain_listed : (k : Kind) (text : List ℕ) (joint : Bool) → listing.is_doc_kind k ≡ false → is_punct k ≡ false
    → listed_by k text joint ≡ listed.Token k text false
plain_listed (Doc inner block) text joint n p = absurd (cc)
plain_listed Punct text joint n p = absurd (cc)
plain_listed _ text joint n p = refl

-- a string, read
record ReadString (value : List ℕ) (ts rest : Tokens) : Type 0 where
  list : List Listed
  held : List ℕ
  read : tokens ts ≡ Some (list, rest)
  some : is_empty list ≡ false
  string : string_of list ≡ Some held
  is : value ≡ encode_utf8_all held

string_read : (value : List ℕ) (ts mid rest : Tokens) → IsString value ts mid → Closes mid rest → ReadString value ts mid
string_read value [] mid rest s c = absurd s
string_read value (t ∷ ts) [] rest s c = absurd c
string_read value (t ∷ ts) (last ∷ mid) rest s c =
    let of = s.0 in
    let k = string_kind t.kind (chars t.text) of.0 of.1 in
    let one : as_listed t ≡ listed.Token t.kind t.text false = plain_listed t.kind t.text t.joint k.0 k.2 in
    record {
      list = listed.Token t.kind t.text false ∷ [];
      held = of.0;
      read =
          ap (λ z. tokens (t ∷ z)) s.1
          ∙ tokens_there false (t ∷ []) (last ∷ mid) (listed.Token t.kind t.text false ∷ []) (λ v. one v ∷ [])
          (balances_turned [] [] (listed.Token t.kind t.text false) [] k.1) tt refl (ap delimiters.is_closer c.0);
      some = refl;
      string = of.1;
      is = of.2;
    }

-- the name `doc`
abbrev doc_name : MetaPath
doc_name = meta_path.Path (record { global = false; words = record { raw = false; text = codes "doc" } ∷ [] })

doc_or_doc : (inner : Bool) (value : List ℕ) (held : List ℕ) (other : Attr) → value ≡ encode_utf8_all held → is_doc_text inner value ≡ true
    → doc_or inner (Some held) other ≡ attr.Doc inner value
doc_or_doc inner value held other e g =
    let here : is_doc_text inner (encode_utf8_all held) ≡ true = subst (λ w. is_doc_text inner w ≡ true) e g in rw (here, e) refl

made_doc : (inner : Bool) (value held : List ℕ) (us : List Listed) → string_of us ≡ Some held → value ≡ encode_utf8_all held
    → is_doc_text inner value ≡ true → made inner doc_name (input.Value us) ≡ attr.Doc inner value
made_doc inner value held us v e g =
    let other = attr.Meta inner doc_name (input.Value us) in
    ap (λ (o : Option (List ℕ)). doc_or inner o other) v ∙ doc_or_doc inner value held other e g

doc_attr_complete : (inner : Bool) (value : List ℕ) (ts rest : Tokens) → IsDocAttr inner value ts rest → is_doc_text inner value ≡ true
    → meta_attr inner ts ≡ Some (attr.Doc inner value, rest)
doc_attr_complete inner value ts rest d g =
    let opened = bits_parts (attr_opening inner) (keyword (codes "doc") ∷ Operator (codes "=") ∷ []) ts d.0 d.1 in
    let name = opened.2 in
    let o : IsOperator (codes "=") name.0 d.0 = bit_alone (Operator (codes "=")) name.0 d.0 name.2 in
    let behind = d.2 in
    let c : Closes behind.0 rest = bit_alone (closer Bracket) behind.0 rest behind.2 in
    let l = string_read value d.0 behind.0 rest behind.1 c in
    let n = meta_name_complete doc_name 0 opened.0 name.0 (name.0, name.1, refl) refl (other_op (codes "=") (codes "::") refl name.0 o.0) in
    let i = value_complete l.list name.0 d.0 behind.0 l.some o l.read in
    rw (← made_doc inner value l.held l.list l.string l.is g)
    (meta_attr_made inner doc_name (input.Value l.list) ts opened.0 name.0 behind.0 rest opened.1 n i c)

opening_complete : (inner : Bool) (a : Attr) (ts mid rest : Tokens) → AreBits (attr_opening inner) ts mid → meta_attr inner ts ≡ Some (a, rest)
    → attribute inner ts ≡ Some (a, rest)
unfolding attribute
opening_complete inner a ts mid rest o h =
    let hash = opening_hash inner ts mid o in rw (one_test (is_doc_kind inner) Punct (codes "#") ts hash.0 hash.1, h) refl

doc_opening : (inner : Bool) (value : List ℕ) (ts rest : Tokens) → IsDocAttr inner value ts rest
    → (mid : Tokens) × AreBits (attr_opening inner) ts mid × (length rest ≤ length mid)
doc_opening inner value ts rest d =
    let o = bits_parts (attr_opening inner) (keyword (codes "doc") ∷ Operator (codes "=") ∷ []) ts d.0 d.1 in
    let behind = d.2 in (
      o.0,
      o.1,
      omega (
        arith,
        end_shorter o.0 d.0 (bits_end (keyword (codes "doc") ∷ Operator (codes "=") ∷ []) o.0 d.0 o.2),
        end_shorter d.0 behind.0 (string_end value d.0 behind.0 behind.1),
        end_shorter behind.0 rest (bits_end (closer Bracket ∷ []) behind.0 rest behind.2),
      ),
    )

doc_complete : (inner : Bool) (value : List ℕ) (ts rest : Tokens) → IsDoc inner value ts rest → is_doc_text inner value ≡ true
    → attribute inner ts ≡ Some (attr.Doc inner value, rest)
doc_complete inner value ts rest s g = elim s [
  | inl c ↦ comment_complete inner value ts rest c g
  | inr d ↦ let o = doc_opening inner value ts rest d in opening_complete inner (attr.Doc inner value) ts o.0 rest o.1 (doc_attr_complete inner value ts rest d g)
]

all_four : (a b c d : Bool) → (a && b && c && d) ≡ true → (a ≡ true) × (b ≡ true) × (c ≡ true) × (d ≡ true)
all_four true true true true h = (refl, refl, refl, refl)
all_four _ _ _ _ h = absurd (cc)

pub attribute_complete : (inner : Bool) (a : Attr) (depth : ℕ) (ts rest : Tokens) → GoodAt (about_attr inner) depth a ts rest → attribute inner ts ≡ Some (a, rest)
attribute_complete inner (attr.Doc flag value) depth ts rest s =
    let goods = and_parts (same_flag inner flag) (is_doc_text inner value) s.1 in
    let e = flag_same inner flag goods.0 in
    let d : IsDoc inner value ts rest = subst (λ b. IsDoc b value ts rest) e (subst (λ us. IsDoc flag value ts us) s.0.2 s.0.1) in
    rw e (doc_complete inner value ts rest d goods.1)
attribute_complete inner (attr.Meta flag path given) depth ts rest s =
    let goods = all_four (same_flag inner flag) (is_meta_path path) (is_input given) (not (is_doc_path path && is_doc_input inner given)) s.1 in
    let e = flag_same inner flag goods.0 in
    let here : Spells (attr_form (attr.Meta inner path given)) depth ts rest = subst (λ b. Spells (attr_form (attr.Meta b path given)) depth ts rest) e s.0 in
    rw e (opening_complete inner (attr.Meta inner path given) ts here.0 rest here.1 (meta_complete inner path given depth ts rest here goods.1 goods.2 goods.3))

-- ---- the beginning of an attribute

-- documentation in a comment, or `#[` or `#![`; tokens are left that are fewer
abbrev FrontOf : Bool → Tokens → Tokens → Type 0
FrontOf inner ts rest =
    (((value : List ℕ) × IsComment inner value ts rest) ⊎ ((mid : Tokens) × AreBits (attr_opening inner) ts mid × (length rest ≤ length mid)))

attr_front : (inner : Bool) (a : Attr) (depth : ℕ) (ts rest : Tokens) → GoodAt (about_attr inner) depth a ts rest → FrontOf inner ts rest
attr_front inner (attr.Doc flag value) depth ts rest s =
    let e = flag_same inner flag (and_parts (same_flag inner flag) (is_doc_text inner value) s.1).0 in
    let d : IsDoc inner value ts rest = subst (λ b. IsDoc b value ts rest) e (subst (λ us. IsDoc flag value ts us) s.0.2 s.0.1) in
    elim d [ inl c ↦ inl (value, c) | inr d ↦ inr (doc_opening inner value ts rest d) ]
attr_front inner (attr.Meta flag path given) depth ts rest s =
    let e = flag_same inner flag (all_four (same_flag inner flag) (is_meta_path path) (is_input given) (not (is_doc_path path && is_doc_input inner given)) s.1).0 in
    let here : Spells (attr_form (attr.Meta inner path given)) depth ts rest = subst (λ b. Spells (attr_form (attr.Meta b path given)) depth ts rest) e s.0 in
    let name = here.2 in
    let left = shorter (meta_path_form path) depth here.0 name.0 name.1 in
    let more = shorter (input_form given (piece (closer Bracket ∷ []))) depth name.0 rest name.2 in
    inr (here.0, here.1, omega (arith, left, more))

pub attr_shorter : (inner : Bool) (a : Attr) (depth : ℕ) (ts rest : Tokens) → GoodAt (about_attr inner) depth a ts rest → length rest < length ts
attr_shorter inner a depth ts rest s = elim (attr_front inner a depth ts rest s) [
  | inl c ↦ let f = comment_front inner c.0 ts rest c.1 in omega (arith, ap length f.2)
  | inr o ↦ omega (arith, opening_shorter inner ts o.0 o.1, o.2)
]

comment_begins : (inner : Bool) (value : List ℕ) (ts rest : Tokens) → IsComment inner value ts rest → begins_attr inner ts ≡ true
comment_begins false value ts rest c = rw (comment_front false value ts rest c).2 refl
comment_begins true value ts rest c = rw (comment_front true value ts rest c).2 refl

pub attr_begins : (inner : Bool) (a : Attr) (depth : ℕ) (ts rest : Tokens) → GoodAt (about_attr inner) depth a ts rest → begins_attr inner ts ≡ true
attr_begins inner a depth ts rest s = elim (attr_front inner a depth ts rest s) [
  | inl c ↦ comment_begins inner c.0 ts rest c.1
  | inr o ↦ opening_begins inner ts o.0 o.1
]

-- At the beginning of an item items go on, and no inner attribute begins; so at the beginning of an outer attribute.
abbrev pub BeginsItem : Tokens → Type 0
BeginsItem ts = (ends_items ts ≡ false) × (begins_attr true ts ≡ false)

one_goes_on : (kind : Kind) (text : List ℕ) (ts rest : Tokens) → IsOne kind text ts rest → ends_items ts ≡ is_closer Brace kind
one_goes_on kind text [] rest h = absurd h
one_goes_on kind text (t ∷ ts) rest h = ap (is_closer Brace) h.0

pub outer_begins_item : (a : Attr) (depth : ℕ) (ts rest : Tokens) → GoodAt (about_attr false) depth a ts rest → BeginsItem ts
outer_begins_item a depth ts rest s = elim (attr_front false a depth ts rest s) [
  | inl c ↦ let f = comment_front false c.0 ts rest c.1 in (rw f.2 refl, rw f.2 refl)
  | inr o ↦ let hash = opening_hash false ts o.0 o.1 in (one_goes_on Punct (codes "#") ts hash.0 hash.1, opening_no_inner ts o.0 o.1)
]

-- ---- attributes

attr_turn : (inner : Bool) (depth : ℕ) (a : Attr) (ts rest : Tokens) → GoodAt (about_attr inner) depth a ts rest → Turn (begins_attr inner) (attribute inner) a ts rest
attr_turn inner depth a ts rest s = (attr_begins inner a depth ts rest s, attribute_complete inner a depth ts rest s, attr_shorter inner a depth ts rest s)

pub attributes_complete : (inner : Bool) (attrs : List Attr) (depth : ℕ) (ts rest : Tokens) → Rows (GoodAt (about_attr inner) depth) attrs ts rest
    → begins_attr inner rest ≡ false → attributes inner ts ≡ Some (attrs, rest)
unfolding attributes
attributes_complete inner attrs depth ts rest r h =
    repeat_complete (attribute inner) (begins_attr inner) attrs ts rest
    (rows_to (GoodAt (about_attr inner) depth) (Turn (begins_attr inner) (attribute inner)) (attr_turn inner depth) attrs ts rest r) h

pub attrs_exact : (inner : Bool) → Exact (needless (attribute inner)) (λ (x : Attr). Front (about_attr inner x))
attrs_exact inner =
    exact (about_attr inner) (needless (attribute inner))
    (needless_sound (about_attr inner) (attribute inner) (λ ts a rest t h. let s = attribute_sound inner 0 ts a rest t h in (s.0, s.1, refl)))
    (needless_complete (about_attr inner) (attribute inner) (λ a depth ts rest s. attribute_complete inner a depth ts rest (s.0, s.1)))
