-- What follows the heads of items, and the words that they begin with.
use Rattle.std.specs.Str.{bytes_eq}
use Rattle.std.proofs.Common.{if◌then◌else◌, Bool, List, None, [], codes, false, inl, inr, map, refl, subst, sym, true, ℕ, ◌∷◌, ◌≡◌, ap}
use Rattle.std.proofs.lemmas.Bool.{or_cases}
use Rattle.lay_piece.specs.Chars.{begins}
use Rattle.lay_piece.specs.declared.kind.Delim.TheVariants.{Brace}
use Rattle.lay_piece.specs.declared.kind.Delim.{Delim}
use Rattle.lay_piece.specs.declared.kind.Kind.TheVariants.{Ident, Opener, Punct}
use Rattle.lay_token.specs.Operators.{is_op}
use Rattle.lay_form.specs.Form.{Form, Blank, keyword}
use Rattle.lay_form.specs.Spelled.{IsOne, Spells, AreBits}
use Rattle.lay_node.specs.Ahead.{Tokens, first, is_keyword, is_mark, opens, tail}
use Rattle.lay_node.specs.Begins.{begins_bound, lead_at}
use Rattle.lay_node.specs.Follow.{OfArgs, OfArrow, OfBang, OfCodeArgs, OfColons, OfRename}
use Rattle.lay_node.specs.nodes.Heads.{ends_head, unsafe_form}
use Rattle.lay_node.specs.nodes.Where.{predicate_form, wheres_before_semicolon}
use Rattle.lay_node.specs.reader.Heads.{unsafe_flag}
use Rattle.lay_node.specs.declared.generics.Wheres.{Wheres}
use Rattle.lay_node.proofs.Follow as follow
use Rattle.lay_node.proofs.Fronts.{keyword_one, one_front, one_no_op, opener_kind}
use Rattle.lay_node.proofs.reader.HeadParts.{body_wheres, wheres_front}
use Rattle.lay_node.proofs.reader.TypesCompleteKinds.{keyword_other}
use Rattle.lay_node.proofs.reader.TypesCompleteParts.{flag_complete}
use Rattle.lay_node.proofs.reader.TypesFronts.{Quiet, Ends, EndsPattern, kind_quiet, mark_ends, Free}

-- ---- what follows a head before its where clause

-- A where clause and a `;` begin so.
abbrev pub BeforeWheres : Tokens → Type 0
BeforeWheres ts = Ends ts × (first (is_mark (codes "<")) ts ≡ false)

pub where_ends : (ts rest : Tokens) → IsOne Ident (codes "where") ts rest → BeforeWheres ts
unfolding lead_at
where_ends ts rest o =
    let f = (one_front Ident (codes "where") ts rest o).1 in
    let no : (op : List ℕ) → is_op op ts ≡ false = λ op. one_no_op op Ident (codes "where") ts rest refl o in
    let pattern : EndsPattern ts =
    record {
      bar = no (codes "|");
      at = no (codes "@");
      brace = rw f refl;
      dots = rw (no (codes ".."), no (codes "..=")) refl;
      span = rw f refl;
      rename = rw f refl;
    } in (
      record {
        pattern = pattern;
        quiet = kind_quiet Ident (codes "where") refl refl ts rest o;
        colon = no (codes ":");
        equals = no (codes "=");
        bound = rw f refl;
      },
      rw f refl,
    )

pub semicolon_ends : (ts rest : Tokens) → IsOne Punct (codes ";") ts rest → BeforeWheres ts
semicolon_ends ts rest o =
    (mark_ends 59 refl refl refl refl refl refl refl refl refl refl (λ us n. rw n refl) refl ts rest o, rw (one_front Punct (codes ";") ts rest o).1 refl)

-- A where clause and a `;` stand there.
pub tail_ends : (w : Wheres) (depth : ℕ) (ts mid rest : Tokens) → Spells (wheres_before_semicolon w) depth ts mid → IsOne Punct (codes ";") mid rest
    → BeforeWheres ts
tail_ends w depth ts mid rest s o =
    elim (wheres_front (map predicate_form w.predicates) depth ts mid (body_wheres (map predicate_form w.predicates) depth ts mid s)) [
      | inl e ↦ subst BeforeWheres (sym e) (semicolon_ends mid rest o)
      | inr word ↦ where_ends ts word.0 word.1
    ]

-- ---- what follows a head before its body

-- A where clause, or the braces of a body, begin so.
pub record BeforeBody (ts : Tokens) : Type 0 where
  pub quiet : Quiet ts
  pub colon : is_op (codes ":") ts ≡ false
  pub less : first (is_mark (codes "<")) ts ≡ false
  pub bound : begins_bound ts ≡ false
  pub for_word : first (is_keyword (codes "for")) ts ≡ false
  -- Nothing that a node may refuse begins there, and no type.
  pub follow : follow.Quiet ts
  pub lead : lead_at ts ≡ None

free_quiet : (ts : Tokens) → Free ts → first (is_keyword (codes "as")) ts ≡ false → follow.Quiet ts
free_quiet ts f rename OfRename = rename
free_quiet ts f rename OfColons = f.colons
free_quiet ts f rename OfArgs = rw (f.args, f.colons, f.paren) refl
free_quiet ts f rename OfCodeArgs = rw f.colons refl
free_quiet ts f rename OfArrow = f.arrow
free_quiet ts f rename OfBang = f.bang

opens_front : (d : Delim) (ts : Tokens) → first (opens d) ts ≡ true → (text : List ℕ) × IsOne (Opener d) text ts (tail ts)
opens_front d [] h = absurd (cc)
opens_front d (t ∷ ts) h = (t.text, (opener_kind d t.kind h, refl, refl))

where_before : (ts rest : Tokens) → IsOne Ident (codes "where") ts rest → BeforeBody ts
unfolding lead_at
where_before ts rest o =
    let e = where_ends ts rest o in
    let f = (one_front Ident (codes "where") ts rest o).1 in
    record {
      quiet = e.0.quiet;
      colon = e.0.colon;
      less = e.1;
      bound = e.0.bound;
      for_word = rw f refl;
      follow = free_quiet ts e.0.quiet.free (rw f refl);
      lead = rw f refl;
    }

brace_before : (text : List ℕ) (ts rest : Tokens) → IsOne (Opener Brace) text ts rest → BeforeBody ts
unfolding lead_at
brace_before text ts rest o =
    let f = (one_front (Opener Brace) text ts rest o).1 in
    let quiet : Quiet ts = kind_quiet (Opener Brace) text refl refl ts rest o in
    record {
      quiet = quiet;
      colon = one_no_op (codes ":") (Opener Brace) text ts rest refl o;
      less = rw f refl;
      bound = rw f refl;
      for_word = rw f refl;
      follow = free_quiet ts quiet.free (rw f refl);
      lead = rw f refl;
    }

pub before_body : (ts : Tokens) → ends_head ts ≡ true → BeforeBody ts
before_body ts h = elim (or_cases (first (is_keyword (codes "where")) ts) (first (opens Brace) ts) h) [
  | inl e ↦ where_before ts (tail ts) (keyword_one (codes "where") ts e)
  | inr e ↦ let o = opens_front Brace ts e in brace_before o.0 ts (tail ts) o.1
]

-- ---- the words that a head begins with

pub unsafe_bits : (ts : Tokens) → first (is_keyword (codes "unsafe")) ts ≡ true → AreBits (keyword (codes "unsafe") ∷ Blank ∷ []) ts (tail ts)
unsafe_bits ts e = (tail ts, keyword_one (codes "unsafe") ts e, (tail ts, refl, refl))

-- `unsafe`, if it is there, and a word
pub record WordFront (is_unsafe : Bool) (word : List ℕ) (ts : Tokens) : Type 0 where
  pub at : Tokens
  pub behind : Tokens
  pub there : first (is_keyword (codes "unsafe")) ts ≡ is_unsafe
  pub left : at ≡ (if is_unsafe then tail ts else ts)
  pub flag : unsafe_flag ts ≡ (is_unsafe, at)
  pub one : IsOne Ident word at behind

-- What a flag tells of the tokens.
flag_tells : (b is_unsafe : Bool) (ts at : Tokens) → ◌≡◌ {A = Bool × Tokens} (if b then (true, tail ts) else (false, ts)) (is_unsafe, at)
    → (b ≡ is_unsafe) × (at ≡ (if is_unsafe then tail ts else ts))
flag_tells true is_unsafe ts at e =
    let flag : true ≡ is_unsafe = ap (λ (z : Bool × Tokens). z.0) e in
    (flag, subst (λ c. at ≡ (if c then tail ts else ts)) flag (sym (ap (λ (z : Bool × Tokens). z.1) e)))
flag_tells false is_unsafe ts at e =
    let flag : false ≡ is_unsafe = ap (λ (z : Bool × Tokens). z.0) e in
    (flag, subst (λ c. at ≡ (if c then tail ts else ts)) flag (sym (ap (λ (z : Bool × Tokens). z.1) e)))

pub word_front : (is_unsafe : Bool) (word : List ℕ) (f : Form) (depth : ℕ) (ts rest : Tokens) → bytes_eq word (codes "unsafe") ≡ false
    → ((us : Tokens) → Spells f depth us rest → (at : Tokens) × IsOne Ident word us at)
    → Spells (unsafe_form is_unsafe f) depth ts rest → WordFront is_unsafe word ts
word_front is_unsafe word f depth ts rest other begins s =
    let u = flag_complete (codes "unsafe") is_unsafe f depth ts rest s
    (λ us t. let b = begins us t in keyword_other word (codes "unsafe") other us b.0 b.1) in
    let b = begins u.0 u.2 in
    let told = flag_tells (first (is_keyword (codes "unsafe")) ts) is_unsafe ts u.0 u.1 in
    record { at = u.0; behind = b.0; there = told.0; left = told.1; flag = u.1; one = b.1 }
