-- One step of a reader, from what the readers within it give.
use Rattle.std.proofs.Common.{◌≡◌, ℕ, Bool, true, false, ◌&&◌, if◌then◌else◌, List, [], ◌∷◌, ◌++◌, map, drop, codes, encode_utf8_all, Option, Some, None, Result, not, refl, sym, ap, ◌∙◌, arith, Ok, Err}
use Rattle.std.specs.Str.{chars}
use Rattle.std.proofs.lemmas.Bool.{false≢true}
use Rattle.lay_token.specs.Delimiters.{is_closer}
use Rattle.lay_token.specs.Operators.{is_op}
use Rattle.lay_piece.specs.Value.{value_of}
use Rattle.lay_piece.specs.declared.kind.Delim.{Delim}
use Rattle.lay_piece.specs.declared.kind.Delim.TheVariants.{Bracket}
use Rattle.lay_piece.specs.declared.kind.Kind.{Kind}
use Rattle.lay_piece.specs.declared.kind.Kind.TheVariants.{Str, RawStr, Underscore, Closer, Doc}
use Rattle.lay_token.specs.declared.token.Token.{Token}
use Rattle.lay_node.specs.Ahead as ahead
use Rattle.lay_node.specs.Ahead.{Tokens, first, tail, closes}
use Rattle.lay_node.specs.nodes.Attr.{is_doc_path, is_empty, string_of}
use Rattle.lay_node.specs.reader.Attr.{begins_group, value, grouped, meta_input, doc_or, made}
use Rattle.lay_node.specs.reader.Exact.{Exact, needless}
use Rattle.lay_node.specs.reader.Loops.{Got, ◌>>=◌}
use Rattle.lay_node.specs.reader.Tokens.{tokens, group}
use Rattle.lay_node.specs.reader.Words.{given_name, name_by, name}
use Rattle.lay_node.specs.tokens.Lexed.{may_be_laid}
use Rattle.lay_node.specs.tokens.Listing.{listed_by, as_listed, is_balanced, is_doc_text}
use Rattle.lay_node.specs.declared.attr.Attr.{Attr}
use Rattle.lay_node.specs.declared.attr.Attr.TheVariants as attr
use Rattle.lay_node.specs.declared.attr.MetaInput.{MetaInput}
use Rattle.lay_node.specs.declared.attr.MetaInput.TheVariants as input
use Rattle.lay_node.specs.declared.attr.MetaPath.{MetaPath}
use Rattle.lay_node.specs.declared.token.GivenName.{GivenName}
use Rattle.lay_node.specs.declared.token.GivenName.TheVariants as given
use Rattle.lay_node.specs.declared.token.Listed.{Listed}
use Rattle.lay_node.specs.declared.token.Listed.TheVariants as listed
use Rattle.lay_node.specs.declared.token.Name.{Name}
use Rattle.lay_node.specs.declared.tokens.Group.{Group}
use Rattle.lay_read_tokens.specs.Answers.{AreLexed, IsGot, IsRead, Stopped, is_underscore, is_underscore_kind, closed, meta_rest, value_behind, meta_closed, doc_text, front_doc, doc_value}
use Rattle.lay_read_tokens.specs.declared.stop.ReadNone.{ReadNone}
use Rattle.lay_read_tokens.specs.declared.stop.ReadNone.TheVariants.{NoReading, NoMemory}
use Rattle.lay_read_tokens.proofs.Lexed.{lexed_in_text}
use Rattle.lay_read_tokens.proofs.Lists.{some_is, ListRead, list_read, tokens_end}

-- ---- what stops a reader

pub lost : {A B : Type 0} (inner : Option A) (outer : Option B) (none : ReadNone) → Stopped inner none
    → (inner ≡ None → outer ≡ None) → Stopped outer none
lost inner outer NoReading h f = f h
lost inner outer NoMemory h f = tt

pub got_by : {A : Type 0} (a b : Got A) (r : Result A ReadNone) (left : Tokens) → a ≡ b → IsGot b r left
    → IsGot a r left
got_by a b r left e h = rw e h

-- ---- what is read exactly

module _ {A : Type 0} (one : Tokens → Got A) (Front : A → Tokens → ℕ → ℕ → Type 0) (exact : Exact (needless one) Front)
    (ts : Tokens) (l : AreLexed ts) (fork : Tokens) (e : fork ≡ ts) where
  pub node_read : (node : A) (left : Tokens) → one fork ≡ Some (node, left) → IsRead Front ts (Ok node) left
  node_read node left h =
      let here : one ts ≡ Some (node, left) = ap one (sym e) ∙ h in
      let read : needless one 0 ts ≡ Some ((node, 0), left) = rw here refl in
      let s = exact.sound 0 ts node 0 left (lexed_in_text ts l) read in (
        (s.0, sym s.1, s.3),
        λ other rest o.
            let c = exact.complete other ts o.0 0 o.2 0 (omega arith) in
            let same = some_is {A = (A × ℕ) × Tokens} ((other, c.0), drop o.0 ts) ((node, 0), left) (sym c.2 ∙ read) in
            (ap (λ (x : (A × ℕ) × Tokens). x.0.0) same, o.1 ∙ ap (λ (x : (A × ℕ) × Tokens). x.1) same),
      )

  pub none_read : (none : ReadNone) → Stopped (one fork) none → IsRead Front ts (Err none) ts
  none_read NoReading h =
      let here : one ts ≡ None = ap one (sym e) ∙ h in (
        refl,
        λ node n f. let c = exact.complete node ts n 0 f 0 (omega arith) in let nothing : needless one 0 ts ≡ None =
            rw here refl in absurd (cc (c.2)),
      )
  none_read NoMemory h = refl

-- ---- names

name_both : (o : Option Name) (ts : Tokens)
    → ◌≡◌ {A = Got GivenName} (o >>= (λ n. Some (given.Name n, ts)))
    ((o >>= (λ n. let one : Got Name = Some (n, ts) in one)) >>= (λ n. Some (given.Name n.0, n.1)))
name_both None ts = refl
name_both (Some n) ts = refl

other_kind : (k : Kind) (t : Token) (ts : Tokens) → is_underscore_kind k ≡ false
    → given_name (record t { kind = k } ∷ ts) ≡ (name (record t { kind = k } ∷ ts)
    >>= (λ n. Some (given.Name n.0, n.1)))
unfolding given_name name
other_kind Underscore t ts h = absurd (cc)
other_kind k t ts h = name_both (name_by k t.text) ts

underscore_kind : (k : Kind) (t : Token) (ts : Tokens) → is_underscore_kind k ≡ true
    → given_name (record t { kind = k } ∷ ts) ≡ Some (given.Underscore, ts)
unfolding given_name
underscore_kind Underscore t ts h = refl
underscore_kind _ t ts h = absurd (cc)

pub other_underscore : (ts : Tokens) → first is_underscore ts ≡ true
    → given_name ts ≡ Some (given.Underscore, tail ts)
other_underscore [] h = absurd (cc)
other_underscore (t ∷ ts) h = underscore_kind t.kind t ts h

other_is_name : (ts : Tokens) → first is_underscore ts ≡ false
    → given_name ts ≡ (name ts >>= (λ n. Some (given.Name n.0, n.1)))
unfolding given_name name
other_is_name [] h = refl
other_is_name (t ∷ ts) h = other_kind t.kind t ts h

pub other_none : (ts : Tokens) → first is_underscore ts ≡ false → name ts ≡ None → given_name ts ≡ None
other_none ts h n = other_is_name ts h ∙ rw n refl

pub other_some : (ts : Tokens) (one : Name) (rest : Tokens) → first is_underscore ts ≡ false
    → name ts ≡ Some (one, rest) → given_name ts ≡ Some (given.Name one, rest)
other_some ts one rest h n = other_is_name ts h ∙ rw n refl

-- ---- what an attribute is given

module _ (inner : Bool) (path : MetaPath) where
  pub rest_value : (ts : Tokens) → is_op (codes "=") ts ≡ true
      → meta_rest inner path ts ≡ closed inner path (value_behind (drop 1 ts))
  unfolding meta_input value
  rest_value ts h = rw h refl

  pub rest_group : (ts : Tokens) → is_op (codes "=") ts ≡ false → first begins_group ts ≡ true
      → meta_rest inner path ts ≡ closed inner path (grouped ts)
  unfolding meta_input
  rest_group ts h g = rw (h, g) refl

  pub rest_bare : (ts : Tokens) → is_op (codes "=") ts ≡ false → first begins_group ts ≡ false
      → meta_rest inner path ts ≡ meta_closed inner path input.Bare ts
  unfolding meta_input
  rest_bare ts h g = rw (h, g) refl

  pub group_closed : (ts : Tokens) (g : Group) (mid : Tokens) → group ts ≡ Some (g, mid)
      → closed inner path (grouped ts) ≡ meta_closed inner path (input.Group g) mid
  group_closed ts g mid h = rw h refl

  pub group_none : (ts : Tokens) → group ts ≡ None → closed inner path (grouped ts) ≡ None
  group_none ts h = rw h refl

-- ---- documentation

string_of_one : (k : Kind) (text : List ℕ) (joint : Bool) → string_of (listed_by k text joint ∷ []) ≡ value_of k
    (chars text)
string_of_one (Doc inner block) text joint = refl
string_of_one _ text joint = refl

string_of_more : (u v : Listed) (us : List Listed) → string_of (u ∷ v ∷ us) ≡ None
string_of_more (listed.Token kind text joint) v us = refl
string_of_more (listed.Doc inner text) v us = refl

doc_or_none : (inner : Bool) (o : Option (List ℕ)) (other : Attr) → doc_text inner o ≡ None
    → doc_or inner o other ≡ other
doc_or_none inner None other h = refl
doc_or_none inner (Some v) other h = by (is_doc_text inner (encode_utf8_all v)) h
  where
    by : (b : Bool) → (if b then Some (encode_utf8_all v) else None) ≡ None
        → (if b then attr.Doc inner (encode_utf8_all v) else other) ≡ other
    by true g = absurd (cc)
    by false g = refl

doc_or_some : (inner : Bool) (o : Option (List ℕ)) (other : Attr) (text : List ℕ) → doc_text inner o ≡ Some text
    → doc_or inner o other ≡ attr.Doc inner text
doc_or_some inner None other text h = absurd (cc)
doc_or_some inner (Some v) other text h = by (is_doc_text inner (encode_utf8_all v)) h
  where
    by : (b : Bool) → (if b then Some (encode_utf8_all v) else None) ≡ Some text
        → (if b then attr.Doc inner (encode_utf8_all v) else other) ≡ attr.Doc inner text
    by true g = cc
    by false g = absurd (cc)

made_plain : (inner : Bool) (path : MetaPath) (us : List Listed)
    → (is_doc_path path ≡ true → doc_text inner (string_of us) ≡ None)
    → made inner path (input.Value us) ≡ attr.Meta inner path (input.Value us)
made_plain inner path us h = by (is_doc_path path) h
  where
    by : (b : Bool) → (b ≡ true → doc_text inner (string_of us) ≡ None)
        → (if b then doc_or inner (string_of us) (attr.Meta inner path (input.Value us)) else attr.Meta inner path
        (input.Value us)) ≡ attr.Meta inner path (input.Value us)
    by true g = doc_or_none inner (string_of us) (attr.Meta inner path (input.Value us)) (g refl)
    by false g = refl

no_doc : (inner : Bool) (path : MetaPath) (read mid : Tokens) → is_doc_path path ≡ true
    → first (closes Bracket) mid ≡ true
    → doc_value inner path (read ++ mid) ≡ None → doc_text inner (string_of (map as_listed read)) ≡ None
no_doc inner path [] mid p c h = refl
no_doc inner path (t ∷ []) mid p c h =
    ap (doc_text inner) (string_of_one t.kind t.text t.joint) ∙ rw (p, c) at h
no_doc inner path (t ∷ u ∷ more) mid p c h = ap (doc_text inner)
    (string_of_more (as_listed t) (as_listed u) (map as_listed more))

-- What a value is read from.
record ValueRead (ts : Tokens) (given : MetaInput) (mid : Tokens) : Type 0 where
  read : List Token
  whole : ts ≡ read ++ mid
  given_is : given ≡ input.Value (map as_listed read)

-- the value that a list is
abbrev some_value : List Listed × Tokens → Got MetaInput
some_value us = if is_empty us.0 then None else Some (input.Value us.0, us.1)

value_by : (ts : Tokens) (got : Got (List Listed)) (given : MetaInput) (mid : Tokens)
    → ((us : List Listed) (left : Tokens) → got ≡ Some (us, left) → ListRead ts us left)
    → (got >>= some_value) ≡ Some (given, mid) → ValueRead ts given mid
value_by ts None given mid r h = absurd (cc)
value_by ts (Some us) given mid r h = by (is_empty us.0) h
  where
    by : (b : Bool) → (let one : Got MetaInput = if b then None else Some (input.Value us.0, us.1) in one) ≡ Some
        (given, mid) → ValueRead ts given mid
    by true g = absurd (cc)
    by false g =
        let l = r us.0 us.1 refl in
        let same = some_is {A = MetaInput × Tokens} (input.Value us.0, us.1) (given, mid) g in
        record {
          read = l.read;
          whole = l.whole ∙ ap (λ (got : MetaInput × Tokens). l.read ++ got.1) same;
          given_is = sym (ap (λ (got : MetaInput × Tokens). got.0) same) ∙ ap input.Value l.list;
        }

value_read : (ts : Tokens) (given : MetaInput) (mid : Tokens) → value_behind ts ≡ Some (given, mid)
    → ValueRead ts given mid
value_read ts given mid h = value_by ts (tokens ts) given mid (list_read ts) h

-- A value that is read closes as no documentation, where it is none.
pub value_closed : (inner : Bool) (path : MetaPath) (ts : Tokens) (given : MetaInput) (mid : Tokens)
    → doc_value inner path ts ≡ None
    → value_behind ts ≡ Some (given, mid) → closed inner path (value_behind ts) ≡ meta_closed inner path given mid
value_closed inner path ts given mid n h = rw h (by (first (closes Bracket) mid) refl)
  where
    v : ValueRead ts given mid
    v = value_read ts given mid h

    plain : first (closes Bracket) mid ≡ true → made inner path given ≡ attr.Meta inner path given
    plain c = rw v.given_is (made_plain inner path (map as_listed v.read)
        (λ p. no_doc inner path v.read mid p c (ap (doc_value inner path) (sym v.whole) ∙ n)))

    by : (b : Bool) → first (closes Bracket) mid ≡ b
        → ((if b then Some (tail mid) else None) >>= (λ rest. let got : Got Attr =
        Some (made inner path given, rest) in got))
        ≡ ((if b then Some (tail mid) else None) >>= (λ rest. let got : Got Attr =
        Some (attr.Meta inner path given, rest) in got))
    by true c = ap (λ (a : Attr). let got : Got Attr = Some (a, tail mid) in got) (plain c)
    by false c = refl

pub value_none : (inner : Bool) (path : MetaPath) (ts : Tokens) → value_behind ts ≡ None
    → closed inner path (value_behind ts) ≡ None
value_none inner path ts h = rw h refl

doc_parts : (b c : Bool) (o : Option (List ℕ)) (text : List ℕ) → (if b && c then o else None) ≡ Some text
    → (b ≡ true) × (c ≡ true) × (o ≡ Some text)
doc_parts true true o text h = (refl, refl, h)
doc_parts true false o text h = absurd (cc)
doc_parts false c o text h = absurd (cc)

string_token : (k : Kind) (cs text : List ℕ) (joint inner : Bool) (value : List ℕ)
    → doc_text inner (value_of k cs) ≡ Some value
    → (is_balanced (listed_by k text joint ∷ []) ≡ true) × (may_be_laid (listed_by k text joint) ≡ true)
string_token Str cs text joint inner value h = (refl, refl)
string_token RawStr cs text joint inner value h = (refl, refl)
string_token _ cs text joint inner value h = absurd (cc)

closes_tree : (d : Delim) (k : Kind) → ahead.is_closer d k ≡ true → not (is_closer k) ≡ false
closes_tree d (Closer e) h = refl
closes_tree d _ h = absurd (false≢true h)

doc_read : (inner : Bool) (path : MetaPath) (ts : Tokens) (text : List ℕ) → is_doc_path path ≡ true
    → first (closes Bracket) (tail ts) ≡ true → front_doc inner ts ≡ Some text
    → closed inner path (value_behind ts) ≡ Some (attr.Doc inner text, drop 2 ts)
doc_read inner path [] text p c h = absurd (cc)
doc_read inner path (t ∷ []) text p c h = absurd (false≢true c)
doc_read inner path (t ∷ u ∷ ts) text p c h =
    let s = string_token t.kind (chars t.text) t.text t.joint inner text h in
    let all : tokens (t ∷ u ∷ ts) ≡ Some (as_listed t ∷ [], u ∷ ts) =
    tokens_end (t ∷ []) (u ∷ ts) s.0 (closes_tree Bracket u.kind c) (rw s.1 refl) in
    let value : doc_text inner (string_of (as_listed t ∷ [])) ≡ Some text =
    ap (doc_text inner) (string_of_one t.kind t.text t.joint) ∙ h in
    rw (all, c, p) (ap (λ (a : Attr). let got : Got Attr = Some (a, ts) in got)
    (doc_or_some inner (string_of (as_listed t ∷ [])) (attr.Meta inner path (input.Value (as_listed t ∷ []))) text
    value))

-- One that is documentation closes as that.
pub doc_closed : (inner : Bool) (path : MetaPath) (ts : Tokens) (text : List ℕ) → doc_value inner path ts ≡ Some text
    → closed inner path (value_behind ts) ≡ Some (attr.Doc inner text, drop 2 ts)
doc_closed inner path ts text h =
    let parts = doc_parts (is_doc_path path) (first (closes Bracket) (tail ts)) (front_doc inner ts) text h in
    doc_read inner path ts text parts.0 parts.1 parts.2
