-- The parts of types that have no types within them, where they are spelled: lifetimes, binders, constants, attributes of
-- parameters, and what stands before a function type's parameters.
use Rattle.std.proofs.Common.{◌≡◌, ℕ, ◌≤◌, ◌<◌, Bool, true, false, ◌&&◌, ◌||◌, cond, List, [], ◌∷◌, map, length, drop, codes, Option, Some, None, inl, inr, refl, sym, ap, subst, ◌∙◌, arith}
use Rattle.std.specs.List.{list_all}
use Rattle.std.specs.Str.{bytes_eq}
use Rattle.std.proofs.lemmas.Bool.{and_parts, cases_Bool}
use Rattle.lay_piece.specs.declared.kind.Delim.{Delim}
use Rattle.lay_piece.specs.declared.kind.Delim.TheVariants.{Brace}
use Rattle.lay_piece.specs.declared.kind.Kind.{Kind}
use Rattle.lay_piece.specs.declared.kind.Kind.TheVariants as kind
use Rattle.lay_piece.specs.declared.kind.Kind.TheVariants.{Ident, RawIdent, Underscore, Punct, Opener, Closer, Doc}
use Rattle.lay_token.specs.Lexes.{is_punct}
use Rattle.lay_token.specs.Operators.{is_op}
use Rattle.lay_token.specs.declared.token.Token.{Token}
use Rattle.lay_token.proofs.Deciding.{bytes_self}
use Rattle.lay_form.specs.Form.{Blank, Operator, Form, Done, Piece, Part, punct, keyword}
use Rattle.lay_form.specs.Notation.{H, when, each, comma_list}
use Rattle.lay_form.specs.Spelled.{IsOne, IsOperator, AreBits, Spells}
use Rattle.lay_form.proofs.FormLaws.{shorter}
use Rattle.lay_node.specs.Ahead.{Tokens, first, tail, is_keyword, is_lifetime, is_lifetime_kind, is_mark, is_opener, is_closer, opens, closes}
use Rattle.lay_node.specs.Words.{is_literal, is_number}
use Rattle.lay_node.specs.nodes.Attr.{are_attrs, is_attr, behind_attr, is_inner, is_line, about_attr}
use Rattle.lay_node.specs.nodes.Types as types
use Rattle.lay_node.specs.nodes.Types.{less, greater, param_attrs, lifetime_form, lifetimes_form, outlived_form, lifetime_param_form, is_lifetime_param, binder_form, is_binder, const_form, is_const, abi_form, is_abi, is_param_name}
use Rattle.lay_node.specs.reader.Attr.{is_doc_kind, begins_attr, attributes}
use Rattle.lay_node.specs.reader.Loops.{Got, ◌>>=◌, passed, elements}
use Rattle.lay_node.specs.reader.Tokens.{tokens, group}
use Rattle.lay_node.specs.reader.Types.{flag, if_there, lifetime, literal, lifetimes, outlived, lifetime_behind, lifetime_param, binder, binder_if, begins_const, braces, const, is_string_token, abi, begins_given, param_name}
use Rattle.lay_node.specs.Begins.{is_literal_token}
use Rattle.lay_node.specs.reader.Words.{given_name}
use Rattle.lay_node.specs.declared.attr.Attr.{Attr}
use Rattle.lay_node.specs.declared.token.GivenName.{GivenName}
use Rattle.lay_node.specs.declared.token.GivenName.TheVariants as given
use Rattle.lay_node.specs.declared.token.Lifetime.{Lifetime}
use Rattle.lay_node.specs.declared.token.Listed.{Listed}
use Rattle.lay_node.specs.declared.token.Literal.{Literal}
use Rattle.lay_node.specs.declared.tokens.Group.{Group}
use Rattle.lay_node.specs.declared.types.Abi.{Abi}
use Rattle.lay_node.specs.declared.types.Binder.{Binder}
use Rattle.lay_node.specs.declared.types.ConstArg.{ConstArg}
use Rattle.lay_node.specs.declared.types.ConstArg.TheVariants as const_arg
use Rattle.lay_node.specs.declared.types.LifetimeParam.{LifetimeParam}
use Rattle.lay_node.proofs.Fronts.{mark_one, one_front, one_test, one_shorter, op_shorter, no_op, mark_passed}
use Rattle.lay_node.proofs.Parts.{Rows, GoodAt, bit_alone, behind_blank, before_blank, leaf_parts}
use Rattle.lay_node.proofs.Steps.{got_same, bind_some}
use Rattle.lay_node.proofs.reader.AttrRead.{attr_begins, attr_shorter, attributes_complete}
use Rattle.lay_node.proofs.reader.Loops.{Turn}
use Rattle.lay_node.proofs.reader.Tokens.{group_complete}
use Rattle.lay_node.proofs.reader.TypesFronts.{no_other_op, Ends}
use Rattle.lay_node.proofs.reader.TypesLists.{chain_complete, greater_closes, each_same, each_list_read}
use Rattle.lay_node.proofs.reader.Use.{given_name_complete, underscore_complete}

-- ---- tests

pub none_left : (a b : Bool) → (a || b) ≡ false → a ≡ false
none_left true b h = absurd (cc)
none_left false b h = refl

pub none_right : (a b : Bool) → (a || b) ≡ false → b ≡ false
none_right true b h = absurd (cc)
none_right false b h = h

pub ends_no_lifetime : (ts : Tokens) → Ends ts → first is_lifetime ts ≡ false
ends_no_lifetime ts e = none_left (first is_lifetime ts) _ e.bound

-- a leaf with nothing after it
pub one_alone : (k : Kind) (text : List ℕ) (ts mid rest : Tokens) → IsOne k text ts mid → mid ≡ rest → IsOne k text ts rest
one_alone k text ts mid rest o e = subst (λ us. IsOne k text ts us) e o

pub one_left : (k : Kind) (text : List ℕ) (ts rest : Tokens) → IsOne k text ts rest → tail ts ≡ rest
one_left k text ts rest o = rw (one_front k text ts rest o).1 refl

-- a blank, which no token spells
pub blank_left : (ts rest : Tokens) → AreBits (Blank ∷ []) ts rest → ts ≡ rest
blank_left ts rest s = s.1 ∙ s.2

-- ---- lifetimes

pub lifetime_complete : (l : Lifetime) (ts rest : Tokens) → IsOne kind.Lifetime l.text ts rest → (lifetime ts ≡ Some (l, rest)) × (first is_lifetime ts ≡ true)
unfolding lifetime
lifetime_complete l ts rest o = let f = one_front kind.Lifetime l.text ts rest o in (rw f.1 refl, rw f.1 refl)

pub lifetime_alone : (l : Lifetime) (depth : ℕ) (ts rest : Tokens) → Spells (lifetime_form l) depth ts rest → IsOne kind.Lifetime l.text ts rest
lifetime_alone l depth ts rest s = one_alone kind.Lifetime l.text ts s.0 rest s.1 s.2

abbrev plus : Form → Form
plus f = Piece (Blank ∷ Operator (codes "+") ∷ Blank ∷ []) f

pub plus_operator : (ts rest : Tokens) → AreBits (Blank ∷ Operator (codes "+") ∷ Blank ∷ []) ts rest → IsOperator (codes "+") ts rest
plus_operator ts rest s = before_blank (Operator (codes "+")) ts rest (behind_blank (Operator (codes "+") ∷ Blank ∷ []) ts rest s)

more_lifetimes : (ls : List Lifetime) (depth : ℕ) (ts rest : Tokens) → Spells (each plus (map lifetime_form ls)) depth ts rest
    → Rows (Turn (is_op (codes "+")) (λ us. lifetime (drop 1 us))) ls ts rest
more_lifetimes [] depth ts rest s = s
more_lifetimes (l ∷ ls) depth ts rest s =
    let o = plus_operator ts s.0 s.1 in
    let part = s.2 in
    let one = lifetime_alone l depth s.0 part.0 part.1 in
    let read : lifetime (drop 1 ts) ≡ Some (l, part.0) = ap lifetime o.1 ∙ (lifetime_complete l s.0 part.0 one).0 in
    let shorter_by : length part.0 < length ts = omega (arith, op_shorter 43 [] ts s.0 o, one_shorter kind.Lifetime l.text s.0 part.0 one) in
    (part.0, (o.0, read, shorter_by), more_lifetimes ls depth part.0 rest part.2)

pub lifetimes_complete : (l : Lifetime) (ls : List Lifetime) (depth : ℕ) (ts rest : Tokens) → Spells (lifetimes_form (l ∷ ls)) depth ts rest
    → is_op (codes "+") rest ≡ false → lifetimes ts ≡ Some (l ∷ ls, rest)
lifetimes_complete l ls depth ts rest s stops =
    let one = lifetime_complete l ts s.0 (lifetime_alone l depth ts s.0 s.1) in
    rw (one.1, chain_complete (codes "+") lifetime l ls ts s.0 rest one.0 (more_lifetimes ls depth s.0 rest s.2) stops) refl

pub colon_operator : (ts rest : Tokens) → AreBits types.colon ts rest → IsOperator (codes ":") ts rest
colon_operator ts rest s = before_blank (Operator (codes ":")) ts rest s

outlived_complete : (ls : List Lifetime) (depth : ℕ) (ts rest : Tokens) → Spells (outlived_form ls) depth ts rest → Ends rest → outlived ts ≡ Some (ls, rest)
outlived_complete [] depth ts rest s e = elim s.1 [
  | inl same ↦ let all : ts ≡ rest = same ∙ s.2 in rw all (rw e.colon refl)
  | inr b ↦
      let o : IsOperator (codes ":") ts s.0 = bit_alone (Operator (codes ":")) ts s.0 b in
      let all : drop 1 ts ≡ rest = o.1 ∙ s.2 in
      rw (o.0, all, ends_no_lifetime rest e) refl
]
outlived_complete (l ∷ ls) depth ts rest s e =
    let o = colon_operator ts s.0 s.1 in rw (o.0, o.1) (lifetimes_complete l ls depth s.0 rest s.2 e.quiet.plus)

-- ---- attributes of parameters

pub behind_attr_spelled : (a : Attr) (f : Form) (depth : ℕ) (ts rest : Tokens) → Spells (behind_attr false a f) depth ts rest → Spells f depth ts rest
behind_attr_spelled a f depth ts rest s = by (is_inner a) (is_line a) s
  where
    by : (inner line : Bool) → Spells (cond inner f (cond (false || line) (H f) (Piece (Blank ∷ []) f))) depth ts rest → Spells f depth ts rest
    by true line t = t
    by false true t = t
    by false false t = subst (λ us. Spells f depth us rest) (sym (blank_left ts t.0 t.1)) t.2

pub param_attrs_rows : (attrs : List Attr) (f : Form) (depth : ℕ) (ts rest : Tokens) → Spells (param_attrs attrs f) depth ts rest → are_attrs false attrs ≡ true
    → (mid : Tokens) × Rows (GoodAt (about_attr false) depth) attrs ts mid × Spells f depth mid rest
param_attrs_rows [] f depth ts rest s g = (ts, refl, s)
param_attrs_rows (a ∷ more) f depth ts rest s g =
    let goods = and_parts (is_attr false a) (are_attrs false more) g in
    let r = param_attrs_rows more f depth s.0 rest (behind_attr_spelled a (param_attrs more f) depth s.0 rest s.2) goods.1 in
    (r.0, (s.0, (s.1, goods.0), r.1), r.2)

-- An attribute closes no list, and isn't the `...` of a function type or the `..` after the fields of a pattern.
record NoEnd (ts : Tokens) : Type 0 where
  pub greater : first (is_mark (codes ">")) ts ≡ false
  pub closer : (d : Delim) → first (closes d) ts ≡ false
  pub dots : is_op (codes "...") ts ≡ false
  pub rest : is_op (codes "..") ts ≡ false

hash_no_end : (ts : Tokens) → first (is_mark (codes "#")) ts ≡ true → NoEnd ts
hash_no_end ts h =
    let s = mark_one (codes "#") ts h in
    record {
      greater = rw (one_front Punct (codes "#") ts (tail ts) s).1 refl;
      closer = λ d. rw (one_front Punct (codes "#") ts (tail ts) s).1 refl;
      dots = no_other_op 46 (codes "..") 35 ts (tail ts) refl s;
      rest = no_other_op 46 (codes ".") 35 ts (tail ts) refl s;
    }

attr_no_end : (ts : Tokens) → begins_attr false ts ≡ true → NoEnd ts
attr_no_end [] h = absurd (cc)
attr_no_end (t ∷ ts) h = elim (cases_Bool (is_doc_kind false t.kind)) [
  | inl d ↦
      let k = doc t.kind d in
      let p : is_punct t.kind ≡ false = k.0 in
      record { greater = rw p refl; closer = k.1; dots = no_op (codes "...") t ts p; rest = no_op (codes "..") t ts p }
  | inr d ↦
      let m : first (is_mark (codes "#")) (t ∷ ts) ≡ true = sym (ap (λ b. b || is_mark (codes "#") t) d) ∙ h in
      hash_no_end (t ∷ ts) m
]
  where
    doc : (k : Kind) → is_doc_kind false k ≡ true → (is_punct k ≡ false) × ((d : Delim) → is_closer d k ≡ false)
    doc (Doc inner block) e = (refl, λ d. refl)
    doc _ e = absurd (cc)

-- So what closes a list stands at the beginning of a parameter only where it stands after its attributes.
pub record AttrsFront (ts mid : Tokens) : Type 0 where
  pub greater : first (is_mark (codes ">")) mid ≡ false → first (is_mark (codes ">")) ts ≡ false
  pub closer : (d : Delim) → first (closes d) mid ≡ false → first (closes d) ts ≡ false
  pub dots : is_op (codes "...") mid ≡ false → is_op (codes "...") ts ≡ false
  pub rest : is_op (codes "..") mid ≡ false → is_op (codes "..") ts ≡ false
  pub shorter : length mid ≤ length ts

pub attrs_front : (attrs : List Attr) (depth : ℕ) (ts mid : Tokens) → Rows (GoodAt (about_attr false) depth) attrs ts mid → AttrsFront ts mid
attrs_front [] depth ts mid r =
    rw r (record { greater = λ h. h; closer = λ d h. h; dots = λ h. h; rest = λ h. h; shorter = omega arith })
attrs_front (a ∷ more) depth ts mid r =
    let n = attr_no_end ts (attr_begins false a depth ts r.0 r.1) in
    let f = attrs_front more depth r.0 mid r.2 in
    record {
      greater = λ h. n.greater;
      closer = λ d h. n.closer d;
      dots = λ h. n.dots;
      rest = λ h. n.rest;
      shorter = omega (arith, attr_shorter false a depth ts r.0 r.1, f.shorter);
    }

-- ---- binders

lifetime_no_attr : (l : Lifetime) (ts rest : Tokens) → IsOne kind.Lifetime l.text ts rest → begins_attr false ts ≡ false
lifetime_no_attr l ts rest o = rw (one_front kind.Lifetime l.text ts rest o).1 refl

lifetime_no_greater : (l : Lifetime) (ts rest : Tokens) → IsOne kind.Lifetime l.text ts rest → first (is_mark (codes ">")) ts ≡ false
lifetime_no_greater l ts rest o = rw (one_front kind.Lifetime l.text ts rest o).1 refl

-- a parameter that is a lifetime: its attributes, and what follows them
pub record LifetimeRead (p : LifetimeParam) (ts rest : Tokens) : Type 0 where
  pub behind : Tokens
  pub attrs : attributes false ts ≡ Some (p.attrs, behind)
  pub there : first is_lifetime behind ≡ true
  pub read : lifetime_behind p.attrs behind ≡ Some (p, rest)

pub lifetime_param_complete : (p : LifetimeParam) (depth : ℕ) (ts rest : Tokens) → Spells (lifetime_param_form p) depth ts rest → is_lifetime_param p ≡ true
    → Ends rest → LifetimeRead p ts rest
unfolding lifetime_behind
lifetime_param_complete p depth ts rest s g e =
    let r = param_attrs_rows p.attrs (Part (lifetime_form p.lifetime) (outlived_form p.bounds)) depth ts rest s g in
    let spelled = r.2 in
    let one = lifetime_alone p.lifetime depth r.0 spelled.0 spelled.1 in
    let l = lifetime_complete p.lifetime r.0 spelled.0 one in
    let o = outlived_complete p.bounds depth spelled.0 rest spelled.2 e in
    record {
      behind = r.0;
      attrs = attributes_complete false p.attrs depth ts r.0 r.1 (lifetime_no_attr p.lifetime r.0 spelled.0 one);
      there = l.1;
      read = rw (l.0, o) refl;
    }

pub lifetime_param_starts : (p : LifetimeParam) (depth : ℕ) (ts rest : Tokens) → Spells (lifetime_param_form p) depth ts rest → is_lifetime_param p ≡ true
    → (first (is_mark (codes ">")) ts ≡ false) × (length rest < length ts)
lifetime_param_starts p depth ts rest s g =
    let r = param_attrs_rows p.attrs (Part (lifetime_form p.lifetime) (outlived_form p.bounds)) depth ts rest s g in
    let spelled = r.2 in
    let one = lifetime_alone p.lifetime depth r.0 spelled.0 spelled.1 in
    let f = attrs_front p.attrs depth ts r.0 r.1 in (
      f.greater (lifetime_no_greater p.lifetime r.0 spelled.0 one),
      omega (arith, f.shorter, one_shorter kind.Lifetime p.lifetime.text r.0 spelled.0 one, shorter (outlived_form p.bounds) depth spelled.0 rest spelled.2),
    )

lifetime_params : (ps : List LifetimeParam) (depth : ℕ) (ts rest : Tokens)
    → Spells (comma_list true less greater (map lifetime_param_form ps)) depth ts rest → list_all is_lifetime_param ps ≡ true
    → (inside : Tokens) × IsOne Punct (codes "<") ts inside × (elements (is_mark (codes ">")) lifetime_param inside ≡ Some (ps, rest))
lifetime_params ps depth ts rest s g =
    let l =
    each_list_read (λ (x y : LifetimeParam). y ≡ x) greater (is_mark (codes ">")) greater_closes lifetime_param lifetime_param_form is_lifetime_param depth
    (λ p us end t h e. let r = lifetime_param_complete p depth us end t h e in (p, refl, rw (r.attrs, r.read) refl))
    (λ p us end t h. lifetime_param_starts p depth us end t h) less ps ts rest g s in
    let e = l.2 in
    (l.0, l.1, e.2 ∙ ap (λ (xs : List LifetimeParam). let found : Got (List LifetimeParam) = Some (xs, rest) in found) (each_same ps e.0 e.1))

pub keyword_there : (word : List ℕ) (ts rest : Tokens) → IsOne Ident word ts rest → first (is_keyword word) ts ≡ true
keyword_there word ts rest o = rw ((one_front Ident word ts rest o).1, bytes_self word) refl

pub some_binder : (b : Binder) (f : Form) (depth : ℕ) (ts rest : Tokens) → Spells (binder_form (Some b) f) depth ts rest → is_binder (Some b) ≡ true
    → (mid : Tokens) × (binder_if ts ≡ Some (Some b, mid)) × Spells f depth mid rest
unfolding binder
some_binder b f depth ts rest s g =
    let o : IsOne Ident (codes "for") ts s.0 = bit_alone (keyword (codes "for")) ts s.0 s.1 in
    let part = s.2 in
    let l = lifetime_params b.params depth s.0 part.0 part.1 g in
    let less_there = mark_passed (codes "<") s.0 l.0 l.1 in
    let end = part.2 in
    let there = keyword_there (codes "for") ts s.0 o in
    let left = one_left Ident (codes "for") ts s.0 o in
    (part.0, rw (there, there, left, less_there, l.2) refl, subst (λ us. Spells f depth us rest) (sym (blank_left part.0 end.0 end.1)) end.2)

pub binder_complete : (b : Option Binder) (f : Form) (depth : ℕ) (ts rest : Tokens) → Spells (binder_form b f) depth ts rest → is_binder b ≡ true
    → ((us : Tokens) → Spells f depth us rest → first (is_keyword (codes "for")) us ≡ false)
    → (mid : Tokens) × (binder_if ts ≡ Some (b, mid)) × Spells f depth mid rest
binder_complete None f depth ts rest s g none = (ts, rw (none ts s) refl, s)
binder_complete (Some b) f depth ts rest s g none = some_binder b f depth ts rest s g

-- ---- a word that may be there

pub flag_complete : (word : List ℕ) (b : Bool) (f : Form) (depth : ℕ) (ts rest : Tokens) → Spells (when b (keyword word ∷ Blank ∷ []) f) depth ts rest
    → ((us : Tokens) → Spells f depth us rest → first (is_keyword word) us ≡ false)
    → (mid : Tokens) × (flag (is_keyword word) ts ≡ (b, mid)) × Spells f depth mid rest
flag_complete word true f depth ts rest s none =
    let o : IsOne Ident word ts s.0 = before_blank (keyword word) ts s.0 s.1 in
    (s.0, rw (keyword_there word ts s.0 o, one_left Ident word ts s.0 o) refl, s.2)
flag_complete word false f depth ts rest s none = (ts, rw (none ts s) refl, s)

-- ---- literals and constants

pub literal_complete : (p : Token → Bool) (l : Literal) (ts rest : Tokens) → ((t : Token) → p (record t { kind = l.kind; text = l.text }) ≡ true)
    → IsOne l.kind l.text ts rest → (literal p ts ≡ Some (l, rest)) × (first p ts ≡ true)
unfolding literal
literal_complete p l ts rest passes o =
    let f = one_front l.kind l.text ts rest o in (rw (f.1, passes f.0) refl, rw (f.1, passes f.0) refl)

-- a group in braces, read for its tokens
braces_of_group : (us : List Listed) (ts rest : Tokens) → group ts ≡ Some (record { delim = Brace; tokens = us }, rest)
    → (braces ts ≡ Some (const_arg.Braces us, rest)) × (first (opens Brace) ts ≡ true)
unfolding group
braces_of_group us [] rest h = absurd (cc)
braces_of_group us (t ∷ ts) rest h = by t.kind h
  where
    made : Delim → List Listed × Tokens → Got Group
    made d xs = passed (closes d) xs.1 >>= (λ left. Some (record { delim = d; tokens = xs.0 }, left))

    is_brace : (d : Delim) (xs : List Listed) (left : Tokens)
        → ◌≡◌ {A = Got Group} (Some (record { delim = d; tokens = xs }, left)) (Some (record { delim = Brace; tokens = us }, rest))
        → (d ≡ Brace) × (xs ≡ us) × (left ≡ rest)
    is_brace d xs left e =
        let g = got_same (record { delim = d; tokens = xs }) (record { delim = Brace; tokens = us }) left rest e in
        (ap (λ (x : Group). x.delim) g.0, ap (λ (x : Group). x.tokens) g.0, g.1)

    same : (xs : List Listed) (left : Tokens) → xs ≡ us → left ≡ rest
        → ◌≡◌ {A = Got ConstArg} (Some (const_arg.Braces xs, left)) (Some (const_arg.Braces us, rest))
    same xs left e f = rw (e, f) refl

    by : (k : Kind) → group (record t { kind = k } ∷ ts) ≡ Some (record { delim = Brace; tokens = us }, rest)
        → (braces (record t { kind = k } ∷ ts) ≡ Some (const_arg.Braces us, rest)) × (is_opener Brace k ≡ true)
    by (Opener d) e =
        let b = bind_some (tokens ts) (made d) (record { delim = Brace; tokens = us }, rest) e in
        let built : Tokens → Got Group = λ left. Some (record { delim = d; tokens = b.0.0 }, left) in
        let c = bind_some (passed (closes d) b.0.1) built (record { delim = Brace; tokens = us }, rest) b.2 in
        let i = is_brace d b.0.0 c.0 c.2 in
        let closed = subst (λ z. passed (closes z) b.0.1 ≡ Some c.0) i.0 c.1 in
        (rw i.0 (rw (b.1, closed) (same b.0.0 c.0 i.1 i.2)), rw i.0 refl)
    by k e = absurd (cc)

-- how a constant begins, and that it is read
pub record ConstRead (value : ConstArg) (ts rest : Tokens) : Type 0 where
  pub begins : begins_const ts ≡ true
  pub read : const ts ≡ Some (value, rest)
  pub lifetime : first is_lifetime ts ≡ false
  pub greater : first (is_mark (codes ">")) ts ≡ false
  pub equals : first (is_mark (codes "=")) ts ≡ false
  pub smaller : first (is_mark (codes "<")) ts ≡ false
  pub less : length rest < length ts

pub literal_kinds : (k : Kind) (text : List ℕ) → is_literal k text ≡ true → (is_punct k ≡ false) × (is_lifetime_kind k ≡ false)
literal_kinds Punct text h = absurd (cc)
literal_kinds kind.Lifetime text h = absurd (cc)
literal_kinds _ text h = (refl, refl)

number_kinds : (k : Kind) → is_number k ≡ true → is_literal k [] ≡ true
number_kinds kind.Int h = refl
number_kinds kind.Float h = refl
number_kinds _ h = absurd (cc)

pub const_complete : (value : ConstArg) (depth : ℕ) (ts rest : Tokens) → Spells (const_form value) depth ts rest → is_const value ≡ true
    → ConstRead value ts rest
unfolding const
const_complete (const_arg.Literal l) depth ts rest s g =
    let o = one_alone l.kind l.text ts s.0 rest s.1 s.2 in
    let r = literal_complete is_literal_token l ts rest (λ t. g) o in
    let k = literal_kinds l.kind l.text g in
    let f = one_front l.kind l.text ts rest o in
    record {
      begins = rw r.1 refl;
      read = rw (r.1, r.0) refl;
      lifetime = one_test is_lifetime_kind l.kind l.text ts rest o ∙ k.1;
      greater = rw (f.1, k.0) refl;
      equals = rw (f.1, k.0) refl;
      smaller = rw (f.1, k.0) refl;
      less = one_shorter l.kind l.text ts rest o;
    }
const_complete (const_arg.Negative l) depth ts rest s g =
    let o : IsOne Punct (codes "-") ts s.0 = bit_alone (punct 45) ts s.0 s.1 in
    let number = s.2 in
    let n = one_alone l.kind l.text s.0 number.0 rest number.1 number.2 in
    let r = literal_complete (λ t. is_number t.kind) l s.0 rest (λ t. g) n in
    let f = one_front Punct (codes "-") ts s.0 o in
    let no_literal : first is_literal_token ts ≡ false = rw f.1 refl in
    let minus : first (is_mark (codes "-")) ts ≡ true = rw f.1 refl in
    let left = one_left Punct (codes "-") ts s.0 o in
    record {
      begins = rw (no_literal, minus) refl;
      read = rw (no_literal, minus, left, r.0) refl;
      lifetime = rw f.1 refl;
      greater = rw f.1 refl;
      equals = rw f.1 refl;
      smaller = rw f.1 refl;
      less = omega (arith, one_shorter Punct (codes "-") ts s.0 o, one_shorter l.kind l.text s.0 rest n);
    }
const_complete (const_arg.Braces us) depth ts rest s g =
    let c = group_complete (record { delim = Brace; tokens = us }) Done depth ts rest s g in
    let read : group ts ≡ Some (record { delim = Brace; tokens = us }, rest) =
    c.read ∙ ap (λ (z : Tokens). let found : Got Group = Some (record { delim = Brace; tokens = us }, z) in found) c.after in
    let b = braces_of_group us ts rest read in
    let n = brace_front ts b.1 in
    record {
      begins = rw (n.0, n.1 (codes "-"), b.1) refl;
      read = rw (n.0, n.1 (codes "-")) b.0;
      lifetime = n.2;
      greater = n.1 (codes ">");
      equals = n.1 (codes "=");
      smaller = n.1 (codes "<");
      less = subst (λ us. length us < length ts) c.after c.less;
    }
  where
    brace_front : (ts : Tokens) → first (opens Brace) ts ≡ true
        → (first is_literal_token ts ≡ false) × ((c : List ℕ) → first (is_mark c) ts ≡ false) × (first is_lifetime ts ≡ false)
    brace_front [] h = absurd (cc)
    brace_front (t ∷ ts) h = by t.kind h
      where
        by : (k : Kind) → is_opener Brace k ≡ true
            → (is_literal k t.text ≡ false) × ((c : List ℕ) → (is_punct k && bytes_eq t.text c) ≡ false) × (is_lifetime_kind k ≡ false)
        by (Opener d) e = (refl, λ c. refl, refl)
        by _ e = absurd (cc)

-- ---- before the parameters of a function type

pub abi_complete : (a : Option Abi) (f : Form) (depth : ℕ) (ts rest : Tokens) → Spells (abi_form a f) depth ts rest → is_abi a ≡ true
    → ((us : Tokens) → Spells f depth us rest → (first (is_keyword (codes "extern")) us ≡ false) × (first is_string_token us ≡ false))
    → (mid : Tokens) × (if_there (first (is_keyword (codes "extern")) ts) abi ts ≡ Some (a, mid)) × Spells f depth mid rest
unfolding abi
abi_complete None f depth ts rest s g none = (ts, rw (none ts s).0 refl, s)
abi_complete (Some a) f depth ts rest s g none = by a.name s.2 g
  where
    word : IsOne Ident (codes "extern") ts s.0
    word = before_blank (keyword (codes "extern")) ts s.0 s.1

    by : (n : Option Literal) → Spells (types.abi_name n f) depth s.0 rest → types.is_abi_name n ≡ true
        → (mid : Tokens) × (if_there (first (is_keyword (codes "extern")) ts) abi ts ≡ Some (Some (record { name = n }), mid)) × Spells f depth mid rest
    by None t h =
        let there = keyword_there (codes "extern") ts s.0 word in
        let left = one_left Ident (codes "extern") ts s.0 word in
        (s.0, rw (there, there, left, (none s.0 t).1) refl, t)
    by (Some l) t h =
        let there = keyword_there (codes "extern") ts s.0 word in
        let left = one_left Ident (codes "extern") ts s.0 word in
        let r = literal_complete is_string_token l s.0 t.0 (λ u. h) t.1 in
        let end = t.2 in
        (t.0, rw (there, there, left, r.1, r.0) refl, subst (λ us. Spells f depth us rest) (sym (blank_left t.0 end.0 end.1)) end.2)

-- ---- what a parameter of a function type is called

given_there : (ts mid : Tokens) (g : GivenName) → given_name ts ≡ Some (g, mid) → is_op (codes ":") mid ≡ true → begins_given ts ≡ true
given_there ts mid g r h = ap (λ (o : Got GivenName). elim o [ None ↦ false | Some x ↦ is_op (codes ":") x.1 ]) r ∙ h

pub param_name_complete : (n : Option GivenName) (f : Form) (depth : ℕ) (ts rest : Tokens) → Spells (types.param_name n f) depth ts rest
    → is_param_name n ≡ true
    → ((us : Tokens) → Spells f depth us rest → begins_given us ≡ false)
    → (mid : Tokens) × (if_there (begins_given ts) param_name ts ≡ Some (n, mid)) × Spells f depth mid rest
param_name_complete None f depth ts rest s g none = (ts, rw (none ts s) refl, s)
param_name_complete (Some (given.Name name)) f depth ts rest s g none =
    let l = leaf_parts name.raw name.text (Piece types.colon f) depth ts rest s in
    let t = l.2 in
    let o = colon_operator l.0 t.0 t.1 in
    let r = given_name_complete name ts l.0 (l.1, g) in
    let there = given_there ts l.0 (given.Name name) r o.0 in
    (t.0, rw (there, r, o.1) refl, t.2)
param_name_complete (Some given.Underscore) f depth ts rest s g none =
    let t = s.2 in
    let o = colon_operator s.0 t.0 t.1 in
    let r = underscore_complete ts s.0 s.1 in
    let there = given_there ts s.0 given.Underscore r o.0 in
    (t.0, rw (there, r, o.1) refl, t.2)
