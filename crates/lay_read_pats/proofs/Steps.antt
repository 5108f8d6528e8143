-- One step of a reader, from what the readers within it give.
use Rattle.std.proofs.Common.{◌≡◌, ℕ, suc, ◌-◌, ◌<◌, max, not, Bool, true, false, refl, if◌then◌else◌, codes, List, [], ◌∷◌, Option, Some, None, Result, Ok, Err, MatchResult, is_some, sym, ap, ◌∙◌, arith}
use Rattle.lay_piece.specs.declared.kind.Delim.TheVariants.{Paren}
use Rattle.lay_piece.specs.declared.kind.Kind.{Kind}
use Rattle.lay_piece.specs.declared.kind.Kind.TheVariants as kind
use Rattle.lay_token.specs.declared.token.Token.{Token}
use Rattle.lay_node.specs.Ahead.{Tokens, first, tail, is_mark, closes}
use Rattle.lay_node.specs.Begins.{is_literal_token}
use Rattle.lay_node.specs.nodes.Patterns.{PatFacts, about_pat}
use Rattle.lay_node.specs.reader.Loops.{Read, ◌>>=◌, nodes, deepest, elements}
use Rattle.lay_node.specs.reader.Patterns as r
use Rattle.lay_node.specs.reader.Patterns.{PatWithin}
use Rattle.lay_node.specs.reader.Types.{flag}
use Rattle.lay_node.specs.declared.patterns.FieldPat.{FieldPat}
use Rattle.lay_node.specs.declared.patterns.FieldPat.TheOpen.{Pat-F}
use Rattle.lay_node.specs.declared.patterns.FieldPat.TheViews as views
use Rattle.lay_node.specs.declared.patterns.Pat.{Pat}
use Rattle.lay_node.specs.declared.patterns.Pat.TheVariants as pat
use Rattle.lay_node.specs.declared.patterns.PatPlace.TheVariants.{Alternatives}
use Rattle.lay_node.specs.declared.token.Name.{Name}
use Rattle.lay_node.proofs.nodes.PatternsLaws.{PatView, IsOr, IsValue, IsWild, IsRest, IsCall, IsPath, IsBind, IsSpan, IsRef, IsStruct, IsTupleStruct, IsTuple, IsParen, IsSlice, pat_view, pat_or_is, pat_value_is, pat_wild_is, pat_rest_is, pat_call_is, pat_path_is, pat_bind_is, pat_span_is, pat_ref_is, pat_struct_is, pat_tuple_struct_is, pat_tuple_is, pat_paren_is, pat_slice_is}
use Rattle.lay_read_tokens.specs.Answers.{AreFound, IsFound, IsHeld, is_underscore, is_underscore_kind}
use Rattle.lay_read_tokens.specs.declared.found.Found.{Found}
use Rattle.lay_read_tokens.specs.declared.stop.ReadNone.{ReadNone}
use Rattle.lay_read_parts.specs.Answers.{literal_if}
use Rattle.lay_read_parts.proofs.Steps.{literal_is}
use Rattle.lay_read_types.proofs.Steps.{above_zero}
use Rattle.lay_read_pats.specs.Answers.{pats_within, tuple_behind}

-- ---- values

pub negative_value : (ts : Tokens) → first (is_mark (codes "-")) ts ≡ true
    → r.value ts ≡ (literal_if (first r.is_number_token (tail ts)) (tail ts) >>= (λ l. Some (record { negative = true; literal = l.0 }, l.1)))
unfolding r.value
negative_value ts h = rw (h, literal_is r.is_number_token (tail ts)) refl

pub plain_value : (ts : Tokens) → first (is_mark (codes "-")) ts ≡ false
    → r.value ts ≡ (literal_if (first is_literal_token ts) ts >>= (λ l. Some (record { negative = false; literal = l.0 }, l.1)))
unfolding r.value
plain_value ts h = rw (h, literal_is is_literal_token ts) refl

-- ---- words

pub flag_found : (p : Token → Bool) (ts : Tokens) → (flag p ts).0 ≡ first p ts
flag_found p ts = by (first p ts)
  where
    by : (b : Bool) → (let pair : Bool × Tokens = if b then (true, tail ts) else (false, ts) in pair.0) ≡ b
    by true = refl
    by false = refl

pub flag_rest : (p : Token → Bool) (ts : Tokens) → (flag p ts).1 ≡ (if first p ts then tail ts else ts)
flag_rest p ts = by (first p ts)
  where
    by : (b : Bool) → (let pair : Bool × Tokens = if b then (true, tail ts) else (false, ts) in pair.1) ≡ (if b then tail ts else ts)
    by true = refl
    by false = refl

kind_is : (k : Kind) → r.is_underscore_kind k ≡ is_underscore_kind k
kind_is kind.Underscore = refl
kind_is _ = refl

pub underscore_is : (ts : Tokens) → first r.is_underscore ts ≡ first is_underscore ts
underscore_is [] = refl
underscore_is (t ∷ ts) = kind_is t.kind

-- ---- lists

-- a tuple of a list that is read, by its nodes and their greatest need
pub tuple_is : (x : Pat × ℕ) (read : List (Pat × ℕ)) (ts : Tokens)
    → r.tuple_of x read ts ≡ tuple_behind x (nodes read) (deepest read) ts
tuple_is x [] ts =
    let e : x.1 ≡ max x.1 0 = omega arith in
    ap (λ (n : ℕ). let got : Read Pat = if (about_pat x.0).rest then None else Some ((pat.Tuple (x.0 ∷ []), suc n), ts) in got) e
tuple_is x (y ∷ more) ts = refl

-- ---- the facts about a pattern

-- whether it is a name that is bound with nothing after it, a span, and `..` alone
abbrev shape_of : PatFacts → Bool × Bool × Bool
shape_of x = (x.short, x.span, x.rest)

abbrev pub shape_in : Pat-F FieldPat Pat → Bool × Bool × Bool
shape_in (Pat-F.Bind by_ref mutable name of) = (not (is_some of), false, false)
shape_in (Pat-F.Span start inclusive end) = (false, true, false)
shape_in Pat-F.Rest = (false, false, true)
shape_in _ = (false, false, false)

shape_by : (x : Pat) → PatView x → shape_of (about_pat x) ≡ shape_in (views.out-Pat x)
shape_by _ (IsOr xs) = rw (pat_or_is xs, views.outs-Or xs) refl
shape_by _ (IsValue v) = rw (pat_value_is v, views.outs-Value v) refl
shape_by _ IsWild = rw (pat_wild_is, views.outs-Wild) refl
shape_by _ IsRest = rw (pat_rest_is, views.outs-Rest) refl
shape_by _ (IsCall c) = rw (pat_call_is c, views.outs-Call c) refl
shape_by _ (IsPath p) = rw (pat_path_is p, views.outs-Path p) refl
shape_by _ (IsSpan start inclusive end) = rw (pat_span_is start inclusive end, views.outs-Span start inclusive end) refl
shape_by _ (IsRef mutable x) = rw (pat_ref_is mutable x, views.outs-Ref mutable x) refl
shape_by _ (IsStruct p fields rest) = rw (pat_struct_is p fields rest, views.outs-Struct p fields rest) refl
shape_by _ (IsTupleStruct p xs) = rw (pat_tuple_struct_is p xs, views.outs-TupleStruct p xs) refl
shape_by _ (IsTuple xs) = rw (pat_tuple_is xs, views.outs-Tuple xs) refl
shape_by _ (IsParen x) = rw (pat_paren_is x, views.outs-Paren x) refl
shape_by _ (IsSlice xs) = rw (pat_slice_is xs, views.outs-Slice xs) refl
shape_by _ (IsBind by_ref mutable name None) =
    rw (pat_bind_is by_ref mutable name None, views.outs-Bind by_ref mutable name None) refl
shape_by _ (IsBind by_ref mutable name (Some x)) =
    rw (pat_bind_is by_ref mutable name (Some x), views.outs-Bind by_ref mutable name (Some x)) refl

pub short_is : (x : Pat) → (about_pat x).short ≡ (shape_in (views.out-Pat x)).0
short_is x = ap (λ (s : Bool × Bool × Bool). s.0) (shape_by x (pat_view x))

pub span_is : (x : Pat) → (about_pat x).span ≡ (shape_in (views.out-Pat x)).1
span_is x = ap (λ (s : Bool × Bool × Bool). s.1) (shape_by x (pat_view x))

pub rest_is : (x : Pat) → (about_pat x).rest ≡ (shape_in (views.out-Pat x)).2
rest_is x = ap (λ (s : Bool × Bool × Bool). s.2) (shape_by x (pat_view x))

short_bind : (by_ref mutable : Bool) (name : Name) (of : Option Pat)
    → (about_pat (pat.Bind by_ref mutable name of)).short ≡ not (is_some of)
short_bind by_ref mutable name None = ap (λ (x : PatFacts). x.short) (pat_bind_is by_ref mutable name None)
short_bind by_ref mutable name (Some x) = ap (λ (f : PatFacts). f.short) (pat_bind_is by_ref mutable name (Some x))

twice : (b : Bool) → b ≡ not (not b)
twice true = refl
twice false = refl

pub short_none : (by_ref mutable : Bool) (name : Name) (of : Option Pat) (none : Bool) → is_some of ≡ not none
    → none ≡ (about_pat (pat.Bind by_ref mutable name of)).short
short_none by_ref mutable name of none h = twice none ∙ ap not (sym h) ∙ sym (short_bind by_ref mutable name of)

-- ---- readers

-- after a `(`, a pattern and a comma
module _ (deeper : PatWithin) (x : Pat × ℕ) (ts mid : Tokens) (h : first (closes Paren) ts ≡ false)
    (g : first (is_mark (codes ",")) ts ≡ true) (m : mid ≡ tail ts) where
  pub paren_more : (read : List (Pat × ℕ)) (more : List Pat) (need : ℕ) (rest : Tokens)
      → elements (closes Paren) (deeper.pats Alternatives) mid ≡ Some (read, rest) → nodes read ≡ more
      → deepest read ≡ need → r.paren_by deeper x ts ≡ tuple_behind x more need rest
  paren_more read more need rest e a b =
      let all : elements (closes Paren) (deeper.pats Alternatives) (tail ts) ≡ Some (read, rest) =
      ap (elements (closes Paren) (deeper.pats Alternatives)) (sym m) ∙ e in
      rw (h, g, all, ← a, ← b) (tuple_is x read rest)

-- ---- within a depth

pub single_deeper : (n : ℕ) (ts : Tokens) → 0 < n → r.single_at n ts ≡ r.single_by (pats_within (n - 1)) ts
unfolding r.single_at
single_deeper n ts some = above_zero (λ (k : ℕ). r.single_at k ts) n some

-- ---- a pair of what was read

same_ok : {A B : Type 0} (x y : A) (b d : B) → ◌≡◌ {A = Result (A × B) ReadNone} (Ok (y, d)) (Ok (x, b))
    → (y ≡ x) × (d ≡ b)
same_ok {A} {B} x y b d e =
    let p : ◌≡◌ {A = A × B} (y, d) (x, b) = cc in (ap (λ (z : A × B). z.0) p, ap (λ (z : A × B). z.1) p)

pub paren_both : (deeper : PatWithin) (x : Found Pat) (ts mid rest : Tokens) → first (closes Paren) ts ≡ false
    → first (is_mark (codes ",")) ts ≡ true → mid ≡ tail ts → (second : Result (Found (List Pat)) ReadNone)
    (y : Found Pat) (more : Found (List Pat))
    → IsHeld AreFound (elements (closes Paren) (deeper.pats Alternatives) mid) second rest
    → MatchResult second (λ b. ◌≡◌ {A = Result (Found Pat × Found (List Pat)) ReadNone} (Ok (y, more)) (Ok (x, b)))
    (λ none. ◌≡◌ {A = Result (Found Pat × Found (List Pat)) ReadNone} (Ok (y, more)) (Err none))
    → r.paren_by deeper (x.node, x.need) ts ≡ tuple_behind (y.node, y.need) more.node more.need rest
paren_both deeper x ts mid rest h g m (Ok b) y more held e =
    let s = same_ok x y b more e in
    rw (s.0, s.1) (paren_more deeper (x.node, x.need) ts mid h g m held.0 b.node b.need rest held.1 held.2.0 held.2.1)
paren_both deeper x ts mid rest h g m (Err none) y more held e = absurd (cc)
