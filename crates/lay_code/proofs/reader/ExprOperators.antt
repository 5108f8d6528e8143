-- What goes on with an expression: operators between operands, `as`, and the first tokens of steps. Each has its strength,
-- and stands where nothing else begins.
use Rattle.std.proofs.Common.{◌≡◌, ℕ, suc, ◌≤◌, ◌<◌, Bool, true, false, not, ◌||◌, List, [], ◌∷◌, length, drop, codes, Option, Some, None, ◌⊎◌, inl, inr, refl, sym, ap, subst, ◌∙◌, arith}
use Rattle.std.specs.Prelude.{◌==◌, if◌then◌else◌}
use Rattle.std.specs.List.{list_all}
use Rattle.std.specs.Str.{bytes_eq}
use Rattle.std.proofs.lemmas.Bool.{and_parts, not-true, or_parts, or_cases, or_left, or_right, eqb-true, ne_eqb, false_from_ne_true}
use Rattle.lay_piece.specs.declared.kind.Delim.{Delim}
use Rattle.lay_piece.specs.declared.kind.Delim.TheVariants.{Paren, Bracket, Brace}
use Rattle.lay_piece.specs.declared.kind.Kind.{Kind}
use Rattle.lay_piece.specs.declared.kind.Kind.TheVariants.{Ident, Opener}
use Rattle.lay_token.specs.Operators.{op_at, is_op_of, is_op}
use Rattle.lay_token.proofs.Deciding.{bytes_same}
use Rattle.lay_form.specs.Spelled.{IsOne, IsOperator}
use Rattle.lay_node.specs.Ahead.{Tokens, first, tail, is_keyword, is_lifetime, is_lifetime_kind, is_opener, opens, opens_args}
use Rattle.lay_node.specs.Follow.{Begin, OfRename, OfArgs, OfCodeArgs, OfArrow, OfColons, OfBang, begins_there, may_follow}
use Rattle.lay_node.specs.nodes.Types.{is_there}
use Rattle.lay_node.proofs.Fronts.{keyword_one, one_front, op_front, op_test, op_shorter, opener_kind, other_op}
use Rattle.lay_node.proofs.Steps.{chosen, bind_some}
use Rattle.lay_node.proofs.reader.TypesComplete.{and_none}
use Rattle.lay_code.specs.Operators.{op_text, op_level, all_ops, named, binary, is_dot_or_try, begins_step, angle_by, is_angle, is_angle_op, strength_by, strength}
use Rattle.lay_code.specs.nodes.Exprs.{Tail, is_open, is_args, lacks_args, is_typed, begins_pointer, tail_follows}
use Rattle.lay_code.specs.declared.operators.Op.{Op}
use Rattle.lay_code.specs.declared.operators.Op.TheVariants as op
use Rattle.lay_code.proofs.reader.ExprSoundOperators.{op_low, binary_op, op_strength}

-- ---- operators by their texts

-- the operator that a test tells
at_of : (text : List ℕ) (found : Option (List ℕ)) → is_op_of text found ≡ true → found ≡ Some text
at_of text None h = absurd (cc)
at_of text (Some other) h = ap Some (sym (bytes_same text other h))

-- What is spelled as an operator is the operator at the beginning.
pub op_is_at : (text : List ℕ) (ts : Tokens) → is_op text ts ≡ true → op_at ts ≡ Some text
op_is_at text ts h = at_of text (op_at ts) h

-- The text of an operator names it.
named_op : (o : Op) → named all_ops (op_text o) ≡ Some o
named_op op.Set = refl
named_op _ = refl

-- A spelled operator is the operator at the beginning.
pub op_binary : (o : Op) (ts : Tokens) → is_op (op_text o) ts ≡ true → binary ts ≡ Some o
unfolding binary
op_binary o ts h = rw (op_is_at (op_text o) ts h) (named_op o)

-- The operator between operands at the beginning is the operator at the beginning.
binary_at : (ts : Tokens) (o : Op) → binary ts ≡ Some o → op_at ts ≡ Some (op_text o)
binary_at ts o h = op_is_at (op_text o) ts (binary_op ts o h)

-- What holds of all operators holds of the one at the beginning.
named_all : (p : Op → Bool) (ops : List Op) (text : List ℕ) (o : Op) → list_all p ops ≡ true → named ops text ≡ Some o → p o ≡ true
named_all p [] text o g h = absurd (cc)
named_all p (x ∷ ops) text o g h =
    let parts = and_parts (p x) (list_all p ops) g in
    elim (chosen (bytes_eq (op_text x) text) (Some x) (named ops text) (Some o) h) [
      | inl f ↦ let e : x ≡ o = cc f.1 in subst (λ y. p y ≡ true) e parts.0
      | inr f ↦ named_all p ops text o parts.1 f.1
    ]

-- the same of the operator at the beginning
pub binary_all : (p : Op → Bool) → list_all p all_ops ≡ true → (ts : Tokens) (o : Op) → binary ts ≡ Some o → p o ≡ true
unfolding binary
binary_all p g ts o h = let b = bind_some (op_at ts) (named all_ops) o h in named_all p all_ops b.0 o g b.2

-- What is the text of no operator isn't spelled where one stands.
pub binary_no : (text : List ℕ) → list_all (λ o. not (bytes_eq text (op_text o))) all_ops ≡ true → (ts : Tokens) (o : Op)
    → binary ts ≡ Some o
    → is_op text ts ≡ false
binary_no text g ts o h =
    let n = binary_all (λ x. not (bytes_eq text (op_text x))) g ts o h in
    rw (binary_at ts o h) (not-true (bytes_eq text (op_text o)) n)

-- What is spelled and is the text of no operator is none.
pub no_binary : (text : List ℕ) (ts : Tokens) → is_op text ts ≡ true → named all_ops text ≡ None → binary ts ≡ None
unfolding binary
no_binary text ts h n = rw (op_is_at text ts h) n

-- Where no operator stands, none does between operands.
pub none_binary : (ts : Tokens) → op_at ts ≡ None → binary ts ≡ None
unfolding binary
none_binary ts h = rw h refl

-- ---- an operator between operands, spelled

-- An operator has a character at least.
pub some_text : (o : Op) → is_there (op_text o) ≡ true
some_text op.Set = refl
some_text _ = refl

-- After an operator fewer tokens are left.
pub text_shorter : (text : List ℕ) → is_there text ≡ true → (ts rest : Tokens) → IsOperator text ts rest → length rest < length ts
text_shorter [] g ts rest s = absurd (cc)
text_shorter (c ∷ cs) g ts rest s = op_shorter c cs ts rest s

-- An operator of this level is spelled, and the rest stands after it.
pub record AtOp (level : ℕ) (o : Op) (ts at : Tokens) : Type 0 where
  pub binary : binary ts ≡ Some o
  pub strength : strength ts ≡ suc level
  pub left : drop (length (op_text o)) ts ≡ at
  pub less : length at < length ts

-- An operator of the level that is spelled is read so.
pub at_op : (level : ℕ) (o : Op) (ts at : Tokens) → (op_level o == level) ≡ true → IsOperator (op_text o) ts at → AtOp level o ts at
at_op level o ts at l s =
    let b = op_binary o ts s.0 in
    record {
      binary = b;
      strength = op_strength ts o b ∙ ap suc (eqb-true (op_level o) level l);
      left = s.1;
      less = text_shorter (op_text o) (some_text o) ts at s;
    }

-- ---- `as` and steps

-- what goes on with an expression by a step
pub record StepFront (ts : Tokens) : Type 0 where
  pub strength : strength ts ≡ 14
  pub binary : binary ts ≡ None
  pub begins : begins_step ts ≡ true

-- `as` is no operator.
as_no_op : (ts rest : Tokens) → IsOne Ident (codes "as") ts rest → op_at ts ≡ None
unfolding op_at
as_no_op ts rest s = rw (one_front Ident (codes "as") ts rest s).1 refl

-- nor one between operands
pub as_binary : (ts rest : Tokens) → IsOne Ident (codes "as") ts rest → binary ts ≡ None
as_binary ts rest s = none_binary ts (as_no_op ts rest s)

-- `as` stands where it is spelled.
pub as_there : (ts rest : Tokens) → IsOne Ident (codes "as") ts rest → first (is_keyword (codes "as")) ts ≡ true
as_there ts rest s = rw (one_front Ident (codes "as") ts rest s).1 refl

-- `as` goes on at its level.
pub as_strength : (ts rest : Tokens) → IsOne Ident (codes "as") ts rest → strength ts ≡ 12
unfolding strength
as_strength ts rest s = rw (as_binary ts rest s, as_there ts rest s) refl

-- A step goes on where neither an operator nor `as` does.
step_front : (ts : Tokens) → binary ts ≡ None → first (is_keyword (codes "as")) ts ≡ false → begins_step ts ≡ true → StepFront ts
unfolding strength
step_front ts n a s = record { strength = rw (n, a, s) refl; binary = n; begins = s }

-- An operator is no word.
op_no_as : (text : List ℕ) (ts : Tokens) → is_op text ts ≡ true → first (is_keyword (codes "as")) ts ≡ false
op_no_as text ts h = rw (op_front text ts h).2 refl

-- the first tokens of steps: `.`
pub dot_front : (ts : Tokens) → is_op (codes ".") ts ≡ true → StepFront ts
dot_front ts h = step_front ts (no_binary (codes ".") ts h refl) (op_no_as (codes ".") ts h) (rw h refl)

-- `?`
pub try_front : (ts : Tokens) → is_op (codes "?") ts ≡ true → StepFront ts
try_front ts h =
    let dotted : is_dot_or_try ts ≡ true = or_right (is_op (codes ".") ts) (is_op (codes "?") ts) h in
    step_front ts (no_binary (codes "?") ts h refl) (op_no_as (codes "?") ts h)
    (or_left (is_dot_or_try ts) (first (opens Paren) ts || first (opens Bracket) ts) dotted)

-- A delimiter is no operator.
opener_no_op : (d : Delim) (ts : Tokens) → first (opens d) ts ≡ true → op_at ts ≡ None
unfolding op_at
opener_no_op d [] h = absurd (cc)
opener_no_op d (t ∷ ts) h =
    let us : Tokens = record t { kind = Opener d } ∷ ts in
    let e : t ∷ ts ≡ us = ap (λ (k : Kind). record t { kind = k } ∷ ts) (opener_kind d t.kind h) in
    let none : op_at us ≡ None = refl in
    subst (λ vs. op_at vs ≡ None) (sym e) none

-- nor a word
opener_no_as : (d : Delim) (ts : Tokens) → first (opens d) ts ≡ true → first (is_keyword (codes "as")) ts ≡ false
opener_no_as d [] h = absurd (cc)
opener_no_as d (t ∷ ts) h = rw (opener_kind d t.kind h) refl

-- a delimiter that a step begins with
opens_step : (d : Delim) (ts : Tokens) → first (opens d) ts ≡ true → (first (opens Paren) ts || first (opens Bracket) ts) ≡ true
    → StepFront ts
opens_step d ts h g =
    step_front ts (none_binary ts (opener_no_op d ts h)) (opener_no_as d ts h)
    (or_right (is_dot_or_try ts) (first (opens Paren) ts || first (opens Bracket) ts) g)

-- `(`
pub paren_front : (ts : Tokens) → first (opens Paren) ts ≡ true → StepFront ts
paren_front ts h = opens_step Paren ts h (or_left (first (opens Paren) ts) (first (opens Bracket) ts) h)

-- `[`
pub bracket_front : (ts : Tokens) → first (opens Bracket) ts ≡ true → StepFront ts
bracket_front ts h = opens_step Bracket ts h (or_right (first (opens Paren) ts) (first (opens Bracket) ts) h)

-- `(` and `[` aren't `.` or `?`.
pub opener_no_dot : (d : Delim) (ts : Tokens) → first (opens d) ts ≡ true → is_dot_or_try ts ≡ false
opener_no_dot d ts h = rw (opener_no_op d ts h) refl

-- one of the four
pub step_cases : (ts : Tokens) → begins_step ts ≡ true
    → (is_op (codes ".") ts ≡ true)
    ⊎ ((is_op (codes "?") ts ≡ true) ⊎ ((first (opens Paren) ts ≡ true) ⊎ (first (opens Bracket) ts ≡ true)))
step_cases ts h = elim (or_cases (is_dot_or_try ts) (first (opens Paren) ts || first (opens Bracket) ts) h) [
  | inl d ↦ elim (or_cases (is_op (codes ".") ts) (is_op (codes "?") ts) d) [ inl a ↦ inl a | inr b ↦ inr (inl b) ]
  | inr o ↦ elim (or_cases (first (opens Paren) ts) (first (opens Bracket) ts) o) [ inl a ↦ inr (inr (inl a)) | inr b ↦ inr (inr (inr b)) ]
]

-- Each of them goes on at the level of steps.
pub step_there : (ts : Tokens) → begins_step ts ≡ true → StepFront ts
step_there ts h = elim (step_cases ts h) [
  | inl d ↦ dot_front ts d
  | inr r ↦ elim r [
    | inl q ↦ try_front ts q
    | inr o ↦ elim o [ inl p ↦ paren_front ts p | inr b ↦ bracket_front ts b ]
  ]
]

-- ---- what the strength tells

-- Where no operator of this level follows, no step, no `as` and no operator of the level does.
pub no_step : (ts : Tokens) → strength ts ≤ 13 → begins_step ts ≡ false
no_step ts le = false_from_ne_true (begins_step ts) (λ e. let f = (step_there ts e).strength in absurd (omega (arith, le, f)))

-- the same of `as`
pub no_as : (ts : Tokens) → strength ts ≤ 11 → first (is_keyword (codes "as")) ts ≡ false
no_as ts le = false_from_ne_true (first (is_keyword (codes "as")) ts) (λ e.
    let f = as_strength ts (tail ts) (keyword_one (codes "as") ts e) in absurd (omega (arith, le, f)))

-- and of an operator of the level
pub not_at_level : (level : ℕ) (ts : Tokens) → strength ts ≤ level → (strength ts == suc level) ≡ false
not_at_level level ts le = ne_eqb (strength ts) (suc level) (λ e. absurd (omega (arith, le, e)))

-- No tokens go on more strongly than a step.
pub strength_most : (ts : Tokens) → strength ts ≤ 14
unfolding strength
strength_most ts = by (binary ts) refl
  where
    other : (a s : Bool) → (if a then 12 else (if s then 14 else 0)) ≤ 14
    other true s = omega arith
    other false true = omega arith
    other false false = omega arith

    by : (found : Option Op) → binary ts ≡ found → strength_by found ts ≤ 14
    by (Some o) e = omega (arith, op_low o)
    by None e = other (first (is_keyword (codes "as")) ts) (begins_step ts)

-- ---- what goes on may follow what isn't open at its end

-- What no tail refuses but another name and generic arguments doesn't stand there.
record Inner (ts : Tokens) : Type 0 where
  brace : first (opens Brace) ts ≡ false
  lifetime : first is_lifetime ts ≡ false
  pointer : begins_pointer ts ≡ false
  otherwise : first (is_keyword (codes "else")) ts ≡ false
  colons : is_op (codes "::") ts ≡ false
  bang : is_op (codes "!") ts ≡ false
  arrow : is_op (codes "->") ts ≡ false

-- An operator is neither `const` nor `mut`.
op_pointer : (text : List ℕ) (ts : Tokens) → is_op text ts ≡ true → begins_pointer ts ≡ false
op_pointer text ts h = rw (op_front text ts h).2 refl

-- nor `else`
op_no_else : (text : List ℕ) (ts : Tokens) → is_op text ts ≡ true → first (is_keyword (codes "else")) ts ≡ false
op_no_else text ts h = rw (op_front text ts h).2 refl

-- an operator between operands
op_inner : (ts : Tokens) (o : Op) → binary ts ≡ Some o → Inner ts
op_inner ts o h =
    let there = binary_op ts o h in
    record {
      brace = op_test (is_opener Brace) (op_text o) ts there;
      lifetime = op_test is_lifetime_kind (op_text o) ts there;
      pointer = op_pointer (op_text o) ts there;
      otherwise = op_no_else (op_text o) ts there;
      colons = binary_no (codes "::") refl ts o h;
      bang = binary_no (codes "!") refl ts o h;
      arrow = binary_no (codes "->") refl ts o h;
    }

-- another operator
text_inner : (text : List ℕ) → bytes_eq text (codes "::") ≡ false → bytes_eq text (codes "!") ≡ false → bytes_eq text (codes "->") ≡ false
    → (ts : Tokens) → is_op text ts ≡ true → Inner ts
text_inner text a b c ts h = record {
  brace = op_test (is_opener Brace) text ts h;
  lifetime = op_test is_lifetime_kind text ts h;
  pointer = op_pointer text ts h;
  otherwise = op_no_else text ts h;
  colons = other_op text (codes "::") a ts h;
  bang = other_op text (codes "!") b ts h;
  arrow = other_op text (codes "->") c ts h;
}

-- `as`
as_inner : (ts rest : Tokens) → IsOne Ident (codes "as") ts rest → Inner ts
as_inner ts rest s =
    let f = (one_front Ident (codes "as") ts rest s).1 in
    let none = as_no_op ts rest s in
    record {
      brace = rw f refl;
      lifetime = rw f refl;
      pointer = rw f refl;
      otherwise = rw f refl;
      colons = rw none refl;
      bang = rw none refl;
      arrow = rw none refl;
    }

-- a delimiter
opener_inner : (d : Delim) → is_opener Brace (Opener d) ≡ false → (ts : Tokens) → first (opens d) ts ≡ true → Inner ts
opener_inner d other ts h = record {
  brace = kind_test (is_opener Brace) ts h other;
  lifetime = kind_test is_lifetime_kind ts h refl;
  pointer = no_pointer ts h;
  otherwise = no_else ts h;
  colons = rw (opener_no_op d ts h) refl;
  bang = rw (opener_no_op d ts h) refl;
  arrow = rw (opener_no_op d ts h) refl;
}
  where
    kind_test : (p : Kind → Bool) (us : Tokens) → first (opens d) us ≡ true → p (Opener d) ≡ false → first (λ t. p t.kind) us ≡ false
    kind_test p [] g n = refl
    kind_test p (t ∷ us) g n = ap p (opener_kind d t.kind g) ∙ n

    no_pointer : (us : Tokens) → first (opens d) us ≡ true → begins_pointer us ≡ false
    no_pointer [] g = refl
    no_pointer (t ∷ us) g = rw (opener_kind d t.kind g) refl

    no_else : (us : Tokens) → first (opens d) us ≡ true → first (is_keyword (codes "else")) us ≡ false
    no_else [] g = refl
    no_else (t ∷ us) g = rw (opener_kind d t.kind g) refl

-- a step
step_inner : (ts : Tokens) → begins_step ts ≡ true → Inner ts
step_inner ts h = elim (step_cases ts h) [
  | inl d ↦ text_inner (codes ".") refl refl refl ts d
  | inr r ↦ elim r [
    | inl q ↦ text_inner (codes "?") refl refl refl ts q
    | inr o ↦ elim o [ inl p ↦ opener_inner Paren refl ts p | inr b ↦ opener_inner Bracket refl ts b ]
  ]
]

-- What of itself refuses no more than `::`, `!` and generic arguments in code, as paths and fields do.
abbrev pub is_path_begin : Begin → Bool
is_path_begin OfColons = true
is_path_begin OfBang = true
is_path_begin OfCodeArgs = true
is_path_begin _ = false

-- all of these
abbrev pub path_refuses : List Begin → Bool
path_refuses bs = list_all is_path_begin bs

-- What refuses no more may stand before what goes on.
path_follows : (bs : List Begin) (ts : Tokens) → Inner ts → path_refuses bs ≡ true → may_follow bs ts ≡ true
path_follows [] ts i h = refl
path_follows (b ∷ bs) ts i h =
    let parts = and_parts (is_path_begin b) (path_refuses bs) h in rw (one b parts.0, path_follows bs ts i parts.1) refl
  where
    one : (c : Begin) → is_path_begin c ≡ true → begins_there c ts ≡ false
    one OfRename g = absurd (cc)
    one OfArgs g = absurd (cc)
    one OfCodeArgs g = rw i.colons refl
    one OfArrow g = absurd (cc)
    one OfColons g = i.colons
    one OfBang g = i.bang

-- an operator that isn't `<` or `<<` opens no generic arguments
op_no_args : (ts : Tokens) (o : Op) → binary ts ≡ Some o → is_angle ts ≡ false → opens_args ts ≡ false
op_no_args ts o h a =
    let angle : is_angle_op o ≡ false = sym (ap angle_by h) ∙ a in
    let other =
    binary_all (λ x. is_angle_op x || not (bytes_eq (codes "<") (op_text x) || bytes_eq (codes "<<") (op_text x))) refl ts o h in
    let none =
    or_parts (bytes_eq (codes "<") (op_text o)) (bytes_eq (codes "<<") (op_text o))
    (not-true _ (ap (λ b. b || not (bytes_eq (codes "<") (op_text o) || bytes_eq (codes "<<") (op_text o))) (sym angle) ∙ other)) in
    let at = binary_at ts o h in
    let less : is_op (codes "<") ts ≡ false = rw at none.0 in
    let shift : is_op (codes "<<") ts ≡ false = rw at none.1 in
    rw (less, shift, binary_no (codes "<-") refl ts o h) refl

-- An operator may follow what refuses anything, where generic arguments are refused if it is neither `<` nor `<<`.
op_follows : (bs : List Begin) (ts : Tokens) (o : Op) → binary ts ≡ Some o → (lacks_args bs ≡ true → is_angle ts ≡ false)
    → may_follow bs ts ≡ true
op_follows [] ts o h a = refl
op_follows (b ∷ bs) ts o h a =
    rw (one b (λ e. a (or_left (is_args b) (lacks_args bs) e)), op_follows bs ts o h (λ e. a (or_right (is_args b) (lacks_args bs) e))) refl
  where
    i : Inner ts
    i = op_inner ts o h

    there : is_op (op_text o) ts ≡ true
    there = binary_op ts o h

    one : (c : Begin) → (is_args c ≡ true → is_angle ts ≡ false) → begins_there c ts ≡ false
    one OfRename g = op_no_as (op_text o) ts there
    one OfArgs g = rw (op_no_args ts o h (g refl), i.colons, op_test (is_opener Paren) (op_text o) ts there) refl
    one OfCodeArgs g = rw i.colons refl
    one OfArrow g = i.arrow
    one OfColons g = i.colons
    one OfBang g = i.bang

-- What goes on may follow a tail that isn't open, where the tail doesn't refuse it.
tail_inner : (t : Tail) (no_struct : Bool) (ts : Tokens) → Inner ts → is_open t ≡ false → may_follow t.refuses ts ≡ true
    → tail_follows t no_struct ts ≡ true
tail_inner t no_struct ts i shut f =
    let n = or_parts t.takes_all t.bare (or_parts (t.takes_all || t.bare) t.closure shut).0 in
    rw (n.0, n.1, i.brace, i.lifetime, i.pointer, i.otherwise, f, and_none (not no_struct), and_none t.path, and_none t.unlabelled, and_none t.raw, and_none t.lacks_else) refl

-- An operator may follow what it ends in, where that isn't open; `<` and `<<` not a type that is open at its end.
pub op_tail : (t : Tail) (no_struct : Bool) (ts : Tokens) (o : Op) → binary ts ≡ Some o → is_open t ≡ false
    → (is_typed t ≡ true → is_angle ts ≡ false)
    → tail_follows t no_struct ts ≡ true
op_tail t no_struct ts o h shut angle =
    let n = or_parts t.takes_all t.bare (or_parts (t.takes_all || t.bare) t.closure shut).0 in
    tail_inner t no_struct ts (op_inner ts o h) shut (op_follows t.refuses ts o h (λ e. angle (rw (n.0, e) refl)))

-- `as` and steps may follow what ends in a path or a field.
pub as_tail : (t : Tail) (no_struct : Bool) (ts rest : Tokens) → IsOne Ident (codes "as") ts rest → is_open t ≡ false
    → path_refuses t.refuses ≡ true
    → tail_follows t no_struct ts ≡ true
as_tail t no_struct ts rest s shut p = let i = as_inner ts rest s in tail_inner t no_struct ts i shut (path_follows t.refuses ts i p)

-- the same of a step
pub step_tail : (t : Tail) (no_struct : Bool) (ts : Tokens) → begins_step ts ≡ true → is_open t ≡ false → path_refuses t.refuses ≡ true
    → tail_follows t no_struct ts ≡ true
step_tail t no_struct ts h shut p = let i = step_inner ts h in tail_inner t no_struct ts i shut (path_follows t.refuses ts i p)
