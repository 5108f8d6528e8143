-- Values and spans in patterns: what is read stands there, where the arguments of paths are read so.
use Rattle.std.proofs.Common.{◌≡◌, ℕ, suc, ◌≤◌, max, Bool, true, false, not, ◌&&◌, ◌||◌, List, [], ◌∷◌, inl, inr, drop, codes, Option, Some, None, refl, ap, arith}
use Rattle.std.proofs.lemmas.Bool.{and_from}
use Rattle.lay_piece.specs.declared.kind.Kind.{Kind}
use Rattle.lay_piece.specs.declared.kind.Kind.TheVariants as kind
use Rattle.lay_token.specs.Operators.{is_op}
use Rattle.lay_form.specs.Form.{Fixed, Operator, Form, Done, Piece, Part}
use Rattle.lay_form.specs.Notation.{piece}
use Rattle.lay_form.specs.Spelled.{IsOperator, AreBits, Spells}
use Rattle.lay_form.proofs.FormLaws.{deeper as raise}
use Rattle.lay_node.specs.Ahead.{Tokens, first, tail, is_mark}
use Rattle.lay_node.specs.Begins.{begins_span_end, begins_value, is_literal_token}
use Rattle.lay_node.specs.Follow.{begins_dots, may_follow}
use Rattle.lay_node.specs.Words.{is_literal, is_number}
use Rattle.lay_node.specs.nodes.Patterns.{dots, end_form, end_refuses, first_end, has_ends, is_end, is_value, may_end, pat_facts, value_form, about_pat}
use Rattle.lay_node.specs.reader.Exact.{InText}
use Rattle.lay_node.specs.reader.Patterns.{closed_span, is_number_token, one_end, open_span, span, value, value_pat}
use Rattle.lay_node.specs.reader.Types.{Within, literal, path}
use Rattle.lay_node.specs.declared.patterns.FieldPat.TheOpen.{Pat-F}
use Rattle.lay_node.specs.declared.patterns.Pat.{Pat}
use Rattle.lay_node.specs.declared.patterns.Pat.TheVariants as pat
use Rattle.lay_node.specs.declared.patterns.PatValue.{PatValue}
use Rattle.lay_node.specs.declared.patterns.SpanEnd.{SpanEnd}
use Rattle.lay_node.specs.declared.patterns.SpanEnd.TheVariants as span_end
use Rattle.lay_node.specs.declared.types.PathStyle.TheVariants.{Code}
use Rattle.lay_node.proofs.Fronts.{mark_one}
use Rattle.lay_node.proofs.Parts.{bit_piece}
use Rattle.lay_node.proofs.Steps.{same_some, chosen, bind_some}
use Rattle.lay_node.proofs.nodes.PatternsLaws.{pat_value_is, pat_rest_is, pat_span_is}
use Rattle.lay_node.proofs.reader.Loops.{SoundStep}
use Rattle.lay_node.proofs.reader.PatternsSoundLevel.{PatOpen, open_told, shut_open}
use Rattle.lay_node.proofs.reader.TypesSoundLevel.{SoundWithin}
use Rattle.lay_node.proofs.reader.TypesSoundParts.{Out, bit_texts, literal_sound}
use Rattle.lay_node.proofs.reader.TypesSoundPaths.{path_sound}

-- ---- values

number_literal : (k : Kind) (text : List ℕ) → is_number k ≡ true → is_literal k text ≡ true
number_literal kind.Int text h = refl
number_literal kind.Float text h = refl
number_literal _ text h = absurd (cc)

abbrev pub IsValue : PatValue → Tokens → Tokens → Type 0
IsValue v ts rest = Spells (value_form v) 0 ts rest × (is_value v ≡ true)

pub value_sound : SoundStep value IsValue
unfolding value
value_sound ts x rest t h = elim (chosen (first (is_mark (codes "-")) ts) _ _ _ h) [
  | inl g ↦
      let at = tail ts in
      let o = mark_one (codes "-") ts g.0 in
      let l = bind_some (literal is_number_token at) _ _ g.1 in
      let s = literal_sound (λ k text. is_number k) at l.0.0 l.0.1
      (bit_texts (Fixed kind.Punct (codes "-")) ts at o t) l.1 in
      let k = l.0.0.kind in
      let text = l.0.0.text in
      same_some (Out IsValue ts) (record { negative = true; literal = l.0.0 }, l.0.1) (x, rest) l.2 (
        (
          (at, (at, o, refl), (l.0.1, s.0.0, refl)),
          and_from (is_literal k text) (is_number k) (number_literal k text s.0.1) s.0.1,
        ),
        s.1,
      )
  | inr g ↦
      let l = bind_some (literal is_literal_token ts) _ _ g.1 in
      let s = literal_sound is_literal ts l.0.0 l.0.1 t l.1 in
      same_some (Out IsValue ts) (record { negative = false; literal = l.0.0 }, l.0.1) (x, rest) l.2
      (((l.0.1, s.0.0, refl), and_from (is_literal l.0.0.kind l.0.0.text) true s.0.1 refl), s.1)
]

-- ---- the ends of spans

-- An end stands there, at the depth that stands with it, which is within the budget.
abbrev pub EndHeld : ℕ → SpanEnd × ℕ → Tokens → Tokens → Type 0
EndHeld budget x ts rest =
    (x.1 ≤ budget) × Spells (end_form x.0) x.1 ts rest × (is_end x.0 ≡ true)
    × (may_follow (end_refuses x.0) rest ≡ true)

-- The first end stands there, or nothing, before whatever follows it.
abbrev pub StartHeld : ℕ → Option SpanEnd → ℕ → Tokens → Tokens → Type 0
StartHeld budget start need ts rest =
    (need ≤ budget) × (may_end start ≡ true)
    × ((f : Form) (n : ℕ) (end : Tokens) → need ≤ n → Spells f n rest end → Spells (first_end start f) n ts end)

pub no_start : (budget : ℕ) (ts : Tokens) → StartHeld budget None 0 ts ts
no_start budget ts = (omega arith, refl, λ f n end le s. s)

pub end_starts : (budget : ℕ) (e : SpanEnd) (need : ℕ) (ts rest : Tokens) → need ≤ budget
    → Spells (end_form e) need ts rest → is_end e ≡ true → StartHeld budget (Some e) need ts rest
end_starts budget e need ts rest le s g = (le, g, λ f n end more r. (rest, raise (end_form e) need n ts rest more s, r))

-- With a last end a span has one, and after `..=` too.
ends_there : (start : Option SpanEnd) (inclusive : Bool) (e : SpanEnd) → has_ends start inclusive (Some e) ≡ true
ends_there None true e = refl
ends_there None false e = refl
ends_there (Some s) true e = refl
ends_there (Some s) false e = refl

module _ (budget : ℕ) (within : Within) (sound : SoundWithin budget within) where
  pub end_sound : SoundStep (one_end within) (EndHeld budget)
  unfolding one_end
  end_sound ts x rest t h = elim (chosen (begins_value ts) _ _ _ h) [
    | inl g ↦
        let v = bind_some (value ts) _ _ g.1 in
        let s = value_sound ts v.0.0 v.0.1 t v.1 in
        same_some (Out (EndHeld budget) ts) ((span_end.Value v.0.0, 0), v.0.1) (x, rest) v.2
        ((omega arith, s.0.0, s.0.1, refl), s.1)
    | inr g ↦
        let p = bind_some (path within Code ts) _ _ g.1 in
        let s = path_sound budget within sound Code ts p.0.0 p.0.1 t p.1 in
        same_some (Out (EndHeld budget) ts) ((span_end.Path p.0.0.0, p.0.0.1), p.0.1) (x, rest) p.2
        ((s.0.0, s.0.1.0, s.0.1.1, s.0.1.2), s.1)
  ]

  -- ---- spans

  module _ (start : Option SpanEnd) (need : ℕ) (begun ts : Tokens) (held : StartHeld budget start need begun ts) where
    closed_sound : (inclusive : Bool) (at : Tokens) → AreBits (dots inclusive) ts at → InText at
        → (x : Pat × ℕ) (rest : Tokens) → closed_span within start need inclusive at ≡ Some (x, rest)
        → Out (PatOpen (suc budget)) begun (x, rest)
    closed_sound inclusive at o t x rest h =
        let e = bind_some (one_end within at) _ _ h in
        let s = end_sound at e.0.0 e.0.1 t e.1 in
        let end = e.0.0.0 in
        let most = max need e.0.0.1 in
        let F : Form = Piece (dots inclusive) (Part (end_form end) Done) in
        let spelled = held.2 F most e.0.1 (omega arith)
        (at, o, (e.0.1, raise (end_form end) e.0.0.1 most at e.0.1 (omega arith) s.0.1, refl)) in
        let ends = has_ends start inclusive (Some end) in
        same_some (Out (PatOpen (suc budget)) begun) ((pat.Span start inclusive (Some end), suc most), e.0.1) (x, rest)
        e.2 (
          open_told (suc budget) (about_pat (pat.Span start inclusive (Some end)))
              (pat_facts (Pat-F.Span start inclusive (Some end))) (suc most) begun e.0.1
              (pat_span_is start inclusive (Some end)) (record {
                need = omega (arith, held.0, s.0.0);
                form = (e.0.1, spelled, refl);
                good = and_from (ends && may_end start) (is_end end)
                    (and_from ends (may_end start) (ends_there start inclusive end) held.1) s.0.2;
                single = refl;
                no_end = refl;
                no_bound = refl;
                refused = s.0.3;
              }),
          s.1,
        )

  -- `..` without an end after it
  open_sound : (start : Option SpanEnd) (need : ℕ) (begun ts at : Tokens) → StartHeld budget start need begun ts
      → IsOperator (codes "..") ts at → InText at → begins_span_end at ≡ false
      → (x : Pat × ℕ) (rest : Tokens) → open_span start need at ≡ Some (x, rest)
      → Out (PatOpen (suc budget)) begun (x, rest)
  open_sound None need begun ts at held o t e x rest h =
      let F : Form = piece (Operator (codes "..") ∷ []) in
      let spelled = held.2 F need at (omega arith) (bit_piece (Operator (codes "..")) need ts at o) in
      same_some (Out (PatOpen (suc budget)) begun) ((pat.Rest, 1), at) (x, rest) h (
        open_told (suc budget) (about_pat pat.Rest) (pat_facts Pat-F.Rest) 1 begun at pat_rest_is (record {
          need = omega arith;
          form = (at, spelled, refl);
          good = refl;
          single = refl;
          no_end = ap not e;
          no_bound = refl;
          refused = refl;
        }),
        t,
      )
  open_sound (Some start) need begun ts at held o t e x rest h =
      let F : Form = piece (Operator (codes "..") ∷ []) in
      let spelled = held.2 F need at (omega arith) (bit_piece (Operator (codes "..")) need ts at o) in
      same_some (Out (PatOpen (suc budget)) begun) ((pat.Span (Some start) false None, suc need), at) (x, rest) h (
        open_told (suc budget) (about_pat (pat.Span (Some start) false None))
            (pat_facts (Pat-F.Span (Some start) false None)) (suc need) begun at
            (pat_span_is (Some start) false None) (record {
              need = omega (arith, held.0);
              form = (at, spelled, refl);
              good = and_from (is_end start) true held.1 refl;
              single = refl;
              no_end = ap not e;
              no_bound = refl;
              refused = refl;
            }),
        t,
      )

  -- what stands from a `..` or `..=` on, after the first end
  pub span_sound : (start : Option SpanEnd) (need : ℕ) (begun ts : Tokens) → StartHeld budget start need begun ts
      → InText ts → begins_dots ts ≡ true → (x : Pat × ℕ) (rest : Tokens) → span within start need ts ≡ Some (x, rest)
      → Out (PatOpen (suc budget)) begun (x, rest)
  unfolding span
  span_sound start need begun ts held t d x rest h = elim (chosen (is_op (codes "..=") ts) _ _ _ h) [
    | inl g ↦
        let at = drop 3 ts in
        let o : IsOperator (codes "..=") ts at = (g.0, refl) in
        closed_sound start need begun ts held true at (at, o, refl) (bit_texts (Operator (codes "..=")) ts at o t)
        x rest g.1
    | inr g ↦
        let at = drop 2 ts in
        let o : IsOperator (codes "..") ts at =
        (left_of (is_op (codes "..") ts) (is_op (codes "..=") ts) d g.0, refl) in
        let left = bit_texts (Operator (codes "..")) ts at o t in
        elim (chosen (begins_span_end at) _ _ _ g.1) [
          | inl f ↦ closed_sound start need begun ts held false at (at, o, refl) left x rest f.1
          | inr f ↦ open_sound start need begun ts at held o left f.0 x rest f.1
        ]
  ]
    where
      left_of : (a b : Bool) → (a || b) ≡ true → b ≡ false → a ≡ true
      left_of true b h e = refl
      left_of false b h e = absurd (cc)

  -- ---- a value, or a span that it begins

  pub value_pat_sound : SoundStep (value_pat within) (PatOpen (suc budget))
  unfolding value_pat
  value_pat_sound ts x rest t h =
      let v = bind_some (value ts) _ _ h in
      let s = value_sound ts v.0.0 v.0.1 t v.1 in
      elim (chosen (begins_dots v.0.1) _ _ _ v.2) [
        | inl g ↦
            let start : StartHeld budget (Some (span_end.Value v.0.0)) 0 ts v.0.1 =
            end_starts budget (span_end.Value v.0.0) 0 ts v.0.1 (omega arith) s.0.0 s.0.1 in
            span_sound (Some (span_end.Value v.0.0)) 0 ts v.0.1 start s.1 g.0 x rest g.1
        | inr g ↦
            same_some (Out (PatOpen (suc budget)) ts) ((pat.Value v.0.0, 1), v.0.1) (x, rest) g.1 (
              shut_open budget (about_pat (pat.Value v.0.0)) (value_form v.0.0) (is_value v.0.0) 0 ts v.0.1
                  (pat_value_is v.0.0) (omega arith) s.0.0 s.0.1,
              s.1,
            )
      ]
