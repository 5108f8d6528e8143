-- A text lexes to tokens, or there is a place where none is had.
use Rattle.std.proofs.Common.{◌≡◌, ◌⊎◌, inl, inr, ℕ, zero, suc, ◌+◌, ◌<◌, ◌≤◌, List, [], ◌∷◌, ◌++◌, Bool, true, false, length, drop, Some, None, refl, sym, ap, ◌∙◌, subst, arith, length-append}
use Rattle.std.specs.Prelude.{IsTrue, IsFalse}
use Rattle.std.specs.Str.{chars}
use Rattle.std.proofs.lemmas.Bool.{cases_Bool}
use Rattle.lay_piece.specs.Begins.{BeginsNoGap, BeginsNoPiece}
use Rattle.lay_piece.specs.Forms.{Had, had}
use Rattle.lay_piece.specs.Found.{FrontPiece, found, front_of}
use Rattle.lay_piece.specs.Gap.{InGap, Outside, gap_step, gap_end, is_closed, is_closed_or_line, is_gap, is_last_gap}
use Rattle.lay_piece.specs.declared.kind.Kind.{Kind}
use Rattle.lay_piece.proofs.Exact.{front_complete, front_sound}
use Rattle.lay_piece.proofs.GapLaws.{closed_is_outside}
use Rattle.lay_piece.proofs.Sound.{Sound, Stands}
use Rattle.lay_token.specs.Lexes.{Part, Before, Other, spell, is_index_place, step, steps, Fit, Lexes, NoTokenAt, PartsBefore, tokens_from, size}
use Rattle.lay_token.specs.declared.token.Token.{Token}
use Rattle.lay_token.proofs.Parts.{had_some}

-- ---- gaps

-- no prefix of the text closes the gap, and the text may not end in it
record Held (s : InGap) (cs : List ℕ) : Type 0 where
  none : (gap rest : List ℕ) → cs ≡ gap ++ rest → IsTrue (is_closed (gap_end s gap)) → gap ≡ []
  unended : IsFalse (is_closed_or_line (gap_end s cs))

-- a prefix of the text closes the gap, and no longer one does
record Passed (s : InGap) (cs : List ℕ) : Type 0 where
  gap : List ℕ
  rest : List ℕ
  whole : cs ≡ gap ++ rest
  closed : IsTrue (is_closed (gap_end s gap))
  held : Held Outside rest

held_nil : (s : InGap) → is_closed_or_line s ≡ false → Held s []
held_nil s h = record { none = λ gap rest e g. empty gap rest e; unended = h }
  where
    empty : (gap rest : List ℕ) → [] ≡ gap ++ rest → gap ≡ []
    empty [] rest e = refl
    empty (c ∷ gap) rest e = cc

held_more : (s : InGap) (c : ℕ) (cs : List ℕ) → is_closed (gap_step s c) ≡ false → Held (gap_step s c) cs → Held s (c ∷ cs)
held_more s c cs h g = record { none = none; unended = g.unended }
  where
    none : (gap rest : List ℕ) → c ∷ cs ≡ gap ++ rest → IsTrue (is_closed (gap_end s gap)) → gap ≡ []
    none [] rest e k = refl
    none (d ∷ gap) rest e k =
        let head : d ≡ c = cc in
        let tail : cs ≡ gap ++ rest = cc in
        let here : IsTrue (is_closed (gap_end (gap_step s c) gap)) =
        let P : ℕ → Type 0 = λ x. IsTrue (is_closed (gap_end (gap_step s x) gap)) in subst P head k in
        let nil = g.none gap rest tail here in
        let closed : is_closed (gap_step s c) ≡ true =
        let P : List ℕ → Type 0 = λ x. IsTrue (is_closed (gap_end (gap_step s c) x)) in subst P nil here in
        cc

-- the text may end in the gap; or no prefix of it closes the gap, or a longest one does
abbrev Splits : InGap → List ℕ → Type 0
Splits s cs = IsTrue (is_closed_or_line (gap_end s cs)) ⊎ (Held s cs ⊎ Passed s cs)

one_more : (s : InGap) (c : ℕ) (cs : List ℕ) → Splits (gap_step s c) cs → Splits s (c ∷ cs)
one_more s c cs (inl e) = inl e
one_more s c cs (inr (inr p)) = inr (inr (record { gap = c ∷ p.gap; rest = p.rest; whole = ap (λ l. c ∷ l) p.whole; closed = p.closed; held = p.held }))
one_more s c cs (inr (inl h)) = elim (cases_Bool (is_closed (gap_step s c))) [
  | inl e ↦
      let P : InGap → Type 0 = λ t. Held t cs in
      inr (inr (record { gap = c ∷ []; rest = cs; whole = refl; closed = e; held = subst P (closed_is_outside (gap_step s c) e) h }))
  | inr e ↦ inr (inl (held_more s c cs e h))
]

splits : (s : InGap) (cs : List ℕ) → Splits s cs
splits s [] = elim (cases_Bool (is_closed_or_line s)) [
  | inl e ↦ inl e
  | inr e ↦ inr (inl (held_nil s e))
]
splits s (c ∷ cs) = one_more s c cs (splits (gap_step s c) cs)

-- the longest gap at the beginning
record Longest (text : List ℕ) : Type 0 where
  gap : List ℕ
  rest : List ℕ
  whole : text ≡ gap ++ rest
  closed : IsTrue (is_gap gap)
  no_more : BeginsNoGap rest

no_gap : (rest : List ℕ) → Held Outside rest → BeginsNoGap rest
no_gap rest h = record { none = h.none; unended = h.unended }

-- A text is a gap that ends the whole, or a gap as long as it can be stands at its beginning.
gap_at : (text : List ℕ) → IsTrue (is_last_gap text) ⊎ Longest text
gap_at text = elim (splits Outside text) [
  | inl e ↦ inl e
  | inr s ↦ elim s [
    | inl h ↦ inr (record { gap = []; rest = text; whole = refl; closed = refl; no_more = no_gap text h })
    | inr p ↦ inr (record { gap = p.gap; rest = p.rest; whole = p.whole; closed = p.closed; no_more = no_gap p.rest p.held })
  ]
]

-- ---- pieces

-- A piece stands at the beginning of a text, or none does.
piece_at : (text : List ℕ) (index : Bool) → ((k : Kind) × (rest : List ℕ) × Stands index text k rest) ⊎ BeginsNoPiece text index
piece_at text index = by (front_of index text) refl (front_sound index text)
  where
    by : (f : FrontPiece) → front_of index text ≡ f → Sound index text (front_of index text)
        → ((k : Kind) × (rest : List ℕ) × Stands index text k rest) ⊎ BeginsNoPiece text index
    by None e s = inr (λ k piece rest w h.
        let had : front_of index text ≡ found k rest = ap (front_of index) w ∙ front_complete k piece rest index h in
        let no : None ≡ found k rest = sym e ∙ had in cc)
    by (Some f) e s = inl (f.0, f.1, (let P : FrontPiece → Type 0 = Sound index text in subst P e s))

-- ---- parts

-- The text is parts and a last gap, after what stands there.
record Ends (b : Before) (text : List ℕ) : Type 0 where
  parts : List Part
  last : List ℕ
  whole : text ≡ spell parts last
  fit : Fit b parts last
  end : IsTrue (is_last_gap last)

-- The text is parts, a gap as long as it can be, and a rest that begins with no piece.
record Stops (b : Before) (text : List ℕ) : Type 0 where
  parts : List Part
  gap : List ℕ
  rest : List ℕ
  whole : text ≡ spell parts (gap ++ rest)
  fit : Fit b parts (gap ++ rest)
  closed : IsTrue (is_gap gap)
  no_gap : BeginsNoGap rest
  no_piece : BeginsNoPiece rest (is_index_place (steps b parts))

abbrev Lexed : Before → List ℕ → Type 0
Lexed b text = Ends b text ⊎ Stops b text

-- One part more at the beginning.
behind_part : (b : Before) (p : Part) (text rest : List ℕ) → text ≡ p.gap ++ (p.piece ++ rest) → IsTrue (is_gap p.gap)
    → Had p.kind p.piece rest (is_index_place b) → Lexed (step b p) rest → Lexed b text
behind_part b p text rest w g h (inl e) = inl (record {
  parts = p ∷ e.parts;
  last = e.last;
  whole = w ∙ ap (λ l. p.gap ++ (p.piece ++ l)) e.whole;
  fit = (g, subst (λ l. Had p.kind p.piece l (is_index_place b)) e.whole h, e.fit);
  end = e.end;
})
behind_part b p text rest w g h (inr s) = inr (record {
  parts = p ∷ s.parts;
  gap = s.gap;
  rest = s.rest;
  whole = w ∙ ap (λ l. p.gap ++ (p.piece ++ l)) s.whole;
  fit = (g, subst (λ l. Had p.kind p.piece l (is_index_place b)) s.whole h, s.fit);
  closed = s.closed;
  no_gap = s.no_gap;
  no_piece = s.no_piece;
})

-- a rest after a piece is shorter
shorter : (k : Kind) (text gap piece rest : List ℕ) (index : Bool) (n : ℕ) → text ≡ gap ++ (piece ++ rest)
    → Had k piece rest index → length text ≤ n → length rest < n
shorter k text gap [] rest index n w h l = let none : had k [] rest index ≡ false = had_some k rest index in cc
shorter k text gap (c ∷ piece) rest index n w h l =
    omega (arith, l, ap length w, length-append gap (c ∷ piece ++ rest), length-append piece rest)

-- The parts at the beginning, and those of a shorter rest.
lexed_behind : (n : ℕ) (b : Before) (text : List ℕ) → length text ≤ n
    → ((c : Before) (rest : List ℕ) → length rest < n → Lexed c rest) → Lexed b text
lexed_behind n b text l more = elim (gap_at text) [
  | inl e ↦ inl (record { parts = []; last = text; whole = refl; fit = tt; end = e })
  | inr g ↦ elim (piece_at g.rest (is_index_place b)) [
    | inr none ↦ inr (record {
      parts = [];
      gap = g.gap;
      rest = g.rest;
      whole = g.whole;
      fit = tt;
      closed = g.closed;
      no_gap = g.no_more;
      no_piece = none;
    })
    | inl one ↦
        let p : Part = record { gap = g.gap; kind = one.0; piece = one.2.piece } in
        let whole : text ≡ p.gap ++ (p.piece ++ one.1) = g.whole ∙ ap (λ l. g.gap ++ l) one.2.whole in
        behind_part b p text one.1 whole g.closed one.2.is_had
        (more (step b p) one.1 (shorter p.kind text p.gap p.piece one.1 (is_index_place b) n whole one.2.is_had l))
  ]
]

-- Within this many characters a text is such parts.
lexed : (n : ℕ) (b : Before) (text : List ℕ) → length text ≤ n → Lexed b text
lexed zero b text l = lexed_behind zero b text l (λ c rest less. absurd (omega (arith, less)))
lexed (suc n) b text l = lexed_behind (suc n) b text l (λ c rest less. lexed n c rest (omega (arith, less)))

-- A text lexes to tokens, or at a place there is none.
pub tokens_or_none : (bytes : List ℕ) (start : ℕ)
    → ((tokens : List Token) × Lexes bytes start tokens) ⊎ ((at : ℕ) × NoTokenAt bytes start at)
tokens_or_none bytes start = elim (lexed (length (chars (drop start bytes))) Other (chars (drop start bytes)) (omega arith)) [
  | inl e ↦ inl (tokens_from start e.parts, (e.parts, e.last, record { whole = e.whole; fit = e.fit; end = e.end }, refl))
  | inr s ↦
      let stops : PartsBefore (chars (drop start bytes)) s.parts s.gap s.rest =
      record { whole = s.whole; fit = s.fit; closed = s.closed; no_gap = s.no_gap; no_piece = s.no_piece } in
      inr (start + size (spell s.parts s.gap), (s.parts, s.gap, s.rest, stops, refl))
]
