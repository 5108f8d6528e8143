-- Breaks as moves, which add no token, and a comma before one, which adds its own.
use Rattle.std.proofs.Common.{◌≡◌, ℕ, zero, suc, ◌⊎◌, inl, inr, List, [], ◌∷◌, Bool, true, false, sym, refl, ap, subst, append-nil}
use Rattle.std.specs.Prelude.{IsTrue}
use Rattle.std.proofs.lemmas.Bool.{and_parts}
use Rattle.lay_token.specs.Lexes.{Part}
use Rattle.lay_layout.specs.declared.layout.Frame.{Frame}
use Rattle.lay_layout.specs.declared.layout.Frame.TheVariants.{Flat, Broken}
use Rattle.lay_layout.specs.Document.{State, write, line, newline, skip}
use Rattle.lay_form.specs.Form.{Space, Soft, Hard, Never, comma}
use Rattle.lay_form.specs.Spelled.{AreBits, MayBe}
use Rattle.lay_form.specs.Layout.{space_ends_in_point, keeps_point, break_of, comma_break}
use Rattle.lay_layout.specs.Anyway.{indent_of, may_turn, may_stay}
use Rattle.lay_reparse.proofs.borders.Need.{Text, Need, IntBare, all, blank_ok, line_ok}
use Rattle.lay_reparse.proofs.texts.Characters.{low_encodes}
use Rattle.lay_reparse.proofs.borders.Border.{Place, Other, Point, Far, Points, is_index_place, apart, fit_of, Border, Spot, Unsure, Clear, At, Covers, apart_spot, behind_gap, beyond, pass, bits_low, bits_covers, apart_covers, clear_apart, Rest, and_false, bits_came}
use Rattle.lay_reparse.proofs.borders.Border as bd
use Rattle.lay_reparse.proofs.borders.Move.{wait, Asks, Goes, go_as, is_zero, go_text, go_line, go_none, go_blank}
use Rattle.lay_reparse.proofs.forms.Passes.{loosen, break_passes, beyond_break, comma_passes, beyond_comma, piece_does}
use Rattle.lay_reparse.proofs.forms.Texts.{Same, after_none, before_none}

-- Breaks.
loosen_stays : (o : Spot) (e : Place) → Covers o e → Covers (loosen o) e
loosen_stays (At Other) e c = c
loosen_stays (At Point) e c = tt
loosen_stays (At Far) e c = tt
loosen_stays (At Points) e c = ap is_index_place (sym c)
loosen_stays Clear e c = c
loosen_stays Unsure e c = tt

loosen_turns : (o : Spot) (e : Place) → Covers o e → Covers (loosen o) (apart e)
loosen_turns (At Other) e c = ap apart c
loosen_turns (At Point) e c = tt
loosen_turns (At Far) e c = tt
loosen_turns (At Points) e c = ap (λ x. is_index_place (apart x)) (sym c)
loosen_turns Clear e c = ap is_index_place (sym (clear_apart e c))
loosen_turns Unsure e c = tt

known_turns : (o : Spot) → Covers (loosen o) Other
known_turns (At Other) = refl
known_turns (At Point) = tt
known_turns (At Far) = tt
known_turns (At Points) = refl
known_turns Clear = refl
known_turns Unsure = tt

pub go_loose : (b : Border) (v : Bool) (s : State)
    → Goes Same b v s (record { needs = b.needs; spot = loosen b.spot }) v s
go_loose b v s e covers waits = record {
  at = e;
  added = [];
  grown = sym (append-nil s.text);
  clean = refl;
  waits = waits;
  covered = loosen_stays b.spot e covers;
  back = λ y ps last a. record {
    parts = ps;
    last = last;
    along = λ at. (at, refl);
    after =
        record { rest = a.rest; asks = asks (is_zero s.pending) y ps a.asks };
  };
}
  where
    asks : (z : Bool) (y : Text) (ps : List Part) → Asks z (record { needs = b.needs; spot = loosen b.spot }) v y ps
        → Asks z b v y ps
    asks true y ps a = a
    asks false y ps a = a

pub break_goes : (g : Space) (f : Frame) (b : Border) (v : Bool) (s m : State) → break_passes g b ≡ true
    → (IsTrue (may_turn f (break_of g)) × (newline (break_of g) (indent_of f) s ≡ m))
    ⊎ (IsTrue (may_stay f (break_of g)) × (skip (break_of g) s ≡ m))
    → Goes Same b v s (beyond_break g b) (space_ends_in_point v g) m
break_goes (Soft back zero) f b v s m h (inl l) =
    subst (λ z. Goes Same b v s (record { needs = b.needs; spot = loosen b.spot }) v z) l.1
    (go_line b v s _ v _ h (loosen_turns b.spot))
break_goes (Soft back zero) f b v s m h (inr l) =
    subst (λ z. Goes Same b v s (record { needs = b.needs; spot = loosen b.spot }) v z) l.1
    (after_none {S = Same} b v s b v (wait 0 s) _ v (wait 0 s) (go_none b v s) (go_loose b v (wait 0 s)))
break_goes (Soft back (suc n)) f b v s m h (inl l) =
    subst (λ z. Goes Same b v s (behind_gap b) false z) l.1
    (go_line b v s _ false _ (and_parts (all blank_ok b.needs) _ h).1 (apart_covers b.spot))
break_goes (Soft back (suc n)) f b v s m h (inr l) =
    subst (λ z. Goes Same b v s (behind_gap b) false z) l.1
    (go_blank b v s _ false n (and_parts (all blank_ok b.needs) _ h).0 (apart_covers b.spot))
break_goes (Hard back) f b v s m h (inl l) =
    subst (λ z. Goes Same b v s (behind_gap b) false z) l.1 (go_line b v s _ false _ h (apart_covers b.spot))
break_goes (Hard back) f b v s m h (inr l) = absurd (no_stay f l.0)
  where
    no_stay : (f : Frame) → IsTrue (may_stay f (break_of (Hard back))) → ⊥
    no_stay Flat h = cc
    no_stay (Broken true i) h = cc
    no_stay (Broken false i) h = cc
break_goes Never f b v s m h (inl l) = absurd (no_turn f l.0)
  where
    no_turn : (f : Frame) → IsTrue (may_turn f (break_of Never)) → ⊥
    no_turn Flat h = cc
    no_turn (Broken c i) h = cc
break_goes Never f b v s m h (inr l) = subst (λ z. Goes Same b v s b v z) l.1 (go_none b v s)

-- a comma and a newline
comma_line : (b : Border) (v : Bool) (s : State) (c : Border) (w : Bool) (k : ℕ) → pass b comma ≡ true
    → Covers c.spot Other
    → Goes (AreBits comma) b v s c w (line k (write (44 ∷ []) s))
comma_line b v s c w k h cov =
    let mid : Border = record { needs = (beyond b comma).needs; spot = At Other } in
    before_none {S = AreBits comma} b v s mid false (write (44 ∷ []) s) c w (line k (write (44 ∷ []) s))
    (go_text (44 ∷ []) (44 ∷ []) b v s mid false (low_encodes (44 ∷ []) refl) refl (λ e covers.
    let d = piece_does v b comma e h covers in
    record {
      at = Other;
      covered = refl;
      dotless = d.dotless;
      came =
          λ y ps last r m i. bits_came comma b e y ps last h r m;
    }))
    (go_line mid false (write (44 ∷ []) s) c w k (line_all b) (λ e o. subst (λ z. Covers c.spot (apart z)) o cov))
  where
    by : (n : Need) (ns : List Need) → all line_ok (bd.extras (44 ∷ []) ns) ≡ true
        → all line_ok (bd.extras (44 ∷ []) (n ∷ ns)) ≡ true
    by IntBare ns h = h
    by _ ns h = h

    extra : (ns : List Need) → all line_ok (bd.extras (44 ∷ []) ns) ≡ true
    extra [] = refl
    extra (n ∷ ns) = by n ns (extra ns)

    line_all : (b : Border) → all line_ok (beyond b comma).needs ≡ true
    line_all b = extra b.needs

pub comma_goes : (n : ℕ) (f : Frame) (b : Border) (v : Bool) (s m : State) → comma_passes n b ≡ true
    → (IsTrue (may_turn f (comma_break n)) × (newline (comma_break n) (indent_of f) s ≡ m))
    ⊎ (IsTrue (may_stay f (comma_break n)) × (skip (comma_break n) s ≡ m))
    → Goes (MayBe comma) b v s (beyond_comma n b) (keeps_point v n) m
comma_goes zero f b v s m h (inl l) =
    let c : Border = record { needs = b.needs; spot = loosen b.spot } in
    subst (λ z. Goes (MayBe comma) b v s c v z) l.1
    (go_as {R = AreBits comma} {S = MayBe comma} b v s c v _ (λ ts us r. inr r)
    (comma_line b v s c v _ h (known_turns b.spot)))
comma_goes zero f b v s m h (inr l) =
    let c : Border = record { needs = b.needs; spot = loosen b.spot } in
    subst (λ z. Goes (MayBe comma) b v s c v z) l.1
    (go_as {R = Same} {S = MayBe comma} b v s c v _ (λ ts us r. inl r)
    (after_none {S = Same} b v s b v (wait 0 s) c v (wait 0 s) (go_none b v s) (go_loose b v (wait 0 s))))
comma_goes (suc n) f b v s m h (inl l) =
    let q = and_parts (pass b comma) _ h in
    let c : Border = record { needs = []; spot = loosen (apart_spot b.spot) } in
    subst (λ z. Goes (MayBe comma) b v s c false z) l.1
    (go_as {R = AreBits comma} {S = MayBe comma} b v s c false _ (λ ts us r. inr r)
    (comma_line b v s c false _ q.0 (known_turns (apart_spot b.spot))))
comma_goes (suc n) f b v s m h (inr l) =
    let q = and_parts (pass b comma) _ h in
    let c : Border = record { needs = []; spot = loosen (apart_spot b.spot) } in
    subst (λ z. Goes (MayBe comma) b v s c false z) l.1
    (go_as {R = Same} {S = MayBe comma} b v s c false _ (λ ts us r. inl r)
    (go_blank b v s c false n q.1 (λ e k. loosen_stays (apart_spot b.spot) (apart e) (apart_covers b.spot e k))))
