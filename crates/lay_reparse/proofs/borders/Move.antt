-- A move leads from a border and a state of the layout to others. It knows the characters that it adds, and that these
-- are lexed to tokens which spell a part, whatever may follow them. Moves are joined one after the other.
use Rattle.std.proofs.Common.{◌≡◌, ℕ, zero, suc, ◌+◌, ◌<◌, inl, inr, List, [], ◌∷◌, ◌++◌, Bool, true, false, not, ◌&&◌, ◌||◌, sym, refl, ap, ◌∙◌, subst, append_assoc, append-nil, arith, min, replicate}
use Rattle.std.specs.Prelude.{◌==◌}
use Rattle.std.specs.Str.{encode_utf8_all, bytes_eq}
use Rattle.std.proofs.lemmas.Bool.{eqb-true, and_parts, or_cases, not-true}
use Rattle.std.proofs.lemmas.Str.{encodes-append}
use Rattle.lay_piece.specs.Gap.{Outside, gap_step}
use Rattle.lay_token.specs.Lexes.{Part, tokens_from}
use Rattle.lay_layout.specs.Document.{State, write, line}
use Rattle.lay_token.specs.declared.token.Token.{Token}
use Rattle.lay_token.proofs.Deciding.{bytes_same}
use Rattle.lay_form.specs.Spelled.{Then}
use Rattle.lay_reparse.proofs.borders.Need.{Text, Need, Word, RawWord, Life, Literal, Number, IntBare, FloatWord, Solidus, LineDoc, IntPoint, Grow, Joint, Loose, begins_dot, met, all, all_met, all_by, blank_ok, line_ok, gapped, blank_start, met_line, met_blank}
use Rattle.lay_reparse.proofs.texts.Characters.{is_clean, all_both, low_clean, low_encodes, blanks_low}
use Rattle.lay_reparse.proofs.borders.Border.{Place, Other, Point, Far, Points, is_index_place, apart, Border, Spot, Unsure, Clear, At, Covers, apart_twice, Rest, wider, wider_last, wider_gapped, wider_rest, gapped_rest, tokens_wider, Along, and_false, Came, space_step}

abbrev pub blanks : ℕ → Text
blanks n = replicate n 32

-- Blanks become pending.
abbrev pub wait : ℕ → State → State
wait n s = record { text = s.text; pending = min (s.pending + n) 1000000; room = s.room; used = s.used + n }

abbrev pub is_zero : ℕ → Bool
is_zero zero = true
is_zero (suc n) = false

-- What a border asks: with no blanks pending what it needs, and a blank if the text ends in a point; with some, that
-- blanks come.
abbrev pub Asks : Bool → Border → Bool → Text → List Part → Type 0
Asks true b v y ps = (all_met b.needs y ps ≡ true) × (begins_dot y && v ≡ false)
Asks false b v y ps = (blank_start y ≡ true) × (gapped ps ≡ true)

abbrev pub Waits : Bool → Place → Type 0
Waits true e = Unit {0}
Waits false e = apart e ≡ e

pub record After (b : Border) (v : Bool) (e : Place) (none : Bool) (y : Text) (ps : List Part) (last : Text) : Type 0
  where
    pub rest : Rest e y ps last
    pub asks : Asks none b v y ps

pub record Back (b : Border) (v : Bool) (e : Place) (none : Bool) (y : Text) (R : List Token → List Token → Type 0)
    (ps : List Part) : Type 0 where
  pub parts : List Part
  pub last : Text
  pub after : After b v e none y parts last
  pub along : Along R parts ps

pub record Move (R : List Token → List Token → Type 0) (b : Border) (v : Bool) (e : Place) (s : State) (c : Border)
    (w : Bool) (m : State) : Type 0 where
  pub at : Place
  pub added : Text
  pub grown : m.text ≡ s.text ++ encode_utf8_all added
  pub clean : is_clean added ≡ true
  pub waits : Waits (is_zero m.pending) at
  pub covered : Covers c.spot at
  pub back : (y : Text) (ps : List Part) (last : Text) → After c w at (is_zero m.pending) y ps last
      → Back b v e (is_zero s.pending) (added ++ y) R ps

abbrev pub Goes : (List Token → List Token → Type 0) → Border → Bool → State → Border → Bool → State → Type 0
Goes R b v s c w m = (e : Place) → Covers b.spot e → Waits (is_zero s.pending) e → Move R b v e s c w m

-- one move after the other
along_then : (R S : List Token → List Token → Type 0) (ps qs rs : List Part) → Along R ps qs → Along S qs rs
    → Along (Then R S) ps rs
along_then R S ps qs rs f g at = let a = f at in let b = g a.0 in (b.0, (tokens_from a.0 qs, a.1, b.1))

pub go_then : {R S : List Token → List Token → Type 0} (b : Border) (v : Bool) (s : State) (c : Border) (w : Bool)
    (m : State) (h : Border) (x : Bool) (t : State)
    → Goes R b v s c w m → Goes S c w m h x t → Goes (Then R S) b v s h x t
go_then {R} {S} b v s c w m h x t f g e covers waits =
    let one = f e covers waits in
    let two = g one.at one.covered one.waits in
    record {
      at = two.at;
      added = one.added ++ two.added;
      grown = two.grown ∙ ap (λ z. z ++ encode_utf8_all two.added) one.grown
          ∙ append_assoc s.text (encode_utf8_all one.added) (encode_utf8_all two.added)
          ∙ ap (λ z. s.text ++ z) (sym (encodes-append one.added two.added));
      clean = all_both _ one.added two.added one.clean two.clean;
      waits = two.waits;
      covered = two.covered;
      back = λ y ps last a.
          let k = two.back y ps last a in
          let l = one.back (two.added ++ y) k.parts k.last k.after in
          record {
            parts = l.parts;
            last = l.last;
            after = subst (λ z. After b v e (is_zero s.pending) z l.parts l.last)
                (sym (append_assoc one.added two.added y)) l.after;
            along = along_then R S l.parts k.parts ps l.along k.along;
          };
    }

-- the same move, seen to spell something else
pub go_as : {R S : List Token → List Token → Type 0} (b : Border) (v : Bool) (s : State) (c : Border) (w : Bool)
    (m : State)
    → ((ts us : List Token) → R ts us → S ts us) → Goes R b v s c w m → Goes S b v s c w m
go_as b v s c w m f g e covers waits =
    let r = g e covers waits in
    record {
      at = r.at;
      added = r.added;
      grown = r.grown;
      clean = r.clean;
      waits = r.waits;
      covered = r.covered;
      back = λ y ps last a.
          let k = r.back y ps last a in
          record {
            parts = k.parts;
            last = k.last;
            after = k.after;
            along = λ at. let l = k.along at in
                (l.0, f _ _ l.1);
          };
    }

-- no move
pub stand : (b : Border) (v : Bool) (s : State) → Goes (λ ts us. ts ≡ us) b v s b v s
stand b v s e covers waits = record {
  at = e;
  added = [];
  grown = sym (append-nil s.text);
  clean = refl;
  waits = waits;
  covered = covers;
  back = λ y ps last a. record { parts = ps; last = last; after = a; along = λ at. (at, refl) };
}

-- Borders that ask for less and know more.
abbrev pub same_need : Need → Need → Bool
same_need Word Word = true
same_need RawWord RawWord = true
same_need Life Life = true
same_need Literal Literal = true
same_need Number Number = true
same_need IntBare IntBare = true
same_need FloatWord FloatWord = true
same_need Solidus Solidus = true
same_need LineDoc LineDoc = true
same_need IntPoint IntPoint = true
same_need (Grow a) (Grow b) = bytes_eq a b
same_need Joint Joint = true
same_need Loose Loose = true
same_need _ _ = false

same_met : (n m : Need) (y : Text) (ps : List Part) → same_need n m ≡ true → met m y ps ≡ true → met n y ps ≡ true
same_met Word Word y ps h k = k
same_met RawWord RawWord y ps h k = k
same_met Life Life y ps h k = k
same_met Literal Literal y ps h k = k
same_met Number Number y ps h k = k
same_met IntBare IntBare y ps h k = k
same_met FloatWord FloatWord y ps h k = k
same_met Solidus Solidus y ps h k = k
same_met LineDoc LineDoc y ps h k = k
same_met IntPoint IntPoint y ps h k = k
same_met (Grow a) (Grow b) y ps h k = subst (λ z. met (Grow z) y ps ≡ true) (sym (bytes_same a b h)) k
same_met Joint Joint y ps h k = k
same_met Loose Loose y ps h k = k
same_met _ _ y ps h k = cc

abbrev pub among : List Need → Need → Bool
among [] n = false
among (m ∷ ms) n = same_need n m || among ms n

abbrev pub same_before : Place → Place → Bool
same_before Other Other = true
same_before Point Point = true
same_before Far Far = true
same_before Points Points = true
same_before _ _ = false

pub same_before_is : (a b : Place) → same_before a b ≡ true → a ≡ b
same_before_is Other Other h = refl
same_before_is Point Point h = refl
same_before_is Far Far h = refl
same_before_is Points Points h = refl
same_before_is _ _ h = cc

abbrev pub spot_under : Spot → Spot → Bool
spot_under o Unsure = true
spot_under (At a) (At b) = same_before a b
spot_under (At a) Clear = not (is_index_place a)
spot_under Clear Clear = true
spot_under _ _ = false

-- c asks for no more than h and knows no less
abbrev pub under : Border → Border → Bool
under c h = all (among h.needs) c.needs && spot_under c.spot h.spot

among_met : (ms : List Need) (n : Need) (y : Text) (ps : List Part) → all_met ms y ps ≡ true → among ms n ≡ true
    → met n y ps ≡ true
among_met [] n y ps k h = cc
among_met (m ∷ ms) n y ps k h =
    let a = and_parts (met m y ps) _ k in
    at (same_need n m) (among ms n) h (λ e. same_met n m y ps e a.0) (λ e. among_met ms n y ps a.1 e)
  where
    at : (a b : Bool) → a || b ≡ true → (a ≡ true → met n y ps ≡ true) → (b ≡ true → met n y ps ≡ true)
        → met n y ps ≡ true
    at true b h f g = f refl
    at false b h f g = g h

under_spot : (o q : Spot) (e : Place) → spot_under o q ≡ true → Covers o e → Covers q e
under_spot o Unsure e h c = tt
under_spot (At a) (At b) e h c = sym (same_before_is a b h) ∙ c
under_spot (At a) Clear e h c = ap is_index_place (sym c) ∙ not-true _ h
under_spot Clear Clear e h c = c
under_spot _ _ e h c = cc

under_asks : (b c : Border) (none : Bool) (v : Bool) (y : Text) (ps : List Part) → under b c ≡ true → Asks none c v y ps
    → Asks none b v y ps
under_asks b c true v y ps h a = (
  all_by (among c.needs) (λ n. met n y ps) b.needs
      (λ n k. among_met c.needs n y ps a.0 k) (and_parts _ _ h).0,
  a.1,
)
under_asks b c false v y ps h a = a

pub go_out : {R : List Token → List Token → Type 0} (b : Border) (v : Bool) (s : State) (c : Border) (w : Bool)
    (m : State) (h : Border)
    → under c h ≡ true → Goes R b v s c w m → Goes R b v s h w m
go_out b v s c w m h u g e covers waits =
    let r = g e covers waits in
    record {
      at = r.at;
      added = r.added;
      grown = r.grown;
      clean = r.clean;
      waits = r.waits;
      covered = under_spot c.spot h.spot r.at (and_parts _ _ u).1 r.covered;
      back = λ y ps last a. r.back y ps last
          (record { rest = a.rest; asks = under_asks c h (is_zero m.pending) w y ps u a.asks });
    }

pub go_in : {R : List Token → List Token → Type 0} (b : Border) (h : Border) (v : Bool) (s : State) (c : Border)
    (w : Bool) (m : State)
    → under b h ≡ true → Goes R h v s c w m → Goes R b v s c w m
go_in b h v s c w m u g e covers waits =
    let r = g e (under_spot b.spot h.spot e (and_parts _ _ u).1 covers) waits in
    record {
      at = r.at;
      added = r.added;
      grown = r.grown;
      clean = r.clean;
      waits = r.waits;
      covered = r.covered;
      back = λ y ps last a.
          let k = r.back y ps last a in
          record {
            parts = k.parts;
            last = k.last;
            along = k.along;
            after = record {
              rest = k.after.rest;
              asks =
                  under_asks b h (is_zero s.pending) v (r.added ++ y) k.parts u k.after.asks;
            };
          };
    }

-- A text that ends in no point asks no more than one that does.
pointed_asks : (c : Border) (none w : Bool) (y : Text) (ps : List Part) → Asks none c w y ps → Asks none c false y ps
pointed_asks c true w y ps a = (a.0, and_false (begins_dot y))
pointed_asks c false w y ps a = a

pub go_pointed : {R : List Token → List Token → Type 0} (b : Border) (v : Bool) (s : State) (c : Border) (w : Bool)
    (m : State)
    → Goes R b v s c false m → Goes R b v s c w m
go_pointed b v s c w m g e covers waits =
    let r = g e covers waits in
    record {
      at = r.at;
      added = r.added;
      grown = r.grown;
      clean = r.clean;
      waits = r.waits;
      covered = r.covered;
      back = λ y ps last a. r.back y ps last
          (record { rest = a.rest; asks = pointed_asks c (is_zero m.pending) w y ps a.asks });
    }

-- Blanks that were pending, before a text.
one_blank : (e : Place) (y : Text) (ps : List Part) (last : Text) → apart e ≡ e → Rest e y ps last
    → Rest e (32 ∷ y) (wider 32 ps) (wider_last 32 ps last)
one_blank e y ps last w r = wider_rest 32 e y ps last space_step (subst (λ x. Rest x y ps last) (sym w) r)

along_wider : (R : List Token → List Token → Type 0) (c : ℕ) (ps qs : List Part) → Along R ps qs
    → Along R (wider c ps) qs
along_wider R c ps qs f at =
    let w = tokens_wider c at ps in
    let a = f w.0 in
    (a.0, subst (λ ts. R ts (tokens_from a.0 qs)) (sym w.1) a.1)

-- the text and the parts with that many leading blanks, one at least
record Blanked (e : Place) (y : Text) (R : List Token → List Token → Type 0) (qs : List Part) : Type 0 where
  parts : List Part
  last : Text
  rest : Rest e y parts last
  apart : gapped parts ≡ true
  along : Along R parts qs

blanked : (n : ℕ) (e : Place) (y : Text) (R : List Token → List Token → Type 0) (ps : List Part) (last : Text)
    (qs : List Part) → apart e ≡ e → Rest e y ps last → Along R ps qs
    → Blanked e (blanks (suc n) ++ y) R qs
blanked zero e y R ps last qs w r a = record {
  parts = wider 32 ps;
  last = wider_last 32 ps last;
  rest = one_blank e y ps last w r;
  apart = wider_gapped 32 ps;
  along = along_wider R 32 ps qs a;
}
blanked (suc n) e y R ps last qs w r a =
    let b = blanked n e y R ps last qs w r a in
    record {
      parts = wider 32 b.parts;
      last = wider_last 32 b.parts b.last;
      rest = one_blank e _ b.parts b.last w b.rest;
      apart = wider_gapped 32 b.parts;
      along = along_wider R 32 b.parts qs b.along;
    }

-- What a text does between two borders.
pub record Does (R : List Token → List Token → Type 0) (x : Text) (b : Border) (v : Bool) (c : Border) (w : Bool)
    (e : Place) : Type 0 where
  pub at : Place
  pub covered : Covers c.spot at
  pub came : (y : Text) (ps : List Part) (last : Text) → Rest at y ps last → all_met c.needs y ps ≡ true
      → begins_dot y && w ≡ false → Came e b.needs (x ++ y) R ps
  pub dotless : (y : Text) → begins_dot (x ++ y) && v ≡ false

blanks_then : (n : ℕ) (x z : Text) → encode_utf8_all x ≡ z → blanks n ++ z ≡ encode_utf8_all (blanks n ++ x)
blanks_then n x z e =
    sym (encodes-append (blanks n) x ∙ ap (λ q. q ++ encode_utf8_all x) (low_encodes (blanks n) (blanks_low n))
    ∙ ap (λ q. blanks n ++ q) e)

pub go_text : {R : List Token → List Token → Type 0} (x z : Text) (b : Border) (v : Bool) (s : State) (c : Border)
    (w : Bool)
    → encode_utf8_all x ≡ z → is_clean x ≡ true → ((e : Place) → Covers b.spot e → Does R x b v c w e)
    → Goes R b v s c w (write z s)
go_text {R} x z b v s c w bytes fine f e covers waits =
    let d = f e covers in
    record {
      at = d.at;
      added = blanks s.pending ++ x;
      grown = ap (λ q. s.text ++ q) (blanks_then s.pending x z bytes);
      clean = all_both _ (blanks s.pending) x (low_clean (blanks s.pending) (blanks_low s.pending)) fine;
      waits = tt;
      covered = d.covered;
      back = λ y ps last a. at s.pending y ps (d.came y ps last a.rest a.asks.0 a.asks.1) (d.dotless y) waits;
    }
  where
    at : (n : ℕ) (y : Text) (ps : List Part) → Came e b.needs (x ++ y) R ps → begins_dot (x ++ y) && v ≡ false
        → Waits (is_zero n) e → Back b v e (is_zero n) ((blanks n ++ x) ++ y) R ps
    at zero y ps k dot w = record {
      parts = k.parts;
      last = k.last;
      after =
          record { rest = k.rest; asks = (k.meets, dot) };
      along = k.along;
    }
    at (suc n) y ps k dot w =
        let l = blanked n e (x ++ y) R k.parts k.last ps w k.rest k.along in
        subst (λ z. Back b v e false z R ps) (sym (append_assoc (blanks (suc n)) x y))
        (record {
          parts = l.parts;
          last = l.last;
          after = record { rest = l.rest; asks = (refl, l.apart) };
          along =
              l.along;
        })

-- A newline.
line_step : gap_step Outside 10 ≡ Outside
unfolding gap_step
line_step = refl

apart_waits : (z : Bool) (e : Place) → Waits z (apart e)
apart_waits true e = tt
apart_waits false e = apart_twice e

pub go_line : (b : Border) (v : Bool) (s : State) (c : Border) (w : Bool) (k : ℕ) → all line_ok b.needs ≡ true
    → ((e : Place) → Covers b.spot e → Covers c.spot (apart e)) → Goes (λ ts us. ts ≡ us) b v s c w (line k s)
go_line b v s c w k ok cov e covers waits = record {
  at = apart e;
  added = 10 ∷ [];
  grown = ap (λ z. s.text ++ z) (sym (low_encodes (10 ∷ []) refl));
  clean = refl;
  waits = apart_waits (is_zero k) e;
  covered = cov e covers;
  back = λ y ps last a. record {
    parts = wider 10 ps;
    last = wider_last 10 ps last;
    after = record { rest = wider_rest 10 e y ps last line_step a.rest; asks = at (is_zero s.pending) y ps };
    along = λ at. tokens_wider 10 at ps;
  };
}
  where
    at : (z : Bool) (y : Text) (ps : List Part) → Asks z b v (10 ∷ y) (wider 10 ps)
    at true y ps = (
      all_by line_ok (λ n. met n (10 ∷ y) (wider 10 ps)) b.needs
          (λ n. met_line n y _ (wider_gapped 10 ps)) ok,
      refl,
    )
    at false y ps = (refl, wider_gapped 10 ps)

-- Blanks that become pending.
is_zero-above : (n : ℕ) → 0 < n → is_zero n ≡ false
is_zero-above zero h = absurd (omega arith)
is_zero-above (suc n) h = refl

wait_zero : (m : ℕ) → is_zero (min (m + 0) 1000000) ≡ is_zero m
wait_zero zero = refl
wait_zero (suc m) = is_zero-above (min (suc m + 0) 1000000) (omega arith)

pub go_none : (b : Border) (v : Bool) (s : State) → Goes (λ ts us. ts ≡ us) b v s b v (wait 0 s)
go_none b v s e covers waits = record {
  at = e;
  added = [];
  grown = sym (append-nil s.text);
  clean = refl;
  covered = covers;
  waits = subst (λ z. Waits z e) (sym (wait_zero s.pending)) waits;
  back = λ y ps last a. record {
    parts = ps;
    last = last;
    along = λ at. (at, refl);
    after = record { rest = a.rest; asks = subst (λ z. Asks z b v y ps) (wait_zero s.pending) a.asks };
  };
}

blank_dot : (y : Text) (v : Bool) → blank_start y ≡ true → begins_dot y && v ≡ false
blank_dot [] v h = refl
blank_dot (c ∷ y) v h = elim (or_cases (c == 32) (c == 10) h) [
  | inl e ↦ subst (λ d. (d == 46) && v ≡ false) (sym (eqb-true c 32 e)) refl
  | inr e ↦ subst (λ d. (d == 46) && v ≡ false) (sym (eqb-true c 10 e)) refl
]

pub go_blank : (b : Border) (v : Bool) (s : State) (c : Border) (w : Bool) (n : ℕ) → all blank_ok b.needs ≡ true
    → ((e : Place) → Covers b.spot e → Covers c.spot (apart e)) → Goes (λ ts us. ts ≡ us) b v s c w (wait (suc n) s)
go_blank b v s c w n ok cov e covers waits =
    let some : is_zero (min (s.pending + suc n) 1000000) ≡ false =
    is_zero-above (min (s.pending + suc n) 1000000) (omega arith) in
    record {
      at = apart e;
      added = [];
      grown = sym (append-nil s.text);
      clean = refl;
      covered = cov e covers;
      waits = apart_waits _ e;
      back = λ y ps last a.
          let q = subst (λ z. Asks z c w y ps) some a.asks in
          record {
            parts = ps;
            last = last;
            along = λ at. (at, refl);
            after = record { rest = gapped_rest e y ps last q.1 a.rest; asks = at (is_zero s.pending) y ps q.0 q.1 };
          };
    }
  where
    at : (z : Bool) (y : Text) (ps : List Part) → blank_start y ≡ true → gapped ps ≡ true → Asks z b v y ps
    at true y ps h g = (all_by blank_ok (λ n. met n y ps) b.needs (λ n. met_blank n y ps h g) ok, blank_dot y v h)
    at false y ps h g = (h, g)
