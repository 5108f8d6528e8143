-- A border lies after a piece: what is asked after it, and what is known of the place. A fixed piece leads from one
-- border to another, and its tokens spell it.
use Rattle.std.proofs.Common.{◌≡◌, ℕ, ◌+◌, List, [], ◌∷◌, ◌++◌, Bool, true, false, cond, not, ◌&&◌, sym, refl, ap, ◌∙◌, subst, append_assoc, arith, length, length-append}
use Rattle.std.specs.Prelude.{IsTrue, ◌==◌, codes}
use Rattle.std.specs.Str.{encode_utf8_all, bytes_eq}
use Rattle.std.proofs.lemmas.Str.{encodes-append}
use Rattle.std.proofs.lemmas.Bool.{and_parts, and_from, not-true}
use Rattle.lay_piece.specs.Chars.{is_nil}
use Rattle.lay_piece.specs.Forms.{Had, has_form, may_precede, is_number_kind}
use Rattle.lay_piece.specs.Gap.{Outside, gap_step, gap_end, is_closed, is_closed_or_line, is_gap, is_last_gap}
use Rattle.lay_token.specs.Lexes as lexed
use Rattle.lay_token.specs.Lexes.{Part, spell, is_punct, Fit, tokens_from, is_joint, size, text_of_piece}
use Rattle.lay_piece.specs.declared.kind.Kind.{Kind}
use Rattle.lay_piece.specs.declared.kind.Kind.TheVariants.{Ident, Underscore, Int, Float, Punct, Opener, Closer}
use Rattle.lay_token.specs.declared.token.Token.{Token}
use Rattle.lay_form.specs.Form.{Bit, Blank, Fixed, Operator, Semicolons}
use Rattle.lay_form.specs.Spelled.{IsOne, AreBits, IsBit}
use Rattle.lay_form.specs.Layout.{text_of_bit, text_of_bits}
use Rattle.lay_reparse.proofs.borders.Need.{Text, Need, Grow, Solidus, next_part, grows, begins_dot, point_of, keeps, met, all, all_met, all_append, all_by, blank_ok, gapped, met_space, glue, more, suits, part, met_text, met_piece, asks, follows, had_form}
use Rattle.lay_reparse.proofs.borders.OperatorRuns.{begins_comment, is_run, is_operator, no_operator, operator_run, run_low, op_parts, op_along}
use Rattle.lay_reparse.proofs.texts.Characters.{is_low, low_encodes, all_both}

-- What stands before a place: a point directly before it or after a gap, a point after a joint point, or anything
-- else.
pub data Place : Type 0 where
  Other : Place
  Point : Place
  Far : Place
  Points : Place

abbrev pub is_index_place : Place → Bool
is_index_place Point = true
is_index_place Far = true
is_index_place _ = false

-- a point stands directly before
abbrev pub is_near : Place → Bool
is_near Point = true
is_near Points = true
is_near _ = false

-- after a gap
abbrev pub apart : Place → Place
apart Other = Other
apart Point = Far
apart Far = Far
apart Points = Other

abbrev pub spaced : Text → Place → Place
spaced [] b = b
spaced (c ∷ g) b = apart b

abbrev pub is_dot : Kind → Text → Bool
is_dot k p = is_punct k && bytes_eq p (codes ".")

abbrev pub behind : Place → Kind → Text → Place
behind b k p = cond (is_dot k p) (cond (is_near b) Points Point) Other

-- each part is a gap and a piece that is had, where rest follows the parts; a gap may come before them
abbrev pub Fits : Place → List Part → Text → Type 0
Fits b [] rest = Unit {0}
Fits b (p ∷ ps) rest = IsTrue (is_gap p.gap) × Had p.kind p.piece (spell ps rest) (is_index_place (spaced p.gap b))
    × Fits (behind (spaced p.gap b) p.kind p.piece) ps rest

-- the same, where no gap comes
abbrev before : Place → lexed.Before
before Other = lexed.Other
before Point = lexed.Point
before Far = lexed.Point
before Points = lexed.Points

abbrev is_far : Place → Bool
is_far Far = true
is_far _ = false

behind_near : (e : Place) (k : Kind) (p : Text) → is_far (behind e k p) ≡ false
behind_near e k p = at (is_dot k p) (is_near e)
  where
    at : (a b : Bool) → is_far (cond a (cond b Points Point) Other) ≡ false
    at true true = refl
    at true false = refl
    at false b = refl

before_index : (e : Place) (g : Text) → is_index_place (spaced g e) ≡ lexed.is_index_place (before e)
before_index Other [] = refl
before_index Point [] = refl
before_index Far [] = refl
before_index Points [] = refl
before_index Other (c ∷ g) = refl
before_index Point (c ∷ g) = refl
before_index Far (c ∷ g) = refl
before_index Points (c ∷ g) = refl

before_step : (e : Place) (p : Part) → is_far e ≡ false
    → before (behind (spaced p.gap e) p.kind p.piece) ≡ lexed.step (before e) p
unfolding lexed.step
before_step e p h = at e p.gap (is_dot p.kind p.piece) h
  where
    at : (e : Place) (g : Text) (a : Bool) → is_far e ≡ false
        → before (cond a (cond (is_near (spaced g e)) Points Point) Other)
        ≡ cond a (cond (lexed.is_point (before e) && is_nil g) lexed.Points lexed.Point) lexed.Other
    at e g false h = refl
    at Other [] true h = refl
    at Point [] true h = refl
    at Far g true h = cc
    at Points [] true h = refl
    at Other (c ∷ g) true h = refl
    at Point (c ∷ g) true h = refl
    at Points (c ∷ g) true h = refl

pub fit_of : (e : Place) (ps : List Part) (rest : Text) → is_far e ≡ false → Fits e ps rest → Fit (before e) ps rest
fit_of e [] rest h f = tt
fit_of e (p ∷ ps) rest h f =
    let m = behind (spaced p.gap e) p.kind p.piece in (
      f.0,
      subst (Had p.kind p.piece (spell ps rest)) (before_index e p.gap) f.1,
      subst (λ b. Fit b ps rest) (before_step e p h)
          (fit_of m ps rest (behind_near (spaced p.gap e) p.kind p.piece) f.2),
    )

-- what is known of what stands before: nothing; that it is no index place; all
pub data Spot : Type 0 where
  Unsure : Spot
  Clear : Spot
  At : Place → Spot

pub record Border : Type 0 where
  pub needs : List Need
  pub spot : Spot

abbrev pub Covers : Spot → Place → Type 0
Covers Unsure e = Unit {0}
Covers Clear e = is_index_place e ≡ false
Covers (At b) e = b ≡ e

abbrev pub apart_spot : Spot → Spot
apart_spot Unsure = Unsure
apart_spot Clear = At Other
apart_spot (At b) = At (apart b)

abbrev pub spot_behind : Spot → Kind → Text → Spot
spot_behind (At b) k p = At (behind b k p)
spot_behind _ k p = cond (is_dot k p) Unsure (At Other)

abbrev pub op_spot : Spot → Text → Spot
op_spot o [] = o
op_spot o (c ∷ cs) = op_spot (spot_behind o Punct (c ∷ [])) cs

abbrev pub op_before : Place → Text → Place
op_before e [] = e
op_before e (c ∷ cs) = op_before (behind e Punct (c ∷ [])) cs

abbrev pub bit_before : Place → Bit → Place
bit_before e Blank = apart e
bit_before e (Fixed k t) = behind e k t
bit_before e (Operator cs) = op_before e cs
bit_before e Semicolons = e

abbrev pub bits_before : Place → List Bit → Place
bits_before e [] = e
bits_before e (x ∷ p) = bits_before (bit_before e x) p

abbrev pub extras : Text → List Need → List Need
extras t [] = []
extras t (n ∷ ns) = more n t ++ extras t ns

abbrev pub ends_solidus : Text → Bool
ends_solidus [] = false
ends_solidus (c ∷ []) = c == 47
ends_solidus (c ∷ d ∷ cs) = ends_solidus (d ∷ cs)

abbrev pub op_asks : Text → List Need
op_asks cs = Grow cs ∷ cond (ends_solidus cs) (Solidus ∷ []) []

abbrev pub behind_gap : Border → Border
behind_gap b = record { needs = []; spot = apart_spot b.spot }

abbrev pub behind_tok : Border → Kind → Text → Border
behind_tok b k t = record { needs = asks k t ++ extras t b.needs; spot = spot_behind b.spot k t }

abbrev pub behind_op : Border → Text → Border
behind_op b cs = record { needs = op_asks cs ++ extras cs b.needs; spot = op_spot b.spot cs }

-- the border after a piece
abbrev pub beyond_bit : Border → Bit → Border
beyond_bit b Blank = behind_gap b
beyond_bit b (Fixed k t) = behind_tok b k t
beyond_bit b (Operator cs) = behind_op b cs
beyond_bit b Semicolons = b

abbrev pub beyond : Border → List Bit → Border
beyond b [] = b
beyond b (x ∷ p) = beyond (beyond_bit b x) p

abbrev pub is_fixed_kind : Kind → Bool
is_fixed_kind Ident = true
is_fixed_kind Underscore = true
is_fixed_kind Punct = true
is_fixed_kind (Opener d) = true
is_fixed_kind (Closer d) = true
is_fixed_kind _ = false

abbrev pub op_suits : Text → Need → Bool
op_suits [] n = false
op_suits (c ∷ cs) n = suits n Punct (c ∷ []) && glue n (c ∷ cs)

-- the piece may stand at the border
abbrev pub tok_passes : Border → Kind → Text → Bool
tok_passes b k t = is_fixed_kind k && (has_form k t && (is_low t && all (λ n. suits n k t) b.needs))

abbrev pub bit_passes : Border → Bit → Bool
bit_passes b Blank = all blank_ok b.needs
bit_passes b (Fixed k t) = tok_passes b k t
bit_passes b (Operator cs) = is_operator cs && all (op_suits cs) b.needs
bit_passes b Semicolons = true

abbrev pub pass : Border → List Bit → Bool
pass b [] = true
pass b (x ∷ p) = bit_passes b x && pass (beyond_bit b x) p

-- What stands before
pub apart_twice : (e : Place) → apart (apart e) ≡ apart e
apart_twice Other = refl
apart_twice Point = refl
apart_twice Far = refl
apart_twice Points = refl

spaced_apart : (g : Text) (e : Place) → spaced g (apart e) ≡ apart e
spaced_apart [] e = refl
spaced_apart (c ∷ g) e = apart_twice e

pub clear_apart : (e : Place) → is_index_place e ≡ false → Other ≡ apart e
clear_apart Other h = refl
clear_apart Point h = cc
clear_apart Far h = cc
clear_apart Points h = refl

pub apart_covers : (o : Spot) (e : Place) → Covers o e → Covers (apart_spot o) (apart e)
apart_covers Unsure e c = tt
apart_covers Clear e c = clear_apart e c
apart_covers (At b) e c = ap apart c

unknown_covers : (e : Place) (k : Kind) (p : Text) (d : Bool) → is_dot k p ≡ d
    → Covers (cond d Unsure (At Other)) (behind e k p)
unknown_covers e k p true h = tt
unknown_covers e k p false h = ap (λ x. cond x (cond (is_near e) Points Point) Other) (sym h)

pub spot_covers : (o : Spot) (e : Place) (k : Kind) (p : Text) → Covers o e → Covers (spot_behind o k p) (behind e k p)
spot_covers Unsure e k p c = unknown_covers e k p (is_dot k p) refl
spot_covers Clear e k p c = unknown_covers e k p (is_dot k p) refl
spot_covers (At b) e k p c = ap (λ x. behind x k p) c

op_covers : (o : Spot) (e : Place) (cs : Text) → Covers o e → Covers (op_spot o cs) (op_before e cs)
op_covers o e [] c = c
op_covers o e (x ∷ cs) c = op_covers (spot_behind o Punct (x ∷ [])) (behind e Punct (x ∷ [])) cs
    (spot_covers o e Punct (x ∷ []) c)

bit_covers : (b : Border) (e : Place) (x : Bit) → Covers b.spot e → Covers (beyond_bit b x).spot (bit_before e x)
bit_covers b e Blank c = apart_covers b.spot e c
bit_covers b e (Fixed k t) c = spot_covers b.spot e k t c
bit_covers b e (Operator cs) c = op_covers b.spot e cs c
bit_covers b e Semicolons c = c

pub bits_covers : (b : Border) (e : Place) (p : List Bit) → Covers b.spot e → Covers (beyond b p).spot (bits_before e p)
bits_covers b e [] c = c
bits_covers b e (x ∷ p) c = bits_covers (beyond_bit b x) (bit_before e x) p (bit_covers b e x c)

-- The text from a place on.
pub record Rest (e : Place) (y : Text) (ps : List Part) (last : Text) : Type 0 where
  pub whole : y ≡ spell ps last
  pub fit : Fits e ps last
  pub end : is_last_gap last ≡ true

-- with one more leading blank or LF
abbrev pub wider : ℕ → List Part → List Part
wider c [] = []
wider c (p ∷ ps) = record { gap = c ∷ p.gap; kind = p.kind; piece = p.piece } ∷ ps

abbrev pub wider_last : ℕ → List Part → Text → Text
wider_last c [] last = c ∷ last
wider_last c (p ∷ ps) last = last

pub wider_gapped : (c : ℕ) (ps : List Part) → gapped (wider c ps) ≡ true
wider_gapped c [] = refl
wider_gapped c (p ∷ ps) = refl

wider_spell : (c : ℕ) (ps : List Part) (last : Text) → c ∷ spell ps last ≡ spell (wider c ps) (wider_last c ps last)
wider_spell c [] last = refl
wider_spell c (p ∷ ps) last = refl

wider_fit : (c : ℕ) (e : Place) (ps : List Part) (last : Text) → gap_step Outside c ≡ Outside → Fits (apart e) ps last
    → Fits e (wider c ps) (wider_last c ps last)
wider_fit c e [] last h f = tt
wider_fit c e (p ∷ ps) last h f =
    let P : Place → Type 0 = λ x. Had p.kind p.piece (spell ps last) (is_index_place x) in
    let Q : Place → Type 0 = λ x. Fits (behind x p.kind p.piece) ps last in (
      ap (λ s. is_closed (gap_end s p.gap)) h
          ∙ f.0,
      subst P (spaced_apart p.gap e) f.1,
      subst Q (spaced_apart p.gap e) f.2,
    )

wider_end : (c : ℕ) (ps : List Part) (last : Text) → gap_step Outside c ≡ Outside → is_last_gap last ≡ true
    → is_last_gap (wider_last c ps last) ≡ true
wider_end c [] last h e = ap (λ s. is_closed_or_line (gap_end s last)) h ∙ e
wider_end c (p ∷ ps) last h e = e

pub wider_rest : (c : ℕ) (e : Place) (y : Text) (ps : List Part) (last : Text) → gap_step Outside c ≡ Outside
    → Rest (apart e) y ps last
    → Rest e (c ∷ y) (wider c ps) (wider_last c ps last)
wider_rest c e y ps last h r = record {
  whole = ap (λ l. c ∷ l) r.whole ∙ wider_spell c ps last;
  fit = wider_fit c e ps last h r.fit;
  end = wider_end c ps last h r.end;
}

-- from a gap on, it counts for nothing that one stands before
pub gapped_rest : (e : Place) (y : Text) (ps : List Part) (last : Text) → gapped ps ≡ true → Rest (apart e) y ps last
    → Rest e y ps last
gapped_rest e y ps last g r = record { whole = r.whole; fit = fits ps g r.fit; end = r.end }
  where
    at : (p : Part) (ps : List Part) (g : Text) → not (is_nil g) ≡ true → spaced g (apart e) ≡ spaced g e
    at p ps [] h = cc
    at p ps (c ∷ g) h = apart_twice e

    fits : (ps : List Part) → gapped ps ≡ true → Fits (apart e) ps last → Fits e ps last
    fits [] h f = tt
    fits (p ∷ ps) h f =
        let P : Place → Type 0 = λ x. Had p.kind p.piece (spell ps last) (is_index_place x) in
        let Q : Place → Type 0 = λ x. Fits (behind x p.kind p.piece) ps last in
        (f.0, subst P (at p ps p.gap h) f.1, subst Q (at p ps p.gap h) f.2)

-- Places move, tokens stay.
pub size-append : (x y : Text) → size (x ++ y) ≡ size x + size y
size-append x y = ap length (encodes-append x y) ∙ length-append (encode_utf8_all x) (encode_utf8_all y)

pub tokens_wider : (c at : ℕ) (ps : List Part) → (to : ℕ) × (tokens_from at (wider c ps) ≡ tokens_from to ps)
tokens_wider c at [] = (at, refl)
tokens_wider c at (p ∷ ps) =
    let cut = size-append (c ∷ []) p.gap in
    let place : at + size (c ∷ p.gap) ≡ at + size (c ∷ []) + size p.gap = omega (arith, cut) in (
      at + size (c ∷ []),
      ap (λ n. record {
        kind = p.kind;
        text = encode_utf8_all (text_of_piece p.kind p.piece);
        joint =
            is_joint p ps;
        at = n;
        len = size p.piece;
      } ∷ tokens_from (n + size p.piece) ps) place,
    )

-- The tokens of the one spell what they have before the tokens of the other.
abbrev pub Along : (List Token → List Token → Type 0) → List Part → List Part → Type 0
Along R ps qs = (at : ℕ) → (to : ℕ) × R (tokens_from at ps) (tokens_from to qs)

-- one piece
pub and_false : (b : Bool) → b && false ≡ false
and_false true = refl
and_false false = refl

pub piece_rest : (e : Place) (k : Kind) (x y : Text) (ps : List Part) (last : Text)
    → ((r : Text) → r ≡ y → Had k x r (is_index_place e)) → Rest (behind e k x) y ps last
    → Rest e (x ++ y) (part k x ∷ ps) last
piece_rest e k x y ps last h r = record {
  whole = ap (λ l. x ++ l) r.whole;
  fit = (refl, h (spell ps last) (sym r.whole), r.fit);
  end = r.end;
}

pub one_along : (k : Kind) (x t : Text) (ps : List Part) → encode_utf8_all (text_of_piece k x) ≡ t
    → Along (IsOne k t) (part k x ∷ ps) ps
one_along k x t ps h at = (at + size [] + size x, (refl, h, refl))

-- operators
punct_had : (c : ℕ) (y r : Text) (ps : List Part) (i : Bool) → has_form Punct (c ∷ []) ≡ true
    → all_met (asks Punct (c ∷ [])) y ps ≡ true → r ≡ y → Had Punct (c ∷ []) r i
punct_had c y r ps i f m e = subst (λ z. Had Punct (c ∷ []) z i) (sym e)
    (had_form Punct (c ∷ []) y i refl f (follows Punct (c ∷ []) y ps m (and_false (begins_dot y))))

inner_had : (c d : ℕ) (x r : Text) (i : Bool) → has_form Punct (c ∷ []) ≡ true → not (begins_comment c d) ≡ true
    → r ≡ d ∷ x → Had Punct (c ∷ []) r i
unfolding may_precede
inner_had c d x r i f h e = subst (λ z. Had Punct (c ∷ []) z i) (sym e) (had_form Punct (c ∷ []) (d ∷ x) i refl f h)

op_rest : (cs : Text) (e : Place) (y : Text) (ps : List Part) (last : Text) → is_run cs ≡ true
    → all_met (cond (ends_solidus cs) (Solidus ∷ []) []) y ps ≡ true
    → Rest (op_before e cs) y ps last → Rest e (cs ++ y) (op_parts cs ps) last
op_rest [] e y ps last h m r = cc
op_rest (c ∷ []) e y ps last h m r = piece_rest e Punct (c ∷ []) y ps last
    (λ z q. punct_had c y z ps (is_index_place e) (and_parts (has_form Punct (c ∷ [])) _ h).0 m q) r
op_rest (c ∷ d ∷ cs) e y ps last h m r =
    let h1 = and_parts (has_form Punct (c ∷ [])) _ h in
    let h0 = and_parts (is_low (c ∷ [])) _ h1.1 in
    let h2 = and_parts (keeps (c ∷ [])) _ h0.1 in
    let h3 = and_parts (keeps (d ∷ [])) _ h2.1 in
    let h4 = and_parts (not (begins_comment c d)) _ h3.1 in
    piece_rest e Punct (c ∷ []) _ _ last (λ z q. inner_had c d (cs ++ y) z (is_index_place e) h1.0 h4.0 q)
    (op_rest (d ∷ cs) (behind e Punct (c ∷ [])) y ps last h4.1 m r)

-- what is asked before the piece
pub met_before : (ns : List Need) (k : Kind) (t y : Text) (ps qs : List Part) → all (λ n. suits n k t) ns ≡ true
    → all_met (extras t ns) y ps ≡ true
    → all_met ns (t ++ y) (part k t ∷ qs) ≡ true
met_before [] k t y ps qs h m = refl
met_before (n ∷ ns) k t y ps qs h m =
    let a = and_parts (suits n k t) _ h in
    let b = all_append (λ n. met n y ps) (more n t) (extras t ns) m in
    and_from (met n (t ++ y) (part k t ∷ qs)) _ (met_piece n k t y ps qs a.0 b.0) (met_before ns k t y ps qs a.1 b.1)

met_before_op : (ns : List Need) (c : ℕ) (cs y : Text) (ps qs : List Part) → all (op_suits (c ∷ cs)) ns ≡ true
    → all_met (extras (c ∷ cs) ns) y ps ≡ true
    → all_met ns ((c ∷ cs) ++ y) (part Punct (c ∷ []) ∷ qs) ≡ true
met_before_op [] c cs y ps qs h m = refl
met_before_op (n ∷ ns) c cs y ps qs h m =
    let a = and_parts (op_suits (c ∷ cs) n) _ h in
    let s = and_parts (suits n Punct (c ∷ [])) _ a.0 in
    let b = all_append (λ n. met n y ps) (more n (c ∷ cs)) (extras (c ∷ cs) ns) m in
    and_from (met n ((c ∷ cs) ++ y) (part Punct (c ∷ []) ∷ qs)) _
    (met_text n Punct (c ∷ []) (c ∷ cs) y ps qs s.0 s.1 b.0) (met_before_op ns c cs y ps qs a.1 b.1)

fixed_shown : (k : Kind) (t : Text) → is_fixed_kind k ≡ true → text_of_piece k t ≡ t
fixed_shown Ident t h = refl
fixed_shown Underscore t h = refl
fixed_shown Punct t h = refl
fixed_shown (Opener d) t h = refl
fixed_shown (Closer d) t h = refl
fixed_shown _ t h = cc

fixed_number : (k : Kind) (i : Bool) → is_fixed_kind k ≡ true → is_number_kind k && i ≡ false
fixed_number Int i h = cc
fixed_number Float i h = cc
fixed_number _ i h = refl

fixed_point : (k : Kind) (t y : Text) → is_fixed_kind k ≡ true → begins_dot y && point_of k t ≡ false
fixed_point Float t y h = cc
fixed_point _ t y h = and_false (begins_dot y)

pub space_step : gap_step Outside 32 ≡ Outside
unfolding gap_step
space_step = refl

-- The text and the parts of a piece before others.
pub record Came (e : Place) (ns : List Need) (y : Text) (R : List Token → List Token → Type 0) (ps : List Part) : Type 0
  where
    pub parts : List Part
    pub last : Text
    pub rest : Rest e y parts last
    pub meets : all_met ns y parts ≡ true
    pub along : Along R parts ps

came_at : (e : Place) (ns : List Need) (x y : Text) (R : List Token → List Token → Type 0) (ps : List Part) → x ≡ y
    → Came e ns x R ps → Came e ns y R ps
came_at e ns x y R ps h c = subst (λ z. Came e ns z R ps) h c

-- a token of a fixed kind and text
fixed_along : (k : Kind) (t : Text) (b : Border) (ps : List Part) → tok_passes b k t ≡ true
    → Along (IsOne k t) (part k t ∷ ps) ps
fixed_along k t b ps h =
    let h1 = and_parts (is_fixed_kind k) _ h in
    let h2 = and_parts (has_form k t) _ h1.1 in
    one_along k t t ps (ap encode_utf8_all (fixed_shown k t h1.0) ∙ low_encodes t (and_parts (is_low t) _ h2.1).0)

tok_came : (k : Kind) (t : Text) (b : Border) (e : Place) (y : Text) (ps : List Part) (last : Text)
    → tok_passes b k t ≡ true → Rest (behind e k t) y ps last → all_met (behind_tok b k t).needs y ps ≡ true
    → Came e b.needs (t ++ y) (IsOne k t) ps
tok_came k t b e y ps last h r m =
    let h1 = and_parts (is_fixed_kind k) _ h in
    let h2 = and_parts (has_form k t) _ h1.1 in
    let h3 = and_parts (is_low t) _ h2.1 in
    let ms = all_append (λ n. met n y ps) (asks k t) (extras t b.needs) m in
    let fits : Had k t y (is_index_place e) =
    had_form k t y (is_index_place e) (fixed_number k _ h1.0) h2.0 (follows k t y ps ms.0 (fixed_point k t y h1.0)) in
    record {
      parts = part k t ∷ ps;
      last = last;
      rest = piece_rest e k t y ps last (λ l q. subst (λ l. Had k t l (is_index_place e)) (sym q) fits) r;
      meets = met_before b.needs k t y ps ps h3.1 ms.1;
      along = fixed_along k t b ps h;
    }

bit_came : (x : Bit) (b : Border) (e : Place) (y : Text) (ps : List Part) (last : Text) → bit_passes b x ≡ true
    → Rest (bit_before e x) y ps last
    → all_met (beyond_bit b x).needs y ps ≡ true → Came e b.needs (text_of_bit x ++ y) (IsBit x) ps
bit_came Blank b e y ps last h r m =
    let g = wider_gapped 32 ps in
    record {
      parts = wider 32 ps;
      last = wider_last 32 ps last;
      rest = wider_rest 32 e y ps last space_step r;
      meets = all_by blank_ok (λ n. met n (32 ∷ y) (wider 32 ps)) b.needs (λ n. met_space n _ _ g) h;
      along = λ at. tokens_wider 32 at ps;
    }
bit_came (Fixed k t) b e y ps last h r m = tok_came k t b e y ps last h r m
bit_came (Operator []) b e y ps last h r m = absurd (no_operator (and_parts (is_operator []) _ h).0)
bit_came (Operator (c ∷ cs)) b e y ps last h r m =
    let h1 = and_parts (is_operator (c ∷ cs)) _ h in
    let ms = all_append (λ n. met n y ps) (op_asks (c ∷ cs)) (extras (c ∷ cs) b.needs) m in
    let grow = and_parts (not (next_part (grows (c ∷ cs)) ps)) _ ms.0 in
    record {
      parts = op_parts (c ∷ cs) ps;
      last = last;
      rest = op_rest (c ∷ cs) e y ps last (operator_run (c ∷ cs) h1.0) grow.1 r;
      meets = met_before_op b.needs c cs y ps (op_parts cs ps) h1.1 ms.1;
      along = λ at. op_along c cs at ps h1.0 (not-true _ grow.0);
    }
bit_came Semicolons b e y ps last h r m =
    record { parts = ps; last = last; rest = r; meets = m; along = λ at. (at, (0, refl)) }

pub bits_came : (p : List Bit) (b : Border) (e : Place) (y : Text) (ps : List Part) (last : Text) → pass b p ≡ true
    → Rest (bits_before e p) y ps last
    → all_met (beyond b p).needs y ps ≡ true → Came e b.needs (text_of_bits p ++ y) (AreBits p) ps
bits_came [] b e y ps last h r m = record { parts = ps; last = last; rest = r; meets = m; along = λ at. (at, refl) }
bits_came (x ∷ p) b e y ps last h r m =
    let a = and_parts (bit_passes b x) _ h in
    let c = bits_came p (beyond_bit b x) (bit_before e x) y ps last a.1 r m in
    let d = bit_came x b e (text_of_bits p ++ y) c.parts c.last a.0 c.rest c.meets in
    came_at e b.needs (text_of_bit x ++ (text_of_bits p ++ y)) ((text_of_bit x ++ text_of_bits p) ++ y)
    (AreBits (x ∷ p)) ps
    (sym (append_assoc (text_of_bit x) (text_of_bits p) y)) (record {
      parts = d.parts;
      last = d.last;
      rest = d.rest;
      meets = d.meets;
      along = λ at.
          let w = d.along at in
          let v = c.along w.0 in
          (v.0, (tokens_from w.0 c.parts, w.1, v.1));
    })

-- a piece that passes is its own bytes
tok_low : (k : Kind) (t : Text) (b : Border) → tok_passes b k t ≡ true → is_low t ≡ true
tok_low k t b h =
    let h1 = and_parts (is_fixed_kind k) _ h in
    let h2 = and_parts (has_form k t) _ h1.1 in
    (and_parts (is_low t) _ h2.1).0

bit_low : (x : Bit) (b : Border) → bit_passes b x ≡ true → is_low (text_of_bit x) ≡ true
bit_low Blank b h = refl
bit_low (Fixed k t) b h = tok_low k t b h
bit_low (Operator cs) b h = run_low cs (operator_run cs (and_parts (is_operator cs) _ h).0)
bit_low Semicolons b h = refl

pub bits_low : (p : List Bit) (b : Border) → pass b p ≡ true → is_low (text_of_bits p) ≡ true
bits_low [] b h = refl
bits_low (x ∷ p) b h =
    let a = and_parts (bit_passes b x) _ h in
    all_both _ (text_of_bit x) (text_of_bits p) (bit_low x b a.0) (bits_low p (beyond_bit b x) a.1)
