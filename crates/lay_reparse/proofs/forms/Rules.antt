-- Forms of the notation pass where their parts do: a rule for each constructor, and one for lists, bodies, fields and
-- braces. Whether the borders fit is a test that computes.
use Rattle.std.proofs.Common.{◌≡◌, ℕ, List, [], ◌∷◌, ◌++◌, Bool, true, false, cond, not, ◌&&◌, ◌||◌, sym, refl, ap, subst, Option, Some, None}
use Rattle.std.proofs.lemmas.Bool.{and_parts, and_from, or_left, or_right, not-true}
use Rattle.std.proofs.lemmas.Slice.Eq.{bytes_eq-Decides}
use Rattle.unicode_ident.proofs.Computing.{unicode_ident}
use lib.Utf8.{encode}
use Rattle.lay_piece.specs.Chars.{starts_word, in_word}
use Rattle.lay_piece.specs.Forms.{has_form, after_literal}
use Rattle.lay_piece.specs.declared.kind.Kind.{Kind}
use Rattle.lay_piece.specs.declared.kind.Kind.TheVariants.{Doc}
use Rattle.lay_piece.specs.declared.kind.Delim.{Delim}
use Rattle.lay_piece.specs.declared.kind.Delim.TheVariants.{Brace}
use Rattle.lay_token.proofs.Deciding.{bytes_same}
use Rattle.lay_form.specs.Form as form
use Rattle.lay_form.specs.Form.{Bit, Blank, Semicolons, Space, Soft, Hard, Bare, Unseen, Marked, Nothing, ArmComma, Form, Done, Piece, Leaf, Listed, ListedDoc, Brk, LastComma, Group, Deeper, Optional, Docs, Body, opener, closer, comma}
use Rattle.lay_form.specs.Spelled.{may_lack}
use Rattle.lay_form.specs.Notation.{when, B, H, N, B-, C4, each, comma_gap, last_break, comma_list, body, with_commas, fields, braces, where_body, where_semicolon, where_word, soft, behind_attrs, lines}
use Rattle.lay_form.specs.Layout.{text_of_bits, led, bits_end_in_point, token_ends_in_point, space_ends_in_point, keeps_point, ends_behind_point}
use Rattle.lay_reparse.proofs.borders.Need.{Text, begins_dot, Need, Word, RawWord, Life, Literal, Number, IntBare, FloatWord, Solidus, LineDoc, IntPoint, Grow, Joint, Loose, allows, grows, glue, all, all_by, blank_ok, line_ok}
use Rattle.lay_reparse.proofs.borders.OperatorRuns.{is_operator}
use Rattle.lay_node.specs.tokens.Listing.{is_doc_kind}
use Rattle.lay_reparse.proofs.forms.Opened.{turned, bits_open, is_even, even}
use Rattle.lay_reparse.proofs.texts.Laid.{as_block, laid, raw, is_laid, is_leaf_kind}
use Rattle.lay_reparse.proofs.borders.Border.{Other, Point, Far, Points, is_index_place, Border, Spot, Unsure, Clear, At, beyond, pass, behind_gap}
use Rattle.lay_reparse.proofs.borders.Move.{under, among, same_need, spot_under, same_before, same_before_is}
use Rattle.lay_reparse.proofs.forms.Passes.{Passes, stands, piece_passes, braces_pass, ops_fine, plain, loosened, leads, fits, behind_leaf, token_passes, behind_token, doc_passes, break_passes, beyond_break, comma_passes, beyond_comma}

unfoldable pub tables : Unit {0}
unfolding unicode_ident starts_word in_word allows grows glue has_form after_literal is_operator encode
tables = tt

same_need-refl : (n : Need) → same_need n n ≡ true
same_need-refl (Grow cs) = (bytes_eq-Decides cs cs).1 refl
same_need-refl _ = refl

all_among : (ns ms : List Need) → ((n : Need) → among ns n ≡ true → among ms n ≡ true) → all (among ms) ns ≡ true
all_among [] ms f = refl
all_among (n ∷ ns) ms f = and_from (among ms n) _ (f n (or_left (same_need n n) _ (same_need-refl n)))
    (all_among ns ms (λ m h. f m (or_right (same_need m n) _ h)))

pub spot-refl : (o : Spot) → spot_under o o ≡ true
spot-refl Unsure = refl
spot-refl Clear = refl
spot-refl (At Other) = refl
spot-refl (At Point) = refl
spot-refl (At Far) = refl
spot-refl (At Points) = refl

pub under-refl : (b : Border) → under b b ≡ true
under-refl b = and_from _ _ (all_among b.needs b.needs (λ n h. h)) (spot-refl b.spot)

-- under is transitive
pub same_need-is : (n m : Need) → same_need n m ≡ true → n ≡ m
same_need-is Word Word h = refl
same_need-is RawWord RawWord h = refl
same_need-is Life Life h = refl
same_need-is Literal Literal h = refl
same_need-is Number Number h = refl
same_need-is IntBare IntBare h = refl
same_need-is FloatWord FloatWord h = refl
same_need-is Solidus Solidus h = refl
same_need-is LineDoc LineDoc h = refl
same_need-is IntPoint IntPoint h = refl
same_need-is (Grow a) (Grow b) h = ap Grow (bytes_same a b h)
same_need-is Joint Joint h = refl
same_need-is Loose Loose h = refl
same_need-is _ _ h = cc

among_in : (ms ks : List Need) (n : Need) → all (among ks) ms ≡ true → among ms n ≡ true → among ks n ≡ true
among_in [] ks n a h = cc
among_in (m ∷ ms) ks n a h = let q = and_parts (among ks m) _ a in
    at (same_need n m) refl h q.0 (λ k. among_in ms ks n q.1 k)
  where
    at : (x : Bool) → same_need n m ≡ x → x || among ms n ≡ true → among ks m ≡ true
        → (among ms n ≡ true → among ks n ≡ true) → among ks n ≡ true
    at true e h k f = subst (λ z. among ks z ≡ true) (sym (same_need-is n m e)) k
    at false e h k f = f h

spot-trans : (a b c : Spot) → spot_under a b ≡ true → spot_under b c ≡ true → spot_under a c ≡ true
spot-trans a b Unsure h k = refl
spot-trans a Unsure Clear h k = cc
spot-trans a Unsure (At z) h k = cc
spot-trans a Clear (At z) h k = cc
spot-trans Unsure Clear Clear h k = cc
spot-trans Clear Clear Clear h k = refl
spot-trans (At x) Clear Clear h k = h
spot-trans Unsure (At y) Clear h k = cc
spot-trans Unsure (At y) (At z) h k = cc
spot-trans Clear (At y) Clear h k = cc
spot-trans Clear (At y) (At z) h k = cc
spot-trans (At x) (At y) (At z) h k = subst (λ w. same_before w z ≡ true) (sym (same_before_is x y h)) k
spot-trans (At x) (At y) Clear h k = subst (λ w. not (is_index_place w) ≡ true) (sym (same_before_is x y h)) k

pub under-trans : (a b c : Border) → under a b ≡ true → under b c ≡ true → under a c ≡ true
under-trans a b c h k =
    let p = and_parts _ _ h in
    let q = and_parts _ _ k in
    and_from _ _ (all_by (among b.needs) (among c.needs) a.needs (λ n m. among_in b.needs c.needs n q.0 m) p.0)
    (spot-trans a.spot b.spot c.spot p.1 q.1)

-- The form passes from b to c, whatever stands before. One rule for each constructor.
pub record On (o : Option (List Delim)) (b : Border) (f : Form) (c : Border) : Type 0 where
  pub go : (v : Bool) → Passes o v f b c

-- with no delimiter open
abbrev pub From : Border → Form → Border → Type 0
From b f c = On even b f c

abbrev pub All : Border → List Form → Border → Type 0
All g [] h = Unit {0}
All g (e ∷ es) h = From g e h × All g es h

pub ends : {o : Option (List Delim)} {b c : Border} → is_even o && under b c ≡ true → On o b Done c
ends u = record { go = λ v. u }

-- a piece that doesn't begin with a point
abbrev pub simple : Border → List Bit → Bool
simple b p = stands p && (not (begins_dot (text_of_bits p)) && pass b p)

led_simple : (v : Bool) (p : List Bit) → begins_dot (text_of_bits p) ≡ false → p ≡ led v p
led_simple v p h = ap (λ z. cond (z && v) (Blank ∷ p) p) (sym h)

pub simple_led : (v : Bool) (b : Border) (p : List Bit) → simple b p ≡ true
    → (piece_passes v b p ≡ true) × (p ≡ led v p)
simple_led v b p h =
    let q = and_parts (stands p) _ h in
    let r = and_parts (not (begins_dot (text_of_bits p))) _ q.1 in
    let e = led_simple v p (not-true _ r.0) in
    (and_from (stands p) _ q.0 (subst (λ z. pass b z ≡ true) e r.1), e)

pub fixed : {o : Option (List Delim)} {p : List Bit} {f : Form} {b c : Border} → simple b p ≡ true
    → On (bits_open o p) (beyond b p) f c → On o b (Piece p f) c
fixed {o} {p} {f} {b} {c} h k = record {
  go = λ v.
      let q = simple_led v b p h in (
        q.0,
        subst (λ z. Passes (bits_open o p) (bits_end_in_point v p) f (beyond b z) c) q.1
            (k.go (bits_end_in_point v p)),
      );
}

-- a piece that may get a leading blank
pub dotted : {o : Option (List Delim)} {p : List Bit} {f : Form} {b c : Border}
    → stands p && (pass b p && pass b (Blank ∷ p)) ≡ true → On (bits_open o p) (beyond b p) f c
    → On (bits_open o p) (beyond b (Blank ∷ p)) f c → On o b (Piece p f) c
dotted {o} {p} {f} {b} {c} h k l = record { go = λ v. at v (begins_dot (text_of_bits p) && v) }
  where
    at : (v x : Bool) → (stands p && pass b (cond x (Blank ∷ p) p) ≡ true)
        × Passes (bits_open o p) (bits_end_in_point v p) f (beyond b (cond x (Blank ∷ p) p)) c
    at v true = let q = and_parts (stands p) _ h in
        (and_from (stands p) _ q.0 (and_parts (pass b p) _ q.1).1, l.go (bits_end_in_point v p))
    at v false = let q = and_parts (stands p) _ h in
        (and_from (stands p) _ q.0 (and_parts (pass b p) _ q.1).0, k.go (bits_end_in_point v p))

-- An optional word. What follows passes after it, and without it.
pub whenever : (is_there : Bool) (p : List Bit) {f : Form} {b c : Border} → simple b p ≡ true → bits_open even p ≡ even
    → From (beyond b p) f c → From b f c → From b (when is_there p f) c
whenever true p {f} {b} {c} h e k j = fixed h (subst (λ o. On o (beyond b p) f c) (sym e) k)
whenever false p h e k j = j

-- An optional word that leaves the border as it is.
pub same_whenever : (is_there : Bool) (p : List Bit) {f : Form} {b c : Border} → simple b p ≡ true → bits_open even p ≡ even
    → beyond b p ≡ b → From b f c → From b (when is_there p f) c
same_whenever is_there p {f} {b} {c} h e s k = whenever is_there p h e (subst (λ z. From z f c) (sym s) k) k

pub kept : {o : Option (List Delim)} {p : List Bit} {f : Form} {b c : Border} → simple b p ≡ true → bits_open o p ≡ o
    → On o (beyond b p) f c → On o b (Optional true p f) c
kept {o} {p} {f} {b} {c} h e k = record {
  go = λ v.
      let q = simple_led v b p h in
      (q.0, e, subst (λ z. Passes o (bits_end_in_point v p) f (beyond b z) c) q.1 (k.go (bits_end_in_point v p)));
}

pub left_out : {o : Option (List Delim)} {p : List Bit} {f : Form} {b c : Border} → ops_fine p ≡ true
    → bits_open o p ≡ o → On o b f c → On o b (Optional false p f) c
left_out n e k = record { go = λ v. (n, e, k.go v) }

pub tree_token : {o : Option (List Delim)} {k : Kind} {t : Text} {f : Form} {b c : Border}
    → is_leaf_kind k && all (leads k) b.needs ≡ true → fits b.spot k (raw k t) && is_laid k t ≡ true
    → On o (behind_leaf b k t) f c → On o b (Leaf k t f) c
tree_token h g k = record { go = λ v. (h, g, k.go _) }

pub list_token : {o : Option (List Delim)} {k : Kind} {t : Text} {joint : Bool} {f : Form} {b c : Border}
    → is_doc_kind k ≡ false
    → ((v : Bool) → token_passes b v (laid k t) (raw k t) joint t && is_laid k t ≡ true)
    → On (turned k o) (behind_token b (laid k t) (raw k t) joint) f c → On o b (Listed k t joint f) c
list_token n h k = record { go = λ v. (n, h v, k.go _) }

pub list_doc : {o : Option (List Delim)} {inner : Bool} {t : Text} {f : Form} {b c : Border}
    → ((v : Bool) → token_passes b v (Doc inner (as_block inner t)) (raw (Doc inner false) t) false t
    && is_laid (Doc inner false) t ≡ true)
    → On o (behind_token b (Doc inner (as_block inner t)) (raw (Doc inner false) t) false) f c
    → On o b (ListedDoc inner t f) c
list_doc h k = record { go = λ v. (h v, k.go _) }

pub breaks : {o : Option (List Delim)} {a : Space} {f : Form} {b c : Border} → break_passes a b ≡ true
    → On o (beyond_break a b) f c → On o b (Brk a f) c
breaks h k = record { go = λ v. (h, k.go _) }

pub comma_or : {o : Option (List Delim)} {n : ℕ} {f : Form} {b c : Border} → comma_passes n b ≡ true
    → On o (beyond_comma n b) f c → On o b (LastComma n f) c
comma_or h k = record { go = λ v. (h, k.go _) }

pub within : {o : Option (List Delim)} {k : Bool} {n : ℕ} {i f : Form} {b c : Border} (g h : Border) → under b g ≡ true
    → From g i h → On o h f c → On o b (Group k n i f) c
within g h u i k = record { go = λ v. (g, h, u, i.go v, k.go _) }

pub part : {o : Option (List Delim)} {i f : Form} {b c : Border} (g h : Border) → under b g ≡ true → From g i h
    → On o h f c → On o b (form.Part i f) c
part g h u i k = record { go = λ v. (g, h, u, i.go v, k.go _) }

pub level : {o : Option (List Delim)} {i f : Form} {b c : Border} (g h : Border) → under b g ≡ true → From g i h
    → On o h f c → On o b (Deeper i f) c
level g h u i k = record { go = λ v. (g, h, u, i.go v, k.go _) }

-- from a border that asks for less, to one that asks for more
pub weaken : {i : Form} {b c a z : Border} → under a b ≡ true → under c z ≡ true → From b (Deeper i Done) c
    → From a (Deeper i Done) z
weaken {i} {b} {c} {a} {z} u w k = record {
  go = λ v. let q = k.go v in
      (q.0, q.1, under-trans a b q.0 u q.2, q.3, under-trans q.1 c z q.4 w);
}

-- What passes to a border passes to one that asks for more.
pub to_wider : (o : Option (List Delim)) (v : Bool) (f : Form) (b c z : Border) → under c z ≡ true → Passes o v f b c
    → Passes o v f b z
to_wider o v Done b c z u q =
    let p = and_parts (is_even o) _ q in and_from (is_even o) _ p.0 (under-trans b c z p.1 u)
to_wider o v (Piece p f) b c z u q =
    (q.0, to_wider (bits_open o p) (bits_end_in_point v p) f (beyond b (led v p)) c z u q.1)
to_wider o v (Leaf k t f) b c z u q =
    (q.0, q.1, to_wider o (token_ends_in_point k t) f (behind_leaf b k t) c z u q.2)
to_wider o v (Listed k t joint f) b c z u q = (
  q.0,
  q.1,
  to_wider (turned k o) (token_ends_in_point k t) f (behind_token b (laid k t) (raw k t) joint) c z u q.2,
)
to_wider o v (ListedDoc inner t f) b c z u q = (
  q.0,
  to_wider o false f (behind_token b (Doc inner (as_block inner t)) (raw (Doc inner false) t) false) c z u q.1,
)
to_wider o v (Brk g f) b c z u q = (q.0, to_wider o (space_ends_in_point v g) f (beyond_break g b) c z u q.1)
to_wider o v (LastComma n f) b c z u q = (q.0, to_wider o (keeps_point v n) f (beyond_comma n b) c z u q.1)
to_wider o v (Group k n i f) b c z u q =
    (q.0, q.1, q.2, q.3, to_wider o (ends_behind_point v i) f q.1 c z u q.4)
to_wider o v (form.Part i f) b c z u q =
    (q.0, q.1, q.2, q.3, to_wider o (ends_behind_point v i) f q.1 c z u q.4)
to_wider o v (Deeper i f) b c z u q = (q.0, q.1, q.2, q.3, to_wider o (ends_behind_point v i) f q.1 c z u q.4)
to_wider o v (Optional true p f) b c z u q =
    (q.0, q.1, to_wider o (bits_end_in_point v p) f (beyond b (led v p)) c z u q.2)
to_wider o v (Optional false p f) b c z u q = (q.0, q.1, to_wider o v f b c z u q.2)
to_wider o v (Docs inner t f) b c z u q = (
  q.0,
  to_wider o false f (record { needs = cond (as_block inner t) [] (LineDoc ∷ []); spot = At Other }) c z u q.1,
)
to_wider o v (Body Bare Nothing i f) b c z u q =
    (q.0, q.1, q.2, q.3, to_wider o (ends_behind_point v i) f q.1 c z u q.4)
to_wider o v (Body Bare (ArmComma last like) i f) b c z u q =
    (q.0, q.1, q.2, q.3, q.4, to_wider o false f (beyond q.1 comma) c z u q.5)
to_wider o v (Body Unseen Nothing i f) b c z u q =
    (q.0, q.1, q.2, q.3, to_wider o (ends_behind_point v i) f q.1 c z u q.4)
to_wider o v (Body Unseen (ArmComma last like) i f) b c z u q =
    (q.0, q.1, q.2, q.3, q.4, to_wider o (ends_behind_point v i) f q.2 c z u q.5)
to_wider o v (Body Marked Nothing i f) b c z u q =
    (q.0, q.1, q.2, q.3, q.4, to_wider o (ends_behind_point v i) f (loosened q.1) c z u q.5)
to_wider o v (Body Marked (ArmComma last like) i f) b c z u q =
    (q.0, q.1, q.2, q.3, q.4, q.5, to_wider o false f plain c z u q.6)

pub wider : {o : Option (List Delim)} {f : Form} {b c z : Border} → under c z ≡ true → On o b f c → On o b f z
wider {o} {f} {b} {c} {z} u k = record { go = λ v. to_wider o v f b c z u (k.go v) }

pub documented : {o : Option (List Delim)} {inner : Bool} {t : Text} {f : Form} {b c : Border}
    → doc_passes b (Doc inner (as_block inner t)) (raw (Doc inner false) t) t && is_laid (Doc inner false) t ≡ true
    → On o (record { needs = cond (as_block inner t) [] (LineDoc ∷ []); spot = At Other }) f c
    → On o b (Docs inner t f) c
documented h k = record { go = λ v. (h, k.go _) }

-- Bodies: six, by their braces and by what follows them. In no braces, with nothing after it or with a comma;
pub bare_body : {o : Option (List Delim)} {i f : Form} {b c : Border} (g h : Border) → under b g ≡ true → From g i h
    → On o h f c → On o b (Body Bare Nothing i f) c
bare_body g h u i k = record { go = λ v. (g, h, u, i.go v, k.go _) }

pub bare_arm : {o : Option (List Delim)} {last like : Bool} {i f : Form} {b c : Border} (g h : Border) → under b g ≡ true
    → From g i h → pass h comma ≡ true → On o (beyond h comma) f c → On o b (Body Bare (ArmComma last like) i f) c
bare_arm g h u i p k = record { go = λ v. (g, h, u, i.go v, p, k.go _) }

-- in braces that are spelled or not, and laid out without them;
pub unseen_body : {o : Option (List Delim)} {i f : Form} {b c : Border} (g h : Border) → under b g ≡ true → From g i h
    → On o h f c → On o b (Body Unseen Nothing i f) c
unseen_body g h u i k = record { go = λ v. (g, h, u, i.go v, k.go _) }

pub unseen_arm : {o : Option (List Delim)} {last like : Bool} {i f : Form} {b c : Border} (g h : Border)
    → may_lack last like 0 ≡ true → under b g ≡ true → From g i h → On o h f c
    → On o b (Body Unseen (ArmComma last like) i f) c
unseen_arm g h m u i k = record { go = λ v. (m, g, h, u, i.go v, k.go _) }

-- in braces where it is broken: what follows a closure's body stands after it or after `}`.
abbrev pub body_fits_both : Border → Border → Border → Bool
body_fits_both b g h = under b g && braces_pass b g h

pub marked_body : {o : Option (List Delim)} {i f : Form} {b c : Border} (g h : Border) → body_fits_both b g h ≡ true
    → From g i h → On o (loosened h) f c → On o b (Body Marked Nothing i f) c
marked_body {o} {i} {f} {b} g h u i' k =
    let q = and_parts (under b g) _ u in record { go = λ v. (g, h, q.0, q.1, i'.go v, k.go _) }

abbrev pub arm_fits : Border → Border → Border → Bool
arm_fits b g h = body_fits_both b g h && (pass h comma && under (beyond h comma) plain)

pub marked_arm : {o : Option (List Delim)} {last like : Bool} {i f : Form} {b c : Border} (g h : Border)
    → arm_fits b g h ≡ true → From g i h → On o plain f c → On o b (Body Marked (ArmComma last like) i f) c
marked_arm {o} {last} {like} {i} {f} {b} g h u i' k =
    let p = and_parts (body_fits_both b g h) _ u in
    let q = and_parts (under b g) _ p.0 in
    record { go = λ v. (g, h, q.0, q.1, i'.go v, p.1, k.go _) }

-- parts of a list
pub record Parts (g : Border) (es : List Form) (h : Border) : Type 0 where
  pub of : All g es h

pub no_parts : {g h : Border} → Parts g [] h
no_parts = record { of = tt }

pub more_parts : {g h : Border} {e : Form} {es : List Form} → From g e h → Parts g es h → Parts g (e ∷ es) h
more_parts a p = record { of = (a, p.of) }

-- lead leads from where a part ended to where one begins
pub record Leads (lead : Form → Form) (g h : Border) : Type 0 where
  pub to : (e f : Form) → From g e h → From h f h → From h (lead (form.Part e f)) h

pub each_part : {lead : Form → Form} {g h : Border} (es : List Form) → Leads lead g h → All g es h
    → From h (each lead es) h
each_part {lead} {g} {h} [] k a = ends (under-refl h)
each_part {lead} (e ∷ es) k a = k.to e (each lead es) a.0 (each_part es k a.1)

-- a piece and a break of a blank
abbrev pub leads_by : List Bit → Border → Border → Bool
leads_by p h g = let n = beyond h p in
    simple h p && (all blank_ok n.needs && (all line_ok n.needs && under (behind_gap n) g))

pub comma_lead : (g h : Border) → leads_by comma h g ≡ true → Leads comma_gap g h
comma_lead g h fit = record {
  to = λ e f k l.
      let n = beyond h comma in
      let a1 = and_parts (simple h comma) _ fit in
      let a2 = and_parts (all blank_ok n.needs) _ a1.1 in
      let a3 = and_parts (all line_ok n.needs) _ a2.1 in
      fixed a1.0 (breaks (and_from (all blank_ok n.needs) _ a2.0 a3.0) (part g h a3.1 k l));
}

pub even_is : (o : Option (List Delim)) → is_even o ≡ true → even ≡ o
even_is None h = cc
even_is (Some []) h = refl
even_is (Some (d ∷ ds)) h = cc

pub line_lead : (g h : Border) → all line_ok h.needs && under (behind_gap h) g ≡ true → Leads H g h
line_lead g h fit = record {
  to = λ e f k l. let a = and_parts (all line_ok h.needs) _ fit in
      breaks a.0 (part g h a.1 k l);
}

-- the break after the last element, where a comma may stand or not
abbrev pub last_passes : Bool → ℕ → Border → Bool
last_passes true n h = comma_passes n h
last_passes false n h = break_passes (Soft true n) h

abbrev pub beyond_last : Bool → ℕ → Border → Border
beyond_last true n h = beyond_comma n h
beyond_last false n h = beyond_break (Soft true n) h

pub last_one : {o : Option (List Delim)} (may : Bool) (n : ℕ) {f : Form} {b c : Border} → last_passes may n b ≡ true
    → On o (beyond_last may n b) f c → On o b (last_break may n f) c
last_one true n h k = comma_or h k
last_one false n h k = breaks h k

-- LIST: from b its opening, g before a part, h after one, z at the end
abbrev pub list_fits : Bool → Bit → Bit → Border → Border → Border → Border → Bool
list_fits may o c b g h z =
    let n = beyond b (o ∷ []) in
    let m = beyond_last may 0 h in
    is_even (bits_open even (o ∷ c ∷ []))
    && (simple b (o ∷ c ∷ []) && (under (beyond b (o ∷ c ∷ [])) z
    && (simple b (o ∷ []) && (all line_ok n.needs && (under (beyond_break (Soft false 0) n) g
    && (leads_by comma h g && (last_passes may 0 h && (simple m (c ∷ []) && under (beyond m (c ∷ [])) z))))))))

pub list : (may : Bool) (o c : Bit) (es : List Form) {b z : Border} (g h : Border) → list_fits may o c b g h z ≡ true
    → All g es h → From b (comma_list may o c es) z
list may o c [] {b} {z} g h fit a =
    let a0 = and_parts (is_even (bits_open even (o ∷ c ∷ []))) _ fit in
    let a1 = and_parts (simple b (o ∷ c ∷ [])) _ a0.1 in
    fixed a1.0 (ends (and_from (is_even (bits_open even (o ∷ c ∷ []))) _ a0.0
    (and_parts (under (beyond b (o ∷ c ∷ [])) z) _ a1.1).0))
list may o c (e ∷ es) {b} {z} g h fit a =
    let n = beyond b (o ∷ []) in
    let m = beyond_last may 0 h in
    let a0 = and_parts (is_even (bits_open even (o ∷ c ∷ []))) _ fit in
    let a1 = and_parts (simple b (o ∷ c ∷ [])) _ a0.1 in
    let a2 = and_parts (under (beyond b (o ∷ c ∷ [])) z) _ a1.1 in
    let a3 = and_parts (simple b (o ∷ [])) _ a2.1 in
    let a4 = and_parts (all line_ok n.needs) _ a3.1 in
    let a5 = and_parts (under (beyond_break (Soft false 0) n) g) _ a4.1 in
    let a6 = and_parts (leads_by comma h g) _ a5.1 in
    let a7 = and_parts (last_passes may 0 h) _ a6.1 in
    let a8 = and_parts (simple m (c ∷ [])) _ a7.1 in
    within b z (under-refl b)
    (fixed a3.0 (breaks a4.0 (part g h a5.0 a.0
    (part h h (under-refl h) (each_part es (comma_lead g h a6.0) a.1)
    (last_one may 0 a7.0 (fixed a8.0 (ends (and_from (is_even (bits_open even (o ∷ c ∷ []))) _ a0.0 a8.1))))))))
    (ends (under-refl z))

-- BODY of parts that begin at g and end at h, z at the end
abbrev pub body_fits : List Bit → List Bit → Border → Border → Border → Border → Bool
body_fits before skipped b g h z =
    let p = before ++ (opener Brace ∷ skipped) in
    let q = before ++ (opener Brace ∷ (skipped ++ (closer Brace ∷ []))) in
    let n = beyond b p in
    is_even (bits_open even q) && (is_even (bits_open (bits_open even p) (closer Brace ∷ []))
    && (simple b q && (under (beyond b q) z
    && (simple b p && (under n h && (all line_ok h.needs && (under (behind_gap h) g
    && (simple (behind_gap h) (closer Brace ∷ []) && under (beyond (behind_gap h) (closer Brace ∷ [])) z))))))))

pub braced : (before skipped : List Bit) (es : List Form) {b z : Border} (g h : Border)
    → body_fits before skipped b g h z ≡ true → All g es h → From b (body before skipped es) z
braced before skipped [] {b} {z} g h fit a =
    let q = before ++ (opener Brace ∷ (skipped ++ (closer Brace ∷ []))) in
    let e0 = and_parts (is_even (bits_open even q)) _ fit in
    let e1 = and_parts (is_even (bits_open (bits_open even (before ++ (opener Brace ∷ skipped))) (closer Brace ∷ [])))
    _ e0.1 in
    let a1 = and_parts (simple b q) _ e1.1 in
    fixed a1.0 (ends (and_from (is_even (bits_open even q)) _ e0.0 (and_parts (under (beyond b q) z) _ a1.1).0))
braced before skipped (e ∷ es) {b} {z} g h fit a =
    let p = before ++ (opener Brace ∷ skipped) in
    let q = before ++ (opener Brace ∷ (skipped ++ (closer Brace ∷ []))) in
    let n = beyond b p in
    let e0 = and_parts (is_even (bits_open even q)) _ fit in
    let e1 = and_parts (is_even (bits_open (bits_open even p) (closer Brace ∷ []))) _ e0.1 in
    let a1 = and_parts (simple b q) _ e1.1 in
    let a2 = and_parts (under (beyond b q) z) _ a1.1 in
    let a3 = and_parts (simple b p) _ a2.1 in
    let a4 = and_parts (under n h) _ a3.1 in
    let a5 = and_parts (all line_ok h.needs) _ a4.1 in
    let a6 = and_parts (under (behind_gap h) g) _ a5.1 in
    let a7 = and_parts (simple (behind_gap h) (closer Brace ∷ [])) _ a6.1 in
    fixed a3.0 (breaks refl (within h (behind_gap h) a4.0
    (part h h (under-refl h) (each_part (e ∷ es) (line_lead g h (and_from (all line_ok h.needs) _ a5.0 a6.0)) a)
    (breaks a5.0 (ends (under-refl (behind_gap h)))))
    (fixed a7.0 (ends (and_from (is_even (bits_open (bits_open even p) (closer Brace ∷ []))) _ e1.0 a7.1)))))

-- FIELDS
abbrev pub field_fits : Border → Border → Bool
field_fits k h = simple k comma && under (beyond k comma) h

pub all_fields : (es : List Form) (g k h : Border) → field_fits k h ≡ true → All g es k → All g (with_commas es) h
all_fields [] g k h fit a = tt
all_fields (e ∷ []) g k h fit a = let q = and_parts (simple k comma) _ fit in
    (part g k (under-refl g) a.0 (kept q.0 refl (ends q.1)), tt)
all_fields (e ∷ x ∷ es) g k h fit a =
    let q = and_parts (simple k comma) _ fit in
    (part g k (under-refl g) a.0 (fixed q.0 (ends q.1)), all_fields (x ∷ es) g k h fit a.1)

pub fielded : (before : List Bit) (es : List Form) {b z : Border} (g k h : Border) → field_fits k h ≡ true
    → body_fits before [] b g h z ≡ true → All g es k → From b (fields before es) z
fielded before es g k h fit fit' a = braced before [] (with_commas es) g h fit' (all_fields es g k h fit a)

-- attributes, each on a line of its own, before what begins at g
pub with_outer : (es : List Form) {f : Form} {c : Border} (h : Border) → all line_ok h.needs ≡ true
    → All (behind_gap h) es h → From (behind_gap h) f c → From (behind_gap h) (behind_attrs es f) c
with_outer [] h fit a k = k
with_outer (e ∷ es) h fit a k = part (behind_gap h) h (under-refl (behind_gap h)) a.0
    (breaks fit (with_outer es h fit a.1 k))

-- parts, each on a line of its own
pub lined : (es : List Form) (h : Border) → all line_ok h.needs ≡ true → All (behind_gap h) es h
    → From (behind_gap h) (lines es) (behind_gap h)
lined [] h fit a = ends (under-refl (behind_gap h))
lined (e ∷ es) h fit a = part (behind_gap h) h (under-refl (behind_gap h)) a.0 (breaks fit (lined es h fit a.1))

-- a break of a blank leads from h to g
abbrev pub gap_fits : Border → Border → Bool
gap_fits h g = all blank_ok h.needs && (all line_ok h.needs && under (behind_gap h) g)

gap_parts : (h g : Border) → gap_fits h g ≡ true
    → (all blank_ok h.needs && all line_ok h.needs ≡ true) × (under (behind_gap h) g ≡ true)
gap_parts h g fit =
    let a = and_parts (all blank_ok h.needs) _ fit in
    let b = and_parts (all line_ok h.needs) _ a.1 in
    (and_from (all blank_ok h.needs) _ a.0 b.0, b.1)

-- parts separated by `,` and B, with an end of their own
list_inner : (es : List Form) {e f : Form} {b g h z : Border} → under b g ≡ true → leads_by comma h g ≡ true
    → From g e h → All g es h → From h f z → From b (form.Part e (form.Part (each comma_gap es) f)) z
list_inner es {e} {f} {b} {g} {h} {z} u fit k a l =
    part g h u k (part h h (under-refl h) (each_part es (comma_lead g h fit) a) l)

-- BRACES: from b, parts that begin at g and end at h, z at the end
abbrev pub braces_fit : Bool → Border → Border → Border → Border → Bool
braces_fit may b g h z =
    let n = beyond b (Blank ∷ opener Brace ∷ []) in
    simple b (Blank ∷ opener Brace ∷ closer Brace ∷ [])
    && (under (beyond b (Blank ∷ opener Brace ∷ closer Brace ∷ [])) z && (simple b (Blank ∷ opener Brace ∷ [])
    && (gap_fits n g && (leads_by comma h g && (last_passes may 1 h && (under (beyond_last may 1 h) g
    && (simple g (closer Brace ∷ []) && under (beyond g (closer Brace ∷ [])) z)))))))

pub bracing : (may : Bool) (es : List Form) {b z : Border} (g h : Border) → braces_fit may b g h z ≡ true → All g es h
    → From b (braces may es) z
bracing may [] {b} {z} g h fit a =
    let a1 = and_parts (simple b (Blank ∷ opener Brace ∷ closer Brace ∷ [])) _ fit in
    fixed a1.0 (ends (and_parts (under (beyond b (Blank ∷ opener Brace ∷ closer Brace ∷ [])) z) _ a1.1).0)
bracing may (e ∷ es) {b} {z} g h fit a =
    let n = beyond b (Blank ∷ opener Brace ∷ []) in
    let a1 = and_parts (simple b (Blank ∷ opener Brace ∷ closer Brace ∷ [])) _ fit in
    let a2 = and_parts (under (beyond b (Blank ∷ opener Brace ∷ closer Brace ∷ [])) z) _ a1.1 in
    let a3 = and_parts (simple b (Blank ∷ opener Brace ∷ [])) _ a2.1 in
    let a4 = and_parts (gap_fits n g) _ a3.1 in
    let a5 = and_parts (leads_by comma h g) _ a4.1 in
    let a6 = and_parts (last_passes may 1 h) _ a5.1 in
    let a7 = and_parts (under (beyond_last may 1 h) g) _ a6.1 in
    let a8 = and_parts (simple g (closer Brace ∷ [])) _ a7.1 in
    let q = gap_parts n g a4.0 in
    fixed a3.0 (within n g (under-refl n)
    (breaks q.0 (list_inner es q.1 a5.0 a.0 a.1 (last_one may 1 a6.0 (ends a7.0))))
    (fixed a8.0 (ends a8.1)))

-- WB and WS: predicates that begin at g and end at h, where a clause begins at b; z at the end
abbrev pub where_fits : Border → Border → Border → Border → Bool
where_fits b g h z =
    let n = beyond (behind_gap b) where_word in
    under b z && (gap_fits b g && (simple (behind_gap b) where_word
    && (gap_fits n g && (leads_by comma h g && (comma_passes 1 h && (under (beyond_comma 1 h) z && under h z))))))

where_inner : (es : List Form) {e f : Form} {b g h z : Border} → where_fits b g h z ≡ true → From g e h → All g es h
    → From h f z
    → From b (N (C4 (B- (Piece where_word (B (form.Part e (form.Part (each comma_gap es) f))))) Done)) z
where_inner es {e} {f} {b} {g} {h} {z} fit k a l =
    let n = beyond (behind_gap b) where_word in
    let a1 = and_parts (under b z) _ fit in
    let a2 = and_parts (gap_fits b g) _ a1.1 in
    let a3 = and_parts (simple (behind_gap b) where_word) _ a2.1 in
    let a4 = and_parts (gap_fits n g) _ a3.1 in
    let a5 = and_parts (leads_by comma h g) _ a4.1 in
    let p = gap_parts b g a2.0 in
    let q = gap_parts n g a4.0 in
    breaks refl (within b z (under-refl b) (breaks p.0 (fixed a3.0 (breaks q.0 (list_inner es q.1 a5.0 k a l))))
    (ends (under-refl z)))

pub where_both : (es : List Form) {b z : Border} (g h : Border) → where_fits b g h z ≡ true → All g es h
    → From b (where_body es) z × From b (where_semicolon es) z
where_both [] {b} {z} g h fit a = let u = (and_parts (under b z) _ fit).0 in
    (left_out refl refl (ends u), left_out refl refl (ends u))
where_both (e ∷ es) {b} {z} g h fit a =
    let n = beyond (behind_gap b) where_word in
    let a1 = and_parts (under b z) _ fit in
    let a2 = and_parts (gap_fits b g) _ a1.1 in
    let a3 = and_parts (simple (behind_gap b) where_word) _ a2.1 in
    let a4 = and_parts (gap_fits n g) _ a3.1 in
    let a5 = and_parts (leads_by comma h g) _ a4.1 in
    let a6 = and_parts (comma_passes 1 h) _ a5.1 in
    let a7 = and_parts (under (beyond_comma 1 h) z) _ a6.1 in (
      where_inner es fit a.0 a.1 (comma_or a6.0 (ends a7.0)),
      where_inner es fit a.0 a.1
          (left_out refl refl (ends a7.1)),
    )

-- SOFT's block of one expression
abbrev soft_open : List Bit
soft_open = Blank ∷ opener Brace ∷ Semicolons ∷ []

abbrev pub soft_fits : Border → Border → Border → Border → Bool
soft_fits b g h z =
    let n = beyond b soft_open in
    simple b soft_open
    && (gap_fits n g && (gap_fits h g && (simple g (closer Brace ∷ []) && under (beyond g (closer Brace ∷ [])) z)))

pub soft_block : {e : Form} {b z : Border} (g h : Border) → soft_fits b g h z ≡ true → From g e h → From b (soft e) z
soft_block {e} {b} {z} g h fit k =
    let n = beyond b soft_open in
    let a1 = and_parts (simple b soft_open) _ fit in
    let a2 = and_parts (gap_fits n g) _ a1.1 in
    let a3 = and_parts (gap_fits h g) _ a2.1 in
    let a4 = and_parts (simple g (closer Brace ∷ [])) _ a3.1 in
    let p = gap_parts n g a2.0 in
    let q = gap_parts h g a3.0 in
    fixed a1.0 (breaks refl (within n g (under-refl n) (breaks p.0 (part g h p.1 k (breaks q.0 (ends q.1))))
    (fixed a4.0 (ends a4.1))))
