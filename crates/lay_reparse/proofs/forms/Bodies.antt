-- The body of an arm or a closure as a move, in braces or as it stands, with what follows it.
use Rattle.std.proofs.Common.{◌≡◌, ℕ, ◌-◌, ◌≤◌, ◌⊎◌, inl, inr, List, [], ◌∷◌, Bool, true, false, ◌&&◌, refl, ap, subst}
use Rattle.std.specs.Prelude.{ℤ}
use Rattle.std.proofs.lemmas.Bool.{and_parts}
use Rattle.lay_piece.specs.Forms.{has_form}
use Rattle.lay_layout.specs.declared.layout.Frame.{Frame}
use Rattle.lay_layout.specs.declared.layout.Frame.TheVariants.{Flat, Broken}
use Rattle.lay_layout.specs.Document.{Document, Empty, AddBreak, State, write, line, newline, skip}
use Rattle.lay_piece.specs.declared.kind.Delim.TheVariants.{Brace}
use Rattle.lay_token.specs.declared.token.Token.{Token}
use Rattle.lay_form.specs.Form.{Behind, Nothing, ArmComma, Form, opener, closer, comma}
use Rattle.lay_form.specs.Spelled.{AreBits, Then, Spells, Braced, IsBehind, may_lack, cost}
use Rattle.lay_form.specs.Layout.{ends_behind_point, opening_break, closing_break, laid_out}
use Rattle.lay_layout.specs.Anyway.{Enters, Leads}
use Rattle.lay_reparse.proofs.borders.Need.{Need, IntBare, all, line_ok}
use Rattle.lay_reparse.proofs.texts.Characters.{low_encodes}
use Rattle.lay_reparse.proofs.borders.Border.{Place, Other, Point, Far, Points, is_index_place, apart, fit_of, Border, Spot, Unsure, Clear, At, Covers, apart_spot, behind_gap, beyond, pass, bits_low, bits_covers, apart_covers, clear_apart, Rest, and_false, bits_came}
use Rattle.lay_reparse.proofs.borders.Border as bd
use Rattle.lay_reparse.proofs.borders.Move.{wait, Goes, go_then, go_as, under, spot_under, go_out, go_in, go_pointed, go_text, go_line, go_none}
use Rattle.lay_reparse.proofs.forms.Passes.{braces_pass, plain, loosen, loosened, piece_does}
use Rattle.lay_reparse.proofs.forms.Texts.{Same, after_none, before_none}
use Rattle.lay_reparse.proofs.forms.Breaks.{go_loose}

-- A body in braces, or as it stands.
brace_closes : pass (record { needs = []; spot = Unsure }) (closer Brace ∷ []) ≡ true
unfolding has_form
brace_closes = refl

unbrace : (v : Bool) (s : State) → Goes (AreBits (closer Brace ∷ [])) (record { needs = []; spot = Unsure }) v s plain
    false (write (125 ∷ []) s)
unbrace v s = go_text (125 ∷ []) (125 ∷ []) (record { needs = []; spot = Unsure }) v s plain false
    (low_encodes (125 ∷ []) refl) refl
    (λ e covers. record {
      at = Other;
      covered = refl;
      dotless = λ y. refl;
      came = λ y ps last r m i. bits_came (closer Brace ∷ []) (record { needs = []; spot = Unsure }) e y ps last
          brace_closes r m;
    })

-- text before a newline that a mark begins
brace_line : (b : Border) (v : Bool) (s : State) (w : Bool) (k : ℕ) → pass b (opener Brace ∷ []) ≡ true
    → Goes (AreBits (opener Brace ∷ [])) b v s plain w (line k (write (123 ∷ []) s))
brace_line b v s w k h =
    let mid : Border = record { needs = (beyond b (opener Brace ∷ [])).needs; spot = At Other } in
    before_none {S = AreBits (opener Brace ∷ [])} b v s mid false (write (123 ∷ []) s) plain w
    (line k (write (123 ∷ []) s))
    (go_text (123 ∷ []) (123 ∷ []) b v s mid false (low_encodes (123 ∷ []) refl) refl (λ e covers.
    let d = piece_does v b (opener Brace ∷ []) e h covers in
    record {
      at = Other;
      covered = refl;
      dotless = d.dotless;
      came =
          λ y ps last r m i. bits_came (opener Brace ∷ []) b e y ps last h r m;
    }))
    (go_line mid false (write (123 ∷ []) s) plain w k (extra b.needs) (λ e o. ap apart o))
  where
    by : (n : Need) (ns : List Need) → all line_ok (bd.extras (123 ∷ []) ns) ≡ true
        → all line_ok (bd.extras (123 ∷ []) (n ∷ ns)) ≡ true
    by IntBare ns h = h
    by _ ns h = h

    extra : (ns : List Need) → all line_ok (bd.extras (123 ∷ []) ns) ≡ true
    extra [] = refl
    extra (n ∷ ns) = by n ns (extra ns)

-- every way through the form's layout is a move that spells it
abbrev pub Sound : Bool → Form → Border → Border → ℕ → Type 0
Sound v f b c d = (fr : Frame) (D : Document) (s t : State) → Leads fr (laid_out v f D) s t
    → (m : State) × Goes (Spells f d) b v s c (ends_behind_point v f) m × Leads fr D m t

pub frames : (f g : Frame) (o : ℤ) (d : Document) → Enters f true o d g → ((i : ℕ) × (g ≡ Broken true i)) ⊎ (g ≡ Flat)
frames Flat g o d e = inr e
frames (Broken c i) g o d (inl e) = inl (_, e)
frames (Broken c i) g o d (inr e) = inr e.1

-- a body within this many braces, and what follows it
abbrev pub BodySpells : Form → Behind → ℕ → List Token → List Token → Type 0
BodySpells i behind d ts us = (n : ℕ) × (cost n ≤ d) × Then (Braced n (Spells i (d - cost n))) (IsBehind behind n) ts us

lacks_braced : (last like : Bool) → may_lack last like 1 ≡ true
lacks_braced true like = refl
lacks_braced false true = refl
lacks_braced false false = refl

behind_braces : (behind : Behind) (us : List Token) → IsBehind behind 1 us us
behind_braces Nothing us = refl
behind_braces (ArmComma last like) us = inl (lacks_braced last like, refl)

in_braces : (i : Form) (behind : Behind) (d : ℕ) (ts us : List Token) → 1 ≤ d
    → Then (AreBits (opener Brace ∷ [])) (Then (Spells i (d - 1)) (AreBits (closer Brace ∷ []))) ts us
    → BodySpells i behind d ts us
in_braces i behind d ts us le r = (
  1,
  le,
  (
    us,
    (r.0, (r.0, (r.1.0, r.1.1, (r.0, (0, r.1.2), refl)), refl), (r.2.0, r.2.1, (us, r.2.2, refl))),
    behind_braces behind us,
  ),
)

-- without braces, and with what follows it
unbraced : (i : Form) (behind : Behind) (d : ℕ) (ts us : List Token) → 1 ≤ d
    → Then (Spells i (d - 1)) (IsBehind behind 0) ts us → BodySpells i behind d ts us
unbraced i behind d ts us le r = (0, le, (r.0, (ts, refl, (r.0, r.1, refl)), r.2))

abbrev inner_of : Bool → Form → Behind → Document
inner_of v i behind = AddBreak opening_break (laid_out v i (AddBreak (closing_break behind) Empty))

broken_body : (v : Bool) (i : Form) (behind : Behind) (b g h : Border) (d k : ℕ) (s m : State) → 1 ≤ d
    → braces_pass b g h ≡ true → Sound v i g h (d - 1) → Leads (Broken true k) (inner_of v i behind) s m
    → Goes (BodySpells i behind d) b v s plain false m
broken_body v i behind b g h d k s m le fit ih (inr l) = absurd (let e : false ≡ true = l.0 in cc)
broken_body v i behind b g h d k s m le fit ih (inl l) =
    at (ih (Broken true k) (AddBreak (closing_break behind) Empty) _ m l.1)
  where
    at : (mid : State) × Goes (Spells i (d - 1)) g v (newline opening_break k s) h (ends_behind_point v i) mid
        × Leads (Broken true k) (AddBreak (closing_break behind) Empty) mid m
        → Goes (BodySpells i behind d) b v s plain false m
    at (mid, goes, inr l2) = absurd (let e : false ≡ true = l2.0 in cc)
    at (mid, goes, inl l2) =
        let a1 = and_parts (pass b (opener Brace ∷ [])) _ fit in
        let a2 = and_parts (under plain g) _ a1.1 in
        let behind_line : Border = record { needs = []; spot = Unsure } in
        let one = brace_line b v s v _ a1.0 in
        let two = go_in plain g v (newline opening_break k s) h (ends_behind_point v i) mid a2.0 goes in
        let three = after_none {S = AreBits (closer Brace ∷ [])} h (ends_behind_point v i) mid behind_line false _ plain
        false _
        (go_line h (ends_behind_point v i) mid behind_line false _ a2.1 (λ e c. tt)) (unbrace false _) in
        let P : State → Type 0 = λ z. Goes (BodySpells i behind d) b v s plain false z in
        subst P l2.1
        (go_as {R = Then (AreBits (opener Brace ∷ [])) (Then (Spells i (d - 1)) (AreBits (closer Brace ∷ [])))}
        {S = BodySpells i behind d} b v s plain false _ (λ ts us r. in_braces i behind d ts us le r)
        (go_then {R = AreBits (opener Brace ∷ [])} {S = Then (Spells i (d - 1)) (AreBits (closer Brace ∷ []))} b v s
        plain v (newline opening_break k s) plain false _ one
        (go_then {R = Spells i (d - 1)} {S = AreBits (closer Brace ∷ [])} plain v (newline opening_break k s) h
        (ends_behind_point v i) mid plain false _ two three)))

flat_body : (v : Bool) (i : Form) (behind : Behind) (b g h c : Border) (w : Bool) (d : ℕ) (s m : State) → 1 ≤ d
    → under b g ≡ true
    → ((x : State) → Goes (IsBehind behind 0) h (ends_behind_point v i) x c w (skip (closing_break behind) x))
    → Sound v i g h (d - 1) → Leads Flat (inner_of v i behind) s m → Goes (BodySpells i behind d) b v s c w m
flat_body v i behind b g h c w d s m le start ended ih (inl l) = absurd (let e : false ≡ true = l.0 in cc)
flat_body v i behind b g h c w d s m le start ended ih (inr l) =
    at (ih Flat (AddBreak (closing_break behind) Empty) _ m l.1)
  where
    at : (mid : State) × Goes (Spells i (d - 1)) g v (skip opening_break s) h (ends_behind_point v i) mid
        × Leads Flat (AddBreak (closing_break behind) Empty) mid m
        → Goes (BodySpells i behind d) b v s c w m
    at (mid, goes, inl l2) = absurd (let e : false ≡ true = l2.0 in cc)
    at (mid, goes, inr l2) =
        let one = go_in b g v (skip opening_break s) h (ends_behind_point v i) mid start goes in
        let two = after_none {S = Spells i (d - 1)} b v s b v (wait 0 s) h (ends_behind_point v i) mid (go_none b v s)
        one in
        let P : State → Type 0 = λ z. Goes (BodySpells i behind d) b v s c w z in
        subst P l2.1
        (go_as {R = Then (Spells i (d - 1)) (IsBehind behind 0)} {S = BodySpells i behind d} b v s c w _
        (λ ts us r. unbraced i behind d ts us le r)
        (go_then {R = Spells i (d - 1)} {S = IsBehind behind 0} b v s h (ends_behind_point v i) mid c w _ two
        (ended mid)))

-- where a body is laid out as it stands, its comma or nothing is after it
pub comma_text : (v : Bool) (h : Border) (last like : Bool) (x : State) → pass h comma ≡ true
    → Goes (IsBehind (ArmComma last like) 0) h v x (beyond h comma) false (write (44 ∷ []) x)
comma_text v h last like x sep =
    go_as {R = AreBits comma} {S = IsBehind (ArmComma last like) 0} h v x (beyond h comma) false _ (λ ts us r. inr r)
    (go_text (44 ∷ []) (44 ∷ []) h v x (beyond h comma) false (low_encodes (44 ∷ []) refl) refl
    (λ e c. piece_does v h comma e sep c))

pub comma_mark : (v : Bool) (h : Border) (last like : Bool) (x : State)
    → pass h comma && under (beyond h comma) plain ≡ true
    → Goes (IsBehind (ArmComma last like) 0) h v x plain false (skip (closing_break (ArmComma last like)) x)
comma_mark v h last like x fit =
    let a = and_parts (pass h comma) _ fit in
    after_none {S = IsBehind (ArmComma last like) 0} h v x h v (wait 0 x) plain false _ (go_none h v x)
    (go_out h v (wait 0 x) (beyond h comma) false (write (44 ∷ []) (wait 0 x)) plain a.1
    (comma_text v h last like (wait 0 x) a.0))

pub no_mark : (v : Bool) (h : Border) (x : State)
    → Goes (IsBehind Nothing 0) h v x (loosened h) v (skip (closing_break Nothing) x)
no_mark v h x = after_none {S = Same} h v x h v (wait 0 x) (loosened h) v (wait 0 x) (go_none h v x)
    (go_loose h v (wait 0 x))

-- After `}` what follows the body as it is may follow too.
pub loosened_under : (h : Border) → under plain (loosened h) ≡ true
loosened_under h = at h.spot
  where
    at : (o : Spot) → spot_under (At Other) (loosen o) ≡ true
    at (At Other) = refl
    at (At Point) = refl
    at (At Far) = refl
    at (At Points) = refl
    at Clear = refl
    at Unsure = refl

pub marked_body : (v : Bool) (i : Form) (behind : Behind) (b g h c : Border) (w : Bool) (d : ℕ) (fr : Frame)
    (s m : State)
    → ((k : ℕ) × (fr ≡ Broken true k)) ⊎ (fr ≡ Flat) → 1 ≤ d → under b g ≡ true → braces_pass b g h ≡ true
    → under plain c ≡ true
    → ((x : State) → Goes (IsBehind behind 0) h (ends_behind_point v i) x c w (skip (closing_break behind) x))
    → Sound v i g h (d - 1) → Leads fr (inner_of v i behind) s m → Goes (BodySpells i behind d) b v s c w m
marked_body v i behind b g h c w d fr s m (inl k) le u fit less ended ih l =
    go_pointed {R = BodySpells i behind d} b v s c w m
    (go_out {R = BodySpells i behind d} b v s plain false m c less
    (broken_body v i behind b g h d k.0 s m le fit ih (subst (λ z. Leads z (inner_of v i behind) s m) k.1 l)))
marked_body v i behind b g h c w d fr s m (inr k) le u fit less ended ih l =
    flat_body v i behind b g h c w d s m le u ended ih (subst (λ z. Leads z (inner_of v i behind) s m) k l)
