-- A form that passes is a move, in each frame and each way that its groups and breaks may be taken. This is the one
-- induction over all forms; from it each text of a form's layout is lexed to tokens that spell the form.
use Rattle.std.proofs.Common.{◌≡◌, ℕ, zero, suc, ◌-◌, ◌≤◌, inl, inr, List, [], ◌∷◌, ◌++◌, Bool, true, false, cond, sym, refl, ap, ◌∙◌, subst, append-nil, arith, Option}
use Rattle.std.specs.Prelude.{pos}
use Rattle.std.specs.Str.{encode_utf8_all, is_utf8}
use Rattle.std.proofs.lemmas.Bool.{and_parts}
use Rattle.lay_token.specs.Lexes.{Part, tokens_from, AreParts}
use Rattle.lay_layout.specs.declared.layout.Frame.{Frame}
use Rattle.lay_layout.specs.Document.{Document, Empty, AddText, State, write, newline, skip}
use Rattle.lay_piece.specs.declared.kind.Delim.{Delim}
use Rattle.lay_piece.specs.declared.kind.Kind.{Kind}
use Rattle.lay_piece.specs.declared.kind.Kind.TheVariants.{Doc}
use Rattle.lay_token.specs.declared.token.Token.{Token}
use Rattle.lay_form.specs.Form as form
use Rattle.lay_form.specs.Form.{Bit, Blank, Fixed, Operator, Semicolons, Space, Soft, Hard, Never, Braces, Bare, Unseen, Marked, Behind, Nothing, ArmComma, Form, Done, Piece, Leaf, Listed, ListedDoc, Brk, LastComma, Group, Deeper, Optional, Docs, Body, opener, closer, comma}
use Rattle.lay_form.specs.Depth.{least_depth}
use Rattle.lay_form.specs.Spelled.{AreBits, IsOne, IsListed, IsComment, IsDoc, Then, MayBe, Spells, MayBrace, IsBehind}
use Rattle.lay_form.specs.Layout.{text_of_bits, bits_end_in_point, token_ends_in_point, space_ends_in_point, keeps_point, ends_behind_point, led, break_of, comma_break, laid_out}
use Rattle.lay_layout.specs.Anyway.{indent_of, Leads}
use Rattle.lay_reparse.proofs.borders.Need.{Text, LineDoc, met, all, all_by, line_ok, met_end}
use Rattle.lay_reparse.proofs.texts.Characters.{is_clean}
use Rattle.lay_reparse.proofs.forms.Opened.{turned, bits_open, is_even, even}
use Rattle.lay_reparse.proofs.texts.Laid.{as_block, laid, raw, bytes_of, raw_bytes}
use Rattle.lay_reparse.proofs.borders.Border.{Other, fit_of, Border, At, beyond}
use Rattle.lay_reparse.proofs.borders.Move.{Asks, Waits, Goes, go_then, go_as, stand, under, go_out, go_in, is_zero, go_text}
use Rattle.lay_reparse.proofs.forms.Passes.{Passes, plain, loosened, beyond_break, beyond_comma, behind_leaf, behind_token, token_passes, doc_passes, fits, leaf_does, token_does, listed_doc_does, doc_does}
use Rattle.lay_reparse.proofs.forms.Texts.{after_none, token_leads, put, put_leads, piece_goes}
use Rattle.lay_reparse.proofs.forms.Breaks.{break_goes, comma_goes}
use Rattle.lay_reparse.proofs.forms.Bodies.{Sound, frames, BodySpells, comma_text, comma_mark, no_mark, loosened_under, marked_body}

-- one form after a nested one
nested : {R : List Token → List Token → Type 0} (v : Bool) (i f : Form) (b g h c : Border) (d : ℕ) (fr : Frame)
    (D : Document) (s t : State) → under b g ≡ true
    → ((E : Document) → Leads fr (laid_out v i E) s t
    → (m : State) × Goes R g v s h (ends_behind_point v i) m × Leads fr E m t)
    → Sound (ends_behind_point v i) f h c d → Leads fr (laid_out v i (laid_out (ends_behind_point v i) f D)) s t
    → (m : State) × Goes (Then R (Spells f d)) b v s c (ends_behind_point (ends_behind_point v i) f) m × Leads fr D m t
nested {R} v i f b g h c d fr D s t u ih jh l =
    let one = ih (laid_out (ends_behind_point v i) f D) l in
    let two = jh fr D one.0 t one.2 in (
      two.0,
      go_then {R = R} {S = Spells f d} b v s h (ends_behind_point v i) one.0 c
          (ends_behind_point (ends_behind_point v i) f) two.0
          (go_in b g v s h (ends_behind_point v i) one.0 u one.1) two.1,
      two.2,
    )

nested_as : {S T : List Token → List Token → Type 0} (v : Bool) (f : Form) (b c : Border) (fr : Frame) (D : Document)
    (s t : State) → ((ts us : List Token) → S ts us → T ts us)
    → (m : State) × Goes S b v s c (ends_behind_point v f) m × Leads fr D m t
    → (m : State) × Goes T b v s c (ends_behind_point v f) m × Leads fr D m t
nested_as {S} {T} v f b c fr D s t g r = (r.0, go_as {R = S} {S = T} b v s c (ends_behind_point v f) r.0 g r.1, r.2)

-- a body that stands in no braces and has nothing after it
unbraced_then : (braces : Braces) (behind : Behind) (i f : Form) (d : ℕ) (ts us : List Token) → MayBrace braces 0
    → ((us : List Token) → IsBehind behind 0 us us) → 1 ≤ d → Then (Spells i (d - 1)) (Spells f d) ts us
    → Spells (Body braces behind i f) d ts us
unbraced_then braces behind i f d ts us z none le r =
    (0, z, le, (r.0, (ts, refl, (r.0, r.1, refl)), (r.0, none r.0, r.2)))

-- a body that may stand in braces
body_then : (braces : Braces) (behind : Behind) (i f : Form) (d : ℕ) (ts us : List Token)
    → ((n : ℕ) → MayBrace braces n) → Then (BodySpells i behind d) (Spells f d) ts us
    → Spells (Body braces behind i f) d ts us
body_then braces behind i f d ts us z r =
    (r.1.0, z r.1.0, r.1.1, (r.1.2.0, r.1.2.1, (r.0, r.1.2.2, r.2)))

-- The theorem.
pub sound : (f : Form) (o : Option (List Delim)) (v : Bool) (b c : Border) (d : ℕ) → Passes o v f b c
    → least_depth f ≤ d → Sound v f b c d
sound Done o v b c d p n fr D s t l = (s, go_out b v s b v s c (and_parts (is_even o) _ p).1 (stand b v s), l)
sound (Piece p f) o v b c d q n fr D s t l =
    let w = bits_end_in_point v p in
    let x = text_of_bits (led v p) in
    let r = sound f (bits_open o p) w (beyond b (led v p)) c d q.1 n fr D (put x s) t
    (put_leads fr x (laid_out w f D) s t l) in (
      r.0,
      go_then {R = AreBits p} {S = Spells f d} b v s (beyond b (led v p)) w (put x s) c (ends_behind_point w f) r.0
          (piece_goes v b p s q.0) r.1,
      r.2,
    )
sound (Leaf k x f) o v b c d q n fr D s t l =
    let w = token_ends_in_point k x in
    let g = (and_parts (fits b.spot k (raw k x)) _ q.1).1 in
    let u = and_parts (is_utf8 x) _ g in
    let r = sound f o w (behind_leaf b k x) c d q.2 n fr D (write (bytes_of k x) s) t
    (token_leads fr k x (laid_out w f D) s t l) in (
      r.0,
      go_then {R = IsOne k x} {S = Spells f d} b v s (behind_leaf b k x) w (write (bytes_of k x) s) c
          (ends_behind_point w f) r.0
          (go_text (raw k x) (bytes_of k x) b v s (behind_leaf b k x) w (raw_bytes k x u.0) u.1
          (λ e covers. leaf_does v b k x e q.0 q.1 covers)) r.1,
      r.2,
    )
sound (Listed k x joint f) o v b c d q n fr D s t l =
    let w = token_ends_in_point k x in
    let g = (and_parts (token_passes b v (laid k x) (raw k x) joint x) _ q.1).1 in
    let h = and_parts (is_utf8 x) _ g in
    let mid = behind_token b (laid k x) (raw k x) joint in
    let r = sound f (turned k o) w mid c d q.2 n fr D (write (bytes_of k x) s) t
    (token_leads fr k x (laid_out w f D) s t l) in (
      r.0,
      go_then {R = IsListed k x joint} {S = Spells f d} b v s mid w (write (bytes_of k x) s) c (ends_behind_point w f)
          r.0
          (go_text (raw k x) (bytes_of k x) b v s mid w (raw_bytes k x h.0) h.1
          (λ e covers. token_does v b k x joint e q.0 q.1 covers)) r.1,
      r.2,
    )
sound (ListedDoc inner x f) o v b c d q n fr D s t l =
    let k : Kind = Doc inner false in
    let g = (and_parts (token_passes b v (laid k x) (raw k x) false x) _ q.0).1 in
    let h = and_parts (is_utf8 x) _ g in
    let mid = behind_token b (laid k x) (raw k x) false in
    let r = sound f o false mid c d q.1 n fr D (write (bytes_of k x) s) t
    (token_leads fr k x (laid_out false f D) s t l) in (
      r.0,
      go_then {R = IsComment inner x} {S = Spells f d} b v s mid false (write (bytes_of k x) s) c
          (ends_behind_point false f) r.0
          (go_text (raw k x) (bytes_of k x) b v s mid false (raw_bytes k x h.0) h.1
          (λ e covers. listed_doc_does v b inner x e q.0 covers)) r.1,
      r.2,
    )
sound (Brk g f) o v b c d q n fr D s t (inl l) =
    let w = space_ends_in_point v g in
    let r = sound f o w (beyond_break g b) c d q.1 n fr D (newline (break_of g) (indent_of fr) s) t l.1 in (
      r.0,
      after_none {S = Spells f d} b v s (beyond_break g b) w (newline (break_of g) (indent_of fr) s) c
          (ends_behind_point w f) r.0
          (break_goes g fr b v s _ q.0 (inl (l.0, refl))) r.1,
      r.2,
    )
sound (Brk g f) o v b c d q n fr D s t (inr l) =
    let w = space_ends_in_point v g in
    let r = sound f o w (beyond_break g b) c d q.1 n fr D (skip (break_of g) s) t l.1 in (
      r.0,
      after_none {S = Spells f d} b v s (beyond_break g b) w (skip (break_of g) s) c (ends_behind_point w f) r.0
          (break_goes g fr b v s _ q.0 (inr (l.0, refl))) r.1,
      r.2,
    )
sound (LastComma k f) o v b c d q n fr D s t (inl l) =
    let w = keeps_point v k in
    let r = sound f o w (beyond_comma k b) c d q.1 n fr D (newline (comma_break k) (indent_of fr) s) t l.1 in (
      r.0,
      go_then {R = MayBe comma} {S = Spells f d} b v s (beyond_comma k b) w (newline (comma_break k) (indent_of fr) s) c
          (ends_behind_point w f) r.0
          (comma_goes k fr b v s _ q.0 (inl (l.0, refl))) r.1,
      r.2,
    )
sound (LastComma k f) o v b c d q n fr D s t (inr l) =
    let w = keeps_point v k in
    let r = sound f o w (beyond_comma k b) c d q.1 n fr D (skip (comma_break k) s) t l.1 in (
      r.0,
      go_then {R = MayBe comma} {S = Spells f d} b v s (beyond_comma k b) w (skip (comma_break k) s) c
          (ends_behind_point w f) r.0
          (comma_goes k fr b v s _ q.0 (inr (l.0, refl))) r.1,
      r.2,
    )
sound (Group k a i f) o v b c d q n fr D s t l =
    let one = sound i even v q.0 q.1 d q.3 (omega arith) l.0 Empty s l.1 l.3 in
    let at : Goes (Spells i d) q.0 v s q.1 (ends_behind_point v i) l.1 =
    subst (λ z. Goes (Spells i d) q.0 v s q.1 (ends_behind_point v i) z) one.2 one.1 in
    let two = sound f o (ends_behind_point v i) q.1 c d q.4 (omega arith) fr D l.1 t l.4 in (
      two.0,
      go_then {R = Spells i d} {S = Spells f d} b v s q.1 (ends_behind_point v i) l.1 c
          (ends_behind_point (ends_behind_point v i) f) two.0
          (go_in b q.0 v s q.1 (ends_behind_point v i) l.1 q.2 at) two.1,
      two.2,
    )
sound (form.Part i f) o v b c d q n fr D s t l =
    nested {R = Spells i d} v i f b q.0 q.1 c d fr D s t q.2
    (λ E k. sound i even v q.0 q.1 d q.3 (omega arith) fr E s t k)
    (sound f o (ends_behind_point v i) q.1 c d q.4 (omega arith)) l
sound (Deeper i f) o v b c zero q n fr D s t l = absurd (omega arith)
sound (Deeper i f) o v b c (suc d) q n fr D s t l =
    nested {R = Spells i d} v i f b q.0 q.1 c (suc d) fr D s t q.2
    (λ E k. sound i even v q.0 q.1 d q.3 (omega arith) fr E s t k)
    (sound f o (ends_behind_point v i) q.1 c (suc d) q.4 (omega arith)) l
sound (Optional true p f) o v b c d q n fr D s t l =
    let w = bits_end_in_point v p in
    let x = text_of_bits (led v p) in
    let r = sound f o w (beyond b (led v p)) c d q.2 n fr D (put x s) t
    (put_leads fr x (laid_out w f D) s t l) in (
      r.0,
      go_as {R = Then (AreBits p) (Spells f d)} {S = Spells (Optional true p f) d} b v s c (ends_behind_point w f) r.0
          (λ ts us h. (h.0, inr h.1, h.2))
          (go_then {R = AreBits p} {S = Spells f d} b v s (beyond b (led v p)) w (put x s) c (ends_behind_point w f) r.0
          (piece_goes v b p s q.0) r.1),
      r.2,
    )
sound (Optional false p f) o v b c d q n fr D s t l =
    nested_as {S = Spells f d} {T = Spells (Optional false p f) d} v f b c fr D s t (λ ts us r. (ts, inl refl, r))
    (sound f o v b c d q.2 n fr D s t l)
sound (Docs inner x f) o v b c d q n fr D s t l =
    let mid : Border = record { needs = cond (as_block inner x) [] (LineDoc ∷ []); spot = At Other } in
    let k : Kind = Doc inner false in
    let g = (and_parts (doc_passes b (Doc inner (as_block inner x)) (raw k x) x) _ q.0).1 in
    let u = and_parts (is_utf8 x) _ g in
    let r = sound f o false mid c d q.1 n fr D (write (bytes_of k x) s) t
    (token_leads fr k x (laid_out false f D) s t l) in (
      r.0,
      go_then {R = IsDoc inner x} {S = Spells f d} b v s mid false (write (bytes_of k x) s) c
          (ends_behind_point false f) r.0
          (go_text (raw k x) (bytes_of k x) b v s mid false (raw_bytes k x u.0) u.1
          (λ e covers. doc_does v b inner x e q.0 covers)) r.1,
      r.2,
    )
sound (Body Bare Nothing i f) o v b c d q n fr D s t l =
    nested_as {S = Then (Spells i (d - 1)) (Spells f d)} {T = Spells (Body Bare Nothing i f) d} v
    (Body Bare Nothing i f) b c fr D s t
    (λ ts us r. unbraced_then Bare Nothing i f d ts us refl (λ us. refl) (omega arith) r)
    (nested {R = Spells i (d - 1)} v i f b q.0 q.1 c d fr D s t q.2
    (λ E k. sound i even v q.0 q.1 (d - 1) q.3 (omega arith) fr E s t k)
    (sound f o (ends_behind_point v i) q.1 c d q.4 (omega arith)) l)
sound (Body Bare (ArmComma last like) i f) o v b c d q n fr D s t l =
    let w = ends_behind_point v i in
    let one = sound i even v q.0 q.1 (d - 1) q.3 (omega arith) fr (AddText (44 ∷ []) (laid_out false f D)) s t l in
    let two = sound f o false (beyond q.1 comma) c d q.5 (omega arith) fr D (write (44 ∷ []) one.0) t one.2 in
    let le : 1 ≤ d = omega arith in (
      two.0,
      go_as {R = Then (Spells i (d - 1)) (Then (IsBehind (ArmComma last like) 0) (Spells f d))}
          {S = Spells (Body Bare (ArmComma last like) i f) d} b v s c (ends_behind_point false f) two.0
          (λ ts us r. (0, refl, le, (r.0, (ts, refl, (r.0, r.1, refl)), r.2)))
          (go_then {R = Spells i (d - 1)} {S = Then (IsBehind (ArmComma last like) 0) (Spells f d)} b v s q.1 w one.0 c
          (ends_behind_point false f) two.0 (go_in b q.0 v s q.1 w one.0 q.2 one.1)
          (go_then {R = IsBehind (ArmComma last like) 0} {S = Spells f d} q.1 w one.0 (beyond q.1 comma) false
          (write (44 ∷ []) one.0) c (ends_behind_point false f) two.0 (comma_text w q.1 last like one.0 q.4) two.1)),
      two.2,
    )
sound (Body Unseen Nothing i f) o v b c d q n fr D s t l =
    nested_as {S = Then (Spells i (d - 1)) (Spells f d)} {T = Spells (Body Unseen Nothing i f) d} v
    (Body Unseen Nothing i f) b c fr D s t
    (λ ts us r. unbraced_then Unseen Nothing i f d ts us tt (λ us. refl) (omega arith) r)
    (nested {R = Spells i (d - 1)} v i f b q.0 q.1 c d fr D s t q.2
    (λ E k. sound i even v q.0 q.1 (d - 1) q.3 (omega arith) fr E s t k)
    (sound f o (ends_behind_point v i) q.1 c d q.4 (omega arith)) l)
sound (Body Unseen (ArmComma last like) i f) o v b c d q n fr D s t l =
    nested_as {S = Then (Spells i (d - 1)) (Spells f d)} {T = Spells (Body Unseen (ArmComma last like) i f) d} v
    (Body Unseen (ArmComma last like) i f) b c fr D s t
    (λ ts us r. unbraced_then Unseen (ArmComma last like) i f d ts us tt (λ us. inl (q.0, refl)) (omega arith) r)
    (nested {R = Spells i (d - 1)} v i f b q.1 q.2 c d fr D s t q.3
    (λ E k. sound i even v q.1 q.2 (d - 1) q.4 (omega arith) fr E s t k)
    (sound f o (ends_behind_point v i) q.2 c d q.5 (omega arith)) l)
sound (Body Marked Nothing i f) o v b c d q n fr D s t l =
    let one = marked_body v i Nothing b q.0 q.1 (loosened q.1) (ends_behind_point v i) d l.0 s l.1
    (frames fr l.0 (pos 4) _ l.2) (omega arith) q.2 q.3
    (loosened_under q.1) (no_mark (ends_behind_point v i) q.1) (sound i even v q.0 q.1 (d - 1) q.4 (omega arith)) l.3 in
    let two = sound f o (ends_behind_point v i) (loosened q.1) c d q.5 (omega arith) fr D l.1 t l.4 in (
      two.0,
      go_as {R = Then (BodySpells i Nothing d) (Spells f d)} {S = Spells (Body Marked Nothing i f) d} b v s c
          (ends_behind_point (ends_behind_point v i) f) two.0
          (λ ts us r. body_then Marked Nothing i f d ts us (λ n. tt) r)
          (go_then {R = BodySpells i Nothing d} {S = Spells f d} b v s (loosened q.1) (ends_behind_point v i) l.1 c
          (ends_behind_point (ends_behind_point v i) f) two.0 one two.1),
      two.2,
    )
sound (Body Marked (ArmComma last like) i f) o v b c d q n fr D s t l =
    let one = marked_body v i (ArmComma last like) b q.0 q.1 plain false d l.0 s l.1
    (frames fr l.0 (pos 4) _ l.2) (omega arith) q.2 q.3
    refl (λ x. comma_mark (ends_behind_point v i) q.1 last like x q.5)
    (sound i even v q.0 q.1 (d - 1) q.4 (omega arith)) l.3 in
    let two = sound f o false plain c d q.6 (omega arith) fr D l.1 t l.4 in (
      two.0,
      go_as {R = Then (BodySpells i (ArmComma last like) d) (Spells f d)}
          {S = Spells (Body Marked (ArmComma last like) i f) d} b v s c (ends_behind_point false f) two.0
          (λ ts us r. body_then Marked (ArmComma last like) i f d ts us (λ n. tt) r)
          (go_then {R = BodySpells i (ArmComma last like) d} {S = Spells f d} b v s plain false l.1 c
          (ends_behind_point false f) two.0 one two.1),
      two.2,
    )

-- What is laid out after a state, read.
pub record Laid (f : Form) (d : ℕ) (s t : State) : Type 0 where
  pub added : Text
  pub grown : t.text ≡ s.text ++ encode_utf8_all added
  pub clean : is_clean added ≡ true
  pub parts : List Part
  pub last : Text
  pub reads : AreParts added parts last
  pub spells : (at : ℕ) → Spells f d (tokens_from at parts) []

-- Reparse, for every form.
pub reparse : (f : Form) (c : Border) (d : ℕ) → Passes even false f plain c → all line_ok c.needs ≡ true
    → least_depth f ≤ d
    → (fr : Frame) (s t : State) → Leads fr (laid_out false f Empty) s t → Laid f d s t
reparse f c d p ended n fr s t l =
    let r = sound f even false plain c d p n fr Empty s t l in
    let g = r.1 Other refl (start (is_zero s.pending)) in
    let k = g.back [] [] []
    (record { rest = record { whole = refl; fit = tt; end = refl }; asks = at (is_zero r.0.pending) }) in
    record {
      added = g.added;
      grown = ap (λ (z : State). z.text) (sym r.2) ∙ g.grown;
      clean = g.clean;
      parts = k.parts;
      last = k.last;
      reads = record {
        whole = sym (append-nil g.added) ∙ k.after.rest.whole;
        fit =
            fit_of Other k.parts k.last refl k.after.rest.fit;
        end = k.after.rest.end;
      };
      spells = λ at. last_of _ (k.along at);
    }
  where
    start : (z : Bool) → Waits z Other
    start true = tt
    start false = refl

    last_of : (ts : List Token) → (to : ℕ) × Spells f d ts (tokens_from to []) → Spells f d ts []
    last_of ts a = a.1

    at : (z : Bool) → Asks z c (ends_behind_point false f) [] []
    at true = (all_by line_ok (λ m. met m [] []) c.needs (λ m h. met_end m h) ended, refl)
    at false = (refl, refl)
