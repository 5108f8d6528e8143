-- Moves that write texts, or nothing: several texts in a row are one, and a piece is written where it has a text.
use Rattle.std.proofs.Common.{◌≡◌, ℕ, ◌+◌, List, [], ◌∷◌, ◌++◌, Bool, true, false, cond, not, ◌&&◌, ◌||◌, sym, refl, ap, ap₂, subst, append_assoc, append-nil, arith, length, length-append}
use Rattle.std.specs.Prelude.{◌==◌, codes}
use Rattle.std.proofs.lemmas.Bool.{and_parts, and_from}
use Rattle.lay_piece.specs.Chars.{begins, is_nil}
use Rattle.lay_piece.specs.Forms.{doc_opening}
use Rattle.lay_layout.specs.declared.layout.Frame.{Frame}
use Rattle.lay_layout.specs.Document.{Document, AddText, State, write}
use Rattle.lay_piece.specs.declared.kind.Kind.{Kind}
use Rattle.lay_piece.specs.declared.kind.Kind.TheVariants.{RawIdent, Doc}
use Rattle.lay_token.specs.declared.token.Token.{Token}
use Rattle.lay_form.specs.Form.{Bit, Blank, Fixed, Operator, Semicolons}
use Rattle.lay_form.specs.Spelled.{AreBits, Then}
use Rattle.lay_form.specs.Layout.{text_of_bits, add, add_token, bits_end_in_point, led}
use Rattle.lay_layout.specs.Anyway.{Leads}
use Rattle.lay_reparse.proofs.texts.Characters.{low_encodes, low_clean}
use Rattle.lay_reparse.proofs.texts.Laid.{as_block, bytes_of}
use Rattle.lay_reparse.proofs.borders.Border.{Border, beyond, bits_low}
use Rattle.lay_reparse.proofs.borders.Move.{blanks, Goes, go_then, go_as, stand, go_text}
use Rattle.lay_reparse.proofs.forms.Passes.{full, is_dropped, stands, piece_passes, piece_does}

abbrev pub Same : List Token → List Token → Type 0
Same ts us = ts ≡ us

then_same : (S : List Token → List Token → Type 0) (ts us : List Token) → Then Same S ts us → S ts us
then_same S ts us h = subst (λ z. S z us) (sym h.1) h.2

same_then : (S : List Token → List Token → Type 0) (ts us : List Token) → Then S Same ts us → S ts us
same_then S ts us h = subst (λ z. S ts z) h.2 h.1

-- a move that adds no token, before and after another
pub after_none : {S : List Token → List Token → Type 0} (b : Border) (v : Bool) (s : State) (c : Border) (w : Bool)
    (m : State) (h : Border) (x : Bool) (t : State)
    → Goes Same b v s c w m → Goes S c w m h x t → Goes S b v s h x t
after_none {S} b v s c w m h x t f g = go_as {R = Then Same S} {S = S} b v s h x t (then_same S)
    (go_then {R = Same} {S = S} b v s c w m h x t f g)

pub before_none : {S : List Token → List Token → Type 0} (b : Border) (v : Bool) (s : State) (c : Border) (w : Bool)
    (m : State) (h : Border) (x : Bool) (t : State)
    → Goes S b v s c w m → Goes Same c w m h x t → Goes S b v s h x t
before_none {S} b v s c w m h x t f g = go_as {R = Then S Same} {S = S} b v s h x t (same_then S)
    (go_then {R = S} {S = Same} b v s c w m h x t f g)

-- Several texts in a row are one.
write-write : (x y : List ℕ) (s : State) → write y (write x s) ≡ write (x ++ y) s
write-write x y s =
    let e : (s.text ++ (blanks s.pending ++ x)) ++ y ≡ s.text ++ (blanks s.pending ++ (x ++ y)) = simp append_assoc in
    let n : s.used + length x + length y ≡ s.used + length (x ++ y) = omega (arith, length-append x y) in
    ap₂ (λ (t : List ℕ) (u : ℕ). state t u) e n
  where
    state : List ℕ → ℕ → State
    state t u = record { text = t; pending = 0; room = s.room; used = u }

write_nil : (x : List ℕ) (s : State) → write x s ≡ write (x ++ []) s
write_nil x s = ap (λ (z : List ℕ). write z s) (sym (append-nil x))

add_leads : (f : Frame) (x y : List ℕ) (d : Document) (s t : State) → Leads f (add y d) (write x s) t
    → Leads f d (write (x ++ y) s) t
add_leads f x [] d s t l = subst (λ (m : State). Leads f d m t) (write_nil x s) l
add_leads f x (c ∷ y) d s t l = subst (λ (m : State). Leads f d m t) (write-write x (c ∷ y) s) l

doc_leads : (f : Frame) (b : Bool) (o t : List ℕ) (d : Document) (s m : State)
    → Leads f (add t (cond b (AddText (codes "*/") d) d)) (write o s) m
    → Leads f d (write (o ++ (t ++ cond b (codes "*/") [])) s) m
doc_leads f true o t d s m l =
    let a = add_leads f o t (AddText (codes "*/") d) s m l in
    subst (λ (z : List ℕ). Leads f d (write z s) m) (append_assoc o t (codes "*/"))
    (subst (λ (z : State). Leads f d z m) (write-write (o ++ t) (codes "*/") s) a)
doc_leads f false o t d s m l = subst (λ (z : List ℕ). Leads f d (write (o ++ z) s) m) (sym (append-nil t))
    (add_leads f o t d s m l)

pub token_leads : (f : Frame) (k : Kind) (t : List ℕ) (d : Document) (s m : State) → Leads f (add_token k t d) s m
    → Leads f d (write (bytes_of k t) s) m
token_leads f RawIdent t d s m l = subst (λ (z : State). Leads f d z m) (write-write (codes "r#") t s) l
token_leads f (Doc inner block) t d s m l =
    doc_leads f (as_block inner t) (doc_opening inner (as_block inner t)) t d s m l
token_leads f _ t d s m l = l

-- A piece is written where it has a text, and else there is none.
abbrev pub put : List ℕ → State → State
put [] s = s
put (c ∷ cs) s = write (c ∷ cs) s

pub put_leads : (f : Frame) (x : List ℕ) (d : Document) (s t : State) → Leads f (add x d) s t → Leads f d (put x s) t
put_leads f [] d s t l = l
put_leads f (c ∷ x) d s t l = l

written : (x : List ℕ) (s : State) → not (is_nil x) ≡ true → write x s ≡ put x s
written [] s h = cc
written (c ∷ x) s h = refl

led_full : (v : Bool) (p : List Bit) → full p ≡ true → not (is_nil (text_of_bits (led v p))) ≡ true
led_full v p h = at (begins (λ c. c == 46) (text_of_bits p) && v)
  where
    at : (x : Bool) → not (is_nil (text_of_bits (cond x (Blank ∷ p) p))) ≡ true
    at true = refl
    at false = h

-- what is dropped
record IsNone (v : Bool) (b : Border) (p : List Bit) : Type 0 where
  text : text_of_bits p ≡ []
  border : beyond b p ≡ b
  point : bits_end_in_point v p ≡ v
  spelled : (ts us : List Token) → ts ≡ us → AreBits p ts us

dropped_is : (v : Bool) (b : Border) (p : List Bit) → is_dropped p ≡ true → IsNone v b p
dropped_is v b [] h = record { text = refl; border = refl; point = refl; spelled = λ ts us e. e }
dropped_is v b (Semicolons ∷ p) h =
    let k = dropped_is v b p h in
    record { text = k.text; border = k.border; point = k.point; spelled = λ ts us e. (ts, (0, refl), k.spelled ts us e) }
dropped_is v b (Blank ∷ p) h = cc
dropped_is v b (Fixed k t ∷ p) h = cc
dropped_is v b (Operator cs ∷ p) h = cc

dropped_goes : (v : Bool) (b : Border) (p : List Bit) (s : State) → is_dropped p ≡ true
    → Goes (AreBits p) b v s (beyond b (led v p)) (bits_end_in_point v p) (put (text_of_bits (led v p)) s)
dropped_goes v b p s h =
    let k = dropped_is v b p h in
    let l : p ≡ led v p = ap (λ z. cond (begins (λ c. c == 46) z && v) (Blank ∷ p) p) (sym k.text) in
    let P : List Bit → Type 0 =
    λ q. Goes (AreBits p) b v s (beyond b q) (bits_end_in_point v p) (put (text_of_bits q) s) in
    subst P l (subst (λ z. Goes (AreBits p) b v s (beyond b p) (bits_end_in_point v p) (put z s)) (sym k.text)
    (subst (λ c. Goes (AreBits p) b v s c (bits_end_in_point v p) s) (sym k.border)
    (subst (λ w. Goes (AreBits p) b v s b w s) (sym k.point)
    (go_as {R = Same} {S = AreBits p} b v s b v s k.spelled (stand b v s)))))

pub piece_goes : (v : Bool) (b : Border) (p : List Bit) (s : State) → piece_passes v b p ≡ true
    → Goes (AreBits p) b v s (beyond b (led v p)) (bits_end_in_point v p) (put (text_of_bits (led v p)) s)
piece_goes v b p s h = at (full p) refl (and_parts (stands p) _ h).0
  where
    x : List ℕ
    x = text_of_bits (led v p)

    at : (z : Bool) → full p ≡ z → z || is_dropped p ≡ true
        → Goes (AreBits p) b v s (beyond b (led v p)) (bits_end_in_point v p) (put x s)
    at true f g =
        let passes = (and_parts (stands p) _ h).1 in
        let low = bits_low (led v p) b passes in
        subst (λ m. Goes (AreBits p) b v s (beyond b (led v p)) (bits_end_in_point v p) m)
        (written x s (led_full v p f))
        (go_text x x b v s (beyond b (led v p)) (bits_end_in_point v p) (low_encodes x low) (low_clean x low)
        (λ e covers. piece_does v b p e (and_from (full p) _ f passes) covers))
    at false f g = dropped_goes v b p s g
