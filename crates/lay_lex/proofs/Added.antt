-- A token added after those read: the last of these becomes joint with it, or they stay as they
-- are.
use Rattle.std.proofs.Common.{◌≡◌, ℕ, not, cond, Bool, true, false, if◌then◌else◌, ◌&&◌, List, [], ◌∷◌, ◌++◌, length, ◌<◌, inl, inr, sym, refl, ap, ◌∙◌, arith}
use Rattle.std.proofs.lemmas.Bool.{cases_Bool}
use Rattle.lay_token.specs.declared.token.Token.{Token}
use Rattle.std.specs.Prelude.{codes}
use Rattle.std.specs.Str.{bytes_eq}
use Rattle.lay_token.specs.Lexes.{Before, Other, Point, Points, is_point, is_punct, is_separator}
use Rattle.lay_lex.specs.Added.{added, behind, ends_in_mark, ends_joint, is_mark, joined, last_joint}

abbrev with_joint : Token → Bool → Token
with_joint t b = record t { joint = b }

apart : (touches mark : Bool) (next t : Token) → mark ≡ is_mark t → t.joint ≡ false → touches && is_mark next && mark ≡ false
    → t ≡ joined touches next t
apart touches mark next t m j h =
    let none : t.joint ≡ (touches && is_mark next && is_mark t) = j ∙ sym h ∙ ap (λ (b : Bool). touches && is_mark next && b) m in
    ap (with_joint t) none

pub added_apart : (touches mark : Bool) (next : Token) (ts : List Token) → mark ≡ ends_in_mark ts → ends_joint ts ≡ false
    → touches && is_mark next && mark ≡ false → ts ++ next ∷ [] ≡ added touches next ts
added_apart touches mark next [] m j h = refl
added_apart touches mark next (t ∷ []) m j h = ap (λ (v : Token). v ∷ next ∷ []) (apart touches mark next t m j h)
added_apart touches mark next (t ∷ u ∷ us) m j h = ap (λ (l : List Token). t ∷ l) (added_apart touches mark next (u ∷ us) m j h)

none_joint : (a b : Bool) → a && b && false ≡ true → ⊥
none_joint true true e = cc
none_joint true false e = cc
none_joint false b e = cc

pub added_joint : (touches mark : Bool) (next : Token) (ts : List Token) → mark ≡ ends_in_mark ts
    → touches && is_mark next && mark ≡ true → last_joint ts ++ next ∷ [] ≡ added touches next ts
added_joint touches mark next [] m h =
    absurd (none_joint touches (is_mark next) (sym (ap (λ (b : Bool). touches && is_mark next && b) m) ∙ h))
added_joint touches mark next (t ∷ []) m h =
    let both : true ≡ (touches && is_mark next && is_mark t) = sym h ∙ ap (λ (b : Bool). touches && is_mark next && b) m in
    ap (λ (b : Bool). with_joint t b ∷ next ∷ []) both
added_joint touches mark next (t ∷ u ∷ us) m h = ap (λ (l : List Token). t ∷ l) (added_joint touches mark next (u ∷ us) m h)

pub ends_added : (touches : Bool) (next : Token) (ts : List Token) → ends_in_mark (added touches next ts) ≡ is_mark next
ends_added touches next [] = refl
ends_added touches next (t ∷ []) = refl
ends_added touches next (t ∷ u ∷ []) = refl
ends_added touches next (t ∷ u ∷ v ∷ us) = ends_added touches next (u ∷ v ∷ us)

pub apart_added : (touches : Bool) (next : Token) (ts : List Token) → ends_joint (added touches next ts) ≡ next.joint
apart_added touches next [] = refl
apart_added touches next (t ∷ []) = refl
apart_added touches next (t ∷ u ∷ []) = refl
apart_added touches next (t ∷ u ∷ v ∷ us) = apart_added touches next (u ∷ v ∷ us)

pub some_mark : (ts : List Token) → ends_in_mark ts ≡ true → 0 < length ts
some_mark [] e = absurd (let no : false ≡ true = e in cc)
some_mark (t ∷ ts) e = omega arith

pub added_by : (touches mark : Bool) (next : Token) (ts us : List Token) → mark ≡ ends_in_mark ts → ends_joint ts ≡ false
    → us ≡ (if touches && is_mark next && mark then last_joint ts else ts) → us ++ next ∷ [] ≡ added touches next ts
added_by touches mark next ts us m j h = elim (cases_Bool (touches && is_mark next && mark)) [
  | inl e ↦ ap (λ (l : List Token). l ++ next ∷ []) (h ∙ ap (λ (b : Bool). if b then last_joint ts else ts) e) ∙ added_joint touches mark next ts m e
  | inr e ↦ ap (λ (l : List Token). l ++ next ∷ []) (h ∙ ap (λ (b : Bool). if b then last_joint ts else ts) e) ∙ added_apart touches mark next ts m j e
]

pub pushed : (touches mark may joint : Bool) (next : Token) (old ts us read : List Token) → mark ≡ ends_in_mark old → ends_joint old ≡ false
    → may ≡ is_mark next → joint ≡ (touches && may && mark) → ts ≡ old → us ≡ (if joint then last_joint ts else ts)
    → read ≡ us ++ next ∷ [] → read ≡ added touches next old
pushed touches mark may joint next old ts us read m j e f g h r =
    let test : joint ≡ (touches && is_mark next && mark) = f ∙ ap (λ (b : Bool). touches && b && mark) e in
    let tokens : us ≡ (if touches && is_mark next && mark then last_joint old else old) =
    h ∙ ap (λ (l : List Token). if joint then last_joint l else l) g ∙ ap (λ (b : Bool). if b then last_joint old else old) test in
    r ∙ added_by touches mark next old us m j tokens

-- of punctuation its text alone tells whether it may be joint, and what follows it
pub punct_mark : (t : Token) (text : List ℕ) → is_punct t.kind ≡ true → t.text ≡ text → not (is_separator text) ≡ is_mark t
punct_mark t text k e = sym (ap (λ (b : Bool). b && not (is_separator t.text)) k ∙ ap (λ (l : List ℕ). not (is_separator l)) e)

pub punct_behind : (b : Before) (touches : Bool) (t : Token) (text : List ℕ) → is_punct t.kind ≡ true → t.text ≡ text
    → cond (bytes_eq text (codes ".")) (cond (is_point b && touches) Points Point) Other ≡ behind b touches t
punct_behind b touches t text k e =
    let by = λ (p : Bool). cond p (cond (is_point b && touches) Points Point) Other in
    sym (ap (λ (p : Bool). by (p && bytes_eq t.text (codes "."))) k ∙ ap (λ (l : List ℕ). by (bytes_eq l (codes "."))) e)

-- what is no punctuation is joint with nothing
pub other_mark : (t : Token) → is_punct t.kind ≡ false → is_mark t ≡ false
other_mark t k = ap (λ (b : Bool). b && not (is_separator t.text)) k

pub other_behind : (b : Before) (touches : Bool) (t : Token) → is_punct t.kind ≡ false → Other ≡ behind b touches t
other_behind b touches t k =
    sym (ap (λ (p : Bool). cond (p && bytes_eq t.text (codes ".")) (cond (is_point b && touches) Points Point) Other) k)

none_apart : (a b : Bool) → b ≡ false → (m : Bool) → a && b && m ≡ false
none_apart true true e m = absurd (let no : true ≡ false = e in cc)
none_apart true false e m = refl
none_apart false b e m = refl

pub other_added : (touches mark : Bool) (next : Token) (ts read : List Token) → mark ≡ ends_in_mark ts → ends_joint ts ≡ false
    → is_punct next.kind ≡ false → read ≡ ts ++ next ∷ [] → read ≡ added touches next ts
other_added touches mark next ts read m j k r =
    r ∙ added_apart touches mark next ts m j (none_apart touches (is_mark next) (other_mark next k) mark)
