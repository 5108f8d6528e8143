-- Types, and paths, arguments and bounds by themselves: what is read within a budget stands there, at the depth that it
-- needs.
use Rattle.std.proofs.Common.{length, drop, Bool, Some, sym, subst, ◌∙◌, length-append, ◌≡◌, ℕ, zero, suc, ◌≤◌, true, not, List, map, codes, refl, ap, arith}
use Rattle.std.proofs.lemmas.Bool.{and_from}
use Rattle.std.proofs.lemmas.List.{drop_at}
use Rattle.lay_token.specs.Operators.{is_op}
use Rattle.lay_form.specs.Form.{Form}
use Rattle.lay_form.specs.Spelled as spelled
use Rattle.lay_form.specs.Spelled.{Spells}
use Rattle.lay_form.proofs.FormLaws.{is_end}
use Rattle.lay_node.specs.Ahead.{Tokens}
use Rattle.lay_node.specs.Begins.{lead_at}
use Rattle.lay_node.specs.Follow.{may_follow}
use Rattle.lay_node.specs.nodes.Facts.{Facts}
use Rattle.lay_node.specs.nodes.Types as types
use Rattle.lay_node.specs.nodes.Types.{TypeFront, BoundsFront, good_at, type_follows, about_type, bounds_form, bounds_good, bounds_follow, last_refuses, alone, about_args, about_path, about_bound, in_style}
use Rattle.lay_node.specs.reader.Exact.{InText}
use Rattle.lay_node.specs.reader.Loops.{Read}
use Rattle.lay_node.specs.reader.Types.{Within, within, type_at, alone_at, path, path_at, args_by, args_at, all_bounds, bounds_at}
use Rattle.lay_node.specs.declared.types.Args.{Args}
use Rattle.lay_node.specs.declared.types.Bound.{Bound}
use Rattle.lay_node.specs.declared.types.Path.{Path}
use Rattle.lay_node.specs.declared.types.PathStyle.{PathStyle}
use Rattle.lay_node.specs.declared.types.Ty.{Ty}
use Rattle.lay_node.specs.declared.types.TypePlace.{TypePlace}
use Rattle.lay_node.proofs.Steps.{same_some, bind_some}
use Rattle.lay_node.proofs.reader.Exact.{Sound}
use Rattle.lay_node.proofs.reader.Loops.{SoundStep}
use Rattle.lay_node.proofs.reader.TypesSoundBounds.{bounds_sound, constraint_sound}
use Rattle.lay_node.proofs.reader.TypesSoundKinds.{type_sound}
use Rattle.lay_node.proofs.reader.TypesSoundNeeds.{Held}
use Rattle.lay_node.proofs.reader.TypesSoundParts.{Out}
use Rattle.lay_node.proofs.reader.TypesSoundLevel.{TypeHeld, SoundWithin}
use Rattle.lay_node.proofs.reader.TypesSoundPaths.{args_told, path_told, args_sound, path_sound}

-- What is read within a budget stands there.
pub within_sound : (budget : ℕ) → SoundWithin budget (within budget)
unfolding within
within_sound zero = record { types = λ place ts x rest t h. absurd (cc); constraints = λ ts x rest t h. absurd (cc) }
within_sound (suc budget) =
    let inner = within_sound budget in
    record {
      types = λ place ts x rest t h. type_sound budget (within budget) inner place (lead_at ts) ts refl t x rest h;
      constraints = constraint_sound budget (within budget) inner;
    }

-- A type that is read stands there, at the depth that it needs, and the tokens after it may follow it at its place.
pub type_at_sound : (place : TypePlace) (budget : ℕ) → SoundStep (type_at place budget) (TypeHeld place budget)
type_at_sound place budget = (within_sound budget).types place

-- ---- nodes that aren't counted, by themselves

-- What is spelled with what is within it one level deeper, and whatever else holds of it and of what is left.
abbrev pub Deep : {A : Type 0} → (A → Form) → (A → Tokens → Type 0) → ℕ → A × ℕ → Tokens → Tokens → Type 0
Deep form P budget x ts rest = (x.1 ≤ budget) × Spells (form x.0) x.1 ts rest × P x.0 rest

pub alone_sound : {A : Type 0} (form : A → Form) (P : A → Tokens → Type 0) (one : Within → Tokens → Read A)
    → ((budget : ℕ) (inner : Within) → SoundWithin budget inner → SoundStep (one inner) (Deep form P budget))
    → (budget : ℕ) → SoundStep (alone_at one budget) (Deep (λ x. types.deeper (form x)) P budget)
alone_sound form P one sound zero ts x rest t h = absurd (cc)
alone_sound {A} form P one sound (suc budget) ts x rest t h =
    let y = bind_some (one (within budget) ts) _ _ h in
    let s = sound budget (within budget) (within_sound budget) ts y.0.0 y.0.1 t y.1 in
    let k = s.0 in
    same_some (Out (Deep (λ x. types.deeper (form x)) P (suc budget)) ts) ((y.0.0.0, suc y.0.0.1), y.0.1) (x, rest) y.2
    ((omega (arith, k.0), (y.0.1, k.1, refl), k.2), s.1)

-- the same, where facts tell of it
abbrev GoodBefore : {A : Type 0} → (A → Facts) → A → Tokens → Type 0
GoodBefore told x rest = ((told x).good ≡ true) × (may_follow (told x).refuses rest ≡ true)

told_sound : {A : Type 0} (told : A → Facts) (one : Within → Tokens → Read A)
    → ((budget : ℕ) (inner : Within) → SoundWithin budget inner → SoundStep (one inner) (Held told budget))
    → (budget : ℕ) → SoundStep (alone_at one budget) (Held (λ x. alone (told x)) budget)
told_sound told one sound budget ts x rest t h =
    let s = alone_sound (λ y. (told y).form) (GoodBefore told) one
    (λ b inner k us y end i e. let r = sound b inner k us y end i e in ((r.0.0, r.0.1.0, (r.0.1.1, r.0.1.2)), r.1))
    budget ts x rest t h in
    let k = s.0 in ((k.0, (k.1, k.2.0, k.2.1)), s.1)

pub path_at_sound : (style : PathStyle) (budget : ℕ)
    → SoundStep (path_at style budget) (Held (λ (x : Path). alone (about_path x style)) budget)
path_at_sound style = told_sound (path_told style) (λ w ts. path w style ts) (λ b inner k. path_sound b inner k style)

pub args_at_sound : (style : PathStyle) (budget : ℕ)
    → SoundStep (args_at style budget) (Held (λ (x : Args). alone (in_style style (about_args x))) budget)
args_at_sound style =
    told_sound (args_told style) (λ w ts. args_by w style ts) (λ b inner k. args_sound b inner k style)

abbrev pub BoundsAlone : ℕ → List Bound × ℕ → Tokens → Tokens → Type 0
BoundsAlone budget x ts rest =
    (x.1 ≤ budget) × Spells (types.deeper (bounds_form (map about_bound x.0))) x.1 ts rest
    × (bounds_good (map about_bound x.0) ≡ true) × (bounds_follow x.0 rest ≡ true)

abbrev FollowBounds : List Bound → Tokens → Type 0
FollowBounds x rest = (bounds_good (map about_bound x) ≡ true) × (bounds_follow x rest ≡ true)

pub bounds_at_sound : (budget : ℕ) → SoundStep (bounds_at budget) (BoundsAlone budget)
bounds_at_sound budget ts x rest t h =
    let s = alone_sound (λ (y : List Bound). bounds_form (map about_bound y)) FollowBounds all_bounds
    (λ b inner k us y end i e.
    let r = bounds_sound b inner k us y end i e in
    let one = r.0.0 in (
      (
        one.0,
        one.1,
        (
          one.2,
          and_from (not (is_op (codes "+") end)) (may_follow (last_refuses (map about_bound y.0)) end) (ap not r.0.1)
              one.3,
        ),
      ),
      r.1,
    ))
    budget ts x rest t h in
    let k = s.0 in ((k.0, k.1, k.2.0, k.2.1), s.1)

-- ---- beginnings

-- It is spelled within the budget, it is good, and what follows it may follow it.
abbrev Fitting : {A : Type 0} → (A → Form) → (A → Bool) → (A → Tokens → Bool) → ℕ → A × ℕ → Tokens → Tokens → Type 0
Fitting form good follows budget x ts rest =
    (x.1 ≤ budget) × Spells (form x.0) x.1 ts rest × (good x.0 ≡ true) × (follows x.0 rest ≡ true)

-- What is read so comes next, by a count of tokens.
pub counted_sound : {A : Type 0} (form : A → Form) (good : A → Bool) (follows : A → Tokens → Bool)
    (read : ℕ → Tokens → Read A)
    → ((budget : ℕ) → SoundStep (read budget) (Fitting form good follows budget))
    → (budget : ℕ) (ts : Tokens) (x : A) (need : ℕ) (rest : Tokens) → InText ts
    → read budget ts ≡ Some ((x, need), rest)
    → (n : ℕ) × (drop n ts ≡ rest) × (need ≤ budget) × spelled.Front (form x) (good x) (follows x) ts n need
counted_sound form good follows read sound budget ts x need rest t h =
    let k = (sound budget ts (x, need) rest t h).0 in
    let e = is_end (form x) need ts rest k.1 in
    let n = length e.before in
    let dropped : drop n ts ≡ rest = ap (λ (us : Tokens). drop n us) e.whole ∙ drop_at e.before rest n refl in
    let le : n ≤ length ts = omega (arith, ap length e.whole, length-append e.before rest) in
    let front : spelled.Front (form x) (good x) (follows x) ts n need = (
      le,
      subst (λ us. Spells (form x) need ts us) (sym dropped) k.1,
      k.2,
      subst (λ us. follows x us ≡ true) (sym dropped) k.3,
    ) in
    (n, dropped, k.0, front)

pub types_stand : (place : TypePlace) (budget : ℕ) (ts : Tokens) (x : Ty) (need : ℕ) (rest : Tokens) → InText ts
    → type_at place budget ts ≡ Some ((x, need), rest) → (n : ℕ) × (drop n ts ≡ rest) × (need ≤ budget)
    × TypeFront place (about_type x) ts n need
types_stand place =
    counted_sound (λ x. (about_type x).told.form) (λ x. good_at place (about_type x))
    (λ x. type_follows place (about_type x)) (type_at place) (type_at_sound place)

pub path_alone_sound : (style : PathStyle) (budget : ℕ)
    → Sound (λ (x : Path). alone (about_path x style)) budget (path_at style budget)
path_alone_sound style budget ts x need rest t h = (path_at_sound style budget ts (x, need) rest t h).0

pub args_alone_sound : (style : PathStyle) (budget : ℕ)
    → Sound (λ (x : Args). alone (in_style style (about_args x))) budget (args_at style budget)
args_alone_sound style budget ts x need rest t h = (args_at_sound style budget ts (x, need) rest t h).0

pub bounds_stand : (budget : ℕ) (ts : Tokens) (x : List Bound) (need : ℕ) (rest : Tokens) → InText ts
    → bounds_at budget ts ≡ Some ((x, need), rest)
    → (n : ℕ) × (drop n ts ≡ rest) × (need ≤ budget) × BoundsFront x ts n need
bounds_stand =
    counted_sound (λ (x : List Bound). types.deeper (bounds_form (map about_bound x)))
    (λ x. bounds_good (map about_bound x)) bounds_follow bounds_at bounds_at_sound
