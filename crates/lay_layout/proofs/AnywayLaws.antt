-- The layout of a document is one of the texts that it may be laid out as if the space decides
-- nothing.
use Rattle.std.proofs.Common.{◌≡◌, inl, inr, ℕ, ◌+◌, ◌≤◌, Bool, true, false, not, ◌&&◌, ◌||◌, ℤ, refl, ap, ◌∙◌, arith}
use Rattle.std.proofs.lemmas.Bool.{or_cases, eqb-true, lt-ltb, both_ways, false_from_ne_true}
use Rattle.lay_layout.specs.declared.layout.Break.{Break}
use Rattle.lay_layout.specs.declared.layout.Mark.{Mark}
use Rattle.lay_layout.specs.declared.layout.Mark.TheVariants.{Absent, Comma, OpenBrace, CloseBrace}
use Rattle.lay_layout.specs.declared.layout.Frame.{Frame}
use Rattle.lay_layout.specs.declared.layout.Frame.TheVariants.{Flat, Broken}
use Rattle.lay_layout.specs.Margins.{margin}
use Rattle.lay_layout.specs.Document.{Document, Empty, AddText, AddBreak, AddGroup, State, flat, ahead, render, width_of_break, over, write, put_mark, newline, enter, break_by, break_in, outside, start, text_of}
use Rattle.lay_layout.specs.Anyway.{is_hard, has_hard, Enters, Leads, Anyway}

mark_room : (m : Mark) (s : State) → s.room ≤ margin → (put_mark m s).room ≤ margin
mark_room Absent s h = h
mark_room Comma s h = h
mark_room OpenBrace s h = h
mark_room CloseBrace s h = h

newline_room : (b : Break) (i : ℕ) (s : State) → (newline b i s).room ≤ margin
newline_room b i s = mark_room b.after _ (omega arith)

break_room : (never : Bool) (f : Frame) (b : Break) (big : Bool) (s : State) → s.room ≤ margin → (break_by never f b big s).room ≤ margin
break_room true f b big s h = mark_room b.instead _ h
break_room false Flat b big s h = mark_room b.instead _ h
break_room false (Broken true i) b big s h = newline_room b i s
break_room false (Broken false i) b true s h = newline_room b i s
break_room false (Broken false i) b false s h = mark_room b.instead _ h

-- A line has no more room than the margin.
render_room : (d : Document) (f : Frame) (s : State) (follow : ℕ) → s.room ≤ margin → (render d f s follow).room ≤ margin
render_room Empty f s follow h = h
render_room (AddText t rest) f s follow h = render_room rest f (write t s) follow h
render_room (AddBreak b rest) f s follow h =
    let big = over (width_of_break b + ahead rest follow) s in
    render_room rest f (break_in f b big s) follow (break_room b.never f b big s h)
render_room (AddGroup c o inner rest) f s follow h =
    let g = enter f c o (over (flat inner + ahead rest follow) s) in
    render_room rest f (render inner g s (ahead rest follow)) follow (render_room inner g s (ahead rest follow) h)

hard_wide : (b : Break) → is_hard b ≡ true → 65535 ≤ b.blank
hard_wide b h = let e : b.blank ≡ 65535 = eqb-true b.blank 65535 h in omega arith

-- what holds a hard break is too wide for a line
hard_flat : (d : Document) → has_hard d ≡ true → 65535 ≤ flat d
hard_flat Empty h = cc
hard_flat (AddText t rest) h = let a = hard_flat rest h in omega arith
hard_flat (AddBreak b rest) h = elim (or_cases (is_hard b) (has_hard rest) h) [
  | inl e ↦ let a = hard_wide b e in omega arith
  | inr e ↦ let a = hard_flat rest e in omega arith
]
hard_flat (AddGroup c o inner rest) h = elim (or_cases (has_hard inner) (has_hard rest) h) [
  | inl e ↦ let a = hard_flat inner e in omega arith
  | inr e ↦ let a = hard_flat rest e in omega arith
]

over_far : (n : ℕ) (s : State) → s.room ≤ margin → 65535 ≤ n → over n s ≡ true
over_far n s h k = lt-ltb s.room (s.used + n) (omega arith)

-- what isn't too wide holds none
none_hard : (hard : Bool) (n : ℕ) (s : State) → s.room ≤ margin → over n s ≡ false → (hard ≡ true → 65535 ≤ n) → hard ≡ false
none_hard hard n s h o w = false_from_ne_true hard (λ e. both_ways (over n s) o (over_far n s h (w e)))

-- the tests of a frame
HardFree : Frame → Bool → Type 0
HardFree f hard = f ≡ Flat → hard ≡ false

either_free : (f : Frame) (a b : Bool) → HardFree f (a || b) → HardFree f a × HardFree f b
unfolding HardFree
either_free f a b h = (λ e. first a (h e), λ e. second a (h e))
  where
    first : (a : Bool) → a || b ≡ false → a ≡ false
    first true k = k
    first false k = refl

    second : (a : Bool) → a || b ≡ false → b ≡ false
    second true k = cc
    second false k = k

break_leads : (never : Bool) (f : Frame) (b : Break) (rest : Document) (big : Bool) (s end : State) → b.never ≡ never → HardFree f (is_hard b)
    → (big ≡ false → is_hard b ≡ false) → Leads f rest (break_by never f b big s) end → Leads f (AddBreak b rest) s end
unfolding HardFree
break_leads true Flat b rest big s end e h w l = inr (ap (λ n. n || not (is_hard b)) e, l)
break_leads true (Broken c i) b rest big s end e h w l = inr (ap (λ n. n || (not c && not (is_hard b))) e, l)
break_leads false Flat b rest big s end e h w l = inr (ap (λ n. n || not (is_hard b)) e ∙ ap not (h refl), l)
break_leads false (Broken true i) b rest big s end e h w l = inl (ap not e, l)
break_leads false (Broken false i) b rest true s end e h w l = inl (ap not e, l)
break_leads false (Broken false i) b rest false s end e h w l =
    inr (ap (λ n. n || (true && not (is_hard b))) e ∙ ap not (w refl), l)

group_enters : (f : Frame) (c : Bool) (o : ℤ) (inner : Document) (big : Bool) → HardFree f (has_hard inner) → (big ≡ false → has_hard inner ≡ false)
    → Enters f c o inner (enter f c o big) × HardFree (enter f c o big) (has_hard inner)
unfolding HardFree
group_enters Flat c o inner big h w = (refl, h)
group_enters (Broken outer i) c o inner true h w = (inl refl, λ e. cc)
group_enters (Broken outer i) c o inner false h w = (inr (w refl, refl), λ e. w refl)

render_leads : (d : Document) (f : Frame) (s : State) (follow : ℕ) → s.room ≤ margin → HardFree f (has_hard d) → Leads f d s (render d f s follow)
render_leads Empty f s follow h k = refl
render_leads (AddText t rest) f s follow h k = render_leads rest f (write t s) follow h k
render_leads (AddBreak b rest) f s follow h k =
    let n = width_of_break b + ahead rest follow in
    let big = over n s in
    let p = either_free f (is_hard b) (has_hard rest) k in
    break_leads b.never f b rest big s _ refl p.0
    (λ e. none_hard (is_hard b) n s h e (λ w. let a = hard_wide b w in omega arith))
    (render_leads rest f (break_in f b big s) follow (render_room (AddBreak b Empty) f s (ahead rest follow) h) p.1)
render_leads (AddGroup c o inner rest) f s follow h k =
    let after = ahead rest follow in
    let n = flat inner + after in
    let g = enter f c o (over n s) in
    let p = either_free f (has_hard inner) (has_hard rest) k in
    let q = group_enters f c o inner (over n s) p.0
    (λ e. none_hard (has_hard inner) n s h e (λ w. let a = hard_flat inner w in omega arith)) in (
      g,
      render inner g s after,
      q.0,
      render_leads inner g s after h q.1,
      render_leads rest f (render inner g s after) follow (render_room inner g s after h) p.1,
    )

pub text_anyway : (d : Document) → Anyway d (text_of d)
unfolding HardFree
text_anyway d = (render d outside start 0, render_leads d outside start 0 (omega arith) (λ e. cc), refl)
