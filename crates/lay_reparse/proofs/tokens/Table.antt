-- The table of neighbours, row by row: which row told what stands between two.
use Rattle.std.proofs.Common.{◌≡◌, ◌⊎◌, inl, inr, List, [], ◌∷◌, Bool, true, false, cond, ◌&&◌, ◌||◌, refl, codes}
use Rattle.std.specs.List.{list_all}
use Rattle.std.proofs.lemmas.Bool.{and_parts}
use Rattle.lay_node.specs.tokens.Pairs.{Neighbour, Seen, Separation, NoBreak, SoftBreak, HardBreak, first_row, rows, between, is_mark, is_joint_neighbour, is_punct_neighbour, is_doc, is_line_doc, is_number, is_nothing}

abbrev Rows : Type 0
Rows = List (Bool × Separation)

abbrev behind : Rows → Rows
behind [] = []
behind (r ∷ rs) = rs

-- after the first four rows, which speak of documentation, of joint tokens and of nothing
abbrev later_rows : Seen → Neighbour → Rows
later_rows s r = behind (behind (behind (behind (rows s r))))

-- after the seven first ones: each of these leaves no break
abbrev pub last_rows : Seen → Neighbour → Rows
last_rows s r = behind (behind (behind (later_rows s r)))

-- ---- the first four rows

-- It isn't one of them.
pub record Settled (s : Seen) (r : Neighbour) : Type 0 where
  pub no_line : is_line_doc s.last ≡ false
  pub no_doc : is_doc s.last || is_doc r ≡ false
  pub loose : is_joint_neighbour s.last ≡ false

pub data Way (s : Seen) (r : Neighbour) (t : Separation) : Type 0 where
  AtStart : is_nothing s.last ≡ true → NoBreak ≡ t → Way s r t
  BehindLine : is_line_doc s.last ≡ true → HardBreak ≡ t → Way s r t
  ByDoc : is_line_doc s.last ≡ false → is_doc s.last || is_doc r ≡ true → SoftBreak ≡ t → Way s r t
  BehindJoint : is_joint_neighbour s.last ≡ true → NoBreak ≡ t → Way s r t
  ByTokens : Settled s r → first_row (later_rows s r) ≡ t → Way s r t

pub way : (s : Seen) (r : Neighbour) (t : Separation) → between s r ≡ t → Way s r t
way s r t = by (is_nothing s.last) (is_line_doc s.last) (is_doc s.last || is_doc r) (is_joint_neighbour s.last)
    refl refl refl refl
  where
    by : (a b c d : Bool) → is_nothing s.last ≡ a → is_line_doc s.last ≡ b → is_doc s.last || is_doc r ≡ c
        → is_joint_neighbour s.last ≡ d
        → cond a NoBreak (cond b HardBreak (cond c SoftBreak (cond d NoBreak (first_row (later_rows s r))))) ≡ t
        → Way s r t
    by true b c d e f g h w = AtStart e w
    by false true c d e f g h w = BehindLine f w
    by false false true d e f g h w = ByDoc f g w
    by false false false true e f g h w = BehindJoint h w
    by false false false false e f g h w = ByTokens (record { no_line = f; no_doc = g; loose = h }) w

-- ---- the others

-- One of the rows fits.
abbrev pub AnyRow : Rows → Type 0
AnyRow [] = ⊥
AnyRow (r ∷ rs) = (r.0 ≡ true) ⊎ AnyRow rs

any_row : (rs : Rows) → first_row rs ≡ NoBreak → AnyRow rs
any_row [] h = cc
any_row (r ∷ rs) h = by r.0 refl h (λ k. any_row rs k)
  where
    by : (b : Bool) → r.0 ≡ b → cond b r.1 (first_row rs) ≡ NoBreak → (first_row rs ≡ NoBreak → AnyRow rs)
        → (r.0 ≡ true) ⊎ AnyRow rs
    by true e h f = inl e
    by false e h f = inr (f h)

-- how a row after the first four leaves no break
pub data Glue (s : Seen) (r : Neighbour) : Type 0 where
  BySeparator : is_mark (codes ",") r || is_mark (codes ";") r ≡ true → Glue s r
  ByRow : is_punct_neighbour s.last && is_punct_neighbour r ≡ false
      → is_mark (codes ".") r && is_number s.place s.last ≡ false → AnyRow (last_rows s r) → Glue s r

pub glue_of : (s : Seen) (r : Neighbour) → first_row (later_rows s r) ≡ NoBreak → Glue s r
glue_of s r = by (is_mark (codes ",") r || is_mark (codes ";") r) (is_punct_neighbour s.last && is_punct_neighbour r)
    (is_mark (codes ".") r && is_number s.place s.last) refl refl refl
  where
    by : (a b c : Bool) → is_mark (codes ",") r || is_mark (codes ";") r ≡ a
        → is_punct_neighbour s.last && is_punct_neighbour r ≡ b
        → is_mark (codes ".") r && is_number s.place s.last ≡ c
        → cond a NoBreak (cond b SoftBreak (cond c SoftBreak (first_row (last_rows s r)))) ≡ NoBreak → Glue s r
    by true b c e f g h = BySeparator e
    by false true c e f g h = cc
    by false false true e f g h = cc
    by false false false e f g h = ByRow f g (any_row (last_rows s r) h)

-- None of them is a newline.
abbrev is_soft : Separation → Bool
is_soft HardBreak = false
is_soft _ = true

no_hard : (rs : Rows) → list_all (λ (r : Bool × Separation). is_soft r.1) rs ≡ true → first_row rs ≡ HardBreak → ⊥
no_hard [] h e = cc
no_hard (r ∷ rs) h e = let a = and_parts (is_soft r.1) _ h in by r.0 r.1 a.0 (no_hard rs a.1) e
  where
    by : (b : Bool) (t : Separation) → is_soft t ≡ true → (first_row rs ≡ HardBreak → ⊥)
        → cond b t (first_row rs) ≡ HardBreak → ⊥
    by true NoBreak h f e = cc
    by true SoftBreak h f e = cc
    by true HardBreak h f e = cc
    by false t h f e = f e

pub later_soft : (s : Seen) (r : Neighbour) → first_row (later_rows s r) ≡ HardBreak → ⊥
later_soft s r = no_hard (later_rows s r) refl
