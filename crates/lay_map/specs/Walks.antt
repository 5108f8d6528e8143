-- A walk over tokens that finds the units by the first characters of their words. It takes the next
-- token that begins as the word does, and the tokens passed over are in no unit. Only braces need
-- more, as `Choice` of `units` says.
use Rattle.std.specs.Prelude.{◌≡◌, ◌⊎◌, ℕ, zero, suc, ◌+◌, ◌-◌, min, Bool, true, false, cond, ◌&&◌, ◌==◌, nat_le, List, [], ◌∷◌, ◌++◌, drop, length}
use Rattle.lay_piece.specs.Characters as char
use Rattle.lay_piece.specs.declared.kind.Kind.{Kind}
use Rattle.lay_token.specs.declared.token.Token.{Token}
use Rattle.lay_map.specs.spelling.Choice.{alike, begins_doc, behind_token, closes, more_doc, openers, opens, top}
use Rattle.lay_map.specs.declared.unit.Unit.{Unit}
use Rattle.lay_map.specs.declared.walk.Sought.{Sought}
use Rattle.lay_map.specs.declared.walk.Sought.TheVariants.{First, Docs}

-- The tokens ahead, the open braces, and the units so far. For each open brace, the innermost
-- first, a flag says whether the brace is in a unit.
pub record Place : Type 0 where
  pub ahead : List Token
  pub braces : List Bool
  pub units : List Unit

-- ---- what is looked for

abbrev pub is_closing : Sought → Bool
is_closing (First c) = c == char.close_brace
is_closing Docs = false

-- A token of this kind and text is looked for, as far as its first character tells.
abbrev pub is_said : Sought → Kind → List ℕ → Bool
is_said (First c) kind text = alike text (c ∷ [])
is_said Docs kind text = begins_doc kind text

-- The token is looked for while these braces are open.
abbrev pub is_sought : Sought → List Bool → Token → Bool
is_sought sought braces t =
    cond (opens t.kind) false (cond (closes t.kind) (is_closing sought && top braces) (is_said sought t.kind t.text))

-- ---- going on

abbrev pub sought_in : Sought → List Token → List Bool → List Unit → Place
sought_in sought [] braces units = record { ahead = []; braces = braces; units = units }
sought_in sought (t ∷ ts) braces units =
    cond (is_sought sought braces t) (record { ahead = t ∷ ts; braces = braces; units = units })
    (sought_in sought ts (behind_token false t.kind braces) units)

-- the place before the next token that is looked for
abbrev pub sought_from : Sought → Place → Place
sought_from sought p = sought_in sought p.ahead p.braces p.units

-- the token this many places after the first, or the last one if there are fewer
abbrev pub last_of : ℕ → Token → List Token → Token
last_of zero t ts = t
last_of (suc n) t [] = t
last_of (suc n) t (u ∷ us) = last_of n u us

-- The unit from one token to another. Offsets in a text are below 2^64.
abbrev pub unit_from : Token → Token → Unit
unit_from first last = record { at = first.at; len = min (last.at + last.len) 18446744073709551615 - first.at }

abbrev pub taken_in : ℕ → List Token → List Bool → List Unit → Place
taken_in n [] braces units = record { ahead = []; braces = braces; units = units }
taken_in n (t ∷ ts) braces units =
    record { ahead = drop n ts; braces = behind_token true t.kind braces; units = units ++ unit_from t (last_of n t ts) ∷ [] }

-- The next token is a unit, together with this many tokens after it.
abbrev pub taken_from : ℕ → Place → Place
taken_from n p = taken_in n p.ahead p.braces p.units

abbrev pub first_length : List Token → ℕ
first_length [] = 0
first_length (t ∷ ts) = length t.text

-- how many tokens after the next one belong to the same documentation
abbrev pub more_of : Bool → List Token → ℕ
more_of inner [] = 0
more_of inner (t ∷ ts) = more_doc inner t.kind

-- ---- rows of opening braces

-- The count is the number of opening braces in a row ahead, or it is 0 since they aren't counted
-- yet.
abbrev pub IsCount : Bool → ℕ → List Token → Type 0
IsCount loose count ts = (count ≡ 0) ⊎ (count ≡ openers loose ts)

-- Of the opening braces in a row the last ones become units, this many of them. The flag says that
-- `;` may stand between the braces.
abbrev pub placed_in : Bool → ℕ → List Token → List Bool → List Unit → Place
placed_in loose zero ts braces units = record { ahead = ts; braces = braces; units = units }
placed_in loose (suc k) [] braces units = record { ahead = []; braces = braces; units = units }
placed_in loose (suc k) (t ∷ ts) braces units =
    cond (opens t.kind)
    (cond (nat_le (openers loose (t ∷ ts)) (suc k)) (placed_in loose k ts (true ∷ braces) (units ++ unit_from t t ∷ []))
    (placed_in loose (suc k) ts (false ∷ braces) units))
    (placed_in loose (suc k) ts (behind_token false t.kind braces) units)

abbrev pub placed : Bool → ℕ → Place → Place
placed loose k p = placed_in loose k p.ahead p.braces p.units
