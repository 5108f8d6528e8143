-- A walk over tokens that are told one by one.
use Rattle.std.proofs.Common.{◌≡◌, ℕ, zero, suc, ◌-◌, ◌<◌, ◌≤◌, Bool, true, false, cond, List, [], ◌∷◌, drop, refl, sym, ap, ◌∙◌, Some, arith}
use Rattle.lay_token.specs.declared.token.Token.{Token}
use Rattle.lay_map.specs.spelling.Choice.{behind_token}
use Rattle.lay_lex.specs.one_by_one.Ahead.{IsNext, Tells}
use Rattle.lay_lex.specs.declared.one_by_one.cursor.Lexeme.{Lexeme}
use Rattle.lay_map.specs.Finding.{Finds}
use Rattle.lay_map.specs.Walks.{Place, is_sought, last_of, sought_in}
use Rattle.lay_map.specs.declared.unit.Unit.{Unit}
use Rattle.lay_map.specs.declared.walk.Sought.{Sought}

-- ---- looking

abbrev at : List Token → List Bool → List Unit → Place
at ahead braces units = record { ahead = ahead; braces = braces; units = units }

-- The token that comes next is the one that is looked for.
pub found : (sought : Sought) (start ts behind : List Token) (from braces : List Bool) (l : Lexeme)
    → ((units : List Unit) → sought_in sought start from units ≡ sought_in sought ts braces units) → IsNext ts (Some l) behind
    → ((t : Token) → Tells l t → true ≡ is_sought sought braces t) → Finds sought start from (Some l) behind braces
found sought start ts behind from braces l so_far n is = record {
  there = ts;
  next = n;
  are = λ units.
      so_far units
      ∙ ap (λ (x : List Token). sought_in sought x braces units) n.1
      ∙ ap (λ (x : Bool). cond x (at (n.0 ∷ behind) braces units) (sought_in sought behind (behind_token false n.0.kind braces) units)) (sym (is n.0 n.2))
      ∙ ap (λ (x : List Token). at x braces units) (sym n.1);
}

-- ---- the last of some

one_less : (n : ℕ) → suc n - 1 ≡ n
one_less n = omega arith

pub last_step : (n : ℕ) (u t : Token) (ts behind : List Token) → 0 < n → ts ≡ t ∷ behind → last_of n u ts ≡ last_of (n - 1) t behind
last_step zero u t ts behind p e = let never : ⊥ = omega (arith, p) in absurd never
last_step (suc n) u t ts behind p e = ap (last_of (suc n) u) e ∙ ap (λ (k : ℕ). last_of k t behind) (sym (one_less n))

pub last_none : (n : ℕ) (u : Token) (ts : List Token) → ts ≡ [] → last_of n u ts ≡ u
last_none zero u ts e = refl
last_none (suc n) u ts e = ap (last_of (suc n) u) e

pub last_zero : (n : ℕ) (u : Token) (ts : List Token) → n ≤ 0 → last_of n u ts ≡ u
last_zero zero u ts h = refl
last_zero (suc n) u ts h = let never : ⊥ = omega (arith, h) in absurd never

pub drop_step : (n : ℕ) (t : Token) (ts behind : List Token) → 0 < n → ts ≡ t ∷ behind → drop n ts ≡ drop (n - 1) behind
drop_step zero t ts behind p e = let never : ⊥ = omega (arith, p) in absurd never
drop_step (suc n) t ts behind p e = ap (drop (suc n)) e ∙ ap (λ (k : ℕ). drop k behind) (sym (one_less n))
