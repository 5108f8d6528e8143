-- What a search for a token finds.
use Rattle.std.specs.Prelude.{◌≡◌, Bool, List, Option}
use Rattle.lay_token.specs.declared.token.Token.{Token}
use Rattle.lay_lex.specs.one_by_one.Ahead.{IsNext}
use Rattle.lay_lex.specs.declared.one_by_one.cursor.Lexeme.{Lexeme}
use Rattle.lay_map.specs.Walks.{Place, more_of, sought_from, sought_in, taken_from}
use Rattle.lay_map.specs.declared.unit.Unit.{Unit}
use Rattle.lay_map.specs.declared.walk.Sought.{Sought}
use Rattle.lay_map.specs.declared.walk.Sought.TheVariants.{Docs}

-- the place after a search for documentation, all of which is taken as one unit
abbrev pub documented_from : Bool → Place → Place
documented_from inner p = let q = sought_from Docs p in taken_from (more_of inner q.ahead) q

-- The search finds its token, and these tokens follow it; or it finds none.
pub record Finds (sought : Sought) (ts : List Token) (old : List Bool) (result : Option Lexeme) (behind : List Token) (new : List Bool) : Type 0 where
  pub there : List Token
  pub next : IsNext there result behind
  pub are : (units : List Unit) → sought_in sought ts old units ≡ record { ahead = there; braces = new; units = units }
