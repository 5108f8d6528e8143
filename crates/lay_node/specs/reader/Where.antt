-- The parser of where clauses.
use Rattle.std.specs.Prelude.{ℕ, max, Bool, false, if◌then◌else◌, [], codes, Some}
use Rattle.lay_node.specs.Ahead.{Tokens, first, tail, is_keyword, is_lifetime}
use Rattle.lay_node.specs.Begins.{begins_predicate}
use Rattle.lay_node.specs.reader.Generics.{met}
use Rattle.lay_node.specs.reader.Loops.{Got, Read, ◌>>=◌, nodes, deepest, open_elements}
use Rattle.lay_node.specs.reader.Types.{Within, alone_at, binder_if, lifetime, lifetimes, operator}
use Rattle.lay_node.specs.declared.generics.Predicate.{Predicate}
use Rattle.lay_node.specs.declared.generics.Predicate.TheVariants as predicate
use Rattle.lay_node.specs.declared.generics.Wheres.{Wheres}
use Rattle.lay_node.specs.declared.types.TypePlace.TheVariants.{Bounds}

unfoldable pub lifetime_predicate : Tokens → Got Predicate
lifetime_predicate ts = do
  l ← lifetime ts
  at ← operator (codes ":") l.1
  bounds ← lifetimes at
  Some (predicate.Region l.0 bounds.0, bounds.1)

unfoldable pub type_predicate : Within → Tokens → Read Predicate
type_predicate within ts = do
  b ← binder_if ts
  x ← within.types Bounds b.1
  at ← operator (codes ":") x.1
  bounds ← met within at
  Some ((predicate.Bounded b.0 x.0.0 bounds.0.0, max x.0.1 bounds.0.1), bounds.1)

abbrev pub one_predicate : Within → Tokens → Read Predicate
one_predicate within ts =
    if first is_lifetime ts then (do p ← lifetime_predicate ts; Some ((p.0, 0), p.1)) else type_predicate within ts

-- a where clause, and whether its last part is spelled
unfoldable pub wheres : Within → Tokens → Read (Wheres × Bool)
wheres within ts =
    if first (is_keyword (codes "where")) ts then (do
      ps ← open_elements begins_predicate (one_predicate within) (tail ts)
      Some (((record { predicates = nodes ps.0.0 }, ps.0.1), deepest ps.0.0), ps.1))
    else Some (((record { predicates = [] }, false), 0), ts)

abbrev pub wheres_at : ℕ → Tokens → Read (Wheres × Bool)
wheres_at = alone_at wheres
