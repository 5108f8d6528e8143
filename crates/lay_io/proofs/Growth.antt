-- Growth of a sink over several writes.
use Rattle.std.proofs.Common.{◌≡◌, ℕ, ◌+◌, ◌≤◌, List, [], ◌++◌, length, take, Option, Some, None, arith, append_assoc}
use Rattle.std.proofs.lemmas.Grind.{common_steps}
use Rattle.std.proofs.Common.{min}
use Rattle.std.proofs.Math.Seq.{take-append-add}
use Rattle.std.proofs.lemmas.List.{take-append-le}
use Rattle.lay_io.specs.Told.{GrewBy, GrewByPrefix}

pub grew_by-nothing : (before : Option (List ℕ)) → GrewBy before before []
grew_by-nothing None = tt
grew_by-nothing (Some start) = grind (arith, common_steps)

pub grew_by-more : (before middle now : Option (List ℕ)) (x y : List ℕ) → GrewBy before middle x → GrewBy middle now y → GrewBy before now (x ++ y)
grew_by-more before middle None x y first second = tt
grew_by-more None None (Some all) x y first second = second
grew_by-more None (Some start) (Some all) x y first second = cc
grew_by-more (Some old) None (Some all) x y first second = cc
grew_by-more (Some old) (Some start) (Some all) x y first second =
    let e : old ++ x ≡ start = cc in rw (← append_assoc, e) second

-- a prefix of the second piece, after the first
pub grew_by_prefix-more : (before middle now : Option (List ℕ)) (x y : List ℕ) → GrewBy before middle x → GrewByPrefix middle now y → GrewByPrefix before now (x ++ y)
grew_by_prefix-more before middle now x y first second =
    (length x + second.0, rw take-append-add (grew_by-more before middle now x (take second.0 y) first second.1))

take-min : (k : ℕ) (x : List ℕ) → take (min k (length x)) x ≡ take k x
take-min k x = grind (arith, common_steps)

take-short : (k : ℕ) (x y : List ℕ) → take (min k (length x)) (x ++ y) ≡ take k x
take-short k x y = let short : min k (length x) ≤ length x = omega arith in rw take-append-le (take-min k x)

-- a prefix of a piece is one of what begins with the piece
pub grew_by_prefix-longer : (before now : Option (List ℕ)) (x y : List ℕ) → GrewByPrefix before now x → GrewByPrefix before now (x ++ y)
grew_by_prefix-longer before now x y h =
    (min h.0 (length x), rw take-short h.1)

pub grew_by_prefix-nothing : (before : Option (List ℕ)) (x : List ℕ) → GrewByPrefix before before x
grew_by_prefix-nothing before x = (0, grew_by-nothing before)
