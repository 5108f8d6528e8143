use Rattle.std.proofs.Common.{rules, arith, ◌≡◌, ℕ, List, ◌++◌, Bool, IsUtf8, sym, ap, ◌∙◌, subst, None}
use Rattle.std.specs.Str.{chars}
use Rattle.lay_piece.specs.Forms.{Had}
use Rattle.lay_piece.specs.Found.{FrontPiece, found, front_of}
use Rattle.lay_piece.specs.declared.kind.Kind.{Kind}
use Rattle.lay_piece.proofs.Texts.{length_parts}
use Rattle.lay_piece.proofs.Exact.{stands_at, front_complete, found_kind, found_rest}
use Rattle.lay_piece.proofs.piece.piece_at.Goals as goal

-- nothing is found where nothing is had
none_at : (i : Bool) (cs piece more : List ℕ) (k : Kind) → front_of i cs ≡ None → cs ≡ piece ++ more
    → Had k piece more i → ⊥
none_at i cs piece more k e w h =
    let f : front_of i cs ≡ found k more = ap (front_of i) w ∙ front_complete k piece more i h in cc

pub returns-in_err-kind-clause-only : goal.returns-in_err-kind-clause-only
returns-in_err-kind-clause-only c kind piece more w h =
    absurd (none_at c.args.index (chars c.args.rest.now) piece more kind
    c.in_err-kind.ensures w h)

-- what is found in the bytes that were passed
pub overflow_sub-result : goal.overflow_sub-result
overflow_sub-result c =
    let ut : IsUtf8 c.in_ok-kind.tail.now = search rules in
    let f = stands_at c.args.index (chars c.args.rest.now) c.in_ok-kind.kind (chars c.in_ok-kind.tail.now) c.in_ok-kind.ensures in
    let sum = length_parts c.args.rest.now c.in_ok-kind.tail.now f.piece c.utf8.rest ut f.whole in
    omega (arith, sum)

pub returns-clause-found : goal.returns-clause-found
returns-clause-found c =
    let ut : IsUtf8 c.in_ok-kind.tail.now = search rules in
    let f = stands_at c.args.index (chars c.args.rest.now) c.in_ok-kind.kind (chars c.in_ok-kind.tail.now) c.in_ok-kind.ensures in
    let sum = length_parts c.args.rest.now c.in_ok-kind.tail.now f.piece c.utf8.rest ut f.whole in
    (f.piece, chars c.in_ok-kind.tail.now, f.whole, f.is_had, omega (arith, sum))

pub returns-clause-only : goal.returns-clause-only
returns-clause-only c kind piece more w h =
    let ut : IsUtf8 c.in_ok-kind.tail.now = search rules in
    let same : found c.in_ok-kind.kind (chars c.in_ok-kind.tail.now) ≡ found kind more =
    sym c.in_ok-kind.ensures
    ∙ ap (front_of c.args.index) w ∙ front_complete kind piece more c.args.index h in
    let rests : chars c.in_ok-kind.tail.now ≡ more =
    found_rest c.in_ok-kind.kind kind (chars c.in_ok-kind.tail.now) more same in
    let whole : chars c.args.rest.now ≡ piece ++ chars c.in_ok-kind.tail.now = w
    ∙ ap (λ v. piece ++ v) (sym rests) in
    let sum = length_parts c.args.rest.now c.in_ok-kind.tail.now piece c.utf8.rest ut whole in
    (found_kind c.in_ok-kind.kind kind (chars c.in_ok-kind.tail.now) more same, omega (arith, sum))
