use Rattle.std.proofs.Common.{◌≡◌, ◌≤◌, ℕ, max, List, ◌++◌, ◌∷◌, [], Option, Some, None, Result, Ok, Err, IfOk, MatchResult, refl, sym, arith}
use Rattle.std.proofs.lemmas.Result.{err_from_is_err_and}
use Rattle.lay_node.specs.Ahead.{Tokens}
use Rattle.lay_node.specs.reader.Loops.{Read, repeat}
use Rattle.lay_read_tokens.specs.Answers.{IsFound, Stopped}
use Rattle.lay_read_tokens.specs.declared.found.Found.{Found}
use Rattle.lay_read_tokens.specs.declared.stop.ReadNone.{ReadNone}
use Rattle.lay_read_tokens.specs.declared.stop.ReadNone.TheVariants.{NoMemory}
use Rattle.lay_read_tokens.proofs.Holding.{Holding, holding_more}
use Rattle.lay_read_tokens.proofs.Left.{shorter}
use Rattle.lay_read_tokens.proofs.Steps.{lost}
use Rattle.lay_read_tokens.proofs.Turns.{repeat-start, repeat-end, repeat-none, repeat-step}
use Rattle.lay_read_shared.specs.Loops.{goes_on}
use Rattle.lay_read_shared.proofs.loops.read_parts.Goals as goal

-- What a part that was kept was read to.
part_kept : {A : Type 0} (read : Read A) (r : Result (Found A) ReadNone) (left : Tokens) (needed : ℕ) (old new : List A) → IsFound read r left
    → MatchResult r (λ found. (needed ≡ found.need) × (new ≡ old ++ found.node ∷ [])) (λ none. ⊥)
    → (node : A) × (read ≡ Some ((node, needed), left)) × (new ≡ old ++ node ∷ [])
part_kept read (Ok found) left needed old new h k = (found.node, rw k.0 h, k.1)
part_kept read (Err none) left needed old new h k = absurd k

part_within : {A : Type 0} (depth : ℕ) (r : Result (Found A) ReadNone) (needed : ℕ) (old new : List A) → IfOk r (λ found. found.need ≤ depth)
    → MatchResult r (λ found. (needed ≡ found.need) × (new ≡ old ++ found.node ∷ [])) (λ none. ⊥) → needed ≤ depth
part_within depth (Ok found) needed old new h k = rw k.0 h
part_within depth (Err none) needed old new h k = absurd k

part_held : {A : Type 0} (old new : List A) (need needed next : ℕ) (read : List (A × ℕ)) (node : A) → new ≡ old ++ node ∷ []
    → next ≡ max need needed → Holding old need read → Holding new next (read ++ (node, needed) ∷ [])
part_held old new need needed next read node n m h = rw (n, m) (holding_more old need read node needed h)

-- Why no part was kept.
part_lost : {A B : Type 0} (read : Read A) (outer : Option B) (r : Result (Found A) ReadNone) (left : Tokens) (none : ReadNone) → IsFound read r left
    → MatchResult r (λ found. none ≡ NoMemory) (λ stopped. none ≡ stopped) → (read ≡ None → outer ≡ None) → Stopped outer none
part_lost read outer (Ok found) left none h k f = rw k tt
part_lost read outer (Err stopped) left none h k f = rw k (lost read outer stopped h f)

pub loop-going-init : goal.loop-going-init
loop-going-init g c = record {
  held = record {
    found = [];
    turn = repeat-start (goes_on c.args.going) (g.P.Part.reads c.args.depth c.args.place) c.args.at.now;
    holds = (sym c.new-nodes.ensures, refl);
  };
  within = omega arith;
}

pub returns-in_err-needed-clause-read : goal.returns-in_err-needed-clause-read
returns-in_err-needed-clause-read g c =
    let more = goes_on c.args.going in
    let one = g.P.Part.reads c.args.depth c.args.place in
    let whole = repeat more one c.args.at.now in
    let held = c.loop-going.invariant.held in
    let p = err_from_is_err_and c.from_residual.result c.from_residual.ensures.1 in
    rw (p.1, p.2) (part_lost (one c.loop-going.at) whole c.part.result c.part.new.arg3 c.in_err-needed.field-0.0
    (c.requires.read _ _ _ _ c.part.ensures refl) c.in_err-needed.ensures.err
    (repeat-none more one whole held.found c.loop-going.at held.turn (sym c.loop-going-test.ensures)))

pub loop-going-smaller : goal.loop-going-smaller
loop-going-smaller g c =
    let one = g.P.Part.reads c.args.depth c.args.place in
    let ts = c.loop-going.at in
    let kept = part_kept (one ts) c.part.result c.part.new.arg3 c.in_ok-needed.needed c.loop-going.nodes c.keep_part.new.nodes
    (c.requires.read _ _ _ _ c.part.ensures refl) c.in_ok-needed.ensures.ok in
    shorter ts (one ts) (kept.0, c.in_ok-needed.needed) c.part.new.arg3 (c.requires.leaves ts) kept.1

pub loop-going-preserved : goal.loop-going-preserved
loop-going-preserved g c =
    let more = goes_on c.args.going in
    let one = g.P.Part.reads c.args.depth c.args.place in
    let ts = c.loop-going.at in
    let held = c.loop-going.invariant.held in
    let needed = c.in_ok-needed.needed in
    let kept = part_kept (one ts) c.part.result c.part.new.arg3 needed c.loop-going.nodes c.keep_part.new.nodes
    (c.requires.read _ _ _ _ c.part.ensures refl) c.in_ok-needed.ensures.ok in
    let less = shorter ts (one ts) (kept.0, needed) c.part.new.arg3 (c.requires.leaves ts) kept.1 in
    record {
      held = record {
        found = held.found ++ (kept.0, needed) ∷ [];
        turn = repeat-step more one (repeat more one c.args.at.now) held.found ts held.turn (kept.0, needed)
            c.part.new.arg3 (sym c.loop-going-test.ensures) kept.1 less;
        holds = part_held c.loop-going.nodes c.keep_part.new.nodes c.loop-going.need needed c.greater-need.result held.found kept.0 kept.2
            c.greater-need.ensures held.holds;
      };
      within = omega (
        arith,
        c.greater-need.ensures,
        part_within c.args.depth c.part.result needed c.loop-going.nodes c.keep_part.new.nodes
            (c.requires.within_read _ _ _ _ c.part.ensures refl) c.in_ok-needed.ensures.ok,
        c.loop-going.invariant.within,
      );
    }

pub returns-clause-read : goal.returns-clause-read
returns-clause-read g c =
    let more = goes_on c.args.going in
    let one = g.P.Part.reads c.args.depth c.args.place in
    let held = c.loop-going.invariant.held in (
      held.found,
      repeat-end more one (repeat more one c.args.at.now) held.found c.loop-going.at held.turn
          (sym c.loop-going-test.ensures),
      held.holds,
    )
