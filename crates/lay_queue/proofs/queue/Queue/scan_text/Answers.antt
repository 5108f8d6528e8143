use Rattle.std.proofs.Common.{pos, to_z, w64, ◌≡◌, ◌+◌, min, [], ◌∷◌, ◌++◌, length, refl, ap, ◌∙◌, arith}
use Rattle.std.proofs.lemmas.Int.{to_z_pos}
use Rattle.lay_layout.specs.declared.layout.Tok.TheVariants as tok
use Rattle.lay_ring.specs.declared.entry.Size.TheVariants.{Known}
use Rattle.lay_ring.specs.Rows.{size_of}
use Rattle.lay_queue.specs.Closed.{toks_of}
use Rattle.lay_queue.specs.Scan.{cap}
use Rattle.lay_queue.proofs.Queueing.{Good, bytes_waiting, good_text, toks_more}
use Rattle.lay_queue.proofs.queue.Queue.scan_text.Goals as goal

pub push-self-requires-clause-bytes : goal.push-self-requires-clause-bytes
push-self-requires-clause-bytes c = omega (arith, c.requires.ready.few, c.args.self.now.wait_is, bytes_waiting c.args.self.now.ring.entries)

pub invariant_of-self : goal.invariant_of-self
invariant_of-self c =
    let q = c.args.self.now in
    let h : Good q.ended q.ring q.notes.items q.acc q.groups q.waiting = record { sizes = q.sizes; fits = q.fits; acc_small = q.acc_small; wait_is = q.wait_is; number = q.number; held = q.held } in
    let t = c.args.text.now in
    let z = size_of (to_z w64 (length t)) in
    let e : c.push-self.new.self.entries ≡ q.ring.entries ++ record { tok = tok.Text t; size = z } ∷ [] = c.push-self.ensures.entries in
    let zz : z ≡ Known (pos (min (length t) cap)) = ap size_of (to_z_pos w64 (length t) (omega (arith, c.requires.short))) ∙ ap (λ n. Known (pos n)) (omega (arith, c.requires.short)) in
    let k = good_text q.ended q.ring c.push-self.new.self q.notes.items q.acc c.min-self.result q.groups q.waiting (q.waiting + length t) t z c.requires.ready.ended h zz e c.push-self.ensures.first c.requires.ready.held (let a : c.min-self.result ≡ min (q.acc + length t) cap = omega (arith, c.min-self.ensures) in a) refl in
    record { sizes = k.sizes; fits = k.fits; acc_small = k.acc_small; wait_is = k.wait_is; number = k.number; held = k.held }

pub returns : goal.returns
returns c = record { toks = ap toks_of c.push-self.ensures.entries ∙ toks_more _ _; added = (_, c.push-self.ensures.entries); waiting = refl; groups = refl; first = c.push-self.ensures.first; ended = c.requires.ready.ended; room = omega (arith, c.push-self.ensures.spare) }
