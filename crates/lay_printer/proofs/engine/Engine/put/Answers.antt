use Rattle.std.proofs.Common.{refl, arith}
use Rattle.lay_ring.specs.Rows.{tok_of}
use Rattle.lay_printer.proofs.Depths.{open_le, open_more}
use Rattle.lay_printer.proofs.Staying.{length_comes}
use Rattle.lay_printer.proofs.engine.Engine.put.Goals as goal

pub scan-requires-clause-ready : goal.scan-requires-clause-ready
scan-requires-clause-ready c =
    let e = c.args.self.now in
    let q = e.queue in
    record {
      ended = c.requires.ended;
      ring = omega (arith, c.requires.room);
      notes = omega (arith, c.requires.room);
      held = omega (arith, c.len-held.ensures.small, c.len-held.ensures.value);
      few = c.requires.few;
      groups = omega (arith, c.requires.room, c.spare-room.ensures.small, c.spare-room.ensures.value, e.level, open_le q.ring.entries e.page.frames.frames);
    }

pub invariant_of-self : goal.invariant_of-self
invariant_of-self c =
    let e = c.args.self.now in
    let k = c.scan.ensures in
    record {
      room = omega (arith, c.requires.room, length_comes e.queue.ring.entries c.scan.new.self.ring.entries (tok_of c.args.tok) k.toks);
      level = open_more e.queue.ring.entries c.scan.new.self.ring.entries e.page.frames.frames e.page.frames.frames (tok_of c.args.tok) e.queue.groups c.scan.new.self.groups e.level refl k.toks k.groups;
    }

pub returns-clause-room : goal.returns-clause-room
returns-clause-room c =
    let e = c.args.self.now in
    omega (arith, c.scan.ensures.room, length_comes e.queue.ring.entries c.scan.new.self.ring.entries (tok_of c.args.tok) c.scan.ensures.toks)
