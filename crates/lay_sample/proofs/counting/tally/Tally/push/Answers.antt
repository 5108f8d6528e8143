-- The counts of the text with the byte.
use Rattle.std.proofs.Common.{arith, [], ◌∷◌, length-append}
use Rattle.lay_sample.proofs.counting_lemmas.CountingLemmas.{lines-line_feed, lines-other, longest-line_feed, longest-other, last-line_feed, last-other}
use Rattle.lay_sample.proofs.counting.tally.Tally.push.Goals as goal

pub returns-then-byte-eq10-clause-counted : goal.returns-then-byte-eq10-clause-counted
returns-then-byte-eq10-clause-counted c = λ text so_far.
    let byte = c.args.byte in let is = c.if-byte-eq10.true in record {
      bytes = omega (arith, so_far.bytes, length-append text (byte ∷ []));
      lines = omega (arith, so_far.lines, lines-line_feed text byte is);
      longest = omega (arith, so_far.longest, longest-line_feed text byte is);
      last = omega (arith, last-line_feed text byte is);
    }

pub returns-else-byte-eq10-clause-counted : goal.returns-else-byte-eq10-clause-counted
returns-else-byte-eq10-clause-counted c = λ text so_far.
    let byte = c.args.byte in let other = c.if-byte-eq10.false in record {
      bytes = omega (arith, so_far.bytes, length-append text (byte ∷ []));
      lines = omega (arith, so_far.lines, lines-other text byte other);
      longest = omega (arith, so_far.longest, so_far.last, c.max-self.ensures, longest-other text byte other);
      last = omega (arith, so_far.last, last-other text byte other);
    }
