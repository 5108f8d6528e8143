use Rattle.std.proofs.Common.{◌≡◌, take}
use Rattle.lay_text.proofs.text.Text.short.Given as goal

-- the bytes so far are copied, and the copy is inline
abbrev pub invariant-loop-byte : goal.invariant-loop-byte
invariant-loop-byte l = record {
  items : l.copy.items ≡ take l.byte-index l.bytes;
  capacity : l.copy.capacity ≡ 22;
}
