-- One step of a reader, from what the readers within it give.
use Rattle.std.proofs.Common.{◌≡◌, ℕ, drop, Some, refl}
use Rattle.lay_node.specs.Ahead.{Tokens}
use Rattle.lay_code.specs.Operators.{prefix, prefix_length}
use Rattle.lay_code.specs.reader.Exprs.{one_prefix}
use Rattle.lay_code.specs.declared.operators.Prefix.{Prefix}

-- ---- operators before an operand

pub prefix_read : (ts : Tokens) (p : Prefix) (n : ℕ) (rest : Tokens) → prefix ts ≡ Some p → n ≡ prefix_length p
    → rest ≡ drop n ts → one_prefix ts ≡ Some (p, rest)
prefix_read ts p n rest e k d = rw (e, d, k) refl
