-- A sink that was lent: its value now, and the name of the loan.
use Rattle.std.specs.Prelude.{ℕ}
use Rattle.lay_io.specs.declared.lent.Lent.{Lent}

-- the value of the lent sink now
abbrev pub lent_sink : {K : Type 0} → Lent K → K
lent_sink lent = lent.sink.now

-- the name of the loan, which is that of the reference
abbrev pub loan_of : {K : Type 0} → Lent K → ℕ
loan_of lent = lent.sink.ghost_name
