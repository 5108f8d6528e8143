use Rattle.lay_read_types.proofs.knot.+types.Given as goal

abbrev pub decreases-type_ahead : goal.decreases-type_ahead
decreases-type_ahead l = l.depth

abbrev pub decreases-constraint_ahead : goal.decreases-constraint_ahead
decreases-constraint_ahead l = l.depth
