use Rattle.literals.proofs.Facts.{Shared}
use Rattle.literals.proofs.table.both.Given as goal

abbrev pub invariant-loop-moment : goal.invariant-loop-moment
invariant-loop-moment l = Shared l.one.sets l.other.sets l.moment l.shared.sets
