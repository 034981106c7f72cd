use Rattle.std.proofs.Common.{◌≡◌}
use Rattle.literals.specs.Tables.{empty}
use Rattle.knowledge.specs.Sweeps.{told_from}
use Rattle.reasoner.proofs.told.counted.Given as goal

abbrev pub invariant-loop-moment : goal.invariant-loop-moment
invariant-loop-moment l = l.table.sets ≡ told_from l.fluents l.told.sets l.moment 0 empty
