use Rattle.std.proofs.Common.{◌≡◌}
use Rattle.literals.specs.Recorded.{recorded}
use Rattle.domain.specs.Domains.{sheet}
use Rattle.knowledge.specs.Sweeps.{sweeps, room}
use Rattle.history.proofs.sweeps.close.Given as goal

abbrev pub invariant-loop : goal.invariant-loop
invariant-loop l =
    sweeps (sheet l.domain) (recorded l.orders) (room l.table.sets) l.table.sets
    ≡ sweeps (sheet l.domain) (recorded l.orders) (room l.initial.table.sets) l.initial.table.sets

abbrev pub decreases-loop : goal.decreases-loop
decreases-loop l = room l.table.sets
