use Rattle.std.proofs.Common.{◌≡◌}
use Rattle.domain.specs.Domains.{sheet}
use Rattle.knowledge.specs.Sweeps.{passed}
use Rattle.history.proofs.sweeps.pass.Given as goal

abbrev pub invariant-loop-moment : goal.invariant-loop-moment
invariant-loop-moment l = l.table.sets ≡ passed (sheet l.domain) l.orders l.moment 0 l.initial.table.sets
