use Rattle.std.proofs.Common.{◌≡◌, ◌-◌, length}
use Rattle.literals.specs.Tables.{empty}
use Rattle.domain.specs.Domains.{sheet}
use Rattle.knowledge.specs.AllWorlds.{traced}
use Rattle.worlds.proofs.traces.trace.Given as goal

abbrev pub invariant-loop-moment : goal.invariant-loop-moment
invariant-loop-moment l =
    traced (sheet l.question.domain.now) l.orders (length l.orders - l.moment) l.moment l.state l.table.sets
    ≡ traced (sheet l.question.domain.now) l.orders (length l.orders) 0 l.first empty
