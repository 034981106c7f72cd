-- What is shown of any question that code can put is exactly what is known. Assumes nothing.
use Rattle.std.proofs.Common.{◌≡◌, List, ℕ, sym, subst}
use Rattle.literals.specs.declared.orders.Orders.{Orders}
use Rattle.literals.specs.declared.table.Table.{Table}
use Rattle.domain.specs.Domains.{sheet}
use Rattle.domain.specs.declared.record.Domain.{Domain}
use Rattle.knowledge.specs.Exact.{ShowsKnown}
use Rattle.knowledge.specs.Sweeps.{history}
use Rattle.knowledge.specs.Worlds.{Moves}
use Rattle.knowledge.proofs.Laws.{moves, shows_known}
use Rattle.reasoner.specs.Asking.{question}
use Rattle.reasoner.proofs.Laws.{askable}

pub exact : (d : Domain) (o : Orders) (t : Table) (sets : List ℕ) → sets ≡ history (question d o t) → ShowsKnown (question d o t) sets
exact d o t sets is = subst (ShowsKnown (question d o t)) (sym is) (shows_known (question d o t) (askable d o t))

pub moving : (d : Domain) → Moves (sheet d)
moving d = moves (sheet d) d.lawful
