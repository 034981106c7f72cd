-- Every domain has few fluents, and every question that code can put is one that can be asked. Assumes nothing.
use Rattle.std.proofs.Common.{◌≤◌, length}
use Rattle.literals.specs.Recorded.{recorded}
use Rattle.literals.specs.declared.orders.Orders.{Orders}
use Rattle.literals.specs.declared.table.Table.{Table}
use Rattle.literals.proofs.Laws.{recorded_few}
use Rattle.domain.specs.Domains.{sheet}
use Rattle.domain.specs.declared.record.Domain.{Domain}
use Rattle.domain.proofs.Laws.{lawful_fluents}
use Rattle.knowledge.specs.Questions.{IsTable, Askable}
use Rattle.reasoner.specs.Asking.{question}

pub is_table : (t : Table) → IsTable t.sets
is_table t = record { long = t.long; small = t.small }

pub few_recorded : (o : Orders) → length (recorded o) ≤ 32
few_recorded o = recorded_few o

pub few_fluents : (d : Domain) → (sheet d).fluents ≤ 32
few_fluents d = (lawful_fluents (sheet d) d.lawful).1

pub askable : (d : Domain) (o : Orders) (t : Table) → Askable (question d o t)
askable d o t = record { lawful_sheet = d.lawful; few = few_recorded o; table = is_table t }
