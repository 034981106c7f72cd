-- How many actions a list of orders holds. Assumes nothing.
use Rattle.std.proofs.Common.{◌≤◌, length}
use Rattle.lists.proofs.Laws.{items_few}
use Rattle.literals.specs.Recorded.{recorded}
use Rattle.literals.specs.declared.orders.Orders.{Orders}

pub recorded_few : (o : Orders) → length (recorded o) ≤ 32
recorded_few o = items_few o.actions
