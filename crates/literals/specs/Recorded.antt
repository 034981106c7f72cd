-- The actions that a list of orders holds. Assumes nothing.
use Rattle.std.specs.Prelude.{ℕ, List}
use Rattle.lists.specs.Lists.{items_of}
use Rattle.literals.specs.declared.orders.Orders.{Orders}

abbrev pub recorded : Orders → List ℕ
recorded orders = items_of orders.actions
