-- The items that a list holds. Assumes nothing.
use Rattle.std.specs.Prelude.{ℕ, List, take}
use Rattle.lists.specs.declared.fixed_list.FixedList.{FixedList}

abbrev pub items_of : {T : Type 0} {N : ℕ} → FixedList T N → List T
items_of l = take l.count l.table
