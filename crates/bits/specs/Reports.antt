-- The values that a report holds. Assumes nothing.
use Rattle.std.specs.Prelude.{ℕ, List}
use Rattle.lists.specs.Lists.{items_of}
use Rattle.bits.specs.declared.report.Values.{Values}

abbrev pub values_in : Values → List ℕ
values_in v = items_of v.items
