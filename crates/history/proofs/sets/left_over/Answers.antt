use Rattle.std.proofs.Common.{rules}
use Rattle.literals.proofs.Laws.{ones_place, ones_power}
use Rattle.knowledge.specs.Sweeps.{left_over}
use Rattle.history.proofs.sets.left_over.Goals as goal

pub returns-in-0 : goal.returns-in-0
unfolding left_over
returns-in-0 c = search rules

pub returns-in-1 : goal.returns-in-1
unfolding left_over
returns-in-1 c = search (rules, ones_power)

pub returns-in_default : goal.returns-in_default
unfolding left_over
returns-in_default c = search rules

pub overflow_shl-result : goal.overflow_shl-result
overflow_shl-result c = search (rules, ones_place)
