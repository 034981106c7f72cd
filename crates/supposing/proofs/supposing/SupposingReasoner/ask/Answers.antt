use Rattle.std.proofs.Common.{arith}
use Rattle.reasoner.proofs.Laws.{few_fluents}
use Rattle.supposing.proofs.supposing.SupposingReasoner.ask.Goals as goal

pub overflow_mul-is_false : goal.overflow_mul-is_false
overflow_mul-is_false g c = record { fits = omega (arith, c.fluents.ensures, c.if-self-fluents.false, few_fluents c.args.domain.now) }

pub overflow_add-is_false : goal.overflow_add-is_false
overflow_add-is_false g c = record { fits = omega (arith, c.fluents.ensures, c.if-self-fluents.false, few_fluents c.args.domain.now) }
