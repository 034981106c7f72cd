use Rattle.bits.proofs.Laws.{wrote_then}
use Rattle.plan.proofs.write.put_action.Goals as goal

pub returns : goal.returns
returns c = wrote_then c.in_ok-put.ensures.wrote (rw c.from.ensures at c.in_ok-put-2.ensures.wrote)
