use Rattle.plan.specs.Layout.{written}
use Rattle.plan.proofs.Exact.{plan_once}
use Rattle.plan.proofs.record.Plan.write_packed.Goals as goal

pub returns : goal.returns
unfolding written
returns c = record { value = c.write.ensures.value; bytes = c.write.ensures.bytes; once = plan_once c.args.self.now }
