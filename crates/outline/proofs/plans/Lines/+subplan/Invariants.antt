use Rattle.std.proofs.Common.{◌-◌, length}
use Rattle.outline.proofs.plans.Lines.+subplan.Given as goal

abbrev pub decreases-subplan : goal.decreases-subplan
decreases-subplan g l = length l.self.now.nodes.now - l.self.now.at
