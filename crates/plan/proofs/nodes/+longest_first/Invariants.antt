use Rattle.std.proofs.Common.{length}
use Rattle.plan.proofs.nodes.+longest_first.Given as goal

abbrev pub decreases-longest_first : goal.decreases-longest_first
decreases-longest_first l = length l.nodes.now
