use Rattle.std.proofs.Common.{rules}
use Rattle.knowledge.specs.Sweeps.{start}
use Rattle.history.proofs.start.start.Goals as goal

pub returns : goal.returns
unfolding start
returns c = search rules
