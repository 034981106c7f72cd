use Rattle.std.proofs.Common.{rules}
use Rattle.knowledge.specs.Sweeps.{sweep}
use Rattle.history.proofs.sweeps.add.Goals as goal

pub returns : goal.returns
unfolding sweep
returns c = search rules
