use Rattle.std.proofs.Common.{rules}
use Rattle.knowledge.specs.Sweeps.{closure}
use Rattle.history.proofs.history.closure.Goals as goal

pub returns : goal.returns
unfolding closure
returns c = search rules
