use Rattle.std.proofs.Common.{rules}
use Rattle.knowledge.specs.Sweeps.{history}
use Rattle.history.proofs.history.shown.Goals as goal

pub returns-then-clashes : goal.returns-then-clashes
unfolding history
returns-then-clashes c = search rules

pub returns : goal.returns
unfolding history
returns c = search rules
