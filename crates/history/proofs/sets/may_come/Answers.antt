use Rattle.std.proofs.Common.{rules}
use Rattle.history.proofs.Loops.{may_come-fold}
use Rattle.history.proofs.sets.may_come.Goals as goal

pub returns : goal.returns
returns c = rw may_come-fold (search rules)
