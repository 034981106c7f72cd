use Rattle.std.proofs.Common.{rules}
use Rattle.history.proofs.Loops.{all_grouped-fold}
use Rattle.history.proofs.sets.all_grouped.Goals as goal

pub returns : goal.returns
returns c = rw all_grouped-fold (search rules)
