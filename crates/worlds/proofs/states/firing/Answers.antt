use Rattle.std.proofs.Common.{rules}
use Rattle.worlds.proofs.Loops.{firing-fold}
use Rattle.worlds.proofs.states.firing.Goals as goal

pub returns : goal.returns
returns c = rw firing-fold (search rules)
