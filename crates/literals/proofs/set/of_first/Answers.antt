use Rattle.literals.proofs.Words.{of_first_is}
use Rattle.literals.proofs.set.of_first.Goals as goal

pub returns : goal.returns
returns c = of_first_is c.args.count c.requires
