use Rattle.std.proofs.Common.{arith}
use Rattle.std.proofs.lemmas.Bool.Decides.{nat_tests}
use Rattle.literals.specs.Literals.{place}
use Rattle.literals.proofs.set.place.Goals as goal

pub returns-then-literal-ge64 : goal.returns-then-literal-ge64
unfolding place
returns-then-literal-ge64 c = grind (arith, nat_tests)

pub returns : goal.returns
unfolding place
returns c = grind (arith, nat_tests)
