use Rattle.std.proofs.Common.{◌<◌, arith}
use Rattle.std.proofs.lemmas.Bool.Decides.{nat_tests}
use Rattle.literals.proofs.Words.{fluent_few, lowest-fluent, then_lowest}
use Rattle.literals.proofs.set.lowest.Goals as goal

-- whatever number the test names, so long as it tells whether there is a fluent
pub returns : goal.returns
returns c =
    let few : lowest-fluent c.args.set < 64 → lowest-fluent c.args.set < 32 = fluent_few c.args.set c.ranges.set.fits in
    then_lowest c.args.set _ _ _ _ c.then_some.ensures (λ h. grind (arith, nat_tests, few)) (λ h. grind (arith, nat_tests, few)) c.from.ensures c.contains.ensures.value
