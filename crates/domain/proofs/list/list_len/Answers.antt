use Rattle.std.proofs.Common.{length, arith, length-append}
use Rattle.std.specs.List.{flat_map}
use Rattle.bits.specs.Bits.{numeral}
use Rattle.bits.proofs.Laws.{length-numeral}
use Rattle.domain.specs.Lists.{members, list_bits}
use Rattle.domain.proofs.ListSteps.{literals_long}
use Rattle.domain.proofs.list.list_len.Goals as goal

pub returns-clause-value : goal.returns-clause-value
unfolding list_bits
returns-clause-value c =
    let set = c.args.set in
    let w = c.args.width.bits in
    let long = length-append (numeral w (length (members set))) (flat_map (numeral 6) (members set)) in
    omega (arith, length-numeral w (length (members set)), literals_long (members set))
