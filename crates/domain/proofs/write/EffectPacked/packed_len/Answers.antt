use Rattle.std.proofs.Common.{arith, length-append}
use Rattle.bits.specs.Bits.{numeral}
use Rattle.bits.proofs.Laws.{length-numeral}
use Rattle.domain.specs.Lists.{list_bits}
use Rattle.domain.proofs.write.EffectPacked.packed_len.Goals as goal

pub returns-clause-value : goal.returns-clause-value
returns-clause-value c =
    let e = c.args.self.now in
    let long = length-append (list_bits 3 e.conditions) (numeral 6 e.literal) in
    omega (arith, length-numeral 6 e.literal)
