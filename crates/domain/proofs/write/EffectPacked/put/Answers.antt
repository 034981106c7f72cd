use Rattle.std.proofs.Common.{ap}
use Rattle.bits.specs.Bits.{numeral}
use Rattle.bits.proofs.Laws.{wrote_then, wrote_as}
use Rattle.domain.proofs.write.EffectPacked.put.Goals as goal

pub returns : goal.returns
returns c = wrote_then c.in_ok-put_list.ensures (wrote_as (ap (numeral 6) c.from.ensures) c.in_ok-put.ensures.wrote)
