use Rattle.std.proofs.Common.{ap}
use Rattle.bits.specs.Bits.{numeral}
use Rattle.bits.proofs.Laws.{wrote_then, wrote_as}
use Rattle.domain.proofs.write.RowPacked.put.Goals as goal

pub returns : goal.returns
returns c =
    wrote_then (wrote_as (ap (numeral 1) c.bit.ensures) c.in_ok-put.ensures.wrote) (wrote_then c.in_ok-put_list.ensures c.put-2.ensures)
