use Rattle.std.proofs.Common.{ap}
use Rattle.bits.proofs.Laws.{wrote_then, wrote_as}
use Rattle.domain.proofs.RowParts.{group_bits}
use Rattle.domain.proofs.write.put_groups.Goals as goal

pub returns : goal.returns
returns c = wrote_as (ap group_bits c.as_slice-groups.ensures.items) (wrote_then c.in_ok-put.ensures.wrote c.put_lists.ensures)
