use Rattle.std.proofs.Common.{ap}
use Rattle.std.specs.List.{flat_map}
use Rattle.bits.proofs.Laws.{wrote_then, wrote_as}
use Rattle.plan.specs.Layout.{node_bits}
use Rattle.plan.proofs.write.PlanPacked.put.Goals as goal

pub returns : goal.returns
returns c = wrote_then c.in_ok-put.ensures.wrote (wrote_as (ap (flat_map node_bits) c.nodes.ensures) c.put_all.ensures)
