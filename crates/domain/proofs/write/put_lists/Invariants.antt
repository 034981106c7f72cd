use Rattle.std.proofs.Common.{true, take}
use Rattle.std.specs.List.{flat_map}
use Rattle.bits.specs.Fields.{Wrote}
use Rattle.domain.specs.Lists.{list_bits}
use Rattle.domain.proofs.write.put_lists.Given as goal

abbrev pub invariant-loop-group : goal.invariant-loop-group
invariant-loop-group l = Wrote true (flat_map (list_bits 4) (take l.group-index l.groups)) l.initial.writer l.writer
