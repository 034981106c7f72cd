use Rattle.std.proofs.Common.{true, take}
use Rattle.std.specs.List.{flat_map}
use Rattle.bits.specs.Fields.{Wrote}
use Rattle.bits.proofs.packed.put_each.Given as goal

abbrev pub invariant-loop-item : goal.invariant-loop-item
invariant-loop-item g l = Wrote true (flat_map g.T.Packed.bits (take l.item-index l.items)) l.initial.writer l.writer
