use Rattle.std.proofs.Common.{true}
use Rattle.std.specs.List.{flat_map}
use Rattle.bits.specs.Bits.{numeral}
use Rattle.bits.specs.Fields.{Wrote}
use Rattle.domain.specs.Lists.{members_from}
use Rattle.domain.proofs.list.put_members.Given as goal

abbrev pub invariant-loop-literal : goal.invariant-loop-literal
invariant-loop-literal l = Wrote true (flat_map (numeral 6) (members_from l.set l.literal 0)) l.initial.writer l.writer
