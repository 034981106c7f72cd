use Rattle.std.proofs.Common.{◌≡◌, ◌*◌, ◌≤◌, length, take}
use Rattle.std.specs.List.{flat_map}
use Rattle.domain.specs.Lists.{list_bits}
use Rattle.domain.proofs.write.lists_len.Given as goal

abbrev pub invariant-loop-group : goal.invariant-loop-group
invariant-loop-group l = (l.bits ≡ length (flat_map (list_bits 4) (take l.group-index l.groups))) × (l.bits ≤ 400 * l.group-index)
