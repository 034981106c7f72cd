use Rattle.std.proofs.Common.{◌≡◌, ◌*◌, ◌≤◌, length, take}
use Rattle.std.specs.List.{flat_map}
use Rattle.bits.proofs.packed.packed_len.Given as goal

abbrev pub invariant-loop-item : goal.invariant-loop-item
invariant-loop-item g l =
    (l.bits ≡ length (flat_map g.T.Packed.bits (take l.item-index l.items)))
    × (l.bits ≤ g.T.Packed.most * l.item-index)
    × (l.bits ≤ 18446744073709551615 * l.item-index)
