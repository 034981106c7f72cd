use Rattle.std.proofs.Common.{◌≡◌, ◌-◌, length}
use Rattle.bits.specs.Bits.{bits_of}
use Rattle.domain.specs.Layout.{groups_at}
use Rattle.lists.specs.Lists.{items_of}
use Rattle.domain.specs.Rows.{before}
use Rattle.domain.proofs.read.groups.Given as goal

abbrev pub invariant-loop : goal.invariant-loop
invariant-loop l =
    (length (items_of l.groups) ≡ l.counter) × (l.reader.bytes ≡ l.initial.reader.bytes) × (before (items_of l.groups) (groups_at (l.count - l.counter) (bits_of l.initial.reader.bytes.now) l.fluents l.reader.place) ≡ groups_at l.count (bits_of l.initial.reader.bytes.now) l.fluents l.initial.reader.place)
