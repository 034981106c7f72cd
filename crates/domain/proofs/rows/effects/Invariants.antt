use Rattle.std.proofs.Common.{◌≡◌, ◌-◌, length, ◌≤◌}
use Rattle.bits.specs.Bits.{bits_of}
use Rattle.domain.specs.Layout.{effects_at}
use Rattle.lists.specs.Lists.{items_of}
use Rattle.domain.specs.Rows.{before}
use Rattle.domain.proofs.rows.effects.Given as goal

abbrev pub invariant-loop : goal.invariant-loop
invariant-loop l =
    (l.least ≤ 64) × (length (items_of l.effects) ≡ l.counter) × (l.reader.bytes ≡ l.initial.reader.bytes) × (before (items_of l.effects) (effects_at (l.count - l.counter) (bits_of l.initial.reader.bytes.now) l.fluents l.least l.reader.place) ≡ effects_at l.count (bits_of l.initial.reader.bytes.now) l.fluents 0 l.initial.reader.place)
