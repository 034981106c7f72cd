use Rattle.std.proofs.Common.{◌≡◌, ◌-◌, length}
use Rattle.bits.specs.Bits.{bits_of}
use Rattle.domain.specs.Layout.{actions_at}
use Rattle.lists.specs.Lists.{items_of}
use Rattle.domain.specs.Rows.{actions_in, before}
use Rattle.domain.proofs.read.rows.Given as goal

abbrev pub invariant-loop-action : goal.invariant-loop-action
invariant-loop-action l =
    (length (items_of l.rows) ≡ l.action) × (l.reader.bytes ≡ l.initial.reader.bytes) × (before (actions_in l.rows) (actions_at (l.count - l.action) (bits_of l.initial.reader.bytes.now) l.fluents l.action l.reader.place) ≡ actions_at l.count (bits_of l.initial.reader.bytes.now) l.fluents 0 l.initial.reader.place)
