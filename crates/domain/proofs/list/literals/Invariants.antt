use Rattle.std.proofs.Common.{◌≡◌, ◌-◌}
use Rattle.bits.specs.Bits.{bits_of}
use Rattle.domain.specs.Lists.{literals_at}
use Rattle.domain.proofs.list.literals.Given as goal

abbrev pub invariant-loop : goal.invariant-loop
invariant-loop l =
    (l.reader.bytes ≡ l.initial.reader.bytes)
    × (literals_at (l.count - l.counter) (bits_of l.initial.reader.bytes.now) l.fluents l.least l.set l.reader.place
    ≡ literals_at l.count (bits_of l.initial.reader.bytes.now) l.fluents 0 0 l.initial.reader.place)
