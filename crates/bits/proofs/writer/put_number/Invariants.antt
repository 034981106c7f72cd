use Rattle.std.proofs.Common.{◌≡◌, ◌+◌, drop}
use Rattle.bits.specs.Bits.{numeral, put}
use Rattle.bits.proofs.writer.put_number.Given as goal

abbrev pub invariant-loop-i : goal.invariant-loop-i
invariant-loop-i l =
    put (l.place + l.i) (drop l.i (numeral l.width.bits l.value)) l.bytes ≡ put l.place (numeral l.width.bits l.value) l.initial.bytes
