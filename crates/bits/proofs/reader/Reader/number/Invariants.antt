use Rattle.std.proofs.Common.{◌≡◌}
use Rattle.bits.specs.Bits.{bits_of}
use Rattle.bits.specs.Fields.{number_at}
use Rattle.bits.proofs.reader.Reader.number.Given as goal

abbrev pub invariant-loop-i : goal.invariant-loop-i
invariant-loop-i l = l.number ≡ number_at (bits_of l.self.bytes.now) l.self.place l.i
