use Rattle.std.proofs.Common.{◌≡◌}
use Rattle.bits.specs.Bits.{bits_of}
use Rattle.bits.specs.Fields.{fill_end}
use Rattle.bits.proofs.reader.Reader.fill_end.Given as goal

abbrev pub invariant-loop-place : goal.invariant-loop-place
invariant-loop-place l = fill_end (bits_of l.self.bytes.now) l.place ≡ fill_end (bits_of l.self.bytes.now) l.self.place
