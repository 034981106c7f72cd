use Rattle.std.proofs.Common.{sym}
use Rattle.bits.proofs.Numbers.{length-bits_of}
use Rattle.bits.proofs.reader.Reader.end.Goals as goal

pub returns-clause-bits : goal.returns-clause-bits
returns-clause-bits c = sym (length-bits_of c.args.self.now.bytes.now)
