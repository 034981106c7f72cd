use Rattle.std.proofs.Common.{false, sym, arith}
use lib.Bits.{and_mask}
use Rattle.std.proofs.lemmas.List.{get_or_past}
use Rattle.bits.specs.Bits.{bits_of}
use Rattle.bits.proofs.Numbers.{bit_at, length-bits_of}
use Rattle.bits.proofs.reader.Reader.bit.Goals as goal

pub returns-then-index-self : goal.returns-then-index-self
returns-then-index-self c =
    let bytes = c.args.self.now.bytes.now in
    sym (get_or_past (bits_of bytes) c.args.place false (omega (arith, length-bits_of bytes)))

pub returns : goal.returns
returns c = rw (and_mask _ 1) (sym (bit_at c.args.self.now.bytes.now c.args.place))
