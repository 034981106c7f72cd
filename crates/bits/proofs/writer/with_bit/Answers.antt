use Rattle.std.proofs.Common.{◌≡◌, ◌+◌, ◌-◌, ◌*◌, ◌/◌, ◌%◌, ◌^◌, arith}
use Rattle.bits.specs.Bits.{with_bit}
use Rattle.bits.proofs.Packing.{with_bit_is, with_bit_below}
use Rattle.bits.proofs.writer.with_bit.Goals as goal
use Rattle.bits.proofs.writer.with_bit.Goals.{After-from-2}

-- what the two shifts add up to
sum_is : (c : After-from-2) → (c.from.result / 2 ^ (8 - c.args.at) * 2 ^ (8 - c.args.at)) % 65536 + (c.from-2.result * 2 ^ (8 - c.args.at - 1)) % 65536 ≡ with_bit c.args.at c.args.bit c.args.byte
sum_is c =
    rw (c.from.ensures, c.from-2.ensures) (with_bit_is c.args.byte c.args.at c.args.bit (omega arith) (omega arith))

pub overflow_cast-result-2 : goal.overflow_cast-result-2
overflow_cast-result-2 c = omega (arith, sum_is c, with_bit_below c.args.byte c.args.at c.args.bit (omega arith))

pub returns : goal.returns
returns c = sum_is c
