use Rattle.std.proofs.Common.{◌≡◌, refl, arith}
use Rattle.bits.specs.Bits.{number, bits_of}
use Rattle.bits.specs.Fields.{number_at}
use Rattle.bits.proofs.Numbers.{number_at_below, as_number, as_number_le}
use Rattle.bits.proofs.Steps.{number_more, number-room}
use Rattle.bits.proofs.reader.Reader.number.Goals as goal

pub loop-i-init : goal.loop-i-init
unfolding number number_at
loop-i-init c = refl

pub overflow_mul-number : goal.overflow_mul-number
overflow_mul-number c =
    omega (arith, number-room (bits_of c.args.self.now.bytes.now) c.args.self.now.place c.loop-i.i (omega arith))

pub overflow_add-number : goal.overflow_add-number
overflow_add-number c =
    omega (arith, number-room (bits_of c.args.self.now.bytes.now) c.args.self.now.place c.loop-i.i (omega arith), as_number_le c.bit.result)

pub loop-i-preserved : goal.loop-i-preserved
loop-i-preserved c =
    let more = number_more (bits_of c.args.self.now.bytes.now) c.args.self.now.place c.loop-i.i (omega arith) in
    let bit = as_number c.bit.result in
    cc

pub returns : goal.returns
returns c =
    let all : c.loop-i.i ≡ c.args.width.bits = omega arith in
    record {
      value = rw (← all) c.loop-i.invariant;
      small = rw (← all, c.loop-i.invariant) (number_at_below (bits_of c.args.self.now.bytes.now) c.args.self.now.place c.loop-i.i);
    }
