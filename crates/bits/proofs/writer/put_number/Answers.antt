use Rattle.std.proofs.Common.{◌≡◌, ◌+◌, ◌<◌, false, length, arith}
use lib.Bits.{and_mask}
use Rattle.std.proofs.lemmas.List.{drop_more, drop_all}
use Rattle.bits.specs.Bits.{numeral, put}
use Rattle.bits.proofs.Numbers.{length-numeral, numeral_at}
use Rattle.bits.proofs.writer.put_number.Goals as goal

pub loop-i-preserved : goal.loop-i-preserved
unfolding put
loop-i-preserved c =
    let bits = numeral c.args.width.bits c.args.value in
    let i = c.loop-i.i in
    let inside : i < length bits = omega (arith, length-numeral c.args.width.bits c.args.value) in
    let left = drop_more bits i false inside in
    let bit = numeral_at c.args.width.bits c.args.value i (omega arith) in
    let told = rw (left, bit) at c.loop-i.invariant in
    let next : c.args.place + i + 1 ≡ c.args.place + (i + 1) = omega arith in
    let was = rw (and_mask _ 1, c.from.ensures, c.bits.ensures) at c.put_bit.ensures in
    rw (was, ← next) told

pub returns : goal.returns
unfolding put
returns c =
    let bits = numeral c.args.width.bits c.args.value in
    let none = drop_all c.loop-i.i bits (omega (arith, length-numeral c.args.width.bits c.args.value)) in
    rw none at c.loop-i.invariant
