use Rattle.std.proofs.Common.{◌++◌, drop, sym, ap, ◌∙◌, arith}
use Rattle.bits.specs.Bits.{packed}
use Rattle.bits.proofs.Packing.{length-packed}
use Rattle.bits.proofs.packed.fill.Goals as goal

pub returns : goal.returns
returns g c =
    let bits = g.T.Packed.bits c.args.value.now in
    let long = length-packed bits in
    let held = c.put_from_start.ensures.held (omega (arith, long, c.requires)) in
    record { value = held.0; bytes = held.1 ∙ ap (λ k. packed bits ++ drop k c.args.buffer.now) (sym long) }
