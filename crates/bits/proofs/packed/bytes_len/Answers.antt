use Rattle.std.proofs.Common.{sym, ap, ◌∙◌}
use Rattle.bits.specs.Bits.{bytes_for}
use Rattle.bits.proofs.Packing.{length-packed}
use Rattle.bits.proofs.packed.bytes_len.Goals as goal

pub returns : goal.returns
returns g c = ap bytes_for c.packed_len.ensures.value ∙ sym (length-packed (g.T.Packed.bits c.args.value.now))
