use Rattle.std.proofs.Common.{◌++◌, length, ap}
use Rattle.std.specs.List.{flat_map}
use Rattle.bits.specs.Bits.{numeral}
use Rattle.bits.proofs.Laws.{wrote_then, wrote_as}
use Rattle.domain.specs.Layout.{effect_bits}
use Rattle.domain.proofs.write.put_working.Goals as goal

pub returns : goal.returns
returns c =
    wrote_as (ap (λ es. numeral 4 (length es) ++ flat_map effect_bits es) c.as_slice-effects.ensures.items) (wrote_then c.in_ok-put.ensures.wrote c.put_all.ensures)
