use Rattle.std.proofs.Common.{length, sym, ap, ◌∙◌, arith, length-append}
use Rattle.std.specs.List.{flat_map}
use Rattle.bits.specs.Bits.{numeral}
use Rattle.bits.proofs.Laws.{length-numeral}
use Rattle.lists.specs.Lists.{items_of}
use Rattle.domain.specs.Layout.{effect_bits}
use Rattle.domain.proofs.write.KindPacked.packed_len.Goals as goal

pub returns-in-Working-clause-value : goal.returns-in-Working-clause-value
returns-in-Working-clause-value c =
    let es = items_of c.in-Working.effects in
    let told = c.packed_len.ensures.value ∙ ap (λ l. length (flat_map effect_bits l)) c.as_slice.ensures.items in
    let long = length-append (numeral 4 (length es)) (flat_map effect_bits es) in
    rw c.in-Working.is (omega (arith, length-numeral 4 (length es)))

pub returns-in-Sensing-clause-value : goal.returns-in-Sensing-clause-value
returns-in-Sensing-clause-value c = rw c.in-Sensing.is (sym (length-numeral 5 c.in-Sensing.fluent))
