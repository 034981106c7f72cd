use Rattle.std.proofs.Common.{◌++◌, arith, length-append}
use Rattle.bits.specs.Bits.{numeral}
use Rattle.bits.proofs.Laws.{length-numeral}
use Rattle.domain.specs.Layout.{kind_of, deed_bits}
use Rattle.domain.specs.Lists.{list_bits}
use Rattle.domain.specs.Rows.{deed_in}
use Rattle.domain.proofs.write.RowPacked.packed_len.Goals as goal

pub returns-clause-value : goal.returns-clause-value
returns-clause-value c =
    let row = c.args.self.now in
    let deed = deed_in row.kind in
    let whole = length-append (numeral 1 (kind_of deed)) (list_bits 4 row.needs ++ deed_bits deed) in
    let rest = length-append (list_bits 4 row.needs) (deed_bits deed) in
    omega (arith, length-numeral 1 (kind_of deed))
