use Rattle.std.proofs.Common.{◌+◌, Ok, Err, refl, rules}
use Rattle.bits.specs.Bits.{bytes_for}
use Rattle.bits.proofs.Writing.{wrote_field}
use Rattle.bits.proofs.writer.Writer.put_field.Goals as goal

pub returns-then-place-end-clause-wrote : goal.returns-then-place-end-clause-wrote
returns-then-place-end-clause-wrote c =
    let self = c.args.self.now in
    wrote_field c.args.width.bits c.args.value self _ (Err (record { needed = bytes_for (self.place + c.args.width.bits) })) (search rules) refl refl refl

pub returns-clause-wrote : goal.returns-clause-wrote
returns-clause-wrote c =
    let self = c.args.self.now in
    wrote_field c.args.width.bits c.args.value self _ (Ok (self.place + c.from-bits.result)) (search rules) (search rules) (search rules) (search rules)
