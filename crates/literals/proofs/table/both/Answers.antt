use Rattle.std.proofs.Common.{sym, ◌∙◌, arith}
use Rattle.literals.proofs.Facts.{shared_all}
use Rattle.literals.proofs.table.both.Goals as goal

pub returns : goal.returns
returns c =
    let one = c.args.one.now in
    let other = c.args.other.now in
    shared_all one.sets other.sets c.loop-moment.moment c.loop-moment.shared.sets (one.long ∙ sym other.long) (c.loop-moment.shared.long ∙ sym one.long) (omega (arith, c.loop-moment-test.false, one.long)) c.loop-moment.invariant
