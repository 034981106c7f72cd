use Rattle.std.proofs.Common.{◌≡◌, ◌-◌, arith}
use Rattle.domain.proofs.Clashes.{first_here, first_later, first_never}
use Rattle.domain.proofs.rows.first_clash.Goals as goal

pub returns-then-clashes : goal.returns-then-clashes
returns-then-clashes c =
    let front : c.loop-i.i - 0 ≡ c.loop-i.i = omega arith in
    let found = c.if-clashes.ensures in
    first_here c.args.effects.now c.loop-i.i c.loop-i.place _ c.loop-i.invariant.1 c.loop-i-test.true (rw front at found)

pub loop-i-preserved : goal.loop-i-preserved
loop-i-preserved c =
    let front : c.loop-i.i - 0 ≡ c.loop-i.i = omega arith in
    let none = c.if-clashes.ensures in
    (omega (arith, c.packed_len.ensures.few), first_later c.args.effects.now c.loop-i.i c.loop-i.place _ c.loop-i.invariant.1 c.packed_len.result c.loop-i-test.true (rw front at none) c.packed_len.ensures.value)

pub returns : goal.returns
returns c =
    first_never c.args.effects.now c.loop-i.i c.loop-i.place _ c.loop-i.invariant.1 c.loop-i-test.false
