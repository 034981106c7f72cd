use Rattle.std.proofs.Common.{◌∙◌, arith}
use Rattle.std.proofs.lemmas.Result.{err_from_is_err_and}
use Rattle.bits.specs.Bits.{bits_of}
use Rattle.lists.specs.Lists.{items_of}
use Rattle.lists.proofs.Laws.{pushed, pushed_long}
use Rattle.domain.specs.Layout.{effect_at}
use Rattle.domain.proofs.Items.{effect_items, items_more, items_stop, items_done, read_here}
use Rattle.domain.proofs.rows.effects.Goals as goal

pub returns-in_err-next-clause-value : goal.returns-in_err-next-clause-value
returns-in_err-next-clause-value c =
    let p = err_from_is_err_and c.from_residual.result c.from_residual.ensures.1 in
    let read = read_here (λ bits. effect_at bits c.args.fluents c.loop.least c.loop.reader.place) c.effect.ensures.value c.loop.invariant.2 ∙ c.in_err-next.was in
    rw (p.1, p.2) (items_stop (effect_items (bits_of c.args.reader.now.bytes.now) c.args.fluents) c.args.count c.loop.counter _ _ _ _ c.loop.invariant.3 _ c.loop-test.true read)

pub loop-preserved : goal.loop-preserved
loop-preserved c =
    let read = read_here (λ bits. effect_at bits c.args.fluents c.loop.least c.loop.reader.place) c.effect.ensures.value c.loop.invariant.2 ∙ c.in_ok-next.was in
    let more = items_more (effect_items (bits_of c.args.reader.now.bytes.now) c.args.fluents) c.args.count c.loop.counter _ _ _ _ c.loop.invariant.3 _ _ c.loop-test.true read in
    let grew = pushed (items_of c.loop.effects) 8 c.in_ok-next.next c.push.ensures.room c.push.ensures.items (omega (arith, c.loop.invariant.1, c.loop-test.true, c.requires)) in
    (omega (arith, c.in_ok-next.ensures.small), pushed_long _ c.in_ok-next.next c.loop.counter grew c.loop.invariant.1, c.effect.ensures.moved.bytes ∙ c.loop.invariant.2, rw (grew, c.in_ok-next.ensures.moved.place) more)

pub returns-clause-value : goal.returns-clause-value
returns-clause-value c =
    rw c.place.ensures (items_done (effect_items (bits_of c.args.reader.now.bytes.now) c.args.fluents) c.args.count c.loop.counter _ _ _ _ c.loop.invariant.3 c.loop-test.false)
