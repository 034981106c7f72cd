use Rattle.std.proofs.Common.{◌∙◌, arith}
use Rattle.std.proofs.lemmas.Result.{err_from_is_err_and}
use Rattle.bits.specs.Bits.{bits_of}
use Rattle.lists.specs.Lists.{items_of}
use Rattle.lists.proofs.Laws.{pushed, pushed_long}
use Rattle.domain.specs.Lists.{list_at}
use Rattle.domain.proofs.Items.{group_items, items_more, items_stop, items_done, read_here}
use Rattle.domain.proofs.read.groups.Goals as goal

pub returns-in_err-next-clause-value : goal.returns-in_err-next-clause-value
returns-in_err-next-clause-value c =
    let p = err_from_is_err_and c.from_residual.result c.from_residual.ensures.1 in
    let read = read_here (λ bits. list_at bits c.args.fluents 4 2 8 c.loop.reader.place) c.list.ensures.value c.loop.invariant.1 ∙ c.in_err-next.was in
    rw (p.1, p.2) (items_stop (group_items (bits_of c.args.reader.now.bytes.now) c.args.fluents) c.args.count c.loop.counter _ _ tt _ c.loop.invariant.2 _ c.loop-test.true read)

pub loop-preserved : goal.loop-preserved
loop-preserved c =
    let read = read_here (λ bits. list_at bits c.args.fluents 4 2 8 c.loop.reader.place) c.list.ensures.value c.loop.invariant.1 ∙ c.in_ok-next.was in
    let more = items_more (group_items (bits_of c.args.reader.now.bytes.now) c.args.fluents) c.args.count c.loop.counter _ _ tt _ c.loop.invariant.2 _ _ c.loop-test.true read in
    let grew = pushed (items_of c.loop.groups) 8 c.in_ok-next.next c.push.ensures.room c.push.ensures.items (omega (arith, c.loop.invariant.0, c.loop-test.true, c.requires)) in
    (pushed_long _ c.in_ok-next.next c.loop.counter grew c.loop.invariant.0, c.list.ensures.moved.bytes ∙ c.loop.invariant.1, rw (grew, c.in_ok-next.ensures.moved.place) more)

pub returns-clause-value : goal.returns-clause-value
returns-clause-value c =
    rw c.place.ensures (items_done (group_items (bits_of c.args.reader.now.bytes.now) c.args.fluents) c.args.count c.loop.counter _ _ tt _ c.loop.invariant.2 c.loop-test.false)
