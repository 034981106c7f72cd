use Rattle.std.proofs.Common.{[], ◌∷◌, map, ap, ◌∙◌, arith}
use Rattle.std.proofs.lemmas.List.{map-append}
use Rattle.std.proofs.lemmas.Result.{err_from_is_err_and}
use Rattle.bits.specs.Bits.{bits_of}
use Rattle.lists.specs.Lists.{items_of}
use Rattle.lists.proofs.Laws.{pushed, pushed_long}
use Rattle.domain.specs.Layout.{action_at}
use Rattle.domain.specs.Rows.{action_in, holds}
use Rattle.domain.proofs.Items.{action_items, items_more, items_stop, items_done, read_here}
use Rattle.domain.proofs.read.rows.Goals as goal

pub returns-in_err-next-clause-value : goal.returns-in_err-next-clause-value
returns-in_err-next-clause-value c =
    let p = err_from_is_err_and c.from_residual.result c.from_residual.ensures.1 in
    let read = read_here (λ bits. action_at bits c.args.fluents c.loop-action.action c.loop-action.reader.place) c.row.ensures.value c.loop-action.invariant.1 ∙ ap (holds action_in) c.in_err-next.was in
    rw (p.1, p.2) (items_stop (action_items (bits_of c.args.reader.now.bytes.now) c.args.fluents) c.args.count c.loop-action.action _ _ _ _ c.loop-action.invariant.2 _ c.loop-action-test.true read)

pub loop-action-preserved : goal.loop-action-preserved
loop-action-preserved c =
    let read = read_here (λ bits. action_at bits c.args.fluents c.loop-action.action c.loop-action.reader.place) c.row.ensures.value c.loop-action.invariant.1 ∙ ap (holds action_in) c.in_ok-next.was in
    let more = items_more (action_items (bits_of c.args.reader.now.bytes.now) c.args.fluents) c.args.count c.loop-action.action _ _ _ _ c.loop-action.invariant.2 _ _ c.loop-action-test.true read in
    let rows = items_of c.loop-action.rows in
    let grew = pushed rows 16 c.in_ok-next.next c.push.ensures.room c.push.ensures.items (omega (arith, c.loop-action.invariant.0, c.loop-action-test.true, c.requires)) in
    let actions = ap (map action_in) grew ∙ map-append action_in rows (c.in_ok-next.next ∷ []) in
    (pushed_long _ c.in_ok-next.next c.loop-action.action grew c.loop-action.invariant.0, c.row.ensures.moved.bytes ∙ c.loop-action.invariant.1, rw (actions, c.in_ok-next.ensures.moved.place) more)

pub returns-clause-value : goal.returns-clause-value
returns-clause-value c =
    rw c.place.ensures (items_done (action_items (bits_of c.args.reader.now.bytes.now) c.args.fluents) c.args.count c.loop-action.action _ _ _ _ c.loop-action.invariant.2 c.loop-action-test.false)
