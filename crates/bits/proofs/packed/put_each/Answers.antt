use Rattle.std.proofs.Common.{◌+◌, drop, ap}
use Rattle.std.proofs.lemmas.Result.{err_from_is_err_and}
use Rattle.std.specs.List.{flat_map}
use Rattle.bits.proofs.Joins.{joined-take, joined_split}
use Rattle.bits.proofs.Writing.{wrote_then, wrote_refused, wrote_none, wrote_as}
use Rattle.bits.proofs.packed.put_each.Goals as goal

pub loop-item-init : goal.loop-item-init
loop-item-init g c = wrote_none _

pub returns-in_err-put : goal.returns-in_err-put
returns-in_err-put g c =
    let p = err_from_is_err_and c.from_residual.result c.from_residual.ensures.1 in
    let bits = g.T.Packed.bits in
    let xs = c.args.items.now in
    let i = c.loop-item.item-index in
    let stopped = wrote_then c.loop-item.invariant (wrote_refused (flat_map bits (drop (i + 1) xs)) (wrote_as (ap bits c.item-item.is) c.in_err-put.ensures)) in
    rw p.1 (wrote_as (joined_split bits xs i c.item-item.result c.loop-item-test.true) stopped)

pub loop-item-preserved : goal.loop-item-preserved
loop-item-preserved g c =
    let bits = g.T.Packed.bits in
    wrote_as (joined-take bits c.args.items.now c.loop-item.item-index c.item-item.result c.loop-item-test.true) (wrote_then c.loop-item.invariant (wrote_as (ap bits c.item-item.is) c.in_ok-put.ensures))
