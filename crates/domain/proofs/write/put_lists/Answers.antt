use Rattle.std.proofs.Common.{◌+◌, drop}
use Rattle.std.proofs.lemmas.Result.{err_from_is_err_and}
use Rattle.std.specs.List.{flat_map}
use Rattle.bits.proofs.Laws.{wrote_then, wrote_refused, wrote_none, wrote_as, joined-take, joined_split}
use Rattle.domain.specs.Lists.{list_bits}
use Rattle.domain.proofs.write.put_lists.Goals as goal

pub loop-group-init : goal.loop-group-init
loop-group-init c = wrote_none _

pub returns-in_err-put_list : goal.returns-in_err-put_list
returns-in_err-put_list c =
    let p = err_from_is_err_and c.from_residual.result c.from_residual.ensures.1 in
    let xs = c.args.groups.now in
    let i = c.loop-group.group-index in
    let stopped = wrote_then c.loop-group.invariant (wrote_refused (flat_map (list_bits 4) (drop (i + 1) xs)) c.in_err-put_list.ensures) in
    rw p.1 (wrote_as (joined_split (list_bits 4) xs i 0 c.loop-group-test.true) stopped)

pub loop-group-preserved : goal.loop-group-preserved
loop-group-preserved c =
    wrote_as (joined-take (list_bits 4) c.args.groups.now c.loop-group.group-index 0 c.loop-group-test.true) (wrote_then c.loop-group.invariant c.in_ok-put_list.ensures)
