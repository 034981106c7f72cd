use Rattle.std.proofs.lemmas.Result.{err_from_is_err_and}
use Rattle.bits.proofs.Laws.{wrote_none, wrote_as}
use Rattle.domain.proofs.ListSteps.{member_bits, no_bits}
use Rattle.domain.proofs.list.put_member.Goals as goal

pub returns-in_err-put : goal.returns-in_err-put
returns-in_err-put c =
    let p = err_from_is_err_and c.from_residual.result c.from_residual.ensures.1 in
    rw p.1 (wrote_as (member_bits c.args.set c.args.literal c.from.result c.if-contains.ensures.value c.from.ensures) c.in_err-put.ensures.wrote)

pub returns-in_ok-put : goal.returns-in_ok-put
returns-in_ok-put c =
    wrote_as (member_bits c.args.set c.args.literal c.from.result c.if-contains.ensures.value c.from.ensures) c.in_ok-put.ensures.wrote

pub returns-else-contains : goal.returns-else-contains
returns-else-contains c = wrote_as (no_bits c.args.set c.args.literal c.if-contains.ensures.value) (wrote_none _)
