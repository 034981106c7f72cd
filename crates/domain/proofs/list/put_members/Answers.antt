use Rattle.std.proofs.Common.{◌≡◌, ◌+◌, ◌-◌, ap, arith}
use Rattle.std.proofs.lemmas.Result.{err_from_is_err_and}
use Rattle.std.specs.List.{flat_map}
use Rattle.bits.specs.Bits.{numeral}
use Rattle.bits.proofs.Laws.{wrote_then, wrote_refused, wrote_none, wrote_as}
use Rattle.domain.specs.Lists.{members_from, members}
use Rattle.domain.proofs.ListSteps.{bits_more, bits_parts}
use Rattle.domain.proofs.list.put_members.Goals as goal

pub loop-literal-init : goal.loop-literal-init
unfolding members_from
loop-literal-init c = wrote_none _

pub returns-in_err-put_member : goal.returns-in_err-put_member
returns-in_err-put_member c =
    let p = err_from_is_err_and c.from_residual.result c.from_residual.ensures.1 in
    let set = c.args.set in
    let i = c.loop-literal.literal in
    let stopped = wrote_then c.loop-literal.invariant (wrote_refused (flat_map (numeral 6) (members_from set (63 - i) (i + 1))) c.in_err-put_member.ensures) in
    rw p.1 (wrote_as (bits_parts set i c.loop-literal-test.true) stopped)

pub loop-literal-preserved : goal.loop-literal-preserved
loop-literal-preserved c =
    wrote_as (bits_more c.args.set c.loop-literal.literal) (wrote_then c.loop-literal.invariant c.in_ok-put_member.ensures)

pub returns : goal.returns
unfolding members
returns c =
    let all : c.loop-literal.literal ≡ 64 = omega arith in
    wrote_as (ap (λ n. flat_map (numeral 6) (members_from c.args.set n 0)) all) c.loop-literal.invariant
