use Rattle.std.proofs.Common.{◌≡◌, length, refl, ◌∙◌, arith}
use Rattle.domain.specs.Domains.{sheet}
use Rattle.worlds.proofs.Rounds.{trace_more, trace_done}
use Rattle.worlds.proofs.traces.trace.Goals as goal

pub loop-moment-preserved : goal.loop-moment-preserved
loop-moment-preserved c =
    trace_more (sheet c.args.question.now.domain.now) _ c.loop-moment.moment c.loop-moment.state c.loop-moment.table.sets _ c.loop-moment.invariant _ _ c.loop-moment-test.true c.put.ensures (c.moved-state.ensures ∙ rw c.effects.ensures refl)

pub returns : goal.returns
returns c =
    let over : c.loop-moment.moment ≡ length c.as_slice-orders.result.now = omega (arith, c.loop-moment-test.false, c.loop-moment.auto.moment-end) in
    trace_done (sheet c.args.question.now.domain.now) _ c.loop-moment.moment c.loop-moment.state c.loop-moment.table.sets _ c.loop-moment.invariant _ over c.put-2.ensures
    ∙ rw c.as_slice-orders.ensures refl
