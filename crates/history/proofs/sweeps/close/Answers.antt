use Rattle.std.proofs.Common.{sym, ◌∙◌}
use Rattle.history.proofs.Rounds.{falls, go_on, all_swept}
use Rattle.history.proofs.sweeps.close.Goals as goal

pub loop-preserved : goal.loop-preserved
loop-preserved c =
    go_on c.args.domain.now c.args.orders.now c.loop.table c.sweep.new.table.sets c.sweep.ensures.table (sym c.loop-test.true ∙ c.sweep.ensures.value) ∙ c.loop.invariant

pub returns : goal.returns
returns c =
    all_swept c.args.domain.now c.args.orders.now c.loop.table c.sweep.new.table.sets c.sweep.ensures.table (sym c.loop-test.false ∙ c.sweep.ensures.value) ∙ c.loop.invariant

pub loop-smaller : goal.loop-smaller
loop-smaller c =
    falls c.args.domain.now c.args.orders.now c.loop.table c.sweep.new.table.sets c.sweep.ensures.table (sym c.sweep.ensures.value ∙ c.loop-test.true)
