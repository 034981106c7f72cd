use Rattle.std.proofs.Common.{add-one, arith, ◌∙◌}
use Rattle.literals.specs.Tables.{empty}
use Rattle.knowledge.specs.Sweeps.{told_from}
use Rattle.reasoner.proofs.Rounds.{told_from-suc}
use Rattle.reasoner.proofs.told.counted.Goals as goal

pub loop-moment-init : goal.loop-moment-init
unfolding told_from
loop-moment-init c = c.empty-table.ensures

pub loop-moment-preserved : goal.loop-moment-preserved
loop-moment-preserved c =
    rw (add-one, told_from-suc _ c.args.told.now.sets c.loop-moment.moment 0 c.loop-moment.moment empty (omega arith), ← c.loop-moment.invariant, ← c.at.ensures, ← c.all.ensures) c.put.ensures
