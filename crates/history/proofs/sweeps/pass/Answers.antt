use Rattle.std.proofs.Common.{refl, add-one, arith}
use Rattle.domain.specs.Domains.{sheet}
use Rattle.knowledge.specs.Sweeps.{passed}
use Rattle.history.proofs.Rounds.{passed-suc}
use Rattle.history.proofs.sweeps.pass.Goals as goal

pub loop-moment-init : goal.loop-moment-init
unfolding passed
loop-moment-init c = refl

pub loop-moment-preserved : goal.loop-moment-preserved
loop-moment-preserved c =
    rw (add-one, passed-suc (sheet c.args.domain.now) c.args.orders.now c.loop-moment.moment 0 c.loop-moment.moment c.args.table.now.sets (omega arith), ← c.loop-moment.invariant) c.turn.ensures
