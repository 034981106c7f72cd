use Rattle.std.proofs.Common.{Ok, rules}
use Rattle.reasoner.proofs.Laws.{askable}
use Rattle.logs.specs.Logs.{state_of}
use Rattle.logs.proofs.RunLaws.{never_full}
use Rattle.logs.proofs.Showing.{shown_true}
use Rattle.logs.proofs.log.Log.fill.Goals as goal

pub returns-clause-sound : goal.returns-clause-sound
returns-clause-sound g c =
    let log = c.args.self.now in
    let m = g.R.Reasoner.mind log.reasoner in
    shown_true m (g.R.Reasoner.laws log.reasoner) (state_of log) (askable log.domain log.state.orders log.state.told) (Ok tt) (search rules)

pub returns-clause-kept : goal.returns-clause-kept
returns-clause-kept g c =
    let log = c.args.self.now in
    never_full (g.R.Reasoner.mind log.reasoner) (g.R.Reasoner.laws log.reasoner) (state_of log)
