use Rattle.reasoner.proofs.Laws.{askable}
use Rattle.logs.specs.Logs.{state_of}
use Rattle.logs.proofs.Comparing.{decided}
use Rattle.logs.proofs.RunLaws.{compared}
use Rattle.logs.proofs.log.each_shows.Goals as goal

pub returns-clause-decided : goal.returns-clause-decided
returns-clause-decided g c =
    let one = c.args.one.now in
    let other = c.args.other.now in
    let m = g.R.Reasoner.mind one.reasoner in
    let n = g.S.Reasoner.mind other.reasoner in
    decided m n (g.R.Reasoner.laws one.reasoner) (g.S.Reasoner.laws other.reasoner) (state_of one) (state_of other) (askable one.domain one.state.orders one.state.told) (askable other.domain other.state.orders other.state.told) c.both_within.result c.both_within.ensures

pub returns-clause-compared : goal.returns-clause-compared
returns-clause-compared g c =
    let one = c.args.one.now in
    let other = c.args.other.now in
    let m = g.R.Reasoner.mind one.reasoner in
    let n = g.S.Reasoner.mind other.reasoner in
    compared m n (g.R.Reasoner.laws one.reasoner) (g.S.Reasoner.laws other.reasoner) (state_of one) (state_of other)
