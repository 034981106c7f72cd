use Rattle.std.proofs.Common.{◌≡◌, ◌&&◌, nat_lt, is_ok, cond}
use Rattle.literals.specs.Tables.{empty}
use Rattle.reasoner.specs.Asking.{asked, answer_to}
use Rattle.pace.proofs.shown.Given as goal

abbrev pub invariant-loop : goal.invariant-loop
invariant-loop g l =
    let mind = g.R.Reasoner.mind l.reasoner in
    l.table.sets ≡ cond (nat_lt 0 l.counter && is_ok (answer_to mind (asked l.question))) (mind.meaning (asked l.question)) empty
