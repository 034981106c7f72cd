use Rattle.knowledge.proofs.Laws.{shows_true}
use Rattle.reasoner.specs.Asking.{question}
use Rattle.reasoner.proofs.Laws.{askable}
use Rattle.worlds.proofs.worlds.AllWorlds.true_facts.Goals as goal

pub returns-clause-exact : goal.returns-clause-exact
returns-clause-exact c =
    rw c.in_all_worlds.ensures (shows_true (question c.args.domain.now c.args.orders.now c.args.told.now) (askable c.args.domain.now c.args.orders.now c.args.told.now))
