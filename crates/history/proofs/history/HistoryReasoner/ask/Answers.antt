use Rattle.std.proofs.Common.{refl}
use Rattle.std.proofs.lemmas.Bool.{le-leb}
use Rattle.reasoner.proofs.Laws.{few_fluents}
use Rattle.history.proofs.history.HistoryReasoner.ask.Goals as goal

pub returns-clause-value : goal.returns-clause-value
returns-clause-value c = rw (le-leb _ _ (few_fluents c.args.domain.now)) refl
