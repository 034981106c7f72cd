use Rattle.std.proofs.Common.{rules}
use Rattle.std.proofs.lemmas.Iterator.{YieldsList-from_slice}
use Rattle.std.proofs.lemmas.Iterator.Search.{all_from_yields_List}
use Rattle.knowledge.specs.AllWorlds.{one_true}
use Rattle.worlds.proofs.Loops.{each-list_all}
use Rattle.worlds.proofs.states.one_of_each.Goals as goal

pub returns : goal.returns
returns c = rw each-list_all (all_from_yields_List (one_true c.args.state) _ _ _ c.all.ensures.ran (YieldsList-from_slice c.args.groups.now cc) (λ x b q k. search rules))
