use Rattle.std.proofs.Common.{rules}
use Rattle.std.proofs.lemmas.Iterator.{YieldsList-from_slice}
use Rattle.std.proofs.lemmas.Iterator.Consumers.{YieldsList-from_copied}
use Rattle.std.proofs.lemmas.Iterator.Search.{any_from_yields_List}
use Rattle.history.proofs.Loops.{clashing, clash-list_any}
use Rattle.history.proofs.start.clashes.Goals as goal

pub returns : goal.returns
returns c = rw clash-list_any (any_from_yields_List clashing _ _ _ c.any.ensures.ran (YieldsList-from_copied (YieldsList-from_slice c.args.sets.now cc)) (λ x b q k. search rules))
