use Rattle.std.proofs.Common.{rules}
use Rattle.std.proofs.lemmas.Iterator.{YieldsList-from_slice}
use Rattle.std.proofs.lemmas.Iterator.Consumers.{fold_from_yields_List}
use Rattle.knowledge.specs.Sweeps.{worked}
use Rattle.history.proofs.Loops.{all_worked-fold}
use Rattle.history.proofs.pairs.between.Goals as goal

pub returns : goal.returns
returns c = rw (← c.kept.ensures, all_worked-fold) (fold_from_yields_List _ (λ p e. worked e p) _ _ c.fold.ensures.ran (YieldsList-from_slice c.args.effects.now cc) (λ a x b q k. search rules))
