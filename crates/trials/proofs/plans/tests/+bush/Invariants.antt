use Rattle.trials.proofs.plans.tests.+bush.Given as goal

abbrev pub decreases-bush : goal.decreases-bush
decreases-bush l = l.depth
