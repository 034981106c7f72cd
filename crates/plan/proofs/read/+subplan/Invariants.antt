use Rattle.plan.proofs.read.+subplan.Given as goal

abbrev pub decreases-subplan : goal.decreases-subplan
decreases-subplan l = l.remaining
