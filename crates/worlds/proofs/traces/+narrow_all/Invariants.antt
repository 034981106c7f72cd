use Rattle.worlds.proofs.traces.+narrow_all.Given as goal

abbrev pub decreases-narrow_all : goal.decreases-narrow_all
decreases-narrow_all l = l.fluents
