use Rattle.std.proofs.Common.{rules, arith}
use Rattle.reasoner.proofs.Laws.{few_fluents}
use Rattle.knowledge.specs.AllWorlds.{in_all_worlds}
use Rattle.worlds.proofs.traces.in_all_worlds.Goals as goal

pub narrow_all-requires : goal.narrow_all-requires
narrow_all-requires c = omega (arith, c.fluents-fluents.ensures, few_fluents c.args.question.now.domain.now)

pub returns : goal.returns
unfolding in_all_worlds
returns c = search rules
