use Rattle.std.proofs.Common.{◌≡◌, suc, ◌-◌, rules, arith}
use Rattle.knowledge.specs.AllWorlds.{narrowed_all}
use Rattle.worlds.proofs.traces.+narrow_all.Goals as goal

pub returns-then-fluents-eq0 : goal.returns-then-fluents-eq0
unfolding narrowed_all
returns-then-fluents-eq0 t c = search rules

pub returns : goal.returns
unfolding narrowed_all
returns t c =
    let more : c.args.fluents ≡ suc (c.args.fluents - 1) = omega (arith, c.if-fluents-eq0.false) in
    rw more (search rules)
