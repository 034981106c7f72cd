use Rattle.std.proofs.Common.{suc, ◌+◌, refl, rules, arith}
use Rattle.std.proofs.lemmas.Iterator.{YieldsList-from_range}
use Rattle.std.proofs.lemmas.Iterator.Search.{all_from_yields_List}
use Rattle.knowledge.specs.Questions.{latest}
use Rattle.reasoner.specs.Asking.{asked}
use Rattle.worlds.proofs.Loops.{has_told, tells_true-list_all}
use Rattle.worlds.proofs.traces.tells_true.Goals as goal

pub returns : goal.returns
returns c =
    let q = asked c.args.question.now in
    rw tells_true-list_all
    (all_from_yields_List (has_told q.sheet.fluents q.told c.args.states.now.sets) _ _ c.all.result c.all.ensures.ran
    (YieldsList-from_range 0 (c.len.result + 1) (suc (latest q)) refl (omega (arith, c.len.ensures))) (λ x b q k. search rules))
