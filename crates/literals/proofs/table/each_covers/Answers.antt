use Rattle.std.proofs.Common.{◌∙◌, rules, tests}
use Rattle.std.proofs.lemmas.Iterator.{YieldsList-from_slice}
use Rattle.std.proofs.lemmas.Iterator.Search.{all_from_yields_List}
use Rattle.literals.specs.Literals.{covers}
use Rattle.literals.proofs.Facts.{list_all-covers}
use Rattle.literals.proofs.table.each_covers.Goals as goal

pub returns : goal.returns
returns c =
    all_from_yields_List (λ s. covers s c.args.part) _ _ _ c.all.ensures.ran (YieldsList-from_slice c.args.sets.now (cc)) (λ x b q k. search (rules, tests))
    ∙ list_all-covers c.args.sets.now c.args.part
