use Rattle.std.proofs.Common.{◌∙◌, rules, tests}
use Rattle.std.proofs.lemmas.Iterator.{YieldsList-from_slice}
use Rattle.std.proofs.lemmas.Iterator.Search.{any_from_yields_List}
use Rattle.domain.specs.Sheet.{clash}
use Rattle.domain.proofs.Clashes.{list_any-clash}
use Rattle.domain.proofs.rows.clashes.Goals as goal

pub returns : goal.returns
returns c =
    any_from_yields_List (clash c.args.effect.now) _ _ _ c.any.ensures.ran (YieldsList-from_slice c.args.earlier.now (cc)) (λ x b q k. search (rules, tests))
    ∙ list_any-clash c.args.effect.now c.args.earlier.now
