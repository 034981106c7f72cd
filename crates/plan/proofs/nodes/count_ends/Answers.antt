use Rattle.std.proofs.Common.{length, filter, ap, ◌∙◌, rules, tests}
use Rattle.std.proofs.lemmas.Iterator.{YieldsList-from_slice}
use Rattle.std.proofs.lemmas.Iterator.Consumers.{YieldsList-from_filter, count_from_yields_List}
use Rattle.plan.proofs.Ways.{is_end, length-filter-is_end}
use Rattle.plan.proofs.nodes.count_ends.Goals as goal

pub returns : goal.returns
returns c t whole =
    count_from_yields_List c.filter.result _ c.count.ensures.ran (YieldsList-from_filter _ is_end (YieldsList-from_slice c.args.nodes.now (cc)) c.filter.ensures.closure (λ x b q k. search (rules, tests)))
    ∙ ap (λ nodes. length (filter is_end nodes)) whole ∙ length-filter-is_end t
