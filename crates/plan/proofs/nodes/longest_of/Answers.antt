use Rattle.std.proofs.Common.{[], sym, ◌∙◌, append-nil}
use Rattle.plan.specs.Tree.{nodes_of}
use Rattle.plan.proofs.nodes.longest_of.Goals as goal

pub returns : goal.returns
returns c t whole = (c.longest_first-longest.ensures.spelled t [] (whole ∙ sym (append-nil (nodes_of t)))).0
