use Rattle.std.proofs.Common.{◌++◌, sym, ◌∙◌, arith}
use Rattle.plan.specs.Tree.{nodes_of}
use Rattle.plan.proofs.Ways.{none_first, end_first, order_first, look_first, past_first}
use Rattle.plan.proofs.nodes.+longest_first.Goals as goal

pub returns-in_default-clause-spelled : goal.returns-in_default-clause-spelled
returns-in_default-clause-spelled t c = λ u rest h. absurd (none_first c.args.nodes.now u rest c.in_default.ensures.cases h)

pub returns-in-End-clause-spelled : goal.returns-in-End-clause-spelled
returns-in-End-clause-spelled t c = λ u rest h.
    let is = end_first c.in-Some.rest.now u rest ((rw c.in-End.is at (sym c.in-Some.ensures.cases.0)) ∙ h) in (sym is.0, sym is.1)

pub returns-in-Order-clause-spelled : goal.returns-in-Order-clause-spelled
returns-in-Order-clause-spelled t c = λ u rest h.
    let is = order_first c.in-Order.action c.in-Some.rest.now u rest ((rw c.in-Order.is at (sym c.in-Some.ensures.cases.0)) ∙ h) in
    let under = c.longest_first-longest.ensures.spelled is.0 rest is.1 in
    (omega (arith, is.2, under.0), omega (arith, is.3, under.1))

pub returns-in-Look-clause-spelled : goal.returns-in-Look-clause-spelled
returns-in-Look-clause-spelled t c = λ u rest h.
    let is = look_first c.in-Look.action c.in-Some.rest.now u rest ((rw c.in-Look.is at (sym c.in-Some.ensures.cases.0)) ∙ h) in
    let under_yes = c.longest_first-yes.ensures.spelled is.0 (nodes_of is.1 ++ rest) is.2 in
    let past = past_first c.in-Some.rest.now is.0 (nodes_of is.1 ++ rest) c.longest_first-yes.result.1 is.2 under_yes.1 in
    let under_no = c.longest_first-no.ensures.spelled is.1 rest past in
    (omega (arith, c.max.ensures, is.3, under_yes.0, under_no.0), omega (arith, is.4, under_yes.1, under_no.1))
