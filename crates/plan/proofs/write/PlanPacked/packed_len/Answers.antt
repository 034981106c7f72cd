use Rattle.std.proofs.Common.{length, ap, ◌∙◌, arith, length-append}
use Rattle.std.specs.List.{flat_map}
use Rattle.bits.specs.Bits.{numeral}
use Rattle.bits.proofs.Laws.{length-numeral}
use Rattle.plan.specs.Layout.{node_bits}
use Rattle.plan.specs.Plans.{plan_tree}
use Rattle.plan.specs.Tree.{nodes_of}
use Rattle.plan.proofs.write.PlanPacked.packed_len.Goals as goal

pub returns-clause-value : goal.returns-clause-value
returns-clause-value c =
    let self = c.args.self.now in
    let long = length-append (numeral 4 1) (flat_map node_bits (nodes_of (plan_tree self))) in
    let bits = c.packed_len.ensures.value ∙ ap (λ nodes. length (flat_map node_bits nodes)) c.nodes.ensures in
    omega (arith, long, bits, length-numeral 4 1)
