-- The plan that a record holds. Assumes nothing.
use Rattle.std.specs.Prelude.{List, Ok, Err, Result}
use Rattle.lists.specs.Lists.{items_of}
use Rattle.lists.specs.declared.fixed_list.FixedList.{FixedList}
use Rattle.plan.specs.Tree.{Tree, tree_of}
use Rattle.plan.specs.declared.node.Node.{Node}
use Rattle.plan.specs.declared.record.Plan.{Plan}

abbrev pub plan_nodes : Plan → List Node
plan_nodes p = items_of p.nodes

abbrev pub plan_tree : Plan → Tree
plan_tree p = tree_of (plan_nodes p)

-- an answer, with the plan that its record holds
abbrev pub held : {E : Type 0} → Result Plan E → Result Tree E
held (Ok p) = Ok (plan_tree p)
held (Err e) = Err e

-- the same of nodes that were just read
abbrev pub spelled : {E : Type 0} → Result (FixedList Node 255) E → Result Tree E
spelled (Ok n) = Ok (tree_of (items_of n))
spelled (Err e) = Err e
