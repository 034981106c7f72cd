-- What a conditional plan is, as a tree, and the sequence in which its nodes stand. Assumes nothing.
use Rattle.std.specs.Prelude.{◌≡◌, ℕ, zero, suc, ◌+◌, ◌≤◌, max, Bool, true, ◌&&◌, List, [], ◌∷◌, ◌++◌, length, nat_lt}
use Rattle.plan.specs.declared.node.Node.{Node}
use Rattle.plan.specs.declared.node.Node.TheVariants.{End, Order, Look}

-- a plan is an end, or an order and a plan, or a look with a yes-plan and a no-plan
pub data Tree : Type 0 where
  end : Tree
  order : ℕ → Tree → Tree
  look : ℕ → Tree → Tree → Tree

-- the nodes in sequence: a node before what comes under it, a yes-plan before its no-plan
abbrev pub nodes_of : Tree → List Node
nodes_of end = End ∷ []
nodes_of (order a p) = Order a ∷ nodes_of p
nodes_of (look a y n) = Look a ∷ (nodes_of y ++ nodes_of n)

abbrev pub size : Tree → ℕ
size p = length (nodes_of p)

-- how many orders and looks the longest way has
abbrev pub depth : Tree → ℕ
depth end = 0
depth (order a p) = suc (depth p)
depth (look a y n) = suc (max (depth y) (depth n))

abbrev pub ends : Tree → ℕ
ends end = 1
ends (order a p) = ends p
ends (look a y n) = ends y + ends n

-- each action number fits the four bits that a plan has for it
abbrev pub small_actions : Tree → Bool
small_actions end = true
small_actions (order a p) = nat_lt a 16 && small_actions p
small_actions (look a y n) = nat_lt a 16 && (small_actions y && small_actions n)

-- what the layout asks of a plan
pub record Lawful (p : Tree) : Type 0 where
  pub shallow : depth p ≤ 32
  pub few : size p ≤ 255
  pub named : small_actions p ≡ true

-- the plan that nodes begin with, and the nodes after it; k is at least the number of nodes
unfoldable pub grown : ℕ → List Node → Tree × List Node
grown zero nodes = (end, nodes)
grown (suc k) [] = (end, [])
grown (suc k) (End ∷ nodes) = (end, nodes)
grown (suc k) (Order a ∷ nodes) = (order a (grown k nodes).0, (grown k nodes).1)
grown (suc k) (Look a ∷ nodes) = (look a (grown k nodes).0 (grown k (grown k nodes).1).0, (grown k (grown k nodes).1).1)

-- the plan that nodes spell
unfoldable pub tree_of : List Node → Tree
tree_of nodes = (grown (length nodes) nodes).0

-- the nodes spell one whole plan within the layout's bounds
pub record Whole (nodes : List Node) : Type 0 where
  pub whole : nodes_of (tree_of nodes) ≡ nodes
  pub shallow : depth (tree_of nodes) ≤ 32
  pub named : small_actions (tree_of nodes) ≡ true
