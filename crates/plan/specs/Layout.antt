-- The packed layout of a plan: what bytes read as, and what a plan is written as. Assumes nothing.
use Rattle.std.specs.Prelude.{ℕ, zero, suc, ◌+◌, Bool, cond, List, ◌++◌, length, Ok, Err, Result, ◌==◌, nat_le}
use Rattle.std.specs.List.{flat_map}
use Rattle.bits.specs.Bits.{numeral, bits_of, packed}
use Rattle.bits.specs.Fields.{field, ending, followed, after, refused_as}
use Rattle.bits.specs.declared.refusal.TooShort.{TooShort}
use Rattle.plan.specs.Tree.{Tree, end, order, look, nodes_of, size}
use Rattle.plan.specs.declared.node.Node.{Node}
use Rattle.plan.specs.declared.node.Node.TheVariants.{End, Order, Look}
use Rattle.plan.specs.declared.refusal.Refusal.{Refusal}
use Rattle.plan.specs.declared.refusal.Refusal.TheVariants.{Unread, Edition, Tag, TooLarge}

-- a field of w bits at a place of a plan
unfoldable pub plan_field : List Bool → ℕ → ℕ → Result (ℕ × ℕ) Refusal
plan_field bits p w = refused_as Unread (field bits p w)

-- the node at the place p, with n nodes before it, below which at most d orders and looks may stand: a tag of two bits, and after an order's or a look's tag the action in four
abbrev pub named_node : ℕ → ℕ → ℕ → Result (Node × ℕ) Refusal
named_node tag a q = Ok (cond (tag == 1) (Order a) (Look a), q)

abbrev pub tagged_node : List Bool → ℕ → ℕ → ℕ → ℕ → ℕ → Result (Node × ℕ) Refusal
tagged_node bits d n p tag q =
    cond (tag == 3) (Err (Tag p))
    (cond (n == 255) (Err (TooLarge p))
    (cond (tag == 0) (Ok (End, q))
    (cond (d == 0) (Err (TooLarge p)) (followed (plan_field bits q 4) (named_node tag)))))

abbrev pub node_at : List Bool → ℕ → ℕ → ℕ → Result (Node × ℕ) Refusal
node_at bits d n p = followed (plan_field bits p 2) (tagged_node bits d n p)

-- a whole plan at a place; `below` reads the plans under its first node, each given the number of nodes before it
abbrev pub ordered : ℕ → Tree → ℕ → Result (Tree × ℕ) Refusal
ordered a t q = Ok (order a t, q)

abbrev pub looked : ℕ → Tree → Tree → ℕ → Result (Tree × ℕ) Refusal
looked a y t q = Ok (look a y t, q)

abbrev pub looked_no : (ℕ → ℕ → Result (Tree × ℕ) Refusal) → ℕ → ℕ → Tree → ℕ → Result (Tree × ℕ) Refusal
looked_no below n a y q = followed (below (n + 1 + size y) q) (looked a y)

abbrev pub under : (ℕ → ℕ → Result (Tree × ℕ) Refusal) → ℕ → Node → ℕ → Result (Tree × ℕ) Refusal
under below n End q = Ok (end, q)
under below n (Order a) q = followed (below (n + 1) q) (ordered a)
under below n (Look a) q = followed (below (n + 1) q) (looked_no below n a)

-- the plan at the place p, with n nodes before it, at most d orders and looks deep
unfoldable pub plan_at : ℕ → List Bool → ℕ → ℕ → Result (Tree × ℕ) Refusal
plan_at zero bits n p = followed (node_at bits 0 n p) (λ node q. Ok (end, q))
plan_at (suc d) bits n p = followed (node_at bits (suc d) n p) (under (plan_at d bits) n)

-- the layout ends after the plan
abbrev pub ended : List Bool → Tree → ℕ → Result Tree Refusal
ended bits t q = after (refused_as Unread (ending bits q)) (Ok t)

-- a plan of edition 1
abbrev pub edition_one : List Bool → ℕ → ℕ → Result Tree Refusal
edition_one bits edition p = cond (edition == 1) (followed (plan_at 32 bits 0 p) (ended bits)) (Err (Edition 0))

-- what bytes read as: the edition in four bits, then the plan, then nothing but the fill
unfoldable pub read_plan : List ℕ → Result Tree Refusal
read_plan bytes = followed (plan_field (bits_of bytes) 0 4) (edition_one (bits_of bytes))

-- what a node is written as
abbrev pub node_bits : Node → List Bool
node_bits End = numeral 2 0
node_bits (Order a) = numeral 2 1 ++ numeral 4 a
node_bits (Look a) = numeral 2 2 ++ numeral 4 a

abbrev pub tree_bits : Tree → List Bool
tree_bits t = flat_map node_bits (nodes_of t)

-- what a plan is written as: the edition, the nodes in sequence, zero bits to the end of the last byte
abbrev pub plan_bits : Tree → List Bool
plan_bits t = numeral 4 1 ++ tree_bits t

unfoldable pub written : Tree → List ℕ
written t = packed (plan_bits t)

-- the answer to writing a plan into a buffer of so many bytes: how many it takes, or that they are too few
abbrev pub written_to : Tree → ℕ → Result ℕ TooShort
written_to t len = cond (nat_le (length (written t)) len) (Ok (length (written t))) (Err (record { needed = length (written t) }))
