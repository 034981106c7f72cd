-- What the plan's recursive reader leaves behind. Assumes nothing.
use Rattle.std.specs.Prelude.{◌≡◌, ℕ, List, ◌++◌, Ok, Err, Result}
use Rattle.plan.specs.Tree.{Tree, nodes_of}
use Rattle.plan.specs.declared.node.Node.{Node}
use Rattle.plan.specs.declared.refusal.Refusal.{Refusal}

-- the answer to a read plan: its nodes were added and the reader stands after it; a refusal is answered as it is
abbrev pub Added : Result (Tree × ℕ) Refusal → Result (Unit {0}) Refusal → List Node → List Node → ℕ → Type 0
Added (Ok r) answer before later place = (answer ≡ Ok tt) × (later ≡ before ++ nodes_of r.0) × (place ≡ r.1)
Added (Err e) answer before later place = answer ≡ Err e
