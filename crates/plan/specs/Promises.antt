-- Reading and writing are each other's inverse. Assumes nothing.
use Rattle.std.specs.Prelude.{◌≡◌, ℕ, List, Ok}
use Rattle.bits.specs.Bits.{AreBytes}
use Rattle.plan.specs.Layout.{read_plan, written}
use Rattle.plan.specs.Tree.{Tree, Lawful}

-- bytes read as a plan exactly when the plan is lawful and they are what it is written as
pub record ReadsExactly (bytes : List ℕ) : Type 0 where
  pub only : (t : Tree) → read_plan bytes ≡ Ok t → Lawful t × (bytes ≡ written t)
  pub back : (t : Tree) → Lawful t → bytes ≡ written t → read_plan bytes ≡ Ok t

-- what a plan is written as reads as that plan, and no other bytes do
pub record WrittenOnce (t : Tree) : Type 0 where
  pub back : read_plan (written t) ≡ Ok t
  pub only : (bytes : List ℕ) → AreBytes bytes → read_plan bytes ≡ Ok t → bytes ≡ written t
