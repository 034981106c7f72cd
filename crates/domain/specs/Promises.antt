-- Reading and writing are each other's inverse. Assumes nothing.
use Rattle.std.specs.Prelude.{◌≡◌, ℕ, true, List, Ok}
use Rattle.bits.specs.Bits.{AreBytes}
use Rattle.domain.specs.Layout.{read_domain, written}
use Rattle.domain.specs.Sheet.{Sheet, lawful}

-- bytes read as a sheet exactly when the sheet is lawful and they are what it is written as
pub record ReadsExactly (bytes : List ℕ) : Type 0 where
  pub only : (d : Sheet) → read_domain bytes ≡ Ok d → (lawful d ≡ true) × (bytes ≡ written d)
  pub back : (d : Sheet) → lawful d ≡ true → bytes ≡ written d → read_domain bytes ≡ Ok d

-- what a sheet is written as reads as that sheet, and no other bytes do
pub record WrittenOnce (d : Sheet) : Type 0 where
  pub back : read_domain (written d) ≡ Ok d
  pub only : (bytes : List ℕ) → AreBytes bytes → read_domain bytes ≡ Ok d → bytes ≡ written d
