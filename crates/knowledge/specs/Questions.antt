-- What a reasoner is asked. Assumes nothing.
use Rattle.std.specs.Prelude.{◌≡◌, ℕ, ◌≤◌, Bool, true, ◌&&◌, List, length, nat_le, nat_lt}
use Rattle.literals.specs.Literals.{fluent}
use Rattle.literals.specs.Tables.{AreSets, shows}
use Rattle.domain.specs.Sheet.{Sheet, lawful}
use Rattle.knowledge.specs.Worlds.{State, holds, after, World}

-- a sheet, the orders and looks so far, and the table of the told facts
pub record Question : Type 0 where
  pub sheet : Sheet
  pub orders : List ℕ
  pub told : List ℕ

-- the moment after the last order or look
abbrev pub latest : Question → ℕ
latest q = length q.orders

-- a fact is of the sheet's fluents, and not later than the last moment
abbrev pub in_reach : Question → ℕ → ℕ → Bool
in_reach q t l = nat_le t (latest q) && nat_lt (fluent l) q.sheet.fluents

-- a told fact counts only where it is in reach
abbrev pub counts : Question → ℕ → ℕ → Bool
counts q t l = shows q.told t l && in_reach q t l

-- a literal is true at a moment, in the world that starts in a state
abbrev pub true_at : Question → State → ℕ → ℕ → Bool
true_at q s t l = holds (after q.sheet q.orders s t) l

-- a world agrees with the told facts that count: each is true at its moment
pub record Agrees (q : Question) (s : State) : Type 0 where
  pub world : World q.sheet s
  pub told_true : (t l : ℕ) → counts q t l ≡ true → true_at q s t l ≡ true

-- a table: a set for each of 33 moments
pub record IsTable (sets : List ℕ) : Type 0 where
  pub long : length sets ≡ 33
  pub small : AreSets sets

-- what may be asked: a lawful sheet, at most 32 orders and looks, and a table
pub record Askable (q : Question) : Type 0 where
  pub lawful_sheet : lawful q.sheet ≡ true
  pub few : length q.orders ≤ 32
  pub table : IsTable q.told
