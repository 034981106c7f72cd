-- The least closed table of a question. Assumes nothing.
use Rattle.std.proofs.Common.{◌≡◌, ℕ, true, List}
use Rattle.literals.specs.Tables.{shows}
use Rattle.knowledge.specs.Questions.{Question, IsTable}
use Rattle.knowledge.specs.Rules.{Facts, Closed}

-- a table whose facts are closed, and in all closed facts
pub record Least (q : Question) (sets : List ℕ) : Type 0 where
  pub table : IsTable sets
  pub closed : Closed q (λ t l. shows sets t l)
  pub least : (k : Facts) → Closed q k → (t l : ℕ) → shows sets t l ≡ true → k t l ≡ true
