-- What the history reasoner promises beyond the laws. Assumes nothing.
use Rattle.std.specs.Prelude.{◌≡◌, ℕ, true, List}
use Rattle.literals.specs.Literals.{opposite}
use Rattle.literals.specs.Tables.{shows, full}
use Rattle.knowledge.specs.Questions.{Question, latest}
use Rattle.knowledge.specs.Reasoning.{Mind}
use Rattle.knowledge.specs.Rules.{Known}
use Rattle.knowledge.specs.Sweeps.{history}

-- no literal is known together with its opposite at one moment
abbrev pub Consistent : Question → Type 0
Consistent q = (t l : ℕ) → Known q t l → Known q t (opposite l) → ⊥

-- a table shows exactly what is known, where that is consistent, and otherwise it is the full table
pub record ShowsKnown (q : Question) (sets : List ℕ) : Type 0 where
  pub no_more : Consistent q → (t l : ℕ) → shows sets t l ≡ true → Known q t l
  pub no_less : Consistent q → (t l : ℕ) → Known q t l → shows sets t l ≡ true
  pub otherwise : (t l : ℕ) → Known q t l → Known q t (opposite l) → sets ≡ full q.sheet.fluents (latest q)

-- the history reasoner takes every domain, and shows the history
abbrev pub history_mind : Mind
history_mind = record { largest = 32; meaning = history }
