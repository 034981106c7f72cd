-- Supposing a fluent both ways. Assumes nothing.
use Rattle.std.specs.Prelude.{ℕ, ◌+◌, ◌*◌, cond, List, nat_lt}
use Rattle.literals.specs.Tables.{told, common}
use Rattle.knowledge.specs.Questions.{Question}
use Rattle.knowledge.specs.Reasoning.{Mind, told_instead}

-- the question with a literal told at moment 0 as well
abbrev pub supposed : Question → ℕ → Question
supposed q l = told_instead q (told q.told 0 l)

-- what is shown either way; a fluent outside the domain is not supposed
abbrev pub either_way : (Question → List ℕ) → ℕ → Question → List ℕ
either_way m f q = cond (nat_lt f q.sheet.fluents) (common (m (supposed q (2 * f + 1))) (m (supposed q (2 * f)))) (m q)

-- a reasoner that supposes a fluent takes as many fluents as the one below it
abbrev pub suppose_mind : Mind → ℕ → Mind
suppose_mind m f = record { largest = m.largest; meaning = either_way m.meaning f }
