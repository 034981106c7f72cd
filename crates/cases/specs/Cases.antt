-- Worked cases: what bytes, orders and told facts make known. Assumes nothing.
use Rattle.std.specs.Prelude.{◌≡◌, ℕ, ◌+◌, ◌*◌, ◌<◌, ◌≤◌, cond, Bool, true, false, List, [], ◌∷◌, length, Some, None, Ok, Option, slice_get, option_and_then, All}
use Rattle.std.specs.Borrow.{Bor}
use Rattle.literals.specs.Tables.{told, empty}
use Rattle.domain.specs.Sheet.{Sheet}
use Rattle.domain.specs.Layout.{read_domain}
use Rattle.knowledge.specs.Questions.{Question, Agrees}
use Rattle.knowledge.specs.Rules.{Known}
use Rattle.knowledge.specs.Worlds.{State}
use Rattle.cases.specs.declared.cases.Case.{Case}

-- a table with facts put in one after another
abbrev pub with_told : List ℕ → List (ℕ × ℕ) → List ℕ
with_told sets [] = sets
with_told sets (f ∷ facts) = with_told (told sets f.0 f.1) facts

-- what the case asks of a sheet
abbrev pub question_of : Sheet → Case → Question
question_of d c = record { sheet = d; orders = c.orders.now; told = with_told empty c.told.now }

-- what a mark says of a fluent at a moment: that it is known true, that it is known false, or neither; where there is no mark, nothing holds
abbrev pub Marked : Question → ℕ → ℕ → Option (Option Bool) → Type 0
Marked q t f (Some (Some true)) = Known q t (2 * f + 1)
Marked q t f (Some (Some false)) = Known q t (2 * f)
Marked q t f (Some None) = (Known q t (2 * f + 1) → ⊥) × (Known q t (2 * f) → ⊥)
Marked q t f None = ⊥

-- the mark of a fluent at a moment, where the rows have one
abbrev pub mark_of : Case → ℕ → ℕ → Option (Option Bool)
mark_of c t f = option_and_then (λ row. slice_get row.now t) (slice_get c.rows.now f)

-- no world agrees
abbrev pub NoWorld : Question → Type 0
NoWorld q = (s : State) → Agrees q s → ⊥

-- a case is small, and each row has a mark for each moment
pub record Within (c : Case) : Type 0 where
  pub bytes : length c.domain.now ≤ 11
  pub orders : length c.orders.now ≤ 2
  pub facts : length c.told.now ≤ 2
  pub fluents : length c.rows.now ≤ 3
  pub moments : All (λ (row : Bor (List (Option Bool))). length row.now ≡ length c.orders.now + 1) c.rows.now

-- a case stands: its bytes are a domain, each mark is as the rules have it, and whether a world agrees is as the worlds have it
pub record Stands (c : Case) : Type 0 where
  pub within : Within c
  pub sheet : Sheet
  pub decoded : read_domain c.domain.now ≡ Ok sheet
  pub all_fluents : sheet.fluents ≡ length c.rows.now
  pub by_rules : (f t : ℕ) → f < length c.rows.now → t ≤ length c.orders.now → Marked (question_of sheet c) t f (mark_of c t f)
  pub by_worlds : cond c.agreeing (NoWorld (question_of sheet c) → ⊥) (NoWorld (question_of sheet c))

-- where there is a case, it stands
abbrev pub AllStand : Option Case → Type 0
AllStand None = Unit
AllStand (Some c) = Stands c
