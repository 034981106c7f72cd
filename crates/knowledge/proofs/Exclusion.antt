-- What the effects of one action obey on a lawful sheet. Assumes nothing.
use Rattle.std.proofs.Common.{◌≡◌, ℕ, ◌^◌, ◌<◌, true, List}
use Rattle.literals.specs.Literals.{fluent, opposite, has}
use Rattle.domain.specs.declared.action.Effect.{Effect}
use Rattle.knowledge.specs.Worlds.{Among}

-- a condition of one effect is the opposite of a condition of the other
pub record Apart (e f : Effect) : Type 0 where
  pub condition : ℕ
  pub here : has e.conditions condition ≡ true
  pub there : has f.conditions (opposite condition) ≡ true

-- effects with opposite literals are apart, there is at most one effect with a literal, and all literals are of the first F fluents
pub record Exclusive (F : ℕ) (es : List Effect) : Type 0 where
  pub apart : (e f : Effect) → Among e es → Among f es → e.literal ≡ opposite f.literal → Apart e f
  pub one : (e f : Effect) → Among e es → Among f es → e.literal ≡ f.literal → e ≡ f
  pub small : (e : Effect) → Among e es → e.conditions < 2 ^ 64
  pub literal_known : (e : Effect) → Among e es → fluent e.literal < F
  pub conditions_known : (e : Effect) (c : ℕ) → Among e es → has e.conditions c ≡ true → fluent c < F
