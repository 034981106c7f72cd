-- Worlds: what is true at each moment, known or not. Assumes nothing.
use Rattle.std.specs.Prelude.{◌≡◌, ℕ, zero, suc, ◌%◌, Bool, true, cond, not, ◌&&◌, ◌≢◌, ◌⊎◌, List, [], ◌∷◌, Some, ◌==◌}
use Rattle.literals.specs.Literals.{fluent, has}
use Rattle.domain.specs.Accessors.{effects_of, sensed_of}
use Rattle.domain.specs.Lists.{members}
use Rattle.domain.specs.Sheet.{Sheet, each}
use Rattle.domain.specs.declared.action.Effect.{Effect}

-- a value for each fluent
abbrev pub State : Type 0
State = ℕ → Bool

-- whether a literal says that its fluent is true
abbrev pub affirms : ℕ → Bool
affirms l = l % 2 == 1

-- a literal is true in a state
abbrev pub holds : State → ℕ → Bool
holds s l = cond (affirms l) (s (fluent l)) (not (s (fluent l)))

-- an effect fires where all its conditions are true
unfoldable pub fires : State → Effect → Bool
fires s e = each (holds s) (members e.conditions)

-- the state after effects: a fluent has the value that the first fired effect of it says, or else the value that it had
unfoldable pub given : State → List Effect → State
given s [] f = s f
given s (e ∷ es) f = cond (fires s e && fluent e.literal == f) (affirms e.literal) (given s es f)

-- the state after an order or a look; a sensing or an unknown action changes nothing
abbrev pub next : Sheet → ℕ → State → State
next d a s = given s (effects_of d a)

-- the state at a moment, from the state at moment 0; after the last order nothing changes
unfoldable pub after : Sheet → List ℕ → State → ℕ → State
after d [] s t = s
after d (a ∷ orders) s zero = s
after d (a ∷ orders) s (suc t) = after d orders (next d a s) t

-- one of a list
unfoldable pub Among : {X : Type 0} → X → List X → Type 0
Among x [] = ⊥
Among x (y ∷ ys) = (x ≡ y) ⊎ Among x ys

-- exactly one literal of a group is true
pub record OneTrue (s : State) (group : ℕ) : Type 0 where
  pub which : ℕ
  pub member : has group which ≡ true
  pub true_there : holds s which ≡ true
  pub no_other : (l : ℕ) → has group l ≡ true → holds s l ≡ true → l ≡ which

-- a state is that of a world at moment 0: the initial literals are true, and exactly one literal of each group
pub record World (d : Sheet) (s : State) : Type 0 where
  pub initially : (l : ℕ) → has d.initial l ≡ true → holds s l ≡ true
  pub one_of : (group : ℕ) → Among group d.groups → OneTrue s group

-- how worlds move, in plain words
pub record Moves (d : Sheet) : Type 0 where
  -- a fired effect's literal is true at the next moment
  pub fired : (s : State) (a : ℕ) (e : Effect) → Among e (effects_of d a) → fires s e ≡ true → holds (next d a s) e.literal ≡ true
  -- a fluent that no fired effect names keeps its value
  pub kept : (s : State) (a f : ℕ) → ((e : Effect) → Among e (effects_of d a) → fires s e ≡ true → fluent e.literal ≢ f) → next d a s f ≡ s f
  -- sensing changes nothing
  pub sensing : (s : State) (a g f : ℕ) → sensed_of d a ≡ Some g → next d a s f ≡ s f
