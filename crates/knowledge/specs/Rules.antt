-- The six rules by which facts become known. Assumes nothing.
use Rattle.std.specs.Prelude.{◌≡◌, ℕ, suc, ◌<◌, Bool, true, ◌≢◌, List, slice_index}
use Rattle.literals.specs.Literals.{opposite, has}
use Rattle.domain.specs.Accessors.{effects_of}
use Rattle.domain.specs.declared.action.Effect.{Effect}
use Rattle.knowledge.specs.Questions.{Question, latest, counts}
use Rattle.knowledge.specs.Worlds.{Among}

-- the literals that are facts at one moment
abbrev pub Literals : Type 0
Literals = ℕ → Bool

-- an effect is shut where the opposite of one of its conditions is a fact; otherwise it is open
pub record Shut (facts : Literals) (e : Effect) : Type 0 where
  pub condition : ℕ
  pub member : has e.conditions condition ≡ true
  pub opposed : facts (opposite condition) ≡ true

-- no effect with the literal is open
abbrev pub NoneOpen : List Effect → Literals → ℕ → Type 0
NoneOpen effects facts l = (e : Effect) → Among e effects → e.literal ≡ l → Shut facts e

-- one-of: what a group gives from the facts of moment 0 is among the others
pub record OneOf (group : ℕ) (from to : Literals) : Type 0 where
  -- one literal gives the opposites of the others
  pub others : (l m : ℕ) → has group l ≡ true → has group m ≡ true → l ≢ m → from l ≡ true → to (opposite m) ≡ true
  -- where all but one are false, the one left over is true
  pub left_over : (m : ℕ) → has group m ≡ true → ((l : ℕ) → has group l ≡ true → l ≢ m → from (opposite l) ≡ true) → to m ≡ true

-- what effects give from the facts of a moment and of the next one is among the others of these two moments
pub record Between (effects : List Effect) (from from_next to to_next : Literals) : Type 0 where
  -- forward inertia: a literal stays true where no effect with its opposite is open
  pub forward : (l : ℕ) → from l ≡ true → NoneOpen effects from (opposite l) → to_next l ≡ true
  -- backward inertia: a literal was true before where no effect with it is open
  pub backward : (l : ℕ) → from_next l ≡ true → NoneOpen effects from l → to l ≡ true
  -- cause: where all conditions are facts, the effect's literal comes true
  pub cause : (e : Effect) → Among e effects → ((c : ℕ) → has e.conditions c ≡ true → from c ≡ true) → to_next e.literal ≡ true
  -- positive postdiction: a literal that was false and came true did so by its effect, whose conditions were true
  pub positive : (e : Effect) → Among e effects → from_next e.literal ≡ true → from (opposite e.literal) ≡ true
      → (c : ℕ) → has e.conditions c ≡ true → to c ≡ true
  -- negative postdiction: an effect whose literal is false afterwards did not fire; where all its conditions but one are facts, that one was false
  pub negative : (e : Effect) → Among e effects → from_next (opposite e.literal) ≡ true
      → (c : ℕ) → has e.conditions c ≡ true → ((m : ℕ) → has e.conditions m ≡ true → m ≢ c → from m ≡ true) → to (opposite c) ≡ true

-- a literal at a moment is a fact, or not
abbrev pub Facts : Type 0
Facts = ℕ → Literals

-- the effects of the order or look at a moment
abbrev pub effects_at : Question → ℕ → List Effect
effects_at q t = effects_of q.sheet (slice_index q.orders t)

-- facts are closed: they have the initial literals and the told facts that count, and no rule adds to them
pub record Closed (q : Question) (facts : Facts) : Type 0 where
  pub initially : (l : ℕ) → has q.sheet.initial l ≡ true → facts 0 l ≡ true
  pub as_told : (t l : ℕ) → counts q t l ≡ true → facts t l ≡ true
  pub one_of : (group : ℕ) → Among group q.sheet.groups → OneOf group (facts 0) (facts 0)
  pub between : (t : ℕ) → t < latest q → Between (effects_at q t) (facts t) (facts (suc t)) (facts t) (facts (suc t))

-- a literal is known at a moment: it is in all closed facts
abbrev pub Known : Question → ℕ → ℕ → Type 0
Known q t l = (facts : Facts) → Closed q facts → facts t l ≡ true
