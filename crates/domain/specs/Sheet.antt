-- What a domain sheet says, and when it is lawful. Assumes nothing.
use Rattle.std.specs.Prelude.{ℕ, ◌+◌, ◌/◌, Bool, true, false, not, ◌&&◌, ◌||◌, List, [], ◌∷◌, ◌++◌, length, ◌==◌, bit_and, nat_le, nat_lt}
use Rattle.literals.specs.Literals.{opposite, opposites}
use Rattle.domain.specs.Lists.{listed}
use Rattle.domain.specs.declared.action.Effect.{Effect}

-- an action works by its effects, or senses a fluent
pub data Deed : Type 0 where
  works : List Effect → Deed
  senses : ℕ → Deed

pub record Action : Type 0 where
  pub needs : ℕ
  pub deed : Deed

pub record Sheet : Type 0 where
  pub fluents : ℕ
  pub initial : ℕ
  pub groups : List ℕ
  pub actions : List Action
  pub strong : ℕ
  pub weak : ℕ

-- two effects clash: their literals are opposites, and no condition of one is the opposite of a condition of the other
abbrev pub clash : Effect → Effect → Bool
clash e f = e.literal == opposite f.literal && bit_and e.conditions (opposites f.conditions) == 0

-- an effect clashes with one of the others
abbrev pub clashes : Effect → List Effect → Bool
clashes e [] = false
clashes e (f ∷ fs) = clash e f || clashes e fs

-- none of the effects clashes with an earlier one
unfoldable pub clash_free : List Effect → List Effect → Bool
clash_free earlier [] = true
clash_free earlier (e ∷ es) = not (clashes e earlier) && clash_free (earlier ++ e ∷ []) es

-- each effect speaks of the first F fluents and has at most 7 conditions, and their literals rise strictly, from the least on
unfoldable pub rising_effects : ℕ → ℕ → List Effect → Bool
rising_effects F least [] = true
rising_effects F least (e ∷ es) =
    (listed F 0 7 e.conditions && (nat_lt (e.literal / 2) F && nat_le least e.literal)) && rising_effects F (e.literal + 1) es

abbrev pub lawful_deed : ℕ → Deed → Bool
lawful_deed F (works es) = nat_le (length es) 8 && (rising_effects F 0 es && clash_free [] es)
lawful_deed F (senses f) = nat_lt f F

abbrev pub lawful_action : ℕ → Action → Bool
lawful_action F a = listed F 0 8 a.needs && lawful_deed F a.deed

abbrev pub each : {X : Type 0} → (X → Bool) → List X → Bool
each test [] = true
each test (x ∷ xs) = test x && each test xs

-- a lawful sheet: 1 to 32 fluents, 1 to 16 actions, at most 8 groups of 2 to 8 literals, at most 8 goals of each kind
unfoldable pub lawful : Sheet → Bool
lawful d =
    (nat_le 1 d.fluents && nat_le d.fluents 32)
    && (listed d.fluents 0 32 d.initial
    && ((nat_le (length d.groups) 8 && each (listed d.fluents 2 8) d.groups)
    && ((nat_le 1 (length d.actions) && nat_le (length d.actions) 16)
    && (each (lawful_action d.fluents) d.actions
    && (listed d.fluents 0 8 d.strong && listed d.fluents 0 8 d.weak)))))
