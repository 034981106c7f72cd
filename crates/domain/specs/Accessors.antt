-- What a sheet says of the action of a number. Assumes nothing.
use Rattle.std.specs.Prelude.{ℕ, List, [], Some, None, Option, slice_index_or}
use Rattle.domain.specs.Sheet.{Deed, works, senses, Action, Sheet}
use Rattle.domain.specs.declared.action.Effect.{Effect}

-- an unknown action needs nothing and does nothing
abbrev pub no_action : Action
no_action = record { needs = 0; deed = works [] }

-- the action of a number, counted from 0
abbrev pub action_of : Sheet → ℕ → Action
action_of d a = slice_index_or d.actions a no_action

-- its needs
abbrev pub needs_of : Sheet → ℕ → ℕ
needs_of d a = (action_of d a).needs

-- the effects that it works by; a sensing action has none
abbrev pub effects_by : Deed → List Effect
effects_by (works es) = es
effects_by (senses f) = []

abbrev pub effects_of : Sheet → ℕ → List Effect
effects_of d a = effects_by (action_of d a).deed

-- the fluent that it senses, if it is a sensing action
abbrev pub sensed_by : Deed → Option ℕ
sensed_by (works es) = None
sensed_by (senses f) = Some f

abbrev pub sensed_of : Sheet → ℕ → Option ℕ
sensed_of d a = sensed_by (action_of d a).deed
