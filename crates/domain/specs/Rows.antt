-- What the records of a domain hold, as the sheet says it. Assumes nothing.
use Rattle.std.specs.Prelude.{ℕ, List, ◌++◌, map, Ok, Err, Result}
use Rattle.lists.specs.Lists.{items_of}
use Rattle.lists.specs.declared.fixed_list.FixedList.{FixedList}
use Rattle.domain.specs.Sheet.{Deed, works, senses, Action, Sheet}
use Rattle.domain.specs.declared.action.Kind.{Kind}
use Rattle.domain.specs.declared.action.Kind.TheVariants.{Working, Sensing}
use Rattle.domain.specs.declared.action.Parts.{Parts}
use Rattle.domain.specs.declared.action.Row.{Row}

abbrev pub deed_in : Kind → Deed
deed_in (Working effects) = works (items_of effects)
deed_in (Sensing fluent) = senses fluent

abbrev pub action_in : Row → Action
action_in r = record { needs = r.needs; deed = deed_in r.kind }

abbrev pub actions_in : FixedList Row 16 → List Action
actions_in r = map action_in (items_of r)

abbrev pub parts_sheet : Parts → Sheet
parts_sheet d =
    record { fluents = d.fluents; initial = d.initial; groups = items_of d.groups; actions = actions_in d.rows; strong = d.strong; weak = d.weak }

-- an answer, with what its value holds
abbrev pub holds : {X Y E : Type 0} → (X → Y) → Result (X × ℕ) E → Result (Y × ℕ) E
holds f (Ok r) = Ok (f r.0, r.1)
holds f (Err e) = Err e

-- the items read so far, before those that are still read
abbrev pub before : {X E : Type 0} → List X → Result (List X × ℕ) E → Result (List X × ℕ) E
before xs (Ok r) = Ok (xs ++ r.0, r.1)
before xs (Err e) = Err e
