-- The actions that rows hold, and what rows and whole sheets are written as. Assumes nothing.
use Rattle.std.proofs.Common.{◌≡◌, ℕ, ◌+◌, ◌≤◌, Bool, true, ◌&&◌, leb, List, ◌++◌, map, length, ap, ◌∙◌, arith, length-append}
use Rattle.std.proofs.lemmas.Bool.{and_parts, leb-true}
use Rattle.std.specs.List.{flat_map}
use Rattle.bits.specs.Bits.{numeral}
use Rattle.bits.proofs.Laws.{length-numeral, joined-map}
use Rattle.domain.specs.Layout.{action_bits, domain_bits}
use Rattle.domain.specs.Lists.{listed, list_bits}
use Rattle.domain.specs.Rows.{action_in}
use Rattle.domain.specs.Sheet.{Action, Sheet, each, lawful}
use Rattle.domain.specs.declared.action.Row.{Row}

-- what the action of a row is written as
abbrev pub row_bits : Row → List Bool
row_bits r = action_bits (action_in r)

-- what groups, rows, and all after the counts are written as
abbrev pub group_bits : List ℕ → List Bool
group_bits gs = numeral 4 (length gs) ++ flat_map (list_bits 4) gs

pub rows_written : (rows : List Row) {actions : List Action} → map action_in rows ≡ actions → flat_map row_bits rows ≡ flat_map action_bits actions
rows_written rows same = joined-map action_bits action_in rows ∙ ap (flat_map action_bits) same

abbrev pub goal_bits : Sheet → List Bool
goal_bits d = list_bits 4 d.strong ++ list_bits 4 d.weak

abbrev pub facts_bits : Sheet → List Bool
facts_bits d = list_bits 6 d.initial ++ (group_bits d.groups ++ (flat_map action_bits d.actions ++ goal_bits d))

-- how many bits a sheet has
pub domain_long : (d : Sheet)
    → length (domain_bits d)
    ≡ (17 + ((length (list_bits 6 d.initial) + length (list_bits 4 d.strong)) + length (list_bits 4 d.weak))) + (length (flat_map (list_bits 4) d.groups) + length (flat_map action_bits d.actions))
domain_long d = simp (length-append, length-numeral) (omega arith)

-- a lawful sheet has a fluent and an action
pub lawful-counts : (d : Sheet) → lawful d ≡ true → (1 ≤ d.fluents) × (1 ≤ length d.actions)
unfolding lawful
lawful-counts d ok =
    let fluents = and_parts (leb 1 d.fluents && leb d.fluents 32) _ ok in
    let initial = and_parts (listed d.fluents 0 32 d.initial) _ fluents.1 in
    let groups = and_parts (leb (length d.groups) 8 && each (listed d.fluents 2 8) d.groups) _ initial.1 in
    let actions = and_parts (leb 1 (length d.actions) && leb (length d.actions) 16) _ groups.1 in (
      leb-true 1 d.fluents (and_parts (leb 1 d.fluents) (leb d.fluents 32) fluents.0).0,
      leb-true 1 (length d.actions) (and_parts (leb 1 (length d.actions)) (leb (length d.actions) 16) actions.0).0,
    )
