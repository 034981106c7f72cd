-- Where each case of a table stands, so does each that is taken from it. Assumes nothing.
use Rattle.std.proofs.Common.{ℕ, ◌<◌, zero, suc, List, [], ◌∷◌, Some, None, Option, length, sym, subst, arith}
use Rattle.std.specs.Borrow.{Bor}
use Rattle.std.specs.Option.{option_copied}
use Rattle.std.specs.Slice.{IsItemAt}
use Rattle.std.specs.List.{slice_index_or}
use Rattle.cases.specs.Cases.{Stands, AllStand}
use Rattle.cases.specs.declared.cases.Case.{Case}

abbrev pub EachStands : List Case → Type 0
EachStands [] = Unit
EachStands (c ∷ cases) = Stands c × EachStands cases

one_stands : (cases : List Case) → EachStands cases → (n : ℕ) (c : Case) → n < length cases → Stands (slice_index_or cases n c)
one_stands [] each n c low = absurd (omega (arith, low))
one_stands (d ∷ cases) each zero c low = each.0
one_stands (d ∷ cases) each (suc n) c low = one_stands cases each.1 n c (omega (arith, low))

pub taken_stands : (cases : List Case) → EachStands cases → (n : ℕ) (taken : Option (Bor Case)) → IsItemAt cases n taken → AllStand (option_copied taken)
taken_stands cases each n None item = tt
taken_stands cases each n (Some c) item = subst Stands (sym item.1) (one_stands cases each n c.now item.3.0)
