-- Tables: a set of literals for each moment from 0 to 32, as the list of the 33 sets. Assumes nothing.
use Rattle.std.specs.Prelude.{ℕ, ◌+◌, ◌-◌, ◌^◌, ◌<◌, min, Bool, true, false, ◌&&◌, List, [], ◌∷◌, ◌++◌, take, replicate, ◌==◌, bit_and, slice_index, slice_set}
use Rattle.literals.specs.Literals.{has, with, covers, all}

-- each number is that of a set
abbrev pub AreSets : List ℕ → Type 0
AreSets sets = (t : ℕ) → slice_index sets t < 2 ^ 64

-- whether a table shows a literal at a moment
abbrev pub shows : List ℕ → ℕ → ℕ → Bool
shows sets t l = has (slice_index sets t) l

-- the table with one literal more at a moment
abbrev pub told : List ℕ → ℕ → ℕ → List ℕ
told sets t l = slice_set sets t (with (slice_index sets t) l)

-- the table with the same set at the first n moments, and empty sets after them
unfoldable pub filled : ℕ → ℕ → List ℕ
filled n s = replicate n s ++ replicate (33 - n) 0

-- the table that shows nothing
abbrev pub empty : List ℕ
empty = filled 0 0

-- how many moments there are up to the last, itself one of them
abbrev pub moments : ℕ → ℕ
moments last = min (last + 1) 33

-- the table that shows every literal of the fluents at each moment up to the last
abbrev pub full : ℕ → ℕ → List ℕ
full fluents last = filled (moments last) (all fluents)

-- whether each set has all of a part
unfoldable pub each_covers : List ℕ → ℕ → Bool
each_covers [] part = true
each_covers (s ∷ sets) part = covers s part && each_covers sets part

-- whether a table shows every literal of the fluents at each moment up to the last
abbrev pub is_full : ℕ → ℕ → List ℕ → Bool
is_full fluents last sets = each_covers (take (moments last) sets) (all fluents)

-- whether two tables have the same sets
unfoldable pub same : List ℕ → List ℕ → Bool
same [] [] = true
same [] (y ∷ ys) = false
same (x ∷ xs) [] = false
same (x ∷ xs) (y ∷ ys) = x == y && same xs ys

-- what two tables both show
unfoldable pub common : List ℕ → List ℕ → List ℕ
common [] ys = []
common (x ∷ xs) [] = []
common (x ∷ xs) (y ∷ ys) = bit_and x y ∷ common xs ys
