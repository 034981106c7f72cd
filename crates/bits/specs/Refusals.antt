-- The number and the values of each refusal of this crate. Assumes nothing.
use Rattle.std.specs.Prelude.{ℕ, List, [], ◌∷◌}
use Rattle.bits.specs.declared.refusal.Refusal.{Refusal}
use Rattle.bits.specs.declared.refusal.Refusal.TheVariants.{Ended, Trailing}
use Rattle.bits.specs.declared.refusal.TooShort.{TooShort}

abbrev pub number_of : Refusal → ℕ
number_of (Ended place) = 1
number_of (Trailing place) = 7

abbrev pub values_of : Refusal → List ℕ
values_of (Ended place) = place ∷ []
values_of (Trailing place) = place ∷ []

-- a buffer too short for the output: the bytes needed
abbrev pub short_number : TooShort → ℕ
short_number s = 20

abbrev pub short_values : TooShort → List ℕ
short_values s = s.needed ∷ []
