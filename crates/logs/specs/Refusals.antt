-- The number and the values of each refusal of the log. Assumes nothing.
use Rattle.std.specs.Prelude.{ℕ, List, [], ◌∷◌}
use Rattle.logs.specs.declared.refusal.Refusal.{Refusal}
use Rattle.logs.specs.declared.refusal.Refusal.TheVariants.{TooMany, Full, Unknown, WrongKind, Late, NeedNotShown, Contradicts, NotOwed}

abbrev pub number_of : Refusal → ℕ
number_of (TooMany r) = 9
number_of Full = 10
number_of (Unknown number) = 11
number_of (WrongKind action) = 12
number_of Late = 13
number_of (NeedNotShown action literal) = 14
number_of (Contradicts literal moment) = 15
number_of NotOwed = 16

abbrev pub values_of : Refusal → List ℕ
values_of (TooMany r) = r.fluents ∷ []
values_of Full = []
values_of (Unknown number) = number ∷ []
values_of (WrongKind action) = action ∷ []
values_of Late = []
values_of (NeedNotShown action literal) = action ∷ literal ∷ []
values_of (Contradicts literal moment) = literal ∷ moment ∷ []
values_of NotOwed = []
