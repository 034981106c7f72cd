-- The number and the values of each refusal of a domain's reader. Assumes nothing.
use Rattle.std.specs.Prelude.{ℕ, List, [], ◌∷◌}
use Rattle.bits.specs.Refusals as bits
use Rattle.domain.specs.declared.refusal.Refusal.{Refusal}
use Rattle.domain.specs.declared.refusal.Refusal.TheVariants.{Unread, Edition, Count, UnknownFluent, NotRising, NotExclusive}

abbrev pub number_of : Refusal → ℕ
number_of (Unread r) = bits.number_of r
number_of (Edition place) = 2
number_of (Count place) = 3
number_of (UnknownFluent place) = 4
number_of (NotRising place) = 5
number_of (NotExclusive action place) = 6

abbrev pub values_of : Refusal → List ℕ
values_of (Unread r) = bits.values_of r
values_of (Edition place) = place ∷ []
values_of (Count place) = place ∷ []
values_of (UnknownFluent place) = place ∷ []
values_of (NotRising place) = place ∷ []
values_of (NotExclusive action place) = action ∷ place ∷ []
