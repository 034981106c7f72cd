-- The number and the values of each refusal of a plan's reader. Assumes nothing.
use Rattle.std.specs.Prelude.{ℕ, List, [], ◌∷◌}
use Rattle.bits.specs.Refusals as bits
use Rattle.plan.specs.declared.refusal.Refusal.{Refusal}
use Rattle.plan.specs.declared.refusal.Refusal.TheVariants.{Unread, Edition, Tag, TooLarge}

abbrev pub number_of : Refusal → ℕ
number_of (Unread r) = bits.number_of r
number_of (Edition place) = 2
number_of (Tag place) = 3
number_of (TooLarge place) = 8

abbrev pub values_of : Refusal → List ℕ
values_of (Unread r) = bits.values_of r
values_of (Edition place) = place ∷ []
values_of (Tag place) = place ∷ []
values_of (TooLarge place) = place ∷ []
