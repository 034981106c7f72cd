-- What the crates above rest on: how long a list is, and an item pushed where there is room. Assumes nothing.
use Rattle.std.proofs.Common.{◌≡◌, ℕ, ◌+◌, ◌<◌, ◌≤◌, Bool, true, cond, ltb, List, [], ◌∷◌, ◌++◌, length, ap, ◌∙◌, arith, length-append}
use Rattle.std.proofs.lemmas.List.{length-take-le}
use Rattle.std.proofs.lemmas.Bool.Decides.{nat_tests}
use Rattle.lists.specs.Lists.{items_of}
use Rattle.lists.specs.declared.fixed_list.FixedList.{FixedList}

pub items_long : {T : Type 0} {N : ℕ} → (l : FixedList T N) → length (items_of l) ≡ l.count
items_long l = length-take-le l.count l.table (omega (arith, l.few, l.long))

pub items_few : {T : Type 0} {N : ℕ} → (l : FixedList T N) → length (items_of l) ≤ N
items_few l = omega (arith, items_long l, l.few)

-- what a push answers and leaves, where there was room
pub pushed : {T : Type 0} {later : List T} {room : Bool} (before : List T) (most : ℕ) (item : T) → room ≡ ltb (length before) most → later ≡ cond room (before ++ item ∷ []) before → length before < most → later ≡ before ++ item ∷ []
pushed {room = room} before most item told grown fits =
    let some : ltb (length before) most ≡ true = grind (arith, nat_tests) in
    grown ∙ ap (λ r. cond r (before ++ item ∷ []) before) (told ∙ some)

pub pushed_long : {T : Type 0} {later : List T} (before : List T) (item : T) (n : ℕ) → later ≡ before ++ item ∷ [] → length before ≡ n → length later ≡ n + 1
pushed_long before item n grown long = ap length grown ∙ length-append before (item ∷ []) ∙ omega (arith, long)
