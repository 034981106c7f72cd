-- What the crates above this one rest on: the members of literal sets, and what a lawful sheet holds. Assumes nothing.
use Rattle.std.proofs.Common.{◌≡◌, ℕ, zero, suc, ◌+◌, ◌^◌, ◌<◌, ◌≤◌, Bool, true, false, ◌&&◌, ltb, leb, List, [], ◌∷◌, length, get_or, Some, sym, refl, ◌∙◌, ⊎_elim, arith}
use Rattle.std.proofs.lemmas.Bool.{cases_Bool, cases_eq, and_parts, and_from, ltb-true, leb-true, both_ways}
use Rattle.literals.specs.Literals.{fluent, has, covers, all}
use Rattle.literals.proofs.Laws.{has_below, has_all, all_below, covers-has, covers_le}
use Rattle.domain.specs.Accessors.{no_action, effects_by, effects_of, sensed_by, sensed_of}
use Rattle.domain.specs.Lists.{members_from, members, listed}
use Rattle.domain.specs.Sheet.{Deed, works, senses, Action, Sheet, clash_free, rising_effects, lawful_deed, lawful_action, each, lawful}

-- ---- the members of a set in sequence are just the literals that it has

each_from : (test : ℕ → Bool) (s n k l : ℕ) → each test (members_from s n k) ≡ true → k ≤ l → l < n + k → has s l ≡ true → test l ≡ true
unfolding members_from
each_from test s zero k l all_pass low high there = absurd (omega arith)
each_from test s (suc n) k l all_pass low high there =
    ⊎_elim
    (λ (h : has s k ≡ true).
    let parts = and_parts (test k) (each test (members_from s n (suc k))) (rw h at all_pass) in
    ⊎_elim
    (λ (e : l ≡ k). rw e parts.0)
    (λ (ne : l ≡ k → ⊥). each_from test s n (suc k) l parts.1 (omega arith) (omega arith) there)
    (cases_eq l k))
    (λ (h : has s k ≡ false).
    ⊎_elim
    (λ (e : l ≡ k). absurd (both_ways (has s k) h (rw e at there)))
    (λ (ne : l ≡ k → ⊥). each_from test s n (suc k) l (rw h at all_pass) (omega arith) (omega arith) there)
    (cases_eq l k))
    (cases_Bool (has s k))

from_each : (test : ℕ → Bool) (s n k : ℕ) → ((l : ℕ) → has s l ≡ true → test l ≡ true) → each test (members_from s n k) ≡ true
unfolding members_from
from_each test s zero k every = refl
from_each test s (suc n) k every =
    ⊎_elim
    (λ (h : has s k ≡ true). rw h (and_from (test k) (each test (members_from s n (suc k))) (every k h) (from_each test s n (suc k) every)))
    (λ (h : has s k ≡ false). rw h (from_each test s n (suc k) every))
    (cases_Bool (has s k))

-- a test that each member passes is passed by each literal that the set has
pub each_member : (test : ℕ → Bool) (s l : ℕ) → each test (members s) ≡ true → has s l ≡ true → test l ≡ true
unfolding members
each_member test s l all_pass there = each_from test s 64 0 l all_pass (omega arith) (omega (arith, has_below s l there)) there

-- and the other way round
pub member_each : (test : ℕ → Bool) (s : ℕ) → ((l : ℕ) → has s l ≡ true → test l ≡ true) → each test (members s) ≡ true
unfolding members
member_each test s every = from_each test s 64 0 every

-- ---- lists of literals

-- a list is the number of a set
pub listed_small : (F least most s : ℕ) → listed F least most s ≡ true → s < 2 ^ 64
unfolding listed
listed_small F least most s h =
    let parts = and_parts (covers (all F) s) _ h in
    omega (arith, covers_le (all F) s parts.0, all_below F)

-- its literals are of the first F fluents
pub listed_known : (F least most s : ℕ) → listed F least most s ≡ true → (l : ℕ) → has s l ≡ true → fluent l < F
unfolding listed
listed_known F least most s h l there =
    let parts = and_parts (covers (all F) s) _ h in
    let known = and_parts (ltb l 64) (ltb (fluent l) F) (sym (has_all F l) ∙ covers-has (all F) s parts.0 l there) in
    ltb-true (fluent l) F known.1

-- ---- lawful sheets

module _ (d : Sheet) (ok : lawful d ≡ true) where
  parts_of : (((leb 1 d.fluents && leb d.fluents 32) ≡ true) × (listed d.fluents 0 32 d.initial ≡ true) × (each (listed d.fluents 2 8) d.groups ≡ true) × (each (lawful_action d.fluents) d.actions ≡ true))
  unfolding lawful
  parts_of =
      let fluents = and_parts (leb 1 d.fluents && leb d.fluents 32) _ ok in
      let initial = and_parts (listed d.fluents 0 32 d.initial) _ fluents.1 in
      let groups = and_parts (leb (length d.groups) 8 && each (listed d.fluents 2 8) d.groups) _ initial.1 in
      let count = and_parts (leb 1 (length d.actions) && leb (length d.actions) 16) _ groups.1 in
      let actions = and_parts (each (lawful_action d.fluents) d.actions) _ count.1 in
      (fluents.0, initial.0, (and_parts (leb (length d.groups) 8) _ groups.0).1, actions.0)

  -- 1 to 32 fluents
  pub lawful_fluents : (1 ≤ d.fluents) × (d.fluents ≤ 32)
  lawful_fluents =
      let few = and_parts (leb 1 d.fluents) (leb d.fluents 32) parts_of.0 in
      (leb-true 1 d.fluents few.0, leb-true d.fluents 32 few.1)

  -- the initial literals are a list
  pub lawful_initial : listed d.fluents 0 32 d.initial ≡ true
  lawful_initial = parts_of.1

  -- each group is a list of 2 to 8 literals
  pub lawful_groups : each (listed d.fluents 2 8) d.groups ≡ true
  lawful_groups = parts_of.2

  -- each action is lawful
  pub lawful_actions : each (lawful_action d.fluents) d.actions ≡ true
  lawful_actions = parts_of.3

-- what a lawful deed works by
deed_lawful : (F : ℕ) (deed : Deed) → lawful_deed F deed ≡ true → (rising_effects F 0 (effects_by deed) ≡ true) × (clash_free [] (effects_by deed) ≡ true)
unfolding rising_effects clash_free
deed_lawful F (works es) h =
    let parts = and_parts (rising_effects F 0 es) (clash_free [] es) (and_parts (leb (length es) 8) _ h).1 in
    (parts.0, parts.1)
deed_lawful F (senses f) h = (refl, refl)

effects_lawful : (F : ℕ) (actions : List Action) (a : ℕ) → each (lawful_action F) actions ≡ true
    → (rising_effects F 0 (effects_by (get_or actions a no_action).deed) ≡ true) × (clash_free [] (effects_by (get_or actions a no_action).deed) ≡ true)
unfolding rising_effects clash_free
effects_lawful F [] a h = (refl, refl)
effects_lawful F (x ∷ xs) zero h = deed_lawful F x.deed (and_parts (listed F 0 8 x.needs) _ (and_parts (lawful_action F x) _ h).0).1
effects_lawful F (x ∷ xs) (suc a) h = effects_lawful F xs a (and_parts (lawful_action F x) _ h).1

-- the effects of any action, known or not, are of the sheet's fluents, and their literals rise
pub lawful_rising : (d : Sheet) → lawful d ≡ true → (a : ℕ) → rising_effects d.fluents 0 (effects_of d a) ≡ true
lawful_rising d ok a = (effects_lawful d.fluents d.actions a (lawful_actions d ok)).0

-- and none clashes with another
pub lawful-clash_free : (d : Sheet) → lawful d ≡ true → (a : ℕ) → clash_free [] (effects_of d a) ≡ true
lawful-clash_free d ok a = (effects_lawful d.fluents d.actions a (lawful_actions d ok)).1

-- the fluent that a lawful deed senses is known
sensed_deed : (F : ℕ) (deed : Deed) (f : ℕ) → lawful_deed F deed ≡ true → sensed_by deed ≡ Some f → f < F
sensed_deed F (works es) f h e = let never : ◌≡◌ {A = ℕ} 0 1 = cc in absurd (omega arith)
sensed_deed F (senses g) f h e = let same : g ≡ f = cc in rw (← same) (ltb-true g F h)

sensed_known : (F : ℕ) (actions : List Action) (a f : ℕ) → each (lawful_action F) actions ≡ true → sensed_by (get_or actions a no_action).deed ≡ Some f → f < F
sensed_known F [] a f h e = let never : ◌≡◌ {A = ℕ} 0 1 = cc in absurd (omega arith)
sensed_known F (x ∷ xs) zero f h e = sensed_deed F x.deed f (and_parts (listed F 0 8 x.needs) _ (and_parts (lawful_action F x) _ h).0).1 e
sensed_known F (x ∷ xs) (suc a) f h e = sensed_known F xs a f (and_parts (lawful_action F x) _ h).1 e

-- the fluent that an action senses is one of the sheet's
pub lawful_sensed : (d : Sheet) → lawful d ≡ true → (a f : ℕ) → sensed_of d a ≡ Some f → f < d.fluents
lawful_sensed d ok a f e = sensed_known d.fluents d.actions a f (lawful_actions d ok) e
