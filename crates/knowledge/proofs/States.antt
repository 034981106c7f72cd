-- Sets of literals that stand for states, and how they move with them. Assumes nothing.
use Rattle.std.proofs.Common.{◌≡◌, ℕ, zero, suc, ◌+◌, ◌*◌, ◌^◌, ◌<◌, ◌≤◌, Bool, true, false, cond, not, ◌&&◌, ◌||◌, eqb, ltb, ◌≢◌, List, [], ◌∷◌, sym, refl, ap, ◌∙◌, subst, ⊎_elim, arith}
use lib.Bits.{bit_or}
use Rattle.std.proofs.lemmas.Bool.{cases_Bool, cases_eq, and_parts, both_ways, ltb-true, lt-ltb}
use Rattle.std.proofs.lemmas.Bool.Decides.{nat_tests}
use Rattle.literals.specs.Literals.{fluent, opposite, has, single, with, without, opposites, covers}
use Rattle.literals.proofs.Laws.{has-empty, has-with, has-opposites, or_below, without_below, single_below, with_below}
use Rattle.domain.specs.declared.action.Effect.{Effect}
use Rattle.knowledge.specs.AllWorlds.{firing, moved}
use Rattle.knowledge.specs.Sweeps.{caused}
use Rattle.knowledge.specs.Worlds.{State, affirms, holds, given}
use Rattle.knowledge.proofs.Exclusion.{Exclusive}
use Rattle.knowledge.proofs.LeftOver.{in_without, without_left, without_right, in_left, in_right, in_either}
use Rattle.knowledge.proofs.Moving.{not_both, false_opposite, has-fires, fires-has, Came, came, given_fired}
use Rattle.knowledge.proofs.Onward.{caused-all, caused-all-has, has-caused-all}
use Rattle.knowledge.proofs.Steps.{cond-set_below}

-- two tests that follow from one another are the same
pub same_tests : (a b : Bool) → (a ≡ true → b ≡ true) → (b ≡ true → a ≡ true) → a ≡ b
same_tests true b there back = sym (there refl)
same_tests false true there back = back refl
same_tests false false there back = refl

-- a set stands for a state: it has just the literals of the first F fluents that are true there
pub record Stands (F w : ℕ) (s : State) : Type 0 where
  pub true_in : (l : ℕ) → fluent l < F → has w l ≡ holds s l
  pub known : (l : ℕ) → has w l ≡ true → fluent l < F
  pub small : w < 2 ^ 64

pub stands_true : (F w : ℕ) (s : State) → Stands F w s → (l : ℕ) → has w l ≡ true → holds s l ≡ true
stands_true F w s st l h = sym (st.true_in l (st.known l h)) ∙ h

-- ---- the literals of the effects that fire

firing-caused : (es : List Effect) (w : ℕ) → firing es w ≡ caused-all es w
unfolding firing caused-all
firing-caused [] w = refl
firing-caused (e ∷ es) w = ap (bit_or (caused e w)) (firing-caused es w)

firing_below : (es : List Effect) (w : ℕ) → firing es w < 2 ^ 64
unfolding firing
firing_below [] w = omega arith
firing_below (e ∷ es) w = or_below (caused e w) (firing es w) (cond-set_below (covers w e.conditions) (single e.literal) (single_below e.literal)) (firing_below es w)

pub moved_below : (es : List Effect) (w : ℕ) → w < 2 ^ 64 → moved es w < 2 ^ 64
moved_below es w small = or_below _ (firing es w) (without_below w (opposites (firing es w)) small) (firing_below es w)

-- ---- a set that stands for a state stands for the next one after the effects

module _ (F : ℕ) (es : List Effect) (few : F ≤ 32) (ex : Exclusive F es) (w : ℕ) (s : State) (st : Stands F w s) where
  fired_came : (l : ℕ) → has (firing es w) l ≡ true → Came s es l
  fired_came l h =
      let c = caused-all-has es w l (ap (λ x. has x l) (sym (firing-caused es w)) ∙ h) in
      record {
        by = c.effect;
        among = c.among;
        fired = has-fires s c.effect (λ m member. stands_true F w s st m (c.met m member));
        literal_is = c.literal_is;
      }

  came_fired : (l : ℕ) → Came s es l → has (firing es w) l ≡ true
  came_fired l c =
      let e = c.by in
      let low = ex.literal_known e c.among in
      let met : (m : ℕ) → has e.conditions m ≡ true → has w m ≡ true = λ m member.
      st.true_in m (ex.conditions_known e m c.among member) ∙ fires-has s e m c.fired member in
      ap (λ x. has x l) (firing-caused es w)
      ∙ subst (λ m. has (caused-all es w) m ≡ true) c.literal_is
      (has-caused-all es w e c.among (omega (arith, low, few)) (ex.small e c.among) met)

  came_true : (l : ℕ) → Came s es l → holds (given s es) l ≡ true
  came_true l c = subst (λ m. holds (given s es) m ≡ true) c.literal_is (given_fired F es ex s c.by c.among c.fired)

  moved_true : (l : ℕ) → has (moved es w) l ≡ true → holds (given s es) l ≡ true
  moved_true l h =
      ⊎_elim
      (λ (k : has (without w (opposites (firing es w))) l ≡ true).
      let before = stands_true F w s st l (without_left w (opposites (firing es w)) l k) in
      let calm : has (firing es w) (opposite l) ≡ false = sym (has-opposites (firing es w) l) ∙ without_right w (opposites (firing es w)) l k in
      ⊎_elim
      (λ (now : holds (given s es) l ≡ true). now)
      (λ (now : holds (given s es) l ≡ false).
      let was : holds s (opposite l) ≡ false =
      ⊎_elim (λ (j : holds s (opposite l) ≡ true). absurd (not_both s l before j)) (λ (j : holds s (opposite l) ≡ false). j) (cases_Bool (holds s (opposite l))) in
      absurd (both_ways _ calm (came_fired (opposite l) (came s es (opposite l) was (false_opposite (given s es) l now)))))
      (cases_Bool (holds (given s es) l)))
      (λ (k : has (firing es w) l ≡ true). came_true l (fired_came l k))
      (in_either _ (firing es w) l h)

  true_moved : (l : ℕ) → fluent l < F → holds (given s es) l ≡ true → has (moved es w) l ≡ true
  true_moved l low now =
      ⊎_elim
      (λ (before : holds s l ≡ true).
      let calm : has (opposites (firing es w)) l ≡ false =
      ⊎_elim
      (λ (k : has (opposites (firing es w)) l ≡ true).
      absurd (not_both (given s es) l now (came_true (opposite l) (fired_came (opposite l) (sym (has-opposites (firing es w) l) ∙ k)))))
      (λ (k : has (opposites (firing es w)) l ≡ false). k)
      (cases_Bool (has (opposites (firing es w)) l)) in
      in_left _ (firing es w) l (in_without w (opposites (firing es w)) l (st.true_in l low ∙ before) calm))
      (λ (before : holds s l ≡ false). in_right _ (firing es w) l (came_fired l (came s es l before now)))
      (cases_Bool (holds s l))

  moved_known : (l : ℕ) → has (moved es w) l ≡ true → fluent l < F
  moved_known l h =
      ⊎_elim
      (λ (k : has (without w (opposites (firing es w))) l ≡ true). st.known l (without_left w (opposites (firing es w)) l k))
      (λ (k : has (firing es w) l ≡ true).
      let c = fired_came l k in
      subst (λ m. fluent m < F) c.literal_is (ex.literal_known c.by c.among))
      (in_either _ (firing es w) l h)

  pub moved_stands : Stands F (moved es w) (given s es)
  moved_stands =
      record {
        true_in = λ l low. same_tests (has (moved es w) l) (holds (given s es) l) (moved_true l) (true_moved l low);
        known = moved_known;
        small = moved_below es w st.small;
      }

-- ---- the set for a state

-- the literal of a fluent that is true
abbrev pub chosen : State → ℕ → ℕ
chosen s f = cond (s f) (2 * f + 1) (2 * f)

-- a set with the true literals of the first k fluents as well
unfoldable pub complete : ℕ → State → ℕ → ℕ
complete zero s w = w
complete (suc k) s w = complete k s (with w (chosen s k))

-- it depends on the values of these fluents alone
pub complete_same : (k : ℕ) (s r : State) (w : ℕ) → ((f : ℕ) → f < k → s f ≡ r f) → complete k s w ≡ complete k r w
unfolding complete
complete_same zero s r w same = refl
complete_same (suc k) s r w same =
    ap (λ b. complete k s (with w (cond b (2 * k + 1) (2 * k)))) (same k (omega arith))
    ∙ complete_same k s r (with w (chosen r k)) (λ f h. same f (omega (arith, h)))

pub complete_below : (k : ℕ) (s : State) (w : ℕ) → w < 2 ^ 64 → complete k s w < 2 ^ 64
unfolding complete
complete_below zero s w small = small
complete_below (suc k) s w small = complete_below k s (with w (chosen s k)) (with_below w (chosen s k) small)

-- just one literal of each fluent is chosen
is_chosen : (b : Bool) (k l : ℕ) → fluent l ≡ k → eqb l (cond b (2 * k + 1) (2 * k)) ≡ cond (affirms l) b (not b)
is_chosen true k l h = grind (arith, nat_tests)
is_chosen false k l h = grind (arith, nat_tests)

not_chosen : (b : Bool) (k l : ℕ) → fluent l ≢ k → eqb l (cond b (2 * k + 1) (2 * k)) ≡ false
not_chosen true k l h = grind (arith, nat_tests)
not_chosen false k l h = grind (arith, nat_tests)

chosen_below : (b : Bool) (k : ℕ) → k < 32 → ltb (cond b (2 * k + 1) (2 * k)) 64 ≡ true
chosen_below true k h = grind (arith, nat_tests)
chosen_below false k h = grind (arith, nat_tests)

or_false : (x : Bool) → (x || false) ≡ x
or_false true = refl
or_false false = refl

or_twice : (x y : Bool) → ((x || y) || false) ≡ (x || y)
or_twice true y = refl
or_twice false true = refl
or_twice false false = refl

-- the literals that it has
pub complete_has : (k : ℕ) (s : State) (w l : ℕ) → k ≤ 32 → has (complete k s w) l ≡ (has w l || (ltb (fluent l) k && holds s l))
unfolding complete
complete_has zero s w l few =
    let none : ltb (fluent l) zero ≡ false = grind (arith, nat_tests) in
    rw none (sym (or_false (has w l)))
complete_has (suc k) s w l few =
    let more : has (with w (chosen s k)) l ≡ (has w l || eqb l (chosen s k)) = has-with w (chosen s k) l ∙ ap (λ b. has w l || (b && eqb l (chosen s k))) (chosen_below (s k) k (omega (arith, few))) in
    complete_has k s (with w (chosen s k)) l (omega (arith, few)) ∙ ap (λ b. b || (ltb (fluent l) k && holds s l)) more
    ∙ ⊎_elim
    (λ (here : fluent l ≡ k).
    let now : ltb (fluent l) (suc k) ≡ true = grind (arith, nat_tests) in
    let past : ltb (fluent l) k ≡ false = grind (arith, nat_tests) in
    let is : eqb l (chosen s k) ≡ holds s l = is_chosen (s k) k l here ∙ ap (λ f. cond (affirms l) (s f) (not (s f))) (sym here) in
    rw (now, past, is) (or_twice (has w l) (holds s l)))
    (λ (differs : fluent l ≡ k → ⊥).
    let as_before : ltb (fluent l) (suc k) ≡ ltb (fluent l) k = grind (arith, nat_tests) in
    rw (as_before, not_chosen (s k) k l differs, or_false (has w l)) refl)
    (cases_eq (fluent l) k)

-- the set with the true literals of the first fluents stands for the state
pub complete_stands : (F : ℕ) (s : State) → F ≤ 32 → Stands F (complete F s 0) s
complete_stands F s few =
    let there : (l : ℕ) → has (complete F s 0) l ≡ (ltb (fluent l) F && holds s l) = λ l. complete_has F s 0 l few ∙ ap (λ b. b || (ltb (fluent l) F && holds s l)) (has-empty l) in
    record {
      true_in = λ l low. there l ∙ ap (λ b. b && holds s l) (lt-ltb (fluent l) F low);
      known = λ l h. ltb-true (fluent l) F (and_parts (ltb (fluent l) F) (holds s l) (sym (there l) ∙ h)).0;
      small = complete_below F s 0 (omega arith);
    }
