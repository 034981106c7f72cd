-- What is true in a world that agrees with the told facts is closed under the rules. Assumes nothing.
use Rattle.std.proofs.Common.{◌≡◌, ℕ, zero, suc, ◌<◌, true, false, ◌≢◌, List, [], ◌∷◌, length, get_or, sym, refl, ap, ◌∙◌, subst, ⊎_elim, arith}
use Rattle.std.proofs.lemmas.Bool.{cases_Bool, cases_eq}
use Rattle.literals.specs.Literals.{opposite, has}
use Rattle.domain.specs.Sheet.{Sheet, lawful}
use Rattle.domain.specs.declared.action.Effect.{Effect}
use Rattle.knowledge.specs.Questions.{Question, true_at, Agrees}
use Rattle.knowledge.specs.Rules.{Shut, NoneOpen, OneOf, Between, effects_at, Closed}
use Rattle.knowledge.specs.Worlds.{State, holds, fires, given, next, after, Among, OneTrue}
use Rattle.knowledge.proofs.Exclusion.{Exclusive}
use Rattle.knowledge.proofs.Lawful.{exclusive}
use Rattle.knowledge.proofs.Moving.{not_both, false_opposite, opposite_false, fires-has, has-fires, came, given_fired}

-- an effect that is shut by what is true does not fire
shut_not : (s : State) (e : Effect) → Shut (λ l. holds s l) e → fires s e ≡ true → ⊥
shut_not s e shut fire = not_both s shut.condition (fires-has s e shut.condition fire shut.member) shut.opposed

-- ---- one moment and the next

module _ (F : ℕ) (es : List Effect) (ex : Exclusive F es) (s : State) where
  -- a literal with which no effect is open does not come true
  none_came : (l : ℕ) → NoneOpen es (λ m. holds s m) l → holds s l ≡ false → holds (given s es) l ≡ true → ⊥
  none_came l shut before now =
      let by = came s es l before now in
      shut_not s by.by (shut by.by by.among by.literal_is) by.fired

  goes_on : (l : ℕ) → holds s l ≡ true → NoneOpen es (λ m. holds s m) (opposite l) → holds (given s es) l ≡ true
  goes_on l before shut =
      ⊎_elim
      (λ (h : holds (given s es) l ≡ true). h)
      (λ (h : holds (given s es) l ≡ false).
      let was : holds s (opposite l) ≡ false =
      ⊎_elim (λ (k : holds s (opposite l) ≡ true). absurd (not_both s l before k)) (λ (k : holds s (opposite l) ≡ false). k) (cases_Bool (holds s (opposite l))) in
      absurd (none_came (opposite l) shut was (false_opposite (given s es) l h)))
      (cases_Bool (holds (given s es) l))

  went_on : (l : ℕ) → holds (given s es) l ≡ true → NoneOpen es (λ m. holds s m) l → holds s l ≡ true
  went_on l now shut =
      ⊎_elim (λ (h : holds s l ≡ true). h) (λ (h : holds s l ≡ false). absurd (none_came l shut h now)) (cases_Bool (holds s l))

  caused : (e : Effect) → Among e es → holds (given s es) e.literal ≡ true → holds s (opposite e.literal) ≡ true → (c : ℕ) → has e.conditions c ≡ true → holds s c ≡ true
  caused e there now before c member =
      let by = came s es e.literal (opposite_false s e.literal before) now in
      let same : by.by ≡ e = ex.one by.by e by.among there by.literal_is in
      fires-has s e c (subst (λ f. fires s f ≡ true) same by.fired) member

  not-caused : (e : Effect) → Among e es → holds (given s es) (opposite e.literal) ≡ true
      → (c : ℕ) → has e.conditions c ≡ true → ((m : ℕ) → has e.conditions m ≡ true → m ≢ c → holds s m ≡ true) → holds s (opposite c) ≡ true
  not-caused e there now c member others =
      ⊎_elim
      (λ (h : holds s c ≡ true).
      let fire : fires s e ≡ true = has-fires s e (λ m inside. ⊎_elim (λ (is : m ≡ c). ap (holds s) is ∙ h) (λ (ne : m ≡ c → ⊥). others m inside ne) (cases_eq m c)) in
      absurd (not_both (given s es) e.literal (given_fired F es ex s e there fire) now))
      (λ (h : holds s c ≡ false). false_opposite s c h)
      (cases_Bool (holds s c))

  -- what is true at a moment and at the next is closed under the rules of effects
  pub true_between : Between es (λ l. holds s l) (λ l. holds (given s es) l) (λ l. holds s l) (λ l. holds (given s es) l)
  true_between =
      record {
        forward = goes_on;
        backward = went_on;
        cause = λ e there every. given_fired F es ex s e there (has-fires s e every);
        positive = caused;
        negative = not-caused;
      }

-- ---- groups

-- what is true is closed under the rule of a group of which exactly one literal is true
pub true_one_of : (s : State) (group : ℕ) → OneTrue s group → OneOf group (λ l. holds s l) (λ l. holds s l)
true_one_of s group one =
    record {
      others = λ l m here there differ h.
          ⊎_elim
          (λ (k : holds s m ≡ true). absurd (differ (one.no_other l here h ∙ sym (one.no_other m there k))))
          (λ (k : holds s m ≡ false). false_opposite s m k)
          (cases_Bool (holds s m));
      left_over = λ m there others.
          ⊎_elim
          (λ (is : one.which ≡ m). ap (holds s) (sym is) ∙ one.true_there)
          (λ (ne : one.which ≡ m → ⊥). absurd (not_both s one.which one.true_there (others one.which one.member ne)))
          (cases_eq one.which m);
    }

-- ---- all moments

-- at moment 0 a world is as it starts
pub after_none : (d : Sheet) (orders : List ℕ) (s : State) → after d orders s 0 ≡ s
unfolding after
after_none d [] s = refl
after_none d (a ∷ orders) s = refl

-- each order or look takes it from one moment to the next
pub after-step : (d : Sheet) (orders : List ℕ) (s : State) (t : ℕ) → t < length orders → after d orders s (suc t) ≡ next d (get_or orders t 0) (after d orders s t)
unfolding after
after-step d [] s t h = absurd (omega arith)
after-step d (a ∷ orders) s zero h = after_none d orders (next d a s)
after-step d (a ∷ orders) s (suc t) h = after-step d orders (next d a s) t (omega arith)

-- what is true in a world that agrees with the told facts is closed under the rules
pub true_closed : (q : Question) (s : State) → lawful q.sheet ≡ true → Agrees q s → Closed q (λ t l. true_at q s t l)
true_closed q s ok agrees =
    let d = q.sheet in
    let start : s ≡ after d q.orders s 0 = sym (after_none d q.orders s) in
    record {
      initially = λ l member. subst (λ w. holds w l ≡ true) start (agrees.world.initially l member);
      as_told = agrees.told_true;
      one_of = λ group there. subst (λ w. OneOf group (λ l. holds w l) (λ l. holds w l)) start (true_one_of s group (agrees.world.one_of group there));
      between = λ t h.
          let now = after d q.orders s t in
          subst (λ w. Between (effects_at q t) (λ l. holds now l) (λ l. holds w l) (λ l. holds now l) (λ l. holds w l)) (sym (after-step d q.orders s t h))
          (true_between d.fluents (effects_at q t) (exclusive d (get_or q.orders t 0) ok) now);
    }
