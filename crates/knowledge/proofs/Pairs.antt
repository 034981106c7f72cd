-- What the effects of an action give from the facts of two moments. Assumes nothing.
use Rattle.std.proofs.Common.{◌≡◌, ℕ, ◌^◌, ◌<◌, ◌≤◌, true, List, [], ◌∷◌, sym, refl, ◌∙◌, inl, inr, ⊎_elim, arith}
use Rattle.literals.specs.Literals.{opposite, has, without, opposites}
use Rattle.literals.proofs.Laws.{opposite_below, has_below, has-opposites, or_below, without_below}
use Rattle.domain.specs.declared.action.Effect.{Effect}
use Rattle.knowledge.specs.Rules.{Literals, Shut, NoneOpen, Between}
use Rattle.knowledge.specs.Sweeps.{may_come, kept, worked, all_worked, between}
use Rattle.knowledge.specs.Worlds.{Among}
use Rattle.knowledge.proofs.Exclusion.{Exclusive}
use Rattle.knowledge.proofs.LeftOver.{in_without, without_left, without_right, in_left, in_right, in_either}
use Rattle.knowledge.proofs.Onward.{none_open, none_open_not}
use Rattle.knowledge.proofs.Steps.{◌⊑◌, Gives, gives_mono, worked_grows, worked_grows_next, worked_gives, worked_only, worked_only_next, worked_below, worked_below_next}

-- more facts shut more effects
pub shut_mono : {a a' : Literals} {e : Effect} → a ⊑ a' → Shut a e → Shut a' e
shut_mono more s = record { condition = s.condition; member = s.member; opposed = more _ s.opposed }

pub none_open_mono : (es : List Effect) (l : ℕ) {a a' : Literals} → a ⊑ a' → NoneOpen es a l → NoneOpen es a' l
none_open_mono es l more none e among is = shut_mono more (none e among is)

pub between_mono : {es : List Effect} {from from_next to to_next from' from_next' to' to_next' : Literals}
    → Between es from from_next to to_next → from' ⊑ from → from_next' ⊑ from_next → to ⊑ to' → to_next ⊑ to_next' → Between es from' from_next' to' to_next'
between_mono {es} r less less-next more more-next =
    record {
      forward = λ l h none. more-next l (r.forward l (less l h) (none_open_mono es (opposite l) less none));
      backward = λ l h none. more l (r.backward l (less-next l h) (none_open_mono es l less none));
      cause = λ e among all. more-next e.literal (r.cause e among (λ c h. less c (all c h)));
      positive = λ e among after before c h. more c (r.positive e among (less-next e.literal after) (less (opposite e.literal) before) c h);
      negative = λ e among after c h others. more (opposite c) (r.negative e among (less-next (opposite e.literal) after) c h (λ m k differs. less m (others m k differs)));
    }

-- the rules of one effect, of all
pub gives_of : {es : List Effect} {from from_next to to_next : Literals} → Between es from from_next to to_next → (e : Effect) → Among e es → Gives e from from_next to to_next
gives_of r e among = record { cause = r.cause e among; positive = r.positive e among; negative = r.negative e among }

-- the literals and conditions of effects are sets' members and sets
pub record Fit (es : List Effect) : Type 0 where
  pub small : (e : Effect) → Among e es → e.conditions < 2 ^ 64
  pub below : (e : Effect) → Among e es → e.literal < 64

pub exclusive_fit : (F : ℕ) (es : List Effect) → F ≤ 32 → Exclusive F es → Fit es
exclusive_fit F es few x = record { small = x.small; below = λ e among. omega (arith, x.literal_known e among) }

fit_rest : {e : Effect} {es : List Effect} → Fit (e ∷ es) → Fit es
unfolding Among
fit_rest fit = record { small = λ f m. fit.small f (inr m); below = λ f m. fit.below f (inr m) }

fit_first : {e : Effect} {es : List Effect} → Fit (e ∷ es) → (e.conditions < 2 ^ 64) × (e.literal < 64)
unfolding Among
fit_first {e} fit = (fit.small e (inl refl), fit.below e (inl refl))

-- ---- one effect after another

pub all_worked_grows : (es : List Effect) (p : ℕ × ℕ) → Fit es → (λ (l : ℕ). has p.0 l) ⊑ (λ l. has (all_worked es p).0 l)
unfolding all_worked
all_worked_grows [] p fit l h = h
all_worked_grows (e ∷ es) p fit l h = all_worked_grows es (worked e p) (fit_rest fit) l (worked_grows e p.0 p.1 (fit_first fit).0 l h)

pub all_worked_grows_next : (es : List Effect) (p : ℕ × ℕ) → Fit es → (λ (l : ℕ). has p.1 l) ⊑ (λ l. has (all_worked es p).1 l)
unfolding all_worked
all_worked_grows_next [] p fit l h = h
all_worked_grows_next (e ∷ es) p fit l h = all_worked_grows_next es (worked e p) (fit_rest fit) l (worked_grows_next e p.0 p.1 (fit_first fit).0 l h)

pub all_worked_gives : (es : List Effect) (p : ℕ × ℕ) → Fit es → (e : Effect) → Among e es
    → Gives e (λ l. has p.0 l) (λ l. has p.1 l) (λ l. has (all_worked es p).0 l) (λ l. has (all_worked es p).1 l)
unfolding all_worked Among
all_worked_gives [] p fit e none = absurd none
all_worked_gives (f ∷ es) p fit e (inl same) =
    rw same
    (gives_mono (worked_gives f p.0 p.1 (fit_first fit).0 (fit_first fit).1) (λ l h. h) (λ l h. h) (all_worked_grows es (worked f p) (fit_rest fit)) (all_worked_grows_next es (worked f p) (fit_rest fit)))
all_worked_gives (f ∷ es) p fit e (inr later) =
    gives_mono (all_worked_gives es (worked f p) (fit_rest fit) e later) (worked_grows f p.0 p.1 (fit_first fit).0) (worked_grows_next f p.0 p.1 (fit_first fit).0) (λ l h. h) (λ l h. h)

pub all_worked_only : (es : List Effect) (p : ℕ × ℕ) → Fit es → (k k_next : Literals) → ((e : Effect) → Among e es → Gives e k k_next k k_next)
    → (λ (l : ℕ). has p.0 l) ⊑ k → (λ (l : ℕ). has p.1 l) ⊑ k_next
    → ((λ (l : ℕ). has (all_worked es p).0 l) ⊑ k) × ((λ (l : ℕ). has (all_worked es p).1 l) ⊑ k_next)
unfolding all_worked Among
all_worked_only [] p fit k k_next closed within within_next = (within, within_next)
all_worked_only (e ∷ es) p fit k k_next closed within within_next =
    let small = (fit_first fit).0 in
    all_worked_only es (worked e p) (fit_rest fit) k k_next (λ f m. closed f (inr m))
    (worked_only e p.0 p.1 small k k_next (closed e (inl refl)) within within_next)
    (worked_only_next e p.0 p.1 small k k_next (closed e (inl refl)) within within_next)

pub all_worked_below : (es : List Effect) (p : ℕ × ℕ) → Fit es → p.0 < 2 ^ 64 → p.1 < 2 ^ 64 → ((all_worked es p).0 < 2 ^ 64) × ((all_worked es p).1 < 2 ^ 64)
unfolding all_worked
all_worked_below [] p fit h k = (h, k)
all_worked_below (e ∷ es) p fit h k =
    all_worked_below es (worked e p) (fit_rest fit) (worked_below e p.0 p.1 (fit_first fit).0 h) (worked_below_next e p.0 p.1 (fit_first fit).0 k)

-- ---- inertia, and all together

module _ (es : List Effect) (a b : ℕ) (fit : Fit es) where
  pub between_grows : (λ (l : ℕ). has a l) ⊑ (λ l. has (between es (a, b)).0 l)
  between_grows l h = all_worked_grows es (kept es (a, b)) fit l (in_left a _ l h)

  pub between_grows_next : (λ (l : ℕ). has b l) ⊑ (λ l. has (between es (a, b)).1 l)
  between_grows_next l h = all_worked_grows_next es (kept es (a, b)) fit l (in_left b _ l h)

  -- all that the rules give is added
  pub between_gives : Between es (λ l. has a l) (λ l. has b l) (λ l. has (between es (a, b)).0 l) (λ l. has (between es (a, b)).1 l)
  between_gives =
      record {
        forward = λ l h none.
            all_worked_grows_next es (kept es (a, b)) fit l (in_right b _ l (in_without a (opposites (may_come es a)) l h (has-opposites (may_come es a) l ∙ none_open_not es a (opposite l) none)));
        backward = λ l h none. all_worked_grows es (kept es (a, b)) fit l (in_right a _ l (in_without b (may_come es a) l h (none_open_not es a l none)));
        cause = λ e among. (gives e among).cause;
        positive = λ e among. (gives e among).positive;
        negative = λ e among. (gives e among).negative;
      }
    where
      gives : (e : Effect) → Among e es → Gives e (λ l. has a l) (λ l. has b l) (λ l. has (between es (a, b)).0 l) (λ l. has (between es (a, b)).1 l)
      gives e among = gives_mono (all_worked_gives es (kept es (a, b)) fit e among) (λ l h. in_left a _ l h) (λ l h. in_left b _ l h) (λ l h. h) (λ l h. h)

  -- and nothing else
  pub between_only : (k k_next : Literals) → Between es k k_next k k_next → (λ (l : ℕ). has a l) ⊑ k → (λ (l : ℕ). has b l) ⊑ k_next
      → ((λ (l : ℕ). has (between es (a, b)).0 l) ⊑ k) × ((λ (l : ℕ). has (between es (a, b)).1 l) ⊑ k_next)
  between_only k k_next closed within within_next =
      all_worked_only es (kept es (a, b)) fit k k_next (gives_of closed) before after
    where
      before : (λ (l : ℕ). has (kept es (a, b)).0 l) ⊑ k
      before l h =
          ⊎_elim (λ (old : has a l ≡ true). within l old)
          (λ (new : has (without b (may_come es a)) l ≡ true).
          let there = without_left b (may_come es a) l new in
          closed.backward l (within_next l there) (none_open_mono es l within (none_open es a l fit.small (without_right b (may_come es a) l new) (has_below b l there))))
          (in_either a _ l h)

      after : (λ (l : ℕ). has (kept es (a, b)).1 l) ⊑ k_next
      after l h =
          ⊎_elim (λ (old : has b l ≡ true). within_next l old)
          (λ (new : has (without a (opposites (may_come es a))) l ≡ true).
          let there = without_left a (opposites (may_come es a)) l new in
          closed.forward l (within l there) (none_open_mono es (opposite l) within (none_open es a (opposite l) fit.small (sym (has-opposites (may_come es a) l) ∙ without_right a (opposites (may_come es a)) l new) (opposite_below l (has_below a l there)))))
          (in_either b _ l h)

  pub between_below : a < 2 ^ 64 → b < 2 ^ 64 → ((between es (a, b)).0 < 2 ^ 64) × ((between es (a, b)).1 < 2 ^ 64)
  between_below h k =
      all_worked_below es (kept es (a, b)) fit (or_below a _ h (without_below b (may_come es a) k)) (or_below b _ k (without_below a (opposites (may_come es a)) h))
