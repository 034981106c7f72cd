-- Open effects, what may come and what is caused, and the facts at the next moment by forward inertia and cause alone. Assumes nothing.
use Rattle.std.proofs.Common.{◌≡◌, ℕ, ◌^◌, ◌<◌, ◌≤◌, Bool, true, false, cond, not, ◌&&◌, eqb, ltb, ◌≢◌, ◌⊎◌, List, [], ◌∷◌, sym, refl, ap, ◌∙◌, subst, inl, inr, ⊎_elim, arith}
use lib.Bits.{bit_and, bit_or}
use Rattle.std.proofs.lemmas.Bool.{cases_Bool, cases_eq, and_parts, and_from, or_cases, or_left, or_right, eq-eqb, eqb-true, lt-ltb, both_ways, not_from_false}
use Rattle.literals.specs.Literals.{fluent, opposite, has, single, without, covers, opposites}
use Rattle.literals.proofs.Laws.{opposite-opposite, has-and, has-or, has-without, has-empty, has-single, has-opposites, and_below, covers-has, has-covers, no_members}
use Rattle.domain.specs.declared.action.Effect.{Effect}
use Rattle.knowledge.specs.Rules.{Shut, NoneOpen, Between}
use Rattle.knowledge.specs.Sweeps.{is_open, may_come, caused}
use Rattle.knowledge.specs.Worlds.{Among}
use Rattle.knowledge.proofs.Exclusion.{Exclusive}
use Rattle.knowledge.proofs.LeftOver.{Member, some_or_none}

-- nothing clashes among facts: no literal is there with its opposite
abbrev pub NoClash : ℕ → Type 0
NoClash a = (l : ℕ) → has a l ≡ true → has a (opposite l) ≡ true → ⊥

-- ---- open effects

-- the conditions of which the opposite is a fact
has_opposed : (s a c : ℕ) → has (bit_and s (opposites a)) c ≡ (has s c && has a (opposite c))
has_opposed s a c = has-and s (opposites a) c ∙ ap (λ b. has s c && b) (has-opposites a c)

-- each effect is shut or open, and none is both
pub shut_or_open : (a : ℕ) (e : Effect) → e.conditions < 2 ^ 64 → (Shut (λ l. has a l) e) ⊎ (is_open a e ≡ true)
shut_or_open a e small =
    ⊎_elim
    (λ (found : Member (bit_and e.conditions (opposites a))).
    let c = found.literal in
    let parts = and_parts (has e.conditions c) (has a (opposite c)) (sym (has_opposed e.conditions a c) ∙ found.there) in
    inl (record { condition = c; member = parts.0; opposed = parts.1 }))
    (λ (none : (l : ℕ) → has (bit_and e.conditions (opposites a)) l ≡ false).
    inr (eq-eqb (bit_and e.conditions (opposites a)) 0 (no_members (bit_and e.conditions (opposites a)) (and_below e.conditions (opposites a) small) none)))
    (some_or_none (bit_and e.conditions (opposites a)))

pub open_not_shut : (a : ℕ) (e : Effect) → is_open a e ≡ true → Shut (λ l. has a l) e → ⊥
open_not_shut a e clear shut =
    let s = bit_and e.conditions (opposites a) in
    let c = shut.condition in
    let none : has s c ≡ false = rw (eqb-true s 0 clear) (has-empty c) in
    both_ways (has s c) none (has_opposed e.conditions a c ∙ and_from (has e.conditions c) (has a (opposite c)) shut.member shut.opposed)

-- an effect whose conditions are all facts is open, where nothing clashes
pub met_open : (a : ℕ) (e : Effect) → NoClash a → e.conditions < 2 ^ 64 → ((c : ℕ) → has e.conditions c ≡ true → has a c ≡ true) → is_open a e ≡ true
met_open a e calm small met =
    ⊎_elim
    (λ (s : Shut (λ l. has a l) e). absurd (calm s.condition (met s.condition s.member) s.opposed))
    (λ (h : is_open a e ≡ true). h)
    (shut_or_open a e small)

-- ---- literals of the effects that pass a test

-- the set with just a literal where a test passes
has_chosen : (b : Bool) (l m : ℕ) → has (cond b (single l) 0) m ≡ true → (b ≡ true) × (l ≡ m)
has_chosen true l m h = (refl, sym (eqb-true m l (and_parts (ltb l 64) (eqb m l) (sym (has-single l m) ∙ h)).1))
has_chosen false l m h = absurd (both_ways (has 0 m) (has-empty m) h)

chosen_has : (b : Bool) (l : ℕ) → b ≡ true → l < 64 → has (cond b (single l) 0) l ≡ true
chosen_has b l h small = rw h (has-single l l ∙ and_from (ltb l 64) (eqb l l) (lt-ltb l 64 small) (eq-eqb l l refl))

-- an effect with the literal is open
pub record Comes (es : List Effect) (a l : ℕ) : Type 0 where
  pub effect : Effect
  pub among : Among effect es
  pub literal_is : effect.literal ≡ l
  pub still_open : is_open a effect ≡ true

pub may_come-has : (es : List Effect) (a l : ℕ) → has (may_come es a) l ≡ true → Comes es a l
unfolding may_come Among
may_come-has [] a l h = absurd (both_ways (has 0 l) (has-empty l) h)
may_come-has (e ∷ es) a l h =
    let here = cond (is_open a e) (single e.literal) 0 in
    ⊎_elim
    (λ (k : has here l ≡ true).
    let told = has_chosen (is_open a e) e.literal l k in
    record { effect = e; among = inl refl; literal_is = told.1; still_open = told.0 })
    (λ (k : has (may_come es a) l ≡ true).
    let rest = may_come-has es a l k in
    record { effect = rest.effect; among = inr rest.among; literal_is = rest.literal_is; still_open = rest.still_open })
    (or_cases (has here l) (has (may_come es a) l) (sym (has-or here (may_come es a) l) ∙ h))

pub has-may_come : (es : List Effect) (a : ℕ) (e : Effect) → Among e es → e.literal < 64 → is_open a e ≡ true → has (may_come es a) e.literal ≡ true
unfolding may_come Among
has-may_come [] a e among small h = absurd among
has-may_come (f ∷ es) a e among small h =
    let here = cond (is_open a f) (single f.literal) 0 in
    let l = e.literal in
    has-or here (may_come es a) l
    ∙ ⊎_elim
    (λ (same : e ≡ f).
    or_left (has here l) (has (may_come es a) l)
    (subst (λ (g : Effect). has (cond (is_open a g) (single g.literal) 0) l ≡ true) same (chosen_has (is_open a e) l h small)))
    (λ (k : Among e es). or_right (has here l) (has (may_come es a) l) (has-may_come es a e k small h))
    among

-- a literal does not come just where no effect with it is open
pub none_open : (es : List Effect) (a l : ℕ) → ((e : Effect) → Among e es → e.conditions < 2 ^ 64) → has (may_come es a) l ≡ false → l < 64 → NoneOpen es (λ m. has a m) l
none_open es a l small none below e among same =
    ⊎_elim
    (λ (s : Shut (λ m. has a m) e). s)
    (λ (h : is_open a e ≡ true).
    let inside : e.literal < 64 = rw same below in
    absurd (both_ways (has (may_come es a) l) none (subst (λ m. has (may_come es a) m ≡ true) same (has-may_come es a e among inside h))))
    (shut_or_open a e (small e among))

pub none_open_not : (es : List Effect) (a l : ℕ) → NoneOpen es (λ m. has a m) l → has (may_come es a) l ≡ false
none_open_not es a l none =
    ⊎_elim
    (λ (h : has (may_come es a) l ≡ true).
    let c = may_come-has es a l h in
    absurd (open_not_shut a c.effect c.still_open (none c.effect c.among c.literal_is)))
    (λ (h : has (may_come es a) l ≡ false). h)
    (cases_Bool (has (may_come es a) l))

-- ---- literals that are caused

-- the literals of the effects whose conditions are all facts
unfoldable pub caused-all : List Effect → ℕ → ℕ
caused-all [] a = 0
caused-all (e ∷ es) a = bit_or (caused e a) (caused-all es a)

-- all conditions of an effect with the literal are facts
pub record Caused (es : List Effect) (a l : ℕ) : Type 0 where
  pub effect : Effect
  pub among : Among effect es
  pub literal_is : effect.literal ≡ l
  pub met : (c : ℕ) → has effect.conditions c ≡ true → has a c ≡ true

pub caused-all-has : (es : List Effect) (a l : ℕ) → has (caused-all es a) l ≡ true → Caused es a l
unfolding caused-all Among
caused-all-has [] a l h = absurd (both_ways (has 0 l) (has-empty l) h)
caused-all-has (e ∷ es) a l h =
    ⊎_elim
    (λ (k : has (caused e a) l ≡ true).
    let told = has_chosen (covers a e.conditions) e.literal l k in
    record { effect = e; among = inl refl; literal_is = told.1; met = covers-has a e.conditions told.0 })
    (λ (k : has (caused-all es a) l ≡ true).
    let rest = caused-all-has es a l k in
    record { effect = rest.effect; among = inr rest.among; literal_is = rest.literal_is; met = rest.met })
    (or_cases (has (caused e a) l) (has (caused-all es a) l) (sym (has-or (caused e a) (caused-all es a) l) ∙ h))

pub has-caused-all : (es : List Effect) (a : ℕ) (e : Effect) → Among e es → e.literal < 64 → e.conditions < 2 ^ 64
    → ((c : ℕ) → has e.conditions c ≡ true → has a c ≡ true) → has (caused-all es a) e.literal ≡ true
unfolding caused-all Among
has-caused-all [] a e among below small met = absurd among
has-caused-all (f ∷ es) a e among below small met =
    let l = e.literal in
    has-or (caused f a) (caused-all es a) l
    ∙ ⊎_elim
    (λ (same : e ≡ f).
    or_left (has (caused f a) l) (has (caused-all es a) l)
    (subst (λ (g : Effect). has (caused g a) l ≡ true) same (chosen_has (covers a e.conditions) l (has-covers a e.conditions small met) below)))
    (λ (k : Among e es). or_right (has (caused f a) l) (has (caused-all es a) l) (has-caused-all es a e k below small met))
    among

-- ---- the next moment

-- the facts at the next moment by forward inertia and cause alone
unfoldable pub onward : List Effect → ℕ → ℕ
onward es a = bit_or (without a (opposites (may_come es a))) (caused-all es a)

-- a fact stays: it was one before, and its opposite does not come
pub record Stays (es : List Effect) (a l : ℕ) : Type 0 where
  pub was : has a l ≡ true
  pub unopposed : has (may_come es a) (opposite l) ≡ false

not_true_false : (b : Bool) → not b ≡ true → b ≡ false
not_true_false true h = sym h
not_true_false false h = refl

-- what is a fact at the next moment stays or is caused
pub onward_has : (es : List Effect) (a l : ℕ) → has (onward es a) l ≡ true → Stays es a l ⊎ Caused es a l
unfolding onward
onward_has es a l h =
    let kept = without a (opposites (may_come es a)) in
    let against = has (opposites (may_come es a)) l in
    ⊎_elim
    (λ (k : has kept l ≡ true).
    let parts = and_parts (has a l) (not against) (sym (has-without a (opposites (may_come es a)) l) ∙ k) in
    inl (record { was = parts.0; unopposed = sym (has-opposites (may_come es a) l) ∙ not_true_false against parts.1 }))
    (λ (k : has (caused-all es a) l ≡ true). inr (caused-all-has es a l k))
    (or_cases (has kept l) (has (caused-all es a) l) (sym (has-or kept (caused-all es a) l) ∙ h))

pub stays_onward : (es : List Effect) (a l : ℕ) → Stays es a l → has (onward es a) l ≡ true
unfolding onward
stays_onward es a l s =
    let kept = without a (opposites (may_come es a)) in
    let against = has (opposites (may_come es a)) l in
    let clear : against ≡ false = has-opposites (may_come es a) l ∙ s.unopposed in
    has-or kept (caused-all es a) l
    ∙ or_left (has kept l) (has (caused-all es a) l)
    (has-without a (opposites (may_come es a)) l ∙ and_from (has a l) (not against) s.was (not_from_false against clear))

pub caused_onward : (es : List Effect) (a l : ℕ) → has (caused-all es a) l ≡ true → has (onward es a) l ≡ true
unfolding onward
caused_onward es a l h =
    let kept = without a (opposites (may_come es a)) in
    has-or kept (caused-all es a) l ∙ or_right (has kept l) (has (caused-all es a) l) h

-- of the conditions of which all but c are facts, one with its opposite among the facts is c
left_opposed : (a s m c : ℕ) → NoClash a → has s m ≡ true → has a (opposite m) ≡ true → ((n : ℕ) → has s n ≡ true → n ≢ c → has a n ≡ true) → has a (opposite c) ≡ true
left_opposed a s m c calm member opposed others =
    ⊎_elim
    (λ (same : m ≡ c). subst (λ n. has a (opposite n) ≡ true) same opposed)
    (λ (ne : m ≡ c → ⊥). absurd (calm m (others m member ne) opposed))
    (cases_eq m c)

module _ (F : ℕ) (es : List Effect) (few : F ≤ 32) (x : Exclusive F es) (a : ℕ) (calm : NoClash a) where
  below_64 : (e : Effect) → Among e es → e.literal < 64
  below_64 e among = omega (arith, x.literal_known e among)

  -- a literal that is caused may come
  caused_comes : (l : ℕ) → Caused es a l → has (may_come es a) l ≡ true
  caused_comes l c =
      let e = c.effect in
      subst (λ m. has (may_come es a) m ≡ true) c.literal_is
      (has-may_come es a e c.among (below_64 e c.among) (met_open a e calm (x.small e c.among) c.met))

  -- no rule between the two moments adds to the facts
  pub onward_between : Between es (λ l. has a l) (λ l. has (onward es a) l) (λ l. has a l) (λ l. has (onward es a) l)
  onward_between = record { forward = forward; backward = backward; cause = cause; positive = positive; negative = negative }
    where
      forward : (l : ℕ) → has a l ≡ true → NoneOpen es (λ m. has a m) (opposite l) → has (onward es a) l ≡ true
      forward l h none = stays_onward es a l (record { was = h; unopposed = none_open_not es a (opposite l) none })

      backward : (l : ℕ) → has (onward es a) l ≡ true → NoneOpen es (λ m. has a m) l → has a l ≡ true
      backward l h none =
          ⊎_elim
          (λ (s : Stays es a l). s.was)
          (λ (c : Caused es a l). absurd (both_ways (has (may_come es a) l) (none_open_not es a l none) (caused_comes l c)))
          (onward_has es a l h)

      cause : (e : Effect) → Among e es → ((c : ℕ) → has e.conditions c ≡ true → has a c ≡ true) → has (onward es a) e.literal ≡ true
      cause e among met = caused_onward es a e.literal (has-caused-all es a e among (below_64 e among) (x.small e among) met)

      positive : (e : Effect) → Among e es → has (onward es a) e.literal ≡ true → has a (opposite e.literal) ≡ true
          → (c : ℕ) → has e.conditions c ≡ true → has a c ≡ true
      positive e among h was-not c member =
          ⊎_elim
          (λ (s : Stays es a e.literal). absurd (calm e.literal s.was was-not))
          (λ (f : Caused es a e.literal).
          let same : f.effect ≡ e = x.one f.effect e f.among among f.literal_is in
          f.met c (subst (λ (g : Effect). has g.conditions c ≡ true) (sym same) member))
          (onward_has es a e.literal h)

      negative : (e : Effect) → Among e es → has (onward es a) (opposite e.literal) ≡ true
          → (c : ℕ) → has e.conditions c ≡ true → ((m : ℕ) → has e.conditions m ≡ true → m ≢ c → has a m ≡ true) → has a (opposite c) ≡ true
      negative e among h c member others =
          let l = e.literal in
          ⊎_elim
          (λ (s : Stays es a (opposite l)).
          let clear : has (may_come es a) l ≡ false = subst (λ m. has (may_come es a) m ≡ false) (opposite-opposite l) s.unopposed in
          let shut = none_open es a l x.small clear (below_64 e among) e among refl in
          left_opposed a e.conditions shut.condition c calm shut.member shut.opposed others)
          (λ (f : Caused es a (opposite l)).
          let against : l ≡ opposite f.effect.literal = sym (opposite-opposite l) ∙ ap (λ n. opposite n) (sym f.literal_is) in
          let apart = x.apart e f.effect among f.among against in
          left_opposed a e.conditions apart.condition c calm apart.here (f.met (opposite apart.condition) apart.there) others)
          (onward_has es a (opposite l) h)

  -- nothing clashes at the next moment
  pub onward_no_clash : (l : ℕ) → has (onward es a) l ≡ true → has (onward es a) (opposite l) ≡ true → ⊥
  onward_no_clash l h k =
      ⊎_elim
      (λ (s : Stays es a l).
      ⊎_elim
      (λ (r : Stays es a (opposite l)). calm l s.was r.was)
      (λ (d : Caused es a (opposite l)). both_ways (has (may_come es a) (opposite l)) s.unopposed (caused_comes (opposite l) d))
      (onward_has es a (opposite l) k))
      (λ (c : Caused es a l).
      ⊎_elim
      (λ (r : Stays es a (opposite l)).
      let clear : has (may_come es a) l ≡ false = subst (λ m. has (may_come es a) m ≡ false) (opposite-opposite l) r.unopposed in
      both_ways (has (may_come es a) l) clear (caused_comes l c))
      (λ (d : Caused es a (opposite l)).
      let against : c.effect.literal ≡ opposite d.effect.literal = c.literal_is ∙ sym (opposite-opposite l) ∙ ap (λ n. opposite n) (sym d.literal_is) in
      let apart = x.apart c.effect d.effect c.among d.among against in
      calm apart.condition (c.met apart.condition apart.here) (d.met (opposite apart.condition) apart.there))
      (onward_has es a (opposite l) k))
      (onward_has es a l h)

  -- the facts at the next moment are of the same fluents
  pub onward_known : ((l : ℕ) → has a l ≡ true → fluent l < F) → (l : ℕ) → has (onward es a) l ≡ true → fluent l < F
  onward_known known l h =
      ⊎_elim
      (λ (s : Stays es a l). known l s.was)
      (λ (c : Caused es a l). subst (λ m. fluent m < F) c.literal_is (x.literal_known c.effect c.among))
      (onward_has es a l h)
