-- What becomes of the least table of a question with one order or look more. Assumes nothing.
use Rattle.std.proofs.Common.{◌≡◌, ℕ, suc, ◌<◌, ◌≤◌, true, false, cond, eqb, ltb, List, [], ◌∷◌, get_or, sym, refl, ap, ◌∙◌, subst, ⊎_elim, arith}
use Rattle.std.proofs.lemmas.List.{length-append, get_or_append_left}
use Rattle.std.proofs.lemmas.Bool.{cases_eq, cases_lt, and_parts, and_from, both_ways, eq-eqb, ne_eqb, lt-ltb, le-ltb}
use Rattle.literals.specs.Literals.{opposite, has}
use Rattle.literals.specs.Tables.{shows}
use Rattle.domain.specs.Accessors.{effects_of}
use Rattle.domain.specs.Sheet.{lawful}
use Rattle.domain.specs.declared.action.Effect.{Effect}
use Rattle.knowledge.specs.Questions.{Question, latest, in_reach, counts}
use Rattle.knowledge.specs.Reasoning.{one_more}
use Rattle.knowledge.specs.Rules.{Facts, Between, effects_at, Closed}
use Rattle.knowledge.proofs.Clashing.{Clashes}
use Rattle.knowledge.proofs.Lawful.{exclusive, fluents_few}
use Rattle.knowledge.proofs.Least.{Least}
use Rattle.knowledge.proofs.LeftOver.{one_of_mono}
use Rattle.knowledge.proofs.Onward.{NoClash, onward, onward_between, onward_no_clash}
use Rattle.knowledge.proofs.Pairs.{between_mono}
use Rattle.knowledge.proofs.Reach.{reached, reach_early, reach_fluent}

-- ---- one order or look more

module _ (q : Question) (a : ℕ) where
  pub latest_more : latest (one_more q a) ≡ suc (latest q)
  latest_more = omega (arith, length-append q.orders (a ∷ []))

  pub effects_before : (t : ℕ) → t < latest q → effects_at (one_more q a) t ≡ effects_at q t
  effects_before t inside = ap (effects_of q.sheet) (get_or_append_left q.orders (a ∷ []) 0 t inside)

  pub reach_more : (t l : ℕ) → in_reach q t l ≡ true → in_reach (one_more q a) t l ≡ true
  reach_more t l h = reached (one_more q a) t l (omega (arith, reach_early q t l h, latest_more)) (reach_fluent q t l h)

  pub reach_less : (t l : ℕ) → t ≤ latest q → in_reach (one_more q a) t l ≡ true → in_reach q t l ≡ true
  reach_less t l early h = reached q t l early (reach_fluent (one_more q a) t l h)

  -- what is closed for the longer question is closed for the shorter
  pub shorter_closed : (k : Facts) → Closed (one_more q a) k → Closed q k
  shorter_closed k closed =
      record {
        initially = closed.initially;
        as_told = λ t l h.
            let parts = and_parts (shows q.told t l) (in_reach q t l) h in
            closed.as_told t l (and_from (shows q.told t l) (in_reach (one_more q a) t l) parts.0 (reach_more t l parts.1));
        one_of = closed.one_of;
        between = λ t inside.
            subst (λ (es : List Effect). Between es (k t) (k (suc t)) (k t) (k (suc t))) (effects_before t inside) (closed.between t (omega (arith, inside, latest_more)));
      }

-- ---- a table up to a moment, and a set at the next

abbrev pub extended : List ℕ → ℕ → ℕ → Facts
extended sets b n t l = cond (ltb t (suc n)) (shows sets t l) (cond (eqb t (suc n)) (has b l) false)

module _ (sets : List ℕ) (b n : ℕ) where
  pub extended_early : (t l : ℕ) → t ≤ n → extended sets b n t l ≡ shows sets t l
  extended_early t l early = let h : ltb t (suc n) ≡ true = lt-ltb t (suc n) (omega arith) in rw h refl

  pub extended_next : (l : ℕ) → extended sets b n (suc n) l ≡ has b l
  extended_next l =
      let late : ltb (suc n) (suc n) ≡ false = le-ltb (suc n) (suc n) (omega arith) in
      let same : eqb (suc n) (suc n) ≡ true = eq-eqb (suc n) (suc n) refl in
      rw (late, same) refl

  pub extended_late : (t l : ℕ) → suc n < t → extended sets b n t l ≡ false
  extended_late t l after =
      let late : ltb t (suc n) ≡ false = le-ltb t (suc n) (omega arith) in
      let other : eqb t (suc n) ≡ false = ne_eqb t (suc n) (omega arith) in
      rw (late, other) refl

-- ---- the least table without a clash, extended by what inertia and cause give

module _ (q : Question) (a : ℕ) (ok : lawful q.sheet ≡ true) (sets : List ℕ) (r : Least q sets) (calm : Clashes sets → ⊥)
    (untold : (t l : ℕ) → latest q < t → shows q.told t l ≡ false) where
  abbrev last_set : ℕ
  last_set = get_or sets (latest q) 0

  abbrev new_effects : List Effect
  new_effects = effects_at (one_more q a) (latest q)

  abbrev next-set : ℕ
  next-set = onward new_effects last_set

  abbrev longer : Facts
  longer = extended sets next-set (latest q)

  calm_last : NoClash last_set
  calm_last l h k = calm (record { moment = latest q; literal = l; here = h; opposed = k })

  early : (t l : ℕ) → t ≤ latest q → longer t l ≡ shows sets t l
  early t l h = extended_early sets next-set (latest q) t l h

  longer_told : (t l : ℕ) → counts (one_more q a) t l ≡ true → longer t l ≡ true
  longer_told t l h =
      let parts = and_parts (shows q.told t l) (in_reach (one_more q a) t l) h in
      ⊎_elim
      (λ (late : latest q < t). absurd (both_ways (shows q.told t l) (untold t l late) parts.0))
      (λ (soon : t ≤ latest q).
      early t l soon ∙ r.closed.as_told t l (and_from (shows q.told t l) (in_reach q t l) parts.0 (reach_less q a t l soon parts.1)))
      (cases_lt (latest q) t)

  longer_before : (t : ℕ) → t < latest q → Between (effects_at q t) (longer t) (longer (suc t)) (longer t) (longer (suc t))
  longer_before t inside =
      let now : (l : ℕ) → longer t l ≡ shows sets t l = λ l. early t l (omega (arith, inside)) in
      let next : (l : ℕ) → longer (suc t) l ≡ shows sets (suc t) l = λ l. early (suc t) l (omega (arith, inside)) in
      between_mono (r.closed.between t inside) (λ l h. sym (now l) ∙ h) (λ l h. sym (next l) ∙ h) (λ l h. now l ∙ h) (λ l h. next l ∙ h)

  longer_last : Between new_effects (longer (latest q)) (longer (suc (latest q))) (longer (latest q)) (longer (suc (latest q)))
  longer_last =
      let now : (l : ℕ) → longer (latest q) l ≡ has last_set l = λ l. early (latest q) l (omega arith) in
      let next : (l : ℕ) → longer (suc (latest q)) l ≡ has next-set l = extended_next sets next-set (latest q) in
      let few = (fluents_few q.sheet ok).1 in
      let ex = exclusive q.sheet (get_or (one_more q a).orders (latest q) 0) ok in
      between_mono (onward_between q.sheet.fluents new_effects few ex last_set calm_last) (λ l h. sym (now l) ∙ h) (λ l h. sym (next l) ∙ h) (λ l h. now l ∙ h) (λ l h. next l ∙ h)

  -- these facts are closed for the longer question
  pub longer_closed : Closed (one_more q a) longer
  longer_closed =
      record {
        initially = λ l member. early 0 l (omega arith) ∙ r.closed.initially l member;
        as_told = longer_told;
        one_of = λ g among. one_of_mono (r.closed.one_of g among) (λ l h. sym (early 0 l (omega arith)) ∙ h) (λ l h. early 0 l (omega arith) ∙ h);
        between = λ t inside.
            ⊎_elim
            (λ (same : t ≡ latest q). subst (λ u. Between (effects_at (one_more q a) u) (longer u) (longer (suc u)) (longer u) (longer (suc u))) (sym same) longer_last)
            (λ (differs : t ≡ latest q → ⊥).
            let before : t < latest q = omega (arith, inside, differs, latest_more q a) in
            subst (λ (es : List Effect). Between es (longer t) (longer (suc t)) (longer t) (longer (suc t))) (sym (effects_before q a t before)) (longer_before t before))
            (cases_eq t (latest q));
      }

  -- and have no clash
  pub longer_calm : (t l : ℕ) → longer t l ≡ true → longer t (opposite l) ≡ true → ⊥
  longer_calm t l h k =
      ⊎_elim
      (λ (late : latest q < t).
      ⊎_elim
      (λ (same : t ≡ suc (latest q)).
      let next : (m : ℕ) → longer t m ≡ has next-set m = λ m. rw same (extended_next sets next-set (latest q) m) in
      onward_no_clash q.sheet.fluents new_effects (fluents_few q.sheet ok).1 (exclusive q.sheet (get_or (one_more q a).orders (latest q) 0) ok) last_set calm_last
      l (sym (next l) ∙ h) (sym (next (opposite l)) ∙ k))
      (λ (differs : t ≡ suc (latest q) → ⊥). both_ways (longer t l) (extended_late sets next-set (latest q) t l (omega (arith, late, differs))) h)
      (cases_eq t (suc (latest q))))
      (λ (soon : t ≤ latest q). calm (record { moment = t; literal = l; here = sym (early t l soon) ∙ h; opposed = sym (early t (opposite l) soon) ∙ k }))
      (cases_lt (latest q) t)

  -- so the longer question's least table has no clash, and shows up to the old now no more than the shorter's
  pub more_calm : (more : List ℕ) → Least (one_more q a) more → Clashes more → ⊥
  more_calm more s c =
      let inside : (l : ℕ) → shows more c.moment l ≡ true → longer c.moment l ≡ true = λ l h. s.least longer longer_closed c.moment l h in
      longer_calm c.moment c.literal (inside c.literal c.here) (inside (opposite c.literal) c.opposed)

  pub more_shown : (more : List ℕ) → Least (one_more q a) more → (t l : ℕ) → t ≤ latest q → shows more t l ≡ true → shows sets t l ≡ true
  more_shown more s t l soon h = sym (early t l soon) ∙ s.least longer longer_closed t l h

-- and it shows no less
pub less_shown : (q : Question) (a : ℕ) (sets more : List ℕ) → Least q sets → Least (one_more q a) more → (t l : ℕ) → shows sets t l ≡ true → shows more t l ≡ true
less_shown q a sets more r s t l h = r.least (λ u m. shows more u m) (shorter_closed q a (λ u m. shows more u m) s.closed) t l h
