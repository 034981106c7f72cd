-- Trying every state leaves just what is true in every agreeing world. Assumes nothing.
use Rattle.std.proofs.Common.{◌≡◌, ℕ, zero, suc, ◌+◌, ◌*◌, ◌<◌, Bool, true, false, cond, eqb, List, length, sym, refl, ap, ◌∙◌, subst, ⊎_elim, arith}
use Rattle.std.proofs.lemmas.Bool.{cases_Bool, and_parts, and_from, eq-eqb, ne_eqb, both_ways}
use Rattle.literals.specs.Literals.{opposite, with}
use Rattle.literals.specs.Tables.{shows, full}
use Rattle.literals.proofs.Laws.{length-common, shows-common, common_sets, length-full, full_sets, same_facts}
use Rattle.knowledge.specs.AllWorlds.{trace, agrees, narrowed, narrowed_all, in_all_worlds, ShowsTrue}
use Rattle.knowledge.specs.Questions.{Question, latest, in_reach, true_at, Agrees, IsTable, Askable}
use Rattle.knowledge.specs.Worlds.{State, after}
use Rattle.knowledge.proofs.HistoryLaws.{first_reach, second_reach}
use Rattle.knowledge.proofs.Lawful.{fluents_few}
use Rattle.knowledge.proofs.Moving.{not_both}
use Rattle.knowledge.proofs.Reach.{reach_full, full_reach}
use Rattle.knowledge.proofs.States.{same_tests, Stands, complete, complete_same, complete_stands}
use Rattle.knowledge.proofs.Traces.{trace_long, trace_true, agrees_world, world_agrees}

-- ---- tables narrowed by worlds

module _ (q : Question) where
  -- if a set starts an agreeing world, the fact is in its trace
  abbrev pub InTrace : ℕ → ℕ → ℕ → Type 0
  InTrace t l w = agrees q w ≡ true → shows (trace q w) t l ≡ true

  module _ (w : ℕ) (sets : List ℕ) (table : IsTable sets) where
    same_long : length sets ≡ length (trace q w)
    same_long = table.long ∙ sym (trace_long q w)

    narrowed_table : IsTable (narrowed q w sets)
    narrowed_table =
        ⊎_elim
        (λ (h : agrees q w ≡ true). rw h (record { long = length-common sets (trace q w) same_long ∙ table.long; small = common_sets sets (trace q w) same_long table.small }))
        (λ (h : agrees q w ≡ false). rw h table)
        (cases_Bool (agrees q w))

    module _ (t l : ℕ) where
      narrowed_only : shows (narrowed q w sets) t l ≡ true → (shows sets t l ≡ true) × InTrace t l w
      narrowed_only =
          ⊎_elim
          (λ (h : agrees q w ≡ true). rw h
          (λ k. let parts = and_parts (shows sets t l) (shows (trace q w) t l) (sym (shows-common sets (trace q w) same_long t l) ∙ k) in (parts.0, λ _. parts.1)))
          (λ (h : agrees q w ≡ false). rw h (λ k. (k, λ j. absurd (both_ways false refl j))))
          (cases_Bool (agrees q w))

      narrowed-each : shows sets t l ≡ true → InTrace t l w → shows (narrowed q w sets) t l ≡ true
      narrowed-each k there =
          ⊎_elim
          (λ (h : agrees q w ≡ true). rw h (shows-common sets (trace q w) same_long t l ∙ and_from (shows sets t l) (shows (trace q w) t l) k (there h)))
          (λ (h : agrees q w ≡ false). rw h k)
          (cases_Bool (agrees q w))

  pub narrowed_all_table : (k w : ℕ) (sets : List ℕ) → IsTable sets → IsTable (narrowed_all q k w sets)
  unfolding narrowed_all
  narrowed_all_table zero w sets table = narrowed_table w sets table
  narrowed_all_table (suc k) w sets table = narrowed_all_table k (with w (2 * k + 1)) _ (narrowed_all_table k (with w (2 * k)) sets table)

  -- what is left was there, and is in the trace of every agreeing state
  pub narrowed_all_only : (k w : ℕ) (sets : List ℕ) → IsTable sets → (t l : ℕ) → shows (narrowed_all q k w sets) t l ≡ true
      → (shows sets t l ≡ true) × ((s : State) → InTrace t l (complete k s w))
  unfolding narrowed_all complete
  narrowed_all_only zero w sets table t l h = let only = narrowed_only w sets table t l h in (only.0, λ s. only.1)
  narrowed_all_only (suc k) w sets table t l h =
      let one = with w (2 * k + 1) in
      let none = with w (2 * k) in
      let first = narrowed_all_only k one (narrowed_all q k none sets) (narrowed_all_table k none sets table) t l h in
      let second = narrowed_all_only k none sets table t l first.0 in (
        second.0,
        λ s.
            ⊎_elim
            (λ (is : s k ≡ true). subst (λ b. InTrace t l (complete k s (with w (cond b (2 * k + 1) (2 * k))))) (sym is) (first.1 s))
            (λ (is : s k ≡ false). subst (λ b. InTrace t l (complete k s (with w (cond b (2 * k + 1) (2 * k))))) (sym is) (second.1 s))
            (cases_Bool (s k)),
      )

  -- and what was there and is in the trace of every agreeing state is left
  pub narrowed_all-each : (k w : ℕ) (sets : List ℕ) → IsTable sets → (t l : ℕ) → shows sets t l ≡ true → ((s : State) → InTrace t l (complete k s w))
      → shows (narrowed_all q k w sets) t l ≡ true
  unfolding narrowed_all complete
  narrowed_all-each zero w sets table t l h every = narrowed-each w sets table t l h (every (λ _. true))
  narrowed_all-each (suc k) w sets table t l h every =
      let one = with w (2 * k + 1) in
      let none = with w (2 * k) in
      narrowed_all-each k one (narrowed_all q k none sets) (narrowed_all_table k none sets table) t l
      (narrowed_all-each k none sets table t l h (λ s. as_given s false)) (λ s. as_given s true)
    where
      -- a state with another value of the fluent
      as_given : (s : State) (b : Bool) → InTrace t l (complete k s (with w (cond b (2 * k + 1) (2 * k))))
      as_given s b =
          let r : State = λ f. cond (eqb f k) b (s f) in
          let here : r k ≡ b = ap (λ x. cond x b (s k)) (eq-eqb k k refl) in
          let below : (f : ℕ) → f < k → r f ≡ s f = λ f low. ap (λ x. cond x b (s f)) (ne_eqb f k (λ same. omega (arith, same, low))) in
          subst (InTrace t l)
          (ap (λ x. complete k r (with w (cond x (2 * k + 1) (2 * k)))) here ∙ complete_same k r s (with w (cond b (2 * k + 1) (2 * k))) below)
          (every r)

-- ---- what is true in all worlds that agree

full_table : (F last : ℕ) → IsTable (full F last)
full_table F last = record { long = length-full F last; small = full_sets F last }

pub in_all_worlds_table : (q : Question) → IsTable (in_all_worlds q)
unfolding in_all_worlds
in_all_worlds_table q = narrowed_all_table q q.sheet.fluents 0 (full q.sheet.fluents (latest q)) (full_table q.sheet.fluents (latest q))

module _ (q : Question) (asked : Askable q) where
  abbrev F : ℕ
  F = q.sheet.fluents

  stands : (s : State) → Stands F (complete F s 0) s
  stands s = complete_stands F s (fluents_few q.sheet asked.lawful_sheet).1

  no_more_shown : (t l : ℕ) → shows (in_all_worlds q) t l ≡ true → (in_reach q t l ≡ true) × ((s : State) → Agrees q s → true_at q s t l ≡ true)
  unfolding in_all_worlds
  no_more_shown t l h =
      let only = narrowed_all_only q F 0 (full F (latest q)) (full_table F (latest q)) t l h in
      let within = full_reach q asked t l only.0 in
      (within, λ s a. sym (trace_true q asked (complete F s 0) s (stands s) t l within) ∙ only.1 s (world_agrees q asked (complete F s 0) s (stands s) a))

  no_less_shown : (t l : ℕ) → in_reach q t l ≡ true → ((s : State) → Agrees q s → true_at q s t l ≡ true) → shows (in_all_worlds q) t l ≡ true
  unfolding in_all_worlds
  no_less_shown t l within every =
      narrowed_all-each q F 0 (full F (latest q)) (full_table F (latest q)) t l (reach_full q asked t l within)
      (λ s a. trace_true q asked (complete F s 0) s (stands s) t l within ∙ every s (agrees_world q asked (complete F s 0) s (stands s) a))

  full_where_none : ((s : State) → Agrees q s → ⊥) → in_all_worlds q ≡ full F (latest q)
  full_where_none none =
      let table = in_all_worlds_table q in
      same_facts (in_all_worlds q) (full F (latest q)) (table.long ∙ sym (length-full F (latest q))) table.small (full_sets F (latest q))
      (λ t l.
      same_tests (shows (in_all_worlds q) t l) (shows (full F (latest q)) t l)
      (λ h. reach_full q asked t l (no_more_shown t l h).0)
      (λ h. no_less_shown t l (full_reach q asked t l h) (λ s a. absurd (none s a))))

  none_where_full : in_all_worlds q ≡ full F (latest q) → (s : State) → Agrees q s → ⊥
  none_where_full is_full s a =
      let true_there : (l : ℕ) → in_reach q 0 l ≡ true → true_at q s 0 l ≡ true = λ l within.
      (no_more_shown 0 l (ap (λ sets. shows sets 0 l) is_full ∙ reach_full q asked 0 l within)).1 s a in
      not_both (after q.sheet q.orders s 0) 0 (true_there 0 (first_reach q asked)) (true_there (opposite 0) (second_reach q asked))

-- the world reasoner shows exactly what is true in every agreeing world
pub shows_true : (q : Question) → Askable q → ShowsTrue q (in_all_worlds q)
shows_true q asked =
    record { no_more = no_more_shown q asked; no_less = no_less_shown q asked; none_agrees = full_where_none q asked; if_full = none_where_full q asked }
