-- The sets of a world at all moments, and which sets start worlds that agree. Assumes nothing.
use Rattle.std.proofs.Common.{◌≡◌, ℕ, zero, suc, ◌+◌, ◌^◌, ◌<◌, ◌≤◌, true, false, eqb, ltb, ◌≢◌, List, [], ◌∷◌, length, get_or, set, sym, refl, ap, ◌∙◌, subst, inl, inr, ⊎_elim, arith}
use lib.Bits.{bit_and}
use lib.Count.{ones, count_trailing_zeros}
use Rattle.std.proofs.lemmas.List.{length-set, get_or-set_same, get_or-set_other}
use Rattle.std.proofs.lemmas.Bool.{cases_eq, cases_lt, and_parts, and_from, both_ways, eq-eqb, eqb-true, lt-ltb, ltb-true}
use Rattle.literals.specs.Literals.{fluent, has, covers, all, literal_at}
use Rattle.literals.specs.Tables.{shows, empty}
use Rattle.literals.proofs.Laws.{has-and, has_all, has_below, and_below, covers-has, has-covers, ones_has, has_ones, length-empty, empty_sets, shows-empty}
use Rattle.domain.specs.Accessors.{effects_of}
use Rattle.domain.specs.Sheet.{Sheet, each, lawful}
use Rattle.knowledge.specs.AllWorlds.{moved, traced, trace, one_true, is_world, tells_true, agrees}
use Rattle.knowledge.specs.Questions.{Question, latest, in_reach, counts, true_at, Agrees, IsTable, Askable}
use Rattle.knowledge.specs.Worlds.{State, holds, after, Among, OneTrue, World}
use Rattle.knowledge.proofs.Lawful.{exclusive, fluents_few, initial_known, initial_small, groups_known, groups_small}
use Rattle.knowledge.proofs.Reach.{reached, reach_early, reach_fluent}
use Rattle.knowledge.proofs.Sound.{after_none, after-step}
use Rattle.knowledge.proofs.States.{same_tests, Stands, stands_true, moved_below, moved_stands}
use Rattle.knowledge.proofs.Turns.{put_table}

-- ---- traces are tables

traced_table : (d : Sheet) (orders : List ℕ) (n t w : ℕ) (sets : List ℕ) → w < 2 ^ 64 → IsTable sets → IsTable (traced d orders n t w sets)
unfolding traced
traced_table d orders zero t w sets small table = put_table sets t w table small
traced_table d orders (suc n) t w sets small table =
    traced_table d orders n (suc t) _ (set sets t w) (moved_below (effects_of d (get_or orders t 0)) w small) (put_table sets t w table small)

pub traced_long : (d : Sheet) (orders : List ℕ) (n t w : ℕ) (sets : List ℕ) → length (traced d orders n t w sets) ≡ length sets
unfolding traced
traced_long d orders zero t w sets = length-set sets t w
traced_long d orders (suc n) t w sets = traced_long d orders n (suc t) _ (set sets t w) ∙ length-set sets t w

pub trace_table : (q : Question) (w : ℕ) → w < 2 ^ 64 → IsTable (trace q w)
trace_table q w small = traced_table q.sheet q.orders (latest q) 0 w empty small (record { long = length-empty; small = empty_sets })

pub trace_long : (q : Question) (w : ℕ) → length (trace q w) ≡ 33
trace_long q w = traced_long q.sheet q.orders (latest q) 0 w empty ∙ length-empty

-- ---- each set of a trace stands for the state at its moment

traced_other : (d : Sheet) (orders : List ℕ) (n t w : ℕ) (sets : List ℕ) (u : ℕ) → (t ≤ u → u ≤ t + n → ⊥) → get_or (traced d orders n t w sets) u 0 ≡ get_or sets u 0
unfolding traced
traced_other d orders zero t w sets u outside = get_or-set_other sets t u w 0 (λ same. outside (omega (arith, same)) (omega (arith, same)))
traced_other d orders (suc n) t w sets u outside =
    traced_other d orders n (suc t) _ (set sets t w) u (λ from to. outside (omega (arith, from)) (omega (arith, to)))
    ∙ get_or-set_other sets t u w 0 (λ same. outside (omega (arith, same)) (omega (arith, same)))

module _ (d : Sheet) (ok : lawful d ≡ true) (orders : List ℕ) (s : State) where
  traced_stands : (n t w : ℕ) (sets : List ℕ) → t + n ≤ length orders → t + n < length sets → Stands d.fluents w (after d orders s t)
      → (u : ℕ) → t ≤ u → u ≤ t + n → Stands d.fluents (get_or (traced d orders n t w sets) u 0) (after d orders s u)
  unfolding traced
  traced_stands zero t w sets end inside st u from to =
      let same : u ≡ t = omega (arith, from, to) in
      rw (same, get_or-set_same sets t w 0 (omega (arith, inside))) st
  traced_stands (suc n) t w sets end inside st u from to =
      let es = effects_of d (get_or orders t 0) in
      ⊎_elim
      (λ (same : u ≡ t).
      let here : get_or (traced d orders n (suc t) (moved es w) (set sets t w)) t 0 ≡ w =
      traced_other d orders n (suc t) (moved es w) (set sets t w) t (λ early late. omega (arith, early)) ∙ get_or-set_same sets t w 0 (omega (arith, inside)) in
      rw (same, here) st)
      (λ (differs : u ≡ t → ⊥).
      let apart : u ≢ t = differs in
      let later : Stands d.fluents (moved es w) (after d orders s (suc t)) =
      rw (after-step d orders s t (omega (arith, end))) (moved_stands d.fluents es (fluents_few d ok).1 (exclusive d (get_or orders t 0) ok) w (after d orders s t) st) in
      traced_stands n (suc t) (moved es w) (set sets t w) (omega (arith, end)) (omega (arith, inside, length-set sets t w)) later u (omega (arith, from, apart)) (omega (arith, to)))
      (cases_eq u t)

module _ (q : Question) (asked : Askable q) (w : ℕ) (s : State) (st : Stands q.sheet.fluents w s) where
  pub trace_stands : (t : ℕ) → t ≤ latest q → Stands q.sheet.fluents (get_or (trace q w) t 0) (after q.sheet q.orders s t)
  trace_stands t early =
      traced_stands q.sheet asked.lawful_sheet q.orders s (latest q) 0 w empty (omega arith) (omega (arith, length-empty, asked.few))
      (rw (after_none q.sheet q.orders s) st) t (omega arith) (omega (arith, early))

  pub trace_late : (t l : ℕ) → latest q < t → shows (trace q w) t l ≡ false
  trace_late t l late = ap (λ x. has x l) (traced_other q.sheet q.orders (latest q) 0 w empty t (λ from to. omega (arith, to, late))) ∙ shows-empty t l

  -- a trace shows just what is true, and in reach
  pub trace_reach : (t l : ℕ) → shows (trace q w) t l ≡ true → in_reach q t l ≡ true
  trace_reach t l h =
      ⊎_elim
      (λ (late : latest q < t). absurd (both_ways _ (trace_late t l late) h))
      (λ (early : t ≤ latest q). reached q t l early ((trace_stands t early).known l h))
      (cases_lt (latest q) t)

  pub trace_true : (t l : ℕ) → in_reach q t l ≡ true → shows (trace q w) t l ≡ true_at q s t l
  trace_true t l h = (trace_stands t (reach_early q t l h)).true_in l (reach_fluent q t l h)

-- ---- states of worlds at moment 0

module _ (F w : ℕ) (s : State) (st : Stands F w s) where
  module _ (g : ℕ) (small : g < 2 ^ 64) (known : (l : ℕ) → has g l ≡ true → fluent l < F) where
    true_member : (l : ℕ) → has g l ≡ true → holds s l ≡ true → has (bit_and g w) l ≡ true
    true_member l member h = has-and g w l ∙ and_from (has g l) (has w l) member (st.true_in l (known l member) ∙ h)

    member_true : (l : ℕ) → has (bit_and g w) l ≡ true → (has g l ≡ true) × (holds s l ≡ true)
    member_true l h =
        let parts = and_parts (has g l) (has w l) (sym (has-and g w l) ∙ h) in
        (parts.0, stands_true F w s st l parts.1)

    -- exactly one literal of a group is true
    one_is_true : one_true w g ≡ true → OneTrue s g
    one_is_true h =
        let m = literal_at (count_trailing_zeros 64 (bit_and g w)) in
        let only : (l : ℕ) → has (bit_and g w) l ≡ eqb l m = ones_has (bit_and g w) (and_below g w small) (eqb-true (ones (bit_and g w)) 1 h) in
        let there = member_true m (only m ∙ eq-eqb m m refl) in
        record { which = m; member = there.0; true_there = there.1; no_other = λ l member k. eqb-true l m (sym (only l) ∙ true_member l member k) }

    true_is_one : OneTrue s g → one_true w g ≡ true
    true_is_one one =
        let m = one.which in
        eq-eqb (ones (bit_and g w)) 1
        (has_ones (bit_and g w) m (and_below g w small) (has_below g m one.member)
        (λ l. same_tests (has (bit_and g w) l) (eqb l m)
        (λ h. let parts = member_true l h in eq-eqb l m (one.no_other l parts.0 parts.1))
        (λ h. ap (has (bit_and g w)) (eqb-true l m h) ∙ true_member m one.member one.true_there)))

  all_are_true : (gs : List ℕ) → ((g : ℕ) → Among g gs → g < 2 ^ 64) → ((g l : ℕ) → Among g gs → has g l ≡ true → fluent l < F)
      → each (one_true w) gs ≡ true → (g : ℕ) → Among g gs → OneTrue s g
  unfolding Among
  all_are_true [] small known h g there = absurd there
  all_are_true (x ∷ gs) small known h g there =
      let parts = and_parts (one_true w x) (each (one_true w) gs) h in
      ⊎_elim
      (λ (same : g ≡ x). subst (OneTrue s) (sym same) (one_is_true x (small x (inl refl)) (λ l. known x l (inl refl)) parts.0))
      (λ (later : Among g gs). all_are_true gs (λ y k. small y (inr k)) (λ y l k. known y l (inr k)) parts.1 g later)
      there

  true_are_all : (gs : List ℕ) → ((g : ℕ) → Among g gs → g < 2 ^ 64) → ((g l : ℕ) → Among g gs → has g l ≡ true → fluent l < F)
      → ((g : ℕ) → Among g gs → OneTrue s g) → each (one_true w) gs ≡ true
  unfolding Among
  true_are_all [] small known every = refl
  true_are_all (x ∷ gs) small known every =
      and_from (one_true w x) (each (one_true w) gs)
      (true_is_one x (small x (inl refl)) (λ l. known x l (inl refl)) (every x (inl refl)))
      (true_are_all gs (λ y k. small y (inr k)) (λ y l k. known y l (inr k)) (λ y k. every y (inr k)))

module _ (d : Sheet) (ok : lawful d ≡ true) (w : ℕ) (s : State) (st : Stands d.fluents w s) where
  pub is_world_world : is_world d w ≡ true → World d s
  is_world_world h =
      let parts = and_parts (covers w d.initial) (each (one_true w) d.groups) h in
      record {
        initially = λ l member. stands_true d.fluents w s st l (covers-has w d.initial parts.0 l member);
        one_of = all_are_true d.fluents w s st d.groups (groups_small d ok) (groups_known d ok) parts.1;
      }

  pub world_is_world : World d s → is_world d w ≡ true
  world_is_world world =
      and_from (covers w d.initial) (each (one_true w) d.groups)
      (has-covers w d.initial (initial_small d ok) (λ l member. st.true_in l (initial_known d ok l member) ∙ world.initially l member))
      (true_are_all d.fluents w s st d.groups (groups_small d ok) (groups_known d ok) world.one_of)

-- ---- the told facts

module _ (F : ℕ) (told sets : List ℕ) where
  abbrev Told : ℕ → Type 0
  Told u = covers (get_or sets u 0) (bit_and (get_or told u 0) (all F)) ≡ true

  tells_each : (n t : ℕ) → tells_true F told n t sets ≡ true → (u : ℕ) → t ≤ u → u < t + n → Told u
  unfolding tells_true
  tells_each zero t h u from to = absurd (omega (arith, from, to))
  tells_each (suc n) t h u from to =
      let parts = and_parts (covers (get_or sets t 0) (bit_and (get_or told t 0) (all F))) (tells_true F told n (suc t) sets) h in
      ⊎_elim
      (λ (same : u ≡ t). rw same parts.0)
      (λ (differs : u ≡ t → ⊥). let apart : u ≢ t = differs in tells_each n (suc t) parts.1 u (omega (arith, from, apart)) (omega (arith, to)))
      (cases_eq u t)

  each_tells : (n t : ℕ) → ((u : ℕ) → t ≤ u → u < t + n → Told u) → tells_true F told n t sets ≡ true
  unfolding tells_true
  each_tells zero t every = refl
  each_tells (suc n) t every =
      and_from (covers (get_or sets t 0) (bit_and (get_or told t 0) (all F))) (tells_true F told n (suc t) sets)
      (every t (omega arith) (omega arith)) (each_tells n (suc t) (λ u from to. every u (omega (arith, from)) (omega (arith, to))))

-- ---- a set starts a world that agrees just where the state that it stands for does

module _ (q : Question) (asked : Askable q) (w : ℕ) (s : State) (st : Stands q.sheet.fluents w s) where
  abbrev told_there : ℕ → ℕ
  told_there t = bit_and (get_or q.told t 0) (all q.sheet.fluents)

  told-counts : (t l : ℕ) → t ≤ latest q → has (told_there t) l ≡ true → counts q t l ≡ true
  told-counts t l early h =
      let parts = and_parts (shows q.told t l) (has (all q.sheet.fluents) l) (sym (has-and (get_or q.told t 0) (all q.sheet.fluents) l) ∙ h) in
      let known = and_parts (ltb l 64) (ltb (fluent l) q.sheet.fluents) (sym (has_all q.sheet.fluents l) ∙ parts.1) in
      and_from (shows q.told t l) (in_reach q t l) parts.0 (reached q t l early (ltb-true (fluent l) q.sheet.fluents known.1))

  counts-told : (t l : ℕ) → counts q t l ≡ true → has (told_there t) l ≡ true
  counts-told t l h =
      let F = q.sheet.fluents in
      let parts = and_parts (shows q.told t l) (in_reach q t l) h in
      has-and (get_or q.told t 0) (all F) l
      ∙ and_from (shows q.told t l) (has (all F) l) parts.0
      (has_all F l ∙ and_from (ltb l 64) (ltb (fluent l) F) (lt-ltb l 64 (has_below (get_or q.told t 0) l parts.0)) (lt-ltb (fluent l) F (reach_fluent q t l parts.1)))

  pub agrees_world : agrees q w ≡ true → Agrees q s
  agrees_world h =
      let parts = and_parts (is_world q.sheet w) (tells_true q.sheet.fluents q.told (suc (latest q)) 0 (trace q w)) h in
      record {
        world = is_world_world q.sheet asked.lawful_sheet w s st parts.0;
        told_true = λ t l k.
            let within = (and_parts (shows q.told t l) (in_reach q t l) k).1 in
            let All_there = tells_each q.sheet.fluents q.told (trace q w) (suc (latest q)) 0 parts.1 t (omega arith) (omega (arith, reach_early q t l within)) in
            sym (trace_true q asked w s st t l within) ∙ covers-has (get_or (trace q w) t 0) (told_there t) All_there l (counts-told t l k);
      }

  pub world_agrees : Agrees q s → agrees q w ≡ true
  world_agrees a =
      and_from (is_world q.sheet w) (tells_true q.sheet.fluents q.told (suc (latest q)) 0 (trace q w))
      (world_is_world q.sheet asked.lawful_sheet w s st a.world)
      (each_tells q.sheet.fluents q.told (trace q w) (suc (latest q)) 0
      (λ t from to.
      has-covers (get_or (trace q w) t 0) (told_there t) (and_below (get_or q.told t 0) (all q.sheet.fluents) (asked.table.small t))
      (λ l member.
      let k = told-counts t l (omega (arith, to)) member in
      let within = (and_parts (shows q.told t l) (in_reach q t l) k).1 in
      trace_true q asked w s st t l within ∙ a.told_true t l k)))
