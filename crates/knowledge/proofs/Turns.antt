-- A sweep over a table adds what the rules give, and nothing else. Assumes nothing.
use Rattle.std.proofs.Common.{◌≡◌, ℕ, zero, suc, ◌+◌, ◌^◌, ◌<◌, ◌≤◌, Bool, true, cond, ◌≢◌, List, length, get_or, set, sym, refl, ap, ◌∙◌, ⊎_elim, arith}
use Rattle.std.proofs.lemmas.List.{length-set}
use Rattle.std.proofs.lemmas.Bool.{cases_eq, eq-eqb, ne_eqb}
use Rattle.literals.specs.Literals.{has}
use Rattle.literals.specs.Tables.{shows}
use Rattle.literals.proofs.Laws.{put_sets, shows-put}
use Rattle.knowledge.specs.Questions.{Question, latest, IsTable}
use Rattle.knowledge.specs.Rules.{Facts, OneOf, Between, effects_at, Closed}
use Rattle.knowledge.specs.Sweeps.{all_grouped, between, put_both, turned, passed, sweep}
use Rattle.knowledge.specs.Worlds.{Among}
use Rattle.knowledge.proofs.LeftOver.{one_of_mono, in_all_grouped, all_grouped_gives, all_grouped_only, all_grouped_below}
use Rattle.knowledge.proofs.Pairs.{Fit, between_mono, between_grows, between_grows_next, between_gives, between_only, between_below}

-- the facts that a table shows are among others
abbrev pub Within : List ℕ → Facts → Type 0
Within sets facts = (t l : ℕ) → shows sets t l ≡ true → facts t l ≡ true

-- what a question's sheet and orders must be for its sweeps
pub record Fitting (q : Question) : Type 0 where
  pub effects : (t : ℕ) → Fit (effects_at q t)
  pub groups : (g : ℕ) → Among g q.sheet.groups → g < 2 ^ 64
  pub few : latest q ≤ 32

-- ---- another set at a moment

module _ (sets : List ℕ) (t s : ℕ) (inside : t < length sets) where
  pub put_here : (l : ℕ) → shows (set sets t s) t l ≡ has s l
  put_here l = shows-put sets t s t l inside ∙ ap (λ b. cond b (has s l) (shows sets t l)) (eq-eqb t t refl)

  pub put_there : (u l : ℕ) → u ≢ t → shows (set sets t s) u l ≡ shows sets u l
  put_there u l differs = shows-put sets t s u l inside ∙ ap (λ b. cond b (has s l) (shows sets u l)) (ne_eqb u t differs)

pub put_table : (sets : List ℕ) (t s : ℕ) → IsTable sets → s < 2 ^ 64 → IsTable (set sets t s)
put_table sets t s table small = record { long = length-set sets t s ∙ table.long; small = put_sets sets t s table.small small }

-- ---- two sets at a moment and the next

module _ (sets : List ℕ) (t : ℕ) (p : ℕ × ℕ) (long : length sets ≡ 33) (inside : t < 32) where
  first_in : t < length sets
  first_in = omega (arith, long)

  second_in : suc t < length (set sets t p.0)
  second_in = omega (arith, long, length-set sets t p.0)

  pub both_first : (l : ℕ) → shows (put_both sets t p) t l ≡ has p.0 l
  both_first l = put_there (set sets t p.0) (suc t) p.1 second_in t l (λ same. omega (arith, same)) ∙ put_here sets t p.0 first_in l

  pub both_second : (l : ℕ) → shows (put_both sets t p) (suc t) l ≡ has p.1 l
  both_second l = put_here (set sets t p.0) (suc t) p.1 second_in l

  pub both_other : (u l : ℕ) → u ≢ t → u ≢ suc t → shows (put_both sets t p) u l ≡ shows sets u l
  both_other u l not_first not_second = put_there (set sets t p.0) (suc t) p.1 second_in u l not_second ∙ put_there sets t p.0 first_in u l not_first

  -- by cases of the moment
  pub both_cases : (P : ℕ → Bool → Type 0) (l : ℕ) → P t (has p.0 l) → P (suc t) (has p.1 l) → ((u : ℕ) → u ≢ t → u ≢ suc t → P u (shows sets u l))
      → (u : ℕ) → P u (shows (put_both sets t p) u l)
  both_cases P l one two rest u =
      ⊎_elim
      (λ (same : u ≡ t). rw (same, both_first l) one)
      (λ (not_first : u ≡ t → ⊥).
      ⊎_elim
      (λ (same : u ≡ suc t). rw (same, both_second l) two)
      (λ (not_second : u ≡ suc t → ⊥). rw (both_other u l not_first not_second) (rest u not_first not_second))
      (cases_eq u (suc t)))
      (cases_eq u t)

-- ---- one order or look

module _ (q : Question) (fits : Fitting q) where
  module _ (sets : List ℕ) (t : ℕ) (table : IsTable sets) (inside : t < latest q) where
    abbrev pair : ℕ × ℕ
    pair = between (effects_at q t) (get_or sets t 0, get_or sets (suc t) 0)

    room_there : t < 32
    room_there = omega (arith, fits.few)

    pub turned_grows : Within sets (λ u l. shows (turned q.sheet q.orders t sets) u l)
    turned_grows u l =
        both_cases sets t pair table.long room_there (λ v b. shows sets v l ≡ true → b ≡ true) l
        (between_grows (effects_at q t) (get_or sets t 0) (get_or sets (suc t) 0) (fits.effects t) l)
        (between_grows_next (effects_at q t) (get_or sets t 0) (get_or sets (suc t) 0) (fits.effects t) l)
        (λ v _ _ h. h) u

    pub turned_gives : Between (effects_at q t) (λ l. shows sets t l) (λ l. shows sets (suc t) l) (λ l. shows (turned q.sheet q.orders t sets) t l) (λ l. shows (turned q.sheet q.orders t sets) (suc t) l)
    turned_gives =
        between_mono (between_gives (effects_at q t) (get_or sets t 0) (get_or sets (suc t) 0) (fits.effects t)) (λ l h. h) (λ l h. h)
        (λ l h. both_first sets t pair table.long room_there l ∙ h) (λ l h. both_second sets t pair table.long room_there l ∙ h)

    pub turned_only : (k : Facts) → Closed q k → Within sets k → Within (turned q.sheet q.orders t sets) k
    turned_only k closed within u l =
        let only = between_only (effects_at q t) (get_or sets t 0) (get_or sets (suc t) 0) (fits.effects t) (k t) (k (suc t)) (closed.between t inside) (within t) (within (suc t)) in
        both_cases sets t pair table.long room_there (λ v b. b ≡ true → k v l ≡ true) l (only.0 l) (only.1 l) (λ v _ _ h. within v l h) u

    pub turned_table : IsTable (turned q.sheet q.orders t sets)
    turned_table =
        let below = between_below (effects_at q t) (get_or sets t 0) (get_or sets (suc t) 0) (fits.effects t) (table.small t) (table.small (suc t)) in
        put_table (set sets t pair.0) (suc t) pair.1 (put_table sets t pair.0 table below.0) below.1

  -- ---- n of them

  pub passed_table : (n t : ℕ) (sets : List ℕ) → t + n ≤ latest q → IsTable sets → IsTable (passed q.sheet q.orders n t sets)
  unfolding passed
  passed_table zero t sets end table = table
  passed_table (suc n) t sets end table = passed_table n (suc t) (turned q.sheet q.orders t sets) (omega (arith, end)) (turned_table sets t table (omega (arith, end)))

  pub passed_grows : (n t : ℕ) (sets : List ℕ) → t + n ≤ latest q → IsTable sets → Within sets (λ u l. shows (passed q.sheet q.orders n t sets) u l)
  unfolding passed
  passed_grows zero t sets end table u l h = h
  passed_grows (suc n) t sets end table u l h =
      passed_grows n (suc t) (turned q.sheet q.orders t sets) (omega (arith, end)) (turned_table sets t table (omega (arith, end))) u l (turned_grows sets t table (omega (arith, end)) u l h)

  pub passed_only : (n t : ℕ) (sets : List ℕ) → t + n ≤ latest q → IsTable sets → (k : Facts) → Closed q k → Within sets k → Within (passed q.sheet q.orders n t sets) k
  unfolding passed
  passed_only zero t sets end table k closed within = within
  passed_only (suc n) t sets end table k closed within =
      passed_only n (suc t) (turned q.sheet q.orders t sets) (omega (arith, end)) (turned_table sets t table (omega (arith, end))) k closed (turned_only sets t table (omega (arith, end)) k closed within)

  pub passed_gives : (n t : ℕ) (sets : List ℕ) → t + n ≤ latest q → IsTable sets → (i : ℕ) → t ≤ i → i < t + n
      → Between (effects_at q i) (λ l. shows sets i l) (λ l. shows sets (suc i) l) (λ l. shows (passed q.sheet q.orders n t sets) i l) (λ l. shows (passed q.sheet q.orders n t sets) (suc i) l)
  unfolding passed
  passed_gives zero t sets end table i from to = absurd (omega (arith, from, to))
  passed_gives (suc n) t sets end table i from to =
      let inside : t < latest q = omega (arith, end) in
      let after : suc t + n ≤ latest q = omega (arith, end) in
      let there = turned_table sets t table inside in
      ⊎_elim
      (λ (same : i ≡ t).
      rw same
      (between_mono (turned_gives sets t table inside) (λ l h. h) (λ l h. h) (passed_grows n (suc t) (turned q.sheet q.orders t sets) after there t) (passed_grows n (suc t) (turned q.sheet q.orders t sets) after there (suc t))))
      (λ (differs : i ≡ t → ⊥).
      between_mono (passed_gives n (suc t) (turned q.sheet q.orders t sets) after there i (omega (arith, from, differs)) (omega (arith, to))) (turned_grows sets t table inside i) (turned_grows sets t table inside (suc i)) (λ l h. h) (λ l h. h))
      (cases_eq i t)

  -- ---- a sweep

  module _ (sets : List ℕ) (table : IsTable sets) where
    abbrev opening : List ℕ
    opening = set sets 0 (all_grouped q.sheet.groups (get_or sets 0 0))

    start_in : 0 < length sets
    start_in = omega (arith, table.long)

    opening_table : IsTable (set sets 0 (all_grouped q.sheet.groups (get_or sets 0 0)))
    opening_table = put_table sets 0 _ table (all_grouped_below q.sheet.groups (get_or sets 0 0) fits.groups (table.small 0))

    opening_grows : Within sets (λ u l. shows (set sets 0 (all_grouped q.sheet.groups (get_or sets 0 0))) u l)
    opening_grows u l h =
        ⊎_elim
        (λ (same : u ≡ 0). rw (same, put_here sets 0 (all_grouped q.sheet.groups (get_or sets 0 0)) start_in l) (in_all_grouped q.sheet.groups (get_or sets 0 0) l (rw same at h)))
        (λ (differs : u ≡ 0 → ⊥). put_there sets 0 _ start_in u l differs ∙ h)
        (cases_eq u 0)

    pub sweep_table : IsTable (sweep q.sheet q.orders sets)
    unfolding sweep
    sweep_table = passed_table (latest q) 0 opening (omega arith) opening_table

    pub sweep_grows : Within sets (λ u l. shows (sweep q.sheet q.orders sets) u l)
    unfolding sweep
    sweep_grows u l h = passed_grows (latest q) 0 opening (omega arith) opening_table u l (opening_grows u l h)

    pub sweep_only : (k : Facts) → Closed q k → Within sets k → Within (sweep q.sheet q.orders sets) k
    unfolding sweep
    sweep_only k closed within = passed_only (latest q) 0 opening (omega arith) opening_table k closed starts
      where
        starts : Within opening k
        starts u l h =
            ⊎_elim
            (λ (same : u ≡ 0).
            rw same
            (all_grouped_only q.sheet.groups (get_or sets 0 0) fits.groups (k 0) closed.one_of (within 0) l (sym (put_here sets 0 (all_grouped q.sheet.groups (get_or sets 0 0)) start_in l) ∙ rw same at h)))
            (λ (differs : u ≡ 0 → ⊥). within u l (sym (put_there sets 0 _ start_in u l differs) ∙ h))
            (cases_eq u 0)

    pub sweep_groups : (g : ℕ) → Among g q.sheet.groups → OneOf g (λ l. shows sets 0 l) (λ l. shows (sweep q.sheet q.orders sets) 0 l)
    unfolding sweep
    sweep_groups g among =
        one_of_mono (all_grouped_gives q.sheet.groups (get_or sets 0 0) fits.groups g among) (λ l h. h)
        (λ l h. passed_grows (latest q) 0 opening (omega arith) opening_table 0 l (put_here sets 0 _ start_in l ∙ h))

    pub sweep_gives : (i : ℕ) → i < latest q
        → Between (effects_at q i) (λ l. shows sets i l) (λ l. shows sets (suc i) l) (λ l. shows (sweep q.sheet q.orders sets) i l) (λ l. shows (sweep q.sheet q.orders sets) (suc i) l)
    unfolding sweep
    sweep_gives i inside =
        between_mono (passed_gives (latest q) 0 opening (omega arith) opening_table i (omega arith) (omega (arith, inside))) (opening_grows i) (opening_grows (suc i)) (λ l h. h) (λ l h. h)
