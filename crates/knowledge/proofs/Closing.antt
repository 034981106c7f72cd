-- Sweeps end in the least closed table. Assumes nothing.
use Rattle.std.proofs.Common.{◌≡◌, ℕ, zero, suc, ◌+◌, ◌-◌, ◌^◌, ◌<◌, ◌≤◌, Bool, true, false, cond, ◌&&◌, ltb, leb, ◌≢◌, ◌⊎◌, List, [], ◌∷◌, length, get_or, set, sym, refl, ap, ◌∙◌, subst, inl, inr, ⊎_elim, arith}
use lib.Bits.{bit_and}
use Rattle.std.proofs.lemmas.List.{length-set}
use Rattle.std.proofs.lemmas.Bool.{cases_Bool, cases_eq, cases_lt, and_right, lt-ltb, le-leb}
use Rattle.std.proofs.lemmas.Bool.Decides.{nat_tests}
use Rattle.literals.specs.Literals.{fluent, has, all}
use Rattle.literals.specs.Tables.{AreSets, shows, empty, same}
use Rattle.literals.proofs.Laws.{has-and, has_all, has-covers, covers_le, same_decides, and_below, or_below, shows-empty, length-empty, empty_sets, has_below}
use Rattle.domain.specs.Sheet.{lawful}
use Rattle.knowledge.specs.Questions.{Question, latest, counts, IsTable, Askable}
use Rattle.knowledge.specs.Rules.{Facts, Closed, effects_at}
use Rattle.knowledge.specs.Sweeps.{sweep, sweeps, room, told_from, start, closure}
use Rattle.knowledge.proofs.Lawful.{exclusive, fluents_few, groups_small, initial_small}
use Rattle.knowledge.proofs.Least.{Least}
use Rattle.knowledge.proofs.LeftOver.{in_left, in_right, in_either, one_of_mono}
use Rattle.knowledge.proofs.Pairs.{exclusive_fit, between_mono}
use Rattle.knowledge.proofs.Turns.{Within, Fitting, put_here, put_there, put_table, sweep_table, sweep_grows, sweep_only, sweep_groups, sweep_gives}

-- ---- room falls

-- numbers that are nowhere smaller are the same, or leave less room
pub room_falls : (xs ys : List ℕ) → length xs ≡ length ys → ((t : ℕ) → get_or ys t 0 < 2 ^ 64) → ((t : ℕ) → get_or xs t 0 ≤ get_or ys t 0) → (ys ≡ xs) ⊎ (room ys < room xs)
unfolding room
room_falls [] [] long small more = inl refl
room_falls [] (y ∷ ys) long small more = absurd (omega (arith, long))
room_falls (x ∷ xs) [] long small more = absurd (omega (arith, long))
room_falls (x ∷ xs) (y ∷ ys) long small more =
    let here : x ≤ y = more 0 in
    let few : y < 2 ^ 64 = small 0 in
    ⊎_elim
    (λ (same : ys ≡ xs).
    ⊎_elim
    (λ (equal : y ≡ x). inl (rw (equal, same) refl))
    (λ (differs : y ≡ x → ⊥). inr (rw same (omega (arith, here, few, differs))))
    (cases_eq y x))
    (λ (less : room ys < room xs). inr (omega (arith, here, few, less)))
    (room_falls xs ys (omega (arith, long)) (λ t. small (suc t)) (λ t. more (suc t)))

module _ (q : Question) (fits : Fitting q) where
  -- a sweep that changes the table leaves less room
  pub sweep_falls : (sets : List ℕ) → IsTable sets → (sweep q.sheet q.orders sets ≡ sets) ⊎ (room (sweep q.sheet q.orders sets) < room sets)
  sweep_falls sets table =
      let swept = sweep_table q fits sets table in
      room_falls sets (sweep q.sheet q.orders sets) (table.long ∙ sym swept.long) swept.small
      (λ t. covers_le (get_or (sweep q.sheet q.orders sets) t 0) (get_or sets t 0) (has-covers (get_or (sweep q.sheet q.orders sets) t 0) (get_or sets t 0) (table.small t) (λ l h. sweep_grows q fits sets table t l h)))

  pub sweeps_done : (n : ℕ) (sets : List ℕ) → sweep q.sheet q.orders sets ≡ sets → sweeps q.sheet q.orders n sets ≡ sets
  unfolding sweeps
  sweeps_done zero sets done = refl
  sweeps_done (suc n) sets done = rw ((same_decides (sweep q.sheet q.orders sets) sets).1 done) refl

  sweeps_more : (n : ℕ) (sets : List ℕ) → sweep q.sheet q.orders sets ≢ sets → sweeps q.sheet q.orders (suc n) sets ≡ sweeps q.sheet q.orders n (sweep q.sheet q.orders sets)
  unfolding sweeps
  sweeps_more n sets differs =
      ⊎_elim
      (λ (h : same (sweep q.sheet q.orders sets) sets ≡ true). absurd (differs ((same_decides (sweep q.sheet q.orders sets) sets).0 h)))
      (λ (h : same (sweep q.sheet q.orders sets) sets ≡ false). rw h refl)
      (cases_Bool (same (sweep q.sheet q.orders sets) sets))

  -- as many sweeps as there is room are enough, and more change nothing
  pub sweeps_enough : (n m : ℕ) (sets : List ℕ) → IsTable sets → room sets ≤ n → room sets ≤ m → sweeps q.sheet q.orders n sets ≡ sweeps q.sheet q.orders m sets
  sweeps_enough zero m sets table few less =
      ⊎_elim
      (λ (done : sweep q.sheet q.orders sets ≡ sets). sweeps_done zero sets done ∙ sym (sweeps_done m sets done))
      (λ (falls : room (sweep q.sheet q.orders sets) < room sets). absurd (omega (arith, falls, few)))
      (sweep_falls sets table)
  sweeps_enough (suc n) zero sets table few less =
      ⊎_elim
      (λ (done : sweep q.sheet q.orders sets ≡ sets). sweeps_done (suc n) sets done ∙ sym (sweeps_done zero sets done))
      (λ (falls : room (sweep q.sheet q.orders sets) < room sets). absurd (omega (arith, falls, less)))
      (sweep_falls sets table)
  sweeps_enough (suc n) (suc m) sets table few less =
      ⊎_elim
      (λ (done : sweep q.sheet q.orders sets ≡ sets). sweeps_done (suc n) sets done ∙ sym (sweeps_done (suc m) sets done))
      (λ (falls : room (sweep q.sheet q.orders sets) < room sets).
      let differs : sweep q.sheet q.orders sets ≢ sets = λ done. omega (arith, falls, ap room done) in
      sweeps_more n sets differs ∙ sweeps_enough n m (sweep q.sheet q.orders sets) (sweep_table q fits sets table) (omega (arith, falls, few)) (omega (arith, falls, less)) ∙ sym (sweeps_more m sets differs))
      (sweep_falls sets table)

  -- one sweep first, and then the others
  pub sweeps_again : (sets : List ℕ) → IsTable sets → sweep q.sheet q.orders sets ≢ sets → sweeps q.sheet q.orders (room (sweep q.sheet q.orders sets)) (sweep q.sheet q.orders sets) ≡ sweeps q.sheet q.orders (room sets) sets
  sweeps_again sets table differs =
      ⊎_elim
      (λ (done : sweep q.sheet q.orders sets ≡ sets). absurd (differs done))
      (λ (falls : room (sweep q.sheet q.orders sets) < room sets).
      let more : room sets ≡ suc (room sets - 1) = omega (arith, falls) in
      sweeps_enough (room (sweep q.sheet q.orders sets)) (room sets - 1) (sweep q.sheet q.orders sets) (sweep_table q fits sets table) (omega arith) (omega (arith, falls))
      ∙ sym (sweeps_more (room sets - 1) sets differs) ∙ ap (λ n. sweeps q.sheet q.orders n sets) (sym more))
      (sweep_falls sets table)

  -- what sweeps make is a table, has what was there and only what closed facts have, and another sweep adds nothing
  pub record Swept (sets made : List ℕ) : Type 0 where
    pub table : IsTable made
    pub grows : Within sets (λ t l. shows made t l)
    pub only : (k : Facts) → Closed q k → Within sets k → Within made k

  pub swept : (n : ℕ) (sets : List ℕ) → IsTable sets → Swept sets (sweeps q.sheet q.orders n sets)
  unfolding sweeps
  swept zero sets table = record { table = table; grows = λ t l h. h; only = λ k closed within. within }
  swept (suc n) sets table =
      ⊎_elim
      (λ (h : same (sweep q.sheet q.orders sets) sets ≡ true). rw h (record { table = table; grows = λ t l h. h; only = λ k closed within. within }))
      (λ (h : same (sweep q.sheet q.orders sets) sets ≡ false).
      let rest = swept n (sweep q.sheet q.orders sets) (sweep_table q fits sets table) in
      rw h (record {
        table = rest.table;
        grows = λ t l m. rest.grows t l (sweep_grows q fits sets table t l m);
        only = λ k closed within. rest.only k closed (sweep_only q fits sets table k closed within);
      }))
      (cases_Bool (same (sweep q.sheet q.orders sets) sets))

  pub settled : (n : ℕ) (sets : List ℕ) → IsTable sets → room sets ≤ n → sweep q.sheet q.orders (sweeps q.sheet q.orders n sets) ≡ sweeps q.sheet q.orders n sets
  settled zero sets table few =
      ⊎_elim
      (λ (done : sweep q.sheet q.orders sets ≡ sets). rw (sweeps_done zero sets done) done)
      (λ (falls : room (sweep q.sheet q.orders sets) < room sets). absurd (omega (arith, falls, few)))
      (sweep_falls sets table)
  settled (suc n) sets table few =
      ⊎_elim
      (λ (done : sweep q.sheet q.orders sets ≡ sets). rw (sweeps_done (suc n) sets done) done)
      (λ (falls : room (sweep q.sheet q.orders sets) < room sets).
      let differs : sweep q.sheet q.orders sets ≢ sets = λ done. omega (arith, falls, ap room done) in
      rw (sweeps_more n sets differs) (settled n (sweep q.sheet q.orders sets) (sweep_table q fits sets table) (omega (arith, falls, few))))
      (sweep_falls sets table)

-- ---- the start

-- the facts to begin with: told ones that count, for the moments from t to t + n
pub told_from-shows : (q : Question) (n t : ℕ) (sets : List ℕ) → length sets ≡ 33 → t + n ≤ 33 → (u l : ℕ)
    → shows (told_from q.sheet.fluents q.told n t sets) u l ≡ cond (leb t u && ltb u (t + n)) (shows q.told u l && has (all q.sheet.fluents) l) (shows sets u l)
unfolding told_from
told_from-shows q zero t sets long end u l = let none : (leb t u && ltb u (t + zero)) ≡ false = grind (arith, nat_tests) in rw none refl
told_from-shows q (suc n) t sets long end u l =
    let x = bit_and (get_or q.told t 0) (all q.sheet.fluents) in
    let later = told_from-shows q n (suc t) (set sets t x) (length-set sets t x ∙ long) (omega (arith, end)) u l in
    let inside : t < length sets = omega (arith, long, end) in
    ⊎_elim
    (λ (here : u ≡ t).
    let past : (leb (suc t) u && ltb u (suc t + n)) ≡ false = grind (arith, nat_tests) in
    let now : (leb t u && ltb u (t + suc n)) ≡ true = grind (arith, nat_tests) in
    later ∙ rw (past, now, here, put_here sets t x inside l) (has-and (get_or q.told t 0) (all q.sheet.fluents) l))
    (λ (differs : u ≡ t → ⊥).
    let as_before : (leb (suc t) u && ltb u (suc t + n)) ≡ (leb t u && ltb u (t + suc n)) = grind (arith, nat_tests) in
    later ∙ rw (as_before, put_there sets t x inside u l differs) refl)
    (cases_eq u t)

pub told_from_table : (q : Question) (n t : ℕ) (sets : List ℕ) → AreSets q.told → IsTable sets → IsTable (told_from q.sheet.fluents q.told n t sets)
unfolding told_from
told_from_table q zero t sets small table = table
told_from_table q (suc n) t sets small table = told_from_table q n (suc t) _ small (put_table sets t _ table (and_below (get_or q.told t 0) (all q.sheet.fluents) (small t)))

-- lawful sheets fit
pub fitting_of : (q : Question) → lawful q.sheet ≡ true → latest q ≤ 32 → Fitting q
fitting_of q ok few =
    record {
      effects = λ t. exclusive_fit q.sheet.fluents (effects_at q t) (fluents_few q.sheet ok).1 (exclusive q.sheet (get_or q.orders t 0) ok);
      groups = groups_small q.sheet ok;
      few = few;
    }

module _ (q : Question) (ok : Askable q) where
  -- the table of the told facts that count
  abbrev pub base : List ℕ
  base = told_from q.sheet.fluents q.told (suc (latest q)) 0 empty

  pub base_table : IsTable base
  base_table = told_from_table q (suc (latest q)) 0 empty ok.table.small (record { long = length-empty; small = empty_sets })

  -- it shows just these
  pub base_shows : (t l : ℕ) → shows base t l ≡ counts q t l
  base_shows t l =
      told_from-shows q (suc (latest q)) 0 empty length-empty (omega (arith, ok.few)) t l
      ∙ ⊎_elim
      (λ (late : latest q < t).
      let past : (leb 0 t && ltb t (0 + suc (latest q))) ≡ false = grind (arith, nat_tests) in
      let not_yet : leb t (latest q) ≡ false = grind (arith, nat_tests) in
      rw (past, not_yet, shows-empty t l) (sym (and_right (shows q.told t l) false refl)))
      (λ (early : t ≤ latest q).
      let now : (leb 0 t && ltb t (0 + suc (latest q))) ≡ true = grind (arith, nat_tests) in
      rw (now, le-leb t (latest q) early) (known_fluent (shows q.told t l) refl))
      (cases_lt (latest q) t)
    where
      known_fluent : (b : Bool) → shows q.told t l ≡ b → (b && has (all q.sheet.fluents) l) ≡ (b && ltb (fluent l) q.sheet.fluents)
      known_fluent false h = refl
      known_fluent true h = has_all q.sheet.fluents l ∙ rw (lt-ltb l 64 (has_below (get_or q.told t 0) l h)) refl

  first_in : 0 < length base
  first_in = omega (arith, base_table.long)

  pub start_table : IsTable (start q)
  unfolding start
  start_table = put_table base 0 _ base_table (or_below (get_or base 0 0) q.sheet.initial (base_table.small 0) (initial_small q.sheet ok.lawful_sheet))

  pub start_initially : (l : ℕ) → has q.sheet.initial l ≡ true → shows (start q) 0 l ≡ true
  unfolding start
  start_initially l h = put_here base 0 _ first_in l ∙ in_right (get_or base 0 0) q.sheet.initial l h

  pub start-told : (t l : ℕ) → counts q t l ≡ true → shows (start q) t l ≡ true
  unfolding start
  start-told t l h =
      ⊎_elim
      (λ (same : t ≡ 0). rw same (put_here base 0 _ first_in l ∙ in_left (get_or base 0 0) q.sheet.initial l (base_shows 0 l ∙ rw same at h)))
      (λ (differs : t ≡ 0 → ⊥). put_there base 0 _ first_in t l differs ∙ base_shows t l ∙ h)
      (cases_eq t 0)

  pub start_only : (k : Facts) → Closed q k → Within (start q) k
  unfolding start
  start_only k closed t l h =
      ⊎_elim
      (λ (same : t ≡ 0).
      ⊎_elim
      (λ (told : has (get_or base 0 0) l ≡ true). closed.as_told t l (rw same (sym (base_shows 0 l) ∙ told)))
      (λ (at_first : has q.sheet.initial l ≡ true). rw same (closed.initially l at_first))
      (in_either (get_or base 0 0) q.sheet.initial l (sym (put_here base 0 _ first_in l) ∙ rw same at h)))
      (λ (differs : t ≡ 0 → ⊥). closed.as_told t l (sym (base_shows t l) ∙ sym (put_there base 0 _ first_in t l differs) ∙ h))
      (cases_eq t 0)

  pub fitting : Fitting q
  fitting = fitting_of q ok.lawful_sheet ok.few

  -- the closure is the least closed table
  pub closure_least : Least q (closure q)
  unfolding closure
  closure_least =
      let made = swept q fitting (room (start q)) (start q) start_table in
      record {
        table = made.table;
        closed = record {
          initially = λ l h. made.grows 0 l (start_initially l h);
          as_told = λ t l h. made.grows t l (start-told t l h);
          one_of = λ g among. one_of_mono (sweep_groups q fitting ended made.table g among) (λ l h. h) (λ l h. back 0 l h);
          between = λ t inside. between_mono (sweep_gives q fitting ended made.table t inside) (λ l h. h) (λ l h. h) (back t) (back (suc t));
        };
        least = λ k closed. made.only k closed (start_only k closed);
      }
    where
      ended : List ℕ
      ended = sweeps q.sheet q.orders (room (start q)) (start q)

      back : (t l : ℕ) → shows (sweep q.sheet q.orders (sweeps q.sheet q.orders (room (start q)) (start q))) t l ≡ true → shows (sweeps q.sheet q.orders (room (start q)) (start q)) t l ≡ true
      back t l h = subst (λ sets. shows sets t l ≡ true) (settled q fitting (room (start q)) (start q) start_table (omega arith)) h
