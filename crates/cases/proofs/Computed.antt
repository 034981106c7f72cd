-- A case stands where a test that computes says so. Assumes nothing.
use Rattle.std.proofs.Common.{◌≡◌, ℕ, zero, suc, ◌+◌, ◌*◌, ◌<◌, ◌≤◌, Bool, true, false, cond, not, ◌&&◌, eqb, leb, List, [], ◌∷◌, length, Some, None, Ok, Err, Option, Result, sym, refl, ap, ◌∙◌, subst, ⊎_elim, arith, length-set}
use Rattle.std.specs.Borrow.{Bor}
use Rattle.std.specs.List.{list_all}
use lib.Count.{ones, count_trailing_zeros}
use Rattle.std.proofs.lemmas.List.Sums.{AllPass-from_list_all}
use Rattle.std.proofs.lemmas.Bool.Decides.{nat_tests}
use Rattle.std.proofs.lemmas.Bool.{cases_Bool, and_parts, both_ways, not-true, leb-true, eqb-true, eqb-false}
use Rattle.bits.specs.Bits.{bits_of, numeral, number}
use Rattle.bits.specs.Fields.{number_at, fill_end}
use Rattle.literals.specs.Literals.{bit, place, single, at_place, rotated, of_first}
use Rattle.literals.specs.Tables.{shows, empty, full, filled, told, each_covers, same, common}
use Rattle.literals.proofs.Laws.{length-empty, empty_sets, told_sets, same_decides}
use Rattle.domain.specs.Lists.{members_from, members, listed}
use Rattle.domain.specs.Sheet.{Sheet, clash_free, rising_effects, lawful}
use Rattle.domain.specs.declared.refusal.Refusal.{Refusal}
use Rattle.domain.specs.Layout.{effects_at, actions_at, groups_at, read_domain}
use Rattle.domain.specs.Lists.{domain_field, literals_at, list_at}
use Rattle.knowledge.specs.AllWorlds.{firing, traced, tells_true, narrowed_all, in_all_worlds}
use Rattle.knowledge.specs.Questions.{Question, latest, IsTable, Askable}
use Rattle.knowledge.specs.Rules.{Known}
use Rattle.knowledge.specs.Sweeps.{left_over, all_grouped, may_come, all_worked, passed, sweep, sweeps, room, told_from, start, closure}
use Rattle.knowledge.proofs.Laws.{closure_known, known_closure, shows_true}
use Rattle.cases.specs.Cases.{with_told, question_of, Marked, mark_of, NoWorld, Within, Stands}
use Rattle.cases.specs.declared.cases.Case.{Case}

-- ---- tests

-- a test of each number below another
abbrev pub each_below : ℕ → (ℕ → Bool) → Bool
each_below zero test = true
each_below (suc n) test = test n && each_below n test

-- a mark is as a table shows it
abbrev pub shown_as : List ℕ → ℕ → ℕ → Option (Option Bool) → Bool
shown_as sets t f (Some (Some true)) = shows sets t (2 * f + 1)
shown_as sets t f (Some (Some false)) = shows sets t (2 * f)
shown_as sets t f (Some None) = not (shows sets t (2 * f + 1)) && not (shows sets t (2 * f))
shown_as sets t f None = false

abbrev pub marks_shown : Case → List ℕ → Bool
marks_shown c sets = each_below (length c.rows.now) (λ f. each_below (suc (length c.orders.now)) (λ t. shown_as sets t f (mark_of c t f)))

-- whether a world agrees is as a case says
abbrev pub worlds_as : Bool → Question → Bool
worlds_as agreeing q = let none = same (in_all_worlds q) (full q.sheet.fluents (latest q)) in cond agreeing (not none) none

-- a row has a mark for each moment of a case
abbrev pub all_moments : Case → Bor (List (Option Bool)) → Bool
all_moments c row = eqb (length row.now) (length c.orders.now + 1)

abbrev pub is_within : Case → Bool
is_within c =
    leb (length c.domain.now) 11 && (leb (length c.orders.now) 2 && (leb (length c.told.now) 2 && (leb (length c.rows.now) 3 && list_all (all_moments c) c.rows.now)))

-- a table after k sweeps
unfoldable pub swept : Sheet → List ℕ → ℕ → List ℕ → List ℕ
swept d orders zero sets = sets
swept d orders (suc k) sets = swept d orders k (sweep d orders sets)

-- a table that a sweep adds nothing to
abbrev pub at_rest : Question → List ℕ → Bool
at_rest q sets = same (sweep q.sheet q.orders sets) sets

-- four sweeps are enough
abbrev pub four : Question → List ℕ
four q = swept q.sheet q.orders 4 (start q)

abbrev pub marks_found : Case → Question → List ℕ → Bool
marks_found c q sets = leb 4 (room (start q)) && (at_rest q sets && marks_shown c sets)

-- the answers of the rules and of the worlds
abbrev pub answers : Case → Question → Bool
answers c q = marks_found c q (four q) && worlds_as c.agreeing q

abbrev pub domain_fits : Case → Sheet → Bool
domain_fits c d = is_within c && (lawful d && eqb d.fluents (length c.rows.now))

-- ---- what they show

below_each : (n : ℕ) (test : ℕ → Bool) → each_below n test ≡ true → (k : ℕ) → k < n → test k ≡ true
below_each zero test h k low = absurd (omega (arith, low))
below_each (suc n) test h k low =
    let parts = and_parts (test n) (each_below n test) h in
    ⊎_elim
    (λ (e : eqb k n ≡ true). subst (λ m. test m ≡ true) (sym (eqb-true k n e)) parts.0)
    (λ (e : eqb k n ≡ false). let apart = eqb-false k n e in below_each n test parts.1 k (omega (arith, low, apart)))
    (cases_Bool (eqb k n))

-- where k sweeps are enough, more add nothing
module _ (d : Sheet) (orders : List ℕ) where
  still_swept : (k : ℕ) (sets : List ℕ) → sweep d orders sets ≡ sets → swept d orders k sets ≡ sets
  unfolding swept
  still_swept zero sets rest = refl
  still_swept (suc k) sets rest = ap (swept d orders k) rest ∙ still_swept k sets rest

  pub settled : (k n : ℕ) (sets : List ℕ) → k ≤ n → sweep d orders (swept d orders k sets) ≡ swept d orders k sets → sweeps d orders n sets ≡ swept d orders k sets
  unfolding swept sweeps
  settled zero zero sets enough rest = refl
  settled zero (suc n) sets enough rest = rw ((same_decides (sweep d orders sets) sets).1 rest) refl
  settled (suc k) zero sets enough rest = absurd (omega (arith, enough))
  settled (suc k) (suc n) sets enough rest =
      ⊎_elim
      (λ (h : same (sweep d orders sets) sets ≡ true). rw h (sym (still_swept (suc k) sets ((same_decides (sweep d orders sets) sets).0 h))))
      (λ (h : same (sweep d orders sets) sets ≡ false). rw h (settled k n (sweep d orders sets) (omega (arith, enough)) rest))
      (cases_Bool (same (sweep d orders sets) sets))

found : (c : Case) (q : Question) → marks_found c q (four q) ≡ true → marks_shown c (closure q) ≡ true
unfolding closure
found c q h =
    let (room-enough, later) = and_parts (leb 4 (room (start q))) (at_rest q (four q) && marks_shown c (four q)) h in
    let (rest, marks) = and_parts (at_rest q (four q)) (marks_shown c (four q)) later in
    subst (λ sets. marks_shown c sets ≡ true)
    (sym (settled q.sheet q.orders 4 (room (start q)) (start q) (leb-true 4 (room (start q)) room-enough) ((same_decides (sweep q.sheet q.orders (four q)) (four q)).0 rest)))
    marks

told_table : (facts : List (ℕ × ℕ)) (sets : List ℕ) → IsTable sets → IsTable (with_told sets facts)
told_table [] sets table = table
told_table (f ∷ facts) sets table =
    told_table facts (told sets f.0 f.1) (record { long = length-set sets f.0 _ ∙ table.long; small = told_sets sets f.0 f.1 table.small })

module _ (q : Question) (asked : Askable q) where
  hidden : (t l : ℕ) → not (shows (closure q) t l) ≡ true → Known q t l → ⊥
  hidden t l h known = both_ways (shows (closure q) t l) (not-true (shows (closure q) t l) h) (known_closure q asked t l known)

  as_marked : (t f : ℕ) (mark : Option (Option Bool)) → shown_as (closure q) t f mark ≡ true → Marked q t f mark
  as_marked t f (Some (Some true)) h = closure_known q asked t (2 * f + 1) h
  as_marked t f (Some (Some false)) h = closure_known q asked t (2 * f) h
  as_marked t f (Some None) h =
      let parts = and_parts (not (shows (closure q) t (2 * f + 1))) (not (shows (closure q) t (2 * f))) h in
      (hidden t (2 * f + 1) parts.0, hidden t (2 * f) parts.1)
  as_marked t f None h = both_ways false refl h

  as_worlds : (agreeing : Bool) → worlds_as agreeing q ≡ true → cond agreeing (NoWorld q → ⊥) (NoWorld q)
  as_worlds true h =
      let none = same (in_all_worlds q) (full q.sheet.fluents (latest q)) in
      let decides = same_decides (in_all_worlds q) (full q.sheet.fluents (latest q)) in
      λ no_World. both_ways none (not-true none h) (decides.1 ((shows_true q asked).none_agrees no_World))
  as_worlds false h = (shows_true q asked).if_full ((same_decides (in_all_worlds q) (full q.sheet.fluents (latest q))).0 h)

within : (c : Case) → is_within c ≡ true → Within c
within c h = record {
  bytes = grind (arith, nat_tests);
  orders = grind (arith, nat_tests);
  facts = grind (arith, nat_tests);
  fluents = grind (arith, nat_tests);
  moments = λ k row low. eqb-true _ _ (AllPass-from_list_all (all_moments c) c.rows.now (grind (arith, nat_tests)) k row low);
}

module _ (c : Case) (d : Sheet) where
  abbrev q : Question
  q = question_of d c

  pub stands : read_domain c.domain.now ≡ Ok d → domain_fits c d ≡ true → marks_shown c (closure q) ≡ true → worlds_as c.agreeing q ≡ true → Stands c
  stands decoded fits marks worlds =
      let small = within c (grind (arith, nat_tests)) in
      let asked : Askable q = record {
        lawful_sheet = grind (arith, nat_tests);
        few = omega (arith, small.orders);
        table = told_table c.told.now empty (record { long = length-empty; small = empty_sets });
      } in
      record {
        within = small;
        sheet = d;
        decoded = decoded;
        all_fluents = grind (arith, nat_tests);
        by_rules = λ f t low soon.
            as_marked q asked t f (mark_of c t f)
            (below_each (suc (length c.orders.now)) (λ u. shown_as (closure q) u f (mark_of c u f))
            (below_each (length c.rows.now) (λ g. each_below (suc (length c.orders.now)) (λ u. shown_as (closure q) u g (mark_of c u g))) marks f low)
            t (omega (arith, soon)));
        by_worlds = as_worlds q asked c.agreeing worlds;
      }

-- ---- all that is computed

abbrev pub reading : Case → Result Sheet Refusal
reading c = read_domain c.domain.now

abbrev pub as_read : Case → Result Sheet Refusal → Bool
as_read c (Ok d) = domain_fits c d && answers c (question_of d c)
as_read c (Err e) = false

read_stands : (c : Case) (r : Result Sheet Refusal) → reading c ≡ r → as_read c r ≡ true → Stands c
read_stands c (Ok d) decoded h =
    let q = question_of d c in
    let (fits, right) = and_parts (domain_fits c d) (answers c q) h in
    let (marks, worlds) = and_parts (marks_found c q (four q)) (worlds_as c.agreeing q) right in
    stands c d decoded fits (found c q marks) worlds
read_stands c (Err e) decoded h = absurd (both_ways false refl h)

pub case_stands : (c : Case) → as_read c (reading c) ≡ true → Stands c
case_stands c h = read_stands c (reading c) refl h

-- what reading computes by
unfoldable pub opened : Unit {0}
unfolding read_domain bits_of numeral number number_at fill_end domain_field literals_at list_at effects_at actions_at groups_at lawful listed members members_from rising_effects clash_free
opened = tt

-- what the rules and the worlds compute by
unfoldable pub worked_out : Unit {0}
unfolding swept start told_from sweep passed all_grouped left_over may_come all_worked room bit place single at_place rotated of_first filled each_covers same common firing traced tells_true narrowed_all in_all_worlds count_trailing_zeros
worked_out = tt

-- how members of small sets are counted
unfoldable pub counted : Unit {0}
unfolding ones
counted = tt
