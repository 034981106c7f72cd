-- What every log keeps, however it is called, and when two logs show the same history. Assumes nothing.
use Rattle.std.proofs.Common.{◌≡◌, ℕ, ◌+◌, ◌*◌, ◌<◌, ◌≤◌, Bool, true, false, cond, ◌&&◌, eqb, ltb, leb, List, [], ◌∷◌, ◌++◌, length, get_or, is_ok, Some, None, Ok, Err, Option, Result, sym, refl, ap, ◌∙◌, subst, ⊎_elim, arith}
use Rattle.std.proofs.lemmas.List.{length-append, length-set}
use Rattle.std.proofs.lemmas.Bool.{cases_Bool, cond_both, and_parts, and_from, or_cases, both_ways, eqb-true, ltb-true, leb-true, lt-ltb, le-leb, false≢true}
use Rattle.literals.specs.Literals.{fluent, with}
use Rattle.literals.specs.Tables.{shows, empty, is_full, told as with_fact}
use Rattle.literals.proofs.Laws.{length-empty, empty_sets, told_sets, shows-empty, shows-told, same_facts}
use Rattle.domain.specs.Accessors.{sensed_of}
use Rattle.domain.specs.Sheet.{Sheet, lawful}
use Rattle.domain.proofs.Laws.{lawful_sensed}
use Rattle.knowledge.specs.Questions.{Question, in_reach, counts, IsTable}
use Rattle.knowledge.specs.Reasoning.{Mind, Laws, Answerable, told_instead, one_more}
use Rattle.knowledge.proofs.Laws.{reach_early, reach_more, same_tests}
use Rattle.logs.specs.declared.refusal.Refusal.{Refusal}
use Rattle.logs.specs.Calls.{State, opened, latest, asked_with, history, opening, admitted, owes, sensed_literal, telling, ended, answering_with, answered_with}
use Rattle.logs.specs.Calls.{Call, order, look, answer, lost, report, answer_to, accepted, step}
use Rattle.logs.specs.Runs.{run, Kept, ToldShown, HistoryTrue, Compared, NeverFull}

-- ---- what an accepted call passed

-- a test that leads to a refusal where it fails, and one that leads to a refusal where it is passed
passed : {X : Type 0} (test : Bool) (r : Result X Refusal) (e : Refusal) → is_ok (cond test r (Err e)) ≡ true → (test ≡ true) × (is_ok r ≡ true)
passed true r e h = (refl, h)
passed false r e h = absurd (false≢true h)

not_failed : (test : Bool) (e : Refusal) → is_ok {T = Unit {0}} (cond test (Err e) (Ok tt)) ≡ true → test ≡ false
not_failed true e h = absurd (false≢true h)
not_failed false e h = refl

-- an action is accepted only before the last moment
admitted_early : (m : Mind) (st : State) (a : ℕ) (right_kind : Bool) → is_ok (admitted m st a right_kind) ≡ true → latest st < 32
unfolding admitted
admitted_early m st a right_kind h =
    let known = passed (ltb a (length st.sheet.actions)) _ _ h in
    let kind = passed right_kind _ _ known.1 in
    ltb-true (latest st) 32 (passed (ltb (latest st) 32) _ _ kind.1).0

-- either literal of a fluent that a sheet has is one of the sheet's
of_fluent : (f F : ℕ) (yes_told : Bool) → f < F → fluent (2 * f + cond yes_told 1 0) < F
of_fluent f F true h = omega arith
of_fluent f F false h = omega arith

-- ---- a consistent log

-- its reasoner answers its question, each told fact is in reach, and the table is not full
pub record Consistent (m : Mind) (st : State) : Type 0 where
  pub answerable : Answerable m (asked_with st st.told)
  pub told_near : (t l : ℕ) → shows st.told t l ≡ true → in_reach (asked_with st st.told) t l ≡ true
  pub not_full : is_full st.sheet.fluents (latest st) (history m st) ≡ false

-- a new log is consistent
pub opened_consistent : (m : Mind) (d : Sheet) → lawful d ≡ true → opening m d ≡ Ok tt → Consistent m (opened d)
opened_consistent m d ok was_opened =
    let taken = passed (leb d.fluents m.largest) _ _ (ap is_ok was_opened) in
    let nothing : IsTable empty = record { long = length-empty; small = empty_sets } in
    record {
      answerable = record { askable = record { lawful_sheet = ok; few = omega arith; table = nothing }; within = leb-true d.fluents m.largest taken.0 };
      told_near = λ t l h. absurd (both_ways (shows empty t l) (shows-empty t l) h);
      not_full = not_failed (is_full d.fluents 0 (history m (opened d))) _ taken.1;
    }

module _ (m : Mind) (laws : Laws m) (st : State) (now : Consistent m st) where
  -- nothing is told later than now
  untold : (t l : ℕ) → latest st < t → shows st.told t l ≡ false
  untold t l later =
      ⊎_elim
      (λ (h : shows st.told t l ≡ true). absurd (omega (arith, later, reach_early (asked_with st st.told) t l (now.told_near t l h))))
      (λ (h : shows st.told t l ≡ false). h)
      (cases_Bool (shows st.told t l))

  -- one order or look more keeps a log consistent, whatever is owed then
  ordered_consistent : (a : ℕ) (owed : List Bool) → latest st < 32
      → Consistent m (record { sheet = st.sheet; orders = st.orders ++ a ∷ []; told = st.told; owed = owed })
  ordered_consistent a owed early =
      let q = asked_with st st.told in
      let longer : length (st.orders ++ a ∷ []) ≡ length st.orders + 1 = length-append st.orders (a ∷ []) in
      let more : Answerable m (one_more q a) = record {
        askable = record { lawful_sheet = now.answerable.askable.lawful_sheet; few = omega (arith, longer, early); table = now.answerable.askable.table };
        within = now.answerable.within;
      } in
      record {
        answerable = more;
        told_near = λ t l h. reach_more q a t l (now.told_near t l h);
        not_full = ⊎_elim
            (λ (h : is_full st.sheet.fluents (length (st.orders ++ a ∷ [])) (m.meaning (one_more q a)) ≡ true).
            absurd (both_ways (is_full st.sheet.fluents (latest st) (history m st)) now.not_full (laws.not_fuller q a now.answerable more untold h)))
            (λ (h : is_full st.sheet.fluents (length (st.orders ++ a ∷ [])) (m.meaning (one_more q a)) ≡ false). h)
            (cases_Bool (is_full st.sheet.fluents (length (st.orders ++ a ∷ [])) (m.meaning (one_more q a))));
      }

  -- a fact that is in reach and taken keeps a log consistent, whatever is owed then
  told_consistent : (l t : ℕ) (owed : List Bool) → t ≤ latest st → fluent l < st.sheet.fluents → is_ok (telling m st l t) ≡ true
      → Consistent m (record { sheet = st.sheet; orders = st.orders; told = with_fact st.told t l; owed = owed })
  told_consistent l t owed soon known taken =
      let asked = now.answerable.askable in
      let table : IsTable (with_fact st.told t l) = record {
        long = length-set st.told t (with (get_or st.told t 0) l) ∙ asked.table.long;
        small = told_sets st.told t l asked.table.small;
      } in
      let tested = passed (leb st.sheet.fluents m.largest) _ _ taken in
      let fits : t < length st.told = omega (arith, asked.few, asked.table.long, soon) in
      record {
        answerable = record { askable = record { lawful_sheet = asked.lawful_sheet; few = asked.few; table = table }; within = now.answerable.within };
        told_near = λ u k h.
            ⊎_elim
            (λ (old : shows st.told u k ≡ true). now.told_near u k old)
            (λ (new : (eqb u t && (ltb l 64 && eqb k l)) ≡ true).
            let when = and_parts (eqb u t) (ltb l 64 && eqb k l) new in
            let what = and_parts (ltb l 64) (eqb k l) when.1 in
            rw (eqb-true u t when.0, eqb-true k l what.1)
            (and_from (leb t (latest st)) (ltb (fluent l) st.sheet.fluents) (le-leb t (latest st) soon) (lt-ltb (fluent l) st.sheet.fluents known)))
            (or_cases (shows st.told u k) (eqb u t && (ltb l 64 && eqb k l)) (sym (shows-told st.told t l u k fits) ∙ h));
        not_full = not_failed (is_full st.sheet.fluents (latest st) (m.meaning (asked_with st (with_fact st.told t l)))) _ tested.1;
      }

  -- ending an owed look changes nothing that is asked
  ended_consistent : (t : ℕ) → Consistent m (ended st t)
  ended_consistent t = record { answerable = now.answerable; told_near = now.told_near; not_full = now.not_full }

  -- an answer tells the fluent that its action senses, which is one of the sheet's
  answered_consistent : (t : ℕ) (yes_told : Bool) (sensed : Option ℕ) → t < latest st → ((f : ℕ) → sensed ≡ Some f → f < st.sheet.fluents)
      → is_ok (answering_with m st t (sensed_literal sensed yes_told)) ≡ true → Consistent m (answered_with st t (sensed_literal sensed yes_told))
  answered_consistent t yes_told (Some f) early known taken =
      told_consistent (2 * f + cond yes_told 1 0) t _ (omega (arith, early)) (of_fluent f st.sheet.fluents yes_told (known f refl)) taken
  answered_consistent t yes_told None early known taken = absurd (false≢true taken)

  -- an accepted call keeps a log consistent
  pub accepted_consistent : (call : Call) → is_ok (answer_to m st call) ≡ true → Consistent m (accepted st call)
  accepted_consistent (order a) ok = ordered_consistent a _ (admitted_early m st a _ ok)
  accepted_consistent (look a) ok = ordered_consistent a _ (admitted_early m st a _ ok)
  accepted_consistent (answer a t yes_told) ok =
      let passes = passed (owes st a t) _ _ ok in
      let still = and_parts (get_or st.owed t false) _ passes.0 in
      let early = and_parts (ltb t (latest st)) (eqb (get_or st.orders t 0) a) still.1 in
      answered_consistent t yes_told (sensed_of st.sheet a) (ltb-true t (latest st) early.0)
      (λ f e. lawful_sensed st.sheet now.answerable.askable.lawful_sheet a f e) passes.1
  accepted_consistent (lost a t) ok = ended_consistent t
  accepted_consistent (report l t) ok =
      let known = passed (ltb (fluent l) st.sheet.fluents) _ _ ok in
      let soon = passed (leb t (latest st)) _ _ known.1 in
      told_consistent l t _ (leb-true t (latest st) soon.0) (ltb-true (fluent l) st.sheet.fluents known.0) soon.1

  -- and a refused one changes nothing
  pub step_consistent : (call : Call) → Consistent m (step m st call)
  step_consistent call =
      cond_both (is_ok (answer_to m st call)) (accepted st call) st (λ next. Consistent m next) (λ ok. accepted_consistent call ok) (λ _. now)

-- however a consistent log is called, it stays consistent
pub run_consistent : (m : Mind) → Laws m → (calls : List Call) (st : State) → Consistent m st → Consistent m (run m st calls)
unfolding run
run_consistent m laws [] st now = now
run_consistent m laws (call ∷ calls) st now = run_consistent m laws calls (step m st call) (step_consistent m laws st now call)

-- every log that was opened for a lawful sheet is consistent
pub kept_consistent : (m : Mind) → Laws m → (st : State) → Kept m st → Consistent m st
kept_consistent m laws st kept =
    subst (λ s. Consistent m s) (sym kept.by_calls)
    (run_consistent m laws kept.calls (opened st.sheet) (opened_consistent m st.sheet kept.sheet_lawful kept.was_opened))

-- ---- what follows of every log

-- a log that was opened never has the full table, and its reasoner takes its domain
pub never_full : (m : Mind) → Laws m → (st : State) → NeverFull m st
never_full m laws st =
    record {
      not_full = λ kept. (kept_consistent m laws st kept).not_full;
      taken = λ kept. (kept_consistent m laws st kept).answerable.within;
    }

-- a history is true wherever its question can be answered
pub answerable_true : (m : Mind) → Laws m → (st : State) → Answerable m (asked_with st st.told) → HistoryTrue m st
answerable_true m laws st w s agrees t l h = laws.sound (asked_with st st.told) w s agrees t l h

pub history_true : (m : Mind) → Laws m → (st : State) → Kept m st → HistoryTrue m st
history_true m laws st kept = answerable_true m laws st (kept_consistent m laws st kept).answerable

-- ---- two logs

-- what a log was told, it shows
told_in_history : (m : Mind) → Laws m → (st : State) → Consistent m st → ToldShown st (history m st)
told_in_history m laws st now t l h =
    let q = asked_with st st.told in
    laws.told_shown q now.answerable t l (and_from (shows st.told t l) (in_reach q t l) h (now.told_near t l h))

-- a log shows no more than another that shows each fact it was told
no_more : (m n : Mind) → Laws m → Laws n → (st ot : State) → Consistent m st → Consistent n ot → st.sheet ≡ ot.sheet → st.orders ≡ ot.orders
    → ((q : Question) → m.meaning q ≡ n.meaning q) → ToldShown st (history n ot) → (t l : ℕ) → shows (history m st) t l ≡ true → shows (history n ot) t l ≡ true
no_more m n m-laws n-laws st ot one other same_sheet same_orders same told t l h =
    let q = asked_with st st.told in
    let p = asked_with ot ot.told in
    let asked = one.answerable.askable in
    let instead : Answerable m (told_instead q (history n ot)) = record {
      askable = record { lawful_sheet = asked.lawful_sheet; few = asked.few; table = n-laws.table p other.answerable };
      within = one.answerable.within;
    } in
    let more : (u k : ℕ) → counts q u k ≡ true → counts (told_instead q (history n ot)) u k ≡ true = λ u k c.
    let parts = and_parts (shows st.told u k) (in_reach q u k) c in
    and_from (shows (history n ot) u k) (in_reach q u k) (told u k parts.0) parts.1 in
    let shown = m-laws.more_told q (history n ot) one.answerable instead more t l h in
    let question : told_instead q (history n ot) ≡ told_instead p (history n ot) = cc in
    let back : m.meaning (told_instead q (history n ot)) ≡ history n ot =
    same (told_instead q (history n ot)) ∙ ap (λ x. n.meaning x) question ∙ n-laws.shown_told p other.answerable in
    subst (λ x. shows x t l ≡ true) back shown

-- two logs of one sheet and one meaning, with the same orders and looks, show the same exactly when each shows what the other was told
pub compared : (m n : Mind) → Laws m → Laws n → (st ot : State) → Compared m n st ot
compared m n m-laws n-laws st ot =
    record {
      equal_then = λ one other same_sheet same_orders same e. (
        subst (λ shown. ToldShown st shown) e (told_in_history m m-laws st (kept_consistent m m-laws st one)),
        subst (λ shown. ToldShown ot shown) (sym e) (told_in_history n n-laws ot (kept_consistent n n-laws ot other)),
      );
      then_equal = λ one other same_sheet same_orders same one_told other_told.
          let st_now = kept_consistent m m-laws st one in
          let ot_now = kept_consistent n n-laws ot other in
          let st_table = m-laws.table (asked_with st st.told) st_now.answerable in
          let ot_table = n-laws.table (asked_with ot ot.told) ot_now.answerable in
          same_facts (history m st) (history n ot) (st_table.long ∙ sym ot_table.long) st_table.small ot_table.small
          (λ t l.
          same_tests (shows (history m st) t l) (shows (history n ot) t l)
          (no_more m n m-laws n-laws st ot st_now ot_now same_sheet same_orders same one_told t l)
          (no_more n m n-laws m-laws ot st ot_now st_now (sym same_sheet) (sym same_orders) (λ q. sym (same q)) other_told t l));
      one_true = λ one. history_true m m-laws st one;
      other_true = λ other. history_true n n-laws ot other;
    }
