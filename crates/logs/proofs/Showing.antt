-- What a shown history promises. Assumes nothing.
use Rattle.std.proofs.Common.{◌≡◌, ◌≤◌, Bool, true, false, cond, leb, IfOk, Ok, Err, Result, sym, refl, subst}
use Rattle.std.proofs.lemmas.Bool.{leb-true}
use Rattle.knowledge.specs.Questions.{Askable}
use Rattle.knowledge.specs.Reasoning.{Mind, Laws}
use Rattle.logs.specs.Calls.{State, asked_with, if_taken}
use Rattle.logs.specs.Runs.{HistoryTrue}
use Rattle.logs.specs.declared.refusal.Refusal.{Refusal}
use Rattle.logs.proofs.RunLaws.{answerable_true}

-- accepted where a test passes
abbrev tested : Bool → Refusal → Result (Unit {0}) Refusal
tested b e = cond b (Ok tt) (Err e)

module _ (m : Mind) (laws : Laws m) (st : State) (asked : Askable (asked_with st st.told)) where
  by_test : (b : Bool) (e : Refusal) → (b ≡ true → st.sheet.fluents ≤ m.largest) → IfOk (tested b e) (λ _. HistoryTrue m st)
  by_test true e few = answerable_true m laws st (record { askable = asked; within = few refl })
  by_test false e few = tt

  pub shown_true : (r : Result (Unit {0}) Refusal) → r ≡ if_taken m st (Ok tt) → IfOk r (λ _. HistoryTrue m st)
  shown_true r is = subst (λ x. IfOk x (λ _. HistoryTrue m st)) (sym is) (by_test (leb st.sheet.fluents m.largest) _ (leb-true _ _))
