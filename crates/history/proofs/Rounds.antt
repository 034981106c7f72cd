-- One order or look of a pass, and one sweep more. Assumes nothing.
use Rattle.std.proofs.Common.{◌≡◌, ℕ, zero, suc, ◌+◌, ◌<◌, true, false, not, ◌≢◌, List, [], refl, sym, ◌∙◌, ⊎_elim, arith}
use Rattle.std.proofs.lemmas.Bool.{both_ways, not-true, not-false}
use Rattle.literals.specs.Recorded.{recorded}
use Rattle.literals.specs.Tables.{same}
use Rattle.literals.specs.declared.orders.Orders.{Orders}
use Rattle.literals.specs.declared.table.Table.{Table}
use Rattle.literals.proofs.Laws.{same_decides}
use Rattle.domain.specs.Domains.{sheet}
use Rattle.domain.specs.Sheet.{Sheet}
use Rattle.domain.specs.declared.record.Domain.{Domain}
use Rattle.knowledge.specs.Questions.{Question}
use Rattle.knowledge.specs.Sweeps.{turned, passed, sweep, sweeps, room}
use Rattle.reasoner.proofs.Laws.{is_table, few_recorded}
use Rattle.knowledge.proofs.Laws.{Fitting, fitting_of, sweep_falls, sweeps_done, sweeps_again}

-- one order or look more, the last one
pub passed-suc : (d : Sheet) (orders : List ℕ) (n t last : ℕ) (sets : List ℕ) → last ≡ n + t → passed d orders (suc n) t sets ≡ turned d orders last (passed d orders n t sets)
unfolding passed
passed-suc d orders zero t last sets is =
    let here : last ≡ t = omega arith in
    rw here refl
passed-suc d orders (suc n) t last sets is = passed-suc d orders n (suc t) last (turned d orders t sets) (omega arith)

module _ (d : Domain) (o : Orders) where
  -- sweeps do not read what was told
  abbrev untold : Question
  untold = record { sheet = sheet d; orders = recorded o; told = [] }

  fits : Fitting (record { sheet = sheet d; orders = recorded o; told = [] })
  fits = fitting_of untold d.lawful (few_recorded o)

  -- a sweep that adds leaves less room
  pub falls : (before : Table) (after : List ℕ) → after ≡ sweep (sheet d) (recorded o) before.sets → not (same after before.sets) ≡ true → room after < room before.sets
  falls before after is added =
      ⊎_elim
      (λ (done : sweep (sheet d) (recorded o) before.sets ≡ before.sets).
      absurd (both_ways _ (not-true _ added) ((same_decides after before.sets).1 (is ∙ done))))
      (λ (less : room (sweep (sheet d) (recorded o) before.sets) < room before.sets). rw is less)
      (sweep_falls untold fits before.sets (is_table before))

  -- sweeps go on after one that adds
  pub go_on : (before : Table) (after : List ℕ) → after ≡ sweep (sheet d) (recorded o) before.sets → true ≡ not (same after before.sets)
      → sweeps (sheet d) (recorded o) (room after) after ≡ sweeps (sheet d) (recorded o) (room before.sets) before.sets
  go_on before after is added =
      let differs : sweep (sheet d) (recorded o) before.sets ≢ before.sets = λ done. both_ways _ (not-true _ (sym added)) ((same_decides after before.sets).1 (is ∙ done)) in
      rw is (sweeps_again untold fits before.sets (is_table before) differs)

  -- and end with one that adds nothing
  pub all_swept : (before : Table) (after : List ℕ) → after ≡ sweep (sheet d) (recorded o) before.sets → false ≡ not (same after before.sets)
      → after ≡ sweeps (sheet d) (recorded o) (room before.sets) before.sets
  all_swept before after is added =
      let done = (same_decides after before.sets).0 (not-false _ (sym added)) in
      done ∙ sym (sweeps_done untold fits (room before.sets) before.sets (sym is ∙ done))
