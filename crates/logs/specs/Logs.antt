-- What the records of a log hold. Assumes nothing.
use Rattle.std.specs.Prelude.{◌≡◌, ℕ, List, Ok, Err, Result}
use Rattle.literals.specs.Recorded.{recorded}
use Rattle.literals.specs.declared.table.Table.{Table}
use Rattle.domain.specs.Domains.{sheet}
use Rattle.domain.specs.Sheet.{Sheet}
use Rattle.logs.specs.Calls.{State, opened}
use Rattle.logs.specs.declared.log.Log.{Log}
use Rattle.logs.specs.declared.log.NotOpened.{NotOpened}
use Rattle.logs.specs.declared.refusal.Refusal.{Refusal}
use Rattle.logs.specs.declared.slip.NotAnswered.{NotAnswered}
use Rattle.logs.specs.declared.slip.Slip.{Slip}

abbrev pub state_of : {R : Type 0} → Log R → State
state_of log = record { sheet = sheet log.domain; orders = recorded log.state.orders; told = log.state.told.sets; owed = log.state.owed.moments }

-- what a call leaves of a log: it holds this, and its reasoner stays
pub record Leaves {R : Type 0} (st : State) (old new : Log R) : Type 0 where
  pub moved : state_of new ≡ st
  pub reasoner : new.reasoner ≡ old.reasoner

-- an answer, with the sets of its table
abbrev pub shown_by : {E : Type 0} → Result Table E → Result (List ℕ) E
shown_by (Ok t) = Ok t.sets
shown_by (Err e) = Err e

-- an answer, with the action and the moment of its slip
abbrev pub slip_of : {E : Type 0} → Result Slip E → Result (ℕ × ℕ) E
slip_of (Ok s) = Ok (s.action, s.moment)
slip_of (Err e) = Err e

-- an accepted look hands out a slip
abbrev pub handed : {E : Type 0} → ℕ → ℕ → Result (Unit {0}) E → Result (ℕ × ℕ) E
handed a t (Ok x) = Ok (a, t)
handed a t (Err e) = Err e

-- an answer to opening, with what the log holds and its reasoner, or with the refusal and the reasoner handed back
abbrev pub opened_of : {R : Type 0} → Result (Log R) (NotOpened R) → Result (State × R) (Refusal × R)
opened_of (Ok log) = Ok (state_of log, log.reasoner)
opened_of (Err e) = Err (e.refusal, e.reasoner)

abbrev pub begun : {R : Type 0} → Sheet → R → Result (Unit {0}) Refusal → Result (State × R) (Refusal × R)
begun d reasoner (Ok x) = Ok (opened d, reasoner)
begun d reasoner (Err e) = Err (e, reasoner)

-- a refused answer, with the action and the moment of the slip handed back
abbrev pub answered_of : Result (Unit {0}) NotAnswered → Result (Unit {0}) (Refusal × (ℕ × ℕ))
answered_of (Ok x) = Ok x
answered_of (Err e) = Err (e.refusal, (e.slip.action, e.slip.moment))

abbrev pub handed_back : ℕ → ℕ → Result (Unit {0}) Refusal → Result (Unit {0}) (Refusal × (ℕ × ℕ))
handed_back a t (Ok x) = Ok x
handed_back a t (Err e) = Err (e, (a, t))
