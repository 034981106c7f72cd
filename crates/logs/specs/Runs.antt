-- What holds of logs however they are called. Assumes nothing.
use Rattle.std.specs.Prelude.{◌≡◌, ℕ, ◌≤◌, Bool, true, false, List, [], ◌∷◌, Ok}
use Rattle.literals.specs.Tables.{shows, is_full}
use Rattle.domain.specs.Sheet.{lawful}
use Rattle.knowledge.specs.Questions.{Question, true_at, Agrees}
use Rattle.knowledge.specs.Reasoning.{Mind}
use Rattle.knowledge.specs.Worlds as worlds
use Rattle.logs.specs.Calls.{State, opened, latest, asked_with, history, opening, Call, step}

-- the log after a list of calls, whatever they answered
unfoldable pub run : Mind → State → List Call → State
run m st [] = st
run m st (call ∷ calls) = run m (step m st call) calls

-- a log that was opened for a lawful sheet, and then called in any way
pub record Kept (m : Mind) (st : State) : Type 0 where
  pub sheet_lawful : lawful st.sheet ≡ true
  pub was_opened : opening m st.sheet ≡ Ok tt
  pub calls : List Call
  pub by_calls : st ≡ run m (opened st.sheet) calls

-- each fact that the one was told is shown by the other
abbrev pub ToldShown : State → List ℕ → Type 0
ToldShown st shown = (t l : ℕ) → shows st.told t l ≡ true → shows shown t l ≡ true

-- a log's history has only what is true in every world of its sheet that agrees with its told facts
abbrev pub HistoryTrue : Mind → State → Type 0
HistoryTrue m st =
    (s : worlds.State) → Agrees (asked_with st st.told) s → (t l : ℕ) → shows (history m st) t l ≡ true → true_at (asked_with st st.told) s t l ≡ true

-- two logs of one sheet and one meaning, with the same orders and looks: their histories are equal exactly when each shows every fact that the other was told
pub record Compared (m n : Mind) (st ot : State) : Type 0 where
  pub equal_then : Kept m st → Kept n ot → st.sheet ≡ ot.sheet → st.orders ≡ ot.orders → ((q : Question) → m.meaning q ≡ n.meaning q)
      → history m st ≡ history n ot → ToldShown st (history n ot) × ToldShown ot (history m st)
  pub then_equal : Kept m st → Kept n ot → st.sheet ≡ ot.sheet → st.orders ≡ ot.orders → ((q : Question) → m.meaning q ≡ n.meaning q)
      → ToldShown st (history n ot) → ToldShown ot (history m st) → history m st ≡ history n ot
  pub one_true : Kept m st → HistoryTrue m st
  pub other_true : Kept n ot → HistoryTrue n ot

-- a log that was opened never has the full table, and its reasoner takes its domain, so that no call is refused by 9
pub record NeverFull (m : Mind) (st : State) : Type 0 where
  pub not_full : Kept m st → is_full st.sheet.fluents (latest st) (history m st) ≡ false
  pub taken : Kept m st → st.sheet.fluents ≤ m.largest

-- a comparison is answered by yes exactly when each log shows every fact that the other was told
pub record Decided (b : Bool) (m n : Mind) (st ot : State) : Type 0 where
  pub if_so : b ≡ true → ToldShown st (history n ot) × ToldShown ot (history m st)
  pub so_if : ToldShown st (history n ot) → ToldShown ot (history m st) → b ≡ true
