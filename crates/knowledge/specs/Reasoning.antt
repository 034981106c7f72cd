-- What every reasoner keeps. Assumes nothing.
use Rattle.std.specs.Prelude.{◌≡◌, ℕ, ◌<◌, ◌≤◌, true, false, List, [], ◌∷◌, ◌++◌}
use Rattle.literals.specs.Tables.{shows, is_full}
use Rattle.knowledge.specs.Questions.{Question, latest, in_reach, counts, true_at, Agrees, IsTable, Askable}
use Rattle.knowledge.specs.Worlds.{State}

-- what a reasoner shows, as a function of the question, and the most fluents that it takes
pub record Mind : Type 0 where
  pub largest : ℕ
  pub meaning : Question → List ℕ

-- the question with another table of told facts
abbrev pub told_instead : Question → List ℕ → Question
told_instead q told = record { sheet = q.sheet; orders = q.orders; told = told }

-- the question with one order or look more
abbrev pub one_more : Question → ℕ → Question
one_more q a = record { sheet = q.sheet; orders = q.orders ++ a ∷ []; told = q.told }

-- what a reasoner answers: a lawful question with no more fluents than it takes
pub record Answerable (m : Mind) (q : Question) : Type 0 where
  pub askable : Askable q
  pub within : q.sheet.fluents ≤ m.largest

-- the five laws, and that a shown table has nothing out of reach
pub record Laws (m : Mind) : Type 0 where
  pub table : (q : Question) → Answerable m q → IsTable (m.meaning q)
  pub reach : (q : Question) → Answerable m q → (t l : ℕ) → shows (m.meaning q) t l ≡ true → in_reach q t l ≡ true
  -- each told fact that counts is shown
  pub told_shown : (q : Question) → Answerable m q → (t l : ℕ) → counts q t l ≡ true → shows (m.meaning q) t l ≡ true
  -- more told never means less shown
  pub more_told : (q : Question) (told : List ℕ) → Answerable m q → Answerable m (told_instead q told)
      → ((t l : ℕ) → counts q t l ≡ true → counts (told_instead q told) t l ≡ true)
      → (t l : ℕ) → shows (m.meaning q) t l ≡ true → shows (m.meaning (told_instead q told)) t l ≡ true
  -- told what it shows, it shows the same
  pub shown_told : (q : Question) → Answerable m q → m.meaning (told_instead q (m.meaning q)) ≡ m.meaning q
  -- each fact shown is true in every world that agrees with the told facts under these orders
  pub sound : (q : Question) → Answerable m q → (s : State) → Agrees q s → (t l : ℕ) → shows (m.meaning q) t l ≡ true → true_at q s t l ≡ true
  -- with nothing told later than now, one order or look more alters nothing shown up to the old now
  pub later : (q : Question) (a : ℕ) → Answerable m q → Answerable m (one_more q a)
      → ((t l : ℕ) → latest q < t → shows q.told t l ≡ false)
      → (t l : ℕ) → t ≤ latest q → shows (m.meaning (one_more q a)) t l ≡ shows (m.meaning q) t l
  -- and a table that was not full does not become full
  pub not_fuller : (q : Question) (a : ℕ) → Answerable m q → Answerable m (one_more q a)
      → ((t l : ℕ) → latest q < t → shows q.told t l ≡ false)
      → is_full q.sheet.fluents (latest (one_more q a)) (m.meaning (one_more q a)) ≡ true
      → is_full q.sheet.fluents (latest q) (m.meaning q) ≡ true
