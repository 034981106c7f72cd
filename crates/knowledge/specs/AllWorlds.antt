-- What is true in all worlds that agree, found by trying every state. Assumes nothing.
use Rattle.std.specs.Prelude.{◌≡◌, ℕ, zero, suc, ◌+◌, ◌*◌, Bool, true, cond, ◌&&◌, List, [], ◌∷◌, ◌==◌, bit_and, bit_or, count_ones, slice_index, slice_set}
use Rattle.literals.specs.Literals.{with, without, covers, opposites, all}
use Rattle.literals.specs.Tables.{shows, empty, full, common}
use Rattle.domain.specs.Accessors.{effects_of}
use Rattle.domain.specs.Sheet.{Sheet, each}
use Rattle.domain.specs.declared.action.Effect.{Effect}
use Rattle.knowledge.specs.Questions.{Question, latest, in_reach, true_at, Agrees}
use Rattle.knowledge.specs.Reasoning.{Mind}
use Rattle.knowledge.specs.Sweeps.{caused}
use Rattle.knowledge.specs.Worlds.{State}

-- a state as the set of the literals that are true in it; the literals of the effects that fire there
unfoldable pub firing : List Effect → ℕ → ℕ
firing [] state = 0
firing (e ∷ es) state = bit_or (caused e state) (firing es state)

-- the state after effects
abbrev pub moved : List Effect → ℕ → ℕ
moved es state = bit_or (without state (opposites (firing es state))) (firing es state)

-- the states at the n moments after t, and at t, in a table
unfoldable pub traced : Sheet → List ℕ → ℕ → ℕ → ℕ → List ℕ → List ℕ
traced d orders zero t state sets = slice_set sets t state
traced d orders (suc n) t state sets = traced d orders n (suc t) (moved (effects_of d (slice_index orders t)) state) (slice_set sets t state)

-- the states of a world at all moments
abbrev pub trace : Question → ℕ → List ℕ
trace q state = traced q.sheet q.orders (latest q) 0 state empty

-- exactly one literal of a group is true
abbrev pub one_true : ℕ → ℕ → Bool
one_true state group = count_ones (bit_and group state) == 1

-- the state is that of a world at moment 0
abbrev pub is_world : Sheet → ℕ → Bool
is_world d state = covers state d.initial && each (one_true state) d.groups

-- each set of a table has the told facts of the first F fluents, at the n moments from t on
unfoldable pub tells_true : ℕ → List ℕ → ℕ → ℕ → List ℕ → Bool
tells_true F told zero t sets = true
tells_true F told (suc n) t sets = covers (slice_index sets t) (bit_and (slice_index told t) (all F)) && tells_true F told n (suc t) sets

-- a state starts a world that agrees
abbrev pub agrees : Question → ℕ → Bool
agrees q state = is_world q.sheet state && tells_true q.sheet.fluents q.told (suc (latest q)) 0 (trace q state)

-- a table with only the facts of the world that starts in a state, if that one agrees
abbrev pub narrowed : Question → ℕ → List ℕ → List ℕ
narrowed q state sets = cond (agrees q state) (common sets (trace q state)) sets

-- the same for all states that have the literals of a set and any values of the first k fluents
unfoldable pub narrowed_all : Question → ℕ → ℕ → List ℕ → List ℕ
narrowed_all q zero state sets = narrowed q state sets
narrowed_all q (suc k) state sets = narrowed_all q k (with state (2 * k + 1)) (narrowed_all q k (with state (2 * k)) sets)

-- what the world reasoner shows
unfoldable pub in_all_worlds : Question → List ℕ
in_all_worlds q = narrowed_all q q.sheet.fluents 0 (full q.sheet.fluents (latest q))

-- it takes 10 fluents
abbrev pub world_mind : Mind
world_mind = record { largest = 10; meaning = in_all_worlds }

-- a table shows exactly what is true in every agreeing world, so that it is full exactly where none agrees
pub record ShowsTrue (q : Question) (sets : List ℕ) : Type 0 where
  pub no_more : (t l : ℕ) → shows sets t l ≡ true → (in_reach q t l ≡ true) × ((s : State) → Agrees q s → true_at q s t l ≡ true)
  pub no_less : (t l : ℕ) → in_reach q t l ≡ true → ((s : State) → Agrees q s → true_at q s t l ≡ true) → shows sets t l ≡ true
  pub none_agrees : ((s : State) → Agrees q s → ⊥) → sets ≡ full q.sheet.fluents (latest q)
  pub if_full : sets ≡ full q.sheet.fluents (latest q) → (s : State) → Agrees q s → ⊥
