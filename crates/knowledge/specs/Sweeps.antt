-- Closing a table of facts by sweeps over the moments. Assumes nothing.
use Rattle.std.specs.Prelude.{ℕ, zero, suc, ◌+◌, ◌-◌, ◌^◌, Bool, false, cond, not, ◌&&◌, ◌||◌, List, [], ◌∷◌, length, ◌==◌, bit_and, bit_or, count_ones, slice_index, slice_set}
use Rattle.std.specs.Int.Count.{count_trailing_zeros}
use Rattle.literals.specs.Literals.{opposite, has, single, without, covers, opposites, all}
use Rattle.literals.specs.Tables.{empty, full, same}
use Rattle.domain.specs.Accessors.{effects_of}
use Rattle.domain.specs.Sheet.{Sheet}
use Rattle.domain.specs.declared.action.Effect.{Effect}
use Rattle.knowledge.specs.Questions.{Question, latest}

-- the members of a set such that all others are known: each where all are, the one left over where all but one are, else none
unfoldable pub left_over : ℕ → ℕ → ℕ
left_over s known =
    cond (count_ones (without s known) == 0) s (cond (count_ones (without s known) == 1) (2 ^ count_trailing_zeros 64 (without s known)) 0)

-- the facts of moment 0 with what a group gives
abbrev pub grouped : ℕ → ℕ → ℕ
grouped facts g = bit_or facts (bit_or (opposites (without g (left_over g (without g facts)))) (left_over g (opposites facts)))

unfoldable pub all_grouped : List ℕ → ℕ → ℕ
all_grouped [] facts = facts
all_grouped (g ∷ gs) facts = all_grouped gs (grouped facts g)

-- an effect is open: the opposite of none of its conditions is known
abbrev pub is_open : ℕ → Effect → Bool
is_open facts e = bit_and e.conditions (opposites facts) == 0

-- the literals of the open effects
unfoldable pub may_come : List Effect → ℕ → ℕ
may_come [] facts = 0
may_come (e ∷ es) facts = bit_or (cond (is_open facts e) (single e.literal) 0) (may_come es facts)

-- the facts of two moments with what inertia gives
abbrev pub kept : List Effect → ℕ × ℕ → ℕ × ℕ
kept es p = (bit_or p.0 (without p.1 (may_come es p.0)), bit_or p.1 (without p.0 (opposites (may_come es p.0))))

-- the facts of two moments with what an effect gives by postdiction and by cause
abbrev pub came : Effect → ℕ → ℕ → ℕ
came e a b = cond (has b e.literal && has a (opposite e.literal)) e.conditions 0

abbrev pub came_not : Effect → ℕ → ℕ → ℕ
came_not e a b = cond (has b (opposite e.literal)) (opposites (left_over e.conditions a)) 0

abbrev pub caused : Effect → ℕ → ℕ
caused e a = cond (covers a e.conditions) (single e.literal) 0

abbrev pub worked : Effect → ℕ × ℕ → ℕ × ℕ
worked e p = (bit_or p.0 (bit_or (came e p.0 p.1) (came_not e p.0 p.1)), bit_or p.1 (caused e p.0))

unfoldable pub all_worked : List Effect → ℕ × ℕ → ℕ × ℕ
all_worked [] p = p
all_worked (e ∷ es) p = all_worked es (worked e p)

-- the facts of two moments with what the effects between them give
abbrev pub between : List Effect → ℕ × ℕ → ℕ × ℕ
between es p = all_worked es (kept es p)

-- the table with other sets at a moment and the next
abbrev pub put_both : List ℕ → ℕ → ℕ × ℕ → List ℕ
put_both sets t p = slice_set (slice_set sets t p.0) (suc t) p.1

-- the table with what the order or look at a moment gives
abbrev pub turned : Sheet → List ℕ → ℕ → List ℕ → List ℕ
turned d orders t sets = put_both sets t (between (effects_of d (slice_index orders t)) (slice_index sets t, slice_index sets (suc t)))

-- the same for n moments from t on
unfoldable pub passed : Sheet → List ℕ → ℕ → ℕ → List ℕ → List ℕ
passed d orders zero t sets = sets
passed d orders (suc n) t sets = passed d orders n (suc t) (turned d orders t sets)

-- a sweep: the groups, and all orders and looks
unfoldable pub sweep : Sheet → List ℕ → List ℕ → List ℕ
sweep d orders sets = passed d orders (length orders) 0 (slice_set sets 0 (all_grouped d.groups (slice_index sets 0)))

-- sweeps until one adds nothing, at most n
unfoldable pub sweeps : Sheet → List ℕ → ℕ → List ℕ → List ℕ
sweeps d orders zero sets = sets
sweeps d orders (suc n) sets = cond (same (sweep d orders sets) sets) sets (sweeps d orders n (sweep d orders sets))

-- how much the numbers of the sets can still grow
unfoldable pub room : List ℕ → ℕ
room [] = 0
room (s ∷ sets) = (2 ^ 64 - s) + room sets

-- the told facts of the first F fluents, for the n moments from t on
unfoldable pub told_from : ℕ → List ℕ → ℕ → ℕ → List ℕ → List ℕ
told_from F told zero t sets = sets
told_from F told (suc n) t sets = told_from F told n (suc t) (slice_set sets t (bit_and (slice_index told t) (all F)))

-- the table with the initial literals at moment 0
abbrev pub with_initial : ℕ → List ℕ → List ℕ
with_initial initial sets = slice_set sets 0 (bit_or (slice_index sets 0) initial)

-- the told facts that count and the initial literals
unfoldable pub start : Question → List ℕ
start q = with_initial q.sheet.initial (told_from q.sheet.fluents q.told (suc (latest q)) 0 empty)

-- the facts that follow by the rules
unfoldable pub closure : Question → List ℕ
closure q = sweeps q.sheet q.orders (room (start q)) (start q)

-- a literal and its opposite at one moment
unfoldable pub clash : List ℕ → Bool
clash [] = false
clash (s ∷ sets) = not (bit_and s (opposites s) == 0) || clash sets

-- what the history reasoner shows: these facts, or the full table where some clash
unfoldable pub history : Question → List ℕ
history q = cond (clash (closure q)) (full q.sheet.fluents (latest q)) (closure q)
