-- What each call of a log answers, and what it leaves. Assumes nothing.
use Rattle.std.specs.Prelude.{ℕ, ◌+◌, ◌*◌, Bool, true, false, cond, not, ◌&&◌, List, [], ◌∷◌, ◌++◌, length, replicate, is_ok, Some, None, Ok, Err, Option, Result, ◌==◌, nat_le, nat_lt, slice_index, slice_index_or, slice_set}
use Rattle.literals.specs.Literals.{fluent, without, lowest}
use Rattle.literals.specs.Tables.{empty, is_full, same, common, told as with_fact}
use Rattle.domain.specs.Accessors.{needs_of, sensed_of}
use Rattle.domain.specs.Sheet.{Sheet}
use Rattle.knowledge.specs.Questions.{Question}
use Rattle.knowledge.specs.Reasoning.{Mind}
use Rattle.logs.specs.declared.refusal.Refusal.{Refusal}
use Rattle.logs.specs.declared.refusal.Refusal.TheVariants.{TooMany, Full, Unknown, WrongKind, Late, NeedNotShown, Contradicts, NotOwed}

-- what a log holds: the sheet, the orders and looks so far, the told facts, and of each moment whether the look there is owed
pub record State : Type 0 where
  pub sheet : Sheet
  pub orders : List ℕ
  pub told : List ℕ
  pub owed : List Bool

-- a new log
abbrev pub opened : Sheet → State
opened d = record { sheet = d; orders = []; told = empty; owed = replicate 32 false }

-- the moment after the last order or look
abbrev pub latest : State → ℕ
latest st = length st.orders

-- what the reasoner is asked, with the told facts or with others
abbrev pub asked_with : State → List ℕ → Question
asked_with st told = record { sheet = st.sheet; orders = st.orders; told = told }

-- the history: what the reasoner shows
abbrev pub history : Mind → State → List ℕ
history m st = m.meaning (asked_with st st.told)

-- an answer, where the reasoner takes the domain
abbrev pub if_taken : {X : Type 0} → Mind → State → Result X Refusal → Result X Refusal
if_taken m st r = cond (nat_le st.sheet.fluents m.largest) r (Err (TooMany (record { fluents = st.sheet.fluents })))

-- opening is refused where the reasoner does not take the domain, and where its table is full
abbrev pub opening : Mind → Sheet → Result (Unit {0}) Refusal
opening m d = if_taken m (opened d) (cond (is_full d.fluents 0 (history m (opened d))) (Err Full) (Ok tt))

-- an action is a sensing one
abbrev pub senses : Option ℕ → Bool
senses (Some f) = true
senses None = false

-- the needs that are not shown now
abbrev pub lacking : Mind → State → ℕ → Option ℕ
lacking m st a = lowest (without (needs_of st.sheet a) (slice_index (history m st) (latest st)))

abbrev pub if_none_lacks : ℕ → Option ℕ → Result (Unit {0}) Refusal
if_none_lacks a None = Ok tt
if_none_lacks a (Some l) = Err (NeedNotShown a l)

-- an action is accepted where it is known and of the right kind, a moment is left, and its needs are shown
unfoldable pub admitted : Mind → State → ℕ → Bool → Result (Unit {0}) Refusal
admitted m st a right_kind =
    cond (nat_lt a (length st.sheet.actions))
    (cond right_kind (cond (nat_lt (latest st) 32) (if_taken m st (if_none_lacks a (lacking m st a))) (Err Late)) (Err (WrongKind a))) (Err (Unknown a))

abbrev pub ordering : Mind → State → ℕ → Result (Unit {0}) Refusal
ordering m st a = admitted m st a (not (senses (sensed_of st.sheet a)))

abbrev pub looking : Mind → State → ℕ → Result (Unit {0}) Refusal
looking m st a = admitted m st a (senses (sensed_of st.sheet a))

-- the log after an accepted order, and after an accepted look, which is owed
abbrev pub ordered : State → ℕ → State
ordered st a = record { sheet = st.sheet; orders = st.orders ++ a ∷ []; told = st.told; owed = st.owed }

abbrev pub looked : State → ℕ → State
looked st a = record { sheet = st.sheet; orders = st.orders ++ a ∷ []; told = st.told; owed = slice_set st.owed (latest st) true }

-- the log owes the look of an action at a moment
abbrev pub owes : State → ℕ → ℕ → Bool
owes st a t = slice_index_or st.owed t false && (nat_lt t (latest st) && slice_index st.orders t == a)

-- the fact that an answer tells: the value of the fluent that the action senses
abbrev pub sensed_literal : Option ℕ → Bool → Option ℕ
sensed_literal (Some f) yes_told = Some (2 * f + cond yes_told 1 0)
sensed_literal None yes_told = None

-- a fact is taken where it does not make the table full
abbrev pub telling : Mind → State → ℕ → ℕ → Result (Unit {0}) Refusal
telling m st l t =
    if_taken m st (cond (is_full st.sheet.fluents (latest st) (m.meaning (asked_with st (with_fact st.told t l)))) (Err (Contradicts l t)) (Ok tt))

abbrev pub told_more : State → ℕ → ℕ → State
told_more st l t = record { sheet = st.sheet; orders = st.orders; told = with_fact st.told t l; owed = st.owed }

-- an owed look that is ended
abbrev pub ended : State → ℕ → State
ended st t = record { sheet = st.sheet; orders = st.orders; told = st.told; owed = slice_set st.owed t false }

-- an answer is refused where the look is not owed, or the fact is not taken
abbrev pub answering_with : Mind → State → ℕ → Option ℕ → Result (Unit {0}) Refusal
answering_with m st t (Some l) = telling m st l t
answering_with m st t None = Err NotOwed

abbrev pub answering : Mind → State → ℕ → ℕ → Bool → Result (Unit {0}) Refusal
answering m st a t yes_told = cond (owes st a t) (answering_with m st t (sensed_literal (sensed_of st.sheet a) yes_told)) (Err NotOwed)

abbrev pub answered_with : State → ℕ → Option ℕ → State
answered_with st t (Some l) = ended (told_more st l t) t
answered_with st t None = st

abbrev pub answered : State → ℕ → ℕ → Bool → State
answered st a t yes_told = answered_with st t (sensed_literal (sensed_of st.sheet a) yes_told)

-- a lost look is refused where it is not owed
abbrev pub losing : State → ℕ → ℕ → Result (Unit {0}) Refusal
losing st a t = cond (owes st a t) (Ok tt) (Err NotOwed)

-- a report is refused where the literal or the moment is unknown, or the fact is not taken
abbrev pub reporting : Mind → State → ℕ → ℕ → Result (Unit {0}) Refusal
reporting m st l t =
    cond (nat_lt (fluent l) st.sheet.fluents) (cond (nat_le t (latest st)) (telling m st l t) (Err (Unknown t))) (Err (Unknown l))

-- the calls
pub data Call : Type 0 where
  order : ℕ → Call
  look : ℕ → Call
  answer : ℕ → ℕ → Bool → Call
  lost : ℕ → ℕ → Call
  report : ℕ → ℕ → Call

-- what a call answers
abbrev pub answer_to : Mind → State → Call → Result (Unit {0}) Refusal
answer_to m st (order a) = ordering m st a
answer_to m st (look a) = looking m st a
answer_to m st (answer a t yes_told) = answering m st a t yes_told
answer_to m st (lost a t) = losing st a t
answer_to m st (report l t) = reporting m st l t

-- the log after a call that was accepted
abbrev pub accepted : State → Call → State
accepted st (order a) = ordered st a
accepted st (look a) = looked st a
accepted st (answer a t yes_told) = answered st a t yes_told
accepted st (lost a t) = ended st t
accepted st (report l t) = told_more st l t

-- a refused call changes nothing
abbrev pub step : Mind → State → Call → State
step m st call = cond (is_ok (answer_to m st call)) (accepted st call) st

-- each fact of a table is in another
abbrev pub within : List ℕ → List ℕ → Bool
within sets others = same (common sets others) sets

-- whether each log shows every fact that the other was told
abbrev pub comparing : Mind → Mind → State → State → Result Bool Refusal
comparing m n st ot =
    if_taken m st (if_taken n ot (Ok (within st.told (history n ot) && within ot.told (history m st))))
