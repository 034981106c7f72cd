-- The packed layout of a domain: what bytes read as, and what a sheet is written as. Assumes nothing.
use Rattle.std.specs.Prelude.{ℕ, zero, suc, ◌+◌, ◌-◌, Bool, cond, List, [], ◌∷◌, ◌++◌, length, Ok, Err, Result, ◌==◌, nat_le, nat_lt}
use Rattle.std.specs.List.{flat_map}
use Rattle.bits.specs.Bits.{numeral, bits_of, packed}
use Rattle.bits.specs.Fields.{ending, followed, after, refused_as}
use Rattle.bits.specs.declared.refusal.TooShort.{TooShort}
use Rattle.domain.specs.Lists.{domain_field, count_at, literal_at, list_at, list_bits}
use Rattle.domain.specs.Sheet.{Deed, works, senses, Action, Sheet, clashes, clash_free}
use Rattle.domain.specs.declared.action.Effect.{Effect}
use Rattle.domain.specs.declared.refusal.Refusal.{Refusal}
use Rattle.domain.specs.declared.refusal.Refusal.TheVariants.{Unread, Edition, UnknownFluent, NotExclusive}

-- an effect: a list of conditions and a literal not below the least
abbrev pub effect_of : ℕ → ℕ → ℕ → Result (Effect × ℕ) Refusal
effect_of conditions l q = Ok (record { conditions = conditions; literal = l }, q)

abbrev pub effect_at : List Bool → ℕ → ℕ → ℕ → Result (Effect × ℕ) Refusal
effect_at bits F least p = followed (list_at bits F 3 0 7 p) (λ conditions q. followed (literal_at bits F least q) (effect_of conditions))

-- one item more, before those read after it
abbrev pub and_item : {X : Type 0} → X → List X → ℕ → Result (List X × ℕ) Refusal
and_item x xs q = Ok (x ∷ xs, q)

-- n effects whose literals rise strictly, from the least on
unfoldable pub effects_at : ℕ → List Bool → ℕ → ℕ → ℕ → Result (List Effect × ℕ) Refusal
effects_at zero bits F least p = Ok ([], p)
effects_at (suc n) bits F least p = followed (effect_at bits F least p) (λ e q. followed (effects_at n bits F (e.literal + 1) q) (and_item e))

-- a count of effects in four bits, and the effects
abbrev pub counted_at : List Bool → ℕ → ℕ → Result (List Effect × ℕ) Refusal
counted_at bits F p = followed (count_at bits 4 0 8 p) (λ n q. followed (effects_at n bits F 0 q) (λ es r. Ok (es, r)))

-- what an effect is written as
abbrev pub effect_bits : Effect → List Bool
effect_bits e = list_bits 3 e.conditions ++ numeral 6 e.literal

-- the first bit of the first effect that clashes with an earlier one; the effects stand from the place p on
unfoldable pub clash_place : List Effect → ℕ → List Effect → ℕ
clash_place earlier p [] = p
clash_place earlier p (e ∷ es) = cond (clashes e earlier) p (clash_place (earlier ++ e ∷ []) (p + length (effect_bits e)) es)

-- the effects of the action a, once its last field is read
abbrev pub exclusive : ℕ → ℕ → List Effect → ℕ → Result (List Effect × ℕ) Refusal
exclusive a p es q = cond (clash_free [] es) (Ok (es, q)) (Err (NotExclusive a (clash_place [] (p + 4) es)))

abbrev pub working_at : List Bool → ℕ → ℕ → ℕ → Result (List Effect × ℕ) Refusal
working_at bits F a p = followed (counted_at bits F p) (exclusive a p)

-- the fluent that an action senses
abbrev pub known_fluent : ℕ → ℕ → ℕ → ℕ → Result (ℕ × ℕ) Refusal
known_fluent F p f q = cond (nat_lt f F) (Ok (f, q)) (Err (UnknownFluent p))

abbrev pub sensing_at : List Bool → ℕ → ℕ → Result (ℕ × ℕ) Refusal
sensing_at bits F p = followed (domain_field bits p 5) (known_fluent F p)

-- what the action a does, by its kind: 1 for sensing
abbrev pub deed_at : List Bool → ℕ → ℕ → ℕ → ℕ → Result (Deed × ℕ) Refusal
deed_at bits F a kind p =
    cond (kind == 1) (followed (sensing_at bits F p) (λ f q. Ok (senses f, q))) (followed (working_at bits F a p) (λ es q. Ok (works es, q)))

-- needs, and what the action does
abbrev pub row_at : List Bool → ℕ → ℕ → ℕ → ℕ → Result (Action × ℕ) Refusal
row_at bits F a kind p =
    followed (list_at bits F 4 0 8 p) (λ needs q. followed (deed_at bits F a kind q) (λ deed r. Ok (record { needs = needs; deed = deed }, r)))

-- an action: a kind bit, a list of needs, and a fluent or a count of effects and the effects
abbrev pub action_at : List Bool → ℕ → ℕ → ℕ → Result (Action × ℕ) Refusal
action_at bits F a p = followed (domain_field bits p 1) (λ kind q. followed (row_at bits F a kind q) (λ row r. Ok (row, r)))

-- n actions, the first of which is the action a
unfoldable pub actions_at : ℕ → List Bool → ℕ → ℕ → ℕ → Result (List Action × ℕ) Refusal
actions_at zero bits F a p = Ok ([], p)
actions_at (suc n) bits F a p = followed (action_at bits F a p) (λ x q. followed (actions_at n bits F (a + 1) q) (and_item x))

-- n groups
unfoldable pub groups_at : ℕ → List Bool → ℕ → ℕ → Result (List ℕ × ℕ) Refusal
groups_at zero bits F p = Ok ([], p)
groups_at (suc n) bits F p = followed (list_at bits F 4 2 8 p) (λ g q. followed (groups_at n bits F q) (and_item g))

-- a count of groups in four bits, and the groups
abbrev pub all_groups_at : List Bool → ℕ → ℕ → Result (List ℕ × ℕ) Refusal
all_groups_at bits F p = followed (count_at bits 4 0 8 p) (λ n q. followed (groups_at n bits F q) (λ gs r. Ok (gs, r)))

-- the strong goals and the weak goals
abbrev pub goals_at : List Bool → ℕ → ℕ → Result ((ℕ × ℕ) × ℕ) Refusal
goals_at bits F p = followed (list_at bits F 4 0 8 p) (λ strong q. followed (list_at bits F 4 0 8 q) (λ weak r. Ok ((strong, weak), r)))

-- A actions and the goals
abbrev pub rows_at : List Bool → ℕ → ℕ → ℕ → Result ((List Action × (ℕ × ℕ)) × ℕ) Refusal
rows_at bits F A p = followed (actions_at A bits F 0 p) (λ actions q. followed (goals_at bits F q) (λ goals r. Ok ((actions, goals), r)))

-- the groups, and what comes after them
abbrev pub grouped_at : List Bool → ℕ → ℕ → ℕ → Result ((List ℕ × (List Action × (ℕ × ℕ))) × ℕ) Refusal
grouped_at bits F A p = followed (all_groups_at bits F p) (λ groups q. followed (rows_at bits F A q) (λ rows r. Ok ((groups, rows), r)))

-- the initial literals, and what comes after them
abbrev pub sheet_of : ℕ → ℕ → List ℕ × (List Action × (ℕ × ℕ)) → Sheet
sheet_of F initial x =
    record { fluents = F; initial = initial; groups = x.0; actions = x.1.0; strong = x.1.1.0; weak = x.1.1.1 }

abbrev pub facts_at : List Bool → ℕ → ℕ → ℕ → Result (Sheet × ℕ) Refusal
facts_at bits F A p = followed (list_at bits F 6 0 32 p) (λ initial q. followed (grouped_at bits F A q) (λ x r. Ok (sheet_of F initial x, r)))

-- the counts of fluents and of actions, each less one, and what comes after them
abbrev pub counts_at : List Bool → ℕ → ℕ → Result (Sheet × ℕ) Refusal
counts_at bits f p = followed (domain_field bits p 4) (λ a q. followed (facts_at bits (f + 1) (a + 1) q) (λ d r. Ok (d, r)))

abbrev pub sheet_at : List Bool → ℕ → Result (Sheet × ℕ) Refusal
sheet_at bits p = followed (domain_field bits p 5) (λ f q. followed (counts_at bits f q) (λ d r. Ok (d, r)))

-- the layout ends after the sheet
abbrev pub ended : List Bool → Sheet → ℕ → Result Sheet Refusal
ended bits d q = after (refused_as Unread (ending bits q)) (Ok d)

abbrev pub edition_one : List Bool → ℕ → ℕ → Result Sheet Refusal
edition_one bits edition p = cond (edition == 1) (followed (sheet_at bits p) (ended bits)) (Err (Edition 0))

-- what bytes read as
unfoldable pub read_domain : List ℕ → Result Sheet Refusal
read_domain bytes = followed (domain_field (bits_of bytes) 0 4) (edition_one (bits_of bytes))

-- what an action is written as
abbrev pub kind_of : Deed → ℕ
kind_of (works es) = 0
kind_of (senses f) = 1

abbrev pub deed_bits : Deed → List Bool
deed_bits (works es) = numeral 4 (length es) ++ flat_map effect_bits es
deed_bits (senses f) = numeral 5 f

abbrev pub action_bits : Action → List Bool
action_bits a = numeral 1 (kind_of a.deed) ++ (list_bits 4 a.needs ++ deed_bits a.deed)

-- what a sheet is written as
abbrev pub sheet_bits : Sheet → List Bool
sheet_bits d =
    numeral 5 (d.fluents - 1)
    ++ (numeral 4 (length d.actions - 1)
    ++ (list_bits 6 d.initial
    ++ ((numeral 4 (length d.groups) ++ flat_map (list_bits 4) d.groups)
    ++ (flat_map action_bits d.actions
    ++ (list_bits 4 d.strong ++ list_bits 4 d.weak)))))

abbrev pub domain_bits : Sheet → List Bool
domain_bits d = numeral 4 1 ++ sheet_bits d

unfoldable pub written : Sheet → List ℕ
written d = packed (domain_bits d)

-- the answer to writing a sheet into a buffer of so many bytes: how many it takes, or that they are too few
abbrev pub written_to : Sheet → ℕ → Result ℕ TooShort
written_to d len = cond (nat_le (length (written d)) len) (Ok (length (written d))) (Err (record { needed = length (written d) }))
