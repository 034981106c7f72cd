-- Effects, groups and actions that are read stand there in bits and are lawful, and lawful ones that stand there are read. Assumes nothing.
use Rattle.std.proofs.Common.{◌≡◌, ℕ, zero, suc, ◌+◌, ◌-◌, ◌/◌, ◌^◌, ◌<◌, ◌≤◌, Bool, true, false, cond, ◌&&◌, eqb, ltb, leb, List, [], ◌∷◌, ◌++◌, length, Ok, Result, sym, refl, ap, subst, arith}
use Rattle.std.specs.List.{flat_map}
use Rattle.std.proofs.lemmas.List.{nil_from_length}
use Rattle.std.proofs.lemmas.Bool.{and_parts, and_from, lt-ltb, le-leb, ltb-true, leb-true, eqb-true, eqb-false}
use Rattle.bits.specs.Bits.{numeral}
use Rattle.bits.specs.Fields.{followed}
use Rattle.bits.proofs.Laws.{Stands, same_answer, both_read, Piece, tested_piece, piece_made, piece_then, piece_by, FirstAndRest, none_piece, cons_piece}
use Rattle.domain.specs.Layout.{effect_at, effects_at, clash_place, working_at, sensing_at, deed_at, row_at, action_at, actions_at, groups_at, all_groups_at, goals_at, rows_at, grouped_at, facts_at, counts_at, sheet_at, sheet_of, effect_bits, kind_of, deed_bits, action_bits, sheet_bits}
use Rattle.domain.specs.Lists.{listed, list_bits}
use Rattle.domain.specs.Sheet.{Deed, works, senses, Action, Sheet, clash_free, rising_effects, lawful_deed, lawful_action, each, lawful}
use Rattle.domain.specs.declared.action.Effect.{Effect}
use Rattle.domain.specs.declared.refusal.Refusal.{Refusal}
use Rattle.domain.specs.declared.refusal.Refusal.TheVariants.{NotExclusive, UnknownFluent}
use Rattle.domain.proofs.ListBits.{domain_field_piece, count_piece, literal_piece, list_piece}

-- groups
groups_asked : (F n : ℕ) (gs : List ℕ) → FirstAndRest (λ g. listed F 2 8 g ≡ true) (λ _ gs. (length gs ≡ n) × (each (listed F 2 8) gs ≡ true)) gs → (length gs ≡ suc n) × (each (listed F 2 8) gs ≡ true)
groups_asked F n [] h = absurd h
groups_asked F n (g ∷ gs) h = (ap suc h.1.0, and_from _ _ h.0 h.1.1)

groups_given : (F n : ℕ) (gs : List ℕ) → (length gs ≡ suc n) × (each (listed F 2 8) gs ≡ true) → FirstAndRest (λ g. listed F 2 8 g ≡ true) (λ _ gs. (length gs ≡ n) × (each (listed F 2 8) gs ≡ true)) gs
groups_given F n [] h = omega (arith, h.0)
groups_given F n (g ∷ gs) h = let parts = and_parts (listed F 2 8 g) (each (listed F 2 8) gs) h.1 in (parts.0, (omega (arith, h.0), parts.1))

pub groups_piece : (F n : ℕ) → F ≤ 32 → Piece (λ bits p. groups_at n bits F p) (flat_map (list_bits 4)) (λ gs. (length gs ≡ n) × (each (listed F 2 8) gs ≡ true))
unfolding groups_at
groups_piece F zero small =
    piece_by (λ gs none. rw none (refl, refl)) (λ gs h. nil_from_length gs h.0) (none_piece (list_bits 4))
groups_piece F (suc n) small =
    piece_by (groups_asked F n) (groups_given F n) (cons_piece (list_piece F 4 2 8 (omega arith)) (λ g _. groups_piece F n small))

-- effects
abbrev LawfulEffect : ℕ → ℕ → Effect → Type 0
LawfulEffect F least e = (listed F 0 7 e.conditions ≡ true) × ((e.literal < 64) × (e.literal / 2 < F) × (least ≤ e.literal))

effect_piece : (F least : ℕ) → F ≤ 32 → Piece (λ bits p. effect_at bits F least p) effect_bits (LawfulEffect F least)
effect_piece F least small =
    piece_then (λ conditions l. record { conditions = conditions; literal = l }) (λ e. e.conditions) (λ e. e.literal) (λ e. refl) (λ x y. refl) (λ x y. refl)
    (list_piece F 3 0 7 (omega arith)) (λ _ _. literal_piece F least)

abbrev AreEffects : ℕ → ℕ → ℕ → List Effect → Type 0
AreEffects n F least es = (length es ≡ n) × (rising_effects F least es ≡ true)

effects_asked : (F n least : ℕ) → F ≤ 32 → (es : List Effect) → FirstAndRest (LawfulEffect F least) (λ e es. AreEffects n F (e.literal + 1) es) es → AreEffects (suc n) F least es
unfolding rising_effects
effects_asked F n least small [] h = absurd h
effects_asked F n least small (e ∷ es) h =
    (ap suc h.1.0, and_from _ _ (and_from _ _ h.0.0 (and_from _ _ (lt-ltb _ _ h.0.1.1) (le-leb _ _ h.0.1.2))) h.1.1)

effects_given : (F n least : ℕ) → F ≤ 32 → (es : List Effect) → AreEffects (suc n) F least es → FirstAndRest (LawfulEffect F least) (λ e es. AreEffects n F (e.literal + 1) es) es
unfolding rising_effects
effects_given F n least small [] h = omega (arith, h.0)
effects_given F n least small (e ∷ es) h =
    let parts = and_parts (listed F 0 7 e.conditions && (ltb (e.literal / 2) F && leb least e.literal)) (rising_effects F (e.literal + 1) es) h.1 in
    let first = and_parts (listed F 0 7 e.conditions) (ltb (e.literal / 2) F && leb least e.literal) parts.0 in
    let literal = and_parts (ltb (e.literal / 2) F) (leb least e.literal) first.1 in
    let fluent = ltb-true (e.literal / 2) F literal.0 in
    ((first.0, (omega arith, fluent, leb-true least e.literal literal.1)), (omega (arith, h.0), parts.1))

effects_piece : (F n least : ℕ) → F ≤ 32 → Piece (λ bits p. effects_at n bits F least p) (flat_map effect_bits) (AreEffects n F least)
unfolding effects_at rising_effects
effects_piece F zero least small =
    piece_by (λ es none. rw none (refl, refl)) (λ es h. nil_from_length es h.0) (none_piece effect_bits)
effects_piece F (suc n) least small =
    piece_by (effects_asked F n least small) (effects_given F n least small) (cons_piece (effect_piece F least small) (λ e _. effects_piece F n (e.literal + 1) small))

-- what an action does
abbrev pub Working : ℕ → List Effect → Type 0
Working F es = (leb (length es) 8 && (rising_effects F 0 es && clash_free [] es)) ≡ true

pub working_piece : (F a : ℕ) → F ≤ 32 → Piece (λ bits p. working_at bits F a p) (λ es. numeral 4 (length es) ++ flat_map effect_bits es) (Working F)
working_piece F a small =
    piece_by
    (λ es h. and_from _ _ (and_parts _ _ h.0.1.0.1).1 (and_from _ _ h.0.1.1.1 h.1))
    (λ es h.
    let parts = and_parts (leb (length es) 8) (rising_effects F 0 es && clash_free [] es) h in
    let more = and_parts (rising_effects F 0 es) (clash_free [] es) parts.1 in
    ((refl, ((omega (arith, leb-true _ _ parts.0), and_from _ _ (le-leb 0 (length es) (omega arith)) parts.0), (refl, more.0))), more.1))
    (tested_piece (clash_free []) (λ p es. NotExclusive a (clash_place [] (p + 4) es))
    (piece_made (λ n es. es) (λ es. length es) (λ es. es) (λ n es _ h. h.0) (λ n es _ h. refl) (count_piece 4 0 8) (λ n _. effects_piece F n 0 small)))

sensing_piece : (F : ℕ) → Piece (λ bits p. sensing_at bits F p) (numeral 5) (λ f. (f < 2 ^ 5) × (ltb f F ≡ true))
sensing_piece F = tested_piece (λ f. ltb f F) (λ p _. UnknownFluent p) (domain_field_piece 5)

abbrev working_deed : List Effect → ℕ → Result (Deed × ℕ) Refusal
working_deed es q = Ok (works es, q)

abbrev sensing_deed : ℕ → ℕ → Result (Deed × ℕ) Refusal
sensing_deed f q = Ok (senses f, q)

module _ (F a : ℕ) (small : F ≤ 32) where
  DeedStands : ℕ → List Bool → ℕ → Deed × ℕ → Type 0
  DeedStands kind bits p y = ((kind_of y.0 ≡ kind) × (lawful_deed F y.0 ≡ true)) × Stands bits p (deed_bits y.0) × (y.1 ≡ p + length (deed_bits y.0))

  deed_reads : (kind : ℕ) (bits : List Bool) (p : ℕ) (d : Deed) → (kind_of d ≡ kind) × (lawful_deed F d ≡ true) → Stands bits p (deed_bits d) → deed_at bits F a kind p ≡ Ok (d, p + length (deed_bits d))
  deed_reads kind bits p (works es) h s =
      rw (← h.0) (ap (λ r. followed r working_deed) ((working_piece F a small).reads bits p es h.1 s))
  deed_reads kind bits p (senses f) h s =
      let fluent = ltb-true f F h.1 in
      rw (← h.0) (ap (λ r. followed r sensing_deed) ((sensing_piece F).reads bits p f (omega arith, h.1) s))

  deed_stands : (kind : ℕ) → kind < 2 → (bits : List Bool) (p : ℕ) (d : Deed) (q : ℕ) → p ≤ length bits → (sensing : Bool) → eqb kind 1 ≡ sensing
      → cond sensing (followed (sensing_at bits F p) sensing_deed) (followed (working_at bits F a p) working_deed) ≡ Ok (d, q) → DeedStands kind bits p (d, q)
  unfolding DeedStands
  deed_stands kind few bits p d q inside true e h =
      let read = both_read (sensing_at bits F p) sensing_deed (d, q) h in
      let told = (sensing_piece F).stands bits p read.0 read.1 inside read.2 in
      subst (DeedStands kind bits p) (same_answer read.3) ((sym (eqb-true kind 1 e), told.0.1), told.1, told.2)
  deed_stands kind few bits p d q inside false e h =
      let read = both_read (working_at bits F a p) working_deed (d, q) h in
      let told = (working_piece F a small).stands bits p read.0 read.1 inside read.2 in
      subst (DeedStands kind bits p) (same_answer read.3) ((omega (arith, eqb-false kind 1 e), told.0), told.1, told.2)

  deed_piece : (kind : ℕ) → kind < 2 → Piece (λ bits p. deed_at bits F a kind p) deed_bits (λ d. (kind_of d ≡ kind) × (lawful_deed F d ≡ true))
  unfolding DeedStands
  deed_piece kind few =
      record { reads = deed_reads kind; stands = λ bits p d q inside h. deed_stands kind few bits p d q inside (eqb kind 1) refl h }

  -- actions
  row_piece : (kind : ℕ) → kind < 2 → Piece (λ bits p. row_at bits F a kind p) (λ x. list_bits 4 x.needs ++ deed_bits x.deed) (λ x. (listed F 0 8 x.needs ≡ true) × ((kind_of x.deed ≡ kind) × (lawful_deed F x.deed ≡ true)))
  row_piece kind few =
      piece_then (λ needs deed. record { needs = needs; deed = deed }) (λ x. x.needs) (λ x. x.deed) (λ x. refl) (λ x y. refl) (λ x y. refl) (list_piece F 4 0 8 (omega arith)) (λ _ _. deed_piece kind few)

  kind_below : (d : Deed) → kind_of d < 2
  kind_below (works es) = omega arith
  kind_below (senses f) = omega arith

  action_piece : Piece (λ bits p. action_at bits F a p) action_bits (λ x. lawful_action F x ≡ true)
  action_piece =
      piece_by
      (λ x h. and_from _ _ h.1.1.0 h.1.1.1.1)
      (λ x h. let parts = and_parts (listed F 0 8 x.needs) (lawful_deed F x.deed) h in (refl, (kind_below x.deed, (parts.0, (refl, parts.1)))))
      (piece_made (λ kind x. x) (λ x. kind_of x.deed) (λ x. x) (λ kind x _ h. h.1.0) (λ kind x _ h. refl) (domain_field_piece 1) (λ kind few. row_piece kind few))

abbrev AreActions : ℕ → ℕ → List Action → Type 0
AreActions n F xs = (length xs ≡ n) × (each (lawful_action F) xs ≡ true)

actions_asked : (F n : ℕ) (xs : List Action) → FirstAndRest (λ x. lawful_action F x ≡ true) (λ _ xs. AreActions n F xs) xs → AreActions (suc n) F xs
actions_asked F n [] h = absurd h
actions_asked F n (x ∷ xs) h = (ap suc h.1.0, and_from _ _ h.0 h.1.1)

actions_given : (F n : ℕ) (xs : List Action) → AreActions (suc n) F xs → FirstAndRest (λ x. lawful_action F x ≡ true) (λ _ xs. AreActions n F xs) xs
actions_given F n [] h = omega (arith, h.0)
actions_given F n (x ∷ xs) h = let parts = and_parts (lawful_action F x) (each (lawful_action F) xs) h.1 in (parts.0, (omega (arith, h.0), parts.1))

actions_piece : (F n a : ℕ) → F ≤ 32 → Piece (λ bits p. actions_at n bits F a p) (flat_map action_bits) (AreActions n F)
unfolding actions_at
actions_piece F zero a small =
    piece_by (λ xs none. rw none (refl, refl)) (λ xs h. nil_from_length xs h.0) (none_piece action_bits)
actions_piece F (suc n) a small =
    piece_by (actions_asked F n) (actions_given F n) (cons_piece (action_piece F a small) (λ x _. actions_piece F n (a + 1) small))

-- the sheet
module _ (F : ℕ) (small : F ≤ 32) where
  all_groups_piece : Piece (λ bits p. all_groups_at bits F p) (λ gs. numeral 4 (length gs) ++ flat_map (list_bits 4) gs) (λ gs. (leb (length gs) 8 && each (listed F 2 8) gs) ≡ true)
  all_groups_piece =
      piece_by
      (λ gs h. and_from _ _ (and_parts _ _ h.1.0.1).1 h.1.1.1)
      (λ gs h.
      let parts = and_parts (leb (length gs) 8) (each (listed F 2 8) gs) h in
      (refl, ((omega (arith, leb-true _ _ parts.0), and_from _ _ (le-leb 0 (length gs) (omega arith)) parts.0), (refl, parts.1))))
      (piece_made (λ n gs. gs) (λ gs. length gs) (λ gs. gs) (λ n gs _ h. h.0) (λ n gs _ h. refl) (count_piece 4 0 8) (λ n _. groups_piece F n small))

  goals_piece : Piece (λ bits p. goals_at bits F p) (λ g. list_bits 4 g.0 ++ list_bits 4 g.1) (λ g. (listed F 0 8 g.0 ≡ true) × (listed F 0 8 g.1 ≡ true))
  goals_piece = piece_then (λ x y. (x, y)) (λ g. g.0) (λ g. g.1) (λ g. refl) (λ x y. refl) (λ x y. refl) (list_piece F 4 0 8 (omega arith)) (λ _ _. list_piece F 4 0 8 (omega arith))

  rows_piece : (A : ℕ) → Piece (λ bits p. rows_at bits F A p) (λ x. flat_map action_bits x.0 ++ (list_bits 4 x.1.0 ++ list_bits 4 x.1.1)) (λ x. AreActions A F x.0 × ((listed F 0 8 x.1.0 ≡ true) × (listed F 0 8 x.1.1 ≡ true)))
  rows_piece A = piece_then (λ x y. (x, y)) (λ g. g.0) (λ g. g.1) (λ g. refl) (λ x y. refl) (λ x y. refl) (actions_piece F A 0 small) (λ _ _. goals_piece)

  grouped_piece : (A : ℕ) → Piece (λ bits p. grouped_at bits F A p) (λ x. (numeral 4 (length x.0) ++ flat_map (list_bits 4) x.0) ++ (flat_map action_bits x.1.0 ++ (list_bits 4 x.1.1.0 ++ list_bits 4 x.1.1.1))) (λ x. ((leb (length x.0) 8 && each (listed F 2 8) x.0) ≡ true) × (AreActions A F x.1.0 × ((listed F 0 8 x.1.1.0 ≡ true) × (listed F 0 8 x.1.1.1 ≡ true))))
  grouped_piece A = piece_then (λ x y. (x, y)) (λ g. g.0) (λ g. g.1) (λ g. refl) (λ x y. refl) (λ x y. refl) all_groups_piece (λ _ _. rows_piece A)

-- what is asked of a sheet's parts
pub record Parts (F A : ℕ) (d : Sheet) : Type 0 where
  pub fluents : F ≡ d.fluents
  pub initial : listed F 0 32 d.initial ≡ true
  pub groups : (leb (length d.groups) 8 && each (listed F 2 8) d.groups) ≡ true
  pub count : length d.actions ≡ A
  pub actions : each (lawful_action F) d.actions ≡ true
  pub strong : listed F 0 8 d.strong ≡ true
  pub weak : listed F 0 8 d.weak ≡ true

facts_bits : Sheet → List Bool
facts_bits d =
    list_bits 6 d.initial
    ++ ((numeral 4 (length d.groups) ++ flat_map (list_bits 4) d.groups)
    ++ (flat_map action_bits d.actions ++ (list_bits 4 d.strong ++ list_bits 4 d.weak)))

facts_piece : (F A : ℕ) → F ≤ 32 → Piece (λ bits p. facts_at bits F A p) facts_bits (Parts F A)
unfolding facts_bits
facts_piece F A small =
    piece_by
    (λ d h. record { fluents = ap (λ x. x.fluents) h.0; initial = h.1.0; groups = h.1.1.0; count = h.1.1.1.0.0; actions = h.1.1.1.0.1; strong = h.1.1.1.1.0; weak = h.1.1.1.1.1 })
    (λ d h. (ap (λ f. sheet_of f d.initial (d.groups, (d.actions, (d.strong, d.weak)))) h.fluents, (h.initial, (h.groups, ((h.count, h.actions), (h.strong, h.weak))))))
    (piece_made (sheet_of F) (λ d. d.initial) (λ d. (d.groups, (d.actions, (d.strong, d.weak)))) (λ x y _ _. refl) (λ x y _ _. refl) (list_piece F 6 0 32 (omega arith)) (λ _ _. grouped_piece F small A))

counts_piece : (f : ℕ) → f < 32 → Piece (λ bits p. counts_at bits f p) (λ d. numeral 4 (length d.actions - 1) ++ facts_bits d) (λ d. (length d.actions - 1 < 2 ^ 4) × Parts (f + 1) (length d.actions - 1 + 1) d)
counts_piece f small =
    piece_by (λ d h. h.1) (λ d h. (refl, h))
    (piece_made (λ a d. d) (λ d. length d.actions - 1) (λ d. d) (λ a d _ h. omega (arith, h.count)) (λ a d _ _. refl) (domain_field_piece 4) (λ a _. facts_piece (f + 1) (a + 1) (omega arith)))

parts_lawful : (d : Sheet) → d.fluents - 1 < 32 → length d.actions - 1 < 16 → Parts (d.fluents - 1 + 1) (length d.actions - 1 + 1) d → lawful d ≡ true
unfolding lawful
parts_lawful d few rows h =
    let same = h.fluents in
    and_from _ _ (and_from _ _ (le-leb 1 d.fluents (omega arith)) (le-leb d.fluents 32 (omega arith)))
    (and_from _ _ (subst (λ f. listed f 0 32 d.initial ≡ true) same h.initial)
    (and_from _ _ (subst (λ f. (leb (length d.groups) 8 && each (listed f 2 8) d.groups) ≡ true) same h.groups)
    (and_from _ _ (and_from _ _ (le-leb 1 (length d.actions) (omega (arith, h.count))) (le-leb (length d.actions) 16 (omega (arith, h.count))))
    (and_from _ _ (subst (λ f. each (lawful_action f) d.actions ≡ true) same h.actions)
    (and_from _ _ (subst (λ f. listed f 0 8 d.strong ≡ true) same h.strong) (subst (λ f. listed f 0 8 d.weak ≡ true) same h.weak))))))

lawful_parts : (d : Sheet) → lawful d ≡ true → (d.fluents - 1 < 32) × ((length d.actions - 1 < 16) × Parts (d.fluents - 1 + 1) (length d.actions - 1 + 1) d)
unfolding lawful
lawful_parts d h =
    let fluents = and_parts (leb 1 d.fluents && leb d.fluents 32) _ h in
    let range = and_parts (leb 1 d.fluents) (leb d.fluents 32) fluents.0 in
    let least = leb-true 1 d.fluents range.0 in
    let most = leb-true d.fluents 32 range.1 in
    let initial = and_parts (listed d.fluents 0 32 d.initial) _ fluents.1 in
    let groups = and_parts (leb (length d.groups) 8 && each (listed d.fluents 2 8) d.groups) _ initial.1 in
    let count = and_parts (leb 1 (length d.actions) && leb (length d.actions) 16) _ groups.1 in
    let rows = and_parts (leb 1 (length d.actions)) (leb (length d.actions) 16) count.0 in
    let some = leb-true 1 (length d.actions) rows.0 in
    let few = leb-true (length d.actions) 16 rows.1 in
    let actions = and_parts (each (lawful_action d.fluents) d.actions) _ count.1 in
    let goals = and_parts (listed d.fluents 0 8 d.strong) (listed d.fluents 0 8 d.weak) actions.1 in
    let same : d.fluents ≡ d.fluents - 1 + 1 = omega arith in (
      omega arith,
      (
        omega arith,
        record {
          fluents = sym same;
          initial = subst (λ f. listed f 0 32 d.initial ≡ true) same initial.0;
          groups = subst (λ f. (leb (length d.groups) 8 && each (listed f 2 8) d.groups) ≡ true) same groups.0;
          count = omega arith;
          actions = subst (λ f. each (lawful_action f) d.actions ≡ true) same actions.0;
          strong = subst (λ f. listed f 0 8 d.strong ≡ true) same goals.0;
          weak = subst (λ f. listed f 0 8 d.weak ≡ true) same goals.1;
        },
      ),
    )

-- what is asked of a sheet
pub sheet_piece : Piece sheet_at sheet_bits (λ d. lawful d ≡ true)
unfolding facts_bits
sheet_piece =
    piece_by
    (λ d h. parts_lawful d h.1.0 h.1.1.0 h.1.1.1)
    (λ d h. (refl, lawful_parts d h))
    (piece_made (λ f d. d) (λ d. d.fluents - 1) (λ d. d) (λ f d _ h. omega (arith, h.1.fluents)) (λ f d _ _. refl) (domain_field_piece 5) (λ f few. counts_piece f few))
