-- What a lawful sheet's effects, initial literals and groups obey. Assumes nothing.
use Rattle.std.proofs.Common.{◌≡◌, ℕ, ◌+◌, ◌/◌, ◌^◌, ◌<◌, ◌≤◌, Bool, true, false, not, ◌&&◌, eqb, ltb, leb, ◌⊎◌, List, [], ◌∷◌, ◌++◌, Some, None, Option, sym, refl, ap, ◌∙◌, subst, inl, inr, ⊎_elim, arith}
use lib.Bits.{bit_and}
use Rattle.std.proofs.lemmas.Bool.{and_parts, and_cases, or_parts, both_ways, not-true, eq-eqb, eqb-false, ltb-true, leb-true}
use Rattle.literals.specs.Literals.{fluent, opposite, opposites, has, lowest}
use Rattle.literals.proofs.Laws.{opposite-opposite, opposite_differs, has-and, has-opposites, and_below, no_members, lowest_none, lowest_some}
use Rattle.domain.specs.Accessors.{effects_of}
use Rattle.domain.specs.Lists.{listed}
use Rattle.domain.specs.Sheet.{Sheet, clash, clashes, clash_free, rising_effects, each, lawful}
use Rattle.domain.specs.declared.action.Effect.{Effect}
use Rattle.domain.proofs.Laws.{listed_small, listed_known, lawful_fluents, lawful_initial, lawful_groups, lawful_rising, lawful-clash_free}
use Rattle.knowledge.specs.Worlds.{Among}
use Rattle.knowledge.proofs.Exclusion.{Apart, Exclusive}

-- ---- lists

-- what each of a list passes, one of the list passes
each_among : {X : Type 0} (test : X → Bool) (x : X) (xs : List X) → each test xs ≡ true → Among x xs → test x ≡ true
unfolding Among
each_among test x [] h there = absurd there
each_among test x (y ∷ ys) h there =
    let parts = and_parts (test y) (each test ys) h in
    ⊎_elim (λ (e : x ≡ y). ap test e ∙ parts.0) (λ (later : Among x ys). each_among test x ys parts.1 later) there

-- what is among a list stays there where more follows, and what follows is there
among_more : {X : Type 0} (x y : X) (xs : List X) → Among x xs → Among x (xs ++ y ∷ [])
unfolding Among
among_more x y [] there = absurd there
among_more x y (z ∷ zs) there = ⊎_elim (λ (e : x ≡ z). inl e) (λ (later : Among x zs). inr (among_more x y zs later)) there

among_last : {X : Type 0} (x : X) (xs : List X) → Among x (xs ++ x ∷ [])
unfolding Among
among_last x [] = inl refl
among_last x (y ∷ ys) = inr (among_last x ys)

-- ---- effects that rise

-- what is known of one of the effects
record Risen (F least : ℕ) (e : Effect) : Type 0 where
  conditions_listed : listed F 0 7 e.conditions ≡ true
  literal_low : fluent e.literal < F
  from_least : least ≤ e.literal

risen_first : (F least : ℕ) (e : Effect) (es : List Effect) → rising_effects F least (e ∷ es) ≡ true → Risen F least e × (rising_effects F (e.literal + 1) es ≡ true)
unfolding rising_effects
risen_first F least e es h =
    let parts = and_parts (listed F 0 7 e.conditions && (ltb (e.literal / 2) F && leb least e.literal)) _ h in
    let own = and_parts (listed F 0 7 e.conditions) _ parts.0 in
    let literal = and_parts (ltb (e.literal / 2) F) (leb least e.literal) own.1 in
    (record { conditions_listed = own.0; literal_low = ltb-true (e.literal / 2) F literal.0; from_least = leb-true least e.literal literal.1 }, parts.1)

risen : (F least : ℕ) (e : Effect) (es : List Effect) → rising_effects F least es ≡ true → Among e es → Risen F least e
unfolding Among
risen F least e [] h there = absurd there
risen F least e (x ∷ xs) h there =
    let first = risen_first F least x xs h in
    ⊎_elim
    (λ (same : e ≡ x). subst (Risen F least) (sym same) first.0)
    (λ (later : Among e xs).
    let rest = risen F (x.literal + 1) e xs first.1 later in
    record { conditions_listed = rest.conditions_listed; literal_low = rest.literal_low; from_least = omega (arith, rest.from_least, first.0.from_least) })
    there

-- at most one of them has a literal
one_each : (F least : ℕ) (e f : Effect) (es : List Effect) → rising_effects F least es ≡ true → Among e es → Among f es → e.literal ≡ f.literal → e ≡ f
unfolding Among
one_each F least e f [] h there too same = absurd there
one_each F least e f (x ∷ xs) h there too same =
    let first = risen_first F least x xs h in
    let past : (y : Effect) → Among y xs → x.literal + 1 ≤ y.literal = λ y later. (risen F (x.literal + 1) y xs first.1 later).from_least in
    ⊎_elim
    (λ (is : e ≡ x).
    ⊎_elim
    (λ (is_too : f ≡ x). is ∙ sym is_too)
    (λ (later : Among f xs). let here : e.literal ≡ x.literal = ap (λ y. y.literal) is in absurd (omega (arith, past f later)))
    too)
    (λ (rest : Among e xs).
    ⊎_elim
    (λ (is_too : f ≡ x). let here : f.literal ≡ x.literal = ap (λ y. y.literal) is_too in absurd (omega (arith, past e rest)))
    (λ (later : Among f xs). one_each F (x.literal + 1) e f xs first.1 rest later same)
    too)
    there

-- ---- effects that do not clash

not-clash : (e f : Effect) (earlier : List Effect) → clashes e earlier ≡ false → Among f earlier → clash e f ≡ false
unfolding Among
not-clash e f [] h there = absurd there
not-clash e f (x ∷ xs) h there =
    let parts = or_parts (clash e x) (clashes e xs) h in
    ⊎_elim (λ (is : f ≡ x). ap (clash e) is ∙ parts.0) (λ (later : Among f xs). not-clash e f xs parts.1 later) there

free_first : (earlier : List Effect) (e : Effect) (es : List Effect) → clash_free earlier (e ∷ es) ≡ true → (clashes e earlier ≡ false) × (clash_free (earlier ++ e ∷ []) es ≡ true)
unfolding clash_free
free_first earlier e es h = let parts = and_parts (not (clashes e earlier)) _ h in (not-true (clashes e earlier) parts.0, parts.1)

free_earlier : (e f : Effect) (earlier es : List Effect) → clash_free earlier es ≡ true → Among f earlier → Among e es → clash e f ≡ false
unfolding Among
free_earlier e f earlier [] h before there = absurd there
free_earlier e f earlier (x ∷ xs) h before there =
    let first = free_first earlier x xs h in
    ⊎_elim
    (λ (is : e ≡ x). ap (λ y. clash y f) is ∙ not-clash x f earlier first.0 before)
    (λ (later : Among e xs). free_earlier e f (earlier ++ x ∷ []) xs first.1 (among_more f x earlier before) later)
    there

-- of two of them with opposite literals, the later does not clash with the earlier
free_either : (e f : Effect) (earlier es : List Effect) → clash_free earlier es ≡ true → Among e es → Among f es → e.literal ≡ opposite f.literal
    → (clash e f ≡ false) ⊎ (clash f e ≡ false)
unfolding Among
free_either e f earlier [] h there too against = absurd there
free_either e f earlier (x ∷ xs) h there too against =
    let first = free_first earlier x xs h in
    ⊎_elim
    (λ (is : e ≡ x).
    ⊎_elim
    (λ (is_too : f ≡ x). absurd (opposite_differs f.literal (sym against ∙ ap (λ y. y.literal) (is ∙ sym is_too))))
    (λ (later : Among f xs). inr (ap (clash f) is ∙ free_earlier f x (earlier ++ x ∷ []) xs first.1 (among_last x earlier) later))
    too)
    (λ (rest : Among e xs).
    ⊎_elim
    (λ (is_too : f ≡ x). inl (ap (clash e) is_too ∙ free_earlier e x (earlier ++ x ∷ []) xs first.1 (among_last x earlier) rest))
    (λ (later : Among f xs). free_either e f (earlier ++ x ∷ []) xs first.1 rest later against)
    too)
    there

-- a set that is not empty has a member
some_member : (s : ℕ) → s < 2 ^ 64 → (s ≡ 0 → ⊥) → (c : ℕ) × (has s c ≡ true)
some_member s small some = found (lowest s) refl
  where
    found : (o : Option ℕ) → lowest s ≡ o → (c : ℕ) × (has s c ≡ true)
    found None is = absurd (some (no_members s small (lowest_none s is)))
    found (Some c) is = (c, (lowest_some s c is).member)

-- effects with opposite literals that do not clash are apart
clash_apart : (e f : Effect) → e.conditions < 2 ^ 64 → e.literal ≡ opposite f.literal → clash e f ≡ false → Apart e f
clash_apart e f small against free =
    let both = bit_and e.conditions (opposites f.conditions) in
    let some : eqb both 0 ≡ false =
    ⊎_elim
    (λ (h : eqb e.literal (opposite f.literal) ≡ false). absurd (both_ways (eqb e.literal (opposite f.literal)) h (eq-eqb e.literal (opposite f.literal) against)))
    (λ (h : eqb both 0 ≡ false). h)
    (and_cases (eqb e.literal (opposite f.literal)) (eqb both 0) free) in
    let member = some_member both (and_below e.conditions (opposites f.conditions) small) (eqb-false both 0 some) in
    let c = member.0 in
    let parts = and_parts (has e.conditions c) (has (opposites f.conditions) c) (sym (has-and e.conditions (opposites f.conditions) c) ∙ member.1) in
    record { condition = c; here = parts.0; there = sym (has-opposites f.conditions c) ∙ parts.1 }

apart_turned : (e f : Effect) → Apart f e → Apart e f
apart_turned e f h =
    record { condition = opposite h.condition; here = h.there; there = ap (has f.conditions) (opposite-opposite h.condition) ∙ h.here }

-- ---- lawful sheets

-- the effects of any action exclude one another as they should
pub exclusive : (d : Sheet) (a : ℕ) → lawful d ≡ true → Exclusive d.fluents (effects_of d a)
exclusive d a ok =
    let F = d.fluents in
    let es = effects_of d a in
    let rising = lawful_rising d ok a in
    let free = lawful-clash_free d ok a in
    let small : (e : Effect) → Among e es → e.conditions < 2 ^ 64 = λ e there. listed_small F 0 7 e.conditions (risen F 0 e es rising there).conditions_listed in
    record {
      apart = λ e f there too against.
          ⊎_elim
          (λ (h : clash e f ≡ false). clash_apart e f (small e there) against h)
          (λ (h : clash f e ≡ false). apart_turned e f (clash_apart f e (small f too) (sym (ap opposite against ∙ opposite-opposite f.literal)) h))
          (free_either e f [] es free there too against);
      one = λ e f there too same. one_each F 0 e f es rising there too same;
      small = small;
      literal_known = λ e there. (risen F 0 e es rising there).literal_low;
      conditions_known = λ e c there member. listed_known F 0 7 e.conditions (risen F 0 e es rising there).conditions_listed c member;
    }

module _ (d : Sheet) (ok : lawful d ≡ true) where
  pub fluents_few : (1 ≤ d.fluents) × (d.fluents ≤ 32)
  fluents_few = lawful_fluents d ok

  pub initial_known : (l : ℕ) → has d.initial l ≡ true → fluent l < d.fluents
  initial_known l there = listed_known d.fluents 0 32 d.initial (lawful_initial d ok) l there

  pub initial_small : d.initial < 2 ^ 64
  initial_small = listed_small d.fluents 0 32 d.initial (lawful_initial d ok)

  group_listed : (g : ℕ) → Among g d.groups → listed d.fluents 2 8 g ≡ true
  group_listed g there = each_among (listed d.fluents 2 8) g d.groups (lawful_groups d ok) there

  pub groups_known : (g l : ℕ) → Among g d.groups → has g l ≡ true → fluent l < d.fluents
  groups_known g l there member = listed_known d.fluents 2 8 g (group_listed g there) l member

  pub groups_small : (g : ℕ) → Among g d.groups → g < 2 ^ 64
  groups_small g there = listed_small d.fluents 2 8 g (group_listed g there)
