-- How worlds move from one moment to the next. Assumes nothing.
use Rattle.std.proofs.Common.{◌≡◌, ℕ, Bool, true, false, cond, not, ◌&&◌, eqb, ◌≢◌, ◌⊎◌, List, [], ◌∷◌, Some, sym, refl, ap, ◌∙◌, subst, inl, inr, ⊎_elim, arith}
use Rattle.std.proofs.lemmas.Bool.{cases_Bool, cases_eq, and_parts, and_from, both_ways, eq-eqb, eqb-true}
use Rattle.std.proofs.lemmas.Bool.Decides.{nat_tests}
use Rattle.literals.specs.Literals.{fluent, opposite, has}
use Rattle.literals.proofs.Laws.{opposite-fluent}
use Rattle.domain.specs.Accessors.{action_of, effects_by, effects_of, sensed_by}
use Rattle.domain.specs.Sheet.{Sheet, Deed, works, senses, lawful}
use Rattle.domain.specs.declared.action.Effect.{Effect}
use Rattle.domain.proofs.Laws.{each_member, member_each}
use Rattle.knowledge.specs.Worlds.{State, affirms, holds, fires, given, Among, Moves}
use Rattle.knowledge.proofs.Exclusion.{Exclusive}
use Rattle.knowledge.proofs.Lawful.{exclusive}

-- ---- a literal and its opposite

affirms-opposite : (l : ℕ) → affirms (opposite l) ≡ not (affirms l)
affirms-opposite l = grind (arith, nat_tests)

turned : (b v : Bool) → cond (not b) v (not v) ≡ not (cond b v (not v))
turned true v = refl
turned false true = refl
turned false false = refl

-- just one of a literal and its opposite is true
pub holds-opposite : (s : State) (l : ℕ) → holds s (opposite l) ≡ not (holds s l)
holds-opposite s l =
    ap (λ b. cond b (s (fluent (opposite l))) (not (s (fluent (opposite l))))) (affirms-opposite l)
    ∙ ap (λ f. cond (not (affirms l)) (s f) (not (s f))) (opposite-fluent l)
    ∙ turned (affirms l) (s (fluent l))

pub not_both : (s : State) (l : ℕ) → holds s l ≡ true → holds s (opposite l) ≡ true → ⊥
not_both s l here there = both_ways (holds s (opposite l)) (holds-opposite s l ∙ ap not here) there

pub false_opposite : (s : State) (l : ℕ) → holds s l ≡ false → holds s (opposite l) ≡ true
false_opposite s l h = holds-opposite s l ∙ ap not h

pub opposite_false : (s : State) (l : ℕ) → holds s (opposite l) ≡ true → holds s l ≡ false
opposite_false s l h = ⊎_elim (λ (here : holds s l ≡ true). absurd (not_both s l here h)) (λ (gone : holds s l ≡ false). gone) (cases_Bool (holds s l))

-- ---- an effect fires just where its conditions are true

pub fires-has : (s : State) (e : Effect) (c : ℕ) → fires s e ≡ true → has e.conditions c ≡ true → holds s c ≡ true
unfolding fires
fires-has s e c h member = each_member (holds s) e.conditions c h member

pub has-fires : (s : State) (e : Effect) → ((c : ℕ) → has e.conditions c ≡ true → holds s c ≡ true) → fires s e ≡ true
unfolding fires
has-fires s e every = member_each (holds s) e.conditions every

-- ---- what effects make of a fluent

-- an effect that fired gave the fluent its value
pub record Changed (s : State) (es : List Effect) (f : ℕ) : Type 0 where
  pub by : Effect
  pub among : Among by es
  pub fired : fires s by ≡ true
  pub of_it : fluent by.literal ≡ f
  pub value : given s es f ≡ affirms by.literal

-- one effect more in front
given-first : (s : State) (e : Effect) (es : List Effect) (f : ℕ) (test : Bool) → (fires s e && eqb (fluent e.literal) f) ≡ test
    → given s (e ∷ es) f ≡ cond test (affirms e.literal) (given s es f)
unfolding given
given-first s e es f test h = ap (λ b. cond b (affirms e.literal) (given s es f)) h

-- no effect of the fluent fired, and it kept its value
pub record Kept (s : State) (es : List Effect) (f : ℕ) : Type 0 where
  pub none : (e : Effect) → Among e es → fires s e ≡ true → fluent e.literal ≢ f
  pub value : given s es f ≡ s f

-- a fluent keeps its value, or an effect that fired gave it its value
pub given_cases : (s : State) (es : List Effect) (f : ℕ) → Kept s es f ⊎ Changed s es f
unfolding given Among
given_cases s [] f = inl (record { none = λ e there. absurd there; value = refl })
given_cases s (x ∷ xs) f =
    let test = fires s x && eqb (fluent x.literal) f in
    ⊎_elim
    (λ (h : test ≡ true).
    let parts = and_parts (fires s x) (eqb (fluent x.literal) f) h in
    inr (record { by = x; among = inl refl; fired = parts.0; of_it = eqb-true (fluent x.literal) f parts.1; value = given-first s x xs f true h }))
    (λ (h : test ≡ false).
    let same = given-first s x xs f false h in
    let here : fires s x ≡ true → fluent x.literal ≢ f = λ fire is.
    both_ways test h (and_from (fires s x) (eqb (fluent x.literal) f) fire (eq-eqb (fluent x.literal) f is)) in
    ⊎_elim
    (λ (k : Kept s xs f).
    inl (record {
      none = λ e there. ⊎_elim (λ (is : e ≡ x). subst (λ y. fires s y ≡ true → fluent y.literal ≢ f) (sym is) here) (λ (later : Among e xs). k.none e later) there;
      value = same ∙ k.value;
    }))
    (λ (c : Changed s xs f). inr (record { by = c.by; among = inr c.among; fired = c.fired; of_it = c.of_it; value = same ∙ c.value }))
    (given_cases s xs f))
    (cases_Bool test)

-- a fluent that no fired effect names keeps its value
pub given-kept : (s : State) (es : List Effect) (f : ℕ) → ((e : Effect) → Among e es → fires s e ≡ true → fluent e.literal ≢ f) → given s es f ≡ s f
given-kept s es f none =
    ⊎_elim (λ (k : Kept s es f). k.value) (λ (c : Changed s es f). absurd (none c.by c.among c.fired c.of_it)) (given_cases s es f)

agree : (a b : Bool) → cond a b (not b) ≡ true → a ≡ b
agree true b h = sym h
agree false true h = h
agree false false h = refl

same_literal : (l m : ℕ) → fluent l ≡ fluent m → affirms l ≡ affirms m → l ≡ m
same_literal l m f a = grind (arith, nat_tests)

-- an effect that fired, with the literal
pub record Came (s : State) (es : List Effect) (l : ℕ) : Type 0 where
  pub by : Effect
  pub among : Among by es
  pub fired : fires s by ≡ true
  pub literal_is : by.literal ≡ l

-- a literal that comes true does so by an effect with it that fires
pub came : (s : State) (es : List Effect) (l : ℕ) → holds s l ≡ false → holds (given s es) l ≡ true → Came s es l
came s es l before now =
    ⊎_elim
    (λ (k : Kept s es (fluent l)).
    absurd (both_ways (holds s l) before (ap (λ v. cond (affirms l) v (not v)) (sym k.value) ∙ now)))
    (λ (c : Changed s es (fluent l)).
    let value : cond (affirms l) (affirms c.by.literal) (not (affirms c.by.literal)) ≡ true = ap (λ v. cond (affirms l) v (not v)) (sym c.value) ∙ now in
    record { by = c.by; among = c.among; fired = c.fired; literal_is = same_literal c.by.literal l c.of_it (sym (agree (affirms l) (affirms c.by.literal) value)) })
    (given_cases s es (fluent l))

-- ---- effects that exclude one another

module _ (F : ℕ) (es : List Effect) (ex : Exclusive F es) (s : State) where
  -- effects that fire together and speak of the same fluent have the same literal
  together : (e f : Effect) → Among e es → Among f es → fires s e ≡ true → fires s f ≡ true → fluent e.literal ≡ fluent f.literal → e.literal ≡ f.literal
  together e f there too fire fire-too same =
      ⊎_elim
      (λ (h : e.literal ≡ f.literal). h)
      (λ (h : e.literal ≡ f.literal → ⊥).
      let l = e.literal in
      let m = f.literal in
      let differ : l ≢ m = h in
      let apart = ex.apart e f there too (omega (arith, differ, same)) in
      absurd (not_both s apart.condition (fires-has s e apart.condition fire apart.here) (fires-has s f (opposite apart.condition) fire-too apart.there)))
      (cases_eq e.literal f.literal)

  -- a fired effect's literal is true at the next moment
  pub given_fired : (e : Effect) → Among e es → fires s e ≡ true → holds (given s es) e.literal ≡ true
  given_fired e there fire =
      let l = e.literal in
      ⊎_elim
      (λ (k : Kept s es (fluent l)). absurd (k.none e there fire refl))
      (λ (c : Changed s es (fluent l)).
      let same : c.by.literal ≡ l = together c.by e c.among there c.fired fire c.of_it in
      ap (λ v. cond (affirms l) v (not v)) (c.value ∙ ap affirms same) ∙ itself (affirms l))
      (given_cases s es (fluent l))
    where
      itself : (b : Bool) → cond b b (not b) ≡ true
      itself true = refl
      itself false = refl

-- ---- lawful sheets

-- sensing has no effects
sensing_works : (deed : Deed) (g : ℕ) → sensed_by deed ≡ Some g → effects_by deed ≡ []
sensing_works (works es) g h = let never : ◌≡◌ {A = ℕ} 0 1 = cc in absurd (omega arith)
sensing_works (senses f) g h = refl

pub moves : (d : Sheet) → lawful d ≡ true → Moves d
unfolding given
moves d ok =
    record {
      fired = λ s a e there fire. given_fired d.fluents (effects_of d a) (exclusive d a ok) s e there fire;
      kept = λ s a f none. given-kept s (effects_of d a) f none;
      sensing = λ s a g f h. ap (λ es. given s es f) (sensing_works (action_of d a).deed g h);
    }
