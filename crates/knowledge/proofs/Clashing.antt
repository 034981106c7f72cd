-- When a table shows a literal and its opposite at one moment. Assumes nothing.
use Rattle.std.proofs.Common.{◌≡◌, ℕ, zero, suc, true, false, not, eqb, List, [], ◌∷◌, sym, refl, ◌∙◌, ⊎_elim}
use lib.Bits.{bit_and}
use Rattle.std.proofs.lemmas.Bool.{and_parts, and_from, or_cases, or_parts, both_ways, not-true, not-false, eqb-true, eqb-false}
use Rattle.literals.specs.Literals.{opposite, opposites, has}
use Rattle.literals.specs.Tables.{AreSets, shows}
use Rattle.literals.proofs.Laws.{has-and, has-empty, has-opposites, and_below, no_members}
use Rattle.knowledge.specs.Sweeps.{clash}
use Rattle.knowledge.proofs.LeftOver.{Member, some_or_none}

-- a literal and its opposite are shown at one moment
pub record Clashes (sets : List ℕ) : Type 0 where
  pub moment : ℕ
  pub literal : ℕ
  pub here : shows sets moment literal ≡ true
  pub opposed : shows sets moment (opposite literal) ≡ true

one_later : (s : ℕ) (sets : List ℕ) → Clashes sets → Clashes (s ∷ sets)
one_later s sets c = record { moment = suc c.moment; literal = c.literal; here = c.here; opposed = c.opposed }

clash-first : (s : ℕ) (sets : List ℕ) → AreSets (s ∷ sets) → eqb (bit_and s (opposites s)) 0 ≡ false → Clashes (s ∷ sets)
clash-first s sets small h =
    let both = bit_and s (opposites s) in
    ⊎_elim
    (λ (m : Member both).
    let parts = and_parts (has s m.literal) (has (opposites s) m.literal) (sym (has-and s (opposites s) m.literal) ∙ m.there) in
    record { moment = 0; literal = m.literal; here = parts.0; opposed = sym (has-opposites s m.literal) ∙ parts.1 })
    (λ (none : (l : ℕ) → has both l ≡ false). absurd (eqb-false both 0 h (no_members both (and_below s (opposites s) (small 0)) none)))
    (some_or_none both)

-- the test finds a clash
pub clash_some : (sets : List ℕ) → AreSets sets → clash sets ≡ true → Clashes sets
unfolding clash
clash_some [] small h = absurd (both_ways false refl h)
clash_some (s ∷ sets) small h =
    let first = eqb (bit_and s (opposites s)) 0 in
    ⊎_elim
    (λ (k : not first ≡ true). clash-first s sets small (not-true first k))
    (λ (k : clash sets ≡ true). one_later s sets (clash_some sets (λ t. small (suc t)) k))
    (or_cases (not first) (clash sets) h)

none_at : (sets : List ℕ) → clash sets ≡ false → (t l : ℕ) → shows sets t l ≡ true → shows sets t (opposite l) ≡ true → ⊥
unfolding clash
none_at [] h t l here opposed = both_ways (has 0 l) (has-empty l) here
none_at (s ∷ sets) h zero l here opposed =
    let both = bit_and s (opposites s) in
    let none : both ≡ 0 = eqb-true both 0 (not-false (eqb both 0) (or_parts (not (eqb both 0)) (clash sets) h).0) in
    let there : has both l ≡ true = has-and s (opposites s) l ∙ and_from (has s l) (has (opposites s) l) here (has-opposites s l ∙ opposed) in
    both_ways (has 0 l) (has-empty l) (rw none at there)
none_at (s ∷ sets) h (suc t) l here opposed = none_at sets (or_parts (not (eqb (bit_and s (opposites s)) 0)) (clash sets) h).1 t l here opposed

-- and where it finds none, there is none
pub clash_none : (sets : List ℕ) → clash sets ≡ false → Clashes sets → ⊥
clash_none sets h c = none_at sets h c.moment c.literal c.here c.opposed
