-- What the specs say by recursion over groups, effects and moments, as folds and tests of lists. Assumes nothing.
use Rattle.std.proofs.Common.{◌≡◌, ℕ, ◌^◌, ◌<◌, Bool, cond, not, ◌||◌, eqb, List, [], ◌∷◌, sym, refl, ap, arith}
use lib.Bits.{bit_and, bit_or}
use Rattle.std.specs.List.{fold, list_any}
use Rattle.literals.specs.Literals.{single, opposites}
use Rattle.literals.proofs.Laws.{or_below}
use Rattle.domain.specs.declared.action.Effect.{Effect}
use Rattle.knowledge.specs.Sweeps.{grouped, all_grouped, worked, all_worked, is_open, may_come, clash}
use Rattle.knowledge.proofs.Laws.{union_first, union_more, union_done, coming_union}

pub all_grouped-fold : (gs : List ℕ) (facts : ℕ) → all_grouped gs facts ≡ fold grouped facts gs
unfolding all_grouped
all_grouped-fold [] facts = refl
all_grouped-fold (g ∷ gs) facts = all_grouped-fold gs (grouped facts g)

pub all_worked-fold : (es : List Effect) (facts : ℕ × ℕ) → all_worked es facts ≡ fold (λ p e. worked e p) facts es
unfolding all_worked
all_worked-fold [] facts = refl
all_worked-fold (e ∷ es) facts = all_worked-fold es (worked e facts)

-- a literal and its opposite are in a set
abbrev pub clashing : ℕ → Bool
clashing s = not (eqb (bit_and s (opposites s)) 0)

pub clash-list_any : (sets : List ℕ) → clash sets ≡ list_any clashing sets
unfolding clash
clash-list_any [] = refl
clash-list_any (s ∷ sets) = ap (λ b. clashing s || b) (clash-list_any sets)

module _ (facts : ℕ) where
  -- the literal of an effect, if it is open
  abbrev pub coming : Effect → ℕ
  coming e = cond (is_open facts e) (single e.literal) 0

  -- the literals of the open effects, after some that were found
  coming_from : (es : List Effect) (found whole : ℕ) → found < 2 ^ 64 → bit_or found (may_come es facts) ≡ whole → whole ≡ fold (λ a e. bit_or a (coming e)) found es
  coming_from [] found whole small so_far = sym (union_done (coming_union facts) [] 0 found whole so_far small (omega arith))
  coming_from (e ∷ es) found whole small so_far =
      coming_from es (bit_or found (coming e)) whole (or_below _ _ small ((coming_union facts).small e)) (union_more (coming_union facts) (e ∷ es) 0 found whole so_far small _ (omega arith) refl)

  pub may_come-fold : (es : List Effect) → may_come es facts ≡ fold (λ a e. bit_or a (coming e)) 0 es
  may_come-fold es = coming_from es 0 (may_come es facts) (omega arith) (union_first (coming_union facts) es)
