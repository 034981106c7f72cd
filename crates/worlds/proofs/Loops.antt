-- What the specs say by recursion over effects and groups, as folds and tests of lists. Assumes nothing.
use Rattle.std.proofs.Common.{◌≡◌, ℕ, zero, suc, ◌^◌, ◌<◌, Bool, ◌&&◌, List, [], ◌∷◌, get_or, add-one, sym, refl, ap, arith}
use lib.Bits.{bit_and, bit_or}
use Rattle.std.specs.List.{fold, list_all, range_with_len}
use Rattle.literals.specs.Literals.{covers, all}
use Rattle.literals.proofs.Laws.{or_below}
use Rattle.domain.specs.Sheet.{each}
use Rattle.domain.specs.declared.action.Effect.{Effect}
use Rattle.knowledge.specs.AllWorlds.{firing, tells_true}
use Rattle.knowledge.specs.Sweeps.{caused}
use Rattle.knowledge.proofs.Laws.{union_first, union_more, union_done, firing_union}

pub each-list_all : (p : ℕ → Bool) (xs : List ℕ) → each p xs ≡ list_all p xs
each-list_all p [] = refl
each-list_all p (x ∷ xs) = ap (λ b. p x && b) (each-list_all p xs)

-- a set has the told facts of a moment
abbrev pub has_told : ℕ → List ℕ → List ℕ → ℕ → Bool
has_told F told sets t = covers (get_or sets t 0) (bit_and (get_or told t 0) (all F))

pub tells_true-list_all : (F : ℕ) (told : List ℕ) (n t : ℕ) (sets : List ℕ) → tells_true F told n t sets ≡ list_all (has_told F told sets) (range_with_len t n)
unfolding tells_true
tells_true-list_all F told zero t sets = refl
tells_true-list_all F told (suc n) t sets = rw add-one (ap (λ b. has_told F told sets t && b) (tells_true-list_all F told n (suc t) sets))

-- the literals of the effects that fire, after some that were found
module _ (state : ℕ) where
  fired_from : (es : List Effect) (found whole : ℕ) → found < 2 ^ 64 → bit_or found (firing es state) ≡ whole → whole ≡ fold (λ a e. bit_or a (caused e state)) found es
  fired_from [] found whole small so_far = sym (union_done (firing_union state) [] 0 found whole so_far small (omega arith))
  fired_from (e ∷ es) found whole small so_far =
      fired_from es (bit_or found (caused e state)) whole (or_below _ _ small ((firing_union state).small e))
      (union_more (firing_union state) (e ∷ es) 0 found whole so_far small _ (omega arith) refl)

  pub firing-fold : (es : List Effect) → firing es state ≡ fold (λ a e. bit_or a (caused e state)) 0 es
  firing-fold es = fired_from es 0 (firing es state) (omega arith) (union_first (firing_union state) es)
