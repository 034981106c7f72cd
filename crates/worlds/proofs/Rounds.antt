-- One turn of the loop over orders and looks. Assumes nothing.
use Rattle.std.proofs.Common.{◌≡◌, ℕ, suc, ◌+◌, ◌-◌, ◌<◌, List, length, get_or, set, add-one, sym, ap, ◌∙◌, arith}
use Rattle.domain.specs.Accessors.{effects_of}
use Rattle.domain.specs.Sheet.{Sheet}
use Rattle.knowledge.specs.AllWorlds.{moved, traced}

module _ (d : Sheet) (orders : List ℕ) (t state : ℕ) (sets whole : List ℕ) (so_far : traced d orders (length orders - t) t state sets ≡ whole) where
  pub trace_more : (next : ℕ) (put : List ℕ) → t < length orders → put ≡ set sets t state → next ≡ moved (effects_of d (get_or orders t 0)) state
      → traced d orders (length orders - (t + 1)) (t + 1) next put ≡ whole
  unfolding traced
  trace_more next put inside is moves =
      let left : length orders - t ≡ suc (length orders - suc t) = omega (arith, inside) in
      rw (is, moves, add-one) (ap (λ n. traced d orders n t state sets) (sym left) ∙ so_far)

  pub trace_done : (put : List ℕ) → t ≡ length orders → put ≡ set sets (length orders) state → put ≡ whole
  unfolding traced
  trace_done put past is =
      let left : length orders - t ≡ 0 = omega (arith, past) in
      is ∙ ap (λ k. set sets k state) (sym past) ∙ ap (λ n. traced d orders n t state sets) (sym left) ∙ so_far
