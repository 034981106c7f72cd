-- One turn of the loop over told facts. Assumes nothing.
use Rattle.std.proofs.Common.{◌≡◌, ℕ, zero, suc, ◌+◌, List, get_or, set, refl, arith}
use lib.Bits.{bit_and}
use Rattle.literals.specs.Literals.{all}
use Rattle.knowledge.specs.Sweeps.{told_from}

-- one moment more, last
pub told_from-suc : (F : ℕ) (told : List ℕ) (n t last : ℕ) (sets : List ℕ) → last ≡ n + t → told_from F told (suc n) t sets ≡ set (told_from F told n t sets) last (bit_and (get_or told last 0) (all F))
unfolding told_from
told_from-suc F told zero t last sets is =
    let here : last ≡ t = omega arith in
    rw here refl
told_from-suc F told (suc n) t last sets is = told_from-suc F told n (suc t) last (set sets t (bit_and (get_or told t 0) (all F))) (omega arith)
