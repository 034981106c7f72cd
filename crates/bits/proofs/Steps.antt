-- One turn of each loop of the reader and the writer. Assumes nothing.
use Rattle.std.proofs.Common.{◌≡◌, ℕ, zero, suc, ◌+◌, ◌-◌, ◌*◌, ◌%◌, ◌^◌, ◌<◌, Bool, true, false, cond, ◌≢◌, List, [], ◌∷◌, length, get_or, take, drop, refl, add-zero, arith, length-drop, pow_mono}
use Rattle.std.proofs.lemmas.List.{take_more, drop_more, get_or-drop}
use Rattle.bits.specs.Bits.{number}
use Rattle.std.proofs.lemmas.Bool.{false≢true}
use Rattle.bits.specs.Fields.{number_at, zeros, fill_end}
use Rattle.bits.proofs.Numbers.{number_append, number_at_below}

-- a field with one bit more
pub number_more : (bits : List Bool) (p i : ℕ) → p + i < length bits
    → number_at bits p (i + 1) ≡ number_at bits p i * 2 + cond (get_or bits (p + i) false) 1 0
unfolding number number_at
number_more bits p i h =
    let inside : i < length (drop p bits) = simp length-drop (omega arith) in
    rw (take_more (drop p bits) i false inside, number_append, get_or-drop p bits i false) (omega arith)

-- a field of at most 16 bits fits 16 bits
pub number-room : (bits : List Bool) (p i : ℕ) → i < 16 → number_at bits p i * 2 + 1 < 2 ^ 16
number-room bits p i h = omega (arith, number_at_below bits p i, pow_mono {i = i} {j = 15} (omega arith))

-- the fill ends where its byte does, or at a 1
pub fill_stops : (bits : List Bool) (p : ℕ) → p % 8 ≡ 0 → fill_end bits p ≡ p
unfolding fill_end
fill_stops bits p h = rw h (add-zero p)

fill_at_one : (bits : List Bool) (p k : ℕ) → get_or bits p false ≡ true → zeros (take k (drop p bits)) ≡ 0
fill_at_one [] p k h = absurd (false≢true h)
fill_at_one (b ∷ bits) zero zero h = refl
fill_at_one (b ∷ bits) zero (suc k) h = rw h refl
fill_at_one (b ∷ bits) (suc p) k h = fill_at_one bits p k h

pub fill_found : (bits : List Bool) (p : ℕ) → get_or bits p false ≡ true → fill_end bits p ≡ p
unfolding fill_end
fill_found bits p h = rw (fill_at_one bits p ((8 - p % 8) % 8) h) (add-zero p)

pub fill_goes_on : (bits : List Bool) (p : ℕ) → p % 8 ≢ 0 → p < length bits → get_or bits p false ≡ false → fill_end bits (p + 1) ≡ fill_end bits p
unfolding fill_end
fill_goes_on bits p h l b =
    let more : (8 - p % 8) % 8 ≡ suc ((8 - (p + 1) % 8) % 8) = omega arith in
    rw (more, drop_more bits p false l, b) (omega arith)
