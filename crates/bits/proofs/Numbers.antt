-- Laws of numbers spelled by bits, and of the bits of bytes. Assumes nothing.
use Rattle.std.proofs.Common.{◌≡◌, ℕ, zero, suc, ◌+◌, ◌-◌, ◌*◌, ◌/◌, ◌%◌, ◌^◌, ◌<◌, ◌≤◌, Bool, true, false, cond, eqb, List, [], ◌∷◌, ◌++◌, length, get_or, take, drop, replicate, sym, refl, ap, ⊎_elim, append_assoc, lt_of_lt_of_le, mul_assoc, mul_comm, add-mul, pow-suc, one-add, arith, length-append, length-take, pow_pos, pow_mono, pow-add, shr-shr}
use native.Mathlib.Nat.{mod-one, zero-div, mul-add-div_right, mul-add-mod_self_right}
use mir.Val.{bool_byte}
use Rattle.std.proofs.lemmas.List.{get_or_append_left, get_or-append_right}
use lib.Pow.{mod-pow-add, high}
use Rattle.std.proofs.lemmas.Bool.{cases_lt}
use Rattle.std.proofs.lemmas.Bool.Decides.{nat_tests}
use Rattle.bits.specs.Bits.{number, numeral, bits_of}
use Rattle.bits.specs.Fields.{number_at}

pub length-numeral : (w n : ℕ) → length (numeral w n) ≡ w
unfolding numeral
length-numeral zero n = refl
length-numeral (suc w) n = ap suc (length-numeral w n)

-- the bit 1 is true
one_bit : (n : ℕ) → cond (eqb (n % 2) 1) 1 0 ≡ n % 2
one_bit n = grind (arith, nat_tests)

same_bit : (b : Bool) → eqb (cond b 1 0 % 2) 1 ≡ b
same_bit true = refl
same_bit false = refl

pub number-numeral : (w n : ℕ) → number (numeral w n) ≡ n % 2 ^ w
unfolding numeral number
number-numeral zero n = sym (mod-one n)
number-numeral (suc w) n =
    rw (one_bit (n / 2 ^ w), length-numeral w n, number-numeral w n, ← one-add w) (sym (mod-pow-add n 1 w))

pub number_below : (bs : List Bool) → number bs < 2 ^ length bs
unfolding number
number_below [] = omega arith
number_below (true ∷ bs) = omega (arith, number_below bs, pow-suc 2 (length bs))
number_below (false ∷ bs) = omega (arith, number_below bs, pow-suc 2 (length bs))

-- higher bits of the number do not show in its numeral
numeral_low : (w a n : ℕ) → numeral w (a * 2 ^ w + n) ≡ numeral w n
unfolding numeral
numeral_low zero a n = refl
numeral_low (suc w) a n =
    let twice : a * 2 ^ suc w + n ≡ (a * 2) * 2 ^ w + n = rw (pow-suc 2 w, mul_comm (2 ^ w) 2, mul_assoc) in
    rw (twice, numeral_low w (a * 2) n, mul-add-div_right (pow_pos w) (a * 2) n, mul-add-mod_self_right a 2 (n / 2 ^ w))

pub numeral-number : (bs : List Bool) → numeral (length bs) (number bs) ≡ bs
unfolding numeral number
numeral-number [] = refl
numeral-number (b ∷ bs) =
    rw (numeral_low (length bs) (cond b 1 0) (number bs), numeral-number bs, high (cond b 1 0) (length bs) (number_below bs), same_bit b)

pub numeral_at : (w n i : ℕ) → i < w → get_or (numeral w n) i false ≡ eqb (n / 2 ^ (w - 1 - i) % 2) 1
unfolding numeral
numeral_at zero n i h = absurd (omega arith)
numeral_at (suc w) n zero h = let same : suc w - 1 - 0 ≡ w = omega arith in rw same
numeral_at (suc w) n (suc i) h = let same : suc w - 1 - suc i ≡ w - 1 - i = omega arith in rw (same, numeral_at w n i (omega arith))

pub length-bits_of : (bytes : List ℕ) → length (bits_of bytes) ≡ 8 * length bytes
unfolding bits_of
length-bits_of [] = refl
length-bits_of (b ∷ bytes) = rw (length-append (numeral 8 b) (bits_of bytes), length-numeral 8 b, length-bits_of bytes) (omega arith)

-- the bit at a place stands in the byte at an eighth of it
pub bit_at : (bytes : List ℕ) (p : ℕ) → get_or (bits_of bytes) p false ≡ eqb (get_or bytes (p / 8) 0 / 2 ^ (7 - p % 8) % 2) 1
unfolding bits_of
bit_at [] p = rw (zero-div (2 ^ (7 - p % 8)))
bit_at (b ∷ bytes) p =
    ⊎_elim
    (λ (h : p < 8).
    let first : p / 8 ≡ 0 = omega arith in
    let same : p % 8 ≡ p = omega arith in
    rw (first, same, get_or_append_left (numeral 8 b) (bits_of bytes) false p (omega (arith, length-numeral 8 b))) (numeral_at 8 b p h))
    (λ (h : 8 ≤ p).
    let later : p / 8 ≡ suc ((p - 8) / 8) = omega arith in
    let same : p % 8 ≡ (p - 8) % 8 = omega arith in
    rw (later, same, get_or-append_right (numeral 8 b) (bits_of bytes) 8 p false (length-numeral 8 b) h) (bit_at bytes (p - 8)))
    (cases_lt p 8)

pub number_append : (xs ys : List Bool) → number (xs ++ ys) ≡ number xs * 2 ^ length ys + number ys
unfolding number
number_append [] ys = omega arith
number_append (b ∷ xs) ys =
    rw (number_append xs ys, length-append xs ys, pow-add 2 (length xs) (length ys), add-mul, mul_assoc) (omega arith)

pub number_at_below : (bits : List Bool) (p w : ℕ) → number_at bits p w < 2 ^ w
unfolding number_at
number_at_below bits p w =
    lt_of_lt_of_le (number_below (take w (drop p bits))) (pow_mono (simp length-take (omega arith)))

pub number-zeros : (k : ℕ) → number (replicate k false) ≡ 0
unfolding number
number-zeros zero = refl
number-zeros (suc k) = rw (number-zeros k) (omega arith)

pub bits_of-append : (xs ys : List ℕ) → bits_of (xs ++ ys) ≡ bits_of xs ++ bits_of ys
unfolding bits_of
bits_of-append [] ys = refl
bits_of-append (x ∷ xs) ys = rw (bits_of-append xs ys) (sym (append_assoc (numeral 8 x) (bits_of xs) (bits_of ys)))

-- the first bits of a numeral are the numeral of a quotient
pub take-numeral : (w n r : ℕ) → r ≤ w → take r (numeral w n) ≡ numeral r (n / 2 ^ (w - r))
unfolding numeral
take-numeral w n zero h = refl
take-numeral zero n (suc r) h = absurd (omega arith)
take-numeral (suc w) n (suc r) h =
    let shift : suc w - suc r ≡ w - r = omega arith in
    let whole : w - r + r ≡ w = omega arith in
    rw (shift, take-numeral w n r (omega arith), shr-shr n (w - r) r, whole)

-- what a bit counts as a number
pub as_number : (b : Bool) → bool_byte b ≡ cond b 1 0
as_number true = refl
as_number false = refl

pub as_number_le : (b : Bool) → bool_byte b ≤ 1
as_number_le true = omega arith
as_number_le false = omega arith
