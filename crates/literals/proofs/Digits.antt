-- Laws of the binary digits of a number. Assumes nothing.
use Rattle.std.proofs.Common.{◌≡◌, ℕ, zero, suc, ◌+◌, ◌-◌, ◌*◌, ◌/◌, ◌%◌, ◌^◌, ◌<◌, ◌≤◌, min, max, true, false, cond, not, ◌&&◌, ◌||◌, eqb, ltb, sym, refl, ◌∙◌, ⊎_elim, mod-lt, pow-suc, arith, pow_pos}
use lib.Bits.{bit_and, bit_or, bit_xor, and_step, or_step, and_shr, or_shr, xor_shr, xor_add_and, block_half, block_odd}
use lib.Count.{ones, count_trailing_zeros, under, ones_step, ones_cat}
use lib.Pow.{split}
use Rattle.std.proofs.lemmas.Bool.{cases_lt}
use Rattle.std.proofs.lemmas.Bool.Decides.{nat_tests}
use Rattle.literals.specs.Literals.{bit}

pub digit_and : (k a b : ℕ) → bit (bit_and a b) k ≡ (bit a k && bit b k)
unfolding bit
digit_and zero a b =
    let odd : bit_and a b % 2 ≡ min (a % 2) (b % 2) = omega (arith, and_step a b) in
    rw odd (grind (arith, nat_tests))
digit_and (suc k) a b = rw (and_shr a b 1) (digit_and k (a / 2) (b / 2))

pub digit_or : (k a b : ℕ) → bit (bit_or a b) k ≡ (bit a k || bit b k)
unfolding bit
digit_or zero a b =
    let odd : bit_or a b % 2 ≡ max (a % 2) (b % 2) = omega (arith, or_step a b) in
    rw odd (grind (arith, nat_tests))
digit_or (suc k) a b = rw (or_shr a b 1) (digit_or k (a / 2) (b / 2))

pub bit-without : (k a b : ℕ) → bit (bit_xor a (bit_and a b)) k ≡ (bit a k && not (bit b k))
unfolding bit
bit-without zero a b =
    let shared = and_step a b in
    let odd : bit_xor a (bit_and a b) % 2 ≡ (a % 2 + min (a % 2) (b % 2)) % 2 = omega (arith, xor_add_and a (bit_and a b)) in
    rw odd (grind (arith, nat_tests))
bit-without (suc k) a b = rw (xor_shr a (bit_and a b) 1, and_shr a b 1) (bit-without k (a / 2) (b / 2))

pub bit_zero : (k : ℕ) → bit 0 k ≡ false
unfolding bit
bit_zero zero = refl
bit_zero (suc k) = bit_zero k

-- a number below 2 ^ w has no digit from w on
pub bit_past : (w n k : ℕ) → n < 2 ^ w → w ≤ k → bit n k ≡ false
unfolding bit
bit_past zero n k h l = let none : n ≡ 0 = omega arith in rw none (bit_zero k)
bit_past (suc w) n zero h l = absurd (omega arith)
bit_past (suc w) n (suc k) h l = bit_past w (n / 2) k (omega (arith, pow-suc 2 w)) (omega arith)

-- two numbers of w digits with the same digits are equal
pub same_digits : (w a b : ℕ) → a < 2 ^ w → b < 2 ^ w → ((k : ℕ) → k < w → bit a k ≡ bit b k) → a ≡ b
unfolding bit
same_digits zero a b h l same = omega arith
same_digits (suc w) a b h l same =
    let rest = same_digits w (a / 2) (b / 2) (omega (arith, pow-suc 2 w)) (omega (arith, pow-suc 2 w)) (λ k m. same (suc k) (omega arith)) in
    let odd = same 0 (omega arith) in
    let lowest : a % 2 ≡ b % 2 = grind (arith, nat_tests) in
    omega arith

-- the digits of a above the p digits of r
pub bit_block : (p k a r : ℕ) → r < 2 ^ p → bit (a * 2 ^ p + r) k ≡ cond (ltb k p) (bit r k) (bit a (k - p))
unfolding bit
bit_block zero k a r h =
    let same : a * 2 ^ 0 + r ≡ a = omega arith in
    let stays : k - 0 ≡ k = omega arith in
    rw (same, stays) (grind (arith, nat_tests))
bit_block (suc p) zero a r h = rw (block_odd a p r) (grind (arith, nat_tests))
bit_block (suc p) (suc k) a r h =
    let less : suc k - suc p ≡ k - p = omega arith in
    let test : ltb (suc k) (suc p) ≡ ltb k p = grind (arith, nat_tests) in
    rw (block_half a p r, less, test) (bit_block p k a (r / 2) (omega (arith, pow-suc 2 p)))

pub bit_shr : (p k n : ℕ) → bit (n / 2 ^ p) k ≡ bit n (p + k)
bit_shr p k n =
    let back : p + k - p ≡ k = omega arith in
    let past : ltb (p + k) p ≡ false = grind (arith, nat_tests) in
    sym (rw (split n p, past, back) at (bit_block p (p + k) (n / 2 ^ p) (n % 2 ^ p) (mod-lt n (pow_pos p))))

pub bit_mod : (p k n : ℕ) → bit (n % 2 ^ p) k ≡ (ltb k p && bit n k)
bit_mod p k n =
    let low = mod-lt n (pow_pos p) in
    ⊎_elim
    (λ (h : k < p).
    let test : ltb k p ≡ true = grind (arith, nat_tests) in
    rw test (sym (rw (split n p, test) at (bit_block p k (n / 2 ^ p) (n % 2 ^ p) low))))
    (λ (h : p ≤ k).
    let test : ltb k p ≡ false = grind (arith, nat_tests) in
    rw test (bit_past p (n % 2 ^ p) k low h))
    (cases_lt k p)

pub bit_pow : (p k : ℕ) → bit (2 ^ p) k ≡ eqb k p
unfolding bit
bit_pow zero zero = refl
bit_pow zero (suc k) = rw (bit_zero k) (grind (arith, nat_tests))
bit_pow (suc p) zero =
    let even : 2 ^ suc p % 2 ≡ 0 = omega (arith, pow-suc 2 p) in
    rw even (grind (arith, nat_tests))
bit_pow (suc p) (suc k) =
    let half : 2 ^ suc p / 2 ≡ 2 ^ p = omega (arith, pow-suc 2 p) in
    rw (half, bit_pow p k) (grind (arith, nat_tests))

pub bit_ones : (n k : ℕ) → bit (2 ^ n - 1) k ≡ ltb k n
unfolding bit
bit_ones zero k = rw (bit_zero k) (grind (arith, nat_tests))
bit_ones (suc n) zero =
    let odd : (2 ^ suc n - 1) % 2 ≡ 1 = omega (arith, pow-suc 2 n, pow_pos n) in
    rw odd (grind (arith, nat_tests))
bit_ones (suc n) (suc k) =
    let half : (2 ^ suc n - 1) / 2 ≡ 2 ^ n - 1 = omega (arith, pow-suc 2 n, pow_pos n) in
    rw (half, bit_ones n k) (grind (arith, nat_tests))

-- below the count of trailing zeros every digit is 0, and the digit there is 1
below_step : (d t n k : ℕ) → n % 2 ≡ d → ((m : ℕ) → m < t → bit (n / 2) m ≡ false) → k < under d t → bit n k ≡ false
unfolding bit
below_step zero t n zero e rest h = rw e refl
below_step zero t n (suc k) e rest h = rest k (omega arith)
below_step (suc d) t n k e rest h = absurd (omega arith)

at_step : (d t n w : ℕ) → n % 2 ≡ d → (t < w → bit (n / 2) t ≡ true) → under d t < suc w → bit n (under d t) ≡ true
unfolding bit
at_step zero t n w e rest h = rest (omega arith)
at_step (suc d) t n w e rest h = let odd : n % 2 ≡ 1 = omega arith in rw odd refl

pub trailing_below : (w n k : ℕ) → k < count_trailing_zeros w n → bit n k ≡ false
unfolding count_trailing_zeros
trailing_below zero n k h = absurd (omega arith)
trailing_below (suc w) n k h = below_step (n % 2) (count_trailing_zeros w (n / 2)) n k refl (trailing_below w (n / 2)) h

pub trailing_at : (w n : ℕ) → count_trailing_zeros w n < w → bit n (count_trailing_zeros w n) ≡ true
unfolding count_trailing_zeros
trailing_at zero n h = absurd (omega arith)
trailing_at (suc w) n h = at_step (n % 2) (count_trailing_zeros w (n / 2)) n w refl (trailing_at w (n / 2)) h

-- a number with no digit 1 is 0, and one with a single digit 1 is a power of two
pub no_ones : (w n : ℕ) → n < 2 ^ w → ones n ≡ 0 → n ≡ 0
no_ones zero n h e = omega arith
no_ones (suc w) n h e =
    let step = ones_step n in
    let rest = no_ones w (n / 2) (omega (arith, pow-suc 2 w)) (omega arith) in
    omega arith

pub few_ones : (ones 0 ≡ 0) × (ones 1 ≡ 1)
unfolding ones
few_ones = (refl, refl)

one_step : (d t n : ℕ) → n % 2 ≡ d → d + ones (n / 2) ≡ 1 → (ones (n / 2) ≡ 1 → n / 2 ≡ 2 ^ t) → (ones (n / 2) ≡ 0 → n / 2 ≡ 0) → n ≡ 2 ^ under d t
one_step zero t n e sum one none = omega (arith, pow-suc 2 t, one (omega arith))
one_step (suc d) t n e sum one none = omega (arith, none (omega arith))

pub one_one : (w n : ℕ) → n < 2 ^ w → ones n ≡ 1 → n ≡ 2 ^ count_trailing_zeros w n
unfolding count_trailing_zeros
one_one zero n h e = let none : n ≡ 0 = omega arith in absurd (omega (arith, few_ones.0, rw none at e))
one_one (suc w) n h e =
    let half : n / 2 < 2 ^ w = omega (arith, pow-suc 2 w) in
    one_step (n % 2) (count_trailing_zeros w (n / 2)) n refl (sym (ones_step n) ∙ e) (one_one w (n / 2) half) (no_ones w (n / 2) half)

pub ones_pow : (k : ℕ) → ones (2 ^ k) ≡ 1
ones_pow k =
    let same : 2 ^ k ≡ 1 * 2 ^ k + 0 = omega arith in
    rw (same, ones_cat k 1 0 (pow_pos k), few_ones.0, few_ones.1) refl
