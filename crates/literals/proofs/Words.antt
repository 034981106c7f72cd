-- What the operations on words of 64 bits in the code give. Assumes nothing.
use Rattle.std.proofs.Common.{◌≡◌, ℕ, ◌+◌, ◌-◌, ◌*◌, ◌/◌, ◌%◌, ◌^◌, ◌<◌, ◌≤◌, Bool, true, false, not, ◌||◌, eqb, ltb, Some, None, Option, sym, refl, ap, ◌∙◌, ⊎_elim, add-zero, arith, pow_pos, pow_mono}
use lib.Bits.{bit_or, or_shifted}
use lib.Count.{count_trailing_zeros}
use Rattle.std.proofs.lemmas.Nat.{one_shl}
use Rattle.std.proofs.lemmas.Bool.{cases_lt, or_parts, both_ways}
use Rattle.std.proofs.lemmas.Bool.Decides.{nat_tests}
use Rattle.std.specs.Bool.{then_some}
use mir.Val.{bool_byte}
use Rattle.literals.specs.Literals.{bit, place, has, of_first, first, lowest}
use Rattle.literals.proofs.Digits.{digit_or, bit_past, bit_shr, trailing_below, trailing_at}
use Rattle.literals.proofs.Members.{has_at, first_is}

-- the digit at a place, by a shift
pub shifted_digit : (n k : ℕ) → eqb (n / 2 ^ k % 2) 1 ≡ bit n k
unfolding bit
shifted_digit n k = bit_shr k 0 n ∙ ap (bit n) (add-zero k)

-- the first fluents of both halves, by shifts
pub of_first_is : (n : ℕ) → n ≤ 32 → bit_or (((1 * 2 ^ n) % 2 ^ 64 - 1) * 2 ^ 32 % 2 ^ 64) ((1 * 2 ^ n) % 2 ^ 64 - 1) ≡ of_first n
unfolding of_first
of_first_is n h =
    let small = pow_mono {i = n} {j = 32} h in
    let fits : (2 ^ n - 1) * 2 ^ 32 % 2 ^ 64 ≡ (2 ^ n - 1) * 2 ^ 32 = omega (arith, pow_pos n) in
    rw (one_shl n 64 (omega arith), fits) (or_shifted (2 ^ n - 1) 32 (2 ^ n - 1) (omega (arith, pow_pos n)))

-- the two literals of a fluent stand 32 places apart
module _ (s m : ℕ) (h : m < 64) where
  pub has_odd : m % 2 ≡ 1 → has s m ≡ bit s (m / 2)
  unfolding place
  has_odd e = let at : place m ≡ m / 2 = grind (arith, nat_tests) in has_at s m h ∙ ap (bit s) at

  pub has_even : m % 2 ≡ 0 → has s m ≡ bit s (32 + m / 2)
  unfolding place
  has_even e = let at : place m ≡ 32 + m / 2 = grind (arith, nat_tests) in has_at s m h ∙ ap (bit s) at

-- the digits of either half, and those of the fluents of which either literal is a member
abbrev either : ℕ → ℕ
either s = bit_or s (s / 2 ^ 32)

either_digit : (s f : ℕ) → bit (either s) f ≡ (bit s f || bit s (32 + f))
either_digit s f = rw (digit_or f s (s / 2 ^ 32), bit_shr 32 f s) refl

neither : (s m : ℕ) → m < 64 → bit (either s) (m / 2) ≡ false → has s m ≡ false
neither s m h none =
    let parts = or_parts (bit s (m / 2)) (bit s (32 + m / 2)) (sym (either_digit s (m / 2)) ∙ none) in
    ⊎_elim
    (λ (e : m % 2 < 1). has_even s m h (omega arith) ∙ parts.1)
    (λ (e : 1 ≤ m % 2). has_odd s m h (omega arith) ∙ parts.0)
    (cases_lt (m % 2) 1)

left_true : (x y : Bool) → (x || y) ≡ true → y ≡ false → x ≡ true
left_true true y h e = refl
left_true false y h e = absurd (both_ways y e h)

-- the lowest fluent of which either literal is a member
abbrev pub lowest-fluent : ℕ → ℕ
lowest-fluent s = count_trailing_zeros 64 (either s)

-- the first member is one of its literals
module _ (s : ℕ) where
  none_lower : (m : ℕ) → m < 64 → m / 2 < lowest-fluent s → has s m ≡ false
  none_lower m h k = neither s m h (trailing_below 64 (either s) (m / 2) k)

  pub first_none : 32 ≤ lowest-fluent s → 64 ≡ first s
  first_none h = first_is s 64 (omega arith) (λ k. absurd (omega arith)) (λ m k. none_lower m k (omega arith))

  pub first_even : lowest-fluent s < 32 → has s (2 * lowest-fluent s) ≡ true → 2 * lowest-fluent s ≡ first s
  first_even h member =
      first_is s (2 * lowest-fluent s) (omega arith) (λ _. member) (λ m k. none_lower m (omega arith) (omega arith))

  pub first_odd : lowest-fluent s < 32 → has s (2 * lowest-fluent s) ≡ false → 2 * lowest-fluent s + 1 ≡ first s
  first_odd h other =
      let f = lowest-fluent s in
      let half : 2 * f / 2 ≡ f = omega arith in
      let next : (2 * f + 1) / 2 ≡ f = omega arith in
      let some : bit (either s) f ≡ true = trailing_at 64 (either s) (omega arith) in
      let apart : bit s (32 + f) ≡ false = rw half at (sym (has_even s (2 * f) (omega arith) (omega arith)) ∙ other) in
      let member : bit s f ≡ true = left_true (bit s f) (bit s (32 + f)) (sym (either_digit s f) ∙ some) apart in
      first_is s (2 * f + 1) (omega arith) (λ _. has_odd s (2 * f + 1) (omega arith) (omega arith) ∙ rw next member)
      (λ m k. ⊎_elim (λ (e : m / 2 < f). none_lower m (omega arith) e) (λ (e : f ≤ m / 2). let same : m ≡ 2 * f = omega arith in rw same other) (cases_lt (m / 2) f))

  -- the lowest member, from the lowest fluent
  pub lowest_none : 32 ≤ lowest-fluent s → None ≡ lowest s
  lowest_none h = rw (← first_none h) refl

  pub lowest_even : lowest-fluent s < 32 → has s (2 * lowest-fluent s) ≡ true → Some (2 * lowest-fluent s) ≡ lowest s
  lowest_even h member =
      let small : ltb (2 * lowest-fluent s) 64 ≡ true = grind (arith, nat_tests) in
      rw (← first_even h member, small) refl

  pub lowest_odd : lowest-fluent s < 32 → has s (2 * lowest-fluent s) ≡ false → Some (2 * lowest-fluent s + 1) ≡ lowest s
  lowest_odd h other =
      let small : ltb (2 * lowest-fluent s + 1) 64 ≡ true = grind (arith, nat_tests) in
      rw (← first_odd h other, small) refl

-- a word has a member of no fluent past the first 32
pub fluent_few : (s : ℕ) → s < 2 ^ 64 → lowest-fluent s < 64 → lowest-fluent s < 32
fluent_few s small inside =
    let f = lowest-fluent s in
    ⊎_elim
    (λ (h : f < 32). h)
    (λ (h : 32 ≤ f).
    let back : 32 + (f - 32) ≡ f = omega arith in
    let some : bit (either s) f ≡ true = trailing_at 64 (either s) inside in
    let member : bit s f ≡ true = left_true (bit s f) (bit s (32 + f)) (sym (either_digit s f) ∙ some) (bit_past 64 s (32 + f) small (omega arith)) in
    let none : bit (either s) (f - 32) ≡ false = trailing_below 64 (either s) (f - 32) (omega arith) in
    let apart = or_parts (bit s (f - 32)) (bit s (32 + (f - 32))) (sym (either_digit s (f - 32)) ∙ none) in
    absurd (both_ways (bit s f) (rw back at apart.1) member))
    (cases_lt f 32)

-- the literal of the lowest fluent that is a member, where there is such a fluent
pub then_lowest : (s odd : ℕ) (member inside : Bool) (r : Option ℕ) → r ≡ then_some inside (2 * lowest-fluent s + odd)
    → (inside ≡ true → lowest-fluent s < 32)
    → (inside ≡ false → 32 ≤ lowest-fluent s)
    → odd ≡ bool_byte (not member)
    → member ≡ has s (2 * lowest-fluent s)
    → r ≡ lowest s
then_lowest s odd member true r told some none digit e = told ∙ rw digit (either_lowest s member (some refl) (sym e))
  where
    either_lowest : (s : ℕ) (member : Bool) → lowest-fluent s < 32 → has s (2 * lowest-fluent s) ≡ member → Some (2 * lowest-fluent s + bool_byte (not member)) ≡ lowest s
    either_lowest s true h e = let same : 2 * lowest-fluent s + 0 ≡ 2 * lowest-fluent s = omega arith in rw same (lowest_even s h e)
    either_lowest s false h e = lowest_odd s h e
then_lowest s odd member false r told some none digit e = told ∙ lowest_none s (none refl)
