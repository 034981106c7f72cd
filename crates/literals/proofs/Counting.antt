-- A set has as many members as its number has digits 1. Assumes nothing.
use Rattle.std.proofs.Common.{◌≡◌, ℕ, zero, suc, ◌+◌, ◌*◌, ◌/◌, ◌%◌, ◌^◌, ◌<◌, Bool, true, false, cond, eqb, ltb, List, ◌∷◌, length, filter, sym, refl, ap, ◌∙◌, mod-lt, pow-suc, pow_pos, arith}
use lib.Count.{ones, ones_step, ones_cat}
use lib.Pow.{split}
use Rattle.std.specs.List.{range_with_len}
use Rattle.std.proofs.lemmas.Bool.Decides.{nat_tests}
use Rattle.literals.specs.Literals.{bit, place, has}
use Rattle.literals.proofs.Digits.{bit_mod, bit_shr, few_ones}
use Rattle.literals.proofs.Members.{has_at}

kept_length : (b : Bool) (x : ℕ) (xs : List ℕ) → length (cond b (x ∷ xs) xs) ≡ cond b 1 0 + length xs
kept_length true x xs = omega arith
kept_length false x xs = omega arith

-- the digit at the lowest place
lowest_digit : (b : Bool) (n : ℕ) → b ≡ eqb (n % 2) 1 → cond b 1 0 ≡ n % 2
lowest_digit true n h = grind (arith, nat_tests)
lowest_digit false n h = grind (arith, nat_tests)

-- the members that speak of n fluents from f on; the digits of `pos` and `neg` say which fluents are true and which are false
members_of : (s n f pos neg : ℕ) → pos < 2 ^ n → neg < 2 ^ n
    → ((j : ℕ) → j < n → has s (2 * (f + j) + 1) ≡ bit pos j)
    → ((j : ℕ) → j < n → has s (2 * (f + j)) ≡ bit neg j)
    → length (filter (has s) (range_with_len (2 * f) (2 * n))) ≡ ones pos + ones neg
unfolding bit
members_of s zero f pos neg small few true_at false_at =
    let nothing : pos ≡ 0 = omega arith in
    let none : neg ≡ 0 = omega arith in
    rw (nothing, none, few_ones.0) refl
members_of s (suc n) f pos neg small few true_at false_at =
    let two : 2 * suc n ≡ suc (suc (2 * n)) = omega arith in
    let later : 2 * f + 1 + 1 ≡ 2 * (f + 1) = omega arith in
    let rest = members_of s n (f + 1) (pos / 2) (neg / 2) (omega (arith, pow-suc 2 n)) (omega (arith, pow-suc 2 n))
    (λ j h. let same : f + 1 + j ≡ f + suc j = omega arith in rw same (true_at (suc j) (omega arith)))
    (λ j h. let same : f + 1 + j ≡ f + suc j = omega arith in rw same (false_at (suc j) (omega arith))) in
    let here : f + 0 ≡ f = omega arith in
    let is_false : cond (has s (2 * f)) 1 0 ≡ neg % 2 = lowest_digit (has s (2 * f)) neg (rw here at (false_at 0 (omega arith))) in
    let is_true : cond (has s (2 * f + 1)) 1 0 ≡ pos % 2 = lowest_digit (has s (2 * f + 1)) pos (rw here at (true_at 0 (omega arith))) in
    let third = filter (has s) (range_with_len (2 * f + 1 + 1) (2 * n)) in
    let second = kept_length (has s (2 * f + 1)) (2 * f + 1) third in
    let first = kept_length (has s (2 * f)) (2 * f) (cond (has s (2 * f + 1)) ((2 * f + 1) ∷ third) third) in
    let tail : length third ≡ ones (pos / 2) + ones (neg / 2) = ap (λ k. length (filter (has s) (range_with_len k (2 * n)))) later ∙ rest in
    ap (λ m. length (filter (has s) (range_with_len (2 * f) m))) two ∙ first ∙ omega (arith, second, tail, is_false, is_true, ones_step pos, ones_step neg)

-- how many members a set has
pub ones_members : (s : ℕ) → s < 2 ^ 64 → ones s ≡ length (filter (has s) (range_with_len 0 64))
unfolding place
ones_members s small =
    let pos = s % 2 ^ 32 in
    let neg = s / 2 ^ 32 in
    let low = mod-lt s (pow_pos 32) in
    let high : neg < 2 ^ 32 = omega arith in
    let halves : ones s ≡ ones neg + ones pos = ap ones (sym (split s 32)) ∙ ones_cat 32 neg pos low in
    let counted = members_of s 32 0 pos neg low high
    (λ j h.
    let at : place (2 * (0 + j) + 1) ≡ j = grind (arith, nat_tests) in
    let inside : ltb j 32 ≡ true = grind (arith, nat_tests) in
    has_at s (2 * (0 + j) + 1) (omega arith) ∙ ap (bit s) at ∙ sym (rw inside at (bit_mod 32 j s)))
    (λ j h.
    let at : place (2 * (0 + j)) ≡ 32 + j = grind (arith, nat_tests) in
    has_at s (2 * (0 + j)) (omega arith) ∙ ap (bit s) at ∙ sym (bit_shr 32 j s)) in
    omega (arith, halves, counted)
