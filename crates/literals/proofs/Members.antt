-- The members of sets of literals, and what the operations on sets make of them. Assumes nothing.
use Rattle.std.proofs.Common.{◌≡◌, ℕ, zero, suc, ◌+◌, ◌-◌, ◌*◌, ◌/◌, ◌%◌, ◌^◌, ◌<◌, ◌≤◌, min, Bool, true, false, cond, not, ◌&&◌, ◌||◌, eqb, ltb, Some, None, sym, refl, ap, ◌∙◌, ⊎_elim, arith, pow_pos, pow_mono}
use lib.Bits.{bit_and, bit_or, and_le_l, and_le_r, or_lt, xor_lt, or_add_and, xor_add_and}
use lib.Count.{ones, count_trailing_zeros}
use lib.Pow.{pow-lt}
use Rattle.std.proofs.lemmas.Bool.{cases_lt, cases_eq, cases_Bool, cases_order, eqb-true, eq-eqb, ne_eqb, both_ways}
use Rattle.std.proofs.lemmas.Bool.Decides.{nat_tests}
use Rattle.literals.specs.Literals.{fluent, opposite, bit, place, literal_at, at_place, has, single, with, without, covers, rotated, opposites, of_first, all, first_from, first, lowest}
use Rattle.literals.specs.Tables.{told, same}
use Rattle.literals.proofs.Digits.{digit_and, digit_or, bit-without, bit_zero, same_digits, bit_block, bit_shr, bit_mod, bit_pow, bit_ones, few_ones, no_ones, one_one, ones_pow}

-- ---- literals and their places

pub opposite-opposite : (l : ℕ) → opposite (opposite l) ≡ l
opposite-opposite l = omega arith

pub opposite-fluent : (l : ℕ) → fluent (opposite l) ≡ fluent l
opposite-fluent l = omega arith

pub opposite_differs : (l : ℕ) → opposite l ≡ l → ⊥
opposite_differs l h = omega arith

pub opposite_below : (l : ℕ) → l < 64 → opposite l < 64
opposite_below l h = omega arith

pub opposite_past : (l : ℕ) → 64 ≤ l → 64 ≤ opposite l
opposite_past l h = omega arith

pub place_below : (l : ℕ) → l < 64 → place l < 64
unfolding place
place_below l h = grind (arith, nat_tests)

pub place_past : (l : ℕ) → 64 ≤ l → 64 ≤ place l
unfolding place
place_past l h = grind (arith, nat_tests)

pub literal_at_below : (k : ℕ) → k < 64 → literal_at k < 64
unfolding literal_at
literal_at_below k h = grind (arith, nat_tests)

pub literal_place : (l : ℕ) → literal_at (place l) ≡ l
unfolding place literal_at
literal_place l = grind (arith, nat_tests)

pub place_literal : (k : ℕ) → place (literal_at k) ≡ k
unfolding place literal_at
place_literal k = grind (arith, nat_tests)

-- ---- members

-- a test over what follows it
over_and : (t x y : Bool) → (t && (x && y)) ≡ ((t && x) && (t && y))
over_and true x y = refl
over_and false x y = refl

over_or : (t x y : Bool) → (t && (x || y)) ≡ ((t && x) || (t && y))
over_or true x y = refl
over_or false x y = refl

over_not : (t x y : Bool) → (t && (x && not y)) ≡ ((t && x) && not (t && y))
over_not true x y = refl
over_not false x y = refl

over_false : (t : Bool) → (t && false) ≡ false
over_false true = refl
over_false false = refl

pub or_false : (x : Bool) → (x || false) ≡ x
or_false true = refl
or_false false = refl

pub has-and : (a b l : ℕ) → has (bit_and a b) l ≡ (has a l && has b l)
unfolding at_place
has-and a b l = rw (digit_and (place l) a b) (over_and (ltb (place l) 64) _ _)

pub has-or : (a b l : ℕ) → has (bit_or a b) l ≡ (has a l || has b l)
unfolding at_place
has-or a b l = rw (digit_or (place l) a b) (over_or (ltb (place l) 64) _ _)

pub has-without : (s t l : ℕ) → has (without s t) l ≡ (has s l && not (has t l))
unfolding at_place
has-without s t l = rw (bit-without (place l) s t) (over_not (ltb (place l) 64) _ _)

pub has-empty : (l : ℕ) → has 0 l ≡ false
unfolding at_place
has-empty l = rw (bit_zero (place l)) (over_false (ltb (place l) 64))

pub has_past : (s l : ℕ) → 64 ≤ l → has s l ≡ false
unfolding at_place
has_past s l h =
    let past = place_past l h in
    let test : ltb (place l) 64 ≡ false = grind (arith, nat_tests) in
    rw test refl

pub has_below : (s l : ℕ) → has s l ≡ true → l < 64
has_below s l h = ⊎_elim (λ (k : l < 64). k) (λ (k : 64 ≤ l). absurd (both_ways _ (has_past s l k) h)) (cases_lt l 64)

-- a literal of a set stands at its place
pub has_at : (s l : ℕ) → l < 64 → has s l ≡ bit s (place l)
unfolding at_place
has_at s l h =
    let below = place_below l h in
    let test : ltb (place l) 64 ≡ true = grind (arith, nat_tests) in
    rw test refl

-- a set that has each literal where a test of the literal passes
by_digits : (s l : ℕ) (test : Bool) → (l < 64 → bit s (place l) ≡ test) → has s l ≡ (ltb l 64 && test)
by_digits s l test told =
    ⊎_elim
    (λ (h : l < 64). let inside : ltb l 64 ≡ true = grind (arith, nat_tests) in rw inside (has_at s l h ∙ told h))
    (λ (h : 64 ≤ l). let outside : ltb l 64 ≡ false = grind (arith, nat_tests) in rw outside (has_past s l h))
    (cases_lt l 64)

same_place : (l m : ℕ) → eqb (place m) (place l) ≡ eqb m l
same_place l m =
    ⊎_elim
    (λ (e : m ≡ l). rw e (eq-eqb (place l) (place l) refl ∙ sym (eq-eqb l l refl)))
    (λ (ne : m ≡ l → ⊥).
    ne_eqb (place m) (place l) (λ e. ne (sym (literal_place m) ∙ ap literal_at e ∙ literal_place l)) ∙ sym (ne_eqb m l ne))
    (cases_eq m l)

pub has-single : (l m : ℕ) → has (single l) m ≡ (ltb l 64 && eqb m l)
unfolding single
has-single l m =
    ⊎_elim
    (λ (h : l < 64).
    let inside : ltb l 64 ≡ true = grind (arith, nat_tests) in
    rw inside (by_digits (2 ^ place l) m (eqb m l) (λ _. bit_pow (place l) (place m) ∙ same_place l m) ∙ grind (arith, nat_tests)))
    (λ (h : 64 ≤ l). let outside : ltb l 64 ≡ false = grind (arith, nat_tests) in rw outside (has-empty m))
    (cases_lt l 64)

pub has-with : (s l m : ℕ) → has (with s l) m ≡ (has s m || (ltb l 64 && eqb m l))
has-with s l m = rw (has-or s (single l) m, has-single l m) refl

turned : (s k : ℕ) → k < 64 → bit (rotated 32 s) k ≡ bit s (cond (ltb k 32) (32 + k) (k - 32))
unfolding rotated
turned s k h =
    let n = s % 2 ^ 64 in
    let up : bit (n * 2 ^ 32) k ≡ cond (ltb k 32) (bit 0 k) (bit n (k - 32)) = let same : n * 2 ^ 32 ≡ n * 2 ^ 32 + 0 = omega arith in rw same (bit_block 32 k n 0 (omega arith)) in
    rw (digit_or k (n * 2 ^ 32 % 2 ^ 64) (n / 2 ^ 32), bit_mod 64 k (n * 2 ^ 32), bit_shr 32 k n, up, bit_mod 64 (k - 32) s, bit_mod 64 (32 + k) s, bit_zero k)
    (⊎_elim
    (λ (low : k < 32).
    let inside : ltb k 64 ≡ true = grind (arith, nat_tests) in
    let test : ltb k 32 ≡ true = grind (arith, nat_tests) in
    let far : ltb (32 + k) 64 ≡ true = grind (arith, nat_tests) in
    rw (inside, test, far) refl)
    (λ (high : 32 ≤ k).
    let inside : ltb k 64 ≡ true = grind (arith, nat_tests) in
    let test : ltb k 32 ≡ false = grind (arith, nat_tests) in
    let near : ltb (k - 32) 64 ≡ true = grind (arith, nat_tests) in
    let far : ltb (32 + k) 64 ≡ false = grind (arith, nat_tests) in
    rw (inside, test, near, far) (or_false (bit s (k - 32))))
    (cases_lt k 32))

opposite-place : (l : ℕ) → l < 64 → cond (ltb (place l) 32) (32 + place l) (place l - 32) ≡ place (opposite l)
unfolding place
opposite-place l h = grind (arith, nat_tests)

pub has-opposites : (s l : ℕ) → has (opposites s) l ≡ has s (opposite l)
has-opposites s l =
    ⊎_elim
    (λ (h : l < 64). has_at (opposites s) l h ∙ turned s (place l) (place_below l h) ∙ ap (bit s) (opposite-place l h) ∙ sym (has_at s (opposite l) (opposite_below l h)))
    (λ (h : 64 ≤ l). has_past (opposites s) l h ∙ sym (has_past s (opposite l) (opposite_past l h)))
    (cases_lt l 64)

pub has_all : (fluents l : ℕ) → has (all fluents) l ≡ (ltb l 64 && ltb (fluent l) fluents)
unfolding of_first place
has_all fluents l =
    let n = min fluents 32 in
    let low : 2 ^ n - 1 < 2 ^ 32 = omega (arith, pow_mono {i = n} {j = 32} (omega arith), pow_pos n) in
    by_digits (all fluents) l (ltb (fluent l) fluents)
    (λ (h : l < 64). bit_block 32 (place l) (2 ^ n - 1) (2 ^ n - 1) low ∙ rw (bit_ones n (place l), bit_ones n (place l - 32)) (grind (arith, nat_tests)))

-- ---- sets as numbers

pub and_below : (a b : ℕ) → a < 2 ^ 64 → bit_and a b < 2 ^ 64
and_below a b h = omega (arith, and_le_l a b)

pub or_below : (a b : ℕ) → a < 2 ^ 64 → b < 2 ^ 64 → bit_or a b < 2 ^ 64
or_below a b h k = or_lt 64 a b h k

pub without_below : (s t : ℕ) → s < 2 ^ 64 → without s t < 2 ^ 64
without_below s t h = xor_lt 64 s (bit_and s t) h (and_below s t h)

pub single_below : (l : ℕ) → single l < 2 ^ 64
unfolding single
single_below l =
    ⊎_elim
    (λ (h : l < 64). let inside : ltb l 64 ≡ true = grind (arith, nat_tests) in rw inside (pow-lt (place_below l h)))
    (λ (h : 64 ≤ l). let outside : ltb l 64 ≡ false = grind (arith, nat_tests) in rw outside (omega arith))
    (cases_lt l 64)

pub with_below : (s l : ℕ) → s < 2 ^ 64 → with s l < 2 ^ 64
with_below s l h = or_below s (single l) h (single_below l)

pub opposites_below : (s : ℕ) → opposites s < 2 ^ 64
unfolding rotated
opposites_below s = or_lt 64 (s % 2 ^ 64 * 2 ^ 32 % 2 ^ 64) (s % 2 ^ 64 / 2 ^ 32) (omega arith) (omega arith)

pub all_below : (fluents : ℕ) → all fluents < 2 ^ 64
unfolding of_first
all_below fluents = omega (arith, pow_mono {i = min fluents 32} {j = 32} (omega arith), pow_pos (min fluents 32))

-- sets with the same members are equal
pub same-members : (a b : ℕ) → a < 2 ^ 64 → b < 2 ^ 64 → ((l : ℕ) → has a l ≡ has b l) → a ≡ b
same-members a b small few same =
    same_digits 64 a b small few
    (λ k h.
    let below = literal_at_below k h in
    rw (ap (bit a) (sym (place_literal k)), ap (bit b) (sym (place_literal k)))
    (sym (has_at a (literal_at k) below) ∙ same (literal_at k) ∙ has_at b (literal_at k) below))

pub no_members : (s : ℕ) → s < 2 ^ 64 → ((l : ℕ) → has s l ≡ false) → s ≡ 0
no_members s small none = same-members s 0 small (omega arith) (λ l. none l ∙ sym (has-empty l))

in_both : (x y : Bool) → (x && not y) ≡ false → x ≡ true → y ≡ true
in_both true true h e = refl
in_both true false h e = sym h
in_both false y h e = cc

none_apart : (x y : Bool) → (x ≡ true → y ≡ true) → (x && not y) ≡ false
none_apart true y h = ap not (h refl)
none_apart false y h = refl

pub covers-has : (s part : ℕ) → covers s part ≡ true → (l : ℕ) → has part l ≡ true → has s l ≡ true
covers-has s part h l m =
    let none : has (without part s) l ≡ false = rw (eqb-true (without part s) 0 h) (has-empty l) in
    in_both (has part l) (has s l) (sym (has-without part s l) ∙ none) m

pub has-covers : (s part : ℕ) → part < 2 ^ 64 → ((l : ℕ) → has part l ≡ true → has s l ≡ true) → covers s part ≡ true
has-covers s part small every =
    eq-eqb (without part s) 0 (no_members (without part s) (without_below part s small) (λ l. has-without part s l ∙ none_apart (has part l) (has s l) (every l)))

-- a set with more members is a larger number
pub covers_le : (s part : ℕ) → covers s part ≡ true → part ≤ s
covers_le s part h =
    let shared = bit_and part s in
    omega (arith, eqb-true (without part s) 0 h, xor_add_and part shared, and_le_l part shared, and_le_r part shared, and_le_r part s)

pub or_le : (a b : ℕ) → a ≤ bit_or a b
or_le a b = omega (arith, or_add_and a b, and_le_r a b)

-- ---- the lowest member

-- l is the lowest member
pub record Lowest (s l : ℕ) : Type 0 where
  pub member : has s l ≡ true
  pub lower : (m : ℕ) → m < l → has s m ≡ false

-- where a search from l on ends
record Found (s n l r : ℕ) : Type 0 where
  from : l ≤ r
  to : r ≤ l + n
  hit : r < l + n → has s r ≡ true
  missed : (m : ℕ) → l ≤ m → m < r → has s m ≡ false

found : (s n l : ℕ) → Found s n l (first_from s n l)
unfolding first_from
found s zero l = record { from = omega arith; to = omega arith; hit = λ h. absurd (omega arith); missed = λ m h k. absurd (omega arith) }
found s (suc n) l =
    ⊎_elim
    (λ (h : has s l ≡ true). rw h (record { from = omega arith; to = omega arith; hit = λ _. h; missed = λ m k j. absurd (omega arith) }))
    (λ (h : has s l ≡ false).
    let next = found s n (suc l) in
    rw h (record {
      from = omega (arith, next.from);
      to = omega (arith, next.to);
      hit = λ k. next.hit (omega arith);
      missed = λ m k j. ⊎_elim (λ (e : l < m). next.missed m e j) (λ (e : m ≤ l). let same : m ≡ l = omega arith in rw same h) (cases_lt l m);
    }))
    (cases_Bool (has s l))

first_found : (s : ℕ) → Found s 64 0 (first s)
unfolding first
first_found s = found s 64 0

-- nothing else is where the search ends
pub first_is : (s l : ℕ) → l ≤ 64 → (l < 64 → has s l ≡ true) → ((m : ℕ) → m < l → has s m ≡ false) → l ≡ first s
first_is s l small member lower =
    let end = first_found s in
    ⊎_elim
    (λ (e : l ≡ first s). e)
    (⊎_elim
    (λ (h : l < first s). absurd (both_ways (has s l) (end.missed l (omega arith) h) (member (omega (arith, end.to)))))
    (λ (h : first s < l). absurd (both_ways (has s (first s)) (lower (first s) h) (end.hit (omega arith)))))
    (cases_order l (first s))

pub lowest_none : (s : ℕ) → lowest s ≡ None → (l : ℕ) → has s l ≡ false
lowest_none s h l =
    let end = first_found s in
    ⊎_elim
    (λ (k : first s < 64).
    let inside : ltb (first s) 64 ≡ true = grind (arith, nat_tests) in
    let never : ◌≡◌ {A = ℕ} 0 1 = cc (rw inside at h) in
    absurd (omega arith))
    (λ (k : 64 ≤ first s). ⊎_elim (λ (j : l < 64). end.missed l (omega arith) (omega arith)) (λ (j : 64 ≤ l). has_past s l j) (cases_lt l 64))
    (cases_lt (first s) 64)

pub none_lowest : (s : ℕ) → ((l : ℕ) → has s l ≡ false) → lowest s ≡ None
none_lowest s none =
    let end : 64 ≡ first s = first_is s 64 (omega arith) (λ h. absurd (omega arith)) (λ m _. none m) in
    rw (← end) refl

pub lowest_some : (s l : ℕ) → lowest s ≡ Some l → Lowest s l
lowest_some s l h =
    let end = first_found s in
    ⊎_elim
    (λ (k : first s < 64).
    let inside : ltb (first s) 64 ≡ true = grind (arith, nat_tests) in
    let same : first s ≡ l = cc (rw inside at h) in
    rw (← same) (record { member = end.hit (omega arith); lower = λ m j. end.missed m (omega arith) j }))
    (λ (k : 64 ≤ first s).
    let outside : ltb (first s) 64 ≡ false = grind (arith, nat_tests) in
    let never : ◌≡◌ {A = ℕ} 0 1 = cc (rw outside at h) in
    absurd (omega arith))
    (cases_lt (first s) 64)

pub some_lowest : (s l : ℕ) → Lowest s l → lowest s ≡ Some l
some_lowest s l h =
    let small = has_below s l h.member in
    let same : l ≡ first s = first_is s l (omega arith) (λ _. h.member) h.lower in
    let inside : ltb l 64 ≡ true = grind (arith, nat_tests) in
    rw (← same, inside) refl

-- ---- counts of digits

pub ones_none : (s : ℕ) → s < 2 ^ 64 → ones s ≡ 0 → s ≡ 0
ones_none s small none = no_ones 64 s small none

pub ones_empty : ones 0 ≡ 0
ones_empty = few_ones.0

trailing_inside : (s : ℕ) → s < 2 ^ 64 → ones s ≡ 1 → count_trailing_zeros 64 s < 64
trailing_inside s small one =
    ⊎_elim
    (λ (h : count_trailing_zeros 64 s < 64). h)
    (λ (h : 64 ≤ count_trailing_zeros 64 s). absurd (omega (arith, one_one 64 s small one, pow_mono h)))
    (cases_lt (count_trailing_zeros 64 s) 64)

-- a set with a single digit 1 has a single member, the literal that stands there
pub ones_one : (s : ℕ) → s < 2 ^ 64 → ones s ≡ 1 → s ≡ single (literal_at (count_trailing_zeros 64 s))
unfolding single
ones_one s small one =
    let k = count_trailing_zeros 64 s in
    let below = literal_at_below k (trailing_inside s small one) in
    let inside : ltb (literal_at k) 64 ≡ true = grind (arith, nat_tests) in
    rw (inside, place_literal k) (one_one 64 s small one)

pub ones_power : (s : ℕ) → s < 2 ^ 64 → ones s ≡ 1 → s ≡ 2 ^ count_trailing_zeros 64 s
ones_power s small one = one_one 64 s small one

pub ones_literal : (s : ℕ) → s < 2 ^ 64 → ones s ≡ 1 → literal_at (count_trailing_zeros 64 s) < 64
ones_literal s small one = literal_at_below (count_trailing_zeros 64 s) (trailing_inside s small one)

pub ones_has : (s : ℕ) → s < 2 ^ 64 → ones s ≡ 1 → (l : ℕ) → has s l ≡ eqb l (literal_at (count_trailing_zeros 64 s))
ones_has s small one l =
    let m = literal_at (count_trailing_zeros 64 s) in
    let below = ones_literal s small one in
    let inside : ltb m 64 ≡ true = grind (arith, nat_tests) in
    ap (λ n. has n l) (ones_one s small one) ∙ rw inside at (has-single m l)

pub ones_single : (l : ℕ) → l < 64 → ones (single l) ≡ 1
unfolding single
ones_single l h = let inside : ltb l 64 ≡ true = grind (arith, nat_tests) in rw inside (ones_pow (place l))

-- and only such a set has one digit 1
pub has_ones : (s m : ℕ) → s < 2 ^ 64 → m < 64 → ((l : ℕ) → has s l ≡ eqb l m) → ones s ≡ 1
has_ones s m small below only =
    let inside : ltb m 64 ≡ true = grind (arith, nat_tests) in
    let same : s ≡ single m = same-members s (single m) small (single_below m) (λ l. only l ∙ sym (rw inside at (has-single m l))) in
    rw same (ones_single m below)

-- ---- unions

or_again : (x y z : Bool) → ((x || y) || z) ≡ (x || (y || z))
or_again true y z = refl
or_again false y z = refl

pub or_assoc : (a b c : ℕ) → a < 2 ^ 64 → b < 2 ^ 64 → c < 2 ^ 64 → bit_or (bit_or a b) c ≡ bit_or a (bit_or b c)
or_assoc a b c small few less =
    same-members _ _ (or_below _ c (or_below a b small few) less) (or_below a _ small (or_below b c few less))
    (λ l. rw (has-or (bit_or a b) c l, has-or a b l, has-or a (bit_or b c) l, has-or b c l) (or_again (has a l) (has b l) (has c l)))

pub or-empty : (a : ℕ) → a < 2 ^ 64 → bit_or a 0 ≡ a
or-empty a small = same-members _ a (or_below a 0 small (omega arith)) small (λ l. rw (has-or a 0 l, has-empty l) (or_false (has a l)))

pub or_none : (a : ℕ) → a < 2 ^ 64 → bit_or 0 a ≡ a
or_none a small = same-members _ a (or_below 0 a (omega arith) small) small (λ l. rw (has-or 0 a l, has-empty l) refl)

-- the place of the one member
pub ones_place : (s : ℕ) → s < 2 ^ 64 → ones s ≡ 1 → count_trailing_zeros 64 s < 64
ones_place s small one = trailing_inside s small one
