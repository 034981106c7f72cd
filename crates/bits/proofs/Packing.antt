-- What put bits make of a buffer, and which bytes hold given bits. Assumes nothing.
use Rattle.std.proofs.Common.{◌≡◌, ℕ, zero, suc, ◌+◌, ◌-◌, ◌*◌, ◌/◌, ◌%◌, ◌^◌, ◌<◌, ◌≤◌, Bool, true, false, cond, List, [], ◌∷◌, ◌++◌, length, take, drop, replicate, sym, refl, ap, ◌∙◌, ⊎_elim, append_assoc, append-nil, add-zero, mod-eq_of_lt, div-mul-le_self, arith, length-append, length-drop, length-set, take-append-drop, length-take, pow_mono, shr_lt}
use native.Mathlib.Nat.{sub-zero}
use lib.Seq.{take-nil, drop-nil}
use mir.Val.{bool_byte}
use Rattle.std.proofs.lemmas.List.{take_all, drop_all, take_at, drop_at, take-append-le, take-replicate, drop-replicate, length-replicate, nil_from_length, replicate-append-replicate}
use Rattle.std.proofs.lemmas.Bool.{cases_lt}
use Rattle.bits.specs.Bits.{number, numeral, bits_of, bytes_for, cut, packed, AreBytes, with_bit, put_bit, put, holding}
use Rattle.bits.proofs.Numbers.{length-numeral, number-numeral, numeral-number, number_append, number_below, number-zeros, take-numeral, as_number}

-- a byte with a bit put into it, as arithmetic
with_bit_sum : (o r : ℕ) (b : Bool) → o < 256 → r < 8 → with_bit r b o ≡ o / 2 ^ (8 - r) * 2 ^ (8 - r) + cond b 1 0 * 2 ^ (7 - r)
unfolding number with_bit
with_bit_sum o r b byte within =
    let after : suc (7 - r) ≡ 8 - r = omega arith in
    let whole : r + (8 - r) ≡ 8 = omega arith in
    let high : o / 2 ^ (8 - r) < 2 ^ r = shr_lt r (8 - r) (rw whole byte) in
    rw (number_append, number-zeros, length-replicate (7 - r) false, after, take-numeral 8 o r (omega arith), number-numeral r (o / 2 ^ (8 - r)), mod-eq_of_lt high) (omega arith)

bit_part : (b : Bool) (k : ℕ) → k < 8 → bool_byte b * 2 ^ k < 256
bit_part true k h = omega (arith, pow_mono {i = k} {j = 7} (omega arith))
bit_part false k h = omega arith

-- the same, as 16 bits compute it
pub with_bit_is : (o r : ℕ) (b : Bool) → o < 256 → r < 8
    → (o / 2 ^ (8 - r) * 2 ^ (8 - r)) % 65536 + (bool_byte b * 2 ^ (8 - r - 1)) % 65536 ≡ with_bit r b o
with_bit_is o r b byte within =
    let last : 8 - r - 1 ≡ 7 - r = omega arith in
    let low : o / 2 ^ (8 - r) * 2 ^ (8 - r) < 65536 = omega (arith, div-mul-le_self o (2 ^ (8 - r))) in
    let bit : bool_byte b * 2 ^ (7 - r) < 65536 = omega (arith, bit_part b (7 - r) (omega arith)) in
    rw (last, mod-eq_of_lt low, mod-eq_of_lt bit, as_number b) (sym (with_bit_sum o r b byte within))

pub with_bit_below : (o r : ℕ) (b : Bool) → r < 8 → with_bit r b o < 256
unfolding with_bit
with_bit_below o r b within =
    let long : length (take r (numeral 8 o) ++ b ∷ replicate (7 - r) false) ≡ 8 = simp (length-append, length-take, length-numeral, length-replicate) (omega arith) in
    let small = number_below (take r (numeral 8 o) ++ b ∷ replicate (7 - r) false) in
    rw long at small

pub length-put : (p : ℕ) (xs : List Bool) (old : List ℕ) → length (put p xs old) ≡ length old
unfolding put
length-put p [] old = refl
length-put p (b ∷ xs) old = length-put (p + 1) xs (put_bit p b old) ∙ length-set old (p / 8) _

pub put-append : (p : ℕ) (xs ys : List Bool) (old : List ℕ) → put p (xs ++ ys) old ≡ put (p + length xs) ys (put p xs old)
unfolding put
put-append p [] ys old = rw (add-zero p)
put-append p (b ∷ xs) ys old =
    let next : p + 1 + length xs ≡ p + suc (length xs) = omega arith in
    rw (← next) (put-append (p + 1) xs ys (put_bit p b old))

-- bits past the first byte leave it alone
put_past : (p : ℕ) (xs : List Bool) (o : ℕ) (old : List ℕ) → put (p + 8) xs (o ∷ old) ≡ o ∷ put p xs old
unfolding put
put_past p [] o old = refl
put_past p (b ∷ xs) o old =
    let byte : (p + 8) / 8 ≡ suc (p / 8) = omega arith in
    let bit : (p + 8) % 8 ≡ p % 8 = omega arith in
    let next : p + 8 + 1 ≡ p + 1 + 8 = omega arith in
    rw (byte, bit, next) (put_past (p + 1) xs o (put_bit p b old))

-- the byte that begins with the bits, and goes on with zeros
abbrev begun : List Bool → ℕ
begun xs = number (xs ++ replicate (8 - length xs) false)

begun_more : (ys : List Bool) (b : Bool) → length ys < 8 → begun (ys ++ b ∷ []) ≡ number (ys ++ b ∷ replicate (7 - length ys) false)
begun_more ys b h =
    let left : 8 - length (ys ++ b ∷ []) ≡ 7 - length ys = simp length-append (omega arith) in
    rw left (ap number (append_assoc ys (b ∷ []) (replicate (7 - length ys) false)))

begun_bits : (ys : List Bool) → length ys ≤ 8 → take (length ys) (numeral 8 (begun ys)) ≡ ys
begun_bits ys h =
    let zeros = replicate (8 - length ys) false in
    let long : length (ys ++ zeros) ≡ 8 = simp (length-append, length-replicate) (omega arith) in
    let all : numeral 8 (number (ys ++ zeros)) ≡ ys ++ zeros = ap (λ w. numeral w (number (ys ++ zeros))) (sym long) ∙ numeral-number (ys ++ zeros) in
    ap (take (length ys)) all ∙ take_at ys zeros (length ys) refl

-- bits put after the first ones of a byte
fill_byte : (xs ys : List Bool) (old : List ℕ) → length ys + length xs ≤ 8 → put (length ys) xs (begun ys ∷ old) ≡ begun (ys ++ xs) ∷ old
unfolding put with_bit
fill_byte [] ys old h = ap (λ l. begun l ∷ old) (sym (append-nil ys))
fill_byte (b ∷ xs) ys old h =
    let byte : length ys / 8 ≡ 0 = omega arith in
    let bit : length ys % 8 ≡ length ys = omega arith in
    let next : length ys + 1 ≡ length (ys ++ b ∷ []) = simp length-append (omega arith) in
    let joined : begun ((ys ++ b ∷ []) ++ xs) ≡ begun (ys ++ b ∷ xs) = ap begun (append_assoc ys (b ∷ []) xs) in
    rw (byte, bit, begun_bits ys (omega arith), ← begun_more ys b (omega arith), next, ← joined)
    (fill_byte xs (ys ++ b ∷ []) old (omega arith))

-- as many bits as a byte has, or fewer, make one byte
one_byte : (xs : List Bool) (o : ℕ) (old : List ℕ) → 0 < length xs → length xs ≤ 8 → put 0 xs (o ∷ old) ≡ begun xs ∷ old
unfolding put with_bit
one_byte [] o old some few = absurd (omega arith)
one_byte (b ∷ xs) o old some few = fill_byte xs (b ∷ []) old (omega arith)

-- zeros after the bits do not matter, however many
take-zeros : (n m : ℕ) (xs : List Bool) → n ≤ m → take n (xs ++ replicate m false) ≡ take n xs ++ replicate (n - length (take n xs)) false
take-zeros n m [] h = rw (take-nil n, sub-zero n) (take-replicate n m false h)
take-zeros zero m (x ∷ xs) h = refl
take-zeros (suc n) m (x ∷ xs) h =
    let left : suc n - suc (length (take n xs)) ≡ n - length (take n xs) = omega arith in
    rw left (ap (λ l. x ∷ l) (take-zeros n m xs (omega arith)))

drop-zeros : (n k : ℕ) (xs : List Bool) → drop n (xs ++ replicate k false) ≡ drop n xs ++ replicate (k - (n - length xs)) false
drop-zeros n k [] = rw (drop-nil n, sub-zero n) (drop-replicate n k false)
drop-zeros zero k (x ∷ xs) = let none : k - (0 - suc (length xs)) ≡ k = omega arith in rw none
drop-zeros (suc n) k (x ∷ xs) = let same : suc n - suc (length xs) ≡ n - length xs = omega arith in rw same (drop-zeros n k xs)

begun-take : (xs : List Bool) → begun (take 8 xs) ≡ number (take 8 (xs ++ replicate 8 false))
begun-take xs = ap number (sym (take-zeros 8 8 xs (omega arith)))

-- the bits after the first eight go into the later bytes
rest_past : (xs : List Bool) (o : ℕ) (old : List ℕ) → put (length (take 8 xs)) (drop 8 xs) (o ∷ old) ≡ o ∷ put 0 (drop 8 xs) old
unfolding put
rest_past xs o old =
    ⊎_elim
    (λ (h : 8 < length xs). let eight : length (take 8 xs) ≡ 0 + 8 = simp length-take (omega arith) in rw eight (put_past 0 (drop 8 xs) o old))
    (λ (h : length xs ≤ 8). rw (drop_all 8 xs h))
    (cases_lt 8 (length xs))

put-cut : (n : ℕ) (xs : List Bool) (old : List ℕ) → bytes_for (length xs) ≡ n → n ≤ length old → put 0 xs old ≡ cut n xs ++ drop n old
unfolding put cut
put-cut zero xs old long fits = rw (nil_from_length xs (omega arith))
put-cut (suc n) xs [] long fits = absurd (omega arith)
put-cut (suc n) xs (o ∷ old) long fits =
    let parts : put 0 xs (o ∷ old) ≡ put 0 (take 8 xs ++ drop 8 xs) (o ∷ old) = ap (λ l. put 0 l (o ∷ old)) (sym (take-append-drop 8 xs)) in
    let first : put 0 (take 8 xs) (o ∷ old) ≡ begun (take 8 xs) ∷ old = one_byte (take 8 xs) o old (simp length-take (omega arith)) (simp length-take (omega arith)) in
    let start : 0 + length (take 8 xs) ≡ length (take 8 xs) = omega arith in
    parts
    ∙ put-append 0 (take 8 xs) (drop 8 xs) (o ∷ old)
    ∙ rw (start, first, rest_past xs (begun (take 8 xs)) old, begun-take xs, put-cut n (drop 8 xs) old (simp length-drop (omega arith)) (omega arith)) refl

-- bits put from the start of a buffer are packed there, and later bytes stay
pub put_holds : (xs : List Bool) (old : List ℕ) → bytes_for (length xs) ≤ length old → put 0 xs old ≡ holding xs old
unfolding packed
put_holds xs old fits = put-cut (bytes_for (length xs)) xs old refl fits

pub length_cut : (n : ℕ) (xs : List Bool) → length (cut n xs) ≡ n
unfolding cut
length_cut zero xs = refl
length_cut (suc n) xs = ap suc (length_cut n (drop 8 xs))

first-and_rest : (n : ℕ) (xs : List Bool) → bytes_for (length xs) ≡ suc n
    → take 8 (xs ++ replicate 8 false) ++ (drop 8 xs ++ replicate (8 * n - length (drop 8 xs)) false) ≡ xs ++ replicate (8 * suc n - length xs) false
first-and_rest n xs long =
    ⊎_elim
    (λ (h : length xs < 8).
    let only : n ≡ 0 = omega arith in
    rw (take-zeros 8 8 xs (omega arith), take_all 8 xs (omega arith), drop_all 8 xs (omega arith), only) (append-nil _))
    (λ (h : 8 ≤ length xs).
    let left : 8 * n - length (drop 8 xs) ≡ 8 * suc n - length xs = simp length-drop (omega arith) in
    rw (take-append-le 8 xs (replicate 8 false) h, left, ← append_assoc, take-append-drop 8 xs))
    (cases_lt (length xs) 8)

-- packed bits are the bits of their bytes, with zeros after them
bits_of-cut : (n : ℕ) (xs : List Bool) → bytes_for (length xs) ≡ n → bits_of (cut n xs) ≡ xs ++ replicate (8 * n - length xs) false
unfolding cut bits_of
bits_of-cut zero xs long = rw (nil_from_length xs (omega arith))
bits_of-cut (suc n) xs long =
    let front = take 8 (xs ++ replicate 8 false) in
    let eight : length front ≡ 8 = simp (length-take, length-append, length-replicate) (omega arith) in
    let first : numeral 8 (number front) ≡ front = ap (λ w. numeral w (number front)) (sym eight) ∙ numeral-number front in
    let later = bits_of-cut n (drop 8 xs) (simp length-drop (omega arith)) in
    rw (first, later) (first-and_rest n xs long)

pub bits_of-packed : (xs : List Bool) → bits_of (packed xs) ≡ xs ++ replicate (8 * bytes_for (length xs) - length xs) false
unfolding packed
bits_of-packed xs = bits_of-cut (bytes_for (length xs)) xs refl

cut-bits_of : (bytes : List ℕ) → AreBytes bytes → cut (length bytes) (bits_of bytes) ≡ bytes
unfolding cut bits_of
cut-bits_of [] small = refl
cut-bits_of (b ∷ bytes) small =
    let eight = length-numeral 8 b in
    let front = append_assoc (numeral 8 b) (bits_of bytes) (replicate 8 false) in
    rw (front, take_at (numeral 8 b) (bits_of bytes ++ replicate 8 false) 8 eight, drop_at (numeral 8 b) (bits_of bytes) 8 eight, number-numeral 8 b, mod-eq_of_lt (small 0))
    (ap (λ l. b ∷ l) (cut-bits_of bytes (λ i. small (suc i))))

cut-zeros : (n k : ℕ) (xs : List Bool) → cut n (xs ++ replicate k false) ≡ cut n xs
unfolding cut
cut-zeros zero k xs = refl
cut-zeros (suc n) k xs =
    let front : take 8 ((xs ++ replicate k false) ++ replicate 8 false) ≡ take 8 (xs ++ replicate 8 false) = ap (take 8) (append_assoc xs (replicate k false) (replicate 8 false) ∙ ap (λ l. xs ++ l) (replicate-append-replicate k 8 false)) ∙ take-zeros 8 (k + 8) xs (omega arith) ∙ sym (take-zeros 8 8 xs (omega arith)) in
    rw (front, drop-zeros 8 k xs, cut-zeros n (k - (8 - length xs)) (drop 8 xs))

-- only one list of bytes has these bits, with zeros after them, in as many bytes as they need
pub only_packed : (bytes : List ℕ) (xs : List Bool) (k : ℕ) → AreBytes bytes → length bytes ≡ bytes_for (length xs) → bits_of bytes ≡ xs ++ replicate k false → bytes ≡ packed xs
unfolding packed
only_packed bytes xs k small long same =
    sym (cut-bits_of bytes small) ∙ rw (same, cut-zeros (length bytes) k xs, long) refl

pub length-packed : (xs : List Bool) → length (packed xs) ≡ bytes_for (length xs)
unfolding packed
length-packed xs = length_cut (bytes_for (length xs)) xs
