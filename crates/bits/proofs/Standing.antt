-- Bits that stand at a place, fields read there, and the end of a layout. Assumes nothing.
use Rattle.std.proofs.Common.{◌≡◌, ℕ, zero, suc, ◌+◌, ◌-◌, ◌*◌, ◌%◌, ◌^◌, ◌<◌, ◌≤◌, Bool, true, false, cond, ltb, leb, List, [], ◌∷◌, ◌++◌, length, take, drop, replicate, Ok, Err, Result, sym, refl, ap, ◌∙◌, mod-eq_of_lt, arith, length-append, length-drop, take-append-drop, length-take, take-add}
use Rattle.std.proofs.lemmas.List.{take_all, take_at, drop_at, drop-drop, length-replicate, take-take, drop-take}
use Rattle.std.proofs.lemmas.Bool.{leb-true, ltb-false}
use Rattle.std.proofs.lemmas.Bool.Decides.{nat_tests}
use Rattle.bits.specs.Bits.{number, numeral, bits_of, bytes_for, packed, AreBytes}
use Rattle.bits.specs.Fields.{number_at, field, zeros, fill_end, ending}
use Rattle.bits.specs.declared.refusal.Refusal.{Refusal}
use Rattle.bits.specs.declared.refusal.Refusal.TheVariants.{Ended}
use Rattle.bits.proofs.Numbers.{length-numeral, number_at_below, number-numeral, numeral-number, length-bits_of}
use Rattle.bits.proofs.Packing.{bits_of-packed, only_packed}

-- the bits xs stand at the place p
pub record Stands (bits : List Bool) (p : ℕ) (xs : List Bool) : Type 0 where
  pub fits : p + length xs ≤ length bits
  pub here : take (length xs) (drop p bits) ≡ xs

-- a test that answered Ok
passed : {A E : Type 0} (b : Bool) (x y : A) (e : E) → cond b (Ok x) (Err e) ≡ Ok y → (b ≡ true) × (x ≡ y)
passed true x y e h = (refl, cc)
passed false x y e h = (cc, cc)

-- a test that refused nothing
unrefused : (b : Bool) (e : Refusal) → cond {A = Result (Unit {0}) Refusal} b (Err e) (Ok tt) ≡ Ok tt → b ≡ false
unrefused true e h = cc
unrefused false e h = refl

zeros_le : (xs : List Bool) → zeros xs ≤ length xs
zeros_le [] = omega arith
zeros_le (true ∷ xs) = omega arith
zeros_le (false ∷ xs) = omega (arith, zeros_le xs)

zeros-all : (xs : List Bool) → length xs ≤ zeros xs → xs ≡ replicate (length xs) false
zeros-all [] h = refl
zeros-all (true ∷ xs) h = absurd (omega arith)
zeros-all (false ∷ xs) h = ap (λ l. false ∷ l) (zeros-all xs (omega arith))

zeros_of_zeros : (k : ℕ) → zeros (replicate k false) ≡ k
zeros_of_zeros zero = refl
zeros_of_zeros (suc k) = ap suc (zeros_of_zeros k)

module _ (bits : List Bool) (p : ℕ) where
  pub stands_none : p ≤ length bits → Stands bits p []
  stands_none h = record { fits = omega arith; here = refl }

  pub stands_split : (xs ys : List Bool) → Stands bits p (xs ++ ys) → Stands bits p xs × Stands bits (p + length xs) ys
  stands_split xs ys h =
      let long = length-append xs ys in
      let all : take (length xs + length ys) (drop p bits) ≡ xs ++ ys = rw (← long) h.here in
      let front : take (length xs) (drop p bits) ≡ xs = sym (take-take (length xs) (length xs + length ys) (drop p bits) (omega arith)) ∙ ap (take (length xs)) all ∙ take_at xs ys (length xs) refl in
      let back : take (length ys) (drop (length xs) (drop p bits)) ≡ ys = sym (drop-take (length xs) (length ys) (drop p bits)) ∙ ap (drop (length xs)) all ∙ drop_at xs ys (length xs) refl in
      (record { fits = omega (arith, h.fits); here = front }, record { fits = omega (arith, h.fits); here = rw (← drop-drop (length xs) p bits) back })

  pub stands_join : (xs ys : List Bool) → Stands bits p xs → Stands bits (p + length xs) ys → Stands bits p (xs ++ ys)
  stands_join xs ys h k =
      let long = length-append xs ys in
      let fits : p + length (xs ++ ys) ≤ length bits = omega (arith, h.fits, k.fits) in
      let parts : take (length xs + length ys) (drop p bits) ≡ take (length xs) (drop p bits) ++ take (length ys) (drop (length xs) (drop p bits)) = take-add (length xs) (length ys) (drop p bits) in
      record { fits = fits; here = rw (long, parts, drop-drop (length xs) p bits, h.here, k.here) }

  -- a number that stands there is read, and what is read stands there
  pub field_reads : (w n : ℕ) → n < 2 ^ w → Stands bits p (numeral w n) → field bits p w ≡ Ok (n, p + w)
  unfolding number_at
  field_reads w n small h =
      let long = length-numeral w n in
      let spelled : number (take w (drop p bits)) ≡ n = rw (ap (λ k. number (take k (drop p bits))) (sym long), h.here, number-numeral w n) (mod-eq_of_lt small) in
      let fits : p + w ≤ length bits = omega (arith, h.fits) in
      rw spelled (grind (arith, nat_tests))

  pub field_stands : (w n q : ℕ) → field bits p w ≡ Ok (n, q) → (q ≡ p + w) × Stands bits p (numeral w n) × (n < 2 ^ w)
  unfolding number_at
  field_stands w n q h =
      let got = passed (leb (p + w) (length bits)) _ (n, q) (Ended (length bits)) h in
      let fits : p + w ≤ length bits = leb-true _ _ got.0 in
      let spelled : number (take w (drop p bits)) ≡ n = ap (λ r. r.0) got.1 in
      let next : p + w ≡ q = ap (λ r. r.1) got.1 in
      let long : length (take w (drop p bits)) ≡ w = simp (length-take, length-drop) (omega arith) in
      let same : numeral w n ≡ take w (drop p bits) = rw (← spelled) (ap (λ k. numeral k (number (take w (drop p bits)))) (sym long) ∙ numeral-number (take w (drop p bits))) in
      let small : n < 2 ^ w = rw (← spelled) (number_at_below bits p w) in
      (sym next, record { fits = omega (arith, length-numeral w n); here = ap (λ k. take k (drop p bits)) (length-numeral w n) ∙ sym same }, small)

-- packed bits stand at the start of their bytes, and the layout ends after them
pub packed_stands : (xs : List Bool) → Stands (bits_of (packed xs)) 0 xs
packed_stands xs =
    let filled = bits_of-packed xs in
    record {
      fits = rw filled (simp length-append (omega arith));
      here = rw filled (take_at xs _ (length xs) refl);
    }

pub packed_ends : (xs : List Bool) → ending (bits_of (packed xs)) (length xs) ≡ Ok tt
unfolding fill_end
packed_ends xs =
    let left = 8 * bytes_for (length xs) - length xs in
    let filled = bits_of-packed xs in
    let fill : (8 - length xs % 8) % 8 ≡ left = omega arith in
    let rest : drop (length xs) (xs ++ replicate left false) ≡ replicate left false = drop_at xs (replicate left false) (length xs) refl in
    let none : take left (replicate left false) ≡ replicate left false = take_all left (replicate left false) (omega (arith, length-replicate left false)) in
    let long : length (xs ++ replicate left false) ≡ length xs + left = simp (length-append, length-replicate) in
    rw (filled, fill, rest, none, zeros_of_zeros left, long) (grind (arith, nat_tests))

-- and no other bytes have them so
pub packed_only : (bytes : List ℕ) (xs : List Bool) → AreBytes bytes → Stands (bits_of bytes) 0 xs → ending (bits_of bytes) (length xs) ≡ Ok tt → bytes ≡ packed xs
unfolding fill_end
packed_only bytes xs small stands ends =
    let bits = bits_of bytes in
    let n = length xs in
    let whole = length-bits_of bytes in
    let fits : n ≤ length bits = omega (arith, stands.fits) in
    let left = length-drop n bits in
    let far : length bits ≤ fill_end bits n = ltb-false _ _ (unrefused (ltb (fill_end bits n) (length bits)) _ ends) in
    let fill = (8 - n % 8) % 8 in
    let few = zeros_le (take fill (drop n bits)) in
    let part = length-take fill (drop n bits) in
    let rest : take fill (drop n bits) ≡ drop n bits = take_all fill (drop n bits) (omega arith) in
    let zero_bits : drop n bits ≡ replicate (length (drop n bits)) false = zeros-all (drop n bits) (omega (arith, ap zeros rest)) in
    let same : bits ≡ xs ++ replicate (length (drop n bits)) false = sym (take-append-drop n bits) ∙ rw (← zero_bits, stands.here) refl in
    only_packed bytes xs (length (drop n bits)) small (omega arith) same
