-- Steps of the loops over literals: those that are read, and the members of a set. Assumes nothing.
use Rattle.std.proofs.Common.{◌≡◌, ℕ, zero, suc, ◌+◌, ◌-◌, ◌*◌, ◌/◌, ◌^◌, ◌<◌, ◌≤◌, Bool, true, false, cond, List, [], ◌∷◌, ◌++◌, length, filter, Ok, Err, sym, refl, ap, ◌∙◌, ⊎_elim, append_assoc, append-nil, arith, length-append}
use Rattle.std.proofs.lemmas.Bool.{cases_Bool}
use lib.Count.{ones}
use Rattle.std.specs.List.{flat_map, range_with_len}
use Rattle.bits.specs.Bits.{numeral}
use Rattle.bits.specs.Fields.{followed}
use Rattle.bits.proofs.Laws.{length-numeral, joined-append}
use Rattle.literals.specs.Literals.{has, with}
use Rattle.literals.proofs.Laws.{ones_members}
use Rattle.domain.specs.Lists.{count_at, literal_at, literals_at, list_at, members_from, members}
use Rattle.domain.specs.declared.refusal.Refusal.{Refusal}

-- ---- literals that are read

module _ (bits : List Bool) (F : ℕ) where
  pub literals_none : (n least s p : ℕ) → n ≡ 0 → literals_at n bits F least s p ≡ Ok (s, p)
  unfolding literals_at
  literals_none n least s p none = rw none

  pub literals_step : (n k least s p l q : ℕ) → n ≡ suc k → literal_at bits F least p ≡ Ok (l, q) → literals_at n bits F least s p ≡ literals_at k bits F ((l / 2 + 1) * 2) (with s l) q
  unfolding literals_at
  literals_step n k least s p l q more read =
      ap (λ m. literals_at m bits F least s p) more ∙ ap (λ r. followed r (λ m t. literals_at k bits F ((m / 2 + 1) * 2) (with s m) t)) read

  pub literals_refused : (n k least s p : ℕ) (e : Refusal) → n ≡ suc k → literal_at bits F least p ≡ Err e → literals_at n bits F least s p ≡ Err e
  unfolding literals_at
  literals_refused n k least s p e more read =
      ap (λ m. literals_at m bits F least s p) more ∙ ap (λ r. followed r (λ m t. literals_at k bits F ((m / 2 + 1) * 2) (with s m) t)) read

  pub list_refused : (w least most p : ℕ) (e : Refusal) → count_at bits w least most p ≡ Err e → list_at bits F w least most p ≡ Err e
  unfolding list_at
  list_refused w least most p e read = ap (λ r. followed r (λ m t. literals_at m bits F 0 0 t)) read

  pub list_step : (w least most p n q : ℕ) → count_at bits w least most p ≡ Ok (n, q) → list_at bits F w least most p ≡ literals_at n bits F 0 0 q
  unfolding list_at
  list_step w least most p n q read = ap (λ r. followed r (λ m t. literals_at m bits F 0 0 t)) read

-- ---- members

-- the members among some literals, and then those among the next
pub members_parts : (s n r total k m : ℕ) → total ≡ n + r → m ≡ k + n → members_from s total k ≡ members_from s n k ++ members_from s r m
unfolding members_from
members_parts s zero r total k m whole next =
    let all : total ≡ r = omega arith in
    let here : m ≡ k = omega arith in
    rw (all, here)
members_parts s (suc n) r total k m whole next =
    let more : total ≡ suc (n + r) = omega arith in
    let rest = members_parts s n r (n + r) (suc k) m refl (omega arith) in
    rw more
    (⊎_elim
    (λ (there : has s k ≡ true). rw there (ap (λ ls. k ∷ ls) rest))
    (λ (gone : has s k ≡ false). rw gone rest)
    (cases_Bool (has s k)))

pub members_few : (s n k : ℕ) → length (members_from s n k) ≤ n
unfolding members_from
members_few s zero k = omega arith
members_few s (suc n) k =
    let rest = members_few s n (suc k) in
    ⊎_elim
    (λ (there : has s k ≡ true). rw there (omega arith))
    (λ (gone : has s k ≡ false). rw gone (omega arith))
    (cases_Bool (has s k))

-- one literal
pub member_one : (s k : ℕ) → has s k ≡ true → members_from s 1 k ≡ k ∷ []
unfolding members_from
member_one s k there = rw there

pub member_none : (s k : ℕ) → has s k ≡ false → members_from s 1 k ≡ []
unfolding members_from
member_none s k gone = rw gone

-- the members among some literals are those that a filter keeps
pub filter-has : (s n k : ℕ) → filter (has s) (range_with_len k n) ≡ members_from s n k
unfolding members_from
filter-has s zero k = refl
filter-has s (suc n) k =
    let next : k + 1 ≡ suc k = omega arith in
    ap (λ ls. cond (has s k) (k ∷ ls) ls) (ap (λ m. filter (has s) (range_with_len m n)) next ∙ filter-has s n (suc k))

-- a set has as many members as its number has digits 1
pub count_members : (s : ℕ) → s < 2 ^ 64 → ones s ≡ length (members s)
unfolding members
count_members s small = ones_members s small ∙ ap length (filter-has s 64 0)

-- ---- members as bits

pub bits_more : (s i : ℕ) → flat_map (numeral 6) (members_from s i 0) ++ flat_map (numeral 6) (members_from s 1 i) ≡ flat_map (numeral 6) (members_from s (i + 1) 0)
bits_more s i =
    sym (joined-append (numeral 6) (members_from s i 0) (members_from s 1 i)) ∙ ap (flat_map (numeral 6)) (sym (members_parts s i 1 (i + 1) 0 i refl (omega arith)))

-- the members among the literals before one, that one, and those after it
pub bits_parts : (s i : ℕ) → i < 64
    → flat_map (numeral 6) (members_from s i 0) ++ (flat_map (numeral 6) (members_from s 1 i) ++ flat_map (numeral 6) (members_from s (63 - i) (i + 1))) ≡ flat_map (numeral 6) (members s)
unfolding members
bits_parts s i inside =
    sym (append_assoc (flat_map (numeral 6) (members_from s i 0)) (flat_map (numeral 6) (members_from s 1 i)) (flat_map (numeral 6) (members_from s (63 - i) (i + 1))))
    ∙ ap (λ l. l ++ flat_map (numeral 6) (members_from s (63 - i) (i + 1))) (bits_more s i)
    ∙ sym (joined-append (numeral 6) (members_from s (i + 1) 0) (members_from s (63 - i) (i + 1)))
    ∙ ap (flat_map (numeral 6)) (sym (members_parts s (i + 1) (63 - i) 64 0 (i + 1) (omega arith) (omega arith)))

pub literals_long : (ls : List ℕ) → length (flat_map (numeral 6) ls) ≡ 6 * length ls
literals_long [] = refl
literals_long (l ∷ ls) = length-append (numeral 6 l) (flat_map (numeral 6) ls) ∙ omega (arith, length-numeral 6 l, literals_long ls)

-- one literal that is a member, and one that is none
pub member_bits : (s k n : ℕ) → true ≡ has s k → n ≡ k → numeral 6 n ≡ flat_map (numeral 6) (members_from s 1 k)
member_bits s k n there same =
    ap (numeral 6) same ∙ sym (append-nil (numeral 6 k)) ∙ ap (flat_map (numeral 6)) (sym (member_one s k (sym there)))

pub no_bits : (s k : ℕ) → false ≡ has s k → [] ≡ flat_map (numeral 6) (members_from s 1 k)
no_bits s k gone = ap (flat_map (numeral 6)) (sym (member_none s k (sym gone)))
