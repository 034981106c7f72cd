-- Lists of literals: what is printed is read back at any place, and whatever is read was printed so. Assumes nothing.
use Rattle.std.proofs.Common.{◌≡◌, ℕ, zero, suc, ◌+◌, ◌*◌, ◌/◌, ◌^◌, ◌<◌, ◌≤◌, Bool, true, false, cond, ◌&&◌, ◌||◌, eqb, ltb, leb, ◌⊎◌, List, [], ◌∷◌, ◌++◌, length, Ok, Err, Result, sym, refl, ap, ◌∙◌, subst, inl, inr, ⊎_elim, arith, length-append}
use lib.Bits.{bit_and}
use Rattle.std.proofs.lemmas.Bool.{cases_Bool, cases_eq, cases_lt, and_parts, and_from, ltb-true, leb-true, eqb-true, lt-ltb, le-leb, eq-eqb, both_ways}
use Rattle.std.proofs.lemmas.Bool.Decides.{nat_tests}
use Rattle.std.specs.List.{flat_map}
use Rattle.bits.specs.Bits.{numeral}
use Rattle.bits.specs.Fields.{followed}
use Rattle.bits.proofs.Laws.{Piece, field_piece, tested_piece, Stands, stands_none, stands_split, stands_join, both_read, test_answered, same_answer}
use Rattle.literals.specs.Literals.{has, with, opposite, opposites, covers, all}
use Rattle.literals.proofs.Laws.{has-and, has-empty, has_past, has_below, has-with, has-opposites, has_all, with_below, all_below, and_below, same-members, no_members, covers-has, has-covers, covers_le, opposite-fluent, opposite_differs}
use Rattle.domain.specs.Lists.{domain_field, count_at, known_literal, literal_at, literals_at, list_at, members_from, members, listed, list_bits}
use Rattle.domain.specs.declared.refusal.Refusal.{Refusal}
use Rattle.domain.specs.declared.refusal.Refusal.TheVariants.{Unread, Count, UnknownFluent, NotRising}

-- ---- fields, counts and literals

pub domain_field_piece : (w : ℕ) → Piece (λ bits p. domain_field bits p w) (numeral w) (λ n. n < 2 ^ w)
unfolding domain_field
domain_field_piece w = field_piece Unread w

pub count_piece : (w least most : ℕ) → Piece (λ bits p. count_at bits w least most p) (numeral w) (λ n. (n < 2 ^ w) × ((leb least n && leb n most) ≡ true))
count_piece w least most = tested_piece (λ n. leb least n && leb n most) (λ p _. Count p) (domain_field_piece w)

-- what is asked of a literal
abbrev pub Known : ℕ → ℕ → ℕ → Type 0
Known F least l = (l < 64) × (l / 2 < F) × (least ≤ l)

known_reads : (F least p l q : ℕ) → Known F least l → known_literal F least p l q ≡ Ok (l, q)
known_reads F least p l q known = rw (lt-ltb (l / 2) F known.1, le-leb least l known.2)

known_read : (F least p l q : ℕ) (y : ℕ × ℕ) → known_literal F least p l q ≡ Ok y → (l / 2 < F) × (least ≤ l) × ((l, q) ≡ y)
known_read F least p l q y h =
    let one = test_answered (ltb (l / 2) F) (cond (leb least l) (Ok (l, q)) (Err (NotRising p))) (UnknownFluent p) y h in
    let two = test_answered (leb least l) (Ok (l, q)) (NotRising p) y one.1 in
    (ltb-true (l / 2) F one.0, leb-true least l two.0, same_answer two.1)

pub literal_piece : (F least : ℕ) → Piece (λ bits p. literal_at bits F least p) (numeral 6) (Known F least)
literal_piece F least = record { reads = reads; stands = stands }
  where
    reads : (bits : List Bool) (p l : ℕ) → Known F least l → Stands bits p (numeral 6 l) → literal_at bits F least p ≡ Ok (l, p + length (numeral 6 l))
    reads bits p l known h =
        ap (λ r. followed r (known_literal F least p)) ((domain_field_piece 6).reads bits p l known.0 h) ∙ known_reads F least p l (p + length (numeral 6 l)) known

    All : List Bool → ℕ → ℕ × ℕ → Type 0
    All bits p y = Known F least y.0 × Stands bits p (numeral 6 y.0) × (y.1 ≡ p + length (numeral 6 y.0))

    stands : (bits : List Bool) (p l q : ℕ) → p ≤ length bits → literal_at bits F least p ≡ Ok (l, q) → All bits p (l, q)
    stands bits p l q inside h =
        let first = both_read (domain_field bits p 6) (known_literal F least p) (l, q) h in
        let known = known_read F least p first.0 first.1 (l, q) first.3 in
        let told = (domain_field_piece 6).stands bits p first.0 first.1 inside first.2 in
        subst (All bits p) known.2 ((told.0, known.0, known.1), told.1, told.2)

-- ---- literals whose fluents rise strictly, and the set of them

abbrev pub Rising : ℕ → ℕ → List ℕ → Type 0
Rising F least [] = Unit {0}
Rising F least (l ∷ ls) = Known F least l × Rising F ((l / 2 + 1) * 2) ls

abbrev pub adding : ℕ → List ℕ → ℕ
adding s [] = s
adding s (l ∷ ls) = adding (with s l) ls

pub literals_reads : (bits : List Bool) (F least s p : ℕ) (ls : List ℕ) → Rising F least ls → Stands bits p (flat_map (numeral 6) ls)
    → literals_at (length ls) bits F least s p ≡ Ok (adding s ls, p + length (flat_map (numeral 6) ls))
unfolding literals_at
literals_reads bits F least s p [] rising h = ap (λ q. Ok (s, q)) (omega arith)
literals_reads bits F least s p (l ∷ ls) rising h =
    let parts = stands_split bits p (numeral 6 l) (flat_map (numeral 6) ls) h in
    let long : p + length (numeral 6 l) + length (flat_map (numeral 6) ls) ≡ p + length (numeral 6 l ++ flat_map (numeral 6) ls) = simp length-append (omega arith) in
    ap (λ r. followed r (λ m q. literals_at (length ls) bits F ((m / 2 + 1) * 2) (with s m) q)) ((literal_piece F least).reads bits p l rising.0 parts.0)
    ∙ literals_reads bits F ((l / 2 + 1) * 2) (with s l) (p + length (numeral 6 l)) ls rising.1 parts.1
    ∙ ap (λ q. Ok (adding (with s l) ls, q)) long

-- literals that were read
pub record Read (bits : List Bool) (n F least s p t q : ℕ) (ls : List ℕ) : Type 0 where
  pub count : length ls ≡ n
  pub rising : Rising F least ls
  pub set : t ≡ adding s ls
  pub stands : Stands bits p (flat_map (numeral 6) ls)
  pub next : q ≡ p + length (flat_map (numeral 6) ls)

pub literals_stands : (bits : List Bool) (n F least s p t q : ℕ) → p ≤ length bits → literals_at n bits F least s p ≡ Ok (t, q) → (ls : List ℕ) × Read bits n F least s p t q ls
unfolding literals_at
literals_stands bits zero F least s p t q inside h =
    let same = same_answer h in
    ([], record { count = refl; rising = tt; set = sym (ap (λ y. y.0) same); stands = stands_none bits p inside; next = sym (ap (λ y. y.1) same) ∙ omega arith })
literals_stands bits (suc n) F least s p t q inside h =
    let first = both_read (literal_at bits F least p) (λ m r. literals_at n bits F ((m / 2 + 1) * 2) (with s m) r) (t, q) h in
    let l = first.0 in
    let told = (literal_piece F least).stands bits p l first.1 inside first.2 in
    let rest = literals_stands bits n F ((l / 2 + 1) * 2) (with s l) first.1 t q (omega (arith, told.1.fits, told.2)) first.3 in
    let ls = rest.0 in
    let there = subst (λ r. Stands bits r (flat_map (numeral 6) ls)) told.2 rest.1.stands in
    let long : q ≡ p + length (numeral 6 l ++ flat_map (numeral 6) ls) = rest.1.next ∙ ap (λ r. r + length (flat_map (numeral 6) ls)) told.2 ∙ simp length-append (omega arith) in
    (l ∷ ls, record { count = ap suc rest.1.count; rising = (told.0, rest.1.rising); set = rest.1.set; stands = stands_join bits p (numeral 6 l) (flat_map (numeral 6) ls) told.1 there; next = long })

-- ---- the set of rising literals has just those as its members

-- what is added stays
adding_keeps : (s : ℕ) (ls : List ℕ) (m : ℕ) → has s m ≡ true → has (adding s ls) m ≡ true
adding_keeps s [] m h = h
adding_keeps s (l ∷ ls) m h = adding_keeps (with s l) ls m (has-with s l m ∙ ap (λ b. b || (ltb l 64 && eqb m l)) h)

has_new : (s l : ℕ) → l < 64 → has (with s l) l ≡ true
has_new s l small = rw (has-with s l l, lt-ltb l 64 small, eq-eqb l l refl) (or_true (has s l))
  where
    or_true : (b : Bool) → (b || true) ≡ true
    or_true true = refl
    or_true false = refl

has_old : (s l m : ℕ) → (m ≡ l → ⊥) → has (with s l) m ≡ has s m
has_old s l m other = has-with s l m ∙ grind (arith, nat_tests)

-- a member of the larger set was one before, or is the new one
new_or_old : (s l m : ℕ) → has (with s l) m ≡ true → (has s m ≡ true) ⊎ (m ≡ l)
new_or_old s l m h = ⊎_elim (λ (e : m ≡ l). inr e) (λ (ne : m ≡ l → ⊥). inl (sym (has_old s l m ne) ∙ h)) (cases_eq m l)

-- below the least nothing is added
adding_below_least : (F least s : ℕ) (ls : List ℕ) (m : ℕ) → Rising F least ls → m < least → has (adding s ls) m ≡ has s m
adding_below_least F least s [] m rising h = refl
adding_below_least F least s (l ∷ ls) m rising h =
    adding_below_least F ((l / 2 + 1) * 2) (with s l) ls m rising.1 (omega (arith, rising.0.2)) ∙ has_old s l m (λ e. omega (arith, rising.0.2))

no_members_from : (s n k : ℕ) → ((m : ℕ) → k ≤ m → has s m ≡ false) → members_from s n k ≡ []
unfolding members_from
no_members_from s zero k none = refl
no_members_from s (suc n) k none = rw (none k (omega arith)) (no_members_from s n (suc k) (λ m h. none m (omega arith)))

pub members_rising : (F least s : ℕ) (ls : List ℕ) (n k : ℕ) → n + k ≡ 64 → k ≤ least → ((m : ℕ) → k ≤ m → has s m ≡ false) → Rising F least ls → members_from (adding s ls) n k ≡ ls
unfolding members_from
members_rising F least s [] n k whole low none rising = no_members_from s n k none
members_rising F least s (l ∷ ls) zero k whole low none rising = absurd (omega (arith, rising.0.0, rising.0.2))
members_rising F least s (l ∷ ls) (suc n) k whole low none rising =
    ⊎_elim
    (λ (e : k ≡ l).
    let here : has (adding (with s l) ls) l ≡ true = adding_keeps (with s l) ls l (has_new s l rising.0.0) in
    let later : (m : ℕ) → suc l ≤ m → has (with s l) m ≡ false = λ m h. has_old s l m (λ same. omega arith) ∙ none m (omega arith) in
    rw (e, here) (ap (λ rest. l ∷ rest) (members_rising F ((l / 2 + 1) * 2) (with s l) ls n (suc l) (omega arith) (omega arith) later rising.1)))
    (λ (ne : k ≡ l → ⊥).
    let before : has (adding (with s l) ls) k ≡ false = adding_below_least F l s (l ∷ ls) k ((rising.0.0, rising.0.1, omega arith), rising.1) (omega (arith, rising.0.2)) ∙ none k (omega arith) in
    rw before (members_rising F l s (l ∷ ls) n (suc k) (omega arith) (omega (arith, rising.0.2)) (λ m h. none m (omega arith)) ((rising.0.0, rising.0.1, omega arith), rising.1)))
    (cases_eq k l)

-- ---- the members of a lawful set rise, and make it again

adding_small : (s : ℕ) (ls : List ℕ) → s < 2 ^ 64 → adding s ls < 2 ^ 64
adding_small s [] h = h
adding_small s (l ∷ ls) h = adding_small (with s l) ls (with_below s l h)

-- sets whose members below k are the same, and s has no others
abbrev Agrees : ℕ → ℕ → ℕ → Type 0
Agrees s t k = (m : ℕ) → has s m ≡ (ltb m k && has t m)

agrees-with : (s t k : ℕ) → Agrees s t k → has t k ≡ true → Agrees (with s k) t (suc k)
agrees-with s t k same there m =
    ⊎_elim
    (λ (e : m ≡ k). let below : ltb k (suc k) ≡ true = grind (arith, nat_tests) in rw (e, below, there) (has_new s k (has_below t k there)))
    (λ (ne : m ≡ k → ⊥). let still : ltb m (suc k) ≡ ltb m k = grind (arith, nat_tests) in rw still (has_old s k m ne ∙ same m))
    (cases_eq m k)

agrees-without : (s t k : ℕ) → Agrees s t k → has t k ≡ false → Agrees s t (suc k)
agrees-without s t k same none m =
    ⊎_elim
    (λ (e : m ≡ k). let below : ltb k (suc k) ≡ true = grind (arith, nat_tests) in let before : ltb k k ≡ false = grind (arith, nat_tests) in rw (e, below, none) (same k ∙ ap (λ b. b && has t k) before))
    (λ (ne : m ≡ k → ⊥). let still : ltb m (suc k) ≡ ltb m k = grind (arith, nat_tests) in rw still (same m))
    (cases_eq m k)

adding_agrees : (s t n k : ℕ) → n + k ≡ 64 → s < 2 ^ 64 → t < 2 ^ 64 → Agrees s t k → adding s (members_from t n k) ≡ t
unfolding members_from
adding_agrees s t zero k whole small few same =
    same-members s t small few
    (λ m. ⊎_elim
    (λ (h : m < 64). let inside : ltb m k ≡ true = lt-ltb m k (omega arith) in same m ∙ ap (λ b. b && has t m) inside)
    (λ (h : 64 ≤ m). has_past s m h ∙ sym (has_past t m h))
    (cases_lt m 64))
adding_agrees s t (suc n) k whole small few same =
    ⊎_elim
    (λ (yes : has t k ≡ true). rw yes (adding_agrees (with s k) t n (suc k) (omega arith) (with_below s k small) few (agrees-with s t k same yes)))
    (λ (none : has t k ≡ false). rw none (adding_agrees s t n (suc k) (omega arith) small few (agrees-without s t k same none)))
    (cases_Bool (has t k))

pub adding_members : (t : ℕ) → t < 2 ^ 64 → adding 0 (members t) ≡ t
unfolding members
adding_members t few = adding_agrees 0 t 64 0 refl (omega arith) few (λ m. let none : ltb m 0 ≡ false = grind (arith, nat_tests) in rw none (has-empty m))

-- each member is a literal of the first F fluents, and its opposite is none
abbrev pub Sound : ℕ → ℕ → Type 0
Sound F t = (m : ℕ) → has t m ≡ true → (m / 2 < F) × (has t (opposite m) ≡ false)

rising_from : (F least t n k : ℕ) → Sound F t → ((m : ℕ) → k ≤ m → has t m ≡ true → least ≤ m) → Rising F least (members_from t n k)
unfolding members_from
rising_from F least t zero k sound low = tt
rising_from F least t (suc n) k sound low =
    ⊎_elim
    (λ (yes : has t k ≡ true).
    let later : (m : ℕ) → suc k ≤ m → has t m ≡ true → (k / 2 + 1) * 2 ≤ m = λ m h there.
    ⊎_elim (λ (near : m < (k / 2 + 1) * 2).
    let same : m ≡ opposite k = omega arith in
    absurd (both_ways (has t (opposite k)) (sound k yes).1 (subst (λ x. has t x ≡ true) same there)))
    (λ (far : (k / 2 + 1) * 2 ≤ m). far) (cases_lt m ((k / 2 + 1) * 2)) in
    rw yes ((has_below t k yes, (sound k yes).0, low k (omega arith) yes), rising_from F ((k / 2 + 1) * 2) t n (suc k) sound later))
    (λ (none : has t k ≡ false). rw none (rising_from F least t n (suc k) sound (λ m h there. low m (omega arith) there)))
    (cases_Bool (has t k))

pub rising_members : (F t : ℕ) → Sound F t → Rising F 0 (members t)
unfolding members
rising_members F t sound = rising_from F 0 t 64 0 sound (λ m h there. omega arith)

-- ---- sets of rising literals are sound

-- the same, and the fluents of all members are below the next
abbrev Before : ℕ → ℕ → ℕ → Type 0
Before F least s = (m : ℕ) → has s m ≡ true → (m / 2 < F) × (has s (opposite m) ≡ false) × ((m / 2 + 1) * 2 ≤ least)

before-with : (F least s l : ℕ) → Before F least s → Known F least l → Before F ((l / 2 + 1) * 2) (with s l)
before-with F least s l before known m h =
    ⊎_elim
    (λ (old : has s m ≡ true).
    let told = before m old in
    let apart : opposite m ≡ l → ⊥ = λ e. omega (arith, opposite-fluent m, told.2, known.2) in
    (told.0, has_old s l (opposite m) apart ∙ told.1, omega (arith, told.2, known.2)))
    (λ (e : m ≡ l).
    let none : has s (opposite l) ≡ false =
    ⊎_elim (λ (there : has s (opposite l) ≡ true). absurd (omega (arith, (before (opposite l) there).2, opposite-fluent l, known.2))) (λ (gone : has s (opposite l) ≡ false). gone) (cases_Bool (has s (opposite l))) in
    rw e (known.1, has_old s l (opposite l) (opposite_differs l) ∙ none, omega arith))
    (new_or_old s l m h)

adding_before : (F least s : ℕ) (ls : List ℕ) → Before F least s → Rising F least ls → Sound F (adding s ls)
adding_before F least s [] before rising = λ m h. ((before m h).0, (before m h).1)
adding_before F least s (l ∷ ls) before rising = adding_before F ((l / 2 + 1) * 2) (with s l) ls (before-with F least s l before rising.0) rising.1

pub adding_sound : (F : ℕ) (ls : List ℕ) → Rising F 0 ls → Sound F (adding 0 ls)
adding_sound F ls rising = adding_before F 0 0 ls (λ m h. absurd (both_ways (has 0 m) (has-empty m) h)) rising

-- ---- lists

-- what the test of a list says of it
pub listed_parts : (F least most s : ℕ) → listed F least most s ≡ true → Sound F s × (s < 2 ^ 64) × ((leb least (length (members s)) && leb (length (members s)) most) ≡ true)
unfolding listed
listed_parts F least most s h =
    let parts = and_parts (covers (all F) s) _ h in
    let later = and_parts (eqb (bit_and s (opposites s)) 0) _ parts.1 in
    let apart = eqb-true (bit_and s (opposites s)) 0 later.0 in
    let sound : Sound F s = λ m there.
    let known = and_parts (ltb m 64) (ltb (m / 2) F) (sym (has_all F m) ∙ covers-has (all F) s parts.0 m there) in
    let none : (has s m && has s (opposite m)) ≡ false = ap (λ b. has s m && b) (sym (has-opposites s m)) ∙ sym (has-and s (opposites s) m) ∙ ap (λ t. has t m) apart ∙ has-empty m in
    (ltb-true (m / 2) F known.1, sym (ap (λ b. b && has s (opposite m)) there) ∙ none) in
    (sound, omega (arith, covers_le (all F) s parts.0, all_below F), later.1)

pub parts_listed : (F least most s : ℕ) → Sound F s → s < 2 ^ 64 → (leb least (length (members s)) && leb (length (members s)) most) ≡ true → listed F least most s ≡ true
unfolding listed
parts_listed F least most s sound small few =
    let known : covers (all F) s ≡ true = has-covers (all F) s small (λ m there. has_all F m ∙ and_from (ltb m 64) (ltb (m / 2) F) (lt-ltb m 64 (has_below s m there)) (lt-ltb (m / 2) F (sound m there).0)) in
    let alone : (m : ℕ) → has (bit_and s (opposites s)) m ≡ false = λ m. has-and s (opposites s) m ∙ ap (λ b. has s m && b) (has-opposites s m) ∙ never m in
    let apart : eqb (bit_and s (opposites s)) 0 ≡ true = eq-eqb (bit_and s (opposites s)) 0 (no_members (bit_and s (opposites s)) (and_below s (opposites s) small) alone) in
    and_from (covers (all F) s) _ known (and_from (eqb (bit_and s (opposites s)) 0) _ apart few)
  where
    never : (m : ℕ) → (has s m && has s (opposite m)) ≡ false
    never m =
        ⊎_elim
        (λ (there : has s m ≡ true). rw there (sound m there).1)
        (λ (gone : has s m ≡ false). rw gone)
        (cases_Bool (has s m))

members_of_rising : (F : ℕ) (ls : List ℕ) → Rising F 0 ls → members (adding 0 ls) ≡ ls
unfolding members
members_of_rising F ls rising = members_rising F 0 0 ls 64 0 refl (omega arith) (λ m h. has-empty m) rising

pub list_piece : (F w least most : ℕ) → most < 2 ^ w → Piece (λ bits p. list_at bits F w least most p) (list_bits w) (λ s. listed F least most s ≡ true)
unfolding list_at list_bits
list_piece F w least most room = record { reads = reads; stands = stands }
  where
    rest : List Bool → ℕ → ℕ → Result (ℕ × ℕ) Refusal
    rest bits n q = literals_at n bits F 0 0 q

    reads : (bits : List Bool) (p s : ℕ) → listed F least most s ≡ true → Stands bits p (list_bits w s) → list_at bits F w least most p ≡ Ok (s, p + length (list_bits w s))
    reads bits p s lawful h =
        let ls = members s in
        let told = listed_parts F least most s lawful in
        let few = and_parts (leb least (length ls)) (leb (length ls) most) told.2 in
        let parts = stands_split bits p (numeral w (length ls)) (flat_map (numeral 6) ls) h in
        let small : length ls < 2 ^ w = omega (arith, leb-true (length ls) most few.1) in
        let long : p + length (numeral w (length ls)) + length (flat_map (numeral 6) ls) ≡ p + length (numeral w (length ls) ++ flat_map (numeral 6) ls) = simp length-append (omega arith) in
        ap (λ r. followed r (rest bits)) ((count_piece w least most).reads bits p (length ls) (small, told.2) parts.0)
        ∙ literals_reads bits F 0 0 (p + length (numeral w (length ls))) ls (rising_members F s told.0) parts.1
        ∙ ap (λ t. Ok (t, p + length (numeral w (length ls)) + length (flat_map (numeral 6) ls))) (adding_members s told.1)
        ∙ ap (λ q. Ok (s, q)) long

    stands : (bits : List Bool) (p s q : ℕ) → p ≤ length bits → list_at bits F w least most p ≡ Ok (s, q) → (listed F least most s ≡ true) × Stands bits p (list_bits w s) × (q ≡ p + length (list_bits w s))
    stands bits p s q inside h =
        let first = both_read (count_at bits w least most p) (rest bits) (s, q) h in
        let n = first.0 in
        let told = (count_piece w least most).stands bits p n first.1 inside first.2 in
        let got = literals_stands bits n F 0 0 first.1 s q (omega (arith, told.1.fits, told.2)) first.3 in
        let read = got.1 in
        let same : got.0 ≡ members s = sym (members_of_rising F got.0 read.rising) ∙ ap members (sym read.set) in
        let count : n ≡ length (members s) = sym read.count ∙ ap length same in
        let sound : Sound F s = subst (Sound F) (sym read.set) (adding_sound F got.0 read.rising) in
        let small : s < 2 ^ 64 = subst (λ t. t < 2 ^ 64) (sym read.set) (adding_small 0 got.0 (omega arith)) in
        let here : Stands bits p (numeral w (length (members s))) = subst (λ k. Stands bits p (numeral w k)) count told.1 in
        let next : first.1 ≡ p + length (numeral w (length (members s))) = told.2 ∙ ap (λ k. p + length (numeral w k)) count in
        let there : Stands bits first.1 (flat_map (numeral 6) (members s)) = subst (λ ls. Stands bits first.1 (flat_map (numeral 6) ls)) same read.stands in
        let after : q ≡ first.1 + length (flat_map (numeral 6) (members s)) = read.next ∙ ap (λ ls. first.1 + length (flat_map (numeral 6) ls)) same in
        let long = length-append (numeral w (length (members s))) (flat_map (numeral 6) (members s)) in (
          parts_listed F least most s sound small (subst (λ k. (leb least k && leb k most) ≡ true) count told.0.1),
          stands_join bits p (numeral w (length (members s))) (flat_map (numeral 6) (members s)) here (subst (λ k. Stands bits k (flat_map (numeral 6) (members s))) next there),
          omega arith,
        )
