-- The facts that tables show, and which tables are full or the same. Assumes nothing.
use Rattle.std.proofs.Common.{◌≡◌, ℕ, zero, suc, ◌-◌, ◌^◌, ◌<◌, ◌≤◌, Bool, true, false, cond, ◌&&◌, ◌||◌, eqb, nat_eq, ltb, List, [], ◌∷◌, length, get_or, take, set, replicate, Decides, sym, refl, ap, ◌∙◌, ⊎_elim, arith, length-append, length-take}
use lib.Bits.{bit_and}
use lib.Pointwise.{pointwise}
use Rattle.std.specs.List.{list_all}
use Rattle.std.proofs.lemmas.Slice.Eq.{compares_Decides}
use Rattle.std.proofs.lemmas.List.{length-replicate, get_or-replicate, get_or_append_left, get_or-append_right, get_or_past, get_or-set_same, get_or-set_other, get_or-take, set_past, ext_get_or}
use Rattle.std.proofs.lemmas.Bool.{cases_lt, cases_eq, cond_both, and_parts, and_from, eq-eqb, ne_eqb, ltb-true, lt-ltb}
use Rattle.std.proofs.lemmas.Bool.Decides.{nat_tests}
use Rattle.literals.specs.Literals.{fluent, has, with, covers, all}
use Rattle.literals.specs.Tables.{common, AreSets, shows, told, filled, empty, moments, full, each_covers, is_full, same}
use Rattle.literals.proofs.Members.{has-and, and_below, has-empty, has-with, has_all, with_below, all_below, same-members, covers-has, has-covers, or_false}

-- ---- tables with the same set at the first moments

pub length-filled : (n s : ℕ) → n ≤ 33 → length (filled n s) ≡ 33
unfolding filled
length-filled n s h = simp (length-append, length-replicate) (omega arith)

zeros_at : (n t : ℕ) → ◌≡◌ {A = ℕ} (get_or (replicate n 0) t 0) 0
zeros_at zero t = refl
zeros_at (suc n) zero = refl
zeros_at (suc n) (suc t) = zeros_at n t

pub filled_at : (n s t : ℕ) → get_or (filled n s) t 0 ≡ cond (ltb t n) s 0
unfolding filled
filled_at n s t =
    let long = length-replicate n s in
    ⊎_elim
    (λ (h : t < n).
    let inside : ltb t n ≡ true = grind (arith, nat_tests) in
    rw inside (get_or_append_left (replicate n s) (replicate (33 - n) 0) 0 t (omega arith) ∙ get_or-replicate n t s 0 h))
    (λ (h : n ≤ t).
    let outside : ltb t n ≡ false = grind (arith, nat_tests) in
    rw outside (get_or-append_right (replicate n s) (replicate (33 - n) 0) n t 0 long h ∙ zeros_at (33 - n) (t - n)))
    (cases_lt t n)

pub filled_sets : (n s : ℕ) → s < 2 ^ 64 → AreSets (filled n s)
filled_sets n s small t = rw (filled_at n s t) (cond_both (ltb t n) s 0 (λ x. x < 2 ^ 64) (λ _. small) (λ _. omega arith))

-- ---- each entry of a table stays the number of a set

set_at : (sets : List ℕ) (t s u : ℕ) → t < length sets → get_or (set sets t s) u 0 ≡ cond (eqb u t) s (get_or sets u 0)
set_at sets t s u h =
    ⊎_elim
    (λ (e : u ≡ t). let hit : eqb t t ≡ true = eq-eqb t t refl in rw (e, hit) (get_or-set_same sets t s 0 h))
    (λ (ne : u ≡ t → ⊥). let miss = ne_eqb u t ne in rw miss (get_or-set_other sets t u s 0 ne))
    (cases_eq u t)

pub put_sets : (sets : List ℕ) (t s : ℕ) → AreSets sets → s < 2 ^ 64 → AreSets (set sets t s)
put_sets sets t s small few u =
    ⊎_elim
    (λ (h : t < length sets). rw (set_at sets t s u h) (cond_both (eqb u t) s (get_or sets u 0) (λ x. x < 2 ^ 64) (λ _. few) (λ _. small u)))
    (λ (h : length sets ≤ t). rw (set_past sets t s h) (small u))
    (cases_lt t (length sets))

pub length-empty : length empty ≡ 33
length-empty = length-filled 0 0 (omega arith)

pub empty_sets : AreSets empty
empty_sets = filled_sets 0 0 (omega arith)

pub length-full : (fluents last : ℕ) → length (full fluents last) ≡ 33
length-full fluents last = length-filled (moments last) (all fluents) (omega arith)

pub full_sets : (fluents last : ℕ) → AreSets (full fluents last)
full_sets fluents last = filled_sets (moments last) (all fluents) (all_below fluents)

pub told_sets : (sets : List ℕ) (t l : ℕ) → AreSets sets → AreSets (told sets t l)
told_sets sets t l small = put_sets sets t (with (get_or sets t 0) l) small (with_below (get_or sets t 0) l (small t))

-- ---- what tables show

pub shows_late : (sets : List ℕ) (t l : ℕ) → length sets ≤ t → shows sets t l ≡ false
shows_late sets t l h = rw (get_or_past sets t 0 h) (has-empty l)

pub shows-empty : (t l : ℕ) → shows empty t l ≡ false
shows-empty t l = let none : ltb t 0 ≡ false = grind (arith, nat_tests) in rw (filled_at 0 0 t, none) (has-empty l)

has-or_none : (b : Bool) (s l : ℕ) → has (cond b s 0) l ≡ (b && has s l)
has-or_none true s l = refl
has-or_none false s l = has-empty l

full-has : (fluents last t l : ℕ) → shows (full fluents last) t l ≡ (ltb t (moments last) && has (all fluents) l)
full-has fluents last t l = rw (filled_at (moments last) (all fluents) t) (has-or_none (ltb t (moments last)) (all fluents) l)

pub shows-full : (fluents last t l : ℕ) → shows (full fluents last) t l ≡ (ltb t (moments last) && (ltb l 64 && ltb (fluent l) fluents))
shows-full fluents last t l = full-has fluents last t l ∙ ap (λ x. ltb t (moments last) && x) (has_all fluents l)

has-cond : (b : Bool) (s r l : ℕ) → has (cond b s r) l ≡ cond b (has s l) (has r l)
has-cond true s r l = refl
has-cond false s r l = refl

pub shows-put : (sets : List ℕ) (t s u l : ℕ) → t < length sets → shows (set sets t s) u l ≡ cond (eqb u t) (has s l) (shows sets u l)
shows-put sets t s u l h = rw (set_at sets t s u h) (has-cond (eqb u t) s (get_or sets u 0) l)

pub shows-told : (sets : List ℕ) (t l u m : ℕ) → t < length sets → shows (told sets t l) u m ≡ (shows sets u m || (eqb u t && (ltb l 64 && eqb m l)))
shows-told sets t l u m h =
    let put = shows-put sets t (with (get_or sets t 0) l) u m h in
    ⊎_elim
    (λ (e : u ≡ t).
    let hit = eq-eqb u t e in
    rw hit (rw hit at put ∙ has-with (get_or sets t 0) l m ∙ ap (λ n. shows sets n m || (ltb l 64 && eqb m l)) (sym e)))
    (λ (ne : u ≡ t → ⊥). let miss = ne_eqb u t ne in rw miss (rw miss at put ∙ sym (or_false (shows sets u m))))
    (cases_eq u t)

-- ---- tables that are the same, and tables that are full

-- tables that show the same facts are equal
pub same_facts : (xs ys : List ℕ) → length xs ≡ length ys → AreSets xs → AreSets ys → ((t l : ℕ) → shows xs t l ≡ shows ys t l) → xs ≡ ys
same_facts xs ys long small few facts =
    ext_get_or 0 xs ys long (λ t _. same-members (get_or xs t 0) (get_or ys t 0) (small t) (few t) (facts t))

pub same_decides : (xs ys : List ℕ) → Decides (same xs ys) (xs ≡ ys)
unfolding same
same_decides = compares_Decides same (record { empty = refl; shorter = λ _ _. refl; longer = λ _ _. refl; heads = λ _ _ _ _. refl })

-- the library's words for the same two tests
pub same_from_pointwise : (xs ys : List ℕ) → pointwise nat_eq xs ys ≡ same xs ys
unfolding same
same_from_pointwise [] [] = refl
same_from_pointwise [] (y ∷ ys) = refl
same_from_pointwise (x ∷ xs) [] = refl
same_from_pointwise (x ∷ xs) (y ∷ ys) = ap (λ b. eqb x y && b) (same_from_pointwise xs ys)

pub list_all-covers : (sets : List ℕ) (part : ℕ) → list_all (λ s. covers s part) sets ≡ each_covers sets part
unfolding each_covers
list_all-covers [] part = refl
list_all-covers (s ∷ sets) part = ap (λ b. covers s part && b) (list_all-covers sets part)

each_covers_at : (sets : List ℕ) (part t : ℕ) → each_covers sets part ≡ true → t < length sets → covers (get_or sets t 0) part ≡ true
unfolding each_covers
each_covers_at [] part t h k = absurd (omega arith)
each_covers_at (s ∷ sets) part zero h k = (and_parts _ _ h).0
each_covers_at (s ∷ sets) part (suc t) h k = each_covers_at sets part t (and_parts (covers s part) _ h).1 (omega arith)

at_each_covers : (sets : List ℕ) (part : ℕ) → ((t : ℕ) → t < length sets → covers (get_or sets t 0) part ≡ true) → each_covers sets part ≡ true
unfolding each_covers
at_each_covers [] part every = refl
at_each_covers (s ∷ sets) part every =
    and_from (covers s part) (each_covers sets part) (every 0 (omega arith)) (at_each_covers sets part (λ t h. every (suc t) (omega arith)))

-- a table is full where it shows all that the full table shows
module _ (fluents last : ℕ) (sets : List ℕ) (long : length sets ≡ 33) where
  pub is_full-shows : is_full fluents last sets ≡ true → (t l : ℕ) → shows (full fluents last) t l ≡ true → shows sets t l ≡ true
  is_full-shows h t l fact =
      let n = moments last in
      let parts = and_parts (ltb t n) (has (all fluents) l) (sym (full-has fluents last t l) ∙ fact) in
      let early : t < n = ltb-true t n parts.0 in
      let inside : t < length (take n sets) = simp length-take (omega arith) in
      let all_there : covers (get_or sets t 0) (all fluents) ≡ true = rw (get_or-take n sets t 0 early) at (each_covers_at (take n sets) (all fluents) t h inside) in
      covers-has (get_or sets t 0) (all fluents) all_there l parts.1

  pub shows-is_full : ((t l : ℕ) → shows (full fluents last) t l ≡ true → shows sets t l ≡ true) → is_full fluents last sets ≡ true
  shows-is_full every =
      let n = moments last in
      at_each_covers (take n sets) (all fluents)
      (λ t h.
      let early : t < n = omega (arith, length-take n sets) in
      rw (get_or-take n sets t 0 early)
      (has-covers (get_or sets t 0) (all fluents) (all_below fluents)
      (λ l member. every t l (full-has fluents last t l ∙ and_from (ltb t n) (has (all fluents) l) (lt-ltb t n early) member))))

pub full-is_full : (fluents last : ℕ) → is_full fluents last (full fluents last) ≡ true
full-is_full fluents last = shows-is_full fluents last (full fluents last) (length-full fluents last) (λ t l fact. fact)

-- ---- what two tables both show

pub length-common : (xs ys : List ℕ) → length xs ≡ length ys → length (common xs ys) ≡ length xs
unfolding common
length-common [] ys long = refl
length-common (x ∷ xs) [] long = absurd (omega (arith, long))
length-common (x ∷ xs) (y ∷ ys) long = ap suc (length-common xs ys (omega (arith, long)))

pub common_at : (xs ys : List ℕ) → length xs ≡ length ys → (t : ℕ) → get_or (common xs ys) t 0 ≡ bit_and (get_or xs t 0) (get_or ys t 0)
unfolding common
common_at [] [] long t = refl
common_at [] (y ∷ ys) long t = absurd (omega (arith, long))
common_at (x ∷ xs) [] long t = absurd (omega (arith, long))
common_at (x ∷ xs) (y ∷ ys) long zero = refl
common_at (x ∷ xs) (y ∷ ys) long (suc t) = common_at xs ys (omega (arith, long)) t

pub shows-common : (xs ys : List ℕ) → length xs ≡ length ys → (t l : ℕ) → shows (common xs ys) t l ≡ (shows xs t l && shows ys t l)
shows-common xs ys long t l = ap (λ s. has s l) (common_at xs ys long t) ∙ has-and (get_or xs t 0) (get_or ys t 0) l

pub common_sets : (xs ys : List ℕ) → length xs ≡ length ys → AreSets xs → AreSets (common xs ys)
common_sets xs ys long small t = rw (common_at xs ys long t) (and_below (get_or xs t 0) (get_or ys t 0) (small t))

-- a table that has the sets of both up to a moment, and those of the first from there on
abbrev pub Shared : List ℕ → List ℕ → ℕ → List ℕ → Type 0
Shared xs ys n sets = (t : ℕ) → get_or sets t 0 ≡ cond (ltb t n) (bit_and (get_or xs t 0) (get_or ys t 0)) (get_or xs t 0)

pub shared_all : (xs ys : List ℕ) (n : ℕ) (sets : List ℕ) → length xs ≡ length ys → length sets ≡ length xs → length xs ≤ n → Shared xs ys n sets → sets ≡ common xs ys
shared_all xs ys n sets long same_length all so_far =
    ext_get_or 0 sets (common xs ys) (same_length ∙ sym (length-common xs ys long))
    (λ t inside. let early : ltb t n ≡ true = grind (arith, nat_tests, inside, all, same_length) in so_far t ∙ ap (λ b. cond b (bit_and (get_or xs t 0) (get_or ys t 0)) (get_or xs t 0)) early ∙ sym (common_at xs ys long t))
