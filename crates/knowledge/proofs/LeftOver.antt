-- The members of a set such that all others are known, and what groups give. Assumes nothing.
use Rattle.std.proofs.Common.{◌≡◌, ℕ, ◌^◌, ◌<◌, true, false, not, eqb, ◌≢◌, ◌⊎◌, List, [], ◌∷◌, Some, None, Option, sym, refl, ap, ◌∙◌, inl, inr, ⊎_elim, arith}
use lib.Bits.{bit_and, bit_or}
use lib.Count.{ones}
use Rattle.std.proofs.lemmas.Bool.{cases_Bool, cases_eq, and_parts, and_from, or_cases, or_left, or_right, eq-eqb, ne_eqb, eqb-true, both_ways, not_from_false, not-true}
use Rattle.std.proofs.lemmas.Bool.Decides.{nat_tests}
use Rattle.literals.specs.Literals.{opposite, has, single, without, opposites, lowest}
use Rattle.literals.proofs.Laws.{opposite-opposite, has-and, has-or, has-without, has-empty, has_below, has-single, has-opposites, without_below, or_below, opposites_below, no_members, ones_none, ones_empty, ones_power, ones_has, has_ones, lowest_none, lowest_some}
use Rattle.knowledge.specs.Rules.{Literals, OneOf}
use Rattle.knowledge.specs.Sweeps.{left_over, grouped, all_grouped}
use Rattle.knowledge.specs.Worlds.{Among}

-- ---- membership in what operations make

pub in_without : (s t l : ℕ) → has s l ≡ true → has t l ≡ false → has (without s t) l ≡ true
in_without s t l h k = has-without s t l ∙ and_from (has s l) (not (has t l)) h (not_from_false (has t l) k)

pub without_left : (s t l : ℕ) → has (without s t) l ≡ true → has s l ≡ true
without_left s t l h = (and_parts (has s l) (not (has t l)) (sym (has-without s t l) ∙ h)).0

pub without_right : (s t l : ℕ) → has (without s t) l ≡ true → has t l ≡ false
without_right s t l h = not-true (has t l) (and_parts (has s l) (not (has t l)) (sym (has-without s t l) ∙ h)).1

pub in_left : (a b l : ℕ) → has a l ≡ true → has (bit_or a b) l ≡ true
in_left a b l h = has-or a b l ∙ or_left (has a l) (has b l) h

pub in_right : (a b l : ℕ) → has b l ≡ true → has (bit_or a b) l ≡ true
in_right a b l h = has-or a b l ∙ or_right (has a l) (has b l) h

pub in_either : (a b l : ℕ) → has (bit_or a b) l ≡ true → (has a l ≡ true) ⊎ (has b l ≡ true)
in_either a b l h = or_cases (has a l) (has b l) (sym (has-or a b l) ∙ h)

-- a set has a member, or none
pub record Member (s : ℕ) : Type 0 where
  pub literal : ℕ
  pub there : has s literal ≡ true

found : (s : ℕ) (o : Option ℕ) → lowest s ≡ o → Member s ⊎ ((l : ℕ) → has s l ≡ false)
found s (Some l) h = inl (record { literal = l; there = (lowest_some s l h).member })
found s None h = inr (lowest_none s h)

pub some_or_none : (s : ℕ) → Member s ⊎ ((l : ℕ) → has s l ≡ false)
some_or_none s = found s (lowest s) refl

-- ---- left over

-- all members of a set but one are among the others
abbrev pub AllBut : ℕ → Literals → ℕ → Type 0
AllBut s known m = (c : ℕ) → has s c ≡ true → c ≢ m → known c ≡ true

-- a member that is not known is left
not_left : (s known c : ℕ) → has (without s known) c ≡ false → has s c ≡ true → has known c ≡ true
not_left s known c out in-s =
    ⊎_elim
    (λ (h : has known c ≡ true). h)
    (λ (h : has known c ≡ false). absurd (both_ways _ out (in_without s known c in-s h)))
    (cases_Bool (has known c))

-- what is left over, by how many are left
module _ (s known : ℕ) (small : s < 2 ^ 64) where
  none_left : ones (without s known) ≡ 0 → left_over s known ≡ s
  unfolding left_over
  none_left h = rw (eq-eqb _ _ h) refl

  one_left : ones (without s known) ≡ 1 → left_over s known ≡ without s known
  unfolding left_over
  one_left h =
      let zero : eqb (ones (without s known)) 0 ≡ false = ne_eqb (ones (without s known)) 0 (λ z. omega (arith, z, h)) in
      rw (zero, eq-eqb _ _ h) (sym (ones_power (without s known) (without_below s known small) h))

  many_left : ones (without s known) ≢ 0 → ones (without s known) ≢ 1 → left_over s known ≡ 0
  unfolding left_over
  many_left h k = rw (ne_eqb (ones (without s known)) 0 h, ne_eqb (ones (without s known)) 1 k) refl

  nothing_left : ones (without s known) ≡ 0 → (l : ℕ) → has (without s known) l ≡ false
  nothing_left h l = ap (λ x. has x l) (ones_none (without s known) (without_below s known small) h) ∙ has-empty l

  pub left_over_member : (m : ℕ) → has (left_over s known) m ≡ true → has s m ≡ true
  left_over_member m h =
      ⊎_elim
      (λ (z : ones (without s known) ≡ 0). sym (ap (λ x. has x m) (none_left z)) ∙ h)
      (λ (nz : ones (without s known) ≡ 0 → ⊥).
      ⊎_elim
      (λ (o : ones (without s known) ≡ 1). without_left s known m (sym (ap (λ x. has x m) (one_left o)) ∙ h))
      (λ (no : ones (without s known) ≡ 1 → ⊥). absurd (both_ways _ (has-empty m) (sym (ap (λ x. has x m) (many_left nz no)) ∙ h)))
      (cases_eq (ones (without s known)) 1))
      (cases_eq (ones (without s known)) 0)

  pub left_over_others : (m : ℕ) → has (left_over s known) m ≡ true → AllBut s (λ l. has known l) m
  left_over_others m h c in-s differs =
      ⊎_elim
      (λ (z : ones (without s known) ≡ 0). not_left s known c (nothing_left z c) in-s)
      (λ (nz : ones (without s known) ≡ 0 → ⊥).
      ⊎_elim
      (λ (o : ones (without s known) ≡ 1).
      let only = ones_has (without s known) (without_below s known small) o in
      let is_m = eqb-true m _ (sym (only m) ∙ sym (ap (λ x. has x m) (one_left o)) ∙ h) in
      not_left s known c (only c ∙ ne_eqb c _ (λ same. differs (same ∙ sym is_m))) in-s)
      (λ (no : ones (without s known) ≡ 1 → ⊥). absurd (both_ways _ (has-empty m) (sym (ap (λ x. has x m) (many_left nz no)) ∙ h)))
      (cases_eq (ones (without s known)) 1))
      (cases_eq (ones (without s known)) 0)

  pub others_left_over : (m : ℕ) → has s m ≡ true → AllBut s (λ l. has known l) m → has (left_over s known) m ≡ true
  others_left_over m in-s others =
      ⊎_elim
      (λ (z : ones (without s known) ≡ 0). ap (λ x. has x m) (none_left z) ∙ in-s)
      (λ (nz : ones (without s known) ≡ 0 → ⊥).
      ⊎_elim
      (λ (left : has (without s known) m ≡ true).
      ap (λ x. has x m) (one_left (has_ones (without s known) m (without_below s known small) (has_below s m in-s) (λ l. alone l left))) ∙ left)
      (λ (out : has (without s known) m ≡ false).
      absurd (nz (ap ones (no_members (without s known) (without_below s known small) (λ l. none l out)) ∙ ones_empty)))
      (cases_Bool (has (without s known) m)))
      (cases_eq (ones (without s known)) 0)
    where
      other : (l : ℕ) → l ≢ m → has (without s known) l ≡ false
      other l differs =
          ⊎_elim
          (λ (h : has (without s known) l ≡ true). absurd (both_ways _ (without_right s known l h) (others l (without_left s known l h) differs)))
          (λ (h : has (without s known) l ≡ false). h)
          (cases_Bool (has (without s known) l))

      alone : (l : ℕ) → has (without s known) m ≡ true → has (without s known) l ≡ eqb l m
      alone l left =
          ⊎_elim
          (λ (same : l ≡ m). ap (has (without s known)) same ∙ left ∙ sym (eq-eqb l m same))
          (λ (differs : l ≡ m → ⊥). other l differs ∙ sym (ne_eqb l m differs))
          (cases_eq l m)

      none : (l : ℕ) → has (without s known) m ≡ false → has (without s known) l ≡ false
      none l out =
          ⊎_elim
          (λ (same : l ≡ m). ap (has (without s known)) same ∙ out)
          (λ (differs : l ≡ m → ⊥). other l differs)
          (cases_eq l m)

  pub left_over_below : left_over s known < 2 ^ 64
  left_over_below =
      ⊎_elim
      (λ (z : ones (without s known) ≡ 0). rw (none_left z) small)
      (λ (nz : ones (without s known) ≡ 0 → ⊥).
      ⊎_elim
      (λ (o : ones (without s known) ≡ 1). rw (one_left o) (without_below s known small))
      (λ (no : ones (without s known) ≡ 1 → ⊥). rw (many_left nz no) (omega arith))
      (cases_eq (ones (without s known)) 1))
      (cases_eq (ones (without s known)) 0)

-- ---- groups

module _ (a g : ℕ) (small : g < 2 ^ 64) where
  pub in_grouped : (l : ℕ) → has a l ≡ true → has (grouped a g) l ≡ true
  in_grouped l h = in_left a _ l h

  -- what a group gives is added
  pub grouped_gives : OneOf g (λ l. has a l) (λ l. has (grouped a g) l)
  grouped_gives =
      record {
        others = λ l m in_l in_m differs known.
            in_right a _ (opposite m) (in_left _ _ (opposite m) (has-opposites _ (opposite m) ∙ ap (has (without g (left_over g (without g a)))) (opposite-opposite m)
            ∙ in_without g (left_over g (without g a)) m in_m (not_over l m in_l differs known)));
        left_over = λ m in_m others.
            in_right a _ m (in_right _ _ m (others_left_over g (opposites a) small m in_m (λ l in_l differs. has-opposites a l ∙ others l in_l differs)));
      }
    where
      not_over : (l m : ℕ) → has g l ≡ true → l ≢ m → has a l ≡ true → has (left_over g (without g a)) m ≡ false
      not_over l m in_l differs known =
          ⊎_elim
          (λ (h : has (left_over g (without g a)) m ≡ true).
          absurd (both_ways _ (without_right g a l (left_over_others g (without g a) small m h l in_l differs)) known))
          (λ (h : has (left_over g (without g a)) m ≡ false). h)
          (cases_Bool (has (left_over g (without g a)) m))

  -- and nothing else: facts that the group adds nothing to have it all
  pub grouped_only : (k : Literals) → OneOf g k k → ((l : ℕ) → has a l ≡ true → k l ≡ true) → (l : ℕ) → has (grouped a g) l ≡ true → k l ≡ true
  grouped_only k closed within l h =
      ⊎_elim (λ (old : has a l ≡ true). within l old)
      (λ (new : has (bit_or (opposites (without g (left_over g (without g a)))) (left_over g (opposites a))) l ≡ true).
      ⊎_elim (λ (other : has (opposites (without g (left_over g (without g a)))) l ≡ true). from_other (sym (has-opposites _ l) ∙ other))
      (λ (left : has (left_over g (opposites a)) l ≡ true).
      closed.left_over l (left_over_member g (opposites a) small l left) (λ m in_m differs. within (opposite m) (sym (has-opposites a m) ∙ left_over_others g (opposites a) small l left m in_m differs)))
      (in_either _ _ l new))
      (in_either _ _ l h)
    where
      another : ℕ
      another = without (bit_and g a) (single (opposite l))

      out : (c : ℕ) → has g c ≡ true → c ≢ opposite l → has another c ≡ false → has a c ≡ false
      out c in_c differs none =
          ⊎_elim
          (λ (h : has a c ≡ true).
          absurd (both_ways _ none (in_without (bit_and g a) (single (opposite l)) c (has-and g a c ∙ and_from (has g c) (has a c) in_c h) (has-single (opposite l) c ∙ rw (ne_eqb c (opposite l) differs) (grind (arith, nat_tests))))))
          (λ (h : has a c ≡ false). h)
          (cases_Bool (has a c))

      from_other : has (without g (left_over g (without g a))) (opposite l) ≡ true → k l ≡ true
      from_other there =
          let in_g = without_left g _ (opposite l) there in
          ⊎_elim
          (λ (w : Member another).
          let c = w.literal in
          let both = and_parts (has g c) (has a c) (sym (has-and g a c) ∙ without_left (bit_and g a) _ c w.there) in
          let differs : c ≢ opposite l = λ same. both_ways _ (without_right (bit_and g a) (single (opposite l)) c w.there) (has-single (opposite l) c ∙ rw same (grind (arith, nat_tests, has_below g (opposite l) in_g))) in
          sym (ap k (opposite-opposite l)) ∙ closed.others c (opposite l) both.0 in_g differs (within c both.1))
          (λ (none : (c : ℕ) → has another c ≡ false).
          absurd (both_ways _ (without_right g _ (opposite l) there) (others_left_over g (without g a) small (opposite l) in_g (λ c in_c differs. in_without g a c in_c (out c in_c differs (none c))))))
          (some_or_none another)

  pub grouped_below : a < 2 ^ 64 → grouped a g < 2 ^ 64
  grouped_below h = or_below a _ h (or_below _ _ (opposites_below _) (left_over_below g (opposites a) small))

-- all groups, one after another
pub in_all_grouped : (gs : List ℕ) (a l : ℕ) → has a l ≡ true → has (all_grouped gs a) l ≡ true
unfolding all_grouped
in_all_grouped [] a l h = h
in_all_grouped (g ∷ gs) a l h = in_all_grouped gs (grouped a g) l (in_left a _ l h)

pub one_of_mono : {g : ℕ} {from from' to to' : Literals} → OneOf g from to → ((l : ℕ) → from' l ≡ true → from l ≡ true) → ((l : ℕ) → to l ≡ true → to' l ≡ true) → OneOf g from' to'
one_of_mono r less more =
    record {
      others = λ l m in_l in_m differs known. more (opposite m) (r.others l m in_l in_m differs (less l known));
      left_over = λ m in_m others. more m (r.left_over m in_m (λ l in_l differs. less (opposite l) (others l in_l differs)));
    }

pub all_grouped_gives : (gs : List ℕ) (a : ℕ) → ((g : ℕ) → Among g gs → g < 2 ^ 64) → (g : ℕ) → Among g gs → OneOf g (λ l. has a l) (λ l. has (all_grouped gs a) l)
unfolding Among all_grouped
all_grouped_gives [] a small g none = absurd none
all_grouped_gives (x ∷ gs) a small g (inl same) =
    one_of_mono (rw same (grouped_gives a x (small x (inl refl)))) (λ l h. h) (in_all_grouped gs (grouped a x))
all_grouped_gives (x ∷ gs) a small g (inr later) =
    one_of_mono (all_grouped_gives gs (grouped a x) (λ y h. small y (inr h)) g later) (λ l h. in_left a _ l h) (λ l h. h)

pub all_grouped_only : (gs : List ℕ) (a : ℕ) → ((g : ℕ) → Among g gs → g < 2 ^ 64) → (k : Literals) → ((g : ℕ) → Among g gs → OneOf g k k)
    → ((l : ℕ) → has a l ≡ true → k l ≡ true) → (l : ℕ) → has (all_grouped gs a) l ≡ true → k l ≡ true
unfolding Among all_grouped
all_grouped_only [] a small k closed within l h = within l h
all_grouped_only (g ∷ gs) a small k closed within l h =
    all_grouped_only gs (grouped a g) (λ y m. small y (inr m)) k (λ y m. closed y (inr m)) (grouped_only a g (small g (inl refl)) k (closed g (inl refl)) within) l h

pub all_grouped_below : (gs : List ℕ) (a : ℕ) → ((g : ℕ) → Among g gs → g < 2 ^ 64) → a < 2 ^ 64 → all_grouped gs a < 2 ^ 64
unfolding Among all_grouped
all_grouped_below [] a small h = h
all_grouped_below (g ∷ gs) a small h = all_grouped_below gs (grouped a g) (λ y m. small y (inr m)) (grouped_below a g (small g (inl refl)) h)
