-- What an effect gives from the facts of two moments. Assumes nothing.
use Rattle.std.proofs.Common.{◌≡◌, ℕ, ◌^◌, ◌<◌, Bool, true, false, cond, ◌&&◌, ◌≢◌, sym, refl, ap, ◌∙◌, ⊎_elim, arith}
use lib.Bits.{bit_or}
use Rattle.std.proofs.lemmas.Bool.{and_parts, and_from, lt-ltb, eq-eqb, eqb-true, both_ways}
use Rattle.literals.specs.Literals.{opposite, has, single, covers, opposites}
use Rattle.literals.proofs.Laws.{opposite-opposite, has-empty, has-single, has-opposites, single_below, or_below, opposites_below, covers-has, has-covers}
use Rattle.domain.specs.declared.action.Effect.{Effect}
use Rattle.knowledge.specs.Rules.{Literals}
use Rattle.knowledge.specs.Sweeps.{left_over, came, came_not, caused, worked}
use Rattle.knowledge.proofs.LeftOver.{in_left, in_right, in_either, left_over_member, left_over_others, others_left_over}

-- each literal of the one is in the other
infixl 20 ◌⊑◌
abbrev pub ◌⊑◌ : Literals → Literals → Type 0
a ⊑ b = (l : ℕ) → a l ≡ true → b l ≡ true

-- the rules of one effect
pub record Gives (e : Effect) (from from_next to to_next : Literals) : Type 0 where
  pub cause : ((c : ℕ) → has e.conditions c ≡ true → from c ≡ true) → to_next e.literal ≡ true
  pub positive : from_next e.literal ≡ true → from (opposite e.literal) ≡ true → (c : ℕ) → has e.conditions c ≡ true → to c ≡ true
  pub negative : from_next (opposite e.literal) ≡ true → (c : ℕ) → has e.conditions c ≡ true
      → ((m : ℕ) → has e.conditions m ≡ true → m ≢ c → from m ≡ true) → to (opposite c) ≡ true

pub gives_mono : {e : Effect} {from from_next to to_next from' from_next' to' to_next' : Literals}
    → Gives e from from_next to to_next → from' ⊑ from → from_next' ⊑ from_next → to ⊑ to' → to_next ⊑ to_next' → Gives e from' from_next' to' to_next'
gives_mono {e} r less less-next more more-next =
    record {
      cause = λ all. more-next e.literal (r.cause (λ c h. less c (all c h)));
      positive = λ after before c h. more c (r.positive (less-next e.literal after) (less (opposite e.literal) before) c h);
      negative = λ after c h others. more (opposite c) (r.negative (less-next (opposite e.literal) after) c h (λ m k differs. less m (others m k differs)));
    }

-- a set under a test
pub in_cond : (b : Bool) (s l : ℕ) → b ≡ true → has s l ≡ true → has (cond b s 0) l ≡ true
in_cond true s l b h = h
in_cond false s l b h = absurd (both_ways _ refl b)

pub cond_test : (b : Bool) (s l : ℕ) → has (cond b s 0) l ≡ true → b ≡ true
cond_test true s l h = refl
cond_test false s l h = absurd (both_ways _ (has-empty l) h)

pub cond_member : (b : Bool) (s l : ℕ) → has (cond b s 0) l ≡ true → has s l ≡ true
cond_member true s l h = h
cond_member false s l h = absurd (both_ways _ (has-empty l) h)

pub cond-set_below : (b : Bool) (s : ℕ) → s < 2 ^ 64 → cond b s 0 < 2 ^ 64
cond-set_below true s h = h
cond-set_below false s h = omega arith

module _ (e : Effect) (a b : ℕ) (small : e.conditions < 2 ^ 64) where
  pub worked_grows : (λ (l : ℕ). has a l) ⊑ (λ l. has (worked e (a, b)).0 l)
  worked_grows l h = in_left a _ l h

  pub worked_grows_next : (λ (l : ℕ). has b l) ⊑ (λ l. has (worked e (a, b)).1 l)
  worked_grows_next l h = in_left b _ l h

  pub worked_gives : e.literal < 64 → Gives e (λ l. has a l) (λ l. has b l) (λ l. has (worked e (a, b)).0 l) (λ l. has (worked e (a, b)).1 l)
  worked_gives below =
      record {
        cause = λ all.
            in_right b _ e.literal (in_cond _ (single e.literal) e.literal (has-covers a e.conditions small all)
            (has-single e.literal e.literal ∙ and_from _ _ (lt-ltb e.literal 64 below) (eq-eqb e.literal e.literal refl)));
        positive = λ after before c h.
            in_right a _ c (in_left _ _ c (in_cond _ e.conditions c (and_from (has b e.literal) (has a (opposite e.literal)) after before) h));
        negative = λ after c h others.
            in_right a _ (opposite c) (in_right _ _ (opposite c) (in_cond _ (opposites (left_over e.conditions a)) (opposite c) after
            (has-opposites (left_over e.conditions a) (opposite c) ∙ ap (has (left_over e.conditions a)) (opposite-opposite c) ∙ others_left_over e.conditions a small c h others)));
      }

  module _ (k k_next : Literals) (closed : Gives e k k_next k k_next) (within : (λ (l : ℕ). has a l) ⊑ k) (within_next : (λ (l : ℕ). has b l) ⊑ k_next) where
    pub worked_only : (λ (l : ℕ). has (worked e (a, b)).0 l) ⊑ k
    worked_only l h =
        ⊎_elim (λ (old : has a l ≡ true). within l old)
        (λ (new : has (bit_or (came e a b) (came_not e a b)) l ≡ true).
        ⊎_elim
        (λ (p : has (came e a b) l ≡ true).
        let both = and_parts (has b e.literal) (has a (opposite e.literal)) (cond_test _ e.conditions l p) in
        closed.positive (within_next e.literal both.0) (within (opposite e.literal) both.1) l (cond_member _ e.conditions l p))
        (λ (n : has (came_not e a b) l ≡ true).
        let over : has (left_over e.conditions a) (opposite l) ≡ true = sym (has-opposites (left_over e.conditions a) l) ∙ cond_member _ (opposites (left_over e.conditions a)) l n in
        sym (ap k (opposite-opposite l))
        ∙ closed.negative (within_next (opposite e.literal) (cond_test _ (opposites (left_over e.conditions a)) l n)) (opposite l) (left_over_member e.conditions a small (opposite l) over)
        (λ m in_m differs. within m (left_over_others e.conditions a small (opposite l) over m in_m differs)))
        (in_either _ _ l new))
        (in_either _ _ l h)

    pub worked_only_next : (λ (l : ℕ). has (worked e (a, b)).1 l) ⊑ k_next
    worked_only_next l h =
        ⊎_elim (λ (old : has b l ≡ true). within_next l old)
        (λ (new : has (caused e a) l ≡ true).
        let all = covers-has a e.conditions (cond_test _ (single e.literal) l new) in
        let is_l = eqb-true l e.literal (and_parts _ _ (sym (has-single e.literal l) ∙ cond_member (covers a e.conditions) (single e.literal) l new)).1 in
        ap k_next is_l ∙ closed.cause (λ c h. within c (all c h)))
        (in_either _ _ l h)

  pub worked_below : a < 2 ^ 64 → (worked e (a, b)).0 < 2 ^ 64
  worked_below h =
      or_below a _ h (or_below _ _ (cond-set_below (has b e.literal && has a (opposite e.literal)) e.conditions small)
      (cond-set_below (has b (opposite e.literal)) (opposites (left_over e.conditions a)) (opposites_below (left_over e.conditions a))))

  pub worked_below_next : b < 2 ^ 64 → (worked e (a, b)).1 < 2 ^ 64
  worked_below_next h = or_below b _ h (cond-set_below (covers a e.conditions) (single e.literal) (single_below e.literal))
