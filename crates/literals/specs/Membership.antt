-- What membership in a set of literals obeys. Assumes nothing.
use Rattle.std.specs.Prelude.{◌≡◌, ℕ, ◌^◌, ◌<◌, true, false, not, ◌&&◌, ◌||◌, ◌==◌, bit_and, bit_or, nat_lt}
use Rattle.literals.specs.Literals.{fluent, opposite, has, with, without, opposites, covers, all}

pub record Membership : Type 0 where
  -- what is common to two sets, and what is in either
  pub common : (a b l : ℕ) → has (bit_and a b) l ≡ (has a l && has b l)
  pub either : (a b l : ℕ) → has (bit_or a b) l ≡ (has a l || has b l)
  pub removed : (s t l : ℕ) → has (without s t) l ≡ (has s l && not (has t l))
  pub added : (s l m : ℕ) → has (with s l) m ≡ (has s m || (nat_lt l 64 && m == l))
  pub opposed : (s l : ℕ) → has (opposites s) l ≡ has s (opposite l)
  pub every : (fluents l : ℕ) → has (all fluents) l ≡ (nat_lt l 64 && nat_lt (fluent l) fluents)
  pub none : (l : ℕ) → has 0 l ≡ false
  -- a part has no member that the whole lacks
  pub part : (s p : ℕ) → p < 2 ^ 64 → (covers s p ≡ true → (l : ℕ) → has p l ≡ true → has s l ≡ true) × (((l : ℕ) → has p l ≡ true → has s l ≡ true) → covers s p ≡ true)
  -- sets with the same members are equal
  pub same : (a b : ℕ) → a < 2 ^ 64 → b < 2 ^ 64 → ((l : ℕ) → has a l ≡ has b l) → a ≡ b
