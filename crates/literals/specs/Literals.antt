-- Literals, and sets of them as numbers of 64 binary digits. Literal 2f + 1 says that fluent f is true, and 2f that it is false. Fluents are below 32. Assumes nothing.
use Rattle.std.specs.Prelude.{ℕ, zero, suc, ◌+◌, ◌-◌, ◌*◌, ◌/◌, ◌%◌, ◌^◌, min, Bool, cond, ◌&&◌, Some, None, Option, ◌==◌, bit_and, bit_or, bit_xor, nat_lt}

-- the fluent that a literal speaks of
abbrev pub fluent : ℕ → ℕ
fluent l = l / 2

-- the other literal of the same fluent
abbrev pub opposite : ℕ → ℕ
opposite l = l / 2 * 2 + (1 - l % 2)

-- whether the digit of n at a place is 1; the lowest stands at 0
unfoldable pub bit : ℕ → ℕ → Bool
bit n zero = n % 2 == 1
bit n (suc k) = bit (n / 2) k

-- where a literal stands in a set: f for "f is true", 32 + f for "f is false"; a number past the literals stands past the set
unfoldable pub place : ℕ → ℕ
place l = cond (nat_lt l 64) (l / 2 + 32 * (1 - l % 2)) l

-- the literal that stands at a place
unfoldable pub literal_at : ℕ → ℕ
literal_at k = cond (nat_lt k 32) (2 * k + 1) (cond (nat_lt k 64) (2 * (k - 32)) k)

-- whether a set has the literal that stands at a place; a set has 64 places
unfoldable pub at_place : ℕ → ℕ → Bool
at_place s k = nat_lt k 64 && bit s k

-- whether a literal is a member of a set
abbrev pub has : ℕ → ℕ → Bool
has s l = at_place s (place l)

-- the set whose one member is a literal; of a number past the literals, the empty set
unfoldable pub single : ℕ → ℕ
single l = cond (nat_lt l 64) (2 ^ place l) 0

-- the set with one literal more
abbrev pub with : ℕ → ℕ → ℕ
with s l = bit_or s (single l)

-- the members of s that are not in t
abbrev pub without : ℕ → ℕ → ℕ
without s t = bit_xor s (bit_and s t)

-- whether each member of a part is in s
abbrev pub covers : ℕ → ℕ → Bool
covers s part = without part s == 0

-- the 64 lowest digits of n moved up by k places, those past the end to the start
unfoldable pub rotated : ℕ → ℕ → ℕ
rotated k n = bit_or (n % 2 ^ 64 * 2 ^ (k % 64) % 2 ^ 64) (n % 2 ^ 64 / 2 ^ ((64 - k % 64) % 64))

-- the opposite of each member
abbrev pub opposites : ℕ → ℕ
opposites s = rotated 32 s

-- every literal of the first n fluents
unfoldable pub of_first : ℕ → ℕ
of_first n = (2 ^ n - 1) * 2 ^ 32 + (2 ^ n - 1)

-- every literal of the fluents, which are no more than 32
abbrev pub all : ℕ → ℕ
all fluents = of_first (min fluents 32)

-- the first of the n literals from l on that is a member, or the literal after them
unfoldable pub first_from : ℕ → ℕ → ℕ → ℕ
first_from s zero l = l
first_from s (suc n) l = cond (has s l) l (first_from s n (suc l))

-- the member with the lowest number, or 64
unfoldable pub first : ℕ → ℕ
first s = first_from s 64 0

-- the member with the lowest number
abbrev pub lowest : ℕ → Option ℕ
lowest s = cond (nat_lt (first s) 64) (Some (first s)) None
