-- Fields, literals and lists of literals in a packed domain. Assumes nothing.
use Rattle.std.specs.Prelude.{ℕ, zero, suc, ◌+◌, ◌*◌, ◌/◌, Bool, cond, ◌&&◌, List, [], ◌∷◌, ◌++◌, length, Ok, Err, Result, ◌==◌, bit_and, nat_le, nat_lt}
use Rattle.std.specs.List.{flat_map}
use Rattle.bits.specs.Bits.{numeral}
use Rattle.bits.specs.Fields.{field, followed, refused_as}
use Rattle.literals.specs.Literals.{has, with, opposites, covers, all}
use Rattle.domain.specs.declared.refusal.Refusal.{Refusal}
use Rattle.domain.specs.declared.refusal.Refusal.TheVariants.{Unread, Count, UnknownFluent, NotRising}

-- a field of w bits at a place of a domain
unfoldable pub domain_field : List Bool → ℕ → ℕ → Result (ℕ × ℕ) Refusal
domain_field bits p w = refused_as Unread (field bits p w)

-- a count in w bits, from the least to the most
abbrev pub in_range : ℕ → ℕ → ℕ → ℕ → ℕ → Result (ℕ × ℕ) Refusal
in_range least most p n q = cond (nat_le least n && nat_le n most) (Ok (n, q)) (Err (Count p))

abbrev pub count_at : List Bool → ℕ → ℕ → ℕ → ℕ → Result (ℕ × ℕ) Refusal
count_at bits w least most p = followed (domain_field bits p w) (in_range least most p)

-- a literal of one of the first F fluents, whose number is not below the least
abbrev pub known_literal : ℕ → ℕ → ℕ → ℕ → ℕ → Result (ℕ × ℕ) Refusal
known_literal F least p l q = cond (nat_lt (l / 2) F) (cond (nat_le least l) (Ok (l, q)) (Err (NotRising p))) (Err (UnknownFluent p))

abbrev pub literal_at : List Bool → ℕ → ℕ → ℕ → Result (ℕ × ℕ) Refusal
literal_at bits F least p = followed (domain_field bits p 6) (known_literal F least p)

-- n literals whose fluents rise strictly, added to the set s; the first is not below the least
unfoldable pub literals_at : ℕ → List Bool → ℕ → ℕ → ℕ → ℕ → Result (ℕ × ℕ) Refusal
literals_at zero bits F least s p = Ok (s, p)
literals_at (suc n) bits F least s p = followed (literal_at bits F least p) (λ l q. literals_at n bits F ((l / 2 + 1) * 2) (with s l) q)

-- a list: a count in w bits, from the least to the most, and as many literals whose fluents rise strictly
unfoldable pub list_at : List Bool → ℕ → ℕ → ℕ → ℕ → ℕ → Result (ℕ × ℕ) Refusal
list_at bits F w least most p = followed (count_at bits w least most p) (λ n q. literals_at n bits F 0 0 q)

-- the members of a set among the n literals from l on, in rising sequence
unfoldable pub members_from : ℕ → ℕ → ℕ → List ℕ
members_from s zero l = []
members_from s (suc n) l = cond (has s l) (l ∷ members_from s n (suc l)) (members_from s n (suc l))

-- the members of a set, in rising sequence
unfoldable pub members : ℕ → List ℕ
members s = members_from s 64 0

-- what a list may be: literals of the first F fluents, none with its opposite, from the least to the most of them
unfoldable pub listed : ℕ → ℕ → ℕ → ℕ → Bool
listed F least most s =
    covers (all F) s && (bit_and s (opposites s) == 0 && (nat_le least (length (members s)) && nat_le (length (members s)) most))

-- what a list is written as
unfoldable pub list_bits : ℕ → ℕ → List Bool
list_bits w s = numeral w (length (members s)) ++ flat_map (numeral 6) (members s)
