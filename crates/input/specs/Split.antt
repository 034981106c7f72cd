-- The input of the programs: the domain's length in sixteen bits, the domain, the plan. Assumes nothing.
use Rattle.std.specs.Prelude.{ℕ, ◌+◌, ◌*◌, cond, List, length, take, drop, Ok, Err, Result, nat_le}
use Rattle.std.specs.Borrow.{Bor}
use Rattle.bits.specs.Bits.{bits_of}
use Rattle.bits.specs.Fields.{field, followed}
use Rattle.bits.specs.declared.refusal.Refusal.{Refusal}
use Rattle.bits.specs.declared.refusal.Refusal.TheVariants.{Ended}

-- the domain's bytes and the plan's, where the domain is whole
abbrev pub after_length : List ℕ → ℕ → ℕ → Result (List ℕ × List ℕ) Refusal
after_length bytes n p = cond (nat_le (2 + n) (length bytes)) (Ok (take n (drop 2 bytes), drop (2 + n) bytes)) (Err (Ended (8 * length bytes)))

abbrev pub split_input : List ℕ → Result (List ℕ × List ℕ) Refusal
split_input bytes = followed (field (bits_of bytes) 0 16) (after_length bytes)

-- an answer, with the bytes that it refers to
abbrev pub bytes_of : {E : Type 0} → Result (Bor (List ℕ) × Bor (List ℕ)) E → Result (List ℕ × List ℕ) E
bytes_of (Ok r) = Ok (r.0.now, r.1.now)
bytes_of (Err e) = Err e
