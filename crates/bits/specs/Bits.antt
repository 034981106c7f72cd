-- Bytes as bits, bits as numbers, and the bytes that hold given bits. A bit is a Bool: the bit 1 is true. Assumes nothing.
use Rattle.std.specs.Prelude.{ℕ, zero, suc, ◌+◌, ◌-◌, ◌*◌, ◌/◌, ◌%◌, ◌^◌, ◌<◌, Bool, false, cond, List, [], ◌∷◌, ◌++◌, length, take, drop, replicate, ◌==◌, slice_index, slice_set}

-- the number that bits spell, most significant first
unfoldable pub number : List Bool → ℕ
number [] = 0
number (b ∷ bs) = cond b 1 0 * 2 ^ length bs + number bs

-- the w lowest bits of a number, most significant first
unfoldable pub numeral : ℕ → ℕ → List Bool
numeral zero n = []
numeral (suc w) n = (n / 2 ^ w % 2 == 1) ∷ numeral w n

-- the bits of bytes
unfoldable pub bits_of : List ℕ → List Bool
bits_of [] = []
bits_of (b ∷ bytes) = numeral 8 b ++ bits_of bytes

-- how many bytes hold n bits
abbrev pub bytes_for : ℕ → ℕ
bytes_for n = (n + 7) / 8

-- the bits cut into n bytes, zero bits where none are left
unfoldable pub cut : ℕ → List Bool → List ℕ
cut zero bs = []
cut (suc n) bs = number (take 8 (bs ++ replicate 8 false)) ∷ cut n (drop 8 bs)

-- the bytes that hold the bits; zero bits fill the last byte
unfoldable pub packed : List Bool → List ℕ
packed bs = cut (bytes_for (length bs)) bs

-- each number is that of a byte
abbrev pub AreBytes : List ℕ → Type 0
AreBytes xs = (i : ℕ) → slice_index xs i < 256

-- a byte with a bit put into it: the bits before it stay, and those after it become zero
unfoldable pub with_bit : ℕ → Bool → ℕ → ℕ
with_bit at b byte = number (take at (numeral 8 byte) ++ b ∷ replicate (7 - at) false)

-- a bit is put at a place of bytes
abbrev pub put_bit : ℕ → Bool → List ℕ → List ℕ
put_bit p b bytes = slice_set bytes (p / 8) (with_bit (p % 8) b (slice_index bytes (p / 8)))

-- bits are put one after the other, from a place on
unfoldable pub put : ℕ → List Bool → List ℕ → List ℕ
put p [] bytes = bytes
put p (b ∷ bs) bytes = put (p + 1) bs (put_bit p b bytes)

-- the buffer that holds the bits from its start, zero bits in the rest of their last byte, and later bytes as they were
abbrev pub holding : List Bool → List ℕ → List ℕ
holding bs old = packed bs ++ drop (bytes_for (length bs)) old
