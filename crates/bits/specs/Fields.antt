-- What reading and writing a field answer. A place counts bits from 0. Assumes nothing.
use Rattle.std.specs.Prelude.{◌≡◌, ℕ, suc, ◌+◌, ◌-◌, ◌*◌, ◌%◌, ◌≤◌, Bool, true, false, cond, List, [], ◌∷◌, length, take, drop, Ok, Err, IfOk, Result, nat_le, nat_lt}
use Rattle.bits.specs.Bits.{number, bytes_for, put, holding, packed}
use Rattle.bits.specs.declared.reader.Reader.{Reader}
use Rattle.bits.specs.declared.refusal.Refusal.{Refusal}
use Rattle.bits.specs.declared.refusal.Refusal.TheVariants.{Ended, Trailing}
use Rattle.bits.specs.declared.refusal.TooShort.{TooShort}
use Rattle.bits.specs.declared.writer.Writer.{Writer}

-- the number that w bits from a place on spell
unfoldable pub number_at : List Bool → ℕ → ℕ → ℕ
number_at bits p w = number (take w (drop p bits))

-- the field of w bits at a place: its number, and the place of the next bit
abbrev pub field : List Bool → ℕ → ℕ → Result (ℕ × ℕ) Refusal
field bits p w = cond (nat_le (p + w) (length bits)) (Ok (number_at bits p w, p + w)) (Err (Ended (length bits)))

-- the place that a read leaves its reader at: the next bit's, and where it is refused the same as before
abbrev pub next_place : {A E : Type 0} → Result (A × ℕ) E → ℕ → ℕ
next_place (Ok r) p = r.1
next_place (Err e) p = p

-- a read leaves the bytes as they are, and where it is accepted, its reader stands at the place that it answers
pub record Onward {A E : Type 0} (answer : Result (A × ℕ) E) (old new : Reader) : Type 0 where
  pub bytes : new.bytes ≡ old.bytes
  pub place : IfOk answer (λ v. new.place ≡ v.1)

-- one read after another: what was read and the next place go to the next read, and a refusal ends all
abbrev pub followed : {A B E : Type 0} → Result (A × ℕ) E → (A → ℕ → Result B E) → Result B E
followed (Ok r) next = next r.0 r.1
followed (Err e) next = Err e

-- what comes after a test
abbrev pub after : {A B E : Type 0} → Result A E → Result B E → Result B E
after (Ok r) next = next
after (Err e) next = Err e

-- a refusal of this crate among those of a layout
abbrev pub refused_as : {A E F : Type 0} → (E → F) → Result A E → Result A F
refused_as f (Ok r) = Ok r
refused_as f (Err e) = Err (f e)

-- how many zero bits stand before the first 1
abbrev pub zeros : List Bool → ℕ
zeros [] = 0
zeros (true ∷ bits) = 0
zeros (false ∷ bits) = suc (zeros bits)

-- the first place, from p on, that is not a zero bit of the byte that p stands in; at the first bit of a byte that is p
unfoldable pub fill_end : List Bool → ℕ → ℕ
fill_end bits p = p + zeros (take ((8 - p % 8) % 8) (drop p bits))

-- the layout ends before p: zero bits fill the byte, and no byte follows
abbrev pub ending : List Bool → ℕ → Result (Unit {0}) Refusal
ending bits p = cond (nat_lt (fill_end bits p) (length bits)) (Err (Trailing (fill_end bits p))) (Ok tt)

-- a field of w bits written at a place of a buffer of so many bytes: the place of the next bit
abbrev pub written_field : ℕ → ℕ → ℕ → Result ℕ TooShort
written_field len p w = cond (nat_le (p + w) (8 * len)) (Ok (p + w)) (Err (record { needed = bytes_for (p + w) }))

-- writing bits: the buffer stays the one that was lent, and as long; where there is room for the bits, the write is accepted, they are put, and the writer stands after them
pub record Wrote (accepted : Bool) (bits : List Bool) (old new : Writer) : Type 0 where
  pub name : new.bytes.ghost_name ≡ old.bytes.ghost_name
  pub long : length new.bytes.now ≡ length old.bytes.now
  pub put_there : old.place + length bits ≤ 8 * length old.bytes.now → (accepted ≡ true) × (new.place ≡ old.place + length bits) × (new.bytes.now ≡ put old.place bits old.bytes.now)

-- writing bits from the start of a buffer; where there is room, the write is accepted and the buffer holds them
pub record Filled (accepted : Bool) (bits : List Bool) (old new : List ℕ) : Type 0 where
  pub held : bytes_for (length bits) ≤ length old → (accepted ≡ true) × (new ≡ holding bits old)

-- the answer to writing packed bits into a buffer of so many bytes: how many they take, or that these are too few
abbrev pub packed_to : List Bool → ℕ → Result ℕ TooShort
packed_to bits len = cond (nat_le (length (packed bits)) len) (Ok (length (packed bits))) (Err (record { needed = length (packed bits) }))
