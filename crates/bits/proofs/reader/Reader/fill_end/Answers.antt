use Rattle.std.proofs.Common.{◌≡◌, ◌+◌, ◌-◌, ◌%◌, ◌<◌, ◌≤◌, ℕ, length, sym, ap, ◌∙◌, arith}
use Rattle.bits.specs.Bits.{bits_of}
use Rattle.bits.specs.Fields.{fill_end}
use Rattle.bits.proofs.Numbers.{length-bits_of}
use Rattle.bits.proofs.Steps.{fill_stops, fill_found, fill_goes_on}
use Rattle.bits.proofs.reader.Reader.fill_end.Goals as goal

-- a place within the byte is no first place of a byte, and the bits of whole bytes go on there
within : (p q : ℕ) → p ≤ q → q < p + (8 - p % 8) % 8 → q % 8 ≡ 0 → ⊥
within p q h k e = omega arith

whole : (p : ℕ) → (p + (8 - p % 8) % 8) % 8 ≡ 0
whole p = omega arith

pub loop-place-preserved : goal.loop-place-preserved
loop-place-preserved c =
    let bytes = c.args.self.now.bytes.now in
    let inside : c.loop-place.place < length (bits_of bytes) = omega (arith, length-bits_of bytes, c.loop-place-test.true, c.args.self.now.within) in
    fill_goes_on (bits_of bytes) c.loop-place.place (within _ _ c.loop-place.auto.place c.loop-place-test.true) inside (sym c.bit.ensures ∙ c.if-bit.false) ∙ c.loop-place.invariant

pub returns-then-bit : goal.returns-then-bit
returns-then-bit c =
    sym (fill_found (bits_of c.args.self.now.bytes.now) c.loop-place.place (sym c.bit.ensures ∙ c.if-bit.true)) ∙ c.loop-place.invariant

pub returns : goal.returns
returns c =
    let p = c.args.self.now.place in
    let bits = bits_of c.args.self.now.bytes.now in
    let end = p + (8 - p % 8) % 8 in
    let done : c.loop-place.place ≡ end = omega (arith, c.loop-place-test.false, c.loop-place.auto.place-end (omega arith)) in
    sym (fill_stops bits end (whole p)) ∙ ap (fill_end bits) (sym done) ∙ c.loop-place.invariant
