-- Bytes read as a sheet exactly when they are what it is written as. Assumes nothing.
use Rattle.std.proofs.Common.{◌≡◌, ℕ, ◌+◌, true, eqb, List, length, Ok, sym, ap, ◌∙◌, subst, arith, length-append}
use Rattle.std.proofs.lemmas.Bool.{eqb-true}
use Rattle.bits.specs.Bits.{numeral, bits_of, packed, AreBytes}
use Rattle.bits.specs.Fields.{ending, followed, after, refused_as}
use Rattle.bits.proofs.Laws.{Stands, stands_split, stands_join, packed_stands, packed_ends, packed_only, both_read, test_passed, lifted_read, same_answer, test_answered}
use Rattle.domain.specs.Layout.{sheet_at, ended, edition_one, read_domain, sheet_bits, domain_bits, written}
use Rattle.domain.specs.Lists.{domain_field}
use Rattle.domain.specs.Promises.{ReadsExactly, WrittenOnce}
use Rattle.domain.specs.Sheet.{Sheet, lawful}
use Rattle.domain.specs.declared.refusal.Refusal.TheVariants.{Unread}
use Rattle.domain.proofs.ListBits.{domain_field_piece}
use Rattle.domain.proofs.SheetBits.{sheet_piece}

-- what was read stands in the bytes, whole, and the layout ends after it
record Whole (bytes : List ℕ) (d : Sheet) : Type 0 where
  is_lawful : lawful d ≡ true
  stands : Stands (bits_of bytes) 0 (domain_bits d)
  ends : ending (bits_of bytes) (length (domain_bits d)) ≡ Ok tt

whole_of : (bytes : List ℕ) (d : Sheet) (edition p q : ℕ) → edition ≡ 1 → p ≡ 0 + length (numeral 4 edition) → Stands (bits_of bytes) 0 (numeral 4 edition) → lawful d ≡ true → Stands (bits_of bytes) p (sheet_bits d) → q ≡ p + length (sheet_bits d) → ending (bits_of bytes) q ≡ Ok tt → Whole bytes d
whole_of bytes d edition p q one next first ok rest long ends =
    let bits = bits_of bytes in
    let start : p ≡ 0 + length (numeral 4 1) = rw one at next in
    let all : q ≡ length (domain_bits d) = long ∙ ap (λ k. k + length (sheet_bits d)) start ∙ simp length-append (omega arith) in
    record {
      is_lawful = ok;
      stands = stands_join bits 0 (numeral 4 1) (sheet_bits d) (rw one at first) (subst (λ s. Stands bits s (sheet_bits d)) start rest);
      ends = subst (λ s. ending bits s ≡ Ok tt) all ends;
    }

whole_read : (bytes : List ℕ) (d : Sheet) → read_domain bytes ≡ Ok d → Whole bytes d
unfolding read_domain
whole_read bytes d h =
    let bits = bits_of bytes in
    let first = both_read (domain_field bits 0 4) (edition_one bits) d h in
    let at = (domain_field_piece 4).stands bits 0 first.0 first.1 (omega arith) first.2 in
    let edition = test_answered (eqb first.0 1) _ _ d first.3 in
    let sheet = both_read (sheet_at bits first.1) (ended bits) d edition.1 in
    let told = sheet_piece.stands bits first.1 sheet.0 sheet.1 (omega (arith, at.1.fits, at.2)) sheet.2 in
    let last = test_passed (refused_as Unread (ending bits sheet.1)) (Ok sheet.0) d sheet.3 in
    subst (Whole bytes) (same_answer last.2)
    (whole_of bytes sheet.0 first.0 first.1 sheet.1 (eqb-true first.0 1 edition.0) at.2 at.1 told.0 told.1 told.2 (lifted_read Unread (ending bits sheet.1) tt last.1))

pub read_lawful : (bytes : List ℕ) (d : Sheet) → read_domain bytes ≡ Ok d → lawful d ≡ true
read_lawful bytes d h = (whole_read bytes d h).is_lawful

written_reads : (d : Sheet) → lawful d ≡ true → read_domain (written d) ≡ Ok d
unfolding read_domain written
written_reads d ok =
    let bits = bits_of (packed (domain_bits d)) in
    let parts = stands_split bits 0 (numeral 4 1) (sheet_bits d) (packed_stands (domain_bits d)) in
    let edition = (domain_field_piece 4).reads bits 0 1 (omega arith) parts.0 in
    let sheet = sheet_piece.reads bits (0 + length (numeral 4 1)) d ok parts.1 in
    let long : 0 + length (numeral 4 1) + length (sheet_bits d) ≡ length (domain_bits d) = simp length-append (omega arith) in
    let ends : ending bits (0 + length (numeral 4 1) + length (sheet_bits d)) ≡ Ok tt = subst (λ s. ending bits s ≡ Ok tt) (sym long) (packed_ends (domain_bits d)) in
    ap (λ r. followed r (edition_one bits)) edition ∙ ap (λ r. followed r (ended bits)) sheet ∙ ap (λ r. after (refused_as Unread r) (Ok d)) ends

only_written : (bytes : List ℕ) → AreBytes bytes → (d : Sheet) → read_domain bytes ≡ Ok d → (lawful d ≡ true) × (bytes ≡ written d)
unfolding written
only_written bytes small d h =
    let whole = whole_read bytes d h in (whole.is_lawful, packed_only bytes (domain_bits d) small whole.stands whole.ends)

pub reads_exactly : (bytes : List ℕ) → AreBytes bytes → ReadsExactly bytes
reads_exactly bytes small =
    record { only = only_written bytes small; back = λ d ok same. ap read_domain same ∙ written_reads d ok }

pub written_once : (d : Sheet) → lawful d ≡ true → WrittenOnce d
written_once d ok = record { back = written_reads d ok; only = λ bytes small h. (only_written bytes small d h).1 }
