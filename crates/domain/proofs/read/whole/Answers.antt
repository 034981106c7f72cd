use Rattle.std.proofs.Common.{◌≡◌, ℕ, List, Result, sym, ap, ◌∙◌, subst₂, Bor}
use Rattle.std.proofs.lemmas.Result.{err_from_is_err_and}
use Rattle.bits.specs.Bits.{bits_of}
use Rattle.bits.specs.Fields.{ending}
use Rattle.bits.specs.declared.refusal.Refusal as bits
use Rattle.domain.specs.Layout.{sheet_at}
use Rattle.domain.specs.Lists.{domain_field}
use Rattle.domain.specs.Rows.{holds, parts_sheet}
use Rattle.domain.specs.Sheet.{Sheet}
use Rattle.domain.specs.declared.refusal.Refusal.{Refusal}
use Rattle.domain.proofs.Exact.{reads_exactly, read_lawful}
use Rattle.domain.proofs.WaysOut.{edition_unread, wrong_edition, sheet_refused, all_read}
use Rattle.domain.proofs.read.whole.Goals as goal

-- the same reads, from the bytes themselves
edition_as : {r : Result (ℕ × ℕ) Refusal} {b b' : Bor (List ℕ)} {p p' : ℕ} → r ≡ domain_field (bits_of b.now) p 4 → b ≡ b' → p ≡ p' → domain_field (bits_of b'.now) p' 4 ≡ r
edition_as {r} h b p = sym (subst₂ (λ x y. r ≡ domain_field (bits_of x.now) y 4) b p h)

sheet_as : {r : Result (Sheet × ℕ) Refusal} {b b' : Bor (List ℕ)} {p p' : ℕ} → r ≡ sheet_at (bits_of b.now) p → b ≡ b' → p ≡ p' → sheet_at (bits_of b'.now) p' ≡ r
sheet_as {r} h b p = sym (subst₂ (λ x y. r ≡ sheet_at (bits_of x.now) y) b p h)

ending_as : (p q : ℕ) {r : Result (Unit {0}) bits.Refusal} {b b' : Bor (List ℕ)} → r ≡ ending (bits_of b.now) p → b ≡ b' → p ≡ q → ending (bits_of b'.now) q ≡ r
ending_as p q {r} h b k = sym (subst₂ (λ x y. r ≡ ending (bits_of x.now) y) b k h)

pub returns-in_err-edition : goal.returns-in_err-edition
returns-in_err-edition c =
    let p = err_from_is_err_and c.from_residual.result c.from_residual.ensures.1 in
    let field = edition_as c.field.ensures.value c.new-reader.ensures.bytes c.new-reader.ensures.place ∙ c.in_err-edition.was in
    rw (p.1, p.2) (record {
      value = sym (edition_unread c.args.bytes.now _ field);
      lawful = tt;
      exact = reads_exactly _ (λ i. (c.type_inv.bytes i).fits);
    })

pub returns-then-edition-ne1 : goal.returns-then-edition-ne1
returns-then-edition-ne1 c =
    let field = edition_as c.field.ensures.value c.new-reader.ensures.bytes c.new-reader.ensures.place ∙ c.in_ok-edition.was in
    record {
      value = sym (wrong_edition c.args.bytes.now _ _ field c.if-edition-ne1.true);
      lawful = tt;
      exact = reads_exactly _ (λ i. (c.type_inv.bytes i).fits);
    }

pub returns-in_err-parts : goal.returns-in_err-parts
returns-in_err-parts c =
    let p = err_from_is_err_and c.from_residual-in_err-parts.result c.from_residual-in_err-parts.ensures.1 in
    let field = edition_as c.field.ensures.value c.new-reader.ensures.bytes c.new-reader.ensures.place ∙ c.in_ok-edition.was in
    let same = c.field.ensures.moved.bytes ∙ c.new-reader.ensures.bytes in
    let sheet = sheet_as c.sheet.ensures.value same c.in_ok-edition.ensures.moved.place ∙ ap (holds parts_sheet) c.in_err-parts.was in
    rw (p.1, p.2) (record {
      value = sym (sheet_refused c.args.bytes.now _ _ _ field c.if-edition-ne1.false sheet);
      lawful = tt;
      exact = reads_exactly _ (λ i. (c.type_inv.bytes i).fits);
    })

pub returns-in_err-finish : goal.returns-in_err-finish
returns-in_err-finish c =
    let p = err_from_is_err_and c.from_residual-in_err-finish.result c.from_residual-in_err-finish.ensures.1 in
    let field = edition_as c.field.ensures.value c.new-reader.ensures.bytes c.new-reader.ensures.place ∙ c.in_ok-edition.was in
    let same = c.field.ensures.moved.bytes ∙ c.new-reader.ensures.bytes in
    let sheet = sheet_as c.sheet.ensures.value same c.in_ok-edition.ensures.moved.place ∙ ap (holds parts_sheet) c.in_ok-parts.was in
    let last = ending_as c.sheet.new.reader.place _ c.finish.ensures (c.sheet.ensures.moved.bytes ∙ same) c.in_ok-parts.ensures.moved.place ∙ c.in_err-finish.was in
    rw (p.1, p.2) (record {
      value = sym (all_read c.args.bytes.now _ _ _ _ field c.if-edition-ne1.false sheet last);
      lawful = tt;
      exact = reads_exactly _ (λ i. (c.type_inv.bytes i).fits);
    })

pub returns : goal.returns
returns c =
    let field = edition_as c.field.ensures.value c.new-reader.ensures.bytes c.new-reader.ensures.place ∙ c.in_ok-edition.was in
    let same = c.field.ensures.moved.bytes ∙ c.new-reader.ensures.bytes in
    let sheet = sheet_as c.sheet.ensures.value same c.in_ok-edition.ensures.moved.place ∙ ap (holds parts_sheet) c.in_ok-parts.was in
    let last = ending_as c.sheet.new.reader.place _ c.finish.ensures (c.sheet.ensures.moved.bytes ∙ same) c.in_ok-parts.ensures.moved.place ∙ c.in_ok-finish.was in
    let read = all_read c.args.bytes.now _ _ _ _ field c.if-edition-ne1.false sheet last in
    record {
      value = sym read;
      lawful = read_lawful c.args.bytes.now _ read;
      exact = reads_exactly _ (λ i. (c.type_inv.bytes i).fits);
    }
