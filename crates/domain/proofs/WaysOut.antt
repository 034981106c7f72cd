-- What bytes read as, at each way out of the reader. Assumes nothing.
use Rattle.std.proofs.Common.{◌≡◌, ℕ, Bool, true, false, cond, eqb, ◌≢◌, List, Ok, Err, Result, ap, ◌∙◌}
use Rattle.std.proofs.lemmas.Bool.{eq-eqb, ne_eqb}
use Rattle.bits.specs.Bits.{bits_of}
use Rattle.bits.specs.Fields.{ending, followed, after, refused_as}
use Rattle.bits.specs.declared.refusal.Refusal as bits
use Rattle.domain.specs.Layout.{sheet_at, ended, edition_one, read_domain}
use Rattle.domain.specs.Lists.{domain_field}
use Rattle.domain.specs.Sheet.{Sheet}
use Rattle.domain.specs.declared.refusal.Refusal.{Refusal}
use Rattle.domain.specs.declared.refusal.Refusal.TheVariants.{Unread, Edition}

module _ (bytes : List ℕ) where
  pub edition_unread : (e : Refusal) → domain_field (bits_of bytes) 0 4 ≡ Err e → read_domain bytes ≡ Err e
  unfolding read_domain
  edition_unread e h = ap (λ r. followed r (edition_one (bits_of bytes))) h

  -- whether the edition is 1
  by_edition : (v q : ℕ) (b : Bool) → domain_field (bits_of bytes) 0 4 ≡ Ok (v, q) → eqb v 1 ≡ b → read_domain bytes ≡ cond b (followed (sheet_at (bits_of bytes) q) (ended (bits_of bytes))) (Err (Edition 0))
  unfolding read_domain
  by_edition v q b h e =
      ap (λ r. followed r (edition_one (bits_of bytes))) h ∙ ap (λ t. cond t (followed (sheet_at (bits_of bytes) q) (ended (bits_of bytes))) (Err (Edition 0))) e

  pub wrong_edition : (v q : ℕ) → domain_field (bits_of bytes) 0 4 ≡ Ok (v, q) → v ≢ 1 → read_domain bytes ≡ Err (Edition 0)
  wrong_edition v q h other = by_edition v q false h (ne_eqb v 1 other)

  pub sheet_refused : (v q : ℕ) (e : Refusal) → domain_field (bits_of bytes) 0 4 ≡ Ok (v, q) → v ≡ 1 → sheet_at (bits_of bytes) q ≡ Err e → read_domain bytes ≡ Err e
  sheet_refused v q e h one sheet = by_edition v q true h (eq-eqb v 1 one) ∙ ap (λ r. followed r (ended (bits_of bytes))) sheet

  pub all_read : (v q : ℕ) (d : Sheet) (place : ℕ) {r : Result (Unit {0}) bits.Refusal} → domain_field (bits_of bytes) 0 4 ≡ Ok (v, q) → v ≡ 1 → sheet_at (bits_of bytes) q ≡ Ok (d, place) → ending (bits_of bytes) place ≡ r → read_domain bytes ≡ after (refused_as Unread r) (Ok d)
  all_read v q d place h one sheet last =
      by_edition v q true h (eq-eqb v 1 one) ∙ ap (λ r. followed r (ended (bits_of bytes))) sheet ∙ ap (λ r. after (refused_as Unread r) (Ok d)) last
