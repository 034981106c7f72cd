-- Bytes read as a plan exactly when they are what it is written as. Assumes nothing.
use Rattle.std.proofs.Common.{◌≡◌, ℕ, ◌+◌, eqb, List, length, Ok, sym, ap, ◌∙◌, subst, arith, length-append, length-take}
use Rattle.std.proofs.lemmas.Bool.{eqb-true}
use Rattle.bits.specs.Bits.{numeral, bits_of, packed, AreBytes}
use Rattle.bits.specs.Fields.{ending, followed, after, refused_as}
use Rattle.bits.proofs.Laws.{Stands, stands_split, stands_join, packed_stands, packed_ends, packed_only, length-numeral, both_read, test_passed, lifted_read, same_answer, test_answered}
use Rattle.plan.specs.Layout.{plan_field, plan_at, ended, edition_one, read_plan, tree_bits, plan_bits, written}
use Rattle.plan.specs.Plans.{plan_tree}
use Rattle.plan.specs.Promises.{ReadsExactly, WrittenOnce}
use Rattle.plan.specs.Tree.{Tree, Lawful}
use Rattle.plan.specs.declared.record.Plan.{Plan}
use Rattle.plan.specs.declared.refusal.Refusal.TheVariants.{Unread}
use Rattle.plan.proofs.NodeBits.{plan_field_reads, plan_field_stands}
use Rattle.plan.proofs.TreeBits.{Grew, plan_read, plan_reads}

-- what was read stands in the bytes, whole, and the layout ends after it
record Whole (bytes : List ℕ) (t : Tree) : Type 0 where
  lawful : Lawful t
  stands : Stands (bits_of bytes) 0 (plan_bits t)
  ends : ending (bits_of bytes) (length (plan_bits t)) ≡ Ok tt

whole_of : (bytes : List ℕ) (t : Tree) (edition p q : ℕ) → edition ≡ 1 → p ≡ 0 + 4 → Stands (bits_of bytes) 0 (numeral 4 edition) → Grew (bits_of bytes) 32 0 p t q → ending (bits_of bytes) q ≡ Ok tt → Whole bytes t
whole_of bytes t edition p q one next first grew ends =
    let bits = bits_of bytes in
    let start = length-numeral 4 1 in
    let after_edition : p ≡ 0 + length (numeral 4 1) = omega arith in
    let long : q ≡ length (plan_bits t) = simp length-append (omega (arith, grew.next)) in
    record {
      lawful = record { shallow = grew.shallow; few = omega (arith, grew.few); named = grew.named };
      stands = stands_join bits 0 (numeral 4 1) (tree_bits t) (rw one at first) (subst (λ s. Stands bits s (tree_bits t)) after_edition grew.stands);
      ends = subst (λ s. ending bits s ≡ Ok tt) long ends;
    }

whole_read : (bytes : List ℕ) (t : Tree) → read_plan bytes ≡ Ok t → Whole bytes t
unfolding read_plan
whole_read bytes t h =
    let bits = bits_of bytes in
    let first = both_read (plan_field bits 0 4) (edition_one bits) t h in
    let at = plan_field_stands bits 0 4 first.0 first.1 first.2 in
    let edition = test_answered (eqb first.0 1) _ _ t first.3 in
    let tree = both_read (plan_at 32 bits 0 first.1) (ended bits) t edition.1 in
    let grew = plan_read bits 32 0 first.1 tree.0 tree.1 (omega arith) tree.2 in
    let last = test_passed (refused_as Unread (ending bits tree.1)) (Ok tree.0) t tree.3 in
    subst (Whole bytes) (same_answer last.2)
    (whole_of bytes tree.0 first.0 first.1 tree.1 (eqb-true first.0 1 edition.0) at.0 at.1 grew (lifted_read Unread (ending bits tree.1) tt last.1))

pub read_lawful : (bytes : List ℕ) (t : Tree) → read_plan bytes ≡ Ok t → Lawful t
read_lawful bytes t h = (whole_read bytes t h).lawful

written_reads : (t : Tree) → Lawful t → read_plan (written t) ≡ Ok t
unfolding read_plan written
written_reads t lawful =
    let bits = bits_of (packed (plan_bits t)) in
    let parts = stands_split bits 0 (numeral 4 1) (tree_bits t) (packed_stands (plan_bits t)) in
    let start : 0 + length (numeral 4 1) ≡ 4 = omega (arith, length-numeral 4 1) in
    let edition = plan_field_reads bits 0 4 1 (omega arith) parts.0 in
    let tree = plan_reads bits 32 0 4 t (subst (λ s. Stands bits s (tree_bits t)) start parts.1) lawful.shallow (omega (arith, lawful.few)) lawful.named in
    let long : 4 + length (tree_bits t) ≡ length (plan_bits t) = sym (length-append (numeral 4 1) (tree_bits t) ∙ ap (λ k. k + length (tree_bits t)) (length-numeral 4 1)) in
    let ends : ending bits (4 + length (tree_bits t)) ≡ Ok tt = subst (λ s. ending bits s ≡ Ok tt) (sym long) (packed_ends (plan_bits t)) in
    ap (λ r. followed r (edition_one bits)) edition ∙ ap (λ r. followed r (ended bits)) tree ∙ ap (λ r. after (refused_as Unread r) (Ok t)) ends

only_written : (bytes : List ℕ) → AreBytes bytes → (t : Tree) → read_plan bytes ≡ Ok t → Lawful t × (bytes ≡ written t)
unfolding written
only_written bytes small t h =
    let whole = whole_read bytes t h in (whole.lawful, packed_only bytes (plan_bits t) small whole.stands whole.ends)

pub reads_exactly : (bytes : List ℕ) → AreBytes bytes → ReadsExactly bytes
reads_exactly bytes small =
    record { only = only_written bytes small; back = λ t lawful same. ap read_plan same ∙ written_reads t lawful }

pub written_once : (t : Tree) → Lawful t → WrittenOnce t
written_once t lawful =
    record { back = written_reads t lawful; only = λ bytes small h. (only_written bytes small t h).1 }

-- a record's plan is lawful
pub plan_lawful : (p : Plan) → Lawful (plan_tree p)
plan_lawful p =
    record {
      shallow = p.shallow;
      few = rw p.whole (simp length-take (omega (arith, p.nodes.few)));
      named = p.named;
    }

pub plan_once : (p : Plan) → WrittenOnce (plan_tree p)
plan_once p = written_once (plan_tree p) (plan_lawful p)
