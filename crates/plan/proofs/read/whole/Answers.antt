use Rattle.std.proofs.Common.{◌≡◌, ℕ, List, length, Result, sym, ap, ◌∙◌, subst, subst₂, Bor}
use Rattle.std.proofs.lemmas.Result.{err_from_is_err_and}
use Rattle.bits.specs.Bits.{bits_of}
use Rattle.bits.specs.Fields.{ending}
use Rattle.bits.specs.declared.refusal.Refusal as bits
use Rattle.plan.specs.Layout.{plan_field}
use Rattle.plan.specs.declared.refusal.Refusal.{Refusal}
use Rattle.plan.proofs.Adding.{read_as}
use Rattle.plan.proofs.Exact.{reads_exactly}
use Rattle.plan.proofs.WaysOut.{edition_unread, wrong_edition, plan_refused, all_read, whole_nodes}
use Rattle.plan.proofs.read.whole.Goals as goal

-- the first field, read from the start of the bytes
edition_as : {r : Result (ℕ × ℕ) Refusal} {b b' : Bor (List ℕ)} {p p' : ℕ} → r ≡ plan_field (bits_of b.now) p 4 → b ≡ b' → p ≡ p' → plan_field (bits_of b'.now) p' 4 ≡ r
edition_as {r} h b p = sym (subst₂ (λ x y. r ≡ plan_field (bits_of x.now) y 4) b p h)

ending_as : (p : ℕ) {r : Result (Unit {0}) bits.Refusal} {b b' : Bor (List ℕ)} → r ≡ ending (bits_of b.now) p → b ≡ b' → ending (bits_of b'.now) p ≡ r
ending_as p {r} h b = sym (subst (λ x. r ≡ ending (bits_of x.now) p) b h)

pub returns-in_err-edition : goal.returns-in_err-edition
returns-in_err-edition c =
    let p = err_from_is_err_and c.from_residual.result c.from_residual.ensures.1 in
    let field = edition_as c.field.ensures.value c.new-reader.ensures.bytes c.new-reader.ensures.place ∙ c.in_err-edition.was in
    rw (p.1, p.2) (record {
      value = sym (edition_unread c.args.bytes.now _ field);
      lawful = tt;
      exact = reads_exactly _ (λ i. (c.type_inv.bytes i).fits);
    })

pub returns-then-edition-ne1 : goal.returns-then-edition-ne1
returns-then-edition-ne1 c =
    let field = edition_as c.field.ensures.value c.new-reader.ensures.bytes c.new-reader.ensures.place ∙ c.in_ok-edition.was in
    record {
      value = sym (wrong_edition c.args.bytes.now _ _ field c.if-edition-ne1.true);
      lawful = tt;
      exact = reads_exactly _ (λ i. (c.type_inv.bytes i).fits);
    }

pub returns-in_err-subplan : goal.returns-in_err-subplan
returns-in_err-subplan c =
    let p = err_from_is_err_and c.from_residual-in_err-subplan.result c.from_residual-in_err-subplan.ensures.1 in
    let field = edition_as c.field.ensures.value c.new-reader.ensures.bytes c.new-reader.ensures.place ∙ c.in_ok-edition.was in
    let same = c.field.ensures.moved.bytes ∙ c.new-reader.ensures.bytes in
    let added = read_as 32 _ _ (ap (λ b. bits_of b.now) same) (ap length c.empty-nodes.ensures) c.in_ok-edition.ensures.moved.place c.in_err-subplan.was c.empty-nodes.ensures c.subplan.ensures.added in
    rw (p.1, p.2) (record {
      value = sym (plan_refused c.args.bytes.now _ _ _ _ _ field c.if-edition-ne1.false added);
      lawful = tt;
      exact = reads_exactly _ (λ i. (c.type_inv.bytes i).fits);
    })

pub returns-in_err-finish : goal.returns-in_err-finish
returns-in_err-finish c =
    let p = err_from_is_err_and c.from_residual-in_err-finish.result c.from_residual-in_err-finish.ensures.1 in
    let field = edition_as c.field.ensures.value c.new-reader.ensures.bytes c.new-reader.ensures.place ∙ c.in_ok-edition.was in
    let same = c.field.ensures.moved.bytes ∙ c.new-reader.ensures.bytes in
    let added = read_as 32 _ _ (ap (λ b. bits_of b.now) same) (ap length c.empty-nodes.ensures) c.in_ok-edition.ensures.moved.place c.in_ok-subplan.was c.empty-nodes.ensures c.subplan.ensures.added in
    let last = ending_as c.subplan.new.reader.place c.finish.ensures (c.subplan.ensures.bytes ∙ same) ∙ c.in_err-finish.was in
    rw (p.1, p.2) (record {
      value = sym (all_read c.args.bytes.now _ _ _ _ field c.if-edition-ne1.false added last);
      lawful = tt;
      exact = reads_exactly _ (λ i. (c.type_inv.bytes i).fits);
    })

pub returns : goal.returns
returns c =
    let field = edition_as c.field.ensures.value c.new-reader.ensures.bytes c.new-reader.ensures.place ∙ c.in_ok-edition.was in
    let same = c.field.ensures.moved.bytes ∙ c.new-reader.ensures.bytes in
    let added = read_as 32 _ _ (ap (λ b. bits_of b.now) same) (ap length c.empty-nodes.ensures) c.in_ok-edition.ensures.moved.place c.in_ok-subplan.was c.empty-nodes.ensures c.subplan.ensures.added in
    let last = ending_as c.subplan.new.reader.place c.finish.ensures (c.subplan.ensures.bytes ∙ same) ∙ c.in_ok-finish.was in
    let read = all_read c.args.bytes.now _ _ _ _ field c.if-edition-ne1.false added last in
    record {
      value = sym read;
      lawful = whole_nodes c.args.bytes.now _ _ _ _ _ added read;
      exact = reads_exactly _ (λ i. (c.type_inv.bytes i).fits);
    }
