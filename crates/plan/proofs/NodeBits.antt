-- A node that is read stands there in bits, and one that stands there is read. Assumes nothing.
use Rattle.std.proofs.Common.{◌≡◌, ℕ, ◌+◌, ◌^◌, ◌<◌, Bool, true, false, cond, eqb, ◌≢◌, List, ◌++◌, length, Ok, Err, refl, ap, ◌∙◌, subst, arith, length-append}
use Rattle.std.proofs.lemmas.Bool.{eqb-true, eqb-false}
use Rattle.std.proofs.lemmas.Bool.Decides.{nat_tests}
use Rattle.bits.specs.Bits.{numeral}
use Rattle.bits.specs.Fields.{field, followed, refused_as}
use Rattle.bits.proofs.Laws.{Stands, stands_split, stands_join, field_reads, field_stands, length-numeral, both_read, lifted_read, not_refused, same_answer}
use Rattle.plan.specs.Layout.{plan_field, node_at, tagged_node, named_node, node_bits}
use Rattle.plan.specs.declared.node.Node.{Node}
use Rattle.plan.specs.declared.node.Node.TheVariants.{End, Order, Look}
use Rattle.plan.specs.declared.refusal.Refusal.TheVariants.{Unread, TooLarge}

two_four : (m n : ℕ) → length (numeral 2 m ++ numeral 4 n) ≡ 6
two_four m n = simp (length-append, length-numeral)

-- what is asked of a node below which d orders and looks may stand
abbrev pub Fits : ℕ → Node → Type 0
Fits d End = Unit {0}
Fits d (Order a) = (a < 16) × (0 < d)
Fits d (Look a) = (a < 16) × (0 < d)

pub record Read (bits : List Bool) (d n p : ℕ) (node : Node) (q : ℕ) : Type 0 where
  pub stands : Stands bits p (node_bits node)
  pub next : q ≡ p + length (node_bits node)
  pub room : n ≢ 255
  pub fits : Fits d node

module _ (bits : List Bool) where
  pub plan_field_reads : (p w n : ℕ) → n < 2 ^ w → Stands bits p (numeral w n) → plan_field bits p w ≡ Ok (n, p + w)
  unfolding plan_field
  plan_field_reads p w n small h = ap (refused_as Unread) (field_reads bits p w n small h)

  pub plan_field_stands : (p w n q : ℕ) → plan_field bits p w ≡ Ok (n, q) → (q ≡ p + w) × Stands bits p (numeral w n) × (n < 2 ^ w)
  unfolding plan_field
  plan_field_stands p w n q h = field_stands bits p w n q (lifted_read Unread (field bits p w) (n, q) h)

  end_read : (d n p tag r : ℕ) → tag ≡ 0 → r ≡ p + 2 → Stands bits p (numeral 2 tag) → n ≢ 255 → Read bits d n p End r
  end_read d n p tag r is next h room =
      record { stands = rw is at h; next = rw (length-numeral 2 0) next; room = room; fits = tt }

  action_stands : (p tag a : ℕ) → Stands bits p (numeral 2 tag) → Stands bits (p + 2) (numeral 4 a) → Stands bits p (numeral 2 tag ++ numeral 4 a)
  action_stands p tag a h k = stands_join bits p (numeral 2 tag) (numeral 4 a) h (rw (length-numeral 2 tag) k)

  order_read : (d n p a r : ℕ) → a < 16 → 0 < d → r ≡ p + 2 + 4 → Stands bits p (numeral 2 1 ++ numeral 4 a) → n ≢ 255 → Read bits d n p (Order a) r
  order_read d n p a r small deep next h room =
      record { stands = h; next = rw (two_four 1 a) (omega arith); room = room; fits = (small, deep) }

  look_read : (d n p a r : ℕ) → a < 16 → 0 < d → r ≡ p + 2 + 4 → Stands bits p (numeral 2 2 ++ numeral 4 a) → n ≢ 255 → Read bits d n p (Look a) r
  look_read d n p a r small deep next h room =
      record { stands = h; next = rw (two_four 2 a) (omega arith); room = room; fits = (small, deep) }

  by_kind : (d n p tag a r : ℕ) → a < 16 → 0 < d → r ≡ p + 2 + 4 → Stands bits p (numeral 2 tag ++ numeral 4 a) → n ≢ 255 → tag < 3 → tag ≢ 0 → (first : Bool) → eqb tag 1 ≡ first → Read bits d n p (cond first (Order a) (Look a)) r
  by_kind d n p tag a r small deep next h room few some true e =
      let one : tag ≡ 1 = eqb-true tag 1 e in
      order_read d n p a r small deep next (rw one at h) room
  by_kind d n p tag a r small deep next h room few some false e =
      let other = eqb-false tag 1 e in
      let two : tag ≡ 2 = omega arith in
      look_read d n p a r small deep next (rw two at h) room

  by_tag : (d n p : ℕ) (node : Node) (q tag r : ℕ) → r ≡ p + 2 → Stands bits p (numeral 2 tag) → tag < 4 → tag ≢ 3 → n ≢ 255 → (none : Bool) → eqb tag 0 ≡ none
      → cond none (Ok (End, r)) (cond (eqb d 0) (Err (TooLarge p)) (followed (plan_field bits r 4) (named_node tag))) ≡ Ok (node, q)
      → Read bits d n p node q
  by_tag d n p node q tag r next h small known room true e k =
      subst (λ x. Read bits d n p x.0 x.1) (same_answer k) (end_read d n p tag r (eqb-true tag 0 e) next h room)
  by_tag d n p node q tag r next h small known room false e k =
      let deep = not_refused (eqb d 0) _ _ (node, q) k in
      let named = both_read (plan_field bits r 4) (named_node tag) (node, q) deep.1 in
      let at = plan_field_stands r 4 named.0 named.1 named.2 in
      let some : 0 < d = omega (arith, eqb-false d 0 deep.0) in
      let all = action_stands p tag named.0 h (subst (λ s. Stands bits s (numeral 4 named.0)) next at.1) in
      subst (λ x. Read bits d n p x.0 x.1) (same_answer named.3)
      (by_kind d n p tag named.0 named.1 at.2 some (at.0 ∙ ap (λ s. s + 4) next) all room (omega arith) (eqb-false tag 0 e) (eqb tag 1) refl)

  -- a node read
  pub node_read : (d n p : ℕ) (node : Node) (q : ℕ) → node_at bits d n p ≡ Ok (node, q) → Read bits d n p node q
  node_read d n p node q h =
      let tagged = both_read (plan_field bits p 2) (tagged_node bits d n p) (node, q) h in
      let tag = tagged.0 in
      let at = plan_field_stands p 2 tag tagged.1 tagged.2 in
      let known = not_refused (eqb tag 3) _ _ (node, q) tagged.3 in
      let room = not_refused (eqb n 255) _ _ (node, q) known.1 in
      by_tag d n p node q tag tagged.1 at.0 at.1 at.2 (eqb-false tag 3 known.0) (eqb-false n 255 room.0) (eqb tag 0) refl room.1

  named_reads : (d n p tag a : ℕ) → tag < 3 → tag ≢ 0 → a < 16 → 0 < d → Stands bits p (numeral 2 tag ++ numeral 4 a) → n ≢ 255 → node_at bits d n p ≡ Ok (cond (eqb tag 1) (Order a) (Look a), p + length (numeral 2 tag ++ numeral 4 a))
  named_reads d n p tag a few some small deep h room =
      let parts = stands_split bits p (numeral 2 tag) (numeral 4 a) h in
      let later = rw (length-numeral 2 tag) at parts.1 in
      let all : p + 2 + 4 ≡ p + 6 = omega arith in
      rw (plan_field_reads p 2 tag (omega arith) parts.0, plan_field_reads (p + 2) 4 a small later, two_four tag a, all) (grind (arith, nat_tests))

  pub node_reads : (d n p : ℕ) (node : Node) → Stands bits p (node_bits node) → n ≢ 255 → Fits d node → node_at bits d n p ≡ Ok (node, p + length (node_bits node))
  node_reads d n p End h room fits = rw (plan_field_reads p 2 0 (omega arith) h, length-numeral 2 0) (grind (arith, nat_tests))
  node_reads d n p (Order a) h room fits = named_reads d n p 1 a (omega arith) (omega arith) fits.0 fits.1 h room
  node_reads d n p (Look a) h room fits = named_reads d n p 2 a (omega arith) (omega arith) fits.0 fits.1 h room
