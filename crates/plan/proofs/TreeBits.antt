-- A plan that is read stands there in bits and is lawful, and a lawful one that stands there is read. Assumes nothing.
use Rattle.std.proofs.Common.{◌≡◌, ℕ, zero, suc, ◌+◌, ◌-◌, ◌≤◌, Bool, true, ◌&&◌, ltb, List, [], ◌++◌, length, Ok, Err, Result, refl, ap, ◌∙◌, subst, append_assoc, append-nil, arith, length-append}
use Rattle.std.proofs.lemmas.Bool.{and_parts, and_from, ltb-true, lt-ltb}
use Rattle.bits.specs.Fields.{followed}
use Rattle.bits.proofs.Laws.{Stands, stands_split, stands_join, both_read, same_answer, joined-append}
use Rattle.plan.specs.Layout.{node_at, plan_at, under, ordered, looked, looked_no, node_bits, tree_bits}
use Rattle.plan.specs.Tree.{Tree, end, order, look, nodes_of, size, depth, small_actions, grown, tree_of}
use Rattle.plan.specs.declared.node.Node.{Node}
use Rattle.plan.specs.declared.node.Node.TheVariants.{End, Order, Look}
use Rattle.plan.specs.declared.refusal.Refusal.{Refusal}
use Rattle.plan.proofs.NodeBits.{Fits, Read, node_read, node_reads}

-- the bits of a plan, part by part
end_bits : tree_bits end ≡ node_bits End
end_bits = append-nil (node_bits End)

look_bits : (a : ℕ) (y t : Tree) → tree_bits (look a y t) ≡ node_bits (Look a) ++ (tree_bits y ++ tree_bits t)
look_bits a y t = ap (λ l. node_bits (Look a) ++ l) (joined-append node_bits (nodes_of y) (nodes_of t))

pub record Grew (bits : List Bool) (d n p : ℕ) (t : Tree) (q : ℕ) : Type 0 where
  pub stands : Stands bits p (tree_bits t)
  pub next : q ≡ p + length (tree_bits t)
  pub shallow : depth t ≤ d
  pub few : n + size t ≤ 255
  pub named : small_actions t ≡ true

module _ (bits : List Bool) where
  end_grew : (d n p q : ℕ) → n ≤ 255 → Read bits d n p End q → Grew bits d n p end q
  end_grew d n p q most r =
      record {
        stands = rw end_bits r.stands;
        next = rw end_bits r.next;
        shallow = omega arith;
        few = omega (arith, r.room);
        named = refl;
      }

  order_grew : (d n p q r a : ℕ) (t : Tree) → Read bits (suc d) n p (Order a) r → Grew bits d (n + 1) r t q → Grew bits (suc d) n p (order a t) q
  order_grew d n p q r a t first rest =
      record {
        stands = stands_join bits p (node_bits (Order a)) (tree_bits t) first.stands (subst (λ s. Stands bits s (tree_bits t)) first.next rest.stands);
        next = rest.next ∙ rw (length-append (node_bits (Order a)) (tree_bits t)) (omega (arith, first.next));
        shallow = omega (arith, rest.shallow);
        few = omega (arith, rest.few);
        named = and_from _ _ (lt-ltb a 16 first.fits.0) rest.named;
      }

  look_grew : (d n p q r s a : ℕ) (y t : Tree) → Read bits (suc d) n p (Look a) r → Grew bits d (n + 1) r y s → Grew bits d (n + 1 + size y) s t q → Grew bits (suc d) n p (look a y t) q
  look_grew d n p q r s a y t first yes_part no_part =
      let under_yes : Stands bits (p + length (node_bits (Look a))) (tree_bits y) = subst (λ s. Stands bits s (tree_bits y)) first.next yes_part.stands in
      let at_no : s ≡ p + length (node_bits (Look a)) + length (tree_bits y) = omega (arith, first.next, yes_part.next) in
      let under_no : Stands bits (p + length (node_bits (Look a)) + length (tree_bits y)) (tree_bits t) = subst (λ s. Stands bits s (tree_bits t)) at_no no_part.stands in
      let parts = stands_join bits (p + length (node_bits (Look a))) (tree_bits y) (tree_bits t) under_yes under_no in
      let long : length (tree_bits (look a y t)) ≡ length (node_bits (Look a)) + (length (tree_bits y) + length (tree_bits t)) = rw (look_bits a y t) (simp length-append) in
      let many : size (look a y t) ≡ suc (size y + size t) = ap suc (length-append (nodes_of y) (nodes_of t)) in
      record {
        stands = rw (look_bits a y t) (stands_join bits p (node_bits (Look a)) (tree_bits y ++ tree_bits t) first.stands parts);
        next = omega (arith, no_part.next);
        shallow = omega (arith, yes_part.shallow, no_part.shallow);
        few = omega (arith, no_part.few);
        named = and_from _ _ (lt-ltb a 16 first.fits.0) (and_from _ _ yes_part.named no_part.named);
      }

  -- with room for no order or look, only an end is read
  last_read : (n p : ℕ) (t : Tree) (q : ℕ) → n ≤ 255 → (node : Node) (r : ℕ) → Read bits 0 n p node r → ◌≡◌ {A = Tree × ℕ} (end, r) (t, q) → Grew bits 0 n p t q
  last_read n p t q most End r read same = subst (λ x. Grew bits 0 n p x.0 x.1) same (end_grew 0 n p r most read)
  last_read n p t q most (Order a) r read same = absurd (omega (arith, read.fits.1))
  last_read n p t q most (Look a) r read same = absurd (omega (arith, read.fits.1))

  -- what is read under a node, once the plans below are known to stand there
  under_read : (d : ℕ) → ((n p : ℕ) (t : Tree) (q : ℕ) → n ≤ 255 → plan_at d bits n p ≡ Ok (t, q) → Grew bits d n p t q)
      → (n p : ℕ) (t : Tree) (q : ℕ) → n ≤ 255 → (node : Node) (r : ℕ) → Read bits (suc d) n p node r → under (plan_at d bits) n node r ≡ Ok (t, q) → Grew bits (suc d) n p t q
  under_read d below n p t q most End r read h = subst (λ x. Grew bits (suc d) n p x.0 x.1) (same_answer h) (end_grew (suc d) n p r most read)
  under_read d below n p t q most (Order a) r read h =
      let rest = both_read (plan_at d bits (n + 1) r) (ordered a) (t, q) h in
      let grew = below (n + 1) r rest.0 rest.1 (omega (arith, read.room)) rest.2 in
      subst (λ x. Grew bits (suc d) n p x.0 x.1) (same_answer rest.3) (order_grew d n p rest.1 r a rest.0 read grew)
  under_read d below n p t q most (Look a) r read h =
      let first = both_read (plan_at d bits (n + 1) r) (looked_no (plan_at d bits) n a) (t, q) h in
      let grew = below (n + 1) r first.0 first.1 (omega (arith, read.room)) first.2 in
      let second = both_read (plan_at d bits (n + 1 + size first.0) first.1) (looked a first.0) (t, q) first.3 in
      let grew_no = below (n + 1 + size first.0) first.1 second.0 second.1 grew.few second.2 in
      subst (λ x. Grew bits (suc d) n p x.0 x.1) (same_answer second.3) (look_grew d n p second.1 r first.1 a first.0 second.0 read grew grew_no)

  -- a plan read
  pub plan_read : (d n p : ℕ) (t : Tree) (q : ℕ) → n ≤ 255 → plan_at d bits n p ≡ Ok (t, q) → Grew bits d n p t q
  unfolding plan_at
  plan_read zero n p t q most h =
      let first = both_read (node_at bits 0 n p) (λ _ r. Ok (end, r)) (t, q) h in
      last_read n p t q most first.0 first.1 (node_read bits 0 n p first.0 first.1 first.2) (same_answer first.3)
  plan_read (suc d) n p t q most h =
      let first = both_read (node_at bits (suc d) n p) (under (plan_at d bits) n) (t, q) h in
      under_read d (plan_read d) n p t q most first.0 first.1 (node_read bits (suc d) n p first.0 first.1 first.2) first.3

  -- a lawful plan that stands there is read
  pub plan_reads : (d n p : ℕ) (t : Tree) → Stands bits p (tree_bits t) → depth t ≤ d → n + size t ≤ 255 → small_actions t ≡ true → plan_at d bits n p ≡ Ok (t, p + length (tree_bits t))
  unfolding plan_at
  plan_reads zero n p end h shallow few named = rw (node_reads bits 0 n p End (rw end_bits at h) (omega arith) tt, end_bits)
  plan_reads zero n p (order a t) h shallow few named = absurd (omega arith)
  plan_reads zero n p (look a y t) h shallow few named = absurd (omega arith)
  plan_reads (suc d) n p end h shallow few named = rw (node_reads bits (suc d) n p End (rw end_bits at h) (omega arith) tt, end_bits)
  plan_reads (suc d) n p (order a t) h shallow few named =
      let fits = and_parts (ltb a 16) (small_actions t) named in
      let parts = stands_split bits p (node_bits (Order a)) (tree_bits t) h in
      let node = node_reads bits (suc d) n p (Order a) parts.0 (omega arith) (ltb-true a 16 fits.0, omega arith) in
      let rest = plan_reads d (n + 1) (p + length (node_bits (Order a))) t parts.1 (omega arith) (omega arith) fits.1 in
      let long : p + length (node_bits (Order a)) + length (tree_bits t) ≡ p + length (node_bits (Order a) ++ tree_bits t) = simp length-append (omega arith) in
      rw (node, rest, long)
  plan_reads (suc d) n p (look a y t) h shallow few named =
      let fits = and_parts (ltb a 16) (small_actions y && small_actions t) named in
      let both = and_parts (small_actions y) (small_actions t) fits.1 in
      let many : size (look a y t) ≡ suc (size y + size t) = ap suc (length-append (nodes_of y) (nodes_of t)) in
      let parts = stands_split bits p (node_bits (Look a)) (tree_bits y ++ tree_bits t) (rw (look_bits a y t) at h) in
      let ways = stands_split bits (p + length (node_bits (Look a))) (tree_bits y) (tree_bits t) parts.1 in
      let node = node_reads bits (suc d) n p (Look a) parts.0 (omega arith) (ltb-true a 16 fits.0, omega arith) in
      let first = plan_reads d (n + 1) (p + length (node_bits (Look a))) y ways.0 (omega arith) (omega arith) both.0 in
      let second = plan_reads d (n + 1 + size y) (p + length (node_bits (Look a)) + length (tree_bits y)) t ways.1 (omega arith) (omega arith) both.1 in
      let long : p + length (node_bits (Look a)) + length (tree_bits y) + length (tree_bits t) ≡ p + length (tree_bits (look a y t)) = rw (look_bits a y t) (simp length-append (omega arith)) in
      rw (node, first, second, long)

-- nodes that begin with those of a plan begin with that plan
grown_nodes : (k : ℕ) (t : Tree) (rest : List Node) → size t ≤ k → grown k (nodes_of t ++ rest) ≡ (t, rest)
unfolding grown
grown_nodes zero end rest h = absurd (omega arith)
grown_nodes zero (order a t) rest h = absurd (omega arith)
grown_nodes zero (look a y t) rest h = absurd (omega arith)
grown_nodes (suc k) end rest h = refl
grown_nodes (suc k) (order a t) rest h = rw (grown_nodes k t rest (omega arith))
grown_nodes (suc k) (look a y t) rest h =
    let many : length (nodes_of y ++ nodes_of t) ≡ size y + size t = length-append (nodes_of y) (nodes_of t) in
    rw (append_assoc (nodes_of y) (nodes_of t) rest, grown_nodes k y (nodes_of t ++ rest) (omega arith), grown_nodes k t rest (omega arith))

pub tree_of_nodes : (t : Tree) → tree_of (nodes_of t) ≡ t
unfolding tree_of
tree_of_nodes t =
    let all = rw (append-nil (nodes_of t)) at (grown_nodes (size t) t [] (omega arith)) in
    ap (λ x. x.0) all

-- with room for no order or look, a node is an end
same_last : (below : ℕ → ℕ → Result (Tree × ℕ) Refusal) (n : ℕ) (node : Node) (q : ℕ) → Fits 0 node → Ok (end, q) ≡ under below n node q
same_last below n End q fits = refl
same_last below n (Order a) q fits = absurd (omega (arith, fits.1))
same_last below n (Look a) q fits = absurd (omega (arith, fits.1))

last_step : (below : ℕ → ℕ → Result (Tree × ℕ) Refusal) (n : ℕ) (r : Result (Node × ℕ) Refusal) → ((node : Node) (q : ℕ) → r ≡ Ok (node, q) → Fits 0 node) → followed r (λ _ q. Ok (end, q)) ≡ followed r (under below n)
last_step below n (Ok x) fits = same_last below n x.0 x.1 (fits x.0 x.1 refl)
last_step below n (Err e) fits = refl

-- a plan is its first node and what comes under it, with room for one order or look less
pub plan_step : (bits : List Bool) (d n p : ℕ) → plan_at d bits n p ≡ followed (node_at bits d n p) (under (plan_at (d - 1) bits) n)
unfolding plan_at
plan_step bits zero n p = last_step (plan_at (0 - 1) bits) n (node_at bits 0 n p) (λ node q h. (node_read bits 0 n p node q h).fits)
plan_step bits (suc d) n p = let less : suc d - 1 ≡ d = omega arith in rw less
