-- What bytes read as, at each way out of the reader. Assumes nothing.
use Rattle.std.proofs.Common.{◌≡◌, ℕ, cond, ◌≢◌, List, [], Ok, Err, Result, ap, ◌∙◌, arith}
use Rattle.std.proofs.lemmas.Bool.{eq-eqb, ne_eqb}
use Rattle.bits.specs.Bits.{bits_of}
use Rattle.bits.specs.Fields.{ending, followed, after, refused_as}
use Rattle.bits.specs.declared.refusal.Refusal as bits
use Rattle.plan.specs.Layout.{plan_field, plan_at, ended, edition_one, read_plan}
use Rattle.plan.specs.Reading.{Added}
use Rattle.plan.specs.Tree.{Tree, Whole, nodes_of, tree_of}
use Rattle.plan.specs.declared.node.Node.{Node}
use Rattle.plan.specs.declared.refusal.Refusal.{Refusal}
use Rattle.plan.specs.declared.refusal.Refusal.TheVariants.{Unread, Edition}
use Rattle.plan.proofs.Exact.{read_lawful}
use Rattle.plan.proofs.TreeBits.{tree_of_nodes}

module _ (bytes : List ℕ) where
  pub edition_unread : (e : Refusal) → plan_field (bits_of bytes) 0 4 ≡ Err e → read_plan bytes ≡ Err e
  unfolding read_plan
  edition_unread e h = ap (λ r. followed r (edition_one (bits_of bytes))) h

  pub wrong_edition : (v q : ℕ) → plan_field (bits_of bytes) 0 4 ≡ Ok (v, q) → v ≢ 1 → read_plan bytes ≡ Err (Edition 0)
  unfolding read_plan
  wrong_edition v q h other =
      ap (λ r. followed r (edition_one (bits_of bytes))) h ∙ ap (λ b. cond b (followed (plan_at 32 (bits_of bytes) 0 q) (ended (bits_of bytes))) (Err (Edition 0))) (ne_eqb v 1 other)

  -- after edition 1 stands the plan
  after_edition : (v q : ℕ) → plan_field (bits_of bytes) 0 4 ≡ Ok (v, q) → v ≡ 1 → read_plan bytes ≡ followed (plan_at 32 (bits_of bytes) 0 q) (ended (bits_of bytes))
  unfolding read_plan
  after_edition v q h one =
      ap (λ r. followed r (edition_one (bits_of bytes))) h ∙ ap (λ b. cond b (followed (plan_at 32 (bits_of bytes) 0 q) (ended (bits_of bytes))) (Err (Edition 0))) (eq-eqb v 1 one)

  refused_plan : (e : Refusal) (later : List Node) (place : ℕ) (r : Result (Tree × ℕ) Refusal) → Added r (Err e) [] later place → followed r (ended (bits_of bytes)) ≡ Err e
  refused_plan e later place (Ok x) h = let z : ◌≡◌ {A = ℕ} 0 1 = cc h.0 in absurd (omega arith)
  refused_plan e later place (Err f) h = ap Err (cc h)

  pub plan_refused : (v q : ℕ) (e : Refusal) (later : List Node) (place : ℕ) → plan_field (bits_of bytes) 0 4 ≡ Ok (v, q) → v ≡ 1 → Added (plan_at 32 (bits_of bytes) 0 q) (Err e) [] later place → read_plan bytes ≡ Err e
  plan_refused v q e later place h one added = after_edition v q h one ∙ refused_plan e later place (plan_at 32 (bits_of bytes) 0 q) added

  -- the nodes that were added are those of the plan
  plan_ended : (later : List Node) (place : ℕ) (r : Result (Tree × ℕ) Refusal) → Added r (Ok tt) [] later place → followed r (ended (bits_of bytes)) ≡ after (refused_as Unread (ending (bits_of bytes) place)) (Ok (tree_of later))
  plan_ended later place (Ok x) h =
      rw (h.1, h.2, tree_of_nodes x.0)
  plan_ended later place (Err f) h = let z : ◌≡◌ {A = ℕ} 0 1 = cc h in absurd (omega arith)

  pub all_read : (v q : ℕ) (later : List Node) (place : ℕ) {r : Result (Unit {0}) bits.Refusal} → plan_field (bits_of bytes) 0 4 ≡ Ok (v, q) → v ≡ 1 → Added (plan_at 32 (bits_of bytes) 0 q) (Ok tt) [] later place → ending (bits_of bytes) place ≡ r → read_plan bytes ≡ after (refused_as Unread r) (Ok (tree_of later))
  all_read v q later place h one added last =
      after_edition v q h one ∙ plan_ended later place (plan_at 32 (bits_of bytes) 0 q) added ∙ ap (λ r. after (refused_as Unread r) (Ok (tree_of later))) last

  spelled_again : (later : List Node) (place : ℕ) (r : Result (Tree × ℕ) Refusal) → Added r (Ok tt) [] later place → nodes_of (tree_of later) ≡ later
  spelled_again later place (Ok x) h = rw (h.1, tree_of_nodes x.0)
  spelled_again later place (Err f) h = let z : ◌≡◌ {A = ℕ} 0 1 = cc h in absurd (omega arith)

  pub whole_nodes : (d n q : ℕ) (later : List Node) (place : ℕ) → Added (plan_at d (bits_of bytes) n q) (Ok tt) [] later place → read_plan bytes ≡ Ok (tree_of later) → Whole later
  whole_nodes d n q later place added read =
      let lawful = read_lawful bytes (tree_of later) read in
      record { whole = spelled_again later place (plan_at d (bits_of bytes) n q) added; shallow = lawful.shallow; named = lawful.named }
