-- What the recursive reader adds, from what it adds under its first node. Assumes nothing.
use Rattle.std.proofs.Common.{◌≡◌, ℕ, ◌+◌, ◌-◌, Bool, List, [], ◌∷◌, ◌++◌, length, Ok, Err, Result, sym, ap, ◌∙◌, subst, subst₂, append_assoc, arith, length-append}
use mathlib.Core.Path.{subst₃}
use Rattle.bits.specs.Fields.{followed}
use Rattle.plan.specs.Layout.{node_at, plan_at, under, ordered, looked, looked_no}
use Rattle.plan.specs.Reading.{Added}
use Rattle.plan.specs.Tree.{Tree, nodes_of, size}
use Rattle.plan.specs.declared.node.Node.{Node}
use Rattle.plan.specs.declared.node.Node.TheVariants.{End, Order, Look}
use Rattle.plan.specs.declared.refusal.Refusal.{Refusal}
use Rattle.plan.proofs.TreeBits.{plan_step}

module _ (bits : List Bool) (d n p : ℕ) (answer : Result (Unit {0}) Refusal) (before later : List Node) (place : ℕ) where
  -- the plan's reading, once its first node's is known
  from_node : {r : Result (Node × ℕ) Refusal} → node_at bits d n p ≡ r → Added (followed r (under (plan_at (d - 1) bits) n)) answer before later place → Added (plan_at d bits n p) answer before later place
  from_node e h = subst (λ x. Added x answer before later place) (sym (plan_step bits d n p ∙ ap (λ r. followed r (under (plan_at (d - 1) bits) n)) e)) h

  pub added_refused : (e : Refusal) → node_at bits d n p ≡ Err e → answer ≡ Err e → Added (plan_at d bits n p) answer before later place
  added_refused e node same = from_node node same

  pub added_end : (q : ℕ) → node_at bits d n p ≡ Ok (End, q) → answer ≡ Ok tt → later ≡ before ++ End ∷ [] → place ≡ q → Added (plan_at d bits n p) answer before later place
  added_end q node accepted nodes next = from_node node (accepted, nodes, next)

  under_order : (a : ℕ) (mid : List Node) → mid ≡ before ++ Order a ∷ [] → (r : Result (Tree × ℕ) Refusal) → Added r answer mid later place → Added (followed r (ordered a)) answer before later place
  under_order a mid grew (Ok x) h =
      (h.0, h.1 ∙ ap (λ l. l ++ nodes_of x.0) grew ∙ append_assoc before (Order a ∷ []) (nodes_of x.0), h.2)
  under_order a mid grew (Err e) h = h

  pub added_order : (a q : ℕ) (mid : List Node) → node_at bits d n p ≡ Ok (Order a, q) → mid ≡ before ++ Order a ∷ [] → Added (plan_at (d - 1) bits (n + 1) q) answer mid later place → Added (plan_at d bits n p) answer before later place
  added_order a q mid node grew h = from_node node (under_order a mid grew (plan_at (d - 1) bits (n + 1) q) h)

  under_look_refused : (f : Tree → ℕ → Result (Tree × ℕ) Refusal) (e : Refusal) (mid next : List Node) (s : ℕ) → answer ≡ Err e → (r : Result (Tree × ℕ) Refusal) → Added r (Err e) mid next s → Added (followed r f) answer before later place
  under_look_refused f e mid next s same (Ok x) h = let z : ◌≡◌ {A = ℕ} 0 1 = cc h.0 in absurd (omega arith)
  under_look_refused f e mid next s same (Err e') h = same ∙ h

  pub added_look_refused : (a q : ℕ) (e : Refusal) (mid next : List Node) (s : ℕ) → node_at bits d n p ≡ Ok (Look a, q) → answer ≡ Err e → Added (plan_at (d - 1) bits (n + 1) q) (Err e) mid next s → Added (plan_at d bits n p) answer before later place
  added_look_refused a q e mid next s node same h =
      from_node node (under_look_refused (looked_no (plan_at (d - 1) bits) n a) e mid next s same (plan_at (d - 1) bits (n + 1) q) h)

  under_no : (a : ℕ) (y : Tree) (mid next : List Node) → mid ≡ before ++ Look a ∷ [] → next ≡ mid ++ nodes_of y → (r : Result (Tree × ℕ) Refusal) → Added r answer next later place → Added (followed r (looked a y)) answer before later place
  under_no a y mid next grew more (Ok x) h =
      (h.0, h.1 ∙ rw (more, grew) (append_assoc (before ++ Look a ∷ []) (nodes_of y) (nodes_of x.0) ∙ append_assoc before (Look a ∷ []) (nodes_of y ++ nodes_of x.0)), h.2)
  under_no a y mid next grew more (Err e) h = h

  under_look : (a : ℕ) (mid next : List Node) (m s : ℕ) → mid ≡ before ++ Look a ∷ [] → length mid ≡ n + 1 → length next ≡ m → (r : Result (Tree × ℕ) Refusal) → Added r (Ok tt) mid next s → Added (plan_at (d - 1) bits m s) answer next later place → Added (followed r (looked_no (plan_at (d - 1) bits) n a)) answer before later place
  under_look a mid next m s grew first many (Ok x) h k =
      let count : m ≡ n + 1 + size x.0 = sym many ∙ ap length h.1 ∙ length-append mid (nodes_of x.0) ∙ ap (λ l. l + size x.0) first in
      under_no a x.0 mid next grew h.1 (plan_at (d - 1) bits (n + 1 + size x.0) x.1) (rw (← count, ← h.2) k)
  under_look a mid next m s grew first many (Err e) h k = let z : ◌≡◌ {A = ℕ} 0 1 = cc h in absurd (omega arith)

  pub added_look : (a q : ℕ) (mid next : List Node) (m s : ℕ) → node_at bits d n p ≡ Ok (Look a, q) → mid ≡ before ++ Look a ∷ [] → length mid ≡ n + 1 → length next ≡ m → Added (plan_at (d - 1) bits (n + 1) q) (Ok tt) mid next s → Added (plan_at (d - 1) bits m s) answer next later place → Added (plan_at d bits n p) answer before later place
  added_look a q mid next m s node grew first many h k =
      from_node node (under_look a mid next m s grew first many (plan_at (d - 1) bits (n + 1) q) h k)

-- the same plan read, by other names for its bits, its number, its place, the answer and the nodes before it
pub read_as : (d : ℕ) {bits bits' : List Bool} {n n' p p' : ℕ} {answer answer' : Result (Unit {0}) Refusal} {before before' : List Node} (later : List Node) (place : ℕ) → bits ≡ bits' → n ≡ n' → p ≡ p' → answer ≡ answer' → before ≡ before' → Added (plan_at d bits n p) answer before later place → Added (plan_at d bits' n' p') answer' before' later place
read_as d {bits' = bits'} {n' = n'} {p' = p'} {answer = answer} {before = before} later place b m q a l h =
    subst₂ (λ x y. Added (plan_at d bits' n' p') x y later place) a l (subst₃ (λ x y z. Added (plan_at d x y z) answer before later place) b m q h)
