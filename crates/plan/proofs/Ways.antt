-- Ends and longest ways, from the nodes in sequence. Assumes nothing.
use Rattle.std.proofs.Common.{◌≡◌, ℕ, suc, ◌+◌, ◌-◌, max, Bool, true, false, List, ◌∷◌, ◌++◌, length, take, drop, filter, sym, refl, ap, ◌∙◌, append_assoc, arith, length-append}
use Rattle.std.proofs.Math.Seq.{take-length}
use Rattle.std.proofs.lemmas.List.{drop_at, length-drop}
use Rattle.std.proofs.lemmas.List.Elements.{filter-append}
use Rattle.plan.specs.Tree.{Tree, end, order, look, nodes_of, size, depth, ends}
use Rattle.plan.specs.declared.node.Node.{Node}
use Rattle.plan.specs.declared.node.Node.TheVariants.{End, Order, Look}

-- the plan that nodes begin with, by its first node
pub none_first : (l : List Node) (t : Tree) (rest : List Node) → length l ≡ 0 → l ≡ nodes_of t ++ rest → ⊥
none_first l end rest none h = omega (arith, none, ap length h)
none_first l (order a t) rest none h = omega (arith, none, ap length h)
none_first l (look a y t) rest none h = omega (arith, none, ap length h)

pub end_first : (l : List Node) (t : Tree) (rest : List Node) → End ∷ l ≡ nodes_of t ++ rest → (depth t ≡ 0) × (size t ≡ 1) × (l ≡ rest)
end_first l end rest h = (refl, refl, cc)
end_first l (order a t) rest h = let z : ◌≡◌ {A = ℕ} 0 1 = cc in absurd (omega arith)
end_first l (look a y t) rest h = let z : ◌≡◌ {A = ℕ} 0 1 = cc in absurd (omega arith)

pub order_first : (a : ℕ) (l : List Node) (t : Tree) (rest : List Node) → Order a ∷ l ≡ nodes_of t ++ rest → (u : Tree) × (l ≡ nodes_of u ++ rest) × (depth t ≡ suc (depth u)) × (size t ≡ suc (size u))
order_first a l end rest h = let z : ◌≡◌ {A = ℕ} 0 1 = cc in absurd (omega arith)
order_first a l (order b t) rest h = (t, cc, refl, refl)
order_first a l (look b y t) rest h = let z : ◌≡◌ {A = ℕ} 0 1 = cc in absurd (omega arith)

pub look_first : (a : ℕ) (l : List Node) (t : Tree) (rest : List Node) → Look a ∷ l ≡ nodes_of t ++ rest → (y : Tree) × (u : Tree) × (l ≡ nodes_of y ++ (nodes_of u ++ rest)) × (depth t ≡ suc (max (depth y) (depth u))) × (size t ≡ suc (size y + size u))
look_first a l end rest h = let z : ◌≡◌ {A = ℕ} 0 1 = cc in absurd (omega arith)
look_first a l (order b t) rest h = let z : ◌≡◌ {A = ℕ} 0 1 = cc in absurd (omega arith)
look_first a l (look b y t) rest h =
    let same : l ≡ (nodes_of y ++ nodes_of t) ++ rest = cc in
    (y, t, same ∙ append_assoc (nodes_of y) (nodes_of t) rest, refl, ap suc (length-append (nodes_of y) (nodes_of t)))

-- past the yes-plan stands the no-plan
pub past_first : (nodes : List Node) (y : Tree) (l : List Node) (taken : ℕ) → nodes ≡ nodes_of y ++ l → taken ≡ size y → take (length nodes - taken) (drop taken nodes) ≡ l
past_first nodes y l taken h m =
    let past : drop taken nodes ≡ l = rw (m, h) (drop_at (nodes_of y) l (size y) refl) in
    ap (λ k. take k (drop taken nodes)) (sym (length-drop taken nodes)) ∙ take-length (drop taken nodes) ∙ past

-- whether a node is an end
abbrev pub is_end : Node → Bool
is_end End = true
is_end (Order a) = false
is_end (Look a) = false

-- the ends among the nodes of a plan
pub length-filter-is_end : (t : Tree) → length (filter is_end (nodes_of t)) ≡ ends t
length-filter-is_end end = refl
length-filter-is_end (order a t) = length-filter-is_end t
length-filter-is_end (look a y t) =
    ap length (filter-append is_end (nodes_of y) (nodes_of t)) ∙ length-append (filter is_end (nodes_of y)) (filter is_end (nodes_of t)) ∙ omega (arith, length-filter-is_end y, length-filter-is_end t)
