use Rattle.std.proofs.Common.{◌≡◌, ℕ, ◌+◌, Bool, List, [], ◌∷◌, ◌++◌, length, Result, Err, sym, refl, ap, ◌∙◌, length-append}
use Rattle.std.proofs.lemmas.Result.{err_from_is_err_and}
use Rattle.bits.specs.Bits.{bits_of}
use Rattle.plan.specs.Layout.{node_at}
use Rattle.plan.specs.declared.node.Node.{Node}
use Rattle.plan.specs.declared.refusal.Refusal.{Refusal}
use Rattle.plan.proofs.Adding.{added_refused, added_end, added_order, added_look_refused, added_look, read_as}
use Rattle.plan.proofs.read.+subplan.Goals as goal

-- the node that was read, by the nodes before it
told : {r : Result (Node × ℕ) Refusal} {slice before : List Node} (bits : List Bool) (d p : ℕ) → r ≡ node_at bits d (length slice) p → slice ≡ before → r ≡ node_at bits d (length before) p
told bits d p h same = h ∙ ap (λ nodes. node_at bits d (length nodes) p) same

one_more : (before : List Node) (node : Node) {later : List Node} → later ≡ before ++ node ∷ [] → length later ≡ length before + 1
one_more before node h = ap length h ∙ length-append before (node ∷ [])

pub returns-in_err-first-clause-added : goal.returns-in_err-first-clause-added
returns-in_err-first-clause-added t c =
    let p = err_from_is_err_and c.from_residual.result c.from_residual.ensures.1 in
    added_refused _ _ _ _ _ _ _ _ c.in_err-first.field-0.0 (sym (told _ _ _ c.node.ensures.value c.as_slice.ensures.items) ∙ c.in_err-first.was) (p.1 ∙ ap Err p.2)

pub returns-in-End-clause-added : goal.returns-in-End-clause-added
returns-in-End-clause-added t c =
    let node = sym (told _ _ _ c.node.ensures.value c.as_slice.ensures.items) ∙ c.in_ok-first.was in
    let first = c.in-End.is in
    added_end _ _ _ _ _ _ _ _ c.in_ok-first.field-0-1 (rw first at node) refl (rw first at c.push.ensures) c.in_ok-first.ensures.moved.place

pub returns-in-Order-clause-added : goal.returns-in-Order-clause-added
returns-in-Order-clause-added t c =
    let node = sym (told _ _ _ c.node.ensures.value c.as_slice.ensures.items) ∙ c.in_ok-first.was in
    let first = c.in-Order.is in
    let same = c.node.ensures.moved.bytes in
    added_order _ _ _ _ _ _ _ _ c.in-Order.action c.in_ok-first.field-0-1 _ (rw first at node) (rw first at c.push.ensures) (read_as _ _ _ (ap (λ b. bits_of b.now) same) (one_more _ _ c.push.ensures) c.in_ok-first.ensures.moved.place refl refl c.subplan.ensures.added)

pub returns-in_err-subplan-in-Look-clause-added : goal.returns-in_err-subplan-in-Look-clause-added
returns-in_err-subplan-in-Look-clause-added t c =
    let p = err_from_is_err_and c.from_residual-in_err-subplan-in-Look.result c.from_residual-in_err-subplan-in-Look.ensures.1 in
    let node = sym (told _ _ _ c.node.ensures.value c.as_slice.ensures.items) ∙ c.in_ok-first.was in
    let looks = c.in-Look.is in
    let same = c.node.ensures.moved.bytes in
    let under_yes = read_as _ _ _ (ap (λ b. bits_of b.now) same) (one_more _ _ c.push.ensures) c.in_ok-first.ensures.moved.place c.in_err-subplan-in-Look.was refl c.subplan-in-Look.ensures.added in
    added_look_refused _ _ _ _ _ _ _ _ c.in-Look.action c.in_ok-first.field-0-1 _ _ _ _ (rw looks at node) (p.1 ∙ ap Err p.2) under_yes

pub returns-in_ok-subplan-in-Look-clause-added : goal.returns-in_ok-subplan-in-Look-clause-added
returns-in_ok-subplan-in-Look-clause-added t c =
    let node = sym (told _ _ _ c.node.ensures.value c.as_slice.ensures.items) ∙ c.in_ok-first.was in
    let looks = c.in-Look.is in
    let same = c.node.ensures.moved.bytes in
    let later = c.subplan-in-Look.ensures.bytes ∙ same in
    let under_yes = read_as _ _ _ (ap (λ b. bits_of b.now) same) (one_more _ _ c.push.ensures) c.in_ok-first.ensures.moved.place c.in_ok-subplan-in-Look.was refl c.subplan-in-Look.ensures.added in
    let under_no = read_as _ _ _ (ap (λ b. bits_of b.now) later) refl refl refl refl c.subplan-in-Look-2.ensures.added in
    added_look _ _ _ _ _ _ _ _ c.in-Look.action c.in_ok-first.field-0-1 _ _ _ _ (rw looks at node) (rw looks at c.push.ensures) (one_more _ _ c.push.ensures) refl under_yes under_no
