use Rattle.std.proofs.Common.{◌≡◌, true, false, ltb, length, refl, ◌∙◌, arith}
use Rattle.std.proofs.lemmas.Bool.{lt-ltb, le-ltb}
use Rattle.literals.specs.Recorded.{recorded}
use Rattle.domain.specs.Domains.{sheet}
use Rattle.logs.specs.Calls.{admitted}
use Rattle.logs.proofs.log.Log.admit.Goals as goal

pub returns-then-action-actions-clause-value : goal.returns-then-action-actions-clause-value
unfolding admitted
returns-then-action-actions-clause-value g c =
    let unknown : ltb c.args.action (length (sheet c.args.self.now.domain).actions) ≡ false = le-ltb _ _ (omega (arith, c.actions.ensures, c.if-action-actions.true)) in
    rw unknown refl

pub returns-then-not-right_kind-clause-value : goal.returns-then-not-right_kind-clause-value
unfolding admitted
returns-then-not-right_kind-clause-value g c =
    let known : ltb c.args.action (length (sheet c.args.self.now.domain).actions) ≡ true = lt-ltb _ _ (omega (arith, c.actions.ensures, c.if-action-actions.false)) in
    rw (known, c.if-not-right_kind.true) refl

pub returns-then-len-ge32-clause-value : goal.returns-then-len-ge32-clause-value
unfolding admitted
returns-then-len-ge32-clause-value g c =
    let known : ltb c.args.action (length (sheet c.args.self.now.domain).actions) ≡ true = lt-ltb _ _ (omega (arith, c.actions.ensures, c.if-action-actions.false)) in
    let late : ltb (length (recorded c.args.self.now.state.orders)) 32 ≡ false = le-ltb _ _ (omega (arith, c.len.ensures, c.if-len-ge32.true)) in
    rw (known, c.if-not-right_kind.false, late) refl

pub returns-clause-value : goal.returns-clause-value
unfolding admitted
returns-clause-value g c =
    let known : ltb c.args.action (length (sheet c.args.self.now.domain).actions) ≡ true = lt-ltb _ _ (omega (arith, c.actions.ensures, c.if-action-actions.false)) in
    let early : ltb (length (recorded c.args.self.now.state.orders)) 32 ≡ true = lt-ltb _ _ (omega (arith, c.len.ensures, c.if-len-ge32.false)) in
    c.needs_shown.ensures ∙ rw (known, c.if-not-right_kind.false, early) refl
