use Rattle.std.proofs.Common.{◌≤◌, Bool, true, false, sym, ◌∙◌, arith}
use mir.Val.{bool_byte}
use Rattle.domain.specs.Domains.{sheet}
use Rattle.domain.proofs.Laws.{lawful_fluents, lawful_sensed}
use Rattle.logs.proofs.log.sensed_literal.Goals as goal

-- a truth value as a number
at_most_one : (b : Bool) → bool_byte b ≤ 1
at_most_one true = omega arith
at_most_one false = omega arith

pub overflow_mul-result : goal.overflow_mul-result
overflow_mul-result c =
    let d = c.args.domain.now in
    let known = lawful_sensed (sheet d) d.lawful c.args.action c.in_ok-fluent.fluent (sym c.sensed.ensures ∙ c.in_ok-fluent.was) in
    record { fits = omega (arith, known, (lawful_fluents (sheet d) d.lawful).1) }

pub overflow_add-result : goal.overflow_add-result
overflow_add-result c =
    let d = c.args.domain.now in
    let known = lawful_sensed (sheet d) d.lawful c.args.action c.in_ok-fluent.fluent (sym c.sensed.ensures ∙ c.in_ok-fluent.was) in
    record { fits = omega (arith, known, (lawful_fluents (sheet d) d.lawful).1, c.from.ensures, at_most_one c.args.seen) }
