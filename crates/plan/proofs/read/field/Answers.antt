use Rattle.std.proofs.Common.{sym, ap, ◌∙◌}
use Rattle.std.proofs.lemmas.Result.{err_from_is_err_and}
use Rattle.bits.specs.Fields.{refused_as}
use Rattle.plan.specs.Layout.{plan_field}
use Rattle.plan.specs.declared.refusal.Refusal.TheVariants.{Unread}
use Rattle.plan.proofs.read.field.Goals as goal

pub returns-in_err-read-clause-value : goal.returns-in_err-read-clause-value
unfolding plan_field
returns-in_err-read-clause-value c =
    let p = err_from_is_err_and c.from_residual.result c.from_residual.ensures.1 in
    rw (p.1, p.2) (ap (refused_as Unread) (sym c.in_err-read.was ∙ c.field.ensures.value))

pub returns-clause-value : goal.returns-clause-value
unfolding plan_field
returns-clause-value c = ap (refused_as Unread) (sym c.in_ok-read.was ∙ c.field.ensures.value)
