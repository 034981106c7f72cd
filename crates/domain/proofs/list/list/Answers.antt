use Rattle.std.proofs.Common.{sym, ap, ◌∙◌}
use Rattle.std.proofs.lemmas.Result.{err_from_is_err_and}
use Rattle.bits.specs.Bits.{bits_of}
use Rattle.domain.specs.Lists.{literals_at}
use Rattle.domain.proofs.ListSteps.{list_refused, list_step}
use Rattle.domain.proofs.list.list.Goals as goal

pub returns-in_err-count-clause-value : goal.returns-in_err-count-clause-value
returns-in_err-count-clause-value c =
    let p = err_from_is_err_and c.from_residual.result c.from_residual.ensures.1 in
    let told = list_refused _ c.args.fluents _ _ _ _ _ (sym c.count.ensures.value ∙ c.in_err-count.was) in
    rw (p.1, p.2) (sym told)

pub returns-clause-value : goal.returns-clause-value
returns-clause-value c =
    let same = c.count.ensures.moved.bytes in
    let n = c.in_ok-count.count in
    let bits = bits_of c.args.reader.now.bytes.now in
    let told = list_step _ c.args.fluents _ _ _ _ _ _ (sym c.count.ensures.value ∙ c.in_ok-count.was) in
    c.literals.ensures.value
    ∙ ap (λ b. literals_at n (bits_of b.now) c.args.fluents 0 0 c.count.new.reader.place) same
    ∙ ap (literals_at n bits c.args.fluents 0 0) c.in_ok-count.ensures.moved.place
    ∙ sym told
