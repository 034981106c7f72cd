use Rattle.std.proofs.Common.{◌≡◌, ◌+◌, ◌-◌, ◌*◌, ◌/◌, Ok, Err, sym, ap, ◌∙◌, arith}
use Rattle.std.proofs.lemmas.Result.{err_from_is_err_and}
use Rattle.bits.specs.Bits.{bits_of}
use Rattle.literals.specs.Literals.{with}
use Rattle.domain.specs.Lists.{literal_at, literals_at}
use Rattle.domain.proofs.ListSteps.{literals_none, literals_step, literals_refused}
use Rattle.domain.proofs.list.literals.Goals as goal

pub returns-in_err-next-clause-value : goal.returns-in_err-next-clause-value
returns-in_err-next-clause-value c =
    let p = err_from_is_err_and c.from_residual.result c.from_residual.ensures.1 in
    let bits = bits_of c.args.reader.now.bytes.now in
    let at = c.loop.reader.place in
    let refused : literal_at bits c.args.fluents c.loop.least at ≡ Err c.in_err-next.field-0.0 =
    ap (λ b. literal_at (bits_of b.now) c.args.fluents c.loop.least at) (sym c.loop.invariant.0) ∙ sym c.literal.ensures.value ∙ c.in_err-next.was in
    let told = literals_refused bits c.args.fluents (c.args.count - c.loop.counter) (c.args.count - (c.loop.counter + 1)) c.loop.least c.loop.set at c.in_err-next.field-0.0 (omega arith) refused in
    rw (p.1, p.2) (sym told ∙ c.loop.invariant.1)

pub loop-preserved : goal.loop-preserved
loop-preserved c =
    let bits = bits_of c.args.reader.now.bytes.now in
    let fluents = c.args.fluents in
    let at = c.loop.reader.place in
    let l = c.in_ok-next.next in
    let q = c.in_ok-next.field-0-1 in
    let left = c.args.count - (c.loop.counter + 1) in
    let read : literal_at bits fluents c.loop.least at ≡ Ok (l, q) =
    ap (λ b. literal_at (bits_of b.now) fluents c.loop.least at) (sym c.loop.invariant.0) ∙ sym c.literal.ensures.value ∙ c.in_ok-next.was in
    let told = literals_step bits fluents (c.args.count - c.loop.counter) left c.loop.least c.loop.set at l q (omega arith) read in (
      c.literal.ensures.moved.bytes ∙ c.loop.invariant.0,
      ap (λ s. literals_at left bits fluents ((l / 2 + 1) * 2) s c.literal.new.reader.place) c.with-set.ensures
          ∙ ap (λ r. literals_at left bits fluents ((l / 2 + 1) * 2) (with c.loop.set l) r) c.in_ok-next.ensures.moved.place
          ∙ sym told ∙ c.loop.invariant.1,
    )

pub returns-clause-value : goal.returns-clause-value
returns-clause-value c =
    let bits = bits_of c.args.reader.now.bytes.now in
    let all = literals_none bits c.args.fluents (c.args.count - c.loop.counter) c.loop.least c.loop.set c.loop.reader.place (omega arith) in
    ap (λ q. Ok (c.loop.set, q)) c.place.ensures ∙ sym all ∙ c.loop.invariant.1
