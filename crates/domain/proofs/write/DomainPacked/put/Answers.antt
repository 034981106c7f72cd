use Rattle.std.proofs.Common.{◌-◌, ap, ◌∙◌, arith}
use Rattle.bits.specs.Bits.{numeral}
use Rattle.bits.proofs.Laws.{wrote_then, wrote_as}
use Rattle.domain.specs.Domains.{sheet}
use Rattle.domain.proofs.RowParts.{lawful-counts}
use Rattle.domain.proofs.write.DomainPacked.put.Goals as goal

pub overflow_sub-fluents : goal.overflow_sub-fluents
overflow_sub-fluents c = omega (arith, c.fluents.ensures, (lawful-counts (sheet c.args.self.now) c.args.self.now.lawful).0)

pub overflow_sub-actions : goal.overflow_sub-actions
overflow_sub-actions c = omega (arith, c.actions.ensures, (lawful-counts (sheet c.args.self.now) c.args.self.now.lawful).1)

pub returns : goal.returns
returns c =
    wrote_then c.in_ok-put.ensures.wrote (wrote_then (wrote_as (ap (numeral 5) (c.from.ensures ∙ ap (λ k. k - 1) c.fluents.ensures)) c.in_ok-put-2.ensures.wrote) (wrote_then (wrote_as (ap (numeral 4) (c.from-2.ensures ∙ ap (λ k. k - 1) c.actions.ensures)) c.in_ok-put-3.ensures.wrote) c.put_facts.ensures))
