use Rattle.std.proofs.Common.{length, ap, ◌∙◌, arith}
use Rattle.std.specs.List.{flat_map}
use Rattle.domain.specs.Domains.{sheet}
use Rattle.domain.specs.Lists.{list_bits}
use Rattle.domain.proofs.RowParts.{rows_written, domain_long}
use Rattle.domain.proofs.write.DomainPacked.packed_len.Goals as goal

pub returns-clause-value : goal.returns-clause-value
returns-clause-value c =
    let d = sheet c.args.self.now in
    let groups = c.lists_len.ensures.value ∙ ap (λ gs. length (flat_map (list_bits 4) gs)) c.groups.ensures in
    let rows = c.packed_len.ensures.value ∙ ap length (rows_written _ c.rows.ensures.actions) in
    let long = domain_long d in
    omega (arith, long, groups, rows, c.list_len.ensures.value, c.list_len-2.ensures.value, c.list_len-3.ensures.value)
