use Rattle.std.proofs.lemmas.Result.{err_from_is_err_and}
use Rattle.bits.proofs.Laws.{wrote_then, wrote_refused, wrote_as}
use Rattle.domain.specs.Domains.{sheet}
use Rattle.domain.specs.Lists.{list_bits}
use Rattle.domain.proofs.RowParts.{goal_bits, rows_written}
use Rattle.domain.proofs.write.put_facts.Goals as goal

pub returns-in_err-put_all : goal.returns-in_err-put_all
returns-in_err-put_all c =
    let p = err_from_is_err_and c.from_residual-in_err-put_all.result c.from_residual-in_err-put_all.ensures.1 in
    rw p.1 (wrote_then c.in_ok-put_list.ensures (wrote_then c.in_ok-put_groups.ensures (wrote_refused (goal_bits (sheet c.args.domain.now)) (wrote_as (rows_written _ c.rows.ensures.actions) c.in_err-put_all.ensures))))

pub returns-in_err-put_list-2 : goal.returns-in_err-put_list-2
returns-in_err-put_list-2 c =
    let p = err_from_is_err_and c.from_residual-in_err-put_list-2.result c.from_residual-in_err-put_list-2.ensures.1 in
    rw p.1 (wrote_then c.in_ok-put_list.ensures (wrote_then c.in_ok-put_groups.ensures (wrote_then (wrote_as (rows_written _ c.rows.ensures.actions) c.in_ok-put_all.ensures) (wrote_refused (list_bits 4 (sheet c.args.domain.now).weak) c.in_err-put_list-2.ensures))))

pub returns : goal.returns
returns c =
    wrote_then c.in_ok-put_list.ensures (wrote_then c.in_ok-put_groups.ensures (wrote_then (wrote_as (rows_written _ c.rows.ensures.actions) c.in_ok-put_all.ensures) (wrote_then c.in_ok-put_list-2.ensures c.put_list-3.ensures)))
