use Rattle.std.proofs.Common.{◌≡◌, length, ap, ◌∙◌}
use Rattle.std.proofs.lemmas.Result.{err_from_is_err_and}
use Rattle.std.specs.List.{flat_map}
use Rattle.bits.specs.Bits.{numeral}
use Rattle.bits.proofs.Laws.{wrote_then, wrote_refused, wrote_as}
use Rattle.domain.specs.Lists.{members, list_bits}
use Rattle.domain.proofs.list.put_list.Goals as goal

pub returns-in_err-put : goal.returns-in_err-put
unfolding list_bits
returns-in_err-put c =
    let p = err_from_is_err_and c.from_residual.result c.from_residual.ensures.1 in
    let count : numeral c.args.width.bits c.from.result ≡ numeral c.args.width.bits (length (members c.args.set)) = ap (numeral c.args.width.bits) (c.from.ensures ∙ c.members.ensures.value) in
    rw p.1 (wrote_refused (flat_map (numeral 6) (members c.args.set)) (wrote_as count c.in_err-put.ensures.wrote))

pub returns : goal.returns
unfolding list_bits
returns c =
    let count : numeral c.args.width.bits c.from.result ≡ numeral c.args.width.bits (length (members c.args.set)) = ap (numeral c.args.width.bits) (c.from.ensures ∙ c.members.ensures.value) in
    wrote_then (wrote_as count c.in_ok-put.ensures.wrote) c.put_members.ensures
