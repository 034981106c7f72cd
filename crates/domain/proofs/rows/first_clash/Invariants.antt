use Rattle.std.proofs.Common.{◌≡◌, ◌+◌, ◌*◌, ◌^◌, ◌≤◌, cond, [], take, drop, Some, None}
use Rattle.domain.specs.Layout.{clash_place}
use Rattle.domain.specs.Sheet.{clash_free}
use Rattle.domain.proofs.rows.first_clash.Given as goal

abbrev pub invariant-loop-i : goal.invariant-loop-i
invariant-loop-i l =
    (l.place ≤ 2 ^ 67 + 4 + 406 * l.i) × (cond (clash_free (take l.i l.effects) (drop l.i l.effects)) None (Some (clash_place (take l.i l.effects) l.place (drop l.i l.effects))) ≡ cond (clash_free [] l.effects) None (Some (clash_place [] (l.count_place + 4) l.effects)))
