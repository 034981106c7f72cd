use Rattle.std.proofs.Common.{sym, refl, subst}
use Rattle.cases.specs.Cases.{AllStand}
use Rattle.cases.proofs.Computed.{opened, worked_out, counted, case_stands}
use Rattle.cases.proofs.Pairs.{pairs_stand}
use Rattle.cases.proofs.Table.{EachStands, taken_stands}
use Rattle.cases.proofs.cases.case_of.Goals as goal

pub returns-clause-stands : goal.returns-clause-stands
unfolding opened worked_out counted
returns-clause-stands c =
    let each : EachStands c.as_slice.result.now =
    subst EachStands (sym c.as_slice.ensures)
    (case_stands _ refl, (case_stands _ refl, (case_stands _ refl, (case_stands _ refl, (case_stands _ refl, (case_stands _ refl, (case_stands _ refl, (case_stands _ refl, (pairs_stand _ refl refl refl refl refl, tt)))))))))
    in
    subst AllStand (sym c.copied.ensures) (taken_stands c.as_slice.result.now each _ c.get.result c.get.ensures.lookup)
