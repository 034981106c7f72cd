-- The sheet that a record holds. Assumes nothing.
use Rattle.std.specs.Prelude.{Ok, Err, Result}
use Rattle.domain.specs.Rows.{parts_sheet}
use Rattle.domain.specs.Sheet.{Sheet}
use Rattle.domain.specs.declared.action.Parts.{Parts}
use Rattle.domain.specs.declared.record.Domain.{Domain}

abbrev pub sheet : Domain → Sheet
sheet d = parts_sheet d.parts

-- an answer, with the sheet that its record holds
abbrev pub held : {E : Type 0} → Result Domain E → Result Sheet E
held (Ok d) = Ok (sheet d)
held (Err e) = Err e

-- the same of parts that were just read
abbrev pub spelled : {E : Type 0} → Result Parts E → Result Sheet E
spelled (Ok d) = Ok (parts_sheet d)
spelled (Err e) = Err e
