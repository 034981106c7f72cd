use Rattle.bits.proofs.Writing.{wrote_all}
use Rattle.bits.proofs.packed.put_first.Goals as goal

pub returns-clause-filled : goal.returns-clause-filled
returns-clause-filled g c = λ start. wrote_all start c.put.ensures
