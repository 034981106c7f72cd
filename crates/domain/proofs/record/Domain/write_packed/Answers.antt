use Rattle.domain.specs.Domains.{sheet}
use Rattle.domain.specs.Layout.{written}
use Rattle.domain.proofs.Exact.{written_once}
use Rattle.domain.proofs.record.Domain.write_packed.Goals as goal

pub returns : goal.returns
unfolding written
returns c = record { value = c.write.ensures.value; bytes = c.write.ensures.bytes; once = written_once (sheet c.args.self.now) c.args.self.now.lawful }
