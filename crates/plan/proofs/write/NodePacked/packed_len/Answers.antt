use Rattle.std.proofs.Common.{sym, length-append}
use Rattle.bits.proofs.Laws.{length-numeral}
use Rattle.plan.proofs.write.NodePacked.packed_len.Goals as goal

pub returns-in-End-clause-value : goal.returns-in-End-clause-value
returns-in-End-clause-value c = rw c.in-End.is (sym (length-numeral 2 0))

pub returns-in-Order-clause-value : goal.returns-in-Order-clause-value
returns-in-Order-clause-value c = rw c.in-Order.is (simp (length-append, length-numeral))

pub returns-in-Look-clause-value : goal.returns-in-Look-clause-value
returns-in-Look-clause-value c = rw c.in-Look.is (simp (length-append, length-numeral))
