-- The question that is put to a reasoner, and its answer. Assumes nothing.
use Rattle.std.specs.Prelude.{cond, Ok, Err, Result, nat_le}
use Rattle.literals.specs.Recorded.{recorded}
use Rattle.literals.specs.declared.orders.Orders.{Orders}
use Rattle.literals.specs.declared.table.Table.{Table}
use Rattle.domain.specs.Domains.{sheet}
use Rattle.domain.specs.declared.record.Domain.{Domain}
use Rattle.knowledge.specs.Questions.{Question}
use Rattle.knowledge.specs.Reasoning.{Mind}
use Rattle.reasoner.specs.declared.question.Question.{Question as Asked}
use Rattle.reasoner.specs.declared.refusal.TooManyFluents.{TooManyFluents}

-- the question of a domain, orders and looks, and a table of told facts
abbrev pub question : Domain → Orders → Table → Question
question domain orders told = record { sheet = sheet domain; orders = recorded orders; told = told.sets }

-- the same, of these as one value
abbrev pub asked : Asked → Question
asked q = question q.domain.now q.orders.now q.told.now

-- a reasoner refuses a domain with more fluents than it takes, and only such a one
abbrev pub answer_to : Mind → Question → Result (Unit {0}) TooManyFluents
answer_to m q = cond (nat_le q.sheet.fluents m.largest) (Ok tt) (Err (record { fluents = q.sheet.fluents }))
