-- `passes::pass` meets its contract. Invariant: turns were made for the names before this one.
use Rattle.witness_above.specs.Passes.{Passed}
use Rattle.witness_above.proofs.passes.pass.Given as goal

abbrev pub invariant-loop-name : goal.invariant-loop-name
invariant-loop-name l = Passed l.given l.asked.0 l.name l.count l.initial.rows l.rows l.initial.numbers l.numbers l.initial.work l.work l.written
