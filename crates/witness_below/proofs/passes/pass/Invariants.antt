-- `passes::pass` meets its contract: the invariant says what holds after looks at the pairs so far.
use Rattle.witness_below.specs.Tasks.{Passed}
use Rattle.witness_below.proofs.passes.pass.Given as goal

abbrev pub invariant-loop-pair : goal.invariant-loop-pair
invariant-loop-pair l = Passed l.given l.pair l.count l.initial.rows l.rows l.initial.numbers l.numbers l.initial.work l.work l.so_far
