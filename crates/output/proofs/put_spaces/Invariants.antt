-- `put_spaces` meets its contract: the spaces so far are put.
use Rattle.output.specs.Numbers.{spaces}
use Rattle.output.specs.Places.{Put}
use Rattle.output.proofs.put_spaces.Given as goal

abbrev pub invariant-loop-space : goal.invariant-loop-space
invariant-loop-space l = Put l.initial.output l.at (spaces l._space) l.output l.next
