-- `reach::expand` meets its contract. Invariant: what the pair leads to by the names before c is noted.
use Rattle.witness_above.specs.Reach.{Expanded}
use Rattle.witness_above.proofs.reach.expand.Given as goal

abbrev pub invariant-loop-c : goal.invariant-loop-c
invariant-loop-c l = Expanded l.given l.x l.y l.c l.initial.work l.work
