-- `reach::note_row` meets its contract. Invariant: the pairs of the names before d are noted.
use Rattle.witness_above.specs.Reach.{RowNoted}
use Rattle.witness_above.proofs.reach.note_row.Given as goal

abbrev pub invariant-loop-d : goal.invariant-loop-d
invariant-loop-d l = RowNoted l.given l.roles.0 l.x l.y l.d l.initial.work l.work
