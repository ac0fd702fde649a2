-- The bytes of the row and the line that were looked at are full together.
use lib.ListN.{length}
use Rattle.std.specs.Slice.Iter.{iter_rest}
use Rattle.std.specs.Iterator.Adapters.{zip_first, zip_second}
use Rattle.marks.proofs.Bytes.{SeenIn, void}
use Rattle.marks.proofs.Square.seems_full.Given as goal

abbrev pub invariant-loop-had : goal.invariant-loop-had
invariant-loop-had l = SeenIn void (iter_rest (zip_first l.initial.had-iterator)) (iter_rest (zip_second l.initial.had-iterator)) (length l.yielded) l.missing
