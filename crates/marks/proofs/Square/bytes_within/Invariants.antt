-- The bytes of one row that were looked at are seen in the other.
use lib.ListN.{length}
use Rattle.std.specs.Slice.Iter.{iter_rest}
use Rattle.std.specs.Iterator.Adapters.{zip_first, zip_second}
use Rattle.marks.proofs.Bytes.{SeenIn, lacks}
use Rattle.marks.proofs.Square.bytes_within.Given as goal

abbrev pub invariant-loop-given : goal.invariant-loop-given
invariant-loop-given l = SeenIn lacks (iter_rest (zip_first l.initial.given-iterator)) (iter_rest (zip_second l.initial.given-iterator)) (length l.yielded) l.missing
