-- The first i words of one row are seen in the other.
use Prim.Native.Nat.{◌*◌}
use Rattle.marks.proofs.Scans.{WordsWithin}
use Rattle.marks.proofs.Square.words_within.Given as goal

abbrev pub invariant-loop-i : goal.invariant-loop-i
invariant-loop-i l = WordsWithin l.fn.self l.work l.from l.to (8 * (8 * l.i)) l.missing
