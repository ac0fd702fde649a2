-- The last i bytes are read.
use Prim.Native.Nat.{◌+◌, ◌-◌, ◌*◌}
use Rattle.marks.specs.Words.{Reads}
use Rattle.marks.proofs.words.word.Given as goal

abbrev pub invariant-loop-i : goal.invariant-loop-i
invariant-loop-i l = Reads (8 * l.i) l.memory (l.at + (8 - l.i)) l.word
