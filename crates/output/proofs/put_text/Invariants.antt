-- `put_text` meets its contract: after i bytes the first i bytes of the text are put.
use Rattle.std.proofs.Common.{take}
use Rattle.output.specs.Places.{Put}
use Rattle.output.proofs.put_text.Given as goal

abbrev pub invariant-loop-byte : goal.invariant-loop-byte
invariant-loop-byte l = Put l.initial.output l.at (take l.byte-index l.text) l.output l.next
