-- The bytes of all names, one after the other. Invariant: those of the names before this one are written.
use Rattle.comparison.specs.Bytes.{Written}
use Rattle.comparison.proofs.result.write_bytes.Given as goal

abbrev pub invariant-loop-name : goal.invariant-loop-name
invariant-loop-name l = Written l.signature l.forward l.backward l.work l.name l.initial.byte-items l.byte-items
