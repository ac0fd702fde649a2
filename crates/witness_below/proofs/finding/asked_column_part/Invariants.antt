-- `finding::asked_column_part` meets its contract: it reads where it may, and answers a conjunct if anything.
use Rattle.std.specs.Prelude.{IfSome}
use Prim.Native.Nat.{◌≤◌}
use Rattle.release.specs.Parts.{SoFar}
use Rattle.witness_below.proofs.finding.asked_column_part.Given as goal

abbrev pub invariant-loop-part : goal.invariant-loop-part
invariant-loop-part l = SoFar l.given.second.file.now l.given.second.table.now l.y (λ i. IfSome l.found (λ z. z ≤ l.given.layout.names)) l.part-iterator
