-- `find_row_part` meets its contract: the invariant says that all conjuncts so far are marked.
use Prim.Native.Nat.{◌≤◌}
use Rattle.release.specs.Parts.{SoFar}
use Rattle.witness_below.specs.Cells.{cell_at}
use Rattle.witness_below.proofs.Searching.{NoneBefore}
use Rattle.witness_below.proofs.finding.find_row_part.Given as goal

abbrev pub invariant-loop-part : goal.invariant-loop-part
invariant-loop-part l = SoFar l.given.first.file.now l.given.first.table.now l.x
    (NoneBefore l.given.first.file.now l.given.first.table.now l.x (λ z. cell_at l.given.layout l.work z l.y ≤ 1)) l.part-iterator
