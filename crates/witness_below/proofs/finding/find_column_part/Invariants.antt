-- `find_column_part` meets its contract: the invariant says what the best conjunct so far is.
use mathlib.Core.Path.{◌≡◌}
use Rattle.release.specs.Parts.{SoFar}
use Rattle.witness_below.specs.Cells.{cell_at}
use Rattle.witness_below.proofs.Searching.{BestBefore}
use Rattle.witness_below.proofs.finding.find_column_part.Given as goal

abbrev pub invariant-loop-part : goal.invariant-loop-part
invariant-loop-part l = SoFar l.given.second.file.now l.given.second.table.now l.y
    (λ i. BestBefore l.given.second.file.now l.given.second.table.now l.given.layout.names l.y (λ z. (cell_at l.given.layout l.work l.x z ≡ 1 → ⊥)) i l.found) l.part-iterator
