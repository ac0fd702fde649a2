-- Only hints change.
use Rattle.release.specs.Parts.{SoFar}
use Rattle.marks.specs.Squares.{Kept}
use Rattle.classification.proofs.Classification.list_conjunction.Given as goal

abbrev pub invariant-loop-part : goal.invariant-loop-part
invariant-loop-part l = SoFar l.self.terminology.file.now l.self.terminology.table.now l.conjunction (λ i. Kept l.self.square l.initial.work l.work) l.part-iterator
