-- A pass that has finished the conjuncts given so far.
use Rattle.release.specs.Parts.{SoFar}
use Rattle.marks.specs.Passes.{Pass, Below}
use Rattle.classification.specs.Steps.{Of, Step, PartMarked}
use Rattle.classification.proofs.Classification.mark_parts.Given as goal

abbrev pub invariant-loop-part : goal.invariant-loop-part
invariant-loop-part l = SoFar l.self.terminology.file.now l.self.terminology.table.now l.b
    (λ i. Pass (Of Step l.self) l.self.square (Below (Of PartMarked l.self l.x l.b) i) l.initial.work l.work l.changed) l.part-iterator
