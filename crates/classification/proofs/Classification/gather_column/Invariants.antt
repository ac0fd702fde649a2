-- A pass that has finished the rows before row.
use Rattle.marks.specs.Passes.{Pass, Below}
use Rattle.classification.specs.Steps.{Of, Step, GatheredAt}
use Rattle.classification.proofs.Classification.gather_column.Given as goal

abbrev pub invariant-loop-row : goal.invariant-loop-row
invariant-loop-row l = Pass (Of Step l.self) l.self.square (Below (Of GatheredAt l.self l.y) l.row) l.initial.work l.work l.changed
