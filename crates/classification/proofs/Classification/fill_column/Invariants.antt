-- A pass that has finished the rows before b.
use Rattle.marks.specs.Passes.{Pass, Below}
use Rattle.classification.specs.Steps.{Of, Step, FilledAt}
use Rattle.classification.proofs.Classification.fill_column.Given as goal

abbrev pub invariant-loop-b : goal.invariant-loop-b
invariant-loop-b l = Pass (Of Step l.self) l.self.square (Below (FilledAt l.self.terminology.table.now l.self.square l.y) l.b) l.initial.work l.work l.changed
