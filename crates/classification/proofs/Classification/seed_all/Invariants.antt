-- A pass that has finished the rows before x.
use Rattle.marks.specs.Passes.{Pass, Below}
use Rattle.classification.specs.Steps.{Of, Step, Seeded}
use Rattle.classification.proofs.Classification.seed_all.Given as goal

abbrev pub invariant-loop-x : goal.invariant-loop-x
invariant-loop-x l = Pass (Of Step l.self) l.self.square (Below (Seeded l.self.square) l.x) l.initial.work l.work l.changed
