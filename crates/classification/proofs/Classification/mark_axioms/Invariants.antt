-- A pass that has finished the axioms before x.
use Rattle.marks.specs.Passes.{Pass, Below}
use Rattle.classification.specs.Steps.{Of, Step, AxiomSettled}
use Rattle.classification.proofs.Classification.mark_axioms.Given as goal

abbrev pub invariant-loop-x : goal.invariant-loop-x
invariant-loop-x l = Pass (Of Step l.self) l.self.square (Below (Of AxiomSettled l.self) l.x) l.initial.work l.work l.changed
