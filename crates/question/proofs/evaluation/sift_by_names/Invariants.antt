-- `sift_by_names` meets its contract: the rows have lost what the names before do not have below them.
use Rattle.question.proofs.Turns.{Sifting}
use Rattle.question.proofs.evaluation.sift_by_names.Given as goal

abbrev pub invariant-loop-atom : goal.invariant-loop-atom
invariant-loop-atom l = Sifting l.classified l.subsumee.outline.now l.above l.atom-index l.roots
