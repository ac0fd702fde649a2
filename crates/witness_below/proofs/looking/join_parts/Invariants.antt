-- `looking::join_parts` meets its contract: the invariant says that the rows so far are a chain over the conjuncts so far.
use Rattle.release.specs.Parts.{SoFar}
use Rattle.witness_below.proofs.Looks.{ChainTo}
use Rattle.witness_below.proofs.looking.join_parts.Given as goal

abbrev pub invariant-loop-part : goal.invariant-loop-part
invariant-loop-part l = SoFar l.given.first.file.now l.given.first.table.now l.x
    (λ i. ChainTo l.given l.work l.x l.y l.count l.initial.rows i l.rows l.written l.row) l.part-iterator
