-- Either the mark is there, or all conjuncts are marked and it is put, or one is not and nothing is asked.
use Rattle.marks.proofs.Squares.{refuted}
use Rattle.classification.proofs.Marking.{gathered_there, gather_pass, gathered_not}
use Rattle.classification.proofs.Classification.gather.Goals as goal

pub returns-then-is_marked : goal.returns-then-is_marked
returns-then-is_marked c = gathered_there (c.is_marked.ensures.sound c.if-is_marked.true)

pub returns-then-has_parts : goal.returns-then-has_parts
returns-then-has_parts c = gather_pass c.requires.in_row (c.has_parts.ensures.sound c.if-has_parts.true) c.mark.ensures

pub returns : goal.returns
returns c = gathered_not (refuted c.has_parts.ensures c.if-has_parts.false)
