-- Some role of the edge is outside the set.
use Rattle.el.proofs.Tests.{tells_as}
use Rattle.marks.proofs.Squares.{refuted}
use Rattle.backward.proofs.Tested.{outside}
use Rattle.backward.proofs.rules.nothing_lost.Goals as goal

pub returns-then-not-is_empty : goal.returns-then-not-is_empty
returns-then-not-is_empty c =
    let tells = rw (c.mark_square-marks.ensures, c.filler.ensures) at c.is_marked.ensures in
    tells_as (outside c.without.ensures (λ n. refuted c.is_empty.ensures c.if-not-is_empty.true n)) (λ l. l.marked) tells
