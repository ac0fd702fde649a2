-- A pair is put where the rule allows it; elsewhere it asks nothing.
use Rattle.marks.proofs.Squares.{refuted}
use Rattle.backward.proofs.Tested.{cell_put, cell_none}
use Rattle.backward.proofs.sweep.look_at_pair.Goals as goal

pub returns-then-column_lost : goal.returns-then-column_lost
returns-then-column_lost c = cell_put
    (record { plain = c.is_plain.ensures.sound c.if-not-is_plain.false; row = c.column_lost.ensures.sound c.if-column_lost.true }) (rw c.mark_square.ensures at c.mark.ensures)

pub returns-then-not-is_plain : goal.returns-then-not-is_plain
returns-then-not-is_plain c = cell_none (λ p. refuted c.is_plain.ensures c.if-not-is_plain.true p.plain)

pub returns : goal.returns
returns c = cell_none (λ p. refuted c.column_lost.ensures c.if-column_lost.false p.row)
