-- A pair is put where the rule allows it; elsewhere it is marked, or asks nothing.
use Rattle.marks.proofs.Squares.{refuted}
use Rattle.backward.proofs.Tested.{cell_marked, cell_put, cell_none}
use Rattle.backward.proofs.sweep.look_at_parts.Goals as goal

pub returns-then-is_marked : goal.returns-then-is_marked
returns-then-is_marked c = cell_marked (rw c.mark_square-marks.ensures at (c.is_marked.ensures.sound c.if-is_marked.true))

pub returns-then-some_part_lost : goal.returns-then-some_part_lost
returns-then-some_part_lost c = cell_put (record { is_name = c.requires.x_le_names.1; kind = c.requires.x_le_names.2; part = c.some_part_lost.ensures.sound c.if-some_part_lost.true })
    (rw c.mark_square-marks.ensures at c.mark.ensures)

pub returns : goal.returns
returns c = cell_none (λ p. refuted c.some_part_lost.ensures c.if-some_part_lost.false p.part)
