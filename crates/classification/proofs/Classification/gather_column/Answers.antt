-- A pass that has finished the rows before row. A row passed over lacks what it needs for y to be gathered in it.
use native.Mathlib.Omega.{arith}
use mathlib.Core.Path.{refl}
use Rattle.marks.proofs.Squares.{refuted}
use Rattle.marks.proofs.Passes.{turns_none, turn_both, turn_skipped, turns_end}
use Rattle.classification.proofs.Marking.{joined, seeded_stays, gathered_at, passed_over}
use Rattle.classification.proofs.Classification.gather_column.Goals.{then-is_marked, else-is_marked}
use Rattle.classification.proofs.Classification.gather_column.Goals as goal

pub first_part-first-requires : goal.first_part-first-requires
first_part-first-requires c = record { shaped = c.requires.seeded_setting.setting.shaped; is_name = c.requires.y_lt_names; is_conjunctive = joined refl c.requires.y_value }

pub loop-row-init : goal.loop-row-init
loop-row-init c = turns_none

pub is_marked-requires : goal.is_marked-requires
is_marked-requires c = record {
  room = (seeded_stays c.loop-row.invariant.grows c.requires.seeded_setting).setting.room;
  x_le_names = (omega arith, c.first_part-first.ensures.column);
}

pub gather-gathered-requires : goal.gather-gathered-requires
gather-gathered-requires c = record {
  in_row = record { setting = (seeded_stays c.loop-row.invariant.grows c.requires.seeded_setting).setting; row = omega arith; name = c.requires.y_lt_names };
  kind = c.requires.y_value;
}

pub loop-row-preserved : goal.loop-row-preserved
loop-row-preserved c = let p = c.loop-row.invariant in elim c.if-is_marked.branch [
  | then-is_marked w ↦ rw (w.work-is, w.changed-is) (turn_both p (gathered_at w.gather-gathered.ensures))
  | else-is_marked w ↦ rw (w.work-is, w.changed-is) (turn_skipped p (passed_over c.first_part-first.ensures
      ((seeded_stays p.grows c.requires.seeded_setting).seeded.at _ (omega arith)).top (refuted c.is_marked.ensures w.if-is_marked.false)))
]

pub returns : goal.returns
returns c = turns_end (omega arith) c.loop-row.invariant
