-- A pass that has finished the rows before b.
use native.Mathlib.Omega.{arith}
use mathlib.Core.Path.{sym, ◌∙◌}
use Rattle.marks.proofs.Passes.{turns_none, turn_both, turn_skipped, turns_end}
use Rattle.classification.proofs.Marking.{shaped_row, seeded_stays, seeded_source, defined_restriction, pair, fill_pass, filled_at, filled_none, filled_not}
use Rattle.classification.proofs.Classification.fill_column.Goals.{then-is_restriction+then-fills, else-is_restriction}
use Rattle.classification.proofs.Classification.fill_column.Goals.{else-is_restriction-via-then-is_restriction+else-fills, else-is_restriction-via-else-is_restriction}
use Rattle.classification.proofs.Classification.fill_column.Goals as goal

pub role-role-requires : goal.role-role-requires
role-role-requires c = shaped_row c.requires.seeded_setting.setting.shaped c.requires.y_lt_names

pub filler-filler-requires : goal.filler-filler-requires
filler-filler-requires c = shaped_row c.requires.seeded_setting.setting.shaped c.requires.y_lt_names

pub loop-b-init : goal.loop-b-init
loop-b-init c = turns_none

pub is_restriction-requires : goal.is_restriction-requires
is_restriction-requires c = shaped_row c.requires.seeded_setting.setting.shaped c.loop-b-test.true

pub fills-requires : goal.fills-requires
fills-requires c = pair (seeded_stays c.loop-b.invariant.grows c.requires.seeded_setting).setting c.requires.y_lt_names c.loop-b-test.true
    (sym c.is_restriction.ensures ∙ c.if-is_restriction.true)
    (defined_restriction c.requires.seeded_setting.setting c.requires.y_lt_names c.requires.y_value c.role-role.ensures c.under-serving.ensures c.filler-filler.ensures)

pub mark-new-requires : goal.mark-new-requires
mark-new-requires c = record {
  room = (seeded_stays c.loop-b.invariant.grows c.requires.seeded_setting).setting.room;
  x_le_names = (omega (arith, c.loop-b-test.true), omega (arith, c.requires.y_lt_names));
}

pub loop-b-preserved : goal.loop-b-preserved
loop-b-preserved c = let p = c.loop-b.invariant in elim c.if-is_restriction.branch [
  | then-is_restriction+then-fills w ↦ rw (w.work-is, w.changed-is) (turn_both p
      (filled_at (fill_pass (seeded_source (seeded_stays p.grows c.requires.seeded_setting) c.loop-b-test.true) (sym c.is_restriction.ensures ∙ w.if-is_restriction.true)
      c.requires.y_lt_names (w.fills.ensures.allowed w.if-fills.true) w.mark-new.ensures)))
  | else-is_restriction w ↦ rw (w.work-is, w.changed-is) (turn_skipped p (elim w.else-is_restriction.branch [
    | else-is_restriction-via-then-is_restriction+else-fills z ↦ filled_none z.fills.ensures z.if-fills.false
    | else-is_restriction-via-else-is_restriction z ↦ filled_not c.is_restriction.ensures z.if-is_restriction.false
  ]))
]

pub returns : goal.returns
returns c = turns_end c.loop-b-test.false c.loop-b.invariant
