-- The marks are put by the rules.
use native.Mathlib.Omega.{arith}
use Rattle.marks.specs.Passes.{none}
use Rattle.marks.proofs.Passes.{grows_further}
use Rattle.classification.proofs.Marking.{shaped_row, over_stays, over_grows}
use Rattle.classification.proofs.Classification.put_over.Goals.{else-above-self-via-then-above-self+then-is_defined_by+else-mark}
use Rattle.classification.proofs.Classification.put_over.Goals.{else-above-self-via-then-above-self+else-is_defined_by, else-above-self-via-else-above-self}
use Rattle.classification.proofs.Classification.put_over.Goals as goal

pub role-role-requires : goal.role-role-requires
role-role-requires c = shaped_row c.requires.setting.shaped c.requires.name

pub loop-above-init : goal.loop-above-init
loop-above-init c = none

pub next_hint-requires : goal.next_hint-requires
next_hint-requires c = record { area = (over_stays c.loop-above.invariant c.requires).setting.area; k_bound = (omega arith, c.requires.column) }

pub is_defined_by-requires : goal.is_defined_by-requires
is_defined_by-requires c = shaped_row c.requires.setting.shaped c.if-above-self.true

pub mark-requires : goal.mark-requires
mark-requires c = let h = over_stays c.loop-above.invariant c.requires in record { room = h.setting.room; x_le_names = (omega (arith, h.name), omega (arith, c.if-above-self.true)) }

pub loop-above-preserved-then-mark : goal.loop-above-preserved-then-mark
loop-above-preserved-then-mark c = let g = c.loop-above.invariant in
    grows_further g (over_grows (over_stays g c.requires) c.if-above-self.true c.role-role.ensures (c.is_defined_by.ensures.sound c.if-is_defined_by.true) c.mark.ensures)

pub loop-above-preserved : goal.loop-above-preserved
loop-above-preserved c = let g = c.loop-above.invariant in elim c.else-above-self.branch [
  | else-above-self-via-then-above-self+then-is_defined_by+else-mark w ↦ rw w.work-is
      (grows_further g (over_grows (over_stays g c.requires) w.if-above-self.true c.role-role.ensures (w.is_defined_by.ensures.sound w.if-is_defined_by.true) w.mark.ensures))
  | else-above-self-via-then-above-self+else-is_defined_by w ↦ rw w.work-is g
  | else-above-self-via-else-above-self w ↦ rw w.work-is g
]

pub returns : goal.returns
returns c = c.loop-above.invariant
