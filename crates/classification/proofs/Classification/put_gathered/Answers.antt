-- The marks are put by the rules.
use native.Mathlib.Omega.{arith}
use Rattle.marks.specs.Passes.{none}
use Rattle.marks.proofs.Passes.{grows_further}
use Rattle.classification.proofs.Marking.{in_row_at, in_row_stays, gather_grows}
use Rattle.classification.proofs.Classification.put_gathered.Goals.{else-conjunction-self-via-then-conjunction-self+then-gathers+else-mark}
use Rattle.classification.proofs.Classification.put_gathered.Goals.{else-conjunction-self-via-then-conjunction-self+else-gathers, else-conjunction-self-via-else-conjunction-self}
use Rattle.classification.proofs.Classification.put_gathered.Goals as goal

pub loop-conjunction-init : goal.loop-conjunction-init
loop-conjunction-init c = none

pub next_hint-requires : goal.next_hint-requires
next_hint-requires c = record { area = (in_row_stays c.loop-conjunction.invariant c.requires).setting.area; k_bound = (omega arith, omega (arith, c.requires.name)) }

pub gathers-requires : goal.gathers-requires
gathers-requires c = in_row_at (in_row_stays c.loop-conjunction.invariant c.requires) c.if-conjunction-self.true

pub mark-requires : goal.mark-requires
mark-requires c = let h = in_row_at (in_row_stays c.loop-conjunction.invariant c.requires) c.if-conjunction-self.true in record { room = h.setting.room; x_le_names = (h.row, omega (arith, h.name)) }

pub loop-conjunction-preserved-then-mark : goal.loop-conjunction-preserved-then-mark
loop-conjunction-preserved-then-mark c = let g = c.loop-conjunction.invariant in
    grows_further g (gather_grows (in_row_at (in_row_stays g c.requires) c.if-conjunction-self.true) (c.gathers.ensures.sound c.if-gathers.true) c.mark.ensures)

pub loop-conjunction-preserved : goal.loop-conjunction-preserved
loop-conjunction-preserved c = let g = c.loop-conjunction.invariant in elim c.else-conjunction-self.branch [
  | else-conjunction-self-via-then-conjunction-self+then-gathers+else-mark w ↦ rw w.work-is
      (grows_further g (gather_grows (in_row_at (in_row_stays g c.requires) w.if-conjunction-self.true) (w.gathers.ensures.sound w.if-gathers.true) w.mark.ensures))
  | else-conjunction-self-via-then-conjunction-self+else-gathers w ↦ rw w.work-is g
  | else-conjunction-self-via-else-conjunction-self w ↦ rw w.work-is g
]

pub returns : goal.returns
returns c = c.loop-conjunction.invariant
