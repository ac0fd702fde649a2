-- The marks are put by the rules.
use native.Mathlib.Omega.{arith}
use mathlib.Core.Path.{sym, ◌∙◌}
use Rattle.marks.specs.Passes.{none}
use Rattle.marks.proofs.Passes.{grows_further}
use Rattle.classification.proofs.Marking.{setting_stays, shaped_row, restriction_of}
use Rattle.classification.proofs.Classification.put_by_fillers.Goals as goal

pub loop-restriction-init : goal.loop-restriction-init
loop-restriction-init c = none

pub next_hint-requires : goal.next_hint-requires
next_hint-requires c = record { area = (setting_stays c.loop-restriction.invariant c.requires.setting).area; k_bound = (omega arith, c.requires.x_le_names) }

pub is_restriction-requires : goal.is_restriction-requires
is_restriction-requires c = shaped_row c.requires.setting.shaped c.if-restriction-self.true

pub filler-requires : goal.filler-requires
filler-requires c = shaped_row c.requires.setting.shaped c.if-restriction-self.true

pub is_marked-requires : goal.is_marked-requires
is_marked-requires c = record {
  room = (setting_stays c.loop-restriction.invariant c.requires.setting).room;
  x_le_names = (omega (arith, c.if-restriction-self.true), omega (arith, c.if-restriction-self.true));
}

pub put_filled-requires : goal.put_filled-requires
put_filled-requires c = restriction_of (setting_stays c.loop-restriction.invariant c.requires.setting) c.if-restriction-self.true c.filler.ensures c.if-filler-x.true
    (sym c.is_restriction.ensures ∙ c.if-is_restriction.true) (c.is_marked.ensures.sound c.if-is_marked.true)

pub loop-restriction-preserved-then-is_marked : goal.loop-restriction-preserved-then-is_marked
loop-restriction-preserved-then-is_marked c = grows_further c.loop-restriction.invariant c.put_filled.ensures

pub loop-restriction-preserved : goal.loop-restriction-preserved
loop-restriction-preserved c = c.loop-restriction.invariant

pub returns : goal.returns
returns c = c.loop-restriction.invariant
