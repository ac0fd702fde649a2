-- `decide` meets its contract: the memory prepared has what evaluating the rows asks, and its answer is that of the last row.
use native.Mathlib.Omega.{arith}
use mathlib.Core.Path.{ap}
use Rattle.witness.specs.Asked.{side_number}
use Rattle.witness.proofs.Deciding.{first_is, second_is, behind_room, to_differ, to_differ_below, decided_left, decided_right}
use Rattle.witness.proofs.checking.decide.Goals as goal

pub overflow_mul-second : goal.overflow_mul-second
overflow_mul-second c = omega (arith, behind_room c.requires)

pub overflow_add-second-3 : goal.overflow_add-second-3
overflow_add-second-3 c = omega (arith, behind_room c.requires, c.work_length-base.ensures)

pub differs_above-requires : goal.differs_above-requires
differs_above-requires c =
    to_differ c.requires c.prepare.ensures (first_is c.args.releases.now c.forward_layout-layout.ensures c.work_length-base.ensures.0 c.first_square.ensures)
    (second_is c.args.releases.now c.forward_layout-layout.ensures c.work_length-base.ensures.0 _ c.second_square.ensures)

pub differs_below-requires : goal.differs_below-requires
differs_below-requires c =
    to_differ_below c.requires c.prepare.ensures (first_is c.args.releases.now c.forward_layout-layout.ensures c.work_length-base.ensures.0 c.first_square.ensures)
    (second_is c.args.releases.now c.forward_layout-layout.ensures c.work_length-base.ensures.0 _ c.second_square.ensures)

pub returns-in-Left : goal.returns-in-Left
returns-in-Left c =
    decided_left c.requires c.prepare.ensures (first_is c.args.releases.now c.forward_layout-layout.ensures c.work_length-base.ensures.0 c.first_square.ensures)
    (second_is c.args.releases.now c.forward_layout-layout.ensures c.work_length-base.ensures.0 _ c.second_square.ensures)
    (ap side_number c.in-Left.is) c.differs_above.ensures

pub returns-in-Right : goal.returns-in-Right
returns-in-Right c =
    decided_right c.requires c.prepare.ensures (first_is c.args.releases.now c.forward_layout-layout.ensures c.work_length-base.ensures.0 c.first_square.ensures)
    (second_is c.args.releases.now c.forward_layout-layout.ensures c.work_length-base.ensures.0 _ c.second_square.ensures)
    (ap side_number c.in-Right.is) c.differs_below.ensures
