-- The roles of the edge of x by which something can be left, one after the other. Invariant: a pass after which nothing is left to mark by the
-- roles before the next one.
use native.Mathlib.Omega.{arith}
use Rattle.marks.proofs.Passes.{turns_none, turn_both}
use Rattle.forward.specs.Rules.{setting_stays}
use Rattle.forward.proofs.Tested.{roles_to, roles_end}
use Rattle.forward.proofs.sweep.look_at_edge.Goals as goal

pub loop-role-init : goal.loop-role-init
loop-role-init c = (omega arith, c.requires.setting, turns_none)

pub loop-role-preserved : goal.loop-role-preserved
loop-role-preserved c =
    let before = c.loop-role.invariant in
    let turn = c.look_at_role-changed.ensures in
    (omega (arith, c.in-Some.ensures.inside), setting_stays turn.grows before.1, turn_both (roles_to before.2 c.in-Some.ensures) turn)

pub returns : goal.returns
returns c = roles_end c.loop-role.invariant.2 c.requires.x_lt_names c.in_default.ensures
