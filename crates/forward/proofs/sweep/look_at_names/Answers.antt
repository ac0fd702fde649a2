-- All names, one after the other. Invariant: a pass after which nothing is left to mark by the names before this one.
use Rattle.marks.proofs.Passes.{turns_none, turn_both}
use Rattle.forward.specs.Rules.{setting_stays}
use Rattle.forward.proofs.Tested.{named, looked}
use Rattle.forward.proofs.sweep.look_at_names.Goals as goal

pub loop-x-init : goal.loop-x-init
loop-x-init c = (c.requires, turns_none)

pub look_at_name-name-requires-clause-named : goal.look_at_name-name-requires-clause-named
look_at_name-name-requires-clause-named c = named c.loop-x.invariant.0

pub look_at_edge-edge-requires-clause-setting : goal.look_at_edge-edge-requires-clause-setting
look_at_edge-edge-requires-clause-setting c = setting_stays c.look_at_name-name.ensures.grows c.loop-x.invariant.0

pub loop-x-preserved : goal.loop-x-preserved
loop-x-preserved c =
    let before = c.loop-x.invariant in
    let name = c.look_at_name-name.ensures in
    let edge = c.look_at_edge-edge.ensures in
    (setting_stays edge.grows (setting_stays name.grows before.0), turn_both before.1 (looked name edge))
