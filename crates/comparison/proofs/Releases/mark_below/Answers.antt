-- Backward marks are put by the roles below, with a layout of their own.
use native.Mathlib.Omega.{arith}
use Rattle.comparison.proofs.Pipeline.{handable, backward_asks, backwarded}
use Rattle.comparison.proofs.Releases.mark_below.Goals as goal

pub given-given-requires : goal.given-given-requires
given-given-requires c = record { ranged = handable c.requires.given.both c.requires.given.signature; names_in_bounds = c.requires.names_in_bounds }

pub mark_lost_below-requires : goal.mark_lost_below-requires
mark_lost_below-requires c =
    let by = c.given-given.ensures in
    backward_asks c.requires.given.both c.requires.ready
    (record { names = by.names; found = by.found; first = by.first; second = by.second; layout = c.backward_layout-given.ensures })

pub returns : goal.returns
returns c =
    let by = c.given-given.ensures in
    backwarded c.requires.given.both c.requires.ready
    (record { names = by.names; found = by.found; first = by.first; second = by.second; layout = c.backward_layout-given.ensures })
    c.mark_lost_below.ensures
