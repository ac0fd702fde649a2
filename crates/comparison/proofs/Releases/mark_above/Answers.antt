-- Ready memory is what forward marks ask, put by the roles above.
use native.Mathlib.Omega.{arith}
use Rattle.comparison.proofs.Pipeline.{handable, forward_asks, forwarded}
use Rattle.comparison.proofs.Releases.mark_above.Goals as goal

pub given-given-requires : goal.given-given-requires
given-given-requires c = record { ranged = handable c.requires.given.both c.requires.given.signature; names_in_bounds = c.requires.names_in_bounds }

pub mark_lost_above-requires : goal.mark_lost_above-requires
mark_lost_above-requires c = forward_asks c.requires.given.both c.requires.ready c.given-given.ensures

pub returns : goal.returns
returns c = forwarded c.requires.given.both c.requires.ready c.given-given.ensures c.mark_lost_above.ensures
