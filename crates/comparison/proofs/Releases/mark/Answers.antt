-- Forward marks leave what backward marks ask, and the edges as long as they were.
use native.Mathlib.Omega.{arith}
use Rattle.comparison.proofs.Pipeline.{given_in, backward_ready, all_marked}
use Rattle.comparison.proofs.Releases.mark.Goals as goal

pub mark_below-requires : goal.mark_below-requires
mark_below-requires c = record {
  given = given_in c.mark_above.ensures.frame.long c.requires.given;
  ready = backward_ready c.requires.given.both c.requires.ready c.mark_above.ensures;
  names_in_bounds = omega (arith, c.mark_above.auto.edges, c.requires.names_in_bounds);
}

pub returns : goal.returns
returns c = all_marked c.requires.given.both c.mark_above.ensures c.mark_below.ensures
