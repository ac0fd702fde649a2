-- The inclusions are filled in, then the second ones are turned.
use native.Mathlib.Omega.{arith}
use Rattle.comparison.proofs.Pipeline.{prepared}
use Rattle.comparison.proofs.Releases.prepare.Goals as goal

pub turn_second-requires : goal.turn_second-requires
turn_second-requires c = omega (arith, c.requires.room, c.fill_inclusions.ensures.long)

pub returns : goal.returns
returns c = prepared c.fill_inclusions.ensures c.turn_second.ensures
