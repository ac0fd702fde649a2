-- `pair` meets its contract: the number of a pair is one of all.
use mathlib.Core.Path.{refl}
use Rattle.witness_below.proofs.Numbering.{pair_is}
use Rattle.witness_below.proofs.cells.pair.Goals as goal

pub returns : goal.returns
returns c = pair_is c.requires.0 c.requires.1 refl
