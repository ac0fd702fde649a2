-- `put` meets its contract: three bytes are written, and they give the number.
use mathlib.Core.Path.{refl}
use Rattle.witness_below.proofs.Numbering.{value_put}
use Rattle.witness_below.proofs.cells.put.Goals as goal

pub returns : goal.returns
returns c = value_put _ _ _ _ _ _ _ c.requires.0 refl refl refl
