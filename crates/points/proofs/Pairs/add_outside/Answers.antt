-- `add_outside` meets its contract: of the roots in the bytes before, the row gained those that the line does not have.
use native.Mathlib.Omega.{arith}
use Rattle.points.proofs.Grids.{adds_end}
use Rattle.points.proofs.RowBytes.{byte_added}
use Rattle.points.proofs.Pairs.add_outside.Goals as goal

pub loop-i-preserved : goal.loop-i-preserved
loop-i-preserved c = byte_added c.loop-i.invariant c.loop-i-test.true (omega arith)

pub returns : goal.returns
returns c = adds_end (omega arith) c.loop-i.invariant
