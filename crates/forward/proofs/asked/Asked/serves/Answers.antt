-- The set has the role of the name exactly where that serves.
use Rattle.el.proofs.Tests.{tells_iff, tells_true}
use Rattle.release.proofs.RoleTables.{tells_same}
use Rattle.forward.proofs.asked.Asked.serves.Goals as goal

pub returns : goal.returns
returns c = tells_same (rw c.role.ensures at c.has_small.ensures) (tells_iff (c.requires.asks.each _) (tells_true _))
