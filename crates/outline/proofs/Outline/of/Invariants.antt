-- `of` meets its contract. The loop keeps what is read, pending and written for every concept whose text the bytes are; it ends since
-- each turn reads a byte.
use lib.ListN.{length}
use Rattle.release.specs.Versions.{width}
use Rattle.outline.proofs.Turns.{States}
use Rattle.outline.proofs.Outline.of.Given as goal

abbrev pub invariant-loop-pending : goal.invariant-loop-pending
invariant-loop-pending l = States (width l.version) l.bytes l.rest l.pending l.roots l.count l.owners l.atoms

abbrev pub decreases-loop-pending : goal.decreases-loop-pending
decreases-loop-pending l = length l.rest
