-- `is_text` meets its contract. The loop keeps that the bytes are a concept's exactly where `rest` is `pending` concepts.
use lib.ListN.{length}
use Rattle.release.specs.Versions.{width}
use Rattle.outline.proofs.Readable.{Scan}
use Rattle.outline.proofs.is_text.Given as goal

abbrev pub invariant-loop-pending : goal.invariant-loop-pending
invariant-loop-pending l = Scan (width l.version) l.names l.roles l.bytes l.rest l.pending

abbrev pub decreases-loop-pending : goal.decreases-loop-pending
decreases-loop-pending l = length l.rest
