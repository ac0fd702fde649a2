-- What marking gives is what writing the bytes asks.
use Rattle.comparison.proofs.Pipeline.{readable, marking}
use Rattle.comparison.proofs.Releases.write_marked.Goals as goal

pub write_bytes-requires-clause-readable : goal.write_bytes-requires-clause-readable
write_bytes-requires-clause-readable c = rw (c.forward_layout-forward.ensures, c.backward_layout-backward.ensures) (readable c.requires.given.both c.mark.ensures c.requires.given.signature)

pub returns : goal.returns
returns c = marking c.requires.given.both c.mark.ensures (rw (c.forward_layout-forward.ensures, c.backward_layout-backward.ensures) at c.write_bytes.ensures)
