-- Memory is marked, and the marks are taken out again.
use Rattle.comparison.proofs.Pipeline.{compared_again}
use Rattle.comparison.proofs.Releases.compare_prepared.Goals as goal

pub returns : goal.returns
returns c = compared_again c.requires.ready c.write_marked.ensures (rw c.size.ensures.0 at c.unmark.ensures)
