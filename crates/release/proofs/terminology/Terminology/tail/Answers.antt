-- The tail of a row is its field, widened.
use Rattle.release.specs.Tables.{tail_at}
use Rattle.release.proofs.terminology.Terminology.tail.Goals as goal

pub returns : goal.returns
unfolding tail_at
returns c = c.from.ensures
