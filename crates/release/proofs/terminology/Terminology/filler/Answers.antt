-- The filler of a row is its field, widened.
use Rattle.release.specs.Tables.{filler_at}
use Rattle.release.proofs.terminology.Terminology.filler.Goals as goal

pub returns : goal.returns
unfolding filler_at
returns c = c.from.ensures
