-- The table of roles tells it.
use Rattle.release.specs.Tables.{serves_at}
use Rattle.release.proofs.terminology.Terminology.serves.Goals as goal

pub returns : goal.returns
unfolding serves_at
returns c = c.serves.ensures
