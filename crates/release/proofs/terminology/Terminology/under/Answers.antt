-- The entry of the table.
use Rattle.release.specs.Tables.{serves_at}
use Rattle.release.proofs.terminology.Terminology.under.Goals as goal

pub returns : goal.returns
unfolding serves_at
returns c = record { tells = c.under.ensures.tells; all = c.under.ensures.all }
