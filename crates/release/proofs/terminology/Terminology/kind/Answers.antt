-- The kind of a name is the field of its row.
use mathlib.Core.Path.{refl}
use Rattle.release.specs.Tables.{kind_at}
use Rattle.release.proofs.terminology.Terminology.kind.Goals as goal

pub returns : goal.returns
unfolding kind_at
returns c = refl
