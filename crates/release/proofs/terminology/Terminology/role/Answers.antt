-- The role of a row is its field.
use mathlib.Core.Path.{refl}
use Rattle.release.specs.Tables.{role_at}
use Rattle.release.proofs.terminology.Terminology.role.Goals as goal

pub returns : goal.returns
unfolding role_at
returns c = refl
