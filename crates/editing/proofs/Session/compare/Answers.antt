-- What is lent are the two files and the signature's bytes.
use mathlib.Core.Path.{refl}
use native.Mathlib.Omega.{arith}
use Rattle.editing.specs.Sessions.{with_result}
use Rattle.editing.proofs.Sessions.{compared}
use Rattle.editing.proofs.Session.compare.Goals as goal

pub returns : goal.returns
unfolding with_result
returns c = compared _ c.requires c.text.ensures c.text-2.ensures (omega arith) refl (omega (arith, c.compare_releases.auto.role_result)) c.compare_releases.ensures
