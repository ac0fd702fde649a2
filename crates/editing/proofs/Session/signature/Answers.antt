-- The counts of a session that can be edited are within its signature's bytes.
use native.Mathlib.Omega.{arith}
use Rattle.editing.proofs.Readers.{counts_few}
use Rattle.editing.proofs.Session.signature.Goals as goal

pub shared_ref_as_front-result : goal.shared_ref_as_front-result
shared_ref_as_front-result c = omega (arith, c.from.ensures, c.from-in-Some.ensures, counts_few _ c.in-Some.ensures.0 c.in-Some.ensures.1)
