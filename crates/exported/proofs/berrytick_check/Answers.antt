-- The counts of an accepted release are small.
use native.Mathlib.Omega.{arith}
use Rattle.exported.proofs.Lengths.{counts_fit}
use Rattle.exported.proofs.berrytick_check.Goals as goal

pub overflow_cast-counts : goal.overflow_cast-counts
overflow_cast-counts c = omega (arith, (counts_fit _ _ c.in-Ok.ensures).names)

pub overflow_cast-counts-in-Ok : goal.overflow_cast-counts-in-Ok
overflow_cast-counts-in-Ok c = omega (arith, (counts_fit _ _ c.in-Ok.ensures).roles)

pub overflow_cast-counts-in-Ok-2 : goal.overflow_cast-counts-in-Ok-2
overflow_cast-counts-in-Ok-2 c = omega (arith, (counts_fit _ _ c.in-Ok.ensures).axioms)
