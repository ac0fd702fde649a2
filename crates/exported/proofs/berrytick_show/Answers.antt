-- A shown axiom stands in an accepted file, which is short.
use native.Mathlib.Omega.{arith}
use Rattle.exported.proofs.Lengths.{shown_fits}
use Rattle.exported.proofs.berrytick_show.Goals as goal

pub overflow_cast-place : goal.overflow_cast-place
overflow_cast-place c = omega (arith, (shown_fits c.args.first.now c.args.second.now (c.type_inv.first 10).fits (c.type_inv.second 10).fits _ _ _ c.axiom_place-shown.ensures).start)

pub overflow_cast-place-2 : goal.overflow_cast-place-2
overflow_cast-place-2 c = omega (arith, (shown_fits c.args.first.now c.args.second.now (c.type_inv.first 10).fits (c.type_inv.second 10).fits _ _ _ c.axiom_place-shown.ensures).length)
