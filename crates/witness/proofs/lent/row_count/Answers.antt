-- `row_count` meets its contract: a third, rounded down.
use native.Mathlib.Omega.{arith}
use native.Mathlib.Nat.{mul-div-le}
use mathlib.Core.Path.{refl}
use lib.ListN.{length}
use Rattle.concept_rows.specs.Lent.{row_count}
use Rattle.witness.proofs.lent.row_count.Goals as goal

pub returns : goal.returns
unfolding row_count
returns c = (refl, omega (arith, mul-div-le (length c.args.rows.now) 3))
