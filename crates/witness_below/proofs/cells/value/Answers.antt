-- `value` meets its contract: three bytes are read.
use mathlib.Core.Path.{refl}
use native.Mathlib.Omega.{arith}
use Prim.Native.Nat.{◌+◌, ◌*◌}
use Rattle.witness_below.proofs.Numbering.{value_is}
use Rattle.witness_below.proofs.cells.value.Goals as goal

pub returns : goal.returns
returns c = value_is refl c.from-low.ensures c.from-middle.ensures c.from-high.ensures
    (omega (arith, c.from-low.ensures, c.type_inv.work (c.args.base + 3 * c.args.pair)))
    (omega (arith, c.from-middle.ensures, c.type_inv.work (c.args.base + 3 * c.args.pair + 1)))
    (omega (arith, c.from-high.ensures, c.type_inv.work (c.args.base + 3 * c.args.pair + 2)))
