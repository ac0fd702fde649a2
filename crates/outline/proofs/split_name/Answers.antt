-- `split_name` meets its contract: the name's number is the one that release reads.
use Prim.Native.Nat.{◌≤◌}
use lib.ListN.{length}
use Rattle.std.proofs.lemmas.List.{take_rest}
use Rattle.release.specs.Versions.{width}
use native.Mathlib.Omega.{arith}
use mathlib.Core.Path.{sym, ◌∙◌}
use Rattle.outline.proofs.Names.{same_number, number_fits}
use Rattle.outline.proofs.split_name.Goals as goal

pub overflow_cast-result : goal.overflow_cast-result
overflow_cast-result c = omega (arith, c.number.ensures, number_fits c.args.version c.args.bytes.now (λ k. omega (arith, c.type_inv.bytes k)))

pub returns : goal.returns
returns c =
    let found = c.in_ok-rest.ensures.lookup in
    let long : width c.args.version ≤ length c.args.bytes.now = omega (arith, found.0, c.width.ensures) in
    record { long = long; value = same_number c.args.version c.args.bytes.now long ∙ sym c.number.ensures; rest = rw (← c.width.ensures) (sym (found.0.2 ∙ take_rest c.args.bytes.now c.width.result)) }
