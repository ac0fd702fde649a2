-- `put_names` meets its contract. The invariant: the names from the place reached on are still to be written.
use mathlib.Core.Path.{refl}
use native.Mathlib.Omega.{arith}
use Rattle.output.proofs.Rest.{piece_put, nothing_left}
use Rattle.rewriting.proofs.Pieces.{first_name, no_name}
use Rattle.rewriting.proofs.Stands.{others_inside, one_left}
use Rattle.rewriting.proofs.Rewriting.put_names.Goals as goal

pub loop-name-preserved : goal.loop-name-preserved
loop-name-preserved c =
    rw c.width-place.ensures (record {
      inside = others_inside _ _ _ _ (omega arith) c.loop-name.invariant.inside _ (one_left refl c.loop-name-test.true);
      left = piece_put (first_name _ _ _ _ _ _ (one_left refl c.loop-name-test.true) _ c.number-name.ensures) c.loop-name.invariant.left c.put_number-next.ensures;
    })

pub returns : goal.returns
returns c = nothing_left (no_name _ _ _ _ _ (omega arith)) c.loop-name.invariant.left
