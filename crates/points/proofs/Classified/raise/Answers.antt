-- `raise` meets its contract: of the names before, the owner's row gained those above the atom.
use native.Mathlib.Omega.{arith}
use Rattle.points.proofs.Grids.{adds_end}
use Rattle.points.proofs.Raising.{raise_sets, raise_skips}
use Rattle.points.proofs.Classified.raise.Goals.{then-atom_below, else-atom_below}
use Rattle.points.proofs.Classified.raise.Goals as goal

pub loop-name-preserved : goal.loop-name-preserved
loop-name-preserved c = elim c.if-atom_below.branch [
  | then-atom_below w ↦ rw w.above-is (raise_sets c.requires c.loop-name.invariant c.atom_below.ensures _ c.owner-row.ensures c.loop-name-test.true w.if-atom_below.true w.add.ensures)
  | else-atom_below w ↦ rw w.above-is (raise_skips c.requires c.loop-name.invariant c.atom_below.ensures w.if-atom_below.false)
]

pub returns : goal.returns
returns c = record { adds = adds_end (omega arith) c.loop-name.invariant }
