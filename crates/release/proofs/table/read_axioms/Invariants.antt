-- The axioms read so far stand in the table, and the fault of all is the fault of those that are left.
use Prim.Native.Nat.{◌-◌}
use Rattle.release.proofs.Scan.{Going}
use Rattle.release.proofs.table.read_axioms.Given as goal

abbrev pub invariant-loop-read : goal.invariant-loop-read
invariant-loop-read l = Going l.fn.counts.names l.fn.counts.roles l.fn.counts.axioms l.file l.fn.table l.table (l.fn.counts.axioms - l._read) l.at l.least
