-- The pairs read so far are taken in, and the fault of all is the fault of those that are left.
use Rattle.release.specs.Roles.{pair_of}
use Rattle.release.proofs.RolePairs.{PairsGoing}
use Rattle.release.proofs.pairs.read_pairs.Given as goal

abbrev pub invariant-loop-index : goal.invariant-loop-index
invariant-loop-index l = PairsGoing l.fn.counts.roles l.file l.roles l.index (pair_of l.least)
