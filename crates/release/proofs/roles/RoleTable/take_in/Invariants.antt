-- The pair is taken in by the entries dealt with.
use Rattle.release.specs.Roles.{pair_of}
use Rattle.release.proofs.RoleTables.{Taking}
use Rattle.release.proofs.roles.RoleTable.take_in.Given as goal

abbrev pub invariant-loop-asked : goal.invariant-loop-asked
invariant-loop-asked l = Taking (pair_of l.pair) l.fn.self l.self l.asked
