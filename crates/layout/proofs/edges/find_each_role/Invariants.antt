-- All roles, one after the other. Invariant: the sets of the roles before this one are found.
use Rattle.std.specs.Prelude.{◌≡◌, length}
use Rattle.layout.specs.Findings.{RolesStand}
use Rattle.layout.proofs.Findings.{Written}
use Rattle.layout.proofs.edges.find_each_role.Given as goal

abbrev pub invariant-loop-own : goal.invariant-loop-own
invariant-loop-own l =
    (length l.sets ≡ 32)
    × Written (RolesStand l.position l.first.table.now l.second.table.now l.chosen.0) l.own l.sets
