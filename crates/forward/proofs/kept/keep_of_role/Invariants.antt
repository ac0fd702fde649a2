-- All names with the role, one after the other. Invariant: the line has just what the names before this one keep.
use Rattle.forward.proofs.Tested.{KeptTo}
use Rattle.forward.proofs.kept.keep_of_role.Given as goal

abbrev pub invariant-loop-name : goal.invariant-loop-name
invariant-loop-name l = KeptTo l.given l.work l.end l.asked.role.0 l.name l.kept
