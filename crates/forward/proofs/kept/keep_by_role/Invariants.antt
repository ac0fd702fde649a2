-- The names noted, one after the other, which are a hint. Invariant: what is in the line has a partner.
use Rattle.marks.specs.Columns.{Walkable}
use Rattle.forward.specs.Rules.{Partnered}
use Rattle.forward.proofs.kept.keep_by_role.Given as goal

abbrev pub invariant-loop-name : goal.invariant-loop-name
invariant-loop-name l =
    Walkable l.given.layout.names l.name-iterator
    × Partnered l.given l.work l.end l.asked.role.0 l.kept
