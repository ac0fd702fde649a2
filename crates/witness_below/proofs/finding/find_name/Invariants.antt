-- `find_name` meets its contract: the invariant says that there is none so far.
use Rattle.witness_below.proofs.Searching.{NoName}
use Rattle.witness_below.proofs.finding.find_name.Given as goal

abbrev pub invariant-loop-name : goal.invariant-loop-name
invariant-loop-name l = NoName l.given l.work l.x l.y l.name
