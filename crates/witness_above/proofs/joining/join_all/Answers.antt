-- `joining::join_all` meets its contract: the row alone where the pair asked for is lost by it; else it is joined to all, and the pair stays held.
use mathlib.Core.Path.{sym}
use Rattle.marks.proofs.Squares.{refuted}
use Rattle.witness_above.proofs.Steps.{line_tells}
use Rattle.witness_above.proofs.JoinedRows.{first_join, others_asked, all_joined, asked_lost}
use Rattle.witness_above.proofs.joining.join_all.Goals.{else-x-asked-via-then-x-asked+else-not-holds, else-x-asked-via-else-x-asked}
use Rattle.witness_above.proofs.joining.join_all.Goals as goal

pub returns-then-not-holds : goal.returns-then-not-holds
returns-then-not-holds c = asked_lost c.requires c.if-x-asked.true (refuted (line_tells c.holds.ensures) c.if-not-holds.true) c.meet.ensures

pub join-written-requires : goal.join-written-requires
join-written-requires c = first_join c.requires

pub join_others-requires : goal.join_others-requires
join_others-requires c = others_asked c.requires c.join-written.ensures (elim c.else-x-asked.branch [
  | else-x-asked-via-then-x-asked+else-not-holds w ↦ λ e. (line_tells w.holds.ensures).sound w.if-not-holds.false
  | else-x-asked-via-else-x-asked w ↦ λ e. absurd (w.if-x-asked.false (sym e))
])

pub returns : goal.returns
returns c = all_joined c.requires c.join-written.ensures c.join_others.ensures
