-- `finding::find_partner` meets its contract: by a role that does not serve; else by one that does.
use Rattle.witness_below.proofs.Partners.{free_partner, filler_partner, no_edge, over_top}
use Rattle.witness_below.proofs.finding.find_partner.Goals as goal

pub returns-in-Some : goal.returns-in-Some
returns-in-Some c = free_partner c.serving-serving.ensures c.without.ensures c.in-Some.ensures

pub returns-in_err-role : goal.returns-in_err-role
returns-in_err-role c = rw c.from_residual.ensures (no_edge c.serving-serving.ensures c.without.ensures c.requires c.in_default.ensures c.in_err-role.ensures)

pub returns-then-given-over : goal.returns-then-given-over
returns-then-given-over c = over_top c.serving-serving.ensures c.without.ensures c.requires c.in_default.ensures c.filler-over.ensures c.if-given-over.true

pub returns : goal.returns
returns c = filler_partner c.serving-serving.ensures c.without.ensures c.requires c.in_default.ensures c.in_ok-role.ensures c.filler-over.ensures c.if-given-over.false
