-- `turns::turn_edge` meets its contract: the line is what lies below ∃ over what is held for the filler, by the second release.
use Rattle.witness_above.proofs.EdgeTurns.{restriction_asks, edge_asks, edge_idle, edge_turned}
use Rattle.witness_above.proofs.turns.turn_edge.Goals as goal

pub returns-in_default : goal.returns-in_default
returns-in_default c = edge_idle c.requires.turn c.requires.edge c.filler-node.ensures c.wide-old.ensures.0 c.clear_line.ensures c.line_edge.ensures c.in_default.ensures

pub put_restriction-row-requires : goal.put_restriction-row-requires
put_restriction-row-requires c = restriction_asks c.requires.turn c.requires.edge c.filler-node.ensures c.wide-old.ensures.0 c.clear_line.ensures
    c.line_edge.ensures c.wide-old.ensures.1

pub join_all-requires : goal.join_all-requires
join_all-requires c = edge_asks c.requires.turn c.requires.edge c.filler-node.ensures c.wide-old.ensures.0 c.clear_line.ensures c.line_edge.ensures c.in-Some.ensures
    c.put_restriction-row.ensures

pub returns : goal.returns
returns c = edge_turned c.requires.turn c.requires.edge c.filler-node.ensures c.wide-old.ensures.0 c.clear_line.ensures c.line_edge.ensures c.in-Some.ensures
    c.put_restriction-row.ensures c.join_all.ensures
