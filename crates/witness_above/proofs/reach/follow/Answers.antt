-- `reach::follow` meets its contract: the byte of the edge and the node says whether there is something to note.
use Rattle.row_evaluation.proofs.RowBytes.{room_same}
use Rattle.witness_above.proofs.Reaching.{edge_restricts, edge_room, edge_again, edge_new}
use Rattle.witness_above.proofs.reach.follow.Goals as goal

pub holds-requires-clause-room : goal.holds-requires-clause-room
holds-requires-clause-room c = edge_room _ _ c.requires.c_lt_names.0 c.requires.reach.edges

pub settle-requires-clause-room : goal.settle-requires-clause-room
settle-requires-clause-room c = room_same c.note_row.ensures.noting.long (edge_room _ _ c.requires.c_lt_names.0 c.requires.reach.edges)

pub returns-then-holds : goal.returns-then-holds
returns-then-holds c = let p = c.requires in edge_again p.followed p.c_lt_names.0 p.c_lt_names.1 (c.holds.ensures.sound c.if-holds.true)

pub returns : goal.returns
returns c =
    let p = c.requires in
    edge_new p.reach p.c_lt_names.0 p.c_lt_names.1 (edge_restricts c.args.given.now.edges_found p.c_lt_names.0 p.edge) c.serving-roles.ensures c.filler-node.ensures c.note_row.ensures
    c.settle.ensures
