-- The first role of an edge comes as it is; a full row leaves nothing to mark by any, and the others are asked by what was noted.
use Rattle.forward.proofs.Tested.{open_further, open_full}
use Rattle.forward.proofs.kept.next_role.Goals as goal

pub returns-then-is_full : goal.returns-then-is_full
returns-then-is_full c = open_full c.mark_square.ensures (c.is_full.ensures c.if-is_full.true)

pub returns : goal.returns
returns c = open_further _ _ _ _ c.in_ok-role.ensures c.next_open.ensures
