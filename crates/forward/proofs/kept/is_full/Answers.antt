-- Where the search from 0 on finds no node that is not marked, each is.
use Rattle.forward.proofs.Tested.{row_full}
use Rattle.forward.proofs.kept.is_full.Goals as goal

pub returns-then-is_marked : goal.returns-then-is_marked
returns-then-is_marked c e = row_full _ c.next_unmarked.ensures c.is_none.ensures e
