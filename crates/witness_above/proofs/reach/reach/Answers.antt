-- `reach::reach` meets its contract: no edge was followed, the pair asked for is noted, and then all that is noted is expanded.
use Rattle.witness_above.proofs.Reaching.{start_followed, reached}
use Rattle.witness_above.proofs.reach.reach.Goals as goal

pub settle_all-requires-clause-followed : goal.settle_all-requires-clause-followed
settle_all-requires-clause-followed c = start_followed c.requires.reach c.clear_edges.ensures c.note.ensures

pub returns : goal.returns
returns c = reached c.requires.blank c.requires.asked_le_names c.clear_edges.ensures c.note.ensures c.settle_all.ensures
