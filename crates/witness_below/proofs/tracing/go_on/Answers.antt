-- `tracing::go_on` meets its contract: the pair is one of all, so it has a row and a column.
use Rattle.witness_below.proofs.Going.{pair_at, to_follow}
use Rattle.witness_below.proofs.tracing.go_on.Goals as goal

pub follow-requires : goal.follow-requires
follow-requires c = to_follow c.requires.room.0 (pair_at _ _ c.requires.inside.0)
