-- `visit` meets its contract: a look, or nothing.
use Rattle.witness_below.proofs.Going.{pair_at, look_asks}
use Rattle.witness_below.proofs.passes.visit.Goals as goal

pub look-step-requires : goal.look-step-requires
look-step-requires c = look_asks c.requires.0 (pair_at _ _ c.requires.1) c.value.ensures c.if-value-ne-OPEN.false
