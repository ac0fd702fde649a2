-- `reach::settle_all` meets its contract. Each pass but the last gives some pair byte 1, which it had not.
use Rattle.witness_above.proofs.Reaching.{sweep_less}
use Rattle.witness_above.proofs.reach.settle_all.Goals as goal

pub loop-smaller : goal.loop-smaller
loop-smaller c = sweep_less c.expand_all.ensures c.loop-test.true
