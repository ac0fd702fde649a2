-- `put_pool` meets its contract. The invariant: the pool's names from the one reached on are still to be put.
use Rattle.output.proofs.Rest.{Rest}
use Rattle.practice.specs.Practice.{practice_pool}
use Rattle.practice.proofs.Pools.{pool_left}
use Rattle.practice.proofs.put_pool.Given as goal

abbrev pub invariant-loop-name : goal.invariant-loop-name
invariant-loop-name l = Rest l.initial.pool 0 (practice_pool l.seed l.names l.roles) l.pool l.size (pool_left l.names l.roles l.name l.kinds.state)
