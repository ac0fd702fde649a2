-- `put_pool` meets its contract. The invariant: the pool's names from the one reached on are still to be put.
use Rattle.std.proofs.Common.{arith, sym, ◌∙◌}
use Rattle.output.proofs.Rest.{piece_put, nothing_left}
use Rattle.practice.proofs.Pools.{pool_begun, name_kept, pool_passed, pool_done}
use Rattle.practice.proofs.put_pool.Goals as goal

pub loop-name-init : goal.loop-name-init
loop-name-init c = pool_begun _ _ _ (omega arith)

pub loop-name-preserved-then-is_kind_2 : goal.loop-name-preserved-then-is_kind_2
loop-name-preserved-then-is_kind_2 c =
    pool_passed _ _ c.loop-name-test.true c.kind.ensures.state c.kind.ensures.kind (sym c.is_kind_2.ensures ∙ c.if-is_kind_2.true) c.loop-name.invariant

pub loop-name-preserved : goal.loop-name-preserved
loop-name-preserved c =
    piece_put (name_kept _ _ c.loop-name-test.true c.kind.ensures.state c.kind.ensures.kind (sym c.is_kind_2.ensures ∙ c.if-is_kind_2.false)) c.loop-name.invariant c.put_byte-size.ensures

pub returns : goal.returns
returns c = nothing_left (pool_done _ _ _ _ c.loop-name-test.false) c.loop-name.invariant
