-- `put_conjunction` meets its contract: the names on from the start end in the pool, or go round its end.
use Rattle.std.proofs.Common.{arith, sym}
use lib.Seq.{length-take-le}
use Rattle.output.proofs.Puts.{put_as, put_then}
use Rattle.practice.specs.Draws.{next}
use Rattle.practice.proofs.Choices.{drawn_below, parts_drawn}
use Rattle.practice.proofs.Pools.{rises_as}
use Rattle.practice.proofs.Pieces.{start_within, first_within, straight_bytes, round_bytes}
use Rattle.practice.proofs.Practice.put_conjunction.Goals as goal

pub overflow_add-count : goal.overflow_add-count
overflow_add-count c = omega (arith, c.min.ensures, c.draw-count.ensures.choice, drawn_below (next c.args.draws.now.state) c.min.result (omega (arith, c.min.ensures, c.requires)))

pub split_at-requires : goal.split_at-requires
split_at-requires c =
    let parts = parts_drawn _ _ c.min.ensures c.draw-count.ensures.choice c.draw-count.ensures.state c.draw-start.ensures.choice in
    omega (arith, start_within (omega (arith, c.args.self.now.few)) (rises_as _ _ _ c.args.self.now.pooled) _ c.requires parts)

pub returns-then-count-on-clause-put : goal.returns-then-count-on-clause-put
returns-then-count-on-clause-put c =
    let parts = parts_drawn _ _ c.min.ensures c.draw-count.ensures.choice c.draw-count.ensures.state c.draw-start.ensures.choice in
    put_as (straight_bytes (omega (arith, c.args.self.now.few)) (rises_as _ _ _ c.args.self.now.pooled) _ c.requires parts _ c.split_at.ensures.back c.if-count-on.true)
    (put_then c.put_number-counted.ensures c.put_text.ensures)

pub slice_bounds-put_text-length : goal.slice_bounds-put_text-length
slice_bounds-put_text-length c =
    let parts = parts_drawn _ _ c.min.ensures c.draw-count.ensures.choice c.draw-count.ensures.state c.draw-start.ensures.choice in
    let within = first_within (omega (arith, c.args.self.now.few)) (rises_as _ _ _ c.args.self.now.pooled) _ c.requires parts _ c.split_at.ensures.back c.if-count-on.false in
    sym (length-take-le _ _ (omega (arith, within, c.split_at.ensures.front_len)))

pub returns-clause-put : goal.returns-clause-put
returns-clause-put c =
    let parts = parts_drawn _ _ c.min.ensures c.draw-count.ensures.choice c.draw-count.ensures.state c.draw-start.ensures.choice in
    put_as (round_bytes (omega (arith, c.args.self.now.few)) (rises_as _ _ _ c.args.self.now.pooled) _ c.requires parts _ c.split_at.ensures.back _ c.split_at.ensures.front c.if-count-on.false)
    (put_then c.put_number-counted.ensures (put_then c.put_text-round.ensures c.put_text-2.ensures))
