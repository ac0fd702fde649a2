-- `put_spaces` meets its contract: the spaces so far are put.
use Rattle.std.proofs.lemmas.List.{replicate_more}
use Rattle.output.specs.Numbers.{space}
use Rattle.output.proofs.Puts.{put_as, put_then}
use Rattle.output.proofs.put_spaces.Goals as goal

pub loop-space-preserved : goal.loop-space-preserved
loop-space-preserved c = put_as (replicate_more c.loop-space._space space) (put_then c.loop-space.invariant c.put_byte-next.ensures)
