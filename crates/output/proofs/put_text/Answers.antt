-- `put_text` meets its contract: after i bytes the first i bytes of the text are put.
use Rattle.std.proofs.Common.{sym}
use Rattle.std.proofs.lemmas.List.{take_more}
use Rattle.output.proofs.Puts.{put_as, put_then}
use Rattle.output.proofs.put_text.Goals as goal

pub loop-byte-preserved : goal.loop-byte-preserved
loop-byte-preserved c = put_as (sym (take_more c.args.text.now c.loop-byte.byte-index 0 c.loop-byte-test.true)) (put_then c.loop-byte.invariant c.put_byte-next.ensures)
