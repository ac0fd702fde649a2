-- `put_tail` meets its contract: a byte, and then the conjuncts or the filler.
use native.Mathlib.Omega.{arith}
use Rattle.std.proofs.Common.{rules, tests}
use Rattle.output.proofs.Puts.{put_as, put_then}
use Rattle.rewriting.proofs.Pieces.{joined_bytes, restricted_bytes}
use Rattle.rewriting.proofs.Rewriting.put_tail.Goals as goal

pub returns-then-is_ok_and : goal.returns-then-is_ok_and
returns-then-is_ok_and c =
    put_as (joined_bytes _ _ c.args.kind _ c.args.tail (omega arith) (search (rules, tests))) (put_then c.put_byte-next.ensures (rw c.from.ensures at c.put_names.ensures))

pub returns : goal.returns
returns c =
    put_as (restricted_bytes _ _ c.args.kind _ c.args.tail (omega arith) (search (rules, tests)) _ _ c.number-filler.ensures c.filler_number-number.ensures)
    (put_then c.put_byte-next.ensures c.put_number.ensures)
