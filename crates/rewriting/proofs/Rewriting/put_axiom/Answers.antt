-- `put_axiom` meets its contract: the left name, the kind and the tail, one after the other.
use native.Mathlib.Omega.{arith}
use Rattle.output.proofs.Puts.{put_as, put_then}
use Rattle.rewriting.proofs.Pieces.{axiom_pieces}
use Rattle.rewriting.proofs.Rewriting.put_axiom.Goals as goal

pub returns : goal.returns
returns c =
    put_as (axiom_pieces _ _ _ _ _ _ c.number-left.ensures c.width.ensures c.requires.kind (omega arith))
    (put_then c.put_number-first.ensures (put_then c.put_byte-second.ensures c.put_tail.ensures))
