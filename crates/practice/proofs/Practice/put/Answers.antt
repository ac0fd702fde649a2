-- `put` meets its contract: the header, and then the axioms.
use Rattle.output.proofs.Puts.{put_as, put_then}
use Rattle.rewriting.proofs.Pieces.{header_pieces}
use Rattle.practice.specs.Practice.{practice_file}
use Rattle.practice.proofs.Practice.put.Goals as goal

pub returns : goal.returns
unfolding practice_file
returns c = put_as (header_pieces 1 _ _ _) (put_then (rw c.axiom_count.ensures at c.put_header-after_header.ensures) c.put_axioms.ensures)
