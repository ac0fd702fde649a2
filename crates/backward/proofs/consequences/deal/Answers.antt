-- What is put for each rule, after hints, which are no marks.
use Rattle.marks.proofs.Passes.{grows_further, kept_grows}
use Rattle.backward.proofs.Tested.{below_grows}
use Rattle.backward.proofs.consequences.deal.Goals as goal

pub returns : goal.returns
returns c = grows_further (kept_grows (rw c.mark_square.ensures at c.see.ensures.0))
    (grows_further (below_grows c.put_above.ensures) (grows_further c.put_by_filler.ensures (grows_further c.put_by_part.ensures c.put_all_columns.ensures)))
