-- `row_of` meets its contract: the row is told of the signature's names and of the bytes that are computed.
use Rattle.branches.proofs.Rows.{result_lent, names_lent, take_few, bytes_told}
use lib.Seq.{length-take-le}
use mathlib.Core.Path.{refl, sym}
use Rattle.branches.proofs.filling.row_of.Goals as goal

pub compare_prepared-requires : goal.compare_prepared-requires
compare_prepared-requires c = record { given = c.requires.given; ready = c.requires.ready; names_in_bounds = c.args.releases.now.few; edges_in_bounds = c.requires.edges_in_bounds }

pub slice_bounds-tell-end : goal.slice_bounds-tell-end
slice_bounds-tell-end c = sym (length-take-le _ _ (names_lent c.requires.given))

pub slice_bounds-result-end : goal.slice_bounds-result-end
slice_bounds-result-end c = result_lent c.compare_prepared.ensures.reported refl

pub slice_bounds-tell-end-2 : goal.slice_bounds-tell-end-2
slice_bounds-tell-end-2 c = sym (length-take-le _ _ (result_lent c.compare_prepared.ensures.reported refl))

pub tell-requires : goal.tell-requires
tell-requires c = (take_few _ _ c.args.releases.now.few, take_few _ _ c.args.releases.now.few)

pub returns : goal.returns
returns c = let p = c.requires.given in record {
  row = rw (bytes_told p (result_lent c.compare_prepared.ensures.reported refl) c.compare_prepared.ensures.reported) at c.tell.ensures;
  same = c.compare_prepared.ensures.same;
}
