-- The length of a page fits a lent number.
use Rattle.exported.proofs.Lengths.{page_length_fits}
use Rattle.exported.proofs.pages.berrytick_page_length.Goals as goal

pub give_length-requires : goal.give_length-requires
give_length-requires c = page_length_fits _ _ c.page_length.ensures

pub returns : goal.returns
returns c = rw c.page_length.ensures at c.give_length.ensures
