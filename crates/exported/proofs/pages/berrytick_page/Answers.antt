-- The length of a page fits a lent number.
use Rattle.exported.proofs.Lengths.{page_fits}
use Rattle.exported.proofs.pages.berrytick_page.Goals as goal

pub give_length-requires : goal.give_length-requires
give_length-requires c = page_fits _ _ _ _ c.write_page.ensures

pub returns : goal.returns
returns c = record { answer = c.write_page.result; says = c.write_page.ensures; returns = c.give_length.ensures }
