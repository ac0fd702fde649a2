-- `is_kind_2` meets its contract: kind 2 is told by its number.
use Rattle.practice.proofs.is_kind_2.Goals as goal

pub returns : goal.returns
returns c = rw (c.number_of.ensures, c.in-Some.is)
