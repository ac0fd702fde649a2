-- The length of a practice release fits a lent number.
use Rattle.exported.proofs.Lengths.{practice_fits}
use Rattle.exported.proofs.practice_releases.berrytick_practice.Goals as goal

pub give_length-requires : goal.give_length-requires
give_length-requires c = practice_fits _ _ _ _ c.make_practice.ensures

pub returns : goal.returns
returns c = record { answer = c.make_practice.result; says = c.make_practice.ensures; returns = c.give_length.ensures }
