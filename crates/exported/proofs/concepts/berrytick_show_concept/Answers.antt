-- The rows written are few enough for a lent number.
use Rattle.exported.proofs.Lengths.{rows_fit}
use Rattle.exported.proofs.concepts.berrytick_show_concept.Goals as goal

pub give_length-requires : goal.give_length-requires
give_length-requires c = rows_fit _ c.show_concept-shown.ensures
