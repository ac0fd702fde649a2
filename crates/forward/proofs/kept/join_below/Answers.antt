-- What lies below a name is its row of the turned inclusions.
use Rattle.forward.proofs.Tested.{second_small, join_asks, joined_below}
use Rattle.forward.proofs.kept.join_below.Goals as goal

pub below-requires : goal.below-requires
below-requires c = second_small c.requires.beneath

pub join-requires : goal.join-requires
join-requires c =
    let asked = join_asks c.below.ensures c.requires.beneath c.requires.name_lt_names c.requires.spans in
    record { room = asked.0; x_le_names = asked.1.0; spans = asked.1.1 }

pub returns : goal.returns
returns c = joined_below c.below.ensures c.requires.beneath c.requires.name_lt_names c.join.ensures
