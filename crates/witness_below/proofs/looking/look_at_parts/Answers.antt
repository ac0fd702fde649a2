-- `looking::look_at_parts` meets its contract: one law for each answer.
use mathlib.Core.Path.{refl}
use Rattle.witness_below.specs.Looking.{parts_asked, parts_none, parts_joined}
use Rattle.witness_below.proofs.looking.look_at_parts.Goals as goal

pub returns-in-Some : goal.returns-in-Some
returns-in-Some c = (parts_asked c.in-Some.ensures refl refl, refl)

pub join_parts-requires-clause-to_parts : goal.join_parts-requires-clause-to_parts
join_parts-requires-clause-to_parts c = rw c.in_default.ensures.same c.requires.to_parts

pub join_parts-requires-clause-all_marked : goal.join_parts-requires-clause-all_marked
join_parts-requires-clause-all_marked c = rw c.in_default.ensures.same c.in_default.ensures.all_marked

pub mark_node-requires-clause-room_for : goal.mark_node-requires-clause-room_for
mark_node-requires-clause-room_for c =
    rw (c.top-top.ensures, c.in_default-join_parts.ensures.same) (c.requires.room_for.1, tt, c.requires.numbers)

pub returns-in_default-join_parts : goal.returns-in_default-join_parts
returns-in_default-join_parts c =
    (parts_none c.in_default-join_parts.ensures.none (rw (c.top-top.ensures, c.in_default-join_parts.ensures.same, c.in_default.ensures.same) at c.mark_node.ensures.0), c.mark_node.ensures.1)

pub returns : goal.returns
returns c = (parts_joined (rw c.in_default.ensures.same at c.in-Some-join_parts.ensures.chain) (rw c.in_default.ensures.same at c.put_cell.ensures) c.made.ensures, refl)
