-- `passes::look` meets its contract: one law for each answer.
use native.Mathlib.Omega.{arith}
use mathlib.Core.Path.{sym, refl, ◌∙◌}
use borrow.Author.Tests.{eqb-true}
use Rattle.marks.proofs.Squares.{refuted}
use Rattle.witness_below.proofs.Going.{to_column, room_one, to_parts, parts_room, column_looks, everything_looks, parts_look}
use Rattle.witness_below.proofs.passes.look.Goals as goal

pub look_at_column-changed-requires : goal.look_at_column-changed-requires
look_at_column-changed-requires c = to_column c.requires (c.is_joined.ensures.sound c.if-is_joined.true)

pub returns-then-is_joined : goal.returns-then-is_joined
returns-then-is_joined c = column_looks c.requires (c.is_joined.ensures.sound c.if-is_joined.true) c.look_at_column-changed.ensures

pub mark_node-requires-clause-room_for : goal.mark_node-requires-clause-room_for
mark_node-requires-clause-room_for c = let given = c.requires in rw c.top-top.ensures (room_one given, tt, omega (arith, given.row, given.state.numbers))

pub returns-then-given-x : goal.returns-then-given-x
returns-then-given-x c = everything_looks c.requires (refuted c.is_joined.ensures c.if-is_joined.false) c.if-given-x.true (rw c.top-top.ensures at c.mark_node.ensures)

pub look_at_parts-requires-clause-to_parts : goal.look_at_parts-requires-clause-to_parts
look_at_parts-requires-clause-to_parts c = to_parts c.requires c.if-given-x.false refl (eqb-true _ _ (sym c.has_kind.ensures ∙ c.if-has_kind.true))

pub look_at_parts-requires-clause-room_for : goal.look_at_parts-requires-clause-room_for
look_at_parts-requires-clause-room_for c = (parts_room c.requires c.if-given-x.false refl (eqb-true _ _ (sym c.has_kind.ensures ∙ c.if-has_kind.true)), room_one c.requires)

pub returns-then-has_kind : goal.returns-then-has_kind
returns-then-has_kind c = parts_look c.requires (refuted c.is_joined.ensures c.if-is_joined.false) c.if-given-x.false (eqb-true _ _ (sym c.has_kind.ensures ∙ c.if-has_kind.true))
    c.look_at_parts.ensures
