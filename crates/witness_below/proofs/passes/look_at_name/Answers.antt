-- `passes::look_at_name` meets its contract: one law for each answer.
use native.Mathlib.Omega.{arith}
use mathlib.Core.Path.{sym, refl, ◌∙◌}
use borrow.Author.Tests.{eqb-true, eq-eqb}
use Rattle.el.proofs.Tests.{not_both}
use Rattle.witness_below.proofs.Going.{room_one, to_filler, name_looks, kind_looks, filler_looks}
use Rattle.witness_below.proofs.passes.look_at_name.Goals as goal

pub mark_node-requires-clause-room_for : goal.mark_node-requires-clause-room_for
mark_node-requires-clause-room_for c = let given = c.requires.0 in
    rw c.name.ensures (room_one given, omega (arith, c.args.given.now.layout.few, c.in-Some.ensures.is_name), omega (arith, given.state.numbers, c.in-Some.ensures.is_name))

pub returns-in-Some : goal.returns-in-Some
returns-in-Some c = name_looks c.requires.0 c.requires.1 c.in-Some.ensures (rw c.name.ensures at c.mark_node.ensures)

pub look_at_filler-requires : goal.look_at_filler-requires
look_at_filler-requires c = (to_filler c.requires.0 c.requires.1.is_name refl (eqb-true _ _ (sym c.has_kind.ensures ∙ c.if-has_kind.true)), room_one c.requires.0)

pub returns-then-has_kind : goal.returns-then-has_kind
returns-then-has_kind c = filler_looks c.requires.0 c.requires.1 c.in_default.ensures (eqb-true _ _ (sym c.has_kind.ensures ∙ c.if-has_kind.true)) c.look_at_filler.ensures

pub returns : goal.returns
returns c = rw c.idle.ensures (kind_looks c.requires.0 c.requires.1 c.in_default.ensures (λ e. not_both (eq-eqb _ _ e) (sym c.has_kind.ensures ∙ c.if-has_kind.false)))
