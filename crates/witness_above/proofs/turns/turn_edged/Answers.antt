-- `turns::turn_edged` meets its contract. Invariant: turns were made for the roles found so far.
use native.Mathlib.Omega.{arith}
use Rattle.witness_above.proofs.Going.{go_after, no_role_turned, role_turned, roles_turned}
use Rattle.witness_above.proofs.turns.turn_edged.Goals as goal

pub loop-next-init : goal.loop-next-init
loop-next-init c = (omega arith, no_role_turned c.requires.go)

pub turn_role-written-requires-clause-go : goal.turn_role-written-requires-clause-go
turn_role-written-requires-clause-go c = go_after c.requires.go c.loop-next.invariant.1.went.turned

pub turn_role-written-requires-clause-edge : goal.turn_role-written-requires-clause-edge
turn_role-written-requires-clause-edge c = record { is_name = c.requires.name_lt_names; with_role = c.in-Some.ensures.there }

pub loop-next-preserved : goal.loop-next-preserved
loop-next-preserved c = let turn = c.turn_role-written.ensures in
    (omega (arith, c.in-Some.ensures.inside), role_turned c.requires.go c.loop-next.invariant.1 c.in-Some.ensures (turn.went, turn.quiet))

pub returns : goal.returns
returns c = record {
  went = c.loop-next.invariant.1.went;
  quiet = λ held e r edge. roles_turned c.requires.go c.loop-next.invariant.1 c.in_default.ensures held e r (record { is_name = c.requires.name_lt_names; with_role = edge });
}
