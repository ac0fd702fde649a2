-- `passes::chase` meets its contract: the invariant says what holds after the looks so far, of which no more wait than there were.
use native.Mathlib.Omega.{arith}
use Rattle.witness_below.proofs.Going.{traced}
use Rattle.witness_below.proofs.passes.chase.Goals as goal

pub go_on-requires-clause-room : goal.go_on-requires-clause-room
go_on-requires-clause-room c = (traced c.visit-visited.ensures.chased.went.state, record { room = omega (arith, c.requires.2.room, c.loop.invariant.2) })
