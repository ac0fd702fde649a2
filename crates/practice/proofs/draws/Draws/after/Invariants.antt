-- `after` meets its contract: so many draws are made.
use Rattle.std.proofs.Common.{◌≡◌}
use Rattle.practice.specs.Draws.{after_draws}
use Rattle.practice.proofs.draws.Draws.after.Given as goal

abbrev pub invariant-loop-draw : goal.invariant-loop-draw
invariant-loop-draw l = l.later.state ≡ after_draws l._draw l.initial.later.state
