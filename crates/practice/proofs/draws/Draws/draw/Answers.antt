-- `draw` meets its contract: 32-bit steps compute the next state.
use Rattle.std.proofs.Common.{ℕ, ◌/◌, ◌%◌, ap}
use Rattle.practice.specs.Draws.{drawn}
use Rattle.practice.proofs.Choices.{state_after}
use Rattle.practice.proofs.draws.Draws.draw.Goals as goal

pub returns-clause-state : goal.returns-clause-state
returns-clause-state c = state_after c.args.self.now.state

pub returns-clause-choice : goal.returns-clause-choice
unfolding drawn
returns-clause-choice c = ap (λ (s : ℕ). s / 65536 % c.args.choices) (state_after c.args.self.now.state)
