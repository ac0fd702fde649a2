-- `filler_number` meets its contract: the last number is that of ⊤.
use Rattle.std.proofs.Common.{◌∙◌}
use borrow.Author.Tests.{eq-eqb, ne_eqb}
use Rattle.practice.specs.Practice.{filler_from}
use Rattle.practice.proofs.Practice.filler_number.Goals as goal

pub returns-then-drawn-self : goal.returns-then-drawn-self
unfolding filler_from
returns-then-drawn-self c = c.top.ensures ∙ rw (eq-eqb c.args.drawn c.args.self.now.names c.if-drawn-self.true)

pub returns : goal.returns
unfolding filler_from
returns c = rw (ne_eqb c.args.drawn c.args.self.now.names c.if-drawn-self.false)
