-- Each turn puts marks that follow, which the rules allow.
use Rattle.marks.specs.Passes.{none}
use Rattle.marks.proofs.Passes.{grows_further, grows_wider}
use Rattle.marks.proofs.rules.deal_with_all.Goals as goal

pub loop-init : goal.loop-init
loop-init g c = none

pub returns-then-names-x : goal.returns-then-names-x
returns-then-names-x g c = c.loop.invariant

pub deal-requires-clause-setting : goal.deal-requires-clause-setting
deal-requires-clause-setting g c = g.met.R.Rules.stays _ _ _ (grows_wider (g.met.R.Rules.wider _) c.loop.invariant) c.requires

pub deal-requires-clause-row : goal.deal-requires-clause-row
deal-requires-clause-row g c = rw c.marks-names.ensures at c.if-names-x.false

pub loop-preserved : goal.loop-preserved
loop-preserved g c = grows_further c.loop.invariant c.deal.ensures

pub returns : goal.returns
returns g c = c.loop.invariant
