-- Passes until one is quiet: what it looked at is then finished.
use native.Mathlib.Omega.{arith}
use Rattle.marks.specs.Passes.{none}
use Rattle.marks.proofs.Passes.{grows_further, grows_wider, unset_falls, pass_closed}
use Rattle.marks.proofs.rules.close.Goals as goal

pub loop-work-init : goal.loop-work-init
loop-work-init g c = none

pub pass-requires : goal.pass-requires
pass-requires g c = g.met.R.Rules.stays _ _ _ c.loop-work.invariant c.requires

pub wait_for_new-requires : goal.wait_for_new-requires
wait_for_new-requires g c = g.met.R.Rules.stays _ _ _ (grows_further c.loop-work.invariant c.pass.ensures.grows) c.requires

pub deal_with_all-requires : goal.deal_with_all-requires
deal_with_all-requires g c = g.met.R.Rules.stays _ _ _
    (grows_further (grows_further c.loop-work.invariant c.pass.ensures.grows) (grows_wider (g.met.R.Rules.wider _) c.wait_for_new.ensures)) c.requires

pub loop-work-smaller : goal.loop-work-smaller
loop-work-smaller g c = omega (arith, unset_falls c.wait_for_new.ensures, unset_falls c.deal_with_all.ensures, c.pass.ensures.fewer c.loop-work-test.true)

pub loop-work-preserved : goal.loop-work-preserved
loop-work-preserved g c =
    grows_further c.loop-work.invariant (grows_further c.pass.ensures.grows (grows_wider (g.met.R.Rules.wider _) (grows_further c.wait_for_new.ensures c.deal_with_all.ensures)))

pub returns : goal.returns
returns g c = pass_closed c.loop-work.invariant c.pass.ensures c.loop-work-test.false
