-- Hints change no mark; first marks and what follows from them are by the rules, the passes after it end with none left to put: such marks are
-- exactly the pairs that are lost.
use Rattle.marks.proofs.Passes.{closed_further, kept_grows}
use Rattle.forward.proofs.Tested.{seen_stays, follows_grows}
use Rattle.forward.proofs.Meaning.{forwarded}
use Rattle.forward.specs.Rules.{setting_stays}
use Rattle.forward.proofs.mark_in_order.Goals as goal

pub begin-requires : goal.begin-requires
begin-requires c = seen_stays c.list.ensures c.requires

pub deal_with_all-requires : goal.deal_with_all-requires
deal_with_all-requires c = setting_stays c.begin.ensures (seen_stays c.list.ensures c.requires)

pub close-requires : goal.close-requires
close-requires c = setting_stays c.deal_with_all.ensures (setting_stays c.begin.ensures (seen_stays c.list.ensures c.requires))

pub returns : goal.returns
returns c =
    let passes = closed_further c.begin.ensures (closed_further (follows_grows c.deal_with_all.ensures) c.close.ensures) in
    record { of_releases = λ g s t handed comparing. forwarded handed comparing (closed_further (kept_grows c.list.ensures) passes) }
