-- What is seen of row x changes no mark; then its marks are handed down and its edges looked at, both by the rules.
use Rattle.marks.proofs.Passes.{grows_further, kept_grows}
use Rattle.forward.specs.Rules.{setting_stays}
use Rattle.forward.proofs.Tested.{seen_stays, above_grows}
use Rattle.forward.proofs.consequences.deal.Goals as goal

pub lose_edges-requires-clause-setting : goal.lose_edges-requires-clause-setting
lose_edges-requires-clause-setting c =
    let seen = rw c.mark_square-marks.ensures at c.see-fresh.ensures.0 in
    setting_stays c.hand_down.ensures (seen_stays seen c.requires.setting)

pub returns : goal.returns
returns c =
    let seen = rw c.mark_square-marks.ensures at c.see-fresh.ensures.0 in
    grows_further (kept_grows seen) (grows_further (above_grows c.hand_down.ensures) c.lose_edges.ensures)
