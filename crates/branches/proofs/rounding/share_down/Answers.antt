-- `share_down` meets its contract: by whether a name is chosen.
use Rattle.std.proofs.Common.{◌∙◌}
use Rattle.branches.proofs.Shares.{share_divided}
use Rattle.branches.proofs.rounding.share_down.Goals as goal

pub returns : goal.returns
returns c = c.unwrap_or.ensures ∙ share_divided c.args.reported c.args.chosen c.checked_div.result c.checked_div.ensures
