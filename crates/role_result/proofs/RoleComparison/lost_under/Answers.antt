-- What serves for a role in the first release alone.
use Rattle.role_result.proofs.Pairs.{lost_in}
use Rattle.role_result.proofs.RoleComparison.lost_under.Goals as goal

pub returns : goal.returns
returns c = lost_in _ c.under.ensures c.under-2.ensures c.without.ensures
