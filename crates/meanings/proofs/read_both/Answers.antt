-- `read_both` meets its contract: what two releases share is told of what reading them answers.
use Rattle.meanings.proofs.Judging.{limited, both_read}
use Rattle.meanings.proofs.read_both.Goals as goal

pub agree-requires : goal.agree-requires
agree-requires c = limited _ c.read_release-one.ensures

pub returns : goal.returns
returns c = both_read c.read_release-one.ensures c.read_release-two.ensures c.agree.ensures
