-- The marks that names give, and those of all rows: all are steps of the rules.
use Rattle.marks.proofs.Passes.{grows_further}
use Rattle.forward.specs.Rules.{setting_stays}
use Rattle.forward.proofs.Tested.{named, name_grows, follows_grows}
use Rattle.forward.proofs.propagation.begin.Goals as goal

pub mark_names-requires : goal.mark_names-requires
mark_names-requires c = named c.requires

pub first_rows-requires-clause-setting : goal.first_rows-requires-clause-setting
first_rows-requires-clause-setting c = setting_stays c.mark_names.ensures c.requires

pub returns : goal.returns
returns c = grows_further (name_grows c.mark_names.ensures) (follows_grows c.first_rows.ensures)
