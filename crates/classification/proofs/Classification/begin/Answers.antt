-- Each step puts marks by the rules, so that what was asked stays.
use native.Mathlib.Omega.{arith}
use Rattle.marks.proofs.Passes.{grows_further}
use Rattle.classification.proofs.Marking.{setting_stays}
use Rattle.classification.proofs.Classification.begin.Goals as goal

pub start_top-some-requires : goal.start_top-some-requires
start_top-some-requires c = setting_stays c.start.ensures c.requires

pub sort-requires-clause-room : goal.sort-requires-clause-room
sort-requires-clause-room c = (setting_stays (grows_further c.start.ensures c.start_top-some.ensures) c.requires).room

pub hand_on_rows-requires : goal.hand_on_rows-requires
hand_on_rows-requires c = setting_stays (grows_further c.start.ensures c.start_top-some.ensures) c.requires

pub hand_on_row-requires : goal.hand_on_row-requires
hand_on_row-requires c = record { setting = setting_stays (grows_further (grows_further c.start.ensures c.start_top-some.ensures) c.hand_on_rows.ensures) c.requires; node_le_names = omega arith }

pub returns-then-some : goal.returns-then-some
returns-then-some c = grows_further (grows_further (grows_further c.start.ensures c.start_top-some.ensures) c.hand_on_rows.ensures) c.hand_on_row.ensures

pub returns-else-some : goal.returns-else-some
returns-else-some c = grows_further (grows_further c.start.ensures c.start_top-some.ensures) c.hand_on_rows.ensures
