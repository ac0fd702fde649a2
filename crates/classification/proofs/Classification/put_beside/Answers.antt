-- Row y goes to row x by the rule for a node between.
use Rattle.marks.proofs.Passes.{grows_further}
use Rattle.classification.proofs.Marking.{setting_stays, row_grows}
use Rattle.classification.proofs.Classification.put_beside.Goals as goal

pub hand_over-requires : goal.hand_over-requires
hand_over-requires c = let h = c.requires in record { room = h.setting.room; c_le_names = (h.column, h.row) }

pub put_gathered-requires : goal.put_gathered-requires
put_gathered-requires c = let h = c.requires in record { setting = setting_stays (row_grows h.marked h.column c.hand_over.ensures) h.setting; row = h.row; name = c.if-y-self.true }

pub returns-then-y-self : goal.returns-then-y-self
returns-then-y-self c = let h = c.requires in grows_further (row_grows h.marked h.column c.hand_over.ensures) c.put_gathered.ensures

pub returns-else-y-self : goal.returns-else-y-self
returns-else-y-self c = let h = c.requires in row_grows h.marked h.column c.hand_over.ensures
