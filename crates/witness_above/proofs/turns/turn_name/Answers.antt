-- `turns::turn_name` meets its contract: the line is what lies below the name by the second release.
use Rattle.witness_above.proofs.NameTurns.{name_row_asks, name_asks, name_idle, name_turned}
use Rattle.witness_above.proofs.turns.turn_name.Goals as goal

pub returns-in_default : goal.returns-in_default
returns-in_default c = name_idle c.requires c.clear_line.ensures c.line_name.ensures c.in_default.ensures

pub put_row-requires : goal.put_row-requires
put_row-requires c = let asks = name_row_asks c.requires in record { inside = asks.0; narrow = asks.1 }

pub join_all-requires : goal.join_all-requires
join_all-requires c = name_asks c.requires c.clear_line.ensures c.line_name.ensures c.in-Some.ensures c.put_row.ensures

pub returns : goal.returns
returns c = name_turned c.requires c.clear_line.ensures c.line_name.ensures c.in-Some.ensures c.put_row.ensures c.join_all.ensures
