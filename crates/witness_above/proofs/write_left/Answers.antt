-- `write_left` meets its contract: a name alone shows the difference; or a reported name's own pair is lost at the end, and the last row shows it.
use native.Mathlib.Omega.{arith}
use Rattle.witness_above.proofs.Whole.{started, go_start, start_room, name_whole, whole}
use Rattle.witness_above.proofs.write_left.Goals as goal

pub put_row-requires : goal.put_row-requires
put_row-requires c = record { inside = start_room c.requires.write.start; narrow = omega (arith, c.in-Some.ensures.is_name, c.args.given.now.layout.few) }

pub returns-in-Some : goal.returns-in-Some
returns-in-Some c = name_whole c.requires.write c.in-Some.ensures c.put_row.ensures

pub close-requires-clause-go : goal.close-requires-clause-go
close-requires-clause-go c = go_start c.requires.write (started c.requires.write.start c.reach.ensures)

pub returns : goal.returns
returns c = whole c.requires.write (started c.requires.write.start c.reach.ensures) c.close.ensures
