-- Memory is prepared, marked and set to 0 again.
use Rattle.comparison.proofs.Pipeline.{given_in, compared}
use Rattle.comparison.proofs.Releases.compare_tables.Goals as goal

pub write_marked-requires : goal.write_marked-requires
write_marked-requires c =
    let prepared = c.prepare.ensures in
    record { given = given_in prepared.long c.requires.given; ready = prepared.ready; names_in_bounds = c.requires.names_in_bounds; edges_in_bounds = c.args.self.now.few }

pub returns : goal.returns
returns c = compared c.prepare.ensures c.write_marked.ensures (rw c.work_length.ensures.0 at c.clear.ensures)
