-- One pair: where the search finds a partner nothing is left to mark, else the mark is one that the rules allow.
use Rattle.marks.proofs.Squares.{refuted}
use Rattle.marks.proofs.Passes.{pass_none}
use Rattle.forward.proofs.Tested.{role_small, edge_lost, cell_kept, cell_lost}
use Rattle.forward.proofs.partner.look_at_pair.Goals as goal

pub of-asked-requires : goal.of-asked-requires
of-asked-requires c = role_small c.requires.edge

pub returns-then-has_partner : goal.returns-then-has_partner
returns-then-has_partner c = pass_none (cell_kept c.filler-end.ensures (rw c.of-asked.ensures.0 at (c.has_partner.ensures.sound c.if-has_partner.true)))

pub returns : goal.returns
returns c =
    let no_partner = refuted (rw c.of-asked.ensures.0 at c.has_partner.ensures) c.if-has_partner.false in
    cell_lost (edge_lost c.requires.edge c.filler-end.ensures no_partner) (rw c.mark_square-marks.ensures at c.mark.ensures)
