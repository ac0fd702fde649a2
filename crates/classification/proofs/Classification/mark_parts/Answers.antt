-- A pass that has finished the conjuncts given so far.
use Rattle.release.proofs.PartWalks.{has_parts, begun, item, among, gone_on, ended}
use Rattle.marks.proofs.Passes.{room_stays, turns_none, turn_both}
use Rattle.classification.proofs.Marking.{conjunctive, part_small, part_pass, source_stays}
use Rattle.classification.proofs.Classification.mark_parts.Goals as goal

pub parts-part-items-requires : goal.parts-part-items-requires
parts-part-items-requires c = has_parts (conjunctive c.requires.source.in_row c.requires.b_value)

pub loop-part-init : goal.loop-part-init
loop-part-init c = begun c.parts-part-items.ensures c.into_iter-part-iterator.ensures.into_iter_gives turns_none

pub mark-new-requires : goal.mark-new-requires
mark-new-requires c = let h = c.requires.source.in_row in let p = c.loop-part.invariant in let given = c.in-Some.ensures.steps in record {
  room = room_stays p.kept.grows h.setting.room;
  x_le_names = (h.row, part_small h c.requires.b_value (among p given) (item p given));
}

pub loop-part-preserved : goal.loop-part-preserved
loop-part-preserved c =
    let p = c.loop-part.invariant in let given = c.in-Some.ensures.steps in
    gone_on p given (turn_both p.kept (part_pass (source_stays p.kept.grows c.requires.source) c.requires.b_value (among p given) (item p given) c.mark-new.ensures))

pub returns : goal.returns
returns c = ended c.loop-part.invariant c.in-None.ensures.steps
