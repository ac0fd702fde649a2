-- Only hints change.
use native.Mathlib.Omega.{arith}
use Rattle.marks.proofs.Squares.{kept_same, kept_further, frame_area}
use Rattle.release.proofs.PartWalks.{has_parts, begun, item, among, gone_on, ended}
use Rattle.classification.proofs.Classification.list_conjunction.Goals as goal

pub parts-part-items-requires : goal.parts-part-items-requires
parts-part-items-requires c = has_parts (record { shaped = c.requires.listable.shaped; is_name = c.requires.conjunction.0; is_conjunctive = c.requires.conjunction.1 })

pub loop-part-init : goal.loop-part-init
loop-part-init c = begun c.parts-part-items.ensures c.into_iter-part-iterator.ensures.into_iter_gives kept_same

pub put_hint-requires : goal.put_hint-requires
put_hint-requires c =
    let p = c.loop-part.invariant in let given = c.in-Some.ensures.steps in
    let small = c.requires.listable.shaped.part _ p.index c.requires.conjunction.0 c.requires.conjunction.1 (among p given) in
    record {
      area = frame_area p.kept.extends.frame c.requires.listable.area;
      le_k = (omega arith, omega arith, omega (arith, item p given, small), omega (arith, c.requires.conjunction.0));
    }

pub loop-part-preserved : goal.loop-part-preserved
loop-part-preserved c = gone_on c.loop-part.invariant c.in-Some.ensures.steps (kept_further c.loop-part.invariant.kept c.put_hint.ensures)

pub returns : goal.returns
returns c = ended c.loop-part.invariant c.in-None.ensures.steps
