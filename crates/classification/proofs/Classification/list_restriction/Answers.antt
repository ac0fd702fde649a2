-- The filler is a node, so that the hint has a place.
use native.Mathlib.Omega.{arith}
use Rattle.classification.proofs.Marking.{shaped_row}
use Rattle.classification.proofs.Classification.list_restriction.Goals as goal

pub filler-filler-requires : goal.filler-filler-requires
filler-filler-requires c = shaped_row c.requires.listable.shaped c.requires.restriction.0

pub put_hint-requires : goal.put_hint-requires
put_hint-requires c = record {
  area = c.requires.listable.area;
  le_k = (
    omega arith,
    omega arith,
    omega (arith, c.filler-filler.ensures, c.requires.listable.shaped.filler _ c.requires.restriction.0 c.requires.restriction.1),
    omega (arith, c.requires.restriction.0),
  );
}

pub returns : goal.returns
returns c = c.put_hint.ensures
