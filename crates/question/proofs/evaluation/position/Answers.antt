-- `position` meets its contract: an outline lies below its concept and above it.
use Rattle.question.proofs.Verdicts.{lying}
use Rattle.question.proofs.evaluation.position.Goals as goal

pub is_below-upward-requires : goal.is_below-upward-requires
is_below-upward-requires c = record {
  world = c.requires.world;
  from = (c.of-outline_below.ensures _ _ _ c.requires.below_text).shape;
  shape = (c.of-outline_above.ensures _ _ _ c.requires.above_text).shape;
}

pub is_below-downward-requires : goal.is_below-downward-requires
is_below-downward-requires c = record {
  world = c.requires.world;
  from = (c.of-outline_above.ensures _ _ _ c.requires.above_text).shape;
  shape = (c.of-outline_below.ensures _ _ _ c.requires.below_text).shape;
}

pub returns : goal.returns
returns c = record {
  lies = λ n m a b below above.
      lying ((c.of-outline_below.ensures n m a below).means _) ((c.of-outline_above.ensures n m b above).means _) c.is_below-upward.ensures c.is_below-downward.ensures c.of.ensures;
}
