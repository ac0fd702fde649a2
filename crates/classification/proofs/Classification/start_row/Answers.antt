-- The name is marked in its own row by then, so that its conjuncts may be.
use mathlib.Core.Path.{sym, ◌∙◌}
use Rattle.marks.proofs.Passes.{grows_further}
use Rattle.classification.proofs.Marking.{setting_stays, shaped_row}
use Rattle.classification.proofs.Classification.start_row.Goals as goal

pub seed-requires : goal.seed-requires
seed-requires c = record { room = c.requires.setting.room; x_le_names = c.requires.x_le_names }

pub is_conjunction-requires : goal.is_conjunction-requires
is_conjunction-requires c = shaped_row c.requires.setting.shaped c.if-x-self.true

pub mark_parts-requires : goal.mark_parts-requires
mark_parts-requires c = record {
  source = record {
    in_row = record { setting = setting_stays (c.seed.ensures.pass _ _).grows c.requires.setting; row = c.requires.x_le_names; name = c.if-x-self.true };
    marked = c.seed.ensures.itself;
  };
  b_value = sym c.is_conjunction.ensures ∙ c.if-is_conjunction.true;
}

pub returns-then-is_conjunction : goal.returns-then-is_conjunction
returns-then-is_conjunction c = grows_further (c.seed.ensures.pass _ _).grows c.mark_parts.ensures.grows

pub returns-else-x-self : goal.returns-else-x-self
returns-else-x-self c = (c.seed.ensures.pass _ _).grows
