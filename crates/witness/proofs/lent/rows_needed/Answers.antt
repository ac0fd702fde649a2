-- `rows_needed` meets its contract: for so few names the product is small.
use mathlib.Core.Path.{refl}
use Rattle.concept_rows.specs.Lent.{rows_needed}
use Rattle.witness.proofs.Judgements.{cube_small}
use Rattle.witness.proofs.lent.rows_needed.Goals as goal

pub returns : goal.returns
unfolding rows_needed
returns c = (refl, cube_small c.args.names c.requires)
