-- `length` meets its contract: the bytes that belong to no name, and then the names in the wanted width.
use mathlib.Core.Path.{◌∙◌}
use native.Mathlib.Omega.{arith}
use Rattle.rewriting.proofs.Lengths.{length_found, length_few, count_few, singles_within}
use Rattle.rewriting.proofs.Stands.{width_few, axioms_counted}
use Rattle.rewriting.proofs.Rewriting.length.Goals as goal

pub overflow_mul-single : goal.overflow_mul-single
overflow_mul-single c = omega (arith, axioms_counted _ c.args.self.now.counts, count_few _ c.args.self.now.accepted)

pub overflow_add-single : goal.overflow_add-single
overflow_add-single c = omega (arith, axioms_counted _ c.args.self.now.counts, count_few _ c.args.self.now.accepted)

pub overflow_sub-numbers : goal.overflow_sub-numbers
overflow_sub-numbers c = omega (arith, axioms_counted _ c.args.self.now.counts, singles_within _ c.args.self.now.accepted)

pub overflow_add-result : goal.overflow_add-result
overflow_add-result c = omega (
  arith,
  axioms_counted _ c.args.self.now.counts,
  count_few _ c.args.self.now.accepted,
  length_few _ c.args.self.now.accepted _ _ (axioms_counted _ c.args.self.now.counts) (c.width.ensures ∙ c.args.self.now.version) c.width-2.result
      (omega (arith, c.width-2.ensures, width_few c.args.self.now.wanted)),
)

pub returns : goal.returns
returns c = rw (← c.width-2.ensures) (length_found _ c.args.self.now.accepted _ _ (axioms_counted _ c.args.self.now.counts) (c.width.ensures ∙ c.args.self.now.version) _)
