-- The names are asked one after the other, until one has a conjunct that is defined by a conjunction.
use Rattle.std.proofs.Common.{rules, tests, refl, arith}
use Rattle.std.proofs.lemmas.Iterator.{cases_from_any, YieldsList-from_range}
use Rattle.release.proofs.DefinedParts.{HasPartDefined, some_told}
use Rattle.release.proofs.conjuncts.some_part_defined.Goals as goal

pub returns : goal.returns
returns c =
    let D = HasPartDefined c.args.terminology.now.file.now c.args.terminology.now.table.now in
    some_told _ (cases_from_any _ _ _ D (λ x. D x → ⊥) c.any.ensures.ran (YieldsList-from_range 0 c.args.names c.args.names refl (omega arith))
    (λ x q k. search (rules, tests)) (λ x q k. search (rules, tests)))
