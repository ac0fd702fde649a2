-- The conjuncts are asked one after the other, until one is defined by a conjunction.
use Rattle.std.proofs.Common.{rules, tests, ◌≡◌, ℕ}
use Rattle.el.proofs.Tests.{tells_as}
use Rattle.release.specs.Tables.{kind_at}
use Rattle.release.proofs.DefinedParts.{has_row}
use Rattle.release.proofs.PartTests.{callable, tells_some}
use Rattle.release.proofs.conjuncts.part_defined.Goals as goal

pub any-requires-clause-callable : goal.any-requires-clause-callable
any-requires-clause-callable c = callable c.parts.ensures (λ y q k. search (rules, tests))
    (λ i y l e a b d f k m. has_row _ _ _ _ c.requires.shaped (rw e (c.requires.shaped.part _ _ c.requires.is_name c.requires.is_conjunctive l)))

pub returns : goal.returns
returns c =
    let D = λ (y : ℕ). kind_at c.args.terminology.now.table.now y ≡ 2 in
    tells_as (λ z. record { at = z.index; among = z.among; is_defined = z.holds }) (λ z. record { index = z.at; among = z.among; holds = z.is_defined })
    (tells_some D c.parts.ensures c.any.ensures.ran (λ y q k. search (rules, tests)) (λ y q k. search (rules, tests)))
