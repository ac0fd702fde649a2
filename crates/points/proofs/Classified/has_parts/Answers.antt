-- `has_parts` meets its contract: the conjuncts are asked one after the other, until one is not set.
use Rattle.std.proofs.Common.{rules, tests, ℕ}
use native.Mathlib.Omega.{arith}
use Rattle.el.proofs.Tests.{tells_as}
use Rattle.release.proofs.PartTests.{callable, tells_each}
use Rattle.points.specs.Grids.{Set}
use Rattle.points.proofs.Raising.{kind_2_joins}
use Rattle.points.proofs.Classified.has_parts.Goals as goal

pub all-requires-clause-callable : goal.all-requires-clause-callable
all-requires-clause-callable c = callable c.parts.ensures (λ y q k. search (rules, tests)) (λ i y l e a b d f k m n.
    let ranges = c.requires.ranges in
    (c.requires.row, omega (arith, e, ranges.few, ranges.shaped.part _ i c.requires.name (kind_2_joins c.requires.kind) l)))

pub returns : goal.returns
returns c =
    let D = λ (y : ℕ). Set c.args.above.now c.args.root y in
    tells_as (λ z. record { each = z.at }) (λ z. record { at = z.each })
    (tells_each D c.parts.ensures c.all.ensures.ran (λ y q k. search (rules, tests)) (λ y q k. search (rules, tests)))
