-- The conjuncts are asked one after the other, until one is not marked.
use Rattle.std.proofs.Common.{rules, tests, ℕ}
use mathlib.Core.Path.{refl}
use Rattle.el.proofs.Tests.{tells_as}
use Rattle.release.proofs.PartWalks.{has_parts}
use Rattle.release.proofs.PartTests.{callable, tells_each}
use Rattle.marks.specs.Squares.{Marked}
use Rattle.classification.proofs.Marking.{conjunctive, joined, part_small}
use Rattle.classification.proofs.Classification.has_parts.Goals as goal

pub parts-requires : goal.parts-requires
parts-requires c = has_parts (conjunctive c.requires.in_row (joined refl c.requires.kind))

pub all-requires-clause-callable : goal.all-requires-clause-callable
all-requires-clause-callable c = callable c.parts.ensures (λ y q k. search (rules, tests))
    (λ i y l e a b d f g h k m n o. (c.requires.in_row.setting.room, (c.requires.in_row.row, part_small c.requires.in_row (joined refl c.requires.kind) l e)))

pub returns : goal.returns
returns c =
    let D = λ (y : ℕ). Marked c.args.self.now.square c.args.work.now c.args.x y in
    tells_as (λ z. record { kind = c.requires.kind; parts = record { at = λ i l. record { is = z.at i l } } }) (λ z. record { at = λ i l. (z.parts.at i l).is })
    (tells_each D c.parts.ensures c.all.ensures.ran (λ y q k. search (rules, tests)) (λ y q k. search (rules, tests)))
