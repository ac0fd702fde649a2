-- The conjuncts of x are asked one after the other, as long as they are marked with y.
use Rattle.std.proofs.Common.{rules, refl, tests, arith, ℕ}
use Rattle.el.proofs.Tests.{tells_as}
use Rattle.release.proofs.PartWalks.{has_parts}
use Rattle.release.proofs.PartTests.{callable, tells_each}
use Rattle.marks.specs.Squares.{Marked}
use Rattle.layout.specs.Layouts.{mark_square}
use Rattle.backward.proofs.rules.all_parts_lost.Goals as goal

pub parts-requires : goal.parts-requires
parts-requires c = has_parts (record { shaped = c.requires.shaped; is_name = c.requires.x_lt_names.0; is_conjunctive = rw c.requires.x_lt_names.2 refl })

pub all-requires-clause-callable : goal.all-requires-clause-callable
all-requires-clause-callable c = callable c.parts.ensures (λ y q k. search (rules, tests)) (λ i y l e a b d f k m n o p q.
    let within = c.requires.shaped.part _ i c.requires.x_lt_names.0 (rw c.requires.x_lt_names.2 refl) l in
    rw c.mark_square-marks.ensures (c.requires.room, (omega (arith, e, within), c.requires.x_lt_names.1)))

pub returns : goal.returns
returns c =
    let D = λ (part : ℕ). Marked (mark_square c.args.given.now.layout) c.args.work.now part c.args.y in
    tells_as (λ z. record { at = λ i l. record { marked = z.at i l } }) (λ z. record { at = λ i l. (z.at i l).marked })
    (tells_each D c.parts.ensures c.all.ensures.ran (λ y q k. search (rules, tests)) (λ y q k. search (rules, tests)))
