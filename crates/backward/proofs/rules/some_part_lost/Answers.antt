-- The conjuncts of y are asked one after the other, until x is marked with one.
use Rattle.std.proofs.Common.{rules, refl, tests, arith, ℕ}
use Rattle.el.proofs.Tests.{tells_as}
use Rattle.release.proofs.PartWalks.{has_parts}
use Rattle.release.proofs.PartTests.{callable, tells_some}
use Rattle.marks.specs.Squares.{Marked}
use Rattle.layout.specs.Layouts.{mark_square}
use Rattle.backward.proofs.rules.some_part_lost.Goals as goal

pub parts-requires : goal.parts-requires
parts-requires c = has_parts (record { shaped = c.requires.shaped; is_name = c.requires.x_le_names.1; is_conjunctive = rw c.requires.x_le_names.2 refl })

pub any-requires-clause-callable : goal.any-requires-clause-callable
any-requires-clause-callable c = callable c.parts.ensures (λ y q k. search (rules, tests)) (λ i y l e a b d f k m n o p q.
    let within = c.requires.shaped.part _ i c.requires.x_le_names.1 (rw c.requires.x_le_names.2 refl) l in
    rw c.mark_square-marks.ensures (c.requires.room, (c.requires.x_le_names.0, omega (arith, e, within))))

pub returns : goal.returns
returns c =
    let D = λ (part : ℕ). Marked (mark_square c.args.given.now.layout) c.args.work.now c.args.x part in
    tells_as (λ z. record { it = z.index; below = z.among; holds = record { marked = z.holds } }) (λ z. record { index = z.it; among = z.below; holds = z.holds.marked })
    (tells_some D c.parts.ensures c.any.ensures.ran (λ y q k. search (rules, tests)) (λ y q k. search (rules, tests)))
