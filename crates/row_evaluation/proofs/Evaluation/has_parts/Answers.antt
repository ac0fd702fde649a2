-- `Evaluation::has_parts` meets its contract: the conjuncts are asked one after the other, until row k does not have one.
use Rattle.std.proofs.Common.{rules, tests, ℕ}
use native.Mathlib.Omega.{arith}
use Rattle.el.proofs.Tests.{tells_as}
use Rattle.release.proofs.PartTests.{callable, tells_each}
use Rattle.row_evaluation.specs.Cells.{Holds}
use Rattle.row_evaluation.proofs.StayingAbove.{kind_2_joins}
use Rattle.row_evaluation.proofs.Evaluation.has_parts.Goals as goal

pub all-requires-clause-callable : goal.all-requires-clause-callable
all-requires-clause-callable c = callable c.parts.ensures (λ y q k. search (rules, tests)) (λ i y l e a b d f k m n o p.
    (c.requires.room, omega (arith, e, c.requires.shaped.part _ i c.requires.joint.0 (kind_2_joins c.requires.joint.1) l)))

pub returns : goal.returns
returns c =
    let D = λ (y : ℕ). Holds c.args.work.now c.args.self.now.base c.args.self.now.square.names c.args.k y in
    tells_as (λ z. record { each = z.at }) (λ z. record { at = z.each })
    (tells_each D c.parts.ensures c.all.ensures.ran (λ y q k. search (rules, tests)) (λ y q k. search (rules, tests)))
